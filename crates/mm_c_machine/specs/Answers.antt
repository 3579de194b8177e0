-- What a call of a function of the prelude gives.
use Rattle.std.specs.Prelude.{◌≡◌, ℕ, ℤ, Bool, true, false, List, [], ◌∷◌, Option, Result, Ok, Err}
use Rattle.std.specs.List.{list_all}
use Rattle.mm_base.specs.World.{World, call_builtin}
use Rattle.mm_base.specs.Num.{code_of}
use Rattle.mm_base.specs.declared.num.Trap.{Trap}
use Rattle.mm_base.specs.declared.world.Builtin.{Builtin}
use Rattle.mm_base.specs.declared.world.Builtin.TheVariants.{Put}
use Rattle.mm_meaning.specs.Run.{Gives, Stops}
use Rattle.mm_c.specs.declared.value.CValue.{CValue}
use Rattle.mm_c.specs.declared.value.CValue.TheVariants.{Int, Unsigned, Long, Null, At}
use Rattle.mm_c.specs.Memory as c
use Rattle.mm_c.specs.CMeaning.{State, Trapped, Stuck, Given, asks, traps, allocates, given_call, value_of}
use Rattle.mm_c_placed.specs.declared.tree.Callee.{Callee}
use Rattle.mm_c_placed.specs.declared.tree.Callee.TheVariants as callee_is
use Rattle.mm_c_memory.specs.declared.memory.Memory.{Memory}
use Rattle.mm_c_memory.specs.Held.{Holds}
use Rattle.mm_c_machine.specs.declared.prelude.Refusal.{Refusal}
use Rattle.mm_c_machine.specs.declared.prelude.Refusal.TheVariants as refusal
use Rattle.mm_c_machine.specs.declared.prelude.Prelude.{Prelude}
use Rattle.mm_c_machine.specs.declared.prelude.Prelude.TheVariants as prelude

abbrev pub state : List c.Block → World → State
state m w = record { memory = m; world = w }

abbrev pub given_of : Prelude → Given
given_of (prelude.Asks b) = asks b
given_of prelude.Trap = traps
given_of prelude.New = allocates

-- the function of the prelude, as it is called
abbrev pub callee_of : Prelude → Callee
callee_of (prelude.Asks b) = callee_is.Asks b
callee_of prelude.Trap = callee_is.Trap
callee_of prelude.New = callee_is.New

-- what a call does to the memory and the world, by its answer
abbrev pub Answers : Result (Option CValue) Refusal → Prelude → List CValue → List c.Block → World → Memory → World → Type 0
Answers (Ok v) g vs m w held w' = (to : List c.Block) × (Holds to held × ((k : ℕ) → given_call (given_of g) vs (state m w) k ≡ Gives v (state to w') k))
Answers (Err (refusal.Trapped t)) g vs m w held w' = (w' ≡ w) × ((k : ℕ) → given_call (given_of g) vs (state m w) k ≡ Stops (Trapped t) (state m w))
Answers (Err refusal.Stuck) g vs m w held w' = (w' ≡ w) × ((k : ℕ) → given_call (given_of g) vs (state m w) k ≡ Stops Stuck (state m w))
Answers (Err refusal.NoMemory) g vs m w held w' = w' ≡ w

-- what the world answers
abbrev pub Asks : Result (Option CValue) Refusal → Builtin → List ℤ → World → World → Type 0
Asks (Ok v) b zs w w' = (o : Option ℤ) × ((call_builtin b zs w ≡ Ok (o, w')) × (v ≡ value_of o))
Asks (Err (refusal.Trapped k)) b zs w w' = (w' ≡ w) × ((t : Trap) × ((call_builtin b zs w ≡ Err t) × (k ≡ code_of t)))
Asks (Err refusal.Stuck) b zs w w' = ⊥
Asks (Err refusal.NoMemory) b zs w w' = w' ≡ w

-- the put of a value of type `int`
abbrev pub PutsInt : Result (Option CValue) Refusal → CValue → World → World → Type 0
PutsInt result (Int n) w w' = Asks result Put (n ∷ []) w w'
PutsInt result (Unsigned n) w w' = Unit {0}
PutsInt result (Long z) w w' = Unit {0}
PutsInt result Null w w' = Unit {0}
PutsInt result (At b o) w w' = Unit {0}

abbrev pub is_int_value : CValue → Bool
is_int_value (Int z) = true
is_int_value (Unsigned n) = false
is_int_value (Long z) = false
is_int_value Null = false
is_int_value (At b o) = false

abbrev pub are_ints : List CValue → Bool
are_ints = list_all is_int_value
