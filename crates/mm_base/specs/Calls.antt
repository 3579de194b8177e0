-- The world in memory, and what a call of a built-in does to it, by its answer.
use Rattle.std.specs.Prelude.{◌≡◌, ℕ, ℤ, List, length, Option, Result, Ok, Err}
use Rattle.mm_base.specs.declared.world.Builtin.{Builtin}
use Rattle.mm_base.specs.declared.world.Builtin.TheVariants.{Put, Get, More}
use Rattle.mm_base.specs.declared.world.WorldEnd.{WorldEnd}
use Rattle.mm_base.specs.declared.world.WorldEnd.TheVariants.{Trap, NoMemory}
use Rattle.mm_base.specs.declared.world.World as memory
use Rattle.mm_base.specs.World.{World, call_builtin}

-- the world that is held in memory
abbrev pub world_view : memory.World → World
world_view w = record { input = w.input.items; taken = w.taken; put = w.put.items }

-- how many arguments a built-in has
abbrev pub arity : Builtin → ℕ
arity Put = 1
arity Get = 0
arity More = 0

abbrev pub IsAskedWith : Builtin → List ℤ → Type 0
IsAskedWith which args = length args ≡ arity which

-- One call: what it gives and the world after it are those of the built-in; after a trap, and after
-- want of memory, which comes only of a put, the world is as before.
abbrev pub Calls : Result (Option ℤ) WorldEnd → Builtin → List ℤ → World → World → Type 0
Calls (Ok given) which args old new = call_builtin which args old ≡ Ok (given, new)
Calls (Err (Trap t)) which args old new = (call_builtin which args old ≡ Err t) × (new ≡ old)
Calls (Err NoMemory) which args old new = (which ≡ Put) × (new ≡ old)
