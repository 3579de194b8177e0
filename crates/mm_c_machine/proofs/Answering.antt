-- What a call of a function of the prelude gives, by what the world answers.
use Rattle.std.proofs.Common.{◌≡◌, ◌≢◌, ℕ, true, List, [], ◌∷◌, Option, Some, None, Result, Ok, Err, refl, sym, ap, ◌∙◌, ◌<◌, length, get_or, arith}
use Rattle.std.specs.Prelude.{ℤ, pos, negsuc, if◌then◌else◌}
use Rattle.mm_base.specs.World.{World, call_builtin}
use Rattle.mm_base.specs.declared.world.Builtin.{Builtin}
use Rattle.mm_base.specs.declared.world.Builtin.TheVariants.{Put, Get, More}
use Rattle.mm_meaning.specs.Run.{Gives, Stops, stop}
use Rattle.mm_c.specs.declared.value.CValue.{CValue}
use Rattle.mm_c.specs.declared.value.CValue.TheVariants.{Int, Unsigned, Long, Null, At}
use Rattle.mm_c.specs.Memory as c
use Rattle.mm_c.specs.CMeaning.{State, Trapped, Stuck, asks, given_call, ask, answered, ints_in, int_in, with_int, trap, stuck}
use Rattle.mm_c_memory.specs.declared.memory.Memory.{Memory}
use Rattle.mm_c_memory.specs.Held.{Holds}
use Rattle.mm_c_machine.specs.declared.prelude.Refusal.{Refusal}
use Rattle.mm_c_machine.specs.declared.prelude.Refusal.TheVariants as refusal
use Rattle.mm_c_machine.specs.declared.prelude.Prelude.TheVariants as prelude
use Rattle.mm_c_machine.specs.Answers.{state, Answers, Asks, PutsInt, are_ints}
use Rattle.std.proofs.lemmas.Bool.{lt-ltb}
use Rattle.mm_c.proofs.Bools.{both}
use Rattle.mm_c_machine.proofs.Ints.{some_ints, first_int, first_is_int, nothing_in}

module _ (m : List c.Block) (held : Memory) (w w' : World) (b : Builtin) (vs : List CValue) where
  asked : (zs ns : List ℤ) → ints_in vs ≡ Some zs → call_builtin b zs w ≡ call_builtin b ns w → (k : ℕ) → given_call (asks b) vs (state m w) k ≡ answered (call_builtin b ns w) (state m w) k
  asked zs ns is same k = ap (λ o. ask b o (state m w) k) is ∙ ap (λ r. answered r (state m w) k) same

  -- the answer to the numbers that were passed on
  pub answers : (result : Result (Option CValue) Refusal) (zs ns : List ℤ) → Holds m held → ints_in vs ≡ Some zs → call_builtin b zs w ≡ call_builtin b ns w → Asks result b ns w w' → Answers result (prelude.Asks b) vs m w held w'
  answers (Ok v) zs ns holds is same h =
      (m, (holds, λ k. asked zs ns is same k ∙ ap (λ r. answered r (state m w) k) h.1.0 ∙ ap (λ q. Gives q (state m w') k) (sym h.1.1)))
  answers (Err (refusal.Trapped t)) zs ns holds is same h =
      (h.0, λ k. asked zs ns is same k ∙ ap (λ r. answered r (state m w) k) h.1.1.0 ∙ ap (λ q. Stops (Trapped q) (state m w)) (sym h.1.1.1))
  answers (Err refusal.Stuck) zs ns holds is same h = absurd h
  answers (Err refusal.NoMemory) zs ns holds is same h = h

  pub not_asked : w' ≡ w → ints_in vs ≡ None → Answers (Err refusal.Stuck) (prelude.Asks b) vs m w held w'
  not_asked e is = (e, λ k. ap (λ o. ask b o (state m w) k) is)

module _ (m : List c.Block) (held : Memory) (w w' : World) (vs : List CValue) where
  pub puts : (result : Result (Option CValue) Refusal) (v : CValue) → Holds m held → are_ints vs ≡ true → 0 < length vs → v ≡ get_or vs 0 v → PutsInt result v w w' → Answers result (prelude.Asks Put) vs m w held w'
  puts result (Int n) holds all lt is h =
      let f = first_int vs (Int n) n all lt (sym is) in
      answers m held w w' Put vs result (n ∷ f.0) (n ∷ []) holds f.1 refl h
  puts result (Unsigned n) holds all lt is h = absurd (first_is_int vs (Unsigned n) all lt (λ z e. let q = is ∙ e in cc))
  puts result (Long n) holds all lt is h = absurd (first_is_int vs (Long n) all lt (λ z e. let q = is ∙ e in cc))
  puts result Null holds all lt is h = absurd (first_is_int vs Null all lt (λ z e. let q = is ∙ e in cc))
  puts result (At b o) holds all lt is h = absurd (first_is_int vs (At b o) all lt (λ z e. let q = is ∙ e in cc))

  pub puts_nothing : Holds m held → length vs ≡ 0 → w' ≡ w → Answers (Ok None) (prelude.Asks Put) vs m w held w'
  puts_nothing holds e same = (m, (holds, λ k. ap (λ o. ask Put o (state m w) k) (nothing_in vs e) ∙ ap (λ q. Gives None (state m q) k) (sym same)))

  pub gets : (result : Result (Option CValue) Refusal) → Holds m held → are_ints vs ≡ true → Asks result Get [] w w' → Answers result (prelude.Asks Get) vs m w held w'
  gets result holds all h = let f = some_ints vs all in answers m held w w' Get vs result f.0 [] holds f.1 refl h

  pub looks : (result : Result (Option CValue) Refusal) → Holds m held → are_ints vs ≡ true → Asks result More [] w w' → Answers result (prelude.Asks More) vs m w held w'
  looks result holds all h = let f = some_ints vs all in answers m held w w' More vs result f.0 [] holds f.1 refl h

trap_at : (vs : List CValue) (d : CValue) (k : ℤ) → length vs ≡ 1 → get_or vs 0 d ≡ Int k → trap (ints_in vs) ≡ trap (Some (k ∷ []))
trap_at [] d k e is = absurd (let x : ⊥ = omega (arith, e) in x)
trap_at (v ∷ []) d k e is = ap (λ q. trap (with_int (int_in q) (Some []))) is
trap_at (v ∷ u ∷ vs) d k e is = absurd (let x : ⊥ = omega (arith, e) in x)

module _ (m : List c.Block) (w : World) where
  pub trapped : (vs : List CValue) (d : CValue) (k : ℤ) (n : ℕ) → length vs ≡ 1 → get_or vs 0 d ≡ Int k → k ≡ pos n → 0 < n → n < 256 → (j : ℕ) → trap (ints_in vs) (state m w) j ≡ Stops (Trapped n) (state m w)
  trapped vs d k n e is at low high j =
      ap (λ f. f (state m w) j) (trap_at vs d k e (is) ∙ ap (λ q. trap (Some (q ∷ []))) at)
      ∙ ap (λ b. (if b then stop (Trapped n) else stuck) (state m w) j) (both _ _ (lt-ltb 0 n low) (lt-ltb n 256 high))

trap_many : (a b : Option ℤ) (c : Option (List ℤ)) (s : State) (k : ℕ) → trap (with_int a (with_int b c)) s k ≡ Stops Stuck s
trap_many None b c s k = refl
trap_many (Some z) None c s k = refl
trap_many (Some z) (Some y) None s k = refl
trap_many (Some (pos z)) (Some y) (Some ys) s k = refl
trap_many (Some (negsuc z)) (Some y) (Some ys) s k = refl

-- other than one argument
pub trap_stuck : (vs : List CValue) → length vs ≢ 1 → (s : State) (k : ℕ) → trap (ints_in vs) s k ≡ Stops Stuck s
trap_stuck [] n s k = refl
trap_stuck (v ∷ []) n s k = absurd (n refl)
trap_stuck (v ∷ u ∷ vs) n s k = trap_many (int_in v) (int_in u) (ints_in vs) s k
