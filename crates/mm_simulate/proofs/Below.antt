-- One function in any program that holds it: where all functions keep the correspondence at every clock below n, it does at n.
use Rattle.std.proofs.Common.{◌≡◌, ℕ, zero, suc, ◌<◌, ◌≤◌, List, length, refl, sym, ap, subst, ◌∙◌, arith}
use Rattle.std.specs.Prelude.{Bool, true, false, IsTrue, Some, slice_get, if◌then◌else◌, nat_lt}
use Rattle.mm_meaning.specs.Run.{Stops}
use Rattle.mm_core.specs.Tree.{Stmt, Function, Program}
use Rattle.mm_core.specs.Heads.{is_open, argument_types}
use Rattle.mm_core.specs.State as source
use Rattle.mm_core.specs.State.{Value, State}
use Rattle.mm_core.specs.Virtual.{Calls}
use Rattle.mm_core.specs.Meaning.{call_of, enter_if, setting_of, enter}
use Rattle.mm_meaning.specs.Same.{Same, Leaves}
use Rattle.mm_core.specs.Valid.{IsValidStmt}
use Rattle.mm_core.specs.ValidProgram.{around, numbers_below}
use Rattle.mm_core.specs.Fits.{AllFit, IsState}
use Rattle.mm_core.proofs.Congruent.{enter_law}
use Rattle.mm_core.proofs.Deep as deep_source
use Rattle.mm_core.specs.Keeps.{Known, inside}
use Rattle.mm_c.specs.declared.value.CValue.{CValue}
use Rattle.mm_c.specs.declared.tree.CKind.{CKind}
use Rattle.mm_c.specs.Tree as tree
use Rattle.mm_c.specs.CMeaning as c
use Rattle.mm_c.proofs.Deep as deep_c
use Rattle.mm_agree.specs.Agree.{Layout, both_stop, all_in_c, States, Alike, CallsAgree, HasPrelude}
use Rattle.mm_simulate.specs.Lowered.{lowered_fn, IsLoweredStmt}
use Rattle.mm_simulate.specs.Simulates.{source_now, Named, KeepsAt}
use Rattle.mm_simulate.proofs.Functions.{function_agrees}

module _ (p : Program) (l : Layout) (callable : Function → Bool) (name : ℕ → List ℕ) (q : tree.Program) (named : Named p callable name q) (n : ℕ) where
  -- calls at the clocks below n alone
  abbrev pub calls_below : Calls
  calls_below f vs s k = if nat_lt k n then source_now p f vs s k else Stops source.Spent s

  abbrev steps_below : c.Steps
  steps_below F vs u k = if nat_lt k n then c.now q F vs u k else Stops c.Spent u

  abbrev around_below : c.Around
  around_below = c.around_all q steps_below

  has_prelude : HasPrelude around_below
  has_prelude = record { put = λ vs. refl; get = λ vs. refl; more = λ vs. refl; trap = λ vs. refl; new = λ vs. refl }

  called : (i : ℕ) (f : Function) (vs : List CValue) → slice_get p.functions i ≡ Some f → is_open f ≡ false → IsTrue (callable f) → around_below.call (name i) vs ≡ steps_below (named.function i) vs
  called i f vs e closed ok = ap (λ o. c.any_callee q steps_below o vs) (named.called i f e closed ok) ∙ ap (λ (z : Bool). if z then c.enter (c.around_of q (c.plain_calls q steps_below)) (named.function i) vs else steps_below (named.function i) vs) (named.plain i)

  module _ (below : (k i : ℕ) (f : Function) → k < n → slice_get p.functions i ≡ Some f → is_open f ≡ false → IsTrue (callable f) → KeepsAt p l q k i f (named.function i)) where
    cut : (b : Bool) (i k : ℕ) (f : Function) (vs : List Value) (s : State) (u : c.State) → nat_lt k n ≡ b → slice_get p.functions i ≡ Some f → is_open f ≡ false → IsTrue (callable f) → AllFit p.classes s.objects (argument_types p.classes f) vs → IsState p.classes s → States p.classes l s u → Alike p.classes l f.result (if b then source_now p i vs s k else Stops source.Spent s) (if b then c.now q (named.function i) (all_in_c l s.objects vs) u k else Stops c.Spent u)
    cut true i k f vs s u e at closed ok fits is states = (below k i f (grind arith) at closed ok).by vs s u fits is states
    cut false i k f vs s u e at closed ok fits is states = both_stop states.world

    calls_below_agree : CallsAgree p l callable name (λ k. Unit {0}) calls_below around_below
    calls_below_agree = record { by = λ i f vs s u k when at closed ok fits is states. rw (called i f (all_in_c l s.objects vs) at closed ok) (cut (nat_lt k n) i k f vs s u refl at closed ok fits is states) }

-- ---- up to the clock, such calls are the calls themselves

module _ (p : Program) (k : ℕ) where
  source_cut : (f : ℕ) (vs : List Value) → Same k (λ s j. if nat_lt j (suc k) then source_now p f vs s j else Stops source.Spent s) (call_of p k f vs)
  source_cut f vs = record { by = λ s j le. at s j le (nat_lt j (suc k)) refl }
    where
      at : (s : State) (j : ℕ) → j ≤ k → (b : Bool) → nat_lt j (suc k) ≡ b → ((if b then source_now p f vs s j else Stops source.Spent s) ≡ call_of p k f vs s j) × Leaves j (if b then source_now p f vs s j else Stops source.Spent s)
      at s j le true e = (deep_source.calls_same p j j k f vs (omega arith) le).by s j (omega arith)
      at s j le false e = absurd (let z : ⊥ = grind arith in z)

module _ (q : tree.Program) (k : ℕ) where
  c_cut : (F : tree.Function) (vs : List CValue) → Same k (λ u j. if nat_lt j (suc k) then c.now q F vs u j else Stops c.Spent u) (c.now q F vs)
  c_cut F vs = record { by = λ u j le. at u j le (nat_lt j (suc k)) refl }
    where
      at : (u : c.State) (j : ℕ) → j ≤ k → (b : Bool) → nat_lt j (suc k) ≡ b → ((if b then c.now q F vs u j else Stops c.Spent u) ≡ c.now q F vs u j) × Leaves j (if b then c.now q F vs u j else Stops c.Spent u)
      at u j le true e = (deep_c.now_itself q k F vs).by u j le
      at u j le false e = absurd (let z : ⊥ = grind arith in z)

module _ (p : Program) (l : Layout) (callable : Function → Bool) (name : ℕ → List ℕ) (q : tree.Program) (named : Named p callable name q) (i : ℕ) (f : Function) (body : Stmt) (at : slice_get p.functions i ≡ Some f) (has_body : f.body ≡ Some body) (low : IsLoweredStmt (around callable p f) body) (valid : IsValidStmt (around callable p f) f.result false (numbers_below (length (argument_types p.classes f))) body) (public : Bool) (ds : List (CKind × ℕ)) where
  abbrev F : tree.Function
  F = lowered_fn (around callable p f) l name i public f body ds

  -- the simulation of one function, by the clock
  pub keeps : (n : ℕ) → Known (inside p callable (calls_below p l callable name q named n) f) → ((k j : ℕ) (h : Function) → k < n → slice_get p.functions j ≡ Some h → is_open h ≡ false → IsTrue (callable h) → KeepsAt p l q k j h (named.function j)) → KeepsAt p l q n i f F
  keeps zero known below = record { by = λ vs s u fits is states. both_stop states.world }
  keeps (suc k) known below = record {
    by = λ vs s u fits is states.
        let calls = calls_below p l callable name q named (suc k) in
        let around' = around_below p l callable name q named (suc k) in
        let agree = calls_below_agree p l callable name q named (suc k) below in
        let alike = function_agrees p callable l name calls around' (has_prelude p l callable name q named (suc k)) f known agree i public body ds low valid vs s u k fits is states in
        let left = (enter_law (λ A x y. Same k x y) (λ A x y. Same k x y) (deep_source.deep k) p calls (call_of p k) (λ h ws. source_cut p k h ws) (slice_get p.functions i) vs).by s k (omega arith) in
        let first : enter_if (setting_of p calls) (slice_get p.functions i) vs s k ≡ enter (setting_of p calls) f body vs s k = rw (at, has_body) refl in
        let right = (deep_c.enter_same k around' (c.around_all q (c.now q)) F (all_in_c l s.objects vs) (deep_c.all_around q k (steps_below p l callable name q named (suc k)) (c.now q) (λ G ws. c_cut q k G ws))).by u k (omega arith) in
        subst (λ x. Alike p.classes l f.result x (c.now q F (all_in_c l s.objects vs) u (suc k))) (sym first ∙ left.0)
        (subst (λ y. Alike p.classes l f.result (enter (setting_of p calls) f body vs s k) y) (right.0 ∙ sym (deep_c.now_step q F (all_in_c l s.objects vs) u k)) alike);
  }
