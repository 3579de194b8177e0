-- A run, from its entry to its end.
use Rattle.std.proofs.Common.{◌≡◌, ◌≢◌, ⊎_elim, ℕ, zero, suc, ◌-◌, ◌<◌, Bool, true, false, List, [], ◌∷◌, length, replicate, Option, Some, None, subst, refl, sym, ap, ◌∙◌, arith, if◌then◌else◌, slice_get}
use Rattle.std.specs.Prelude.{IfOk, Result, Ok, Err}
use Rattle.std.specs.declared.alloc.AllocError.{AllocError}
use Rattle.std.proofs.lemmas.List.{length-replicate}
use Rattle.mm_base.specs.World.{World}
use Rattle.mm_meaning.specs.Run.{Run, Gives, Stops}
use Rattle.mm_meaning.specs.Later.{state_of}
use Rattle.mm_c.specs.declared.value.CValue.{CValue}
use Rattle.mm_c.specs.declared.value.CValue.TheVariants.{Int, Unsigned, Long, Null, At}
use Rattle.mm_c.specs.Memory as c
use Rattle.mm_c.specs.CMeaning.{Stop, Trapped, Spent, Stuck, State, From}
use Rattle.mm_c.specs.CRun.{outcome_of}
use Rattle.mm_c_placed.specs.Tree.{Function, Program}
use Rattle.mm_c_placed.specs.Meaning.{start, enter, given, body_of, end_of, flows_of, at_function, any_entry, now, run_of}
use Rattle.mm_c_placed.specs.Ready.{IsReady}
use Rattle.mm_c_placed.proofs.Deep.{now_step, run_now}
use Rattle.mm_c_memory.specs.declared.memory.Memory.{Memory}
use Rattle.mm_c_memory.specs.Held.{Holds}
use Rattle.mm_c_machine.specs.Answers.{state}
use Rattle.mm_c_machine.specs.State.{Core}
use Rattle.mm_c_machine.specs.Ready.{IsReadyCore}
use Rattle.mm_c_machine.specs.declared.machine.Ending.{Ending}
use Rattle.mm_c_machine.specs.declared.machine.Ending.TheVariants as ending
use Rattle.mm_c_machine.specs.declared.run.End as end_
use Rattle.mm_c_machine.specs.declared.run.End.TheVariants as end
use Rattle.mm_c_machine.specs.Goes.{around, means, Grows, Steps, Ends, HasEnd, HasStop}
use Rattle.mm_c_machine.specs.Runs.{finish_of, EndsAs, end_by, IsFirst}
use Rattle.mm_c_machine.proofs.Frames.{nought, start-zeros}
use Rattle.mm_c_machine.proofs.Moves.{as_before}
use Rattle.mm_c_machine.proofs.Growth.{grows_more}
use Rattle.mm_c_machine.proofs.Giving.{function_fits}

-- what is kept while steps are taken, where so many are left
pub record OnRun (p : Program) (s0 : Core) (held0 : Memory) (w0 : World) (n : ℕ) (s : Core) (held : Memory) (w : World) (k : ℕ) : Type 0 where
  pub way : (m : List c.Block) → Holds m held0 → (to : List c.Block) × (Holds to held × (means p s0 (state m w0) n ≡ means p s (state to w) k))
  pub some : (m : List c.Block) × Holds m held
  pub ready : IsReadyCore s
  pub grows : Grows w0 w

pub run_start : (p : Program) (s : Core) (held : Memory) (w : World) (n : ℕ) → IsReadyCore s → (m : List c.Block) × Holds m held → OnRun p s held w n s held w n
run_start p s held w n h some = record { way = λ m holds. (m, (holds, refl)); some = some; ready = h; grows = as_before w }

pub run_more : (p : Program) (s0 s s' : Core) (held0 held held' : Memory) (w0 w w' : World) (n k : ℕ) → 0 < k → OnRun p s0 held0 w0 n s held w k → ((m : List c.Block) → Holds m held → Steps p s m w s' held' w') → OnRun p s0 held0 w0 n s' held' w' (k - 1)
run_more p s0 s s' held0 held held' w0 w w' n zero some h g = absurd (let x : ⊥ = omega (arith, some) in x)
run_more p s0 s s' held0 held held' w0 w w' n (suc k) some h g =
    let left : suc k - 1 ≡ k = omega arith in
    let here = g h.some.0 h.some.1 in
    rw left (record {
      way = λ m holds. (let a = h.way m holds in let b = g a.0 a.1.0 in (b.to, (b.holds, a.1.1 ∙ b.same k)));
      some = (here.to, here.holds);
      ready = here.ready;
      grows = grows_more w0 w w' h.grows here.grows;
    })

stop_ends : (t : Stop) (w : World) (r : Run Stop State (Option CValue)) (e : end_.End) → HasStop t w r → ((m : List c.Block) → (outcome_of (Stops t (state m w))).finish ≡ finish_of e) → EndsAs e w r
stop_ends t w r e h is = record { finish = ap (λ q. (outcome_of q).finish) h.1 ∙ is h.0; world = ap (λ (q : Run Stop State (Option CValue)). (state_of {S = State} q).world) h.1 }

give_ends : (v : Option CValue) (w : World) (r : Run Stop State (Option CValue)) → HasEnd (ending.Returned v) w r → EndsAs (end_by (ending.Returned v)) w r
give_ends v w r h = record { finish = ap (λ q. (outcome_of q).finish) h.1.1 ∙ go v; world = ap (λ (q : Run Stop State (Option CValue)). (state_of {S = State} q).world) h.1.1 }
  where
    go : (v : Option CValue) → (outcome_of (Gives v (state h.0 w) h.1.0)).finish ≡ finish_of (end_by (ending.Returned v))
    go None = refl
    go (Some (Int z)) = refl
    go (Some (Unsigned n)) = refl
    go (Some (Long z)) = refl
    go (Some Null) = refl
    go (Some (At b o)) = refl

ends_as : (e : Ending) (w : World) (r : Run Stop State (Option CValue)) → HasEnd e w r → EndsAs (end_by e) w r
ends_as (ending.Returned v) w r h = give_ends v w r h
ends_as (ending.Trapped t) w r h = stop_ends (Trapped t) w r (end.Trapped t) h (λ m. refl)
ends_as ending.Stuck w r h = stop_ends Stuck w r end.Stuck h (λ m. refl)

pub run_ends : (p : Program) (s0 s : Core) (held0 held : Memory) (w0 w w' : World) (n k : ℕ) (e : Ending) (d : end_.End) → OnRun p s0 held0 w0 n s held w k → ((m : List c.Block) → Holds m held → Ends p e s m w w') → d ≡ end_by e → (m : List c.Block) → Holds m held0 → EndsAs d w' (means p s0 (state m w0) n)
run_ends p s0 s held0 held w0 w w' n k e d h g is m holds =
    let a = h.way m holds in
    subst (λ q. EndsAs q w' (means p s0 (state m w0) n)) (sym is) (ends_as e w' (means p s0 (state m w0) n) (subst (HasEnd e w') (sym a.1.1) ((g a.0 a.1.0).same k)))

pub run_spent : (p : Program) (s0 s s' : Core) (held0 held held' : Memory) (w0 w w' : World) (n k : ℕ) → k ≡ 0 → OnRun p s0 held0 w0 n s held w k → ((m : List c.Block) → Holds m held → Steps p s m w s' held' w') → (m : List c.Block) → Holds m held0 → EndsAs end.GoesOn w' (means p s0 (state m w0) n)
run_spent p s0 s s' held0 held held' w0 w w' n k e h g m holds =
    let a = h.way m holds in
    stop_ends Spent w' (means p s0 (state m w0) n) end.GoesOn (subst (HasStop Spent w') (sym (a.1.1 ∙ ap (means p s (state a.0 w)) e)) (g a.0 a.1.0).spent) (λ m. refl)

pub run_refused : (p : Program) (s0 s : Core) (held0 held : Memory) (w0 w w' : World) (n k : ℕ) → OnRun p s0 held0 w0 n s held w k → Grows w w' → Grows w0 w'
run_refused p s0 s held0 held w0 w w' n k h g = grows_more w0 w w' h.grows g

-- ---- the entry of `main`

if_true : {A : Type 0} (b : Bool) (y z : A) → b ≡ true → (if b then y else z) ≡ y
if_true true y z e = refl
if_true false y z e = cc

if_false : {A : Type 0} (b : Bool) (y z : A) → b ≡ false → (if b then y else z) ≡ z
if_false true y z e = cc
if_false false y z e = refl

some_params : {A : Type 0} (ks : List A) → length ks ≢ 0 → (k : A) × ((more : List A) × (ks ≡ k ∷ more))
some_params [] n = absurd (n refl)
some_params (k ∷ ks) n = (k, (ks, refl))

module _ (p : Program) (f : Function) (s : Core) (first : IsFirst f s) where
  enters_first : (i : Bool) (st : State) (k : ℕ) → i ≡ f.is_inline → enter (around p i) f [] st k ≡ means p s st k
  enters_first i st k e =
      ⊎_elim
      (λ a.
      ap (λ ks. body_of (around p i) f (given ks []) st k) a.0
      ∙ ap (λ fr. end_of f.result (flows_of (around p i) f.body (record { frame = fr; state = st }) k)) (sym (start-zeros [] f.slots))
      ∙ ap (λ b. end_of f.result (flows_of (around p b) f.body (record { frame = start (replicate f.slots nought); state = st }) k)) e
      ∙ ap (λ q. means p q st k) (sym a.1))
      (λ a.
      let ks = some_params f.params a.0 in
      ap (λ q. body_of (around p i) f (given q []) st k) ks.1.1 ∙ ap (λ q. means p q st k) (sym a.1))
      first

  pub first_ready : IsReady p → (n : ℕ) → slice_get p.functions n ≡ Some f → IsReadyCore s
  first_ready h n there =
      ⊎_elim
      (λ a. subst IsReadyCore (sym a.1) (record { here = rw (length-replicate {A = CValue} f.slots nought) (function_fits p n f h there); after = tt }))
      (λ a. subst IsReadyCore (sym a.1) (record { here = tt; after = tt }))
      first

  main_is : (w : State) (n : ℕ) → slice_get p.functions p.main ≡ Some f → run_of p n w ≡ any_entry p (now p) f [] w n
  main_is w n there = run_now p w n ∙ ap (λ o. at_function (any_entry p (now p)) o [] w n) there

  pub inline_main : (w : State) (n : ℕ) → slice_get p.functions p.main ≡ Some f → f.is_inline ≡ true → run_of p n w ≡ means p s w n
  inline_main w n there i =
      main_is w n there ∙ ap (λ (q : From State (Option CValue)). q w n) (if_true f.is_inline (enter (around p true) f []) _ i)
      ∙ enters_first true w n (sym i)

  pub main_steps : (w : State) (n : ℕ) → slice_get p.functions p.main ≡ Some f → f.is_inline ≡ false → n ≢ 0 → run_of p n w ≡ means p s w (n - 1)
  main_steps w zero there i some = absurd (some refl)
  main_steps w (suc n) there i some =
      let left : suc n - 1 ≡ n = omega arith in
      main_is w (suc n) there ∙ ap (λ (q : From State (Option CValue)). q w (suc n)) (if_false f.is_inline _ (now p f []) i)
      ∙ now_step p f [] w n ∙ enters_first false w n (sym i) ∙ ap (means p s w) (sym left)

pub no_main : (p : Program) (w : World) (n : ℕ) → slice_get p.functions p.main ≡ None → EndsAs end.Stuck w (run_of p n (state [] w))
no_main p w n there =
    let e : run_of p n (state [] w) ≡ Stops Stuck (state [] w) = run_now p (state [] w) n ∙ ap (λ o. at_function (any_entry p (now p)) o [] (state [] w) n) there in
    stop_ends Stuck w (run_of p n (state [] w)) end.Stuck ([], e) (λ m. refl)

pub no_step : (p : Program) (f : Function) (w : World) (n : ℕ) → slice_get p.functions p.main ≡ Some f → f.is_inline ≡ false → n ≡ 0 → EndsAs end.GoesOn w (run_of p n (state [] w))
no_step p f w n there i e =
    let is : run_of p n (state [] w) ≡ now p f [] (state [] w) n = run_now p (state [] w) n ∙ ap (λ o. at_function (any_entry p (now p)) o [] (state [] w) n) there ∙ ap (λ (q : From State (Option CValue)). q (state [] w) n) (if_false f.is_inline _ (now p f []) i) in
    stop_ends Spent w (run_of p n (state [] w)) end.GoesOn ([], is ∙ ap (now p f [] (state [] w)) e) (λ m. refl)

-- what the steps give is what the run gives
pub runs_so : (p : Program) (s : Core) (held : Memory) (w w' : World) (n k : ℕ) (result : Result end_.End AllocError) → Holds [] held → run_of p n (state [] w) ≡ means p s (state [] w) k → IfOk result (λ e. (m : List c.Block) → Holds m held → EndsAs e w' (means p s (state m w) k)) → IfOk result (λ e. EndsAs e w' (run_of p n (state [] w)))
runs_so p s held w w' n k (Ok e) holds is h = subst (EndsAs e w') (sym is) (h [] holds)
runs_so p s held w w' n k (Err x) holds is h = tt
