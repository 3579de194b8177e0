-- The lowered program runs as the source does, at every bound.
use Rattle.std.proofs.Common.{◌≡◌, ◌≢◌, ℕ, zero, suc, ◌<◌, List, [], ◌∷◌, ◌++◌, length, refl, sym, ap, ◌∙◌, subst, arith, map}
use Rattle.std.specs.Prelude.{ℤ, Bool, true, false, IsTrue, nat_eq, if◌then◌else◌, codes, Option, Some, slice_get}
use Rattle.std.specs.Str.{bytes_eq}
use Rattle.std.proofs.lemmas.Bool.{eq-eqb}
use Rattle.std.proofs.lemmas.Slice.Eq.{bytes_eq-Decides}
use Rattle.mm_meaning.specs.Run.{Run}
use Rattle.mm_classes.specs.declared.class.Ty.TheVariants as ty
use Rattle.mm_classes.specs.Lists.{Has, first, later}
use Rattle.mm_core.specs.Tree.{Stmt, Function, Program}
use Rattle.mm_core.specs.Heads.{is_main, is_open, argument_types}
use Rattle.mm_core.specs.State as source
use Rattle.mm_core.specs.State.{Value, State}
use Rattle.mm_core.specs.Scalar.{int_value}
use Rattle.mm_core.specs.Meaning.{call_of}
use Rattle.mm_core.specs.Run as by
use Rattle.mm_core.specs.Run.{number_of_main, source_run}
use Rattle.mm_core.specs.ValidProgram.{around, IsValidFunction}
use Rattle.mm_core.specs.Fits.{Fits, AllFit, IsState}
use Rattle.mm_core.specs.Keeps.{Known, Gave, inside}
use Rattle.mm_agree.proofs.Steps.{agree_on, agree_weaken}
use Rattle.mm_c.specs.declared.value.CValue.{CValue}
use Rattle.mm_c.specs.declared.tree.CKind.{CKind}
use Rattle.mm_c.specs.declared.tree.CLinkage.TheVariants.{Public, Static}
use Rattle.mm_c.specs.WellFormed.{is_inline}
use Rattle.mm_c.specs.CMeaning as c
use Rattle.mm_c.specs.CRun as run
use Rattle.mm_c.specs.CRun.{c_run}
use Rattle.mm_c.specs.Tree as tree
use Rattle.mm_agree.specs.Agree.{stop_in_c, Layout, Agree, both_give, both_stop, in_c, all_in_c, States, OneWorld, SameResult, Alike, CallsAgree, HasPrelude}
use Rattle.mm_agree.specs.Translates.{finish_in_c, outcome_in_c, IsInput, Translates}
use Rattle.mm_simulate.specs.Names.{function_named}
use Rattle.mm_simulate.specs.Lowered.{Defined, is_defined, source_name, name_of, fn_of, item_of, head_of, entry, others, lowered_program, IsLoweredStmt}
use Rattle.mm_simulate.proofs.Names.{is_false, function_name}
use Rattle.mm_simulate.proofs.Main.{main_there, both_are, main_is, HasBody, body_of, main_arguments}
use Rattle.mm_simulate.proofs.Defined.{defined_as, Apart, all_apart, complete}
use Rattle.mm_simulate.proofs.Functions.{function_agrees}

module _ (p : Program) (l : Layout) (temps : ℕ → List (CKind × ℕ)) where
  abbrev callable : Function → Bool
  callable = is_defined

  abbrev q : tree.Program
  q = lowered_program p l temps

  -- ---- what a name calls

  other_name : (i j : ℕ) → i ≢ j → bytes_eq (name_of p i) (name_of p j) ≡ false
  other_name i j ne = is_false (bytes_eq (name_of p i) (name_of p j)) (λ e. ne (function_name (nat_eq i (number_of_main p.functions)) (nat_eq j (number_of_main p.functions)) i j (number_of_main p.functions) _ _ refl refl ((bytes_eq-Decides (name_of p i) (name_of p j)).0 e)))

  found_if : (b d : Bool) (F : tree.Function) (more : List tree.Item) (x : List ℕ) → bytes_eq F.name x ≡ d → d ≡ b → c.function_in (tree.function F ∷ more) x ≡ elim b [ true ↦ Some (c.defined F) | false ↦ c.function_in more x ]
  found_if b d F more x e f = ap (λ z. elim z as (λ (y : Bool). Option c.Callee) [ true ↦ Some (c.defined F) | false ↦ c.function_in more x ]) (e ∙ f)

  find : (ds : List Defined) (d : Defined) → Apart ds → Has ds d → c.function_in (map (item_of p l temps) ds) (name_of p d.number) ≡ Some (c.defined (fn_of p l temps d))
  find [] d ok h = elim h [ ]
  find (x ∷ ds) d ok (first e) = subst (λ (z : Defined). c.function_in (map (item_of p l temps) (x ∷ ds)) (name_of p z.number) ≡ Some (c.defined (fn_of p l temps z))) e (found_if true true (fn_of p l temps x) (map (item_of p l temps) ds) (name_of p x.number) ((bytes_eq-Decides (name_of p x.number) (name_of p x.number)).1 refl) refl)
  find (x ∷ ds) d ok (later h) = found_if false false (fn_of p l temps x) (map (item_of p l temps) ds) (name_of p d.number) (other_name x.number d.number (ok.0 d h)) refl ∙ find ds d ok.1 h

  past_heads : (ds : List Defined) (more : List tree.Item) (x : List ℕ) → c.function_in (map (head_of p l temps) ds ++ more) x ≡ c.function_in more x
  past_heads [] more x = refl
  past_heads (d ∷ ds) more x = past_heads ds more x

  -- no function of the source has a name of the prelude
  no_prelude : (b : Bool) (n : ℕ) (s : List ℕ) → c.callee_of q (function_named b n s) ≡ c.function_in q.items (function_named b n s)
  no_prelude true n s = refl
  no_prelude false n s = refl

  callee : (i : ℕ) (f : Function) (b : Stmt) → slice_get p.functions i ≡ Some f → f.body ≡ Some b → c.callee_of q (name_of p i) ≡ Some (c.defined (fn_of p l temps (defined_as i f b)))
  callee i f b e h = no_prelude (nat_eq i (number_of_main p.functions)) i (source_name (slice_get p.functions i)) ∙ past_heads (others p) (map (item_of p l temps) (entry p ++ others p)) (name_of p i) ∙ find (entry p ++ others p) (defined_as i f b) (all_apart p) (complete p i f b e h)

  not_inline : (b : Bool) → is_inline (if b then Public else Static) ≡ false
  not_inline true = refl
  not_inline false = refl

  called : (steps : c.Steps) (i : ℕ) (f : Function) (b : Stmt) (vs : List CValue) → slice_get p.functions i ≡ Some f → f.body ≡ Some b → c.all_calls q steps (name_of p i) vs ≡ steps (fn_of p l temps (defined_as i f b)) vs
  called steps i f b vs e h = ap (λ o. c.any_callee q steps o vs) (callee i f b e h) ∙ ap (λ (z : Bool). if z then c.enter (c.around_of q (c.plain_calls q steps)) (fn_of p l temps (defined_as i f b)) vs else steps (fn_of p l temps (defined_as i f b)) vs) (not_inline (nat_eq i (number_of_main p.functions)))

  pub prelude : (steps : c.Steps) → HasPrelude (c.around_all q steps)
  prelude steps = record { put = λ vs. refl; get = λ vs. refl; more = λ vs. refl; trap = λ vs. refl; new = λ vs. refl }

  -- ---- the main induction

  module _ (known : (n : ℕ) (f : Function) → Known (inside p callable (call_of p n) f)) (valid : (i : ℕ) (f : Function) → slice_get p.functions i ≡ Some f → IsValidFunction callable p f) (defined : (f : Function) → IsTrue (callable f) → f.defined ≡ true) (low : (i : ℕ) (f : Function) (b : Stmt) → slice_get p.functions i ≡ Some f → f.body ≡ Some b → IsLoweredStmt (around callable p f) b) where
    -- the call of a function, and of its code
    steps_agree : (n i : ℕ) (f : Function) (b : HasBody p is_defined f) (vs : List Value) (s : State) (u : c.State) (k : ℕ) → CallsAgree p l callable (name_of p) (λ k. Unit {0}) (call_of p n) (c.around_all q (c.steps_of q n)) → slice_get p.functions i ≡ Some f → AllFit p.classes s.objects (argument_types p.classes f) vs → IsState p.classes s → States p.classes l s u → Alike p.classes l f.result (call_of p (suc n) i vs s k) (c.steps_of q (suc n) (fn_of p l temps (defined_as i f b.stmt)) (all_in_c l s.objects vs) u k)
    steps_agree n i f b vs s u zero agree e fits is states = both_stop states.world
    steps_agree n i f b vs s u (suc k) agree e fits is states =
        rw (e, b.is) (function_agrees p callable l (name_of p) (call_of p n) (c.around_all q (c.steps_of q n)) (prelude (c.steps_of q n)) f (known n f) agree i (nat_eq i (number_of_main p.functions)) b.stmt (temps i) (low i f b.stmt e b.is) b.fits vs s u k fits is states)

    pub calls_agree : (n : ℕ) → CallsAgree p l callable (name_of p) (λ k. Unit {0}) (call_of p n) (c.around_all q (c.steps_of q n))
    calls_agree zero = record {
      by = λ i f vs s u k at e closed ok fits is states.
          let b = body_of p is_defined f f.defined f.body (defined f ok) refl (valid i f e).body in
          rw (called (c.steps_of q 0) i f b.stmt (all_in_c l s.objects vs) e b.is) (both_stop states.world);
    }
    calls_agree (suc n) = record {
      by = λ i f vs s u k at e closed ok fits is states.
          let b = body_of p is_defined f f.defined f.body (defined f ok) refl (valid i f e).body in
          rw (called (c.steps_of q (suc n)) i f b.stmt (all_in_c l s.objects vs) e b.is) (steps_agree n i f b vs s u k (calls_agree n) e fits is states);
    }

    -- ---- runs of programs

    ended_same : (v : Value) (s : State) → Fits p.classes s.objects ty.Int v → run.ended_by (Some (in_c l s.objects v)) ≡ run.Ended (int_value v)
    ended_same (source.Number z) s f = refl
    ended_same (source.Truth z) s f = absurd f
    ended_same (source.Word z) s f = absurd f
    ended_same source.Null s f = absurd f
    ended_same (source.At x y) s f = absurd f
    ended_same source.Nothing s f = absurd f

    stopped_same : (x : source.Stop) → run.stopped_by (stop_in_c x) ≡ finish_in_c (by.stopped_by x)
    stopped_same (source.Trapped t) = refl
    stopped_same source.Spent = refl

    outcome_same : (x : Run source.Stop State Value) (y : Run c.Stop c.State (Option CValue)) → Agree OneWorld (λ v s r u. SameResult p.classes l ty.Int v s r u × Fits p.classes s.objects ty.Int v) x y → run.outcome_of y ≡ outcome_in_c (by.outcome_of x)
    outcome_same _ _ (both_give {a = v} {s = s} {b = r} {t = u} h) = rw (h.0.value, ended_same v s h.1, ← h.0.states.world) refl
    outcome_same _ _ (both_stop {x = x} {s = s} {t = u} e) = rw (stopped_same x, ← e) refl

    main_name : name_of p (number_of_main p.functions) ≡ codes "main"
    main_name = ap (λ b. function_named b (number_of_main p.functions) (source_name (slice_get p.functions (number_of_main p.functions)))) (eq-eqb (number_of_main p.functions) (number_of_main p.functions) refl)

    -- as a run begins
    begins : (input : List ℤ) → IsInput input → IsState p.classes (by.starting input)
    begins input ints = record { fields = λ o f t low. absurd (let z : ⊥ = omega arith in z); input = ints }

    states_begin : (input : List ℤ) → States p.classes l (by.starting input) (run.starting input)
    states_begin input = record { world = refl; heap = record { lengths = refl; each = λ o low. absurd (let z : ⊥ = omega arith in z) } }

    module _ (main : number_of_main p.functions < length p.functions) (closed : (i : ℕ) (f : Function) → slice_get p.functions i ≡ Some f → is_open f ≡ false) (all_defined : (f : Function) → f.defined ≡ true → IsTrue (callable f)) where
      agrees : (input : List ℤ) (n : ℕ) → IsInput input → c_run q input n ≡ outcome_in_c (source_run p input n)
      agrees input n ints =
          let there = main_there p.functions main in
          let f = there.0 in
          let is = both_are f.defined (is_main f) there.2 in
          let h = main_is f is.1 in
          let fits : AllFit p.classes (by.starting input).objects (argument_types p.classes f) [] = subst (λ ts. AllFit p.classes [] ts []) (sym (main_arguments p is_defined f h)) tt in
          let alike = (calls_agree n).by (number_of_main p.functions) f [] (by.starting input) (run.starting input) n tt there.1 (closed _ f there.1) (all_defined f is.0) fits (begins input ints) (states_begin input) in
          let gave = (known n f).calls_fit (number_of_main p.functions) f [] (by.starting input) n there.1 (closed _ f there.1) (all_defined f is.0) (begins input ints) fits in
          ap (λ x. run.outcome_of (c.named_call q n x [] (run.starting input) n)) (sym main_name)
          ∙ outcome_same _ _ (agree_weaken (agree_on (Gave p.classes f.result (by.starting input)) alike gave) (λ v s r u y. (subst (λ t. SameResult p.classes l t v s r u) h.result y.0, subst (λ t. Fits p.classes s.objects t v) h.result y.1.fits)))

      no_end_is_stuck : (f : by.Finish) → finish_in_c f ≢ run.IsStuck
      no_end_is_stuck (by.Ended z) = λ e. cc
      no_end_is_stuck (by.TrappedBy k) = λ e. cc
      no_end_is_stuck by.GoesOn = λ e. cc

      -- the theorem
      pub translates : Translates p q
      translates = record {
        agrees = agrees;
        never_stuck = λ input n ints e. no_end_is_stuck (source_run p input n).finish (ap (λ (o : run.Outcome). o.finish) (sym (agrees input n ints)) ∙ e);
      }
