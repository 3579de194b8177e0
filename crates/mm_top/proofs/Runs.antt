-- What runs come to.
use Rattle.std.proofs.Common.{◌≡◌, ℕ, suc, ℤ, List, [], ◌∷◌, Option, Some, None, IsTrue, refl, ap, ap₂, ◌∙◌, subst, arith, Global}
use Rattle.std.specs.Prelude.{Err}
use Rattle.std.specs.List.{All}
use Rattle.mm_base.specs.declared.input.InputEnd.{InputEnd}
use Rattle.mm_base.specs.declared.input.InputEnd.TheVariants as input_end
use Rattle.mm_base.specs.Input.{ReadsInput, FrontTaken, TakenWhole, TakesSome, IsIntLine, AreNumbers, IsFirstBad, IsTooLong, lines, line_value}
use Rattle.mm_base.specs.Num.{is_int}
use Rattle.mm_base.specs.Outside.{SourceSeen, Rose}
use Rattle.mm_base.specs.World.{World}
use Rattle.mm_meaning.specs.Run.{Run, Gives, Stops}
use Rattle.mm_meaning.specs.Later.{state_of}
use Rattle.mm_classes.specs.Lists.{Has, first, later}
use Rattle.mm_classes.proofs.Lists.{Has-map_from}
use Rattle.mm_core.specs.Tree as source
use Rattle.mm_core.specs.Run.{source_run}
use Rattle.mm_c.specs.declared.value.CValue.{CValue}
use Rattle.mm_c.specs.Tree as c
use Rattle.mm_c.specs.CMeaning.{Stop, State}
use Rattle.mm_c.specs.CRun.{Outcome, outcome_of, starting, c_run}
use Rattle.mm_c_placed.specs.Tree as placed
use Rattle.mm_c_placed.specs.Meaning.{run_of}
use Rattle.mm_c_places.specs.Laws.{SameRuns}
use Rattle.mm_c_machine.specs.declared.run.End.{End}
use Rattle.mm_c_machine.specs.Runs.{EndsAs}
use Rattle.mm_agree.specs.Translates.{IsInput, Translates, outcome_in_c}
use Rattle.mm_command.specs.Outside.{Change}
use Rattle.mm_command.specs.Due.{Ran}
use Rattle.mm_command.specs.declared.writing.Outcome as written
use Rattle.mm_command.specs.Writing.{IsOutcome}
use Rattle.mm_top.specs.Comes.{Numbers, BadLine, LongInput, UnreadInput, ran}
use Rattle.mm_top.specs.Runs.{outcome_with, RefusesInput, RunsTo}
use Rattle.mm_top.proofs.Known.{if_none}

-- ---- the input

nothing_taken : (o : Option (List ℕ)) → FrontTaken [] o o
nothing_taken None = refl
nothing_taken (Some l) = (l, refl, refl)

pub takes_nothing : (i : SourceSeen) → TakesSome i i
takes_nothing i = record {
  bytes = [];
  taken = record { front = nothing_taken i.left; rose = omega arith; drawn = omega arith; more = omega arith };
  within = omega arith;
}

each_has : {A : Type 0} (P : A → Type 0) (xs : List A) (x : A) → All P xs → Has xs x → P x
each_has P [] x h k = elim k [ ]
each_has P (y ∷ ys) x h (first e) = subst P e (h 0 y (omega arith))
each_has P (y ∷ ys) x h (later k) = each_has P ys x (λ i d lt. h (suc i) d (omega (arith, lt))) k

-- the lines of an input are each an `int`
pub is_input : (bytes : List ℕ) (ns : List ℤ) → AreNumbers bytes ns → IsInput ns
is_input bytes ns h z k =
    let l = Has-map_from line_value (lines bytes) (subst (λ m. Has m z) h.values k) in
    subst (λ m. IsTrue (is_int m)) l.2 (each_has IsIntLine (lines bytes) l.0 h.each l.1).fits

-- ---- the run of a C program

-- an outcome has the finish and what the state put
parts : (r : Run Stop State (Option CValue)) → outcome_of r ≡ record { finish = (outcome_of r).finish; put = (state_of r).world.put }
parts (Gives v s k) = refl
parts (Stops t s) = refl

pub outcome_is : (p : c.Program) (q : placed.Program) (ns : List ℤ) (n : ℕ) (e : End) (w : World) → SameRuns p q → EndsAs e w (run_of q n (starting ns)) → c_run p ns n ≡ outcome_with e w.put
outcome_is p q ns n e w same ends =
    let r = run_of q n (starting ns) in
    let put : (state_of r).world.put ≡ w.put = ap (λ (x : World). x.put) ends.world in
    ap outcome_of (same n (starting ns)) ∙ parts r ∙ ap₂ (λ x y. let o : Outcome = record { finish = x; put = y } in o) ends.finish put

-- ---- what a run tells

module _ (run : List ℤ → Outcome) (i : Change SourceSeen) (x : written.Outcome) where
  pub on_numbers : (bytes : List ℕ) (ns : List ℤ) → TakenWhole bytes i.old i.new → AreNumbers bytes ns → IsOutcome (Ran (run ns)) x → RunsTo run i x
  on_numbers bytes ns t h o = (Ran (run ns), (Numbers ns, (bytes, (t.all, t.within), h), tt, refl), o)

  pub on_bad_line : (bytes : List ℕ) (n : ℕ) → TakenWhole bytes i.old i.new → IsFirstBad bytes n → IsOutcome (ran run (BadLine n)) x → RunsTo run i x
  on_bad_line bytes n t h o = (ran run (BadLine n), (BadLine n, (bytes, (t.all, t.within), h), tt, refl), o)

  pub on_failure : Rose i.old.faults i.new.faults → IsOutcome (ran run UnreadInput) x → RunsTo run i x
  on_failure f o = (ran run UnreadInput, (UnreadInput, tt, f, refl), o)

  pub on_too_long : IsTooLong i.old i.new → IsOutcome (ran run LongInput) x → RunsTo run i x
  on_too_long t o = (ran run LongInput, (LongInput, t.longer, if_none i.old.left _ t.drawn, refl), o)

  -- by the end of the input
  pub refused_input : (e : InputEnd) → ReadsInput {A = Global} (Err e) i.old i.new → RefusesInput e x → RunsTo run i x
  refused_input (input_end.BadLine n) (bytes, t, h) o = on_bad_line bytes n t h (o run)
  refused_input input_end.TooLong t o = on_too_long t (o run)
  refused_input input_end.Failed f o = on_failure f (o run)
  refused_input input_end.NoMemory u o = absurd o

-- the C program of a program runs as it does
pub runs_as : (p : source.Program) (q : c.Program) (n : ℕ) (i : Change SourceSeen) (x : written.Outcome) → Translates p q → RunsTo (λ ns. c_run q ns n) i x → RunsTo (λ ns. outcome_in_c (source_run p ns n)) i x
runs_as p q n i x t (d, (Numbers ns, (bytes, w, h), u, e), o) =
    (d, (Numbers ns, (bytes, w, h), u, e ∙ ap Ran (t.agrees ns n (is_input bytes ns h))), o)
runs_as p q n i x t (d, (BadLine m, h, u, e), o) = (d, (BadLine m, h, u, e), o)
runs_as p q n i x t (d, (LongInput, h, u, e), o) = (d, (LongInput, h, u, e), o)
runs_as p q n i x t (d, (UnreadInput, h, u, e), o) = (d, (UnreadInput, h, u, e), o)
