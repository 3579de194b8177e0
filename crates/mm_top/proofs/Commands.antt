-- What commands come to.
use Rattle.std.proofs.Common.{◌≡◌, ℕ, ◌≤◌, List, [], Option, Some, None, refl, sym, ap, subst, arith}
use Rattle.std.specs.Prelude.{IfSome, IfNone, MatchOption}
use Rattle.mm_base.specs.Outside.{Contents, FilesSeen, SourceSeen, FileReads}
use Rattle.mm_base.specs.declared.limits.TheConstants.{MAX_C_BYTES}
use Rattle.mm_base.specs.declared.outside.FileEnd.TheVariants.{Done, Absent, TooLong, Failed}
use Rattle.mm_core.specs.Tree.{Program}
use Rattle.mm_core.specs.Run.{source_run}
use Rattle.mm_agree.specs.Translates.{outcome_in_c}
use Rattle.mm_token.specs.Causes as causes
use Rattle.mm_command.specs.declared.words.Command.{Command}
use Rattle.mm_command.specs.declared.words.Command.TheVariants.{Check, Link, Run, Exec}
use Rattle.mm_command.specs.declared.writing.Outcome.{Outcome}
use Rattle.mm_command.specs.Outside.{Change, Outside, IsSame}
use Rattle.mm_command.specs.Due.{Refused, Accepted, Translated, no_memory}
use Rattle.mm_command.specs.Writing.{IsOutcome, Reports, Finishes}
use Rattle.mm_command.specs.Answers.{AreKept, InputKept, Answers}
use Rattle.mm_command.proofs.Laws.{written, nothing_due}
use Rattle.mm_verdict.specs.declared.fault.Refusal.{Refusal}
use Rattle.mm_verdict.specs.declared.fault.Refusal.TheVariants as refusal
use Rattle.mm_verdict.specs.Refusals.{Refuses}
use Rattle.mm_verdict.specs.Verdict.{Missing, Unread, Long, Faulty, Sound, IsSound, unbuilt_in_check, unbuilt_in_link}
use Rattle.mm_base.specs.Input.{TakesSome}
use Rattle.mm_top.specs.Comes.{Comes, refused, NoText, UnreadText, LongText, BadText, GoodText}
use Rattle.mm_top.specs.Messages.{no_file, read_failed, too_long, bad_text}
use Rattle.mm_top.specs.Runs.{RunsTo}
use Rattle.mm_top.specs.Steps.{ComesTo, IsRefusal}
use Rattle.mm_c_text.specs.Places.{at}
use Rattle.mm_c_read.specs.declared.ReadEnd.{ReadEnd}
use Rattle.mm_c_read.specs.declared.ReadEnd.TheVariants as read_end
use Rattle.mm_c_read.specs.Refusals as read
use Rattle.mm_top.specs.Texts.{IsReadAs, RefusesText, RunsBytes}
use Rattle.mm_top.proofs.Runs.{takes_nothing}
use Rattle.mm_top.proofs.OneDue.{one_due_only, other_status_only}

module _ (files : Change FilesSeen) (i : Change SourceSeen) (name : List ℕ) (x : Outcome) where
  -- ---- `check`

  pub check_refused : (r : Refusal) → Refuses unbuilt_in_check r files name → IsRefusal r x → ComesTo (Some (Check name)) files i x
  check_refused (refusal.Missing file) v o = (refused (Missing file), (Missing file, v.0, v.1, refl), o)
  check_refused (refusal.Unread file) v o = (refused (Unread file), (Unread file, v.0, v.1, refl), o)
  check_refused (refusal.Long file) v o = (refused (Long file), (Long file, v.0, v.1, refl), o)
  check_refused (refusal.Faulty f) v o = (refused (Faulty f), (Faulty f, v.0, v.1, refl), o)
  check_refused refusal.NoMemory v o = absurd o

  pub checked : (p : Program) → IsSound unbuilt_in_check files.old.held name p → IsOutcome Accepted x → ComesTo (Some (Check name)) files i x
  checked p s o = (Accepted, (Sound p, s, tt, refl), o)

  -- ---- `link`

  pub link_refused : (r : Refusal) → Refuses unbuilt_in_link r files name → IsRefusal r x → ComesTo (Some (Link name)) files i x
  link_refused (refusal.Missing file) v o = (refused (Missing file), (Missing file, v.0, v.1, refl), o)
  link_refused (refusal.Unread file) v o = (refused (Unread file), (Unread file, v.0, v.1, refl), o)
  link_refused (refusal.Long file) v o = (refused (Long file), (Long file, v.0, v.1, refl), o)
  link_refused (refusal.Faulty f) v o = (refused (Faulty f), (Faulty f, v.0, v.1, refl), o)
  link_refused refusal.NoMemory v o = absurd o

  pub linked : (p : Program) → IsSound unbuilt_in_link files.old.held name p → IsOutcome (Translated p) x → ComesTo (Some (Link name)) files i x
  linked p s o = (Translated p, (Sound p, s, tt, refl), o)

  -- ---- `run`

  module _ (n : ℕ) where
    pub run_refused : (r : Refusal) → Refuses unbuilt_in_link r files name → IsRefusal r x → ComesTo (Some (Run name n)) files i x
    run_refused (refusal.Missing file) v o = (refused (Missing file), (Missing file, v.0, v.1, refl), o)
    run_refused (refusal.Unread file) v o = (refused (Unread file), (Unread file, v.0, v.1, refl), o)
    run_refused (refusal.Long file) v o = (refused (Long file), (Long file, v.0, v.1, refl), o)
    run_refused (refusal.Faulty f) v o = (refused (Faulty f), (Faulty f, v.0, v.1, refl), o)
    run_refused refusal.NoMemory v o = absurd o

    pub runs : (p : Program) → IsSound unbuilt_in_link files.old.held name p → RunsTo (λ ns. outcome_in_c (source_run p ns n)) i x → ComesTo (Some (Run name n)) files i x
    runs p s (d, r, o) = (d, (Sound p, s, tt, r), o)

    -- ---- `exec`

    -- what is asked of files that don't tell what they hold
    untold : (held : Option Contents) (P : Type 0) (Q : Contents → Type 0) → MatchOption held P Q → IfNone held P
    untold None P Q why = why
    untold (Some h) P Q why = tt

    told : (held : Option Contents) (P : Type 0) (Q : Contents → Type 0) → MatchOption held P Q → IfSome held Q
    told None P Q why = tt
    told (Some h) P Q why = why

    pub no_text : (into into' : List ℕ) → FileReads Absent name MAX_C_BYTES files.old files.new into into' → IsOutcome (Refused 3 (no_file name)) x → ComesTo (Some (Exec name n)) files i x
    no_text into into' r o = (Refused 3 (no_file name), (NoText, told files.old.held _ _ r.1, untold files.old.held _ _ r.1, refl), o)

    pub unread_text : (into into' : List ℕ) → FileReads Failed name MAX_C_BYTES files.old files.new into into' → IsOutcome (Refused 3 (read_failed name)) x → ComesTo (Some (Exec name n)) files i x
    unread_text into into' r o = (Refused 3 (read_failed name), (UnreadText, tt, r.1, refl), o)

    pub long_text : (into into' : List ℕ) → FileReads TooLong name MAX_C_BYTES files.old files.new into into' → IsOutcome (Refused 13 (too_long name MAX_C_BYTES)) x → ComesTo (Some (Exec name n)) files i x
    long_text into into' r o = (Refused 13 (too_long name MAX_C_BYTES), (LongText, told files.old.held _ _ r.1, untold files.old.held _ _ r.1, refl), o)

    pub whole_text : (text : List ℕ) → FileReads Done name MAX_C_BYTES files.old files.new [] text → RunsBytes name text n i x → ComesTo (Some (Exec name n)) files i x
    whole_text text (bytes, most, same, holds) (BadText place, r, d, e, o) = (d, (BadText place, (bytes, (holds, most), subst (λ t. IsReadAs t (BadText place)) same r), tt, e), o)
    whole_text text (bytes, most, same, holds) (GoodText q, r, d, e, o) = (d, (GoodText q, (bytes, (holds, most), subst (λ t. IsReadAs t (GoodText q)) same r), tt, e), o)
    whole_text text f (NoText, r, d, e, o) = absurd r
    whole_text text f (UnreadText, r, d, e, o) = absurd r
    whole_text text f (LongText, r, d, e, o) = absurd r

-- a text that is refused
pub refused_text : (name text : List ℕ) (n : ℕ) (i : Change SourceSeen) (x : Outcome) (e : ReadEnd) → read.IsRefusal text e → RefusesText name e x → RunsBytes name text n i x
refused_text name text n i x (read_end.Refused p) r o = (BadText (at p), r, Refused 7 (bad_text name (at p)), refl, o)
refused_text name text n i x read_end.NoMemory r o = absurd o

-- ---- what is kept

pub input_same : (asked : Option Command) (i : Change SourceSeen) → i.new ≡ i.old → InputKept asked i
input_same None i e = e
input_same (Some (Check name)) i e = e
input_same (Some (Link name)) i e = e
input_same (Some (Run name n)) i e = (subst (λ s. TakesSome i.old s) (sym e) (takes_nothing i.old), omega (arith, ap (λ (s : SourceSeen). s.faults) e))
input_same (Some (Exec name n)) i e = (subst (λ s. TakesSome i.old s) (sym e) (takes_nothing i.old), omega (arith, ap (λ (s : SourceSeen). s.faults) e))

pub files_same : (s : FilesSeen) → causes.AreKept s s
files_same s = record { same = refl; later = omega arith; more = omega arith }

pub all_kept : (asked : Option Command) (o : Outside) → causes.AreKept o.files.old o.files.new → InputKept asked o.input → o.out.old.faults ≤ o.out.new.faults → o.err.old.faults ≤ o.err.new.faults → AreKept asked o
all_kept asked o f i u e = record { held = f.same; files = f.later; drawn = f.more; input = i; out = u; err = e }

-- ---- answers

pub finished : (asked : Option Command) (o : Outside) (x : Outcome) (status : ℕ) → AreKept asked o → ComesTo asked o.files o.input x → Finishes x status o.out o.err → Answers (Comes asked o.files o.input) status asked o
finished asked o x status k (d, c, is) f =
    written (Comes asked o.files o.input) status asked o k d x c is (other_status_only asked o.files o.input d c) (λ e h t. one_due_only asked o.files o.input t e d h c) f

pub unfinished : (asked : Option Command) (o : Outside) (status : ℕ) → AreKept asked o → IsSame o.out → Reports 9 no_memory status o.err → Answers (Comes asked o.files o.input) status asked o
unfinished asked o status k s r = nothing_due (Comes asked o.files o.input) status asked o k s r
