-- What a command comes to, where files and the input tell and don't fail.
use Rattle.std.proofs.Common.{◌≡◌, ℕ, ℤ, ◌<◌, ◌≤◌, Bool, true, false, List, [], ◌∷◌, ◌++◌, length, get_or, Some, None, refl, sym, ap, ◌∙◌, subst, arith, leb}
use Rattle.std.proofs.lemmas.Bool.{leb-true, leb-false}
use Rattle.std.proofs.Math.Seq.{get_or-append_seam}
use Rattle.std.proofs.Math.ListN.{get_or-append}
use Rattle.mm_c.proofs.Once.{one_program, one_refusal, spelled_is_not_refused}
use Rattle.mm_base.specs.Outside.{Contents, FilesSeen, SourceSeen}
use Rattle.mm_base.specs.Input.{lines, IsIntLine, AreNumbers, IsFirstBad}
use Rattle.mm_base.proofs.OneReading.{one_list, not_both}
use Rattle.mm_base.specs.declared.limits.TheConstants.{MAX_C_BYTES, MAX_INPUT_BYTES}
use Rattle.mm_c.specs.CRun as run
use Rattle.mm_c.specs.CRun.{Outcome, c_run}
use Rattle.mm_c.specs.Spelling.{SpellsProgram, RefusedAt}
use Rattle.mm_core.specs.Run.{source_run}
use Rattle.mm_agree.specs.Translates.{outcome_in_c}
use Rattle.mm_command.specs.declared.words.Command.TheVariants.{Check, Link, Run, Exec}
use Rattle.mm_command.specs.Outside.{Change, FilesFailed, InputFailed}
use Rattle.mm_command.specs.Due.{Due, Refused, status_of, status_of_run}
use Rattle.mm_syntax.specs.declared.form.Forms.{Forms}
use Rattle.mm_verdict.specs.Verdict.{Verdict, Missing, Unread, Long, Faulty, Sound, HasVerdict, HasCause, unbuilt_in_check, unbuilt_in_link}
use Rattle.mm_verdict.specs.Laws.{IsByContents}
use Rattle.mm_verdict.proofs.Told.{one_verdict_only}
use Rattle.mm_top.specs.Comes.{Input, Numbers, BadLine, LongInput, UnreadInput, IsWhole, HasInput, InputCause, CText, NoText, UnreadText, LongText, BadText, GoodText, HasText, TextCause, refused, checked, ran, Runs, RunsUnit, RunsText}
use Rattle.mm_top.specs.Laws.{OneDue, OtherStatus}

-- ---- the input

module _ (bytes : List ℕ) where
  -- no first bad line stands before another
  not_before : (m n : ℕ) (h : IsFirstBad bytes m) (k : IsFirstBad bytes n) → length h.before < length k.before → ⊥
  not_before m n h k lt =
      let whole = k.before ++ k.line ∷ k.behind in
      let at : get_or (lines bytes) (length h.before) [] ≡ h.line =
      ap (λ ls. get_or ls (length h.before) []) h.text ∙ get_or-append_seam h.before h.line h.behind [] in
      let in-k : get_or (lines bytes) (length h.before) [] ≡ get_or k.before (length h.before) [] =
      ap (λ ls. get_or ls (length h.before) []) k.text ∙ get_or-append k.before (k.line ∷ k.behind) [] (length h.before) lt in
      h.bad (subst IsIntLine (sym in-k ∙ at) (k.each (length h.before) [] lt))

  one_bad : (m n : ℕ) → IsFirstBad bytes m → IsFirstBad bytes n → m ≡ n
  one_bad m n h k = by (leb (length h.before) (length k.before)) (leb (length k.before) (length h.before)) refl refl
    where
      by : (a b : Bool) → leb (length h.before) (length k.before) ≡ a → leb (length k.before) (length h.before) ≡ b → m ≡ n
      by true true p q = omega (arith, h.number, k.number, leb-true _ _ p, leb-true _ _ q)
      by false b p q = absurd (not_before n m k h (leb-false _ _ p))
      by true false p q = absurd (not_before m n h k (leb-false _ _ q))

module _ (i : Change SourceSeen) (bytes : List ℕ) (left : i.old.left ≡ Some bytes) (fine : InputFailed i → ⊥) where
  -- the bytes are those that are left
  whole : (b : List ℕ) → IsWhole (Some bytes) b → (bytes ≡ b) × (length bytes ≤ MAX_INPUT_BYTES)
  whole b w = (w.0, let e : length bytes ≡ length b = ap length w.0 in omega (arith, e, w.1))

  one_input : (a b : Input) → HasInput (Some bytes) a → HasInput (Some bytes) b → InputCause i a → InputCause i b → a ≡ b
  one_input (Numbers ms) (Numbers ns) (x, u, h) (y, v, k) c d = ap Numbers (one_list bytes ms ns (subst (λ z. AreNumbers z ms) (sym (whole x u).0) h) (subst (λ z. AreNumbers z ns) (sym (whole y v).0) k))
  one_input (Numbers ms) (BadLine n) (x, u, h) (y, v, k) c d = absurd (not_both bytes ms n (subst (λ z. AreNumbers z ms) (sym (whole x u).0) h) (subst (λ z. IsFirstBad z n) (sym (whole y v).0) k))
  one_input (BadLine m) (Numbers ns) (x, u, h) (y, v, k) c d = absurd (not_both bytes ns m (subst (λ z. AreNumbers z ns) (sym (whole y v).0) k) (subst (λ z. IsFirstBad z m) (sym (whole x u).0) h))
  one_input (BadLine m) (BadLine n) (x, u, h) (y, v, k) c d = ap BadLine (one_bad bytes m n (subst (λ z. IsFirstBad z m) (sym (whole x u).0) h) (subst (λ z. IsFirstBad z n) (sym (whole y v).0) k))
  one_input (Numbers ms) LongInput (x, u, h) k c d = absurd (omega (arith, (whole x u).1, k))
  one_input (BadLine m) LongInput (x, u, h) k c d = absurd (omega (arith, (whole x u).1, k))
  one_input LongInput (Numbers ns) h (y, v, k) c d = absurd (omega (arith, (whole y v).1, h))
  one_input LongInput (BadLine n) h (y, v, k) c d = absurd (omega (arith, (whole y v).1, h))
  one_input LongInput LongInput h k c d = refl
  one_input UnreadInput b h k c d = absurd (fine c)
  one_input (Numbers ms) UnreadInput h k c d = absurd (fine d)
  one_input (BadLine m) UnreadInput h k c d = absurd (fine d)
  one_input LongInput UnreadInput h k c d = absurd (fine d)

  one_run : (f : List ℤ → Outcome) (d e : Due) → Runs f i d → Runs f i e → d ≡ e
  one_run f d e (a, h, c, x) (b, k, s, y) =
      x ∙ ap (ran f) (one_input a b (subst (λ l. HasInput l a) left h) (subst (λ l. HasInput l b) left k) c s) ∙ sym y

-- ---- the C text

module _ (files : Change FilesSeen) (h : Contents) (name : List ℕ) (fine : FilesFailed files → ⊥) where
  here : (s t : List ℕ) → h name ≡ Some s → h name ≡ Some t → s ≡ t
  here s t a b = let e : Some s ≡ Some t = sym a ∙ b in cc

  there : (s : List ℕ) → h name ≡ Some s → h name ≡ None → ⊥
  there s a b = let e : Some s ≡ None = sym a ∙ b in cc

  too_long : (s t : List ℕ) → h name ≡ Some s → length s ≤ MAX_C_BYTES → h name ≡ Some t → MAX_C_BYTES < length t → ⊥
  too_long s t a l b m = let e : length s ≡ length t = ap length (here s t a b) in omega (arith, e, l, m)

  one_text : (a b : CText) → HasText (Some h) name a → HasText (Some h) name b → TextCause files a → TextCause files b → a ≡ b
  one_text NoText NoText x y c d = refl
  one_text NoText LongText x (t, y, m) c d = absurd (there t y x)
  one_text NoText (BadText p) x (t, (y, m), r) c d = absurd (there t y x)
  one_text NoText (GoodText q) x (t, (y, m), r) c d = absurd (there t y x)
  one_text LongText NoText (t, y, m) x c d = absurd (there t y x)
  one_text (BadText p) NoText (t, (y, m), r) x c d = absurd (there t y x)
  one_text (GoodText q) NoText (t, (y, m), r) x c d = absurd (there t y x)
  one_text LongText LongText x y c d = refl
  one_text LongText (BadText p) (s, x, l) (t, (y, m), r) c d = absurd (too_long t s y m x l)
  one_text LongText (GoodText q) (s, x, l) (t, (y, m), r) c d = absurd (too_long t s y m x l)
  one_text (BadText p) LongText (t, (y, m), r) (s, x, l) c d = absurd (too_long t s y m x l)
  one_text (GoodText q) LongText (t, (y, m), r) (s, x, l) c d = absurd (too_long t s y m x l)
  one_text (BadText p) (BadText q) (s, (x, l), r) (t, (y, m), u) c d = ap BadText (one_refusal s p q r (subst (λ z. RefusedAt z q) (here t s y x) u))
  one_text (BadText p) (GoodText q) (s, (x, l), r) (t, (y, m), u) c d = absurd (spelled_is_not_refused s q p (subst (λ z. SpellsProgram z q) (here t s y x) u) r)
  one_text (GoodText q) (BadText p) (s, (x, l), r) (t, (y, m), u) c d = absurd (spelled_is_not_refused s q p r (subst (λ z. RefusedAt z p) (here t s y x) u))
  one_text (GoodText p) (GoodText q) (s, (x, l), r) (t, (y, m), u) c d = ap GoodText (one_program s p q r (subst (λ z. SpellsProgram z q) (here t s y x) u))
  one_text UnreadText b x y c d = absurd (fine c)
  one_text NoText UnreadText x y c d = absurd (fine d)
  one_text LongText UnreadText x y c d = absurd (fine d)
  one_text (BadText p) UnreadText x y c d = absurd (fine d)
  one_text (GoodText q) UnreadText x y c d = absurd (fine d)

-- ---- units

by_contents : (files : Change FilesSeen) (v : Verdict) → (FilesFailed files → ⊥) → HasCause files v → IsByContents v
by_contents files (Missing file) fine c = tt
by_contents files (Unread file) fine c = absurd (fine c)
by_contents files (Long file) fine c = tt
by_contents files (Faulty f) fine c = tt
by_contents files (Sound p) fine c = tt

module _ (files : Change FilesSeen) (h : Contents) (held : files.old.held ≡ Some h) (fine : FilesFailed files → ⊥) (unbuilt : Forms) (name : List ℕ) where
  same_verdict : (v w : Verdict) → HasVerdict unbuilt files.old.held name v → HasVerdict unbuilt files.old.held name w → HasCause files v → HasCause files w → v ≡ w
  same_verdict v w x y c d =
      one_verdict_only unbuilt h name v w (by_contents files v fine c) (by_contents files w fine d)
      (subst (λ o. HasVerdict unbuilt o name v) held x) (subst (λ o. HasVerdict unbuilt o name w) held y)

-- a run of a unit, by its verdict
runs_unit : (n : ℕ) (i : Change SourceSeen) (bytes : List ℕ) → i.old.left ≡ Some bytes → (InputFailed i → ⊥) → (v : Verdict) (d e : Due) → RunsUnit n i v d → RunsUnit n i v e → d ≡ e
runs_unit n i bytes left fine (Missing file) d e x y = x ∙ sym y
runs_unit n i bytes left fine (Unread file) d e x y = x ∙ sym y
runs_unit n i bytes left fine (Long file) d e x y = x ∙ sym y
runs_unit n i bytes left fine (Faulty f) d e x y = x ∙ sym y
runs_unit n i bytes left fine (Sound p) d e x y = one_run i bytes left fine (λ ns. outcome_in_c (source_run p ns n)) d e x y

runs_text : (name : List ℕ) (n : ℕ) (i : Change SourceSeen) (bytes : List ℕ) → i.old.left ≡ Some bytes → (InputFailed i → ⊥) → (t : CText) (d e : Due) → RunsText name n i t d → RunsText name n i t e → d ≡ e
runs_text name n i bytes left fine NoText d e x y = x ∙ sym y
runs_text name n i bytes left fine UnreadText d e x y = x ∙ sym y
runs_text name n i bytes left fine LongText d e x y = x ∙ sym y
runs_text name n i bytes left fine (BadText p) d e x y = x ∙ sym y
runs_text name n i bytes left fine (GoodText q) d e x y = one_run i bytes left fine (λ ns. c_run q ns n) d e x y

pub one_due_only : OneDue
one_due_only None files input told d e x y = x ∙ sym y
one_due_only (Some (Check name)) files input told d e (v, a, c, x) (w, b, s, y) =
    x ∙ ap checked (same_verdict files told.held.0 told.held.1 told.read unbuilt_in_check name v w a b c s) ∙ sym y
one_due_only (Some (Link name)) files input told d e (v, a, c, x) (w, b, s, y) =
    x ∙ ap refused (same_verdict files told.held.0 told.held.1 told.read unbuilt_in_link name v w a b c s) ∙ sym y
one_due_only (Some (Run name n)) files input told d e (v, a, c, x) (w, b, s, y) =
    let l = told.left in
    let same = same_verdict files told.held.0 told.held.1 told.read unbuilt_in_link name v w a b c s in
    runs_unit n input l.0.0 l.0.1 l.1 v d e x (subst (λ u. RunsUnit n input u e) (sym same) y)
one_due_only (Some (Exec name n)) files input told d e (t, a, c, x) (u, b, s, y) =
    let l = told.left in
    let h = told.held.0 in
    let same = one_text files h name told.read t u (subst (λ o. HasText o name t) told.held.1 a) (subst (λ o. HasText o name u) told.held.1 b) c s in
    runs_text name n input l.0.0 l.0.1 l.1 t d e x (subst (λ z. RunsText name n input z e) (sym same) y)

-- ---- statuses

abbrev Fair : Due → Type 0
Fair d = (status_of d ≡ 4 → ⊥) × (status_of d ≡ 9 → ⊥)

fair_run : (o : run.Finish) → (status_of_run o ≡ 4 → ⊥) × (status_of_run o ≡ 9 → ⊥)
fair_run (run.Ended z) = (λ e. omega (arith, e), λ e. omega (arith, e))
fair_run (run.TrappedBy k) = (λ e. omega (arith, e), λ e. omega (arith, e))
fair_run run.GoesOn = (λ e. omega (arith, e), λ e. omega (arith, e))
fair_run run.IsStuck = (λ e. omega (arith, e), λ e. omega (arith, e))

fair_refused : (v : Verdict) → Fair (refused v)
fair_refused (Missing file) = (λ e. omega (arith, e), λ e. omega (arith, e))
fair_refused (Unread file) = (λ e. omega (arith, e), λ e. omega (arith, e))
fair_refused (Long file) = (λ e. omega (arith, e), λ e. omega (arith, e))
fair_refused (Faulty f) = (λ e. omega (arith, e), λ e. omega (arith, e))
fair_refused (Sound p) = (λ e. omega (arith, e), λ e. omega (arith, e))

fair_checked : (v : Verdict) → Fair (checked v)
fair_checked (Missing file) = fair_refused (Missing file)
fair_checked (Unread file) = fair_refused (Unread file)
fair_checked (Long file) = fair_refused (Long file)
fair_checked (Faulty f) = fair_refused (Faulty f)
fair_checked (Sound p) = (λ e. omega (arith, e), λ e. omega (arith, e))

fair_ran : (f : List ℤ → Outcome) (i : Input) → Fair (ran f i)
fair_ran f (Numbers ns) = fair_run (f ns).finish
fair_ran f (BadLine n) = (λ e. omega (arith, e), λ e. omega (arith, e))
fair_ran f LongInput = (λ e. omega (arith, e), λ e. omega (arith, e))
fair_ran f UnreadInput = (λ e. omega (arith, e), λ e. omega (arith, e))

is_fair : (d e : Due) → d ≡ e → Fair e → Fair d
is_fair d e x f = subst Fair (sym x) f

fair_number : (d : Due) (s : ℕ) (m : List ℕ) → d ≡ Refused s m → (s ≡ 4 → ⊥) → (s ≡ 9 → ⊥) → Fair d
fair_number d s m x a b = is_fair d (Refused s m) x (a, b)

fair_unit : (n : ℕ) (i : Change SourceSeen) (v : Verdict) (d : Due) → RunsUnit n i v d → Fair d
fair_unit n i (Missing file) d x = is_fair d _ x (fair_refused (Missing file))
fair_unit n i (Unread file) d x = is_fair d _ x (fair_refused (Unread file))
fair_unit n i (Long file) d x = is_fair d _ x (fair_refused (Long file))
fair_unit n i (Faulty f) d x = is_fair d _ x (fair_refused (Faulty f))
fair_unit n i (Sound p) d (a, h, c, x) = is_fair d _ x (fair_ran (λ ns. outcome_in_c (source_run p ns n)) a)

fair_text : (name : List ℕ) (n : ℕ) (i : Change SourceSeen) (t : CText) (d : Due) → RunsText name n i t d → Fair d
fair_text name n i NoText d x = fair_number d 3 _ x (λ e. omega (arith, e)) (λ e. omega (arith, e))
fair_text name n i UnreadText d x = fair_number d 3 _ x (λ e. omega (arith, e)) (λ e. omega (arith, e))
fair_text name n i LongText d x = fair_number d 13 _ x (λ e. omega (arith, e)) (λ e. omega (arith, e))
fair_text name n i (BadText p) d x = fair_number d 7 _ x (λ e. omega (arith, e)) (λ e. omega (arith, e))
fair_text name n i (GoodText q) d (a, h, c, x) = is_fair d _ x (fair_ran (λ ns. c_run q ns n) a)

pub other_status_only : OtherStatus
other_status_only None files input d x = fair_number d 2 _ x (λ e. omega (arith, e)) (λ e. omega (arith, e))
other_status_only (Some (Check name)) files input d (v, a, c, x) = is_fair d (checked v) x (fair_checked v)
other_status_only (Some (Link name)) files input d (v, a, c, x) = is_fair d (refused v) x (fair_refused v)
other_status_only (Some (Run name n)) files input d (v, a, c, x) = fair_unit n input v d x
other_status_only (Some (Exec name n)) files input d (t, a, c, x) = fair_text name n input t d x
