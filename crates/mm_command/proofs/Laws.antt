-- What is answered, by what a command comes to and how that is written.
use Rattle.std.proofs.Common.{◌≡◌, ℕ, List, [], length, Option, sym, ap, ◌∙◌, subst, inl, inr, arith}
use Rattle.std.proofs.lemmas.List.{take_all}
use Rattle.mm_base.specs.Outside.{SinkSeen, grown}
use Rattle.mm_base.proofs.Grown.{grown_nil}
use Rattle.mm_command.specs.declared.words.Command.{Command}
use Rattle.mm_command.specs.declared.writing.Outcome.{Outcome}
use Rattle.mm_command.specs.Outside.{Change, Outside, SinkFailed, IsSame, Grew, GrewFront, GrewPart, Says}
use Rattle.mm_command.specs.Due.{Due, Refused, Accepted, Translated, Ran, status_of, message_of, HasText, IsText, WritesPart, write_failed, no_memory}
use Rattle.mm_command.specs.Writing.{Reports, Finishes, IsOutcome}
use Rattle.mm_command.specs.Answers.{AreTold, AreKept, LeavesOff, Answers}

-- ---- texts on an output

no_part : (s : Change SinkSeen) → GrewPart [] s → ⊥
no_part s p = omega (arith, p.1)

same : (s : Change SinkSeen) → Grew [] s → IsSame s
same s e = e ∙ grown_nil s.old.got

front : (text : List ℕ) (s : Change SinkSeen) → GrewPart text s → GrewFront text s
front text s p = (p.0, omega (arith, p.1), p.2)

whole : (text : List ℕ) (s : Change SinkSeen) → Grew text s → GrewFront text s
whole text s e = (length text, omega arith, e ∙ ap (grown s.old.got) (sym (take_all (length text) text (omega arith))))

said : (message : List ℕ) (s : Change SinkSeen) → Says message s → GrewFront message s
said message s (inl e) = whole message s e
said message s (inr f) = f.0

reported : (due status : ℕ) (message : List ℕ) (s : Change SinkSeen) → Reports due message status s → GrewFront message s
reported due status message s (inl r) = said message s r.1
reported due status message s (inr r) = front message s r.1

-- ---- a text or a message

-- where a part of a text was put, a text is due
has_text : (d : Due) (text : List ℕ) (s : Change SinkSeen) → IsText d text → GrewPart text s → HasText d
has_text (Refused status message) text s t p = absurd (no_part s (subst (λ x. GrewPart x s) t p))
has_text Accepted text s t p = tt
has_text (Translated p) text s t q = tt
has_text (Ran o) text s t q = tt

-- where a part of a message was put, no text is
is_same : (d : Due) (text : List ℕ) (out err : Change SinkSeen) → IsText d text → GrewPart (message_of d) err → Grew text out → IsSame out
is_same (Refused status message) text out err t p g = same out (subst (λ x. Grew x out) t g)
is_same Accepted text out err t q g = absurd (no_part err q)
is_same (Translated p) text out err t q g = absurd (no_part err q)
is_same (Ran o) text out err t q g = absurd (no_part err q)

module _ (Comes : Due → Type 0) (status : ℕ) (asked : Option Command) (o : Outside) (kept : AreKept asked o) where
  -- memory ran out
  nine : status ≡ 9 → LeavesOff Comes o → Answers Comes status asked o
  nine s l = record {
    done = λ f n. absurd (n s);
    unwritten = λ f. absurd (omega (arith, s, f));
    no_memory = λ n. l;
    complete = λ d c t w. inr s;
    kept = kept;
  }

  -- it ran out before anything was due
  pub nothing_due : IsSame o.out → Reports 9 no_memory status o.err → Answers Comes status asked o
  nothing_due e r = nine (is_nine r) (record { out = inl e; err = inl (reported 9 status no_memory o.err r) })
    where
      is_nine : Reports 9 no_memory status o.err → status ≡ 9
      is_nine (inl r) = r.0
      is_nine (inr r) = r.0

  module _ (d : Due) (x : Outcome) (comes : Comes d) (is : IsOutcome d x) (other : (status_of d ≡ 4 → ⊥) × (status_of d ≡ 9 → ⊥)) (one : (e : Due) → Comes e → AreTold asked o.files o.input → e ≡ d) where
    part : GrewPart x.text.items o.out → WritesPart d o.out
    part p = (x.text.items, is.text, p)

    said_due : Says x.message.items o.err → Says (message_of d) o.err
    said_due = subst (λ m. Says m o.err) is.message

    part_due : GrewPart x.message.items o.err → GrewPart (message_of d) o.err
    part_due = subst (λ m. GrewPart m o.err) is.message

    -- all was written
    all_written : Grew x.text.items o.out → status ≡ x.status → Says x.message.items o.err → Answers Comes status asked o
    all_written g s m = record {
      done = λ f n. (d, comes, s ∙ is.status, (x.text.items, is.text, g), said_due m);
      unwritten = λ f. absurd (other.0 (sym (s ∙ is.status) ∙ f));
      no_memory = λ n. absurd (other.1 (sym (s ∙ is.status) ∙ n));
      complete = λ e c t w. inl (s ∙ is.status ∙ ap status_of (sym (one e c t)));
      kept = kept;
    }

    -- the output failed
    failed : GrewPart x.text.items o.out → SinkFailed o.out → status ≡ 4 → Says write_failed o.err → Answers Comes status asked o
    failed p f s m = record {
      done = λ n k. absurd (n s);
      unwritten = λ n. (d, comes, part p, f, m);
      no_memory = λ n. absurd (omega (arith, s, n));
      complete = λ e c t w. absurd (w (subst HasText (sym (one e c t)) (has_text d x.text.items o.out is.text p)) f);
      kept = kept;
    }

    -- what a command comes to was written, as far as that went
    pub written : Finishes x status o.out o.err → Answers Comes status asked o
    written (inl (g, inl r)) = all_written g r.0 r.1
    written (inl (g, inr r)) = nine r.0 (record { out = inl (is_same d x.text.items o.out o.err is.text (part_due r.1) g); err = inr (inr (d, comes, part_due r.1)) })
    written (inr (inl (p, f, inl r))) = failed p f r.0 r.1
    written (inr (inl (p, f, inr r))) = nine r.0 (record { out = inr (d, comes, part p); err = inr (inl (f, r.1)) })
    written (inr (inr (p, inl r))) = nine r.0 (record { out = inr (d, comes, part p); err = inl (said no_memory o.err r.1) })
    written (inr (inr (p, inr r))) = nine r.0 (record { out = inr (d, comes, part p); err = inl (front no_memory o.err r.1) })
