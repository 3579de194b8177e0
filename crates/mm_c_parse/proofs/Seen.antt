-- Answers whose value is seen as another, and marks behind a part.
use Rattle.std.proofs.Common.{◌≡◌, ℕ, IsTrue, List, [], ◌∷◌, refl, ap, sym, ◌∙◌, Result, Err, inl, inr}
use Rattle.std.specs.Result.{IsErrAnd}
use Rattle.std.proofs.lemmas.Result.{err_from_is_err_and}
use Rattle.mm_grammar.specs.Grammar.{seq, Reads, Fails}
use Rattle.mm_c.specs.Tokens.{Token}
use Rattle.mm_c.specs.Grammar.{P, texts, w, ◌◂◌}
use Rattle.mm_c_parse.specs.declared.step.Stop.{Stop}
use Rattle.mm_c_parse.specs.declared.step.Stop.TheVariants as stop
use Rattle.mm_c_parse.specs.Steps.{Answers, Marks, Broken, seen}
use Rattle.mm_c_parse.proofs.Steps.{is_plain, rg, rs, fg, ff, fs, mw, mw_not}
use Rattle.mm_c_parse.proofs.Skips.{split, split_broken}

-- where a reader answers that it is at fault
pub bad_seen : {B C : Type 0} (f : B → C) (r : Result B Stop) {q : P C} {ts rest : List Token} {e : Stop} → IsErrAnd r (λ y. y ≡ e) → (e ≡ stop.Fault → Fails texts q ts rest) → Answers q ts (seen f r) rest
bad_seen {B} {C} f r {q} {ts} {rest} {e} is a =
    let x = err_from_is_err_and r is in
    record { read = λ v h. let n = sym (ap (seen f) x.1) ∙ h in absurd (cc); fault = λ h. a (sym x.2 ∙ inside (sym (ap (seen f) x.1) ∙ h)) }
  where
    inside : {y z : Stop} → ◌≡◌ {A = Result C Stop} (Err y) (Err z) → y ≡ z
    inside h = cc

-- ---- parts one behind the other, of which the first counts

pub rl : {A B : Type 0} {p : P A} {q : P B} {ts m r : List Token} {v : A} {x : B} → IsTrue (is_plain (seq p q)) → Reads texts p ts v m → Reads texts q m x r → Reads texts (p ◂ q) ts v r
rl g a b = rg (rs g a b) refl

-- two marks, one behind the other
pub two_marks : {a b : ℕ} {ts r : List Token} → IsTrue (is_plain (seq (w a) (w b))) → Marks (a ∷ b ∷ []) ts r → (t : Token) × Reads texts (w a ◂ w b) ts t r
two_marks g k = let s = split k in let m = mw s.1 in (m.0, rl g m.1 (mw s.2).1)

pub two_broken : {a b : ℕ} {ts r : List Token} → IsTrue (is_plain (seq (w a) (w b))) → Broken (a ∷ b ∷ []) ts r → Fails texts (w a ◂ w b) ts r
two_broken g k = elim (split_broken k) [ inl i ↦ fg (ff g (mw_not i)) | inr i ↦ fg (fs g (mw i.1).1 (mw_not i.2)) ]
