-- A text says numbers, or has a first bad line, and never both.
use Rattle.std.proofs.Common.{◌≡◌, ℕ, ℤ, ◌+◌, ◌<◌, length, List, [], ◌∷◌, ◌++◌, get_or, sym, ap, ◌∙◌, arith, length-append, subst}
use Rattle.std.proofs.Math.Seq.{get_or-append_seam}
use Rattle.mm_base.specs.Input.{lines, IsIntLine, AreNumbers, IsFirstBad}

pub one_list : (bytes : List ℕ) (ms ns : List ℤ) → AreNumbers bytes ms → AreNumbers bytes ns → ms ≡ ns
one_list bytes ms ns h k = h.values ∙ sym k.values

pub not_both : (bytes : List ℕ) (ns : List ℤ) (n : ℕ) → AreNumbers bytes ns → IsFirstBad bytes n → ⊥
not_both bytes ns n h k =
    let whole = k.before ++ k.line ∷ k.behind in
    let len : length whole ≡ length k.before + length (k.line ∷ k.behind) = length-append k.before (k.line ∷ k.behind) in
    let lt : length k.before < length (lines bytes) = omega (arith, len, ap length k.text) in
    let at : get_or (lines bytes) (length k.before) [] ≡ k.line =
    ap (λ ls. get_or ls (length k.before) []) k.text ∙ get_or-append_seam k.before k.line k.behind [] in
    k.bad (subst IsIntLine at (h.each (length k.before) [] lt))
