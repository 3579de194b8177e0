-- Numbers on lines, one after another.
use Rattle.std.proofs.Common.{◌≡◌, ℕ, ◌+◌, ◌<◌, ◌≤◌, List, ◌++◌, length, get_or, drop, sym, ap, ◌∙◌, append_assoc, append-nil}
use Rattle.std.specs.Prelude.{ℤ, pos}
use Rattle.std.specs.List.{flat_map}
use Rattle.std.proofs.lemmas.List.{drop_all, drop_more}
use Rattle.mm_command.specs.Due.{line_of}

-- the lines of the first i are written
abbrev SoFar : List ℕ → List ℤ → ℕ → List ℕ → Type 0
SoFar old zs i text = text ++ flat_map line_of (drop i zs) ≡ old ++ flat_map line_of zs

pub end : (old : List ℕ) (zs : List ℤ) (i : ℕ) (text : List ℕ) → length zs ≤ i → SoFar old zs i text → text ≡ old ++ flat_map line_of zs
end old zs i text past so = sym (append-nil text) ∙ ap (λ l. text ++ flat_map line_of l) (sym (drop_all i zs past)) ∙ so

pub next : (old : List ℕ) (zs : List ℤ) (i : ℕ) (text : List ℕ) → i < length zs → SoFar old zs i text → (text' : List ℕ) → text' ≡ text ++ line_of (get_or zs i (pos 0)) → SoFar old zs (i + 1) text'
next old zs i text low so text' more =
    let z = get_or zs i (pos 0) in
    ap (λ l. l ++ flat_map line_of (drop (i + 1) zs)) more ∙ append_assoc text (line_of z) (flat_map line_of (drop (i + 1) zs)) ∙ ap (λ l. text ++ flat_map line_of l) (sym (drop_more zs i (pos 0) low)) ∙ so
