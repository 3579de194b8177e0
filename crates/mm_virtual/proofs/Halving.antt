-- Halves of rising numbers, and rows by their places.
use Rattle.std.proofs.Common.{◌≡◌, ℕ, zero, suc, ◌<◌, ◌≤◌, List, [], ◌∷◌, length, get_or, refl, sym, subst, ap, ◌∙◌, inl, inr, arith, Some, None}
use Rattle.std.specs.Prelude.{◌⊎◌, slice_get}
use Rattle.mm_classes.specs.Classes.{IsTyped, types_in}
use Rattle.mm_classes.specs.Lists.{Has, first}
use Rattle.mm_classes.specs.declared.class.MemberKind.{MemberKind}
use Rattle.mm_classes.specs.declared.class.MemberKind.TheVariants as kind
use Rattle.mm_classes.specs.declared.class.Ty.{Ty}
use Rattle.mm_virtual.specs.declared.end.MemberRef.{MemberRef}
use Rattle.mm_virtual.specs.declared.finals.Row.{Row}
use Rattle.mm_virtual.specs.Results.{result_of}
use Rattle.mm_virtual.specs.Finals.{Gives}
use Rattle.mm_virtual.specs.Kept.{Rises, StandsAmong, IsRow, AreRows, line_of, lines_of}

low_or : (a b : ℕ) → (a < b) ⊎ (b ≤ a)
low_or a b = grind arith

three : (a b : ℕ) → (a < b) ⊎ ((a ≡ b) ⊎ (b < a))
three a b = grind arith

pub upper_half : (xs : List ℕ) (x low middle high : ℕ) → Rises xs → StandsAmong xs x low high → middle < high → get_or xs middle 0 ≤ x → StandsAmong xs x middle high
upper_half xs x low middle high rises (i, a, b, c, e) inside below = elim (low_or i middle) [
  | inr l ↦ (i, l, b, c, e)
  | inl l ↦ (let r = rises i middle l (omega arith) in absurd (omega arith))
]

pub lower_half : (xs : List ℕ) (x low middle high : ℕ) → Rises xs → StandsAmong xs x low high → middle < high → x < get_or xs middle 0 → StandsAmong xs x low middle
lower_half xs x low middle high rises (i, a, b, c, e) inside above = elim (three i middle) [
  | inl l ↦ (i, a, l, omega arith, e)
  | inr (inl s) ↦ (let f : get_or xs i 0 ≡ get_or xs middle 0 = ap (λ z. get_or xs z 0) s in absurd (omega arith))
  | inr (inr l) ↦ (let r = rises middle i l (omega arith) in absurd (omega arith))
]

pub row_is : (rows : List Row) (n k : ℕ) (r : ℕ × MemberRef) (row : Row) → AreRows (lines_of rows) → Gives (lines_of rows) n k r → row ≡ get_or rows n row → IsRow (line_of row)
row_is [] n k r row all (i, a, b) e = absurd (never i a)
  where
    never : (i : ℕ) → None ≡ Some k → ⊥
    never i a = cc
row_is (x ∷ rows) zero k r row all given e = subst (λ z. IsRow (line_of z)) (sym e) (all 0 (line_of x) refl)
row_is (x ∷ rows) (suc n) k r row all given e = row_is rows n k r row (λ i l h. all (suc i) l h) given e

pub result_typed : (n : ℕ) (k : MemberKind) → ((t : Ty) → Has (types_in k) t → IsTyped n t) → IsTyped n (result_of k)
result_typed n (kind.Field t) typed = tt
result_typed n (kind.Function ps r v) typed = typed r (first refl)
