-- Which numbers are marked, and which function is lacking by that.
use Rattle.std.proofs.Common.{◌≡◌, ℕ, zero, suc, ◌+◌, ◌<◌, ◌≤◌, Bool, true, false, List, [], ◌∷◌, ◌++◌, length, get_or, drop, set, replicate, map, Option, Some, None, refl, sym, ap, ◌∙◌, subst, arith}
use Rattle.std.specs.Prelude.{◌||◌, nat_eq, if◌then◌else◌}
use Rattle.std.proofs.lemmas.Bool.{eqb-true, eqb-false}
use Rattle.std.proofs.lemmas.List.{drop_all, drop_more, get_or-set_same, get_or-set_other, get_or-replicate, length-replicate}
use Rattle.mm_classes.specs.Lists.{has}
use Rattle.mm_core.specs.declared.tree.CoreFn.{CoreFn}
use Rattle.mm_core.specs.Tree.{Function}
use Rattle.mm_core.specs.View.{function_view}
use Rattle.mm_complete.specs.Complete.{is_lacking, lacking_from}
use Rattle.mm_complete.specs.Marks.{MarksOne, AreMarks}

-- ---- marks

or_true : (a : Bool) → (a || true) ≡ true
or_true true = refl
or_true false = refl

or_false : (a : Bool) → (a || false) ≡ a
or_false true = refl
or_false false = refl

or_assoc : (a b c : Bool) → ((a || b) || c) ≡ (a || (b || c))
or_assoc true b c = refl
or_assoc false b c = refl

-- a mark that is set
pub set_one : (old : List Bool) (n : ℕ) → n < length old → MarksOne old n (set old n true)
set_one old n low k h = by (nat_eq n k) refl
  where
    by : (b : Bool) → nat_eq n k ≡ b → get_or (set old n true) k false ≡ (get_or old k false || nat_eq n k)
    by true e =
        let s : n ≡ k = eqb-true n k e in
        subst (λ j. get_or (set old n true) j false ≡ true) s (get_or-set_same old n true false low) ∙ sym (or_true (get_or old k false)) ∙ ap (λ b. get_or old k false || b) (sym e)
    by false e =
        get_or-set_other old n k true false (λ s. eqb-false n k e (sym s)) ∙ sym (or_false (get_or old k false)) ∙ ap (λ b. get_or old k false || b) (sym e)

-- a number past all marks
pub set_none : (old : List Bool) (n : ℕ) → length old ≤ n → MarksOne old n old
set_none old n high k h = by (nat_eq n k) refl
  where
    by : (b : Bool) → nat_eq n k ≡ b → get_or old k false ≡ (get_or old k false || nat_eq n k)
    by true e = let s : n ≡ k = eqb-true n k e in absurd (omega (arith, s, high, h))
    by false e = sym (or_false (get_or old k false)) ∙ ap (λ b. get_or old k false || b) (sym e)

-- below n a number is marked already, or is among those that are left
pub record SoFar (n : ℕ) (numbers : List ℕ) (i : ℕ) (marks : List Bool) : Type 0 where
  pub lengths : length marks ≡ n
  pub each : (k : ℕ) → k < n → (get_or marks k false || has (drop i numbers) k) ≡ has numbers k

pub end : (n : ℕ) (numbers : List ℕ) (i : ℕ) (marks : List Bool) → length numbers ≤ i → SoFar n numbers i marks → AreMarks marks n numbers
end n numbers i marks past so = record {
  lengths = so.lengths;
  each = λ k low. sym (or_false (get_or marks k false)) ∙ ap (λ l. get_or marks k false || has l k) (sym (drop_all i numbers past)) ∙ so.each k low;
}

pub next : (n : ℕ) (numbers : List ℕ) (i : ℕ) (marks marks' : List Bool) → i < length numbers → SoFar n numbers i marks → length marks' ≡ length marks → MarksOne marks (get_or numbers i 0) marks' → SoFar n numbers (i + 1) marks'
next n numbers i marks marks' low so same one = record {
  lengths = same ∙ so.lengths;
  each = λ k h.
      let rest = drop (i + 1) numbers in
      let split : drop i numbers ≡ get_or numbers i 0 ∷ rest = drop_more numbers i 0 low in
      let below : k < length marks = omega (arith, h, so.lengths) in
      ap (λ b. b || has rest k) (one k below) ∙ or_assoc (get_or marks k false) (nat_eq (get_or numbers i 0) k) (has rest k)
      ∙ ap (λ l. get_or marks k false || has l k) (sym split) ∙ so.each k h;
}

pub start : (n : ℕ) (numbers : List ℕ) (marks : List Bool) → marks ≡ replicate n false → SoFar n numbers 0 marks
start n numbers marks is = record {
  lengths = ap length is ∙ length-replicate n false;
  each = λ k h. ap (λ l. get_or l k false || has numbers k) is ∙ ap (λ b. b || has numbers k) (get_or-replicate n k false false h);
}

-- ---- the first that is lacking

taken : (b : Bool) (f : Function) (o : Option Function) → b ≡ true → (if b then Some f else o) ≡ Some f
taken true f o e = refl
taken false f o e = absurd (let x : ⊥ = cc in x)

passed : (b : Bool) (f : Function) (o : Option Function) → b ≡ false → (if b then Some f else o) ≡ o
passed true f o e = absurd (let x : ⊥ = cc in x)
passed false f o e = refl

-- those from a place on
from : (fs : List CoreFn) (i : ℕ) (f : CoreFn) → f ≡ get_or fs i f → i < length fs → map function_view (drop i fs) ≡ function_view f ∷ map function_view (drop (i + 1) fs)
from fs i f is low = ap (map function_view) (drop_more fs i f low ∙ ap (λ y. y ∷ drop (i + 1) fs) (sym is))

pub found : (ns : List ℕ) (fs : List CoreFn) (i : ℕ) (f : CoreFn) → f ≡ get_or fs i f → i < length fs → is_lacking ns i (function_view f) ≡ true → Some (function_view f) ≡ lacking_from ns i (map function_view (drop i fs))
found ns fs i f is low e = sym (ap (lacking_from ns i) (from fs i f is low) ∙ taken (is_lacking ns i (function_view f)) (function_view f) (lacking_from ns (i + 1) (map function_view (drop (i + 1) fs))) e)

pub others : (ns : List ℕ) (fs : List CoreFn) (i : ℕ) (f : CoreFn) → f ≡ get_or fs i f → i < length fs → is_lacking ns i (function_view f) ≡ false → lacking_from ns (i + 1) (map function_view (drop (i + 1) fs)) ≡ lacking_from ns i (map function_view (drop i fs))
others ns fs i f is low e = sym (ap (lacking_from ns i) (from fs i f is low) ∙ passed (is_lacking ns i (function_view f)) (function_view f) (lacking_from ns (i + 1) (map function_view (drop (i + 1) fs))) e)

pub nothing : (ns : List ℕ) (fs : List CoreFn) (i : ℕ) → length fs ≤ i → None ≡ lacking_from ns i (map function_view (drop i fs))
nothing ns fs i past = sym (ap (λ l. lacking_from ns i (map function_view l)) (drop_all i fs past))
