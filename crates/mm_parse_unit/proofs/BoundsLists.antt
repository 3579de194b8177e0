-- Sums over lists, and what holds of each of their elements.
use Rattle.std.proofs.Common.{◌≡◌, ℕ, ◌+◌, List, [], ◌∷◌, ◌++◌, length, map, flat_map, sum, sum_by, All, refl, ap, ◌∙◌, arith}
use Rattle.std.proofs.lemmas.List.Sums.{sum_by-cons, sum-map}
use Rattle.std.proofs.lemmas.List.Elements.{All-nil, All-cons}
use Rattle.mm_parse_unit.proofs.BoundsWeights.{total, Every}

pub every_all : {A : Type 0} (P : A → Type 0) (xs : List A) → Every P xs → All P xs
every_all P [] h = All-nil P
every_all P (x ∷ xs) h = All-cons P x xs h.0 (every_all P xs h.1)

pub every_append : {A : Type 0} (P : A → Type 0) (xs ys : List A) → Every P xs → Every P ys → Every P (xs ++ ys)
every_append P [] ys h k = k
every_append P (x ∷ xs) ys h k = (h.0, every_append P xs ys h.1 k)

pub every_flat : {A B : Type 0} (P : B → Type 0) (f : A → List B) (xs : List A) → Every (λ x. Every P (f x)) xs → Every P (flat_map f xs)
every_flat P f [] h = tt
every_flat P f (x ∷ xs) h = every_append P (f x) (flat_map f xs) h.0 (every_flat P f xs h.1)

pub every_map : {A B : Type 0} (P : B → Type 0) (f : A → B) (xs : List A) → Every (λ x. P (f x)) xs → Every P (map f xs)
every_map P f [] h = tt
every_map P f (x ∷ xs) h = (h.0, every_map P f xs h.1)

pub every_along : {A : Type 0} (P R : A → Type 0) → ((x : A) → P x → R x) → (xs : List A) → Every P xs → Every R xs
every_along P R f [] h = tt
every_along P R f (x ∷ xs) h = (f x h.0, every_along P R f xs h.1)

sum_by_total : {A : Type 0} (f : A → ℕ) (xs : List A) → sum_by f xs ≡ total f xs
sum_by_total f [] = refl
sum_by_total f (x ∷ xs) = sum_by-cons f x xs ∙ ap (λ n. f x + n) (sum_by_total f xs)

pub sum_total : {A : Type 0} (f : A → ℕ) (xs : List A) → sum (map f xs) ≡ total f xs
sum_total f xs = sum-map f xs ∙ sum_by_total f xs

pub total_append : {A : Type 0} (f : A → ℕ) (xs ys : List A) → total f (xs ++ ys) ≡ total f xs + total f ys
total_append f [] ys = omega arith
total_append f (x ∷ xs) ys = omega (arith, total_append f xs ys)

pub total_flat : {A B : Type 0} (f : B → ℕ) (g : A → List B) (xs : List A) → total f (flat_map g xs) ≡ total (λ x. total f (g x)) xs
total_flat f g [] = refl
total_flat f g (x ∷ xs) = omega (arith, total_append f (g x) (flat_map g xs), total_flat f g xs)

pub total_both : {A : Type 0} (f g : A → ℕ) (xs : List A) → total (λ x. f x + g x) xs ≡ total f xs + total g xs
total_both f g [] = omega arith
total_both f g (x ∷ xs) = omega (arith, total_both f g xs)

pub total_length : {A : Type 0} (xs : List A) → total (λ x. 1) xs ≡ length xs
total_length [] = refl
total_length (x ∷ xs) = omega (arith, total_length xs)
