-- Where an element of a list of blocks stands.
use Rattle.std.proofs.Common.{◌≡◌, ℕ, zero, suc, ◌+◌, ◌<◌, List, [], ◌∷◌, ◌++◌, length, get_or, take, drop, map, refl, sym, subst, ap, ap₂, ◌∙◌, inl, inr, arith, append_assoc, length-append}
use Rattle.std.specs.Prelude.{◌⊎◌}
use Rattle.std.specs.List.{flat_map}
use Rattle.std.proofs.lemmas.List.{take-append-drop, drop_more, length-take-le, get_or-append-add, get_or_append_left}
use Rattle.mm_classes.specs.Lists.{Has, first, later, Distinct}
use Rattle.mm_classes.proofs.Lists.{Has-right}

-- an element of blocks one after the other stands in one of them
pub record Cut {X Y : Type 0} (f : X → List Y) (xs : List X) (a : List Y) (y : Y) : Type 0 where
  pub before : List X
  pub at : X
  pub after : List X
  pub left : List Y
  pub right : List Y
  pub whole : xs ≡ before ++ at ∷ after
  pub inner : f at ≡ left ++ y ∷ right
  pub place : a ≡ flat_map f before ++ left

tail_same : {X : Type 0} (x y : X) (xs ys : List X) → x ∷ xs ≡ y ∷ ys → xs ≡ ys
tail_same x y xs ys e = cc

head_same : {X : Type 0} (x y : X) (xs ys : List X) → x ∷ xs ≡ y ∷ ys → x ≡ y
head_same x y xs ys e = cc

append_cut : {Y : Type 0} (u w a : List Y) (y : Y) (b : List Y) → u ++ w ≡ a ++ y ∷ b
    → ((r : List Y) × (u ≡ a ++ y ∷ r)) ⊎ ((c : List Y) × (a ≡ u ++ c) × (w ≡ c ++ y ∷ b))
append_cut [] w a y b e = inr (a, refl, e)
append_cut (z ∷ u) w [] y b e = inl (u, ap (λ k. k ∷ u) (head_same z y (u ++ w) b e))
append_cut (z ∷ u) w (k ∷ a) y b e =
    let h = head_same z k (u ++ w) (a ++ y ∷ b) e in
    elim (append_cut u w a y b (tail_same z k (u ++ w) (a ++ y ∷ b) e)) [
      | inl r ↦ inl (r.0, ap₂ (λ p q. p ∷ q) h r.1)
      | inr r ↦ inr (r.0, ap₂ (λ p q. p ∷ q) (sym h) r.1, r.2)
    ]

not_nil : {Y : Type 0} (a : List Y) (y : Y) (b : List Y) → [] ≡ a ++ y ∷ b → ⊥
not_nil [] y b e = cc
not_nil (k ∷ a) y b e = cc

pub flat_map-cut : {X Y : Type 0} (f : X → List Y) (xs : List X) (a : List Y) (y : Y) (b : List Y) → flat_map f xs ≡ a ++ y ∷ b → Cut f xs a y
flat_map-cut f [] a y b e = absurd (not_nil a y b e)
flat_map-cut f (x ∷ xs) a y b e = elim (append_cut (f x) (flat_map f xs) a y b e) [
  | inl r ↦ record { before = []; at = x; after = xs; left = a; right = r.0; whole = refl; inner = r.1; place = refl }
  | inr r ↦ (
      let i = flat_map-cut f xs r.0 y b r.2 in
      record {
        before = x ∷ i.before;
        at = i.at;
        after = i.after;
        left = i.left;
        right = i.right;
        whole = ap (λ z. x ∷ z) i.whole;
        inner = i.inner;
        place = r.1 ∙ (ap (λ z. f x ++ z) i.place ∙ sym (append_assoc (f x) (flat_map f i.before) i.left));
      })
]

pub map-cut : {X Y : Type 0} (f : X → Y) (xs : List X) (a : List Y) (y : Y) (b : List Y) → map f xs ≡ a ++ y ∷ b
    → (c : List X) × (x : X) × (d : List X) × (xs ≡ c ++ x ∷ d) × (a ≡ map f c) × (y ≡ f x)
map-cut f [] a y b e = absurd (not_nil a y b e)
map-cut f (x ∷ xs) [] y b e = ([], x, xs, refl, refl, sym (head_same (f x) y (map f xs) b e))
map-cut f (x ∷ xs) (k ∷ a) y b e =
    let i = map-cut f xs a y b (tail_same (f x) k (map f xs) (a ++ y ∷ b) e) in
    (x ∷ i.0, i.1, i.2, ap (λ z. x ∷ z) i.3, ap₂ (λ p q. p ∷ q) (sym (head_same (f x) k (map f xs) (a ++ y ∷ b) e)) i.4, i.5)

-- a list at a place, and back
pub cut_at : {X : Type 0} (xs : List X) (n : ℕ) (d : X) → n < length xs → (xs ≡ take n xs ++ get_or xs n d ∷ drop (n + 1) xs) × (length (take n xs) ≡ n)
cut_at xs n d l = (sym (take-append-drop n xs) ∙ ap (λ z. take n xs ++ z) (drop_more xs n d l), length-take-le n xs (omega arith))

pub read_at : {X : Type 0} (a ys b : List X) (m : ℕ) (d : X) → m < length ys → (length a + m < length (a ++ (ys ++ b))) × (get_or (a ++ (ys ++ b)) (length a + m) d ≡ get_or ys m d)
read_at a ys b m d l =
    let k = length-append a (ys ++ b) in
    let n = length-append ys b in
    (omega arith, get_or-append-add a (ys ++ b) m d ∙ get_or_append_left ys b d m l)

pub regroup : {X : Type 0} (p l k e r : List X) → p ++ ((l ++ (k ++ e)) ++ r) ≡ (p ++ l) ++ (k ++ (e ++ r))
regroup p l k e r = simp append_assoc

pub has_middle : {X : Type 0} (a : List X) (x : X) (b : List X) → Has (a ++ x ∷ b) x
has_middle a x b = Has-right a (x ∷ b) (first refl)

pub has_at : {X : Type 0} (xs : List X) (i : ℕ) (d : X) → i < length xs → Has xs (get_or xs i d)
has_at [] i d h = absurd (omega arith)
has_at (x ∷ xs) zero d h = first refl
has_at (x ∷ xs) (suc i) d h = later (has_at xs i d (omega arith))

-- an element of a list without repeats has one place
pub one_place : {X : Type 0} (xs : List X) (i j : ℕ) (d : X) → Distinct xs → i < length xs → j < length xs → get_or xs i d ≡ get_or xs j d → i ≡ j
one_place [] i j d u l m e = absurd (omega arith)
one_place (x ∷ xs) zero zero d u l m e = refl
one_place (x ∷ xs) zero (suc j) d u l m e = absurd (u.0 (subst (Has xs) (sym e) (has_at xs j d (omega arith))))
one_place (x ∷ xs) (suc i) zero d u l m e = absurd (u.0 (subst (Has xs) e (has_at xs i d (omega arith))))
one_place (x ∷ xs) (suc i) (suc j) d u l m e = ap suc (one_place xs i j d u.1 (omega arith) (omega arith) e)
