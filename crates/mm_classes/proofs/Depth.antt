-- The depth of a class is above that of each direct base, and needs no bound.
use Rattle.std.proofs.Common.{◌≡◌, ℕ, zero, suc, ◌+◌, ◌≤◌, List, [], ◌∷◌, length, map, refl, ap, arith}
use Rattle.mm_classes.specs.declared.class.Base.{Base}
use Rattle.mm_classes.specs.Lists.{Has, first, later}
use Rattle.mm_classes.specs.Classes.{Class, bases_of, IsClassList, most, depth_within, depth_of}
use Rattle.mm_classes.specs.Laws.{Deepens}
use Rattle.mm_classes.proofs.Subs.{no_bases, deep}

pub map-same : {X Y : Type 0} (f h : X → Y) (xs : List X) → ((x : X) → Has xs x → f x ≡ h x) → map f xs ≡ map h xs
map-same f h [] e = refl
map-same f h (x ∷ xs) e = rw (e x (first refl)) (ap (λ ys. h x ∷ ys) (map-same f h xs (λ y k. e y (later k))))

pub most-has : {X : Type 0} (f : X → ℕ) (xs : List X) {x : X} → Has xs x → f x ≤ most (map f xs)
most-has f [] h = elim h [ ]
most-has f (y ∷ xs) (first e) = let k = ap f e in omega arith
most-has f (y ∷ xs) (later h) = let k = most-has f xs h in omega arith

most-within : {X : Type 0} (f : X → ℕ) (xs : List X) (n : ℕ) → ((x : X) → Has xs x → f x ≤ n) → most (map f xs) ≤ n
most-within f [] n h = omega arith
most-within f (x ∷ xs) n h = let k = h x (first refl) in let i = most-within f xs n (λ y m. h y (later m)) in omega arith

module _ (g : List Class) (ok : IsClassList g) where
  depth-same : (n m c : ℕ) → ok.rank c ≤ n → ok.rank c ≤ m → depth_within g n c ≡ depth_within g m c
  depth-same zero zero c a b = refl
  depth-same (suc n) (suc m) c a b = ap most (map-same (λ (b : Base). depth_within g n b.class + 1) (λ (b : Base). depth_within g m b.class + 1) (bases_of g c) (λ x h.
      let f = ok.falls c x h in ap (λ k. k + 1) (depth-same n m x.class (omega arith) (omega arith))))
  depth-same zero (suc m) c a b = rw (no_bases g ok c a) refl
  depth-same (suc n) zero c a b = rw (no_bases g ok c b) refl

  pub depth-all : (n c : ℕ) → ok.rank c ≤ n → depth_within g n c ≡ depth_of g c
  depth-all n c a = depth-same n (length g) c a (deep g ok c)

  depth-step : (n c : ℕ) → ok.rank c ≤ n → depth_within g n c ≡ most (map (λ (b : Base). depth_of g b.class + 1) (bases_of g c))
  depth-step zero c a = rw (no_bases g ok c a) refl
  depth-step (suc n) c a = ap most (map-same (λ (b : Base). depth_within g n b.class + 1) (λ (b : Base). depth_of g b.class + 1) (bases_of g c) (λ x h.
      let f = ok.falls c x h in ap (λ k. k + 1) (depth-all n x.class (omega arith))))

  pub depth-unfold : (c : ℕ) → depth_of g c ≡ most (map (λ (b : Base). depth_of g b.class + 1) (bases_of g c))
  depth-unfold c = depth-step (length g) c (deep g ok c)

  depth-low : (n c : ℕ) → depth_within g n c ≤ ok.rank c
  depth-low zero c = omega arith
  depth-low (suc n) c = most-within (λ (b : Base). depth_within g n b.class + 1) (bases_of g c) (ok.rank c) (λ x h.
      let f = ok.falls c x h in let i = depth-low n x.class in omega arith)

  pub deepens : (c : ℕ) → Deepens g c
  deepens c = record {
    below = λ b h. let u = depth-unfold c in let m = most-has (λ (b : Base). depth_of g b.class + 1) (bases_of g c) h in omega arith;
    low = let a = depth-low (length g) c in let b = deep g ok c in omega arith;
  }
