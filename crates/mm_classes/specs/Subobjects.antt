-- The subobjects of a class, as lists of classes. ISO/IEC 14882:1998, 10.1 (multiple base classes), 10.1/4 (virtual
-- bases); the lists are those of Rossie and Friedman, "An algebraic semantics of subobjects", 1995.
use Rattle.std.specs.Prelude.{◌≡◌, ℕ, zero, suc, true, false, List, [], ◌∷◌, ◌++◌, map, length, nat_eq, ◌⊎◌, cond}
use Rattle.std.specs.List.{flat_map}
use Rattle.mm_classes.specs.declared.class.Base.{Base}
use Rattle.mm_classes.specs.Lists.{Has, firsts}
use Rattle.mm_classes.specs.Classes.{Class, bases_of}

-- a list of classes, by their numbers
abbrev pub Path : Type 0
Path = List ℕ

-- WHICH
-- b is a direct non-virtual base of c
abbrev pub IsPlainBase : List Class → ℕ → ℕ → Type 0
IsPlainBase g c b = (x : Base) × Has (bases_of g c) x × (x.shared ≡ false) × (x.class ≡ b)

-- from c on, each class is a direct non-virtual base of the one before
abbrev pub IsChain : List Class → ℕ → Path → Type 0
IsChain g c [] = Unit {0}
IsChain g c (b ∷ bs) = IsPlainBase g c b × IsChain g b bs

-- v is a virtual base of c: c, or a direct or indirect base of c, lists it as virtual (10.1/4)
pub data IsVirtual (g : List Class) : ℕ → ℕ → Type 0 where
  listed : {c v : ℕ} (x : Base) → Has (bases_of g c) x → x.shared ≡ true → x.class ≡ v → IsVirtual g c v
  below : {c v : ℕ} (x : Base) → Has (bases_of g c) x → IsVirtual g x.class v → IsVirtual g c v

-- A subobject of d: its head is d or a virtual base of d, and each next class is a direct non-virtual base of the one
-- before. One subobject stands for each way along non-virtual bases, and one for each virtual base (10.1/4, 10.1/5).
abbrev pub IsSubobject : List Class → ℕ → Path → Type 0
IsSubobject g d [] = ⊥
IsSubobject g d (h ∷ t) = ((h ≡ d) ⊎ IsVirtual g d h) × IsChain g h t

-- IN WHICH ORDER (own)
-- the direct non-virtual bases, from left to right
abbrev pub plain_bases : List Base → List ℕ
plain_bases [] = []
plain_bases (b ∷ bs) = cond b.shared (plain_bases bs) (b.class ∷ plain_bases bs)

-- the subobjects that begin with c: c itself, then depth first by its direct non-virtual bases; n bounds the depth
abbrev pub chains : List Class → ℕ → ℕ → List Path
chains g zero c = (c ∷ []) ∷ []
chains g (suc n) c = (c ∷ []) ∷ flat_map (λ b. map (λ p. c ∷ p) (chains g n b)) (plain_bases (bases_of g c))

-- a base, where it is virtual
abbrev pub met : Base → List ℕ
met b = cond b.shared (b.class ∷ []) []

-- what a depth-first, left-to-right walk of all bases of c meets as virtual; n bounds the depth
abbrev pub walk : List Class → ℕ → ℕ → List ℕ
walk g zero c = []
walk g (suc n) c = flat_map (λ (b : Base). met b ++ walk g n b.class) (bases_of g c)

-- the virtual bases, each once, in the order in which the walk meets them
abbrev pub virtual_bases : List Class → ℕ → List ℕ
virtual_bases g d = firsts (walk g (length g) d)

-- The subobjects of d: those that begin with d, then those that begin with each virtual base.
abbrev pub subobjects_of : List Class → ℕ → List Path
subobjects_of g d = chains g (length g) d ++ flat_map (chains g (length g)) (virtual_bases g d)

-- COMPOSITION AND CONTAINMENT (Rossie and Friedman)
-- the class that ends a path that begins with c
abbrev pub last_of : ℕ → Path → ℕ
last_of c [] = c
last_of c (b ∷ bs) = last_of b bs

-- the class that ends a path: the subobject is of this class
abbrev pub end_of : Path → ℕ
end_of [] = 0
end_of (c ∷ cs) = last_of c cs

-- p, and q in it: q begins with the class that ends p, and then goes on from p; or it begins at a virtual base, of which
-- the whole has one
abbrev pub compose : Path → Path → Path
compose p [] = []
compose p (c ∷ cs) = cond (nat_eq c (end_of p)) (p ++ cs) (c ∷ cs)

-- s is within t, which is to say that t contains s: some subobject of the class that ends t is s, seen from t
abbrev pub IsWithin : List Class → Path → Path → Type 0
IsWithin g s t = (q : Path) × IsSubobject g (end_of t) q × (compose t q ≡ s)
