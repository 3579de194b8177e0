-- The access of a member along direct bases. ISO/IEC 14882:1998, 11 (member access control), 11.2 (accessibility of base
-- classes and base class members), 11.7 (multiple access).
use Rattle.std.specs.Prelude.{◌≡◌, ℕ, ◌≤◌, ◌⊎◌, List, [], ◌∷◌, cond, nat_lt, Option, None, Some}
use Rattle.mm_classes.specs.declared.class.Access.{Access}
use Rattle.mm_classes.specs.declared.class.Access.TheVariants.{Public, Protected, Private}
use Rattle.mm_classes.specs.declared.class.Base.{Base}
use Rattle.mm_classes.specs.Lists.{Has}
use Rattle.mm_classes.specs.Classes.{Class, bases_of}
use Rattle.mm_classes.specs.Subobjects.{Path, compose}

-- how much an access lets through; none is the least
abbrev pub grade : Option Access → ℕ
grade None = 0
grade (Some Private) = 1
grade (Some Protected) = 2
grade (Some Public) = 3

-- the greater of two
abbrev pub greater : Option Access → Option Access → Option Access
greater x y = cond (nat_lt (grade x) (grade y)) y x

-- x is the greatest of those with a property, or none where there is none
pub record IsGreatestOf (W : Option Access → Type 0) (x : Option Access) : Type 0 where
  pub among : (x ≡ None) ⊎ W x
  pub above : (y : Option Access) → W y → grade y ≤ grade x

-- the lesser of two
abbrev pub lesser : Access → Access → Access
lesser Public a = a
lesser Protected Public = Protected
lesser Protected Protected = Protected
lesser Protected Private = Private
lesser Private a = Private

-- What access a member of a base has in the class that lists the base with access k: what is private in the base has none,
-- and the rest has the lesser of the two (11.2).
abbrev pub passed : Access → Option Access → Option Access
passed k None = None
passed k (Some Private) = None
passed k (Some Protected) = Some (lesser k Protected)
passed k (Some Public) = Some (lesser k Public)

-- the subobject of c that a direct base is
abbrev pub link_of : ℕ → Base → Path
link_of c b = cond b.shared (b.class ∷ []) (c ∷ b.class ∷ [])

-- a chain of direct bases from c on
abbrev pub AreLinks : List Class → ℕ → List Base → Type 0
AreLinks g c [] = Unit {0}
AreLinks g c (b ∷ bs) = Has (bases_of g c) b × AreLinks g b.class bs

-- the subobject of c that the chain leads to
abbrev pub composed_links : ℕ → List Base → Path
composed_links c [] = c ∷ []
composed_links c (b ∷ bs) = compose (link_of c b) (composed_links b.class bs)

-- what is left of an access where the chain begins, of what it is where the chain ends
abbrev pub access_along : List Base → Option Access → Option Access
access_along [] x = x
access_along (b ∷ bs) x = passed b.access (access_along bs x)

-- The access that a member of access a of the subobject q has where it is named in class n: the greatest along all chains
-- of direct bases that lead to q (11.7).
pub record IsAccess (g : List Class) (n : ℕ) (q : Path) (a : Access) (x : Option Access) : Type 0 where
  pub way : (bs : List Base) × AreLinks g n bs × (composed_links n bs ≡ q) × (access_along bs (Some a) ≡ x)
  pub greatest : (bs : List Base) → AreLinks g n bs → composed_links n bs ≡ q → grade (access_along bs (Some a)) ≤ grade x
