-- The sets of subobjects and the rule of overriding, said as relations. Each function that computes
-- one gives what its relation says. (ISO/IEC 14882, 10, 10.2 and 10.3; own on open-methods.)
use Rattle.std.specs.Prelude.{◌≡◌, ◌⊎◌, ◌↔◌, ℕ, IsTrue, List, Some}
use Rattle.std.specs.List.{list_any}
use Rattle.mm_classes.specs.declared.class.Member.{Member}
use Rattle.mm_classes.specs.Classes.{Class, members_of, Derives}
use Rattle.mm_classes.specs.Subobjects.{Path, IsSubobject, end_of, IsWithin}
use Rattle.mm_core.specs.Tree.{Function}
use Rattle.mm_core.specs.Heads.{same_function}
use Rattle.mm_core.specs.Sets.{only, ups, is_a, arounds}
use Rattle.mm_core.specs.Finals.{final_of}
use Rattle.mm_core.specs.Families.{overrides}

-- x alone has the property
pub record IsOnly {X : Type 0} (P : X → Type 0) (x : X) : Type 0 where
  pub has : P x
  pub no_other : (y : X) → P y → y ≡ x

-- q is a way from c up to b
abbrev pub IsWay : List Class → ℕ → ℕ → Path → Type 0
IsWay g c b q = IsSubobject g c q × (end_of q ≡ b)

-- t is a subobject of d, of class c, that contains s
abbrev pub IsAround : List Class → ℕ → Path → ℕ → Path → Type 0
IsAround g d s c t = IsSubobject g d t × (end_of t ≡ c) × IsWithin g s t

-- t is a subobject of d that contains s and whose class declares the function
abbrev pub IsOverrider : List Class → ℕ → Path → Member → Path → Type 0
IsOverrider g d s m t = IsSubobject g d t × IsWithin g s t ×
    IsTrue (list_any (same_function m) (members_of g (end_of t)))

-- t has the property, and no other one that has it contains t
abbrev pub IsTop : List Class → (Path → Type 0) → Path → Type 0
IsTop g P t = P t × ((u : Path) → P u → IsWithin g t u → u ≡ t)

-- the final overrider
abbrev pub IsFinal : List Class → ℕ → Path → Member → Path → Type 0
IsFinal g d s m = IsOnly (IsTop g (IsOverrider g d s m))

pub record Reads (g : List Class) : Type 0 where
  pub ways : (c b : ℕ) (q : Path) → (only (ups g c b) ≡ Some q) ↔ IsOnly (IsWay g c b) q
  pub around : (d : ℕ) (s : Path) (c : ℕ) (t : Path) →
      (only (arounds g d s c) ≡ Some t) ↔ IsOnly (IsAround g d s c) t
  pub final : (d : ℕ) (s : Path) (m : Member) (t : Path) →
      (final_of g d s m ≡ Some t) ↔ IsFinal g d s m t
  pub derives : (c b : ℕ) → IsTrue (is_a g c b) ↔ ((c ≡ b) ⊎ Derives g c b)

-- No declaration overrides itself, and overriding is transitive.
pub record Orders (g : List Class) : Type 0 where
  pub itself : (r : Function) → IsTrue (overrides g r r) → ⊥
  pub through : (r q o : Function) → IsTrue (overrides g r q) → IsTrue (overrides g q o) →
      IsTrue (overrides g r o)
