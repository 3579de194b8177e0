-- What callers may rely on of subobjects.
use Rattle.std.specs.Prelude.{◌≡◌, ℕ, ◌<◌, ◌≤◌, List, length, Option}
use Rattle.mm_classes.specs.declared.class.Access.{Access}
use Rattle.mm_classes.specs.declared.class.Base.{Base}
use Rattle.mm_classes.specs.Lists.{Has, Distinct}
use Rattle.mm_classes.specs.Classes.{Class, bases_of, depth_of, IsComplete}
use Rattle.mm_classes.specs.Access.{IsAccess}
use Rattle.mm_classes.specs.Subobjects.{Path, IsSubobject, subobjects_of, compose, end_of, IsWithin}

-- the list of the subobjects of d holds exactly these, each once
pub record AreNodes (g : List Class) (d : ℕ) : Type 0 where
  pub sound : (p : Path) → Has (subobjects_of g d) p → IsSubobject g d p
  pub whole : (p : Path) → IsSubobject g d p → Has (subobjects_of g d) p
  pub once : Distinct (subobjects_of g d)

-- composition stays among the subobjects, is associative and one to one, and containment is an order
pub record Composes (g : List Class) : Type 0 where
  pub closed : (d : ℕ) (p q : Path) → IsSubobject g d p → IsSubobject g (end_of p) q → IsSubobject g d (compose p q)
  pub ends : (d : ℕ) (p q : Path) → IsSubobject g d p → IsSubobject g (end_of p) q → end_of (compose p q) ≡ end_of q
  pub associates : (d : ℕ) (p q r : Path) → IsSubobject g d p → IsSubobject g (end_of p) q → IsSubobject g (end_of q) r → compose p (compose q r) ≡ compose (compose p q) r
  pub apart : (d : ℕ) (p q r : Path) → IsSubobject g d p → IsSubobject g (end_of p) q → IsSubobject g (end_of p) r → compose p q ≡ compose p r → q ≡ r
  pub itself : (d : ℕ) (t : Path) → IsSubobject g d t → IsWithin g t t
  pub through : (d : ℕ) (t s r : Path) → IsSubobject g d t → IsWithin g s t → IsWithin g r s → IsWithin g r t
  pub both : (d : ℕ) (t s : Path) → IsSubobject g d t → IsSubobject g d s → IsWithin g s t → IsWithin g t s → t ≡ s

-- a member of each subobject of a complete class has one access there, whatever access it is declared with
pub record HasAccess (g : List Class) : Type 0 where
  pub each : (d : ℕ) (p : Path) (a : Access) → IsComplete g d → IsSubobject g d p → (x : Option Access) × IsAccess g d p a x
  pub one : (d : ℕ) (p : Path) (a : Access) (x y : Option Access) → IsAccess g d p a x → IsAccess g d p a y → x ≡ y

-- a direct base has a lower depth
pub record Deepens (g : List Class) (c : ℕ) : Type 0 where
  pub below : (b : Base) → Has (bases_of g c) b → depth_of g b.class < depth_of g c
  pub low : depth_of g c ≤ length g
