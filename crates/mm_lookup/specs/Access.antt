-- Who may use a member. ISO/IEC 14882:1998, 11.2 (accessibility of base classes and base class members), 11.5 (protected
-- member access), in outline.
use Rattle.std.specs.Prelude.{◌≡◌, ◌≢◌, ℕ, List, [], ◌∷◌, ◌⊎◌, Option, None, Some, map, get_or}
use Rattle.mm_classes.specs.declared.class.Access.{Access}
use Rattle.mm_classes.specs.declared.class.Access.TheVariants.{Public, Protected, Private}
use Rattle.mm_classes.specs.declared.class.Member.{Member}
use Rattle.mm_classes.specs.Access.{IsAccess}
use Rattle.mm_classes.specs.Classes.{Class, IsComplete, Derives, members_of}
use Rattle.mm_classes.specs.Subobjects.{Path, IsSubobject, end_of, compose}
use Rattle.mm_classes.specs.Questions.{node}

-- A member of access a of the subobject q may be used where it is named in class n, from a member function of class f or from
-- outside all classes, in one of the first three cases (11.2/4): it is public there; or it has some access, and f is n; or it is
-- protected there, f derives from n, and it has some access where it is named in f, by some way to n.
pub data UsesAt (g : List Class) (f : Option ℕ) : ℕ → Path → Access → Type 0 where
  everywhere : {n : ℕ} {q : Path} {a : Access} → IsAccess g n q a (Some Public) → UsesAt g f n q a
  own : {n : ℕ} {q : Path} {a : Access} (x : Access) → IsAccess g n q a (Some x) → f ≡ Some n → UsesAt g f n q a
  derived : {n : ℕ} {q : Path} {a : Access} (c : ℕ) (r : Path) (x : Access) → f ≡ Some c → Derives g c n → IsAccess g n q a (Some Protected)
      → IsSubobject g c r → end_of r ≡ n → IsAccess g c (compose r q) a (Some x) → UsesAt g f n q a

-- The fourth case: some base of n may be used, and the member may be used where it is named in that base.
pub data MayUse (g : List Class) (f : Option ℕ) : ℕ → Path → Access → Type 0 where
  at_once : {n : ℕ} {q : Path} {a : Access} → UsesAt g f n q a → MayUse g f n q a
  by_base : {n : ℕ} {q : Path} {a : Access} (r p : Path) → IsSubobject g n r → r ≢ n ∷ [] → IsSubobject g (end_of r) p → compose r p ≡ q
      → MayUse g f n r Public → MayUse g f (end_of r) p a → MayUse g f n q a

-- the base r of class c may be used: a public member of it may
abbrev pub BaseIsAccessible : List Class → Option ℕ → ℕ → Path → Type 0
BaseIsAccessible g f c r = MayUse g f c r Public

-- The further check on a protected member, declared by class c, of an object of class x: from a member function of a class that
-- derives from c, x is that class or derives from it (11.5).
abbrev pub IsReached : List Class → Option ℕ → Access → ℕ → ℕ → Type 0
IsReached g None a c x = Unit {0}
IsReached g (Some f) a c x = a ≡ Protected → Derives g f c → (x ≡ f) ⊎ Derives g x f

-- The same in two steps: a public one to a subobject, and then one of the first three cases, at that subobject's class. Own.
pub record IsCollapsed (g : List Class) (f : Option ℕ) (n : ℕ) (q : Path) (a : Access) : Type 0 where
  pub step : Path
  pub rest : Path
  pub step_in : IsSubobject g n step
  pub rest_in : IsSubobject g (end_of step) rest
  pub whole : compose step rest ≡ q
  pub leads : IsAccess g n step Public (Some Public)
  pub uses : UsesAt g f (end_of step) rest a

-- the two are the same
pub record Collapses (g : List Class) : Type 0 where
  pub to : (f : Option ℕ) (n : ℕ) (q : Path) (a : Access) → IsComplete g n → MayUse g f n q a → IsCollapsed g f n q a
  pub back : (f : Option ℕ) (n : ℕ) (q : Path) (a : Access) → IsCollapsed g f n q a → MayUse g f n q a

-- WHAT IS ASKED
-- the access with which the k-th member of the class of the subobject q is declared
abbrev pub declared_access : List Class → Path → ℕ → Access
declared_access g q k = get_or (map (λ (m : Member). m.access) (members_of g (end_of q))) k Private

-- that member may be used where it is named in class n, of an object of class x
abbrev pub IsAllowed : List Class → Option ℕ → ℕ → Path → ℕ → ℕ → Type 0
IsAllowed g f n q k x = IsReached g f (declared_access g q k) (end_of q) x × MayUse g f n q (declared_access g q k)

-- The r-th subobject of f is of class n, and a member of access a of q, a subobject of n, has some access where it is
-- named in f by way of it. Own.
abbrev pub HasAccessBy : List Class → ℕ → ℕ → Path → Access → ℕ → Type 0
HasAccessBy g f n q a r = (end_of (node g f r) ≡ n)
    × ((x : Access) × IsAccess g f (compose (node g f r) q) a (Some x))

-- A public step leads to the t-th subobject of n, and at its class the member may be used in one of the first three
-- cases. Own.
abbrev pub IsUsedBy : List Class → Option ℕ → ℕ → Path → Access → ℕ → Type 0
IsUsedBy g f n q a t = IsAccess g n (node g n t) Public (Some Public)
    × ((p : Path) × IsSubobject g (end_of (node g n t)) p × (compose (node g n t) p ≡ q)
    × UsesAt g f (end_of (node g n t)) p a)
