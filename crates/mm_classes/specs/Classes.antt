-- Class lists. ISO/IEC 14882:1998, 10 (derived classes), 10.1 (multiple base classes), 10.3 (virtual functions). Own where no
-- section stands.
use Rattle.std.specs.Prelude.{Option, None, Some, ◌≡◌, ◌≢◌, ℕ, zero, suc, ◌+◌, ◌<◌, ◌≤◌, ◌^◌, Bool, true, false, List, [], ◌∷◌, map, length, get_or, cond, count_by, max, AllPairs, ◌⊎◌}
use Rattle.mm_classes.specs.declared.class.Base.{Base}
use Rattle.mm_classes.specs.declared.class.Member.{Member}
use Rattle.mm_classes.specs.declared.class.MemberKind.{MemberKind}
use Rattle.mm_classes.specs.declared.class.MemberKind.TheVariants as kind
use Rattle.mm_classes.specs.declared.class.Ty.{Ty}
use Rattle.mm_classes.specs.declared.class.Ty.TheVariants as ty
use Rattle.mm_classes.specs.Lists.{Has, Distinct}

-- A class: its name, whether its definition has been seen, and the direct bases (10) and the members (9.2) of that definition.
pub record Class : Type 0 where
  pub name : List ℕ
  pub complete : Bool
  pub bases : List Base
  pub members : List Member

-- The classes by their numbers: the number of a class is its place.
abbrev pub ClassList : Type 0
ClassList = List Class

-- what stands at a number that no class has
abbrev pub unknown : Class
unknown = record { name = []; complete = false; bases = []; members = [] }

-- the class of a number
abbrev pub class_at : List Class → ℕ → Class
class_at g c = get_or g c unknown

-- its direct bases, from left to right (10)
abbrev pub bases_of : List Class → ℕ → List Base
bases_of g c = (class_at g c).bases

-- the members that it declares, in their order (9.2)
abbrev pub members_of : List Class → ℕ → List Member
members_of g c = (class_at g c).members

-- its name
abbrev pub name_of : List Class → ℕ → List ℕ
name_of g c = (class_at g c).name

-- the names of all classes
abbrev pub names_in : List Class → List (List ℕ)
names_in g = map (λ (c : Class). c.name) g

-- c is declared and complete
abbrev pub IsComplete : List Class → ℕ → Type 0
IsComplete g c = (c < length g) × ((class_at g c).complete ≡ true)

-- how many classes are complete
abbrev pub complete_count : List Class → ℕ
complete_count [] = 0
complete_count (c ∷ cs) = cond c.complete (suc (complete_count cs)) (complete_count cs)

-- functions with different parameter types (13.1)
abbrev pub AreOverloads : MemberKind → MemberKind → Type 0
AreOverloads (kind.Function ps r v) (kind.Function qs s w) = ps ≢ qs
AreOverloads (kind.Function ps r v) (kind.Field t) = ⊥
AreOverloads (kind.Field t) (kind.Function qs s w) = ⊥
AreOverloads (kind.Field t) (kind.Field u) = ⊥

-- members of one name are overloads
abbrev pub AreApart : Member → Member → Type 0
AreApart m x = m.name ≡ x.name → AreOverloads m.kind x.kind

-- the type names no class, or one of the first n
abbrev pub IsTyped : ℕ → Ty → Type 0
IsTyped n ty.Void = Unit {0}
IsTyped n ty.Bool = Unit {0}
IsTyped n ty.Int = Unit {0}
IsTyped n ty.Unsigned = Unit {0}
IsTyped n (ty.Ptr c) = c < n
IsTyped n (ty.Ref c) = c < n

-- the type of a field; those of a function's result and parameters
abbrev pub types_in : MemberKind → List Ty
types_in (kind.Field t) = t ∷ []
types_in (kind.Function ps r v) = r ∷ ps

-- each class that a member's type names is one of the first n
abbrev pub AreTyped : ℕ → List Member → Type 0
AreTyped n ms = (m : Member) (t : Ty) → Has ms m → Has (types_in m.kind) t → IsTyped n t

-- What the members of one class keep: there are fewer than 2^32, and two of one name are overloads (9.2, 13.1).
pub record IsMemberList (ms : List Member) : Type 0 where
  pub few : length ms < 2 ^ 32
  pub apart : AllPairs AreApart ms

-- Every base is a complete class, none is a direct base twice (10.1), no two classes have one name, and the classes have
-- an order in which bases come first, so that no chain of direct bases meets a class twice. Each class in a member's type is
-- declared. Of an incomplete class only the name is known.
pub record IsClassList (g : List Class) : Type 0 where
  pub rank : ℕ → ℕ
  pub low : (c : ℕ) → rank c ≤ complete_count g
  pub falls : (c : ℕ) (b : Base) → Has (bases_of g c) b → rank b.class < rank c
  pub known : (c : ℕ) (b : Base) → Has (bases_of g c) b → (class_at g b.class).complete ≡ true
  pub once : (c : ℕ) → Distinct (map (λ (b : Base). b.class) (bases_of g c))
  pub bare : (c : ℕ) → (class_at g c).complete ≡ false → (bases_of g c ≡ []) × (members_of g c ≡ [])
  pub members : (c : ℕ) → IsMemberList (members_of g c)
  pub typed : (c : ℕ) → AreTyped (length g) (members_of g c)
  pub named : Distinct (names_in g)

-- the name of the k-th member
abbrev pub member_name : List Member → ℕ → List ℕ
member_name ms k = get_or (map (λ (m : Member). m.name) ms) k []

-- the first member of a name, from a number on: the answer is its number, or none
abbrev pub IsNextNamed : Option ℕ → List Member → List ℕ → ℕ → Type 0
IsNextNamed None ms name from = (k : ℕ) → from ≤ k → k < length ms → member_name ms k ≢ name
IsNextNamed (Some k) ms name from = (from ≤ k) × (k < length ms) × (member_name ms k ≡ name)
    × ((j : ℕ) → from ≤ j → j < k → member_name ms j ≢ name)

-- c derives from b: a chain of one or more direct bases leads from c to b (10).
pub data Derives (g : List Class) : ℕ → ℕ → Type 0 where
  direct : {c b : ℕ} (x : Base) → Has (bases_of g c) x → x.class ≡ b → Derives g c b
  through : {c b : ℕ} (x : Base) → Has (bases_of g c) x → Derives g x.class b → Derives g c b

-- a member that is a field
abbrev pub tells_field : MemberKind → Bool
tells_field (kind.Field t) = true
tells_field (kind.Function ps r v) = false

abbrev pub is_field : Member → Bool
is_field m = tells_field m.kind

-- how many fields a class declares
abbrev pub field_count : List Member → ℕ
field_count ms = count_by is_field ms

-- a member function, destructors among them, that is declared virtual (10.3, 12.4)
abbrev pub tells_virtual : MemberKind → Bool
tells_virtual (kind.Field t) = false
tells_virtual (kind.Function ps r v) = v

abbrev pub is_virtual : Member → Bool
is_virtual m = tells_virtual m.kind

-- one of the members is
abbrev pub HasVirtual : List Member → Type 0
HasVirtual ms = (m : Member) × Has ms m × (is_virtual m ≡ true)

-- The class declares or inherits a virtual function (10.3).
abbrev pub IsPolymorphic : List Class → ℕ → Type 0
IsPolymorphic g c = (b : ℕ) × ((c ≡ b) ⊎ Derives g c b) × HasVirtual (members_of g b)

-- the greatest of some numbers
abbrev pub most : List ℕ → ℕ
most [] = 0
most (n ∷ ns) = max n (most ns)

-- the number of links in the longest chain of direct bases that begins at c, of n links at most
abbrev pub depth_within : List Class → ℕ → ℕ → ℕ
depth_within g zero c = 0
depth_within g (suc n) c = most (map (λ (b : Base). depth_within g n b.class + 1) (bases_of g c))

-- The depth of a class: the number of links in the longest chain of direct bases that begins at it. No chain has more
-- links than there are classes.
abbrev pub depth_of : List Class → ℕ → ℕ
depth_of g c = depth_within g (length g) c
