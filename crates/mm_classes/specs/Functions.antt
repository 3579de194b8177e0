-- Functions that override others. ISO/IEC 14882:1998, 10.3 (virtual functions).
use Rattle.std.specs.Prelude.{◌≡◌, ◌≢◌, ℕ, true, List, [], ◌∷◌, length, ◌⊎◌}
use Rattle.mm_classes.specs.declared.class.Member.{Member}
use Rattle.mm_classes.specs.declared.class.MemberKind.{MemberKind}
use Rattle.mm_classes.specs.declared.class.MemberKind.TheVariants as kind
use Rattle.mm_classes.specs.declared.class.Ty.{Ty}
use Rattle.mm_classes.specs.declared.class.Ty.TheVariants as ty
use Rattle.mm_classes.specs.declared.answer.Up.TheVariants as up
use Rattle.mm_classes.specs.Lists.{Has}
use Rattle.mm_classes.specs.Classes.{Class, members_of, is_virtual, Derives}
use Rattle.mm_classes.specs.Questions.{IsUpOf}

-- functions with the same parameter types (10.3/2)
abbrev pub AreSameKind : MemberKind → MemberKind → Type 0
AreSameKind (kind.Function ps r v) (kind.Function qs s w) = ps ≡ qs
AreSameKind (kind.Function ps r v) (kind.Field t) = ⊥
AreSameKind (kind.Field t) (kind.Function qs s w) = ⊥
AreSameKind (kind.Field t) (kind.Field u) = ⊥

-- functions of one name with the same parameter types
abbrev pub AreSame : Member → Member → Type 0
AreSame m x = (m.name ≡ x.name) × AreSameKind m.kind x.kind

-- The member m of class c is a virtual function: it is declared virtual, or it overrides a function that is declared virtual
-- in a direct or indirect base (10.3/2).
abbrev pub IsVirtualIn : List Class → ℕ → Member → Type 0
IsVirtualIn g c m = (is_virtual m ≡ true)
    ⊎ ((b : ℕ) × (x : Member) × Derives g c b × Has (members_of g b) x × AreSame m x × (is_virtual x ≡ true))

-- class x has exactly one subobject of class y, which is another class
abbrev pub IsOnlyBase : List Class → ℕ → ℕ → Type 0
IsOnlyBase g x y = (x ≢ y) × ((n : ℕ) × IsUpOf (up.One n) g x y)

-- An overriding function may have result type r where the overridden one has o: they are the same, or both are pointers, or
-- both references, to classes of which the first has the second as its only base of that class (10.3/5).
abbrev pub IsCovariant : List Class → Ty → Ty → Type 0
IsCovariant g (ty.Ptr x) (ty.Ptr y) = (x ≡ y) ⊎ IsOnlyBase g x y
IsCovariant g (ty.Ref x) (ty.Ref y) = (x ≡ y) ⊎ IsOnlyBase g x y
IsCovariant g r o = r ≡ o
