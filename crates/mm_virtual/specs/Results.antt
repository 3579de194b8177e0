-- The rule on results of overriding functions. ISO/IEC 14882:1998, 10.3/5.
use Rattle.std.specs.Prelude.{◌≡◌, ℕ, ◌<◌, List, Some, slice_get, ◌⊎◌, true}
use Rattle.mm_classes.specs.declared.class.Member.{Member}
use Rattle.mm_classes.specs.declared.class.MemberKind.{MemberKind}
use Rattle.mm_classes.specs.declared.class.MemberKind.TheVariants as kind
use Rattle.mm_classes.specs.declared.class.Ty.{Ty}
use Rattle.mm_classes.specs.declared.class.Ty.TheVariants as ty
use Rattle.mm_classes.specs.Lists.{Has}
use Rattle.mm_classes.specs.Classes.{Class, members_of, is_virtual, Derives}
use Rattle.mm_classes.specs.Functions.{AreSame, IsVirtualIn, IsOnlyBase, IsCovariant}

-- the result of a function
abbrev pub result_of : MemberKind → Ty
result_of (kind.Field t) = ty.Void
result_of (kind.Function ps r v) = r

-- class b declares the function m, as a virtual one, with a result from which the result of m may
-- not differ so
abbrev pub BreaksAt : List Class → Member → ℕ → Type 0
BreaksAt g m b = (o : Member) × Has (members_of g b) o × AreSame m o × IsVirtualIn g b o × (IsCovariant g (result_of m.kind) (result_of o.kind) → ⊥)

-- The member m of class c overrides a virtual function of a base, and its result is neither the
-- same nor covariant (10.3/5).
abbrev pub IsBroken : List Class → ℕ → Member → Type 0
IsBroken g c m = (b : ℕ) × Derives g c b × BreaksAt g m b

-- class b declares the function m, as a virtual one
abbrev pub DeclaresVirtual : List Class → Member → ℕ → Type 0
DeclaresVirtual g m b = (x : Member) × Has (members_of g b) x × AreSame m x × (is_virtual x ≡ true)

-- the same class, or its only base of that class
abbrev pub IsSameOrOnlyBase : List Class → ℕ → ℕ → Type 0
IsSameOrOnlyBase g x y = (x ≡ y) ⊎ IsOnlyBase g x y
