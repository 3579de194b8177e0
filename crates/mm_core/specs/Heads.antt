-- What a program says of its functions and members. (ISO/IEC 14882, 8.3.5, 9.3 and 13.1.)
use Rattle.std.specs.Prelude.{ℕ, ◌+◌, ◌*◌, Bool, true, false, not, ◌&&◌, List, [], ◌∷◌, ◌++◌, map, Option, Some, None, nat_eq, codes, slice_get, get_or, position, if◌then◌else◌}
use Rattle.std.specs.List.{list_any}
use Rattle.std.specs.Str.{bytes_eq}
use Rattle.mm_classes.specs.declared.class.Ty.{Ty}
use Rattle.mm_classes.specs.declared.class.Ty.TheVariants as ty
use Rattle.mm_classes.specs.declared.class.Member.{Member}
use Rattle.mm_classes.specs.declared.class.MemberKind.{MemberKind}
use Rattle.mm_classes.specs.declared.class.MemberKind.TheVariants as kind
use Rattle.mm_classes.specs.Classes.{Class, members_of, is_field}
use Rattle.mm_core.specs.declared.part.CoreParam.{CoreParam}
use Rattle.mm_core.specs.Tree.{Function, Program}

-- ---- types

-- the number of a type
abbrev pub type_code : Ty → ℕ
type_code ty.Void = 0
type_code ty.Bool = 1
type_code ty.Int = 2
type_code ty.Unsigned = 3
type_code (ty.Ptr c) = c * 2 + 4
type_code (ty.Ref c) = c * 2 + 5

abbrev pub same_type : Ty → Ty → Bool
same_type a b = nat_eq (type_code a) (type_code b)

abbrev pub same_types : List Ty → List Ty → Bool
same_types ts us = bytes_eq (map type_code ts) (map type_code us)

-- the class of what a pointer or a reference shows
abbrev pub class_in : Ty → Option ℕ
class_in ty.Void = None
class_in ty.Bool = None
class_in ty.Int = None
class_in ty.Unsigned = None
class_in (ty.Ptr c) = Some c
class_in (ty.Ref c) = Some c

-- a number that no class has
abbrev pub no_class : ℕ
no_class = 4294967295

-- the class, where there is one
abbrev pub class_or : Option ℕ → ℕ
class_or None = no_class
class_or (Some c) = c

abbrev pub class_shown : Ty → ℕ
class_shown t = class_or (class_in t)

abbrev pub is_reference : Ty → Bool
is_reference (ty.Ref c) = true
is_reference other = false

-- ---- members

abbrev pub field_type_in : MemberKind → Ty
field_type_in (kind.Field t) = t
field_type_in (kind.Function ps r v) = ty.Void

abbrev pub params_in : MemberKind → List Ty
params_in (kind.Field t) = []
params_in (kind.Function ps r v) = ps

abbrev pub result_in : MemberKind → Ty
result_in (kind.Field t) = ty.Void
result_in (kind.Function ps r v) = r

abbrev pub field_type_of : Option Member → Ty
field_type_of None = ty.Void
field_type_of (Some m) = field_type_in m.kind

-- the type of the field at a place among the members of a class
abbrev pub field_type : List Class → ℕ → ℕ → Ty
field_type g c f = field_type_of (slice_get (members_of g c) f)

-- functions of one name and one list of parameter types
abbrev pub same_function : Member → Member → Bool
same_function m x =
    not (is_field m) && (not (is_field x) &&
    (bytes_eq m.name x.name && same_types (params_in m.kind) (params_in x.kind)))

-- ---- functions

abbrev pub types_of_params : List CoreParam → List Ty
types_of_params = map (λ (q : CoreParam). q.ty)

-- a function that is a method of a class, by the text of its name and by its types
abbrev pub is_method : Class → Function → Member → Bool
is_method c f m =
    not (is_field m) && (bytes_eq f.name (c.name ++ codes "::" ++ m.name) &&
    same_types (params_in m.kind) (types_of_params f.params))

-- the class of a member function
abbrev pub owner_of : List Class → Function → Option ℕ
owner_of g f = position (λ (c : Class). list_any (is_method c f) c.members) g

-- the number of the function that a method is
abbrev pub function_of : Program → Class → Member → Option ℕ
function_of p c m = position (λ (f : Function). f.member && is_method c f m) p.functions

-- an open-method: a parameter is virtual
abbrev pub is_open : Function → Bool
is_open f = list_any (λ (q : CoreParam). q.is_virtual) f.params

abbrev pub this_of : Option ℕ → List Ty
this_of None = []
this_of (Some c) = ty.Ref c ∷ []

-- the types of the arguments: of `this` where it is a member, and of the parameters
abbrev pub argument_types : List Class → Function → List Ty
argument_types g f = (if f.member then this_of (owner_of g f) else []) ++ types_of_params f.params

-- the types of all locals
abbrev pub local_types : List Class → Function → List Ty
local_types g f = argument_types g f ++ f.locals

-- the type of a local
abbrev pub type_at : List Ty → ℕ → Ty
type_at types x = get_or types x ty.Void

abbrev pub has_params : List CoreParam → Bool
has_params [] = false
has_params (q ∷ qs) = true

-- `main`, which is no member and has no parameters
abbrev pub is_main : Function → Bool
is_main f =
    bytes_eq f.name (codes "main") &&
    (not f.member && (not (has_params f.params) && same_type f.result ty.Int))
