-- Types and names that a declaration writes, and the faults of a declarator. (ISO/IEC 14882:1998, 3.3.1,
-- 7.1.5.2, 8.3 and 8.5; names that begin with `mm_` are own.)
use Rattle.std.specs.Prelude.{◌≡◌, ℕ, Bool, true, false, not, List, [], take, codes, Option, Some, None}
use Rattle.std.specs.Str.{bytes_eq}
use Rattle.mm_base.specs.declared.place.Place.{Place}
use Rattle.mm_base.specs.declared.code.TheConstants.Code.{N0, S2, S12, S18}
use Rattle.mm_classes.specs.declared.class.Ty.{Ty}
use Rattle.mm_classes.specs.declared.class.Ty.TheVariants as ty
use Rattle.mm_syntax.specs.declared.name.Name.{Name}
use Rattle.mm_syntax.specs.declared.name.DeclaratorMark.{DeclaratorMark}
use Rattle.mm_syntax.specs.declared.expr.TypeName.{TypeName}
use Rattle.mm_syntax.specs.declared.expr.TypeNameKind.{TypeNameKind}
use Rattle.mm_syntax.specs.declared.expr.TypeNameKind.TheVariants as type
use Rattle.mm_syntax.specs.First.{mark_spelling}
use Rattle.mm_syntax.specs.Forms.{mark_or}
use Rattle.mm_checks.specs.Checks.{Fault, at}
use Rattle.mm_typing.specs.Conversions.{is_void}

-- ---- types

-- what a type's words name; classes are not built yet
abbrev pub scalar_of : TypeNameKind → Option Ty
scalar_of type.Void = Some ty.Void
scalar_of type.Bool = Some ty.Bool
scalar_of type.Int = Some ty.Int
scalar_of (type.Unsigned int) = Some ty.Unsigned
scalar_of (type.Class text) = None

-- a tree begins here that is not built yet
abbrev pub unbuilt : Place → Fault
unbuilt place = at N0 place []

abbrev pub Names : TypeName → Ty → Type 0
Names x t = scalar_of x.kind ≡ Some t

abbrev pub NamesNone : TypeName → Fault → Type 0
NamesNone x f = (scalar_of x.kind ≡ None) × (unbuilt x.place ≡ f)

-- a variable or a parameter holds a value, and `*` and `&` follow the names of classes alone
abbrev pub holds_value : Option DeclaratorMark → Ty → Bool
holds_value None t = not (is_void t)
holds_value (Some mark) t = false

-- what a function gives may be `void`
abbrev pub is_unmarked : Option DeclaratorMark → Bool
is_unmarked None = true
is_unmarked (Some mark) = false

-- ---- names

-- names that begin so are not for programs
abbrev pub is_reserved : List ℕ → Bool
is_reserved text = bytes_eq (take 3 text) (codes "mm_")

-- ---- first tokens

-- the text of the mark, or of what follows where there is none
abbrev pub text_or : Option DeclaratorMark → List ℕ → List ℕ
text_or None text = text
text_or (Some mark) text = mark_spelling mark.kind

-- at the first token of a declarator, which has a name
abbrev pub wrong_kind : Option DeclaratorMark → Name → Fault
wrong_kind mark name = at S12 (mark_or mark name.place) (text_or mark name.text)

abbrev pub declared_twice : Name → Fault
declared_twice name = at S2 name.place name.text

abbrev pub is_not_yours : Name → Fault
is_not_yours name = at S18 name.place name.text
