-- A typed expression. ISO/IEC 14882:1998, 3.10 (lvalues), 4.10/1 (null pointer constants).
use Rattle.std.specs.Prelude.{Bool, true, false, nat_eq, if◌then◌else◌, List, map}
use Rattle.mm_base.specs.Num.{to_int}
use Rattle.mm_classes.specs.declared.class.Ty.{Ty}
use Rattle.mm_classes.specs.declared.class.Ty.TheVariants as ty
use Rattle.mm_core.specs.Tree as k
use Rattle.mm_core.specs.View.{expr_view}
use Rattle.mm_overload.specs.declared.conv.Arg.{Arg}
use Rattle.mm_syntax.specs.declared.name.Number.{Number}
use Rattle.mm_syntax.specs.Numbers.{is_unsigned}
use Rattle.mm_scopes.specs.declared.head.Var.{Var}
use Rattle.mm_typing.specs.declared.typed.Kind.{Kind}
use Rattle.mm_typing.specs.declared.typed.Kind.TheVariants as kind
use Rattle.mm_typing.specs.declared.typed.TypedExpr.{TypedExpr}

-- A checked expression, its type, and what it is beside that.
pub record Typed : Type 0 where
  pub core : k.Expr
  pub ty : Ty
  pub kind : Kind

-- a value of a type
abbrev pub typed : k.Expr → Ty → Typed
typed core type = record { core = core; ty = type; kind = kind.Value }

-- which typed expression one in memory is
abbrev pub typed_view : TypedExpr → Typed
typed_view x = record { core = expr_view x.core; ty = x.ty; kind = x.kind }

abbrev pub typeds_view : List TypedExpr → List Typed
typeds_view xs = map typed_view xs

-- ---- leaves

-- a number is an unsigned with the suffix, else an int (2.13.1)
abbrev pub number_typed : Number → Typed
number_typed n =
    if is_unsigned n.text then typed (k.unsigned n.value) ty.Unsigned
    else record { core = k.int (to_int n.value); ty = ty.Int; kind = if nat_eq n.value 0 then kind.Zero else kind.Value }

-- a variable is a place that may be assigned
abbrev pub local_typed : Var → Typed
local_typed v = record { core = k.local v.local; ty = v.ty; kind = kind.Local v.local }

-- ---- as an argument

abbrev pub is_zero : Kind → Bool
is_zero kind.Value = false
is_zero kind.Zero = true
is_zero (kind.Local x) = false

abbrev pub is_lvalue : Kind → Bool
is_lvalue kind.Value = false
is_lvalue kind.Zero = false
is_lvalue (kind.Local x) = true

abbrev pub arg_of : Typed → Arg
arg_of x = record { ty = x.ty; zero = is_zero x.kind; lvalue = is_lvalue x.kind }
