-- The conversions of values that operators ask. ISO/IEC 14882:1998, 4.5, 4.7, 4.12 (integral and boolean conversions),
-- 5/9 (usual arithmetic conversions).
use Rattle.std.specs.Prelude.{◌≡◌, Bool, true, false, ◌&&◌, ◌||◌, if◌then◌else◌, List, [], ◌∷◌, Ok}
use Rattle.mm_base.specs.declared.code.TheConstants.Code.{S10}
use Rattle.mm_classes.specs.declared.class.Ty.{Ty}
use Rattle.mm_classes.specs.declared.class.Ty.TheVariants as ty
use Rattle.mm_core.specs.declared.part.Target.TheVariants as target
use Rattle.mm_core.specs.Heads.{same_type}
use Rattle.mm_core.specs.Valid.{is_arithmetic}
use Rattle.mm_core.specs.Tree as k
use Rattle.mm_syntax.specs.Tree as t
use Rattle.mm_syntax.specs.First.{place_of, first_text}
use Rattle.mm_checks.specs.Checks.{Fault, Checked, ◌>>=◌, at, demand, Then, First, Met, Unmet}
use Rattle.mm_typing.specs.Typed.{Typed}

-- ---- types

abbrev pub is_unsigned_type : Ty → Bool
is_unsigned_type ty.Unsigned = true
is_unsigned_type other = false

abbrev pub is_void : Ty → Bool
is_void ty.Void = true
is_void other = false

-- the common type of two arithmetic operands: unsigned where one is, else int (5/9)
abbrev pub common : Ty → Ty → Ty
common a b = if is_unsigned_type a || is_unsigned_type b then ty.Unsigned else ty.Int

-- the type of both where they have one, else the common type (5.16/3, /5)
abbrev pub joined : Ty → Ty → Ty
joined a b = if same_type a b then a else common a b

-- a value of the one type converts to the other: between arithmetic types (4.5, 4.7, 4.12)
abbrev pub converts : Ty → Ty → Bool
converts from to = is_arithmetic from && is_arithmetic to

-- ---- conversions in the checked tree

abbrev pub convert_to : Ty → k.Expr → k.Expr
convert_to ty.Bool e = k.convert target.Bool e
convert_to ty.Int e = k.convert target.Int e
convert_to ty.Unsigned e = k.convert target.Unsigned e
convert_to ty.Void e = e
convert_to (ty.Ptr c) e = e
convert_to (ty.Ref c) e = e

-- a conversion is one node, and none stands between equal types (own)
abbrev pub converted : Ty → Typed → k.Expr
converted to x = if same_type x.ty to then x.core else convert_to to x.core

-- each argument as its parameter asks
abbrev pub converted_all : List Ty → List Typed → List k.Expr
converted_all [] xs = []
converted_all (p ∷ ps) [] = []
converted_all (p ∷ ps) (x ∷ xs) = converted p x ∷ converted_all ps xs

-- ---- a value that is to become a type

-- no conversion, at the first token of the expression
abbrev pub unconverted : t.Expr → Fault
unconverted e = at S10 (place_of e) (first_text e)

abbrev pub as_type : Ty → t.Expr → Typed → Checked k.Expr
as_type to e x = do
  fits ← demand (converts x.ty to) (unconverted e)
  Ok (converted to x)

-- the typed value becomes the type; it doesn't
abbrev pub Becomes : Ty → Typed → k.Expr → Type 0
Becomes to x = Then (Met (converts x.ty to)) λ u c. converted to x ≡ c

abbrev pub BecomesNot : Ty → t.Expr → Typed → Fault → Type 0
BecomesNot to e x = First (Met (converts x.ty to)) (Unmet (converts x.ty to) (unconverted e)) λ u f. ⊥
