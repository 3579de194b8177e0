-- What operators make of typed operands, as checks. ISO/IEC 14882:1998, 5.2.6, 5.3.1, 5.3.2, 5.6 to 5.17.
use Rattle.std.specs.Prelude.{ℕ, pos, Bool, ◌&&◌, ◌||◌, if◌then◌else◌, Option, Some, None, Ok, Err, codes}
use Rattle.mm_base.specs.declared.place.Place.{Place}
use Rattle.mm_base.specs.declared.code.TheConstants.Code.{N0, S12}
use Rattle.mm_classes.specs.declared.class.Ty.{Ty}
use Rattle.mm_classes.specs.declared.class.Ty.TheVariants as ty
use Rattle.mm_core.specs.declared.part.Operator.{Operator}
use Rattle.mm_core.specs.declared.part.Operator.TheVariants as op
use Rattle.mm_core.specs.declared.part.Change.{Change}
use Rattle.mm_core.specs.declared.part.Change.TheVariants as change
use Rattle.mm_core.specs.Valid.{is_arithmetic, is_number, compares}
use Rattle.mm_core.specs.Tree as k
use Rattle.mm_syntax.specs.declared.name.UnaryOperator.{UnaryOperator}
use Rattle.mm_syntax.specs.declared.name.UnaryOperator.TheVariants as unary
use Rattle.mm_syntax.specs.declared.name.StepOperator.{StepOperator}
use Rattle.mm_syntax.specs.declared.name.StepOperator.TheVariants as step
use Rattle.mm_syntax.specs.declared.name.BinaryOperator.{BinaryOperator}
use Rattle.mm_syntax.specs.declared.name.BinaryOperator.TheVariants as binary
use Rattle.mm_syntax.specs.declared.name.AssignOperator.{AssignOperator}
use Rattle.mm_syntax.specs.declared.name.AssignOperator.TheVariants as assign
use Rattle.mm_syntax.specs.Tree as t
use Rattle.mm_syntax.specs.First.{unary_spelling, step_spelling, binary_spelling, assign_spelling}
use Rattle.mm_checks.specs.Checks.{Fault, Checked, ◌>>=◌, at, demand}
use Rattle.mm_typing.specs.declared.typed.Kind.{Kind}
use Rattle.mm_typing.specs.declared.typed.Kind.TheVariants as kind
use Rattle.mm_typing.specs.declared.typed.Operation.{Operation}
use Rattle.mm_typing.specs.declared.typed.Operation.TheVariants as operation
use Rattle.mm_typing.specs.declared.typed.Assignment.{Assignment}
use Rattle.mm_typing.specs.declared.typed.Assignment.TheVariants as assignment
use Rattle.mm_typing.specs.Typed.{Typed, typed}
use Rattle.mm_typing.specs.Conversions.{is_void, common, joined, converts, converted, unconverted}

-- ---- what operators do

abbrev pub operation_of : BinaryOperator → Operation
operation_of binary.Or = operation.Or
operation_of binary.And = operation.And
operation_of binary.Equal = operation.Two op.Equal
operation_of binary.NotEqual = operation.Two op.NotEqual
operation_of binary.Less = operation.Two op.Less
operation_of binary.Greater = operation.Two op.Greater
operation_of binary.LessOrEqual = operation.Two op.LessEqual
operation_of binary.GreaterOrEqual = operation.Two op.GreaterEqual
operation_of binary.Plus = operation.Two op.Add
operation_of binary.Minus = operation.Two op.Subtract
operation_of binary.Times = operation.Two op.Multiply
operation_of binary.Divide = operation.Two op.Divide
operation_of binary.Remainder = operation.Two op.Remainder

abbrev pub assignment_of : AssignOperator → Assignment
assignment_of assign.Set = assignment.Set
assignment_of assign.Plus = assignment.Change op.Add
assignment_of assign.Minus = assignment.Change op.Subtract
assignment_of assign.Times = assignment.Change op.Multiply
assignment_of assign.Divide = assignment.Change op.Divide
assignment_of assign.Remainder = assignment.Change op.Remainder

abbrev pub change_of : StepOperator → Change
change_of step.Increment = change.Up
change_of step.Decrement = change.Down

-- ---- what they make

-- the type of the result of arithmetic operands: bool of a comparison, else the common type (5.6 to 5.10)
abbrev pub result_of : Operator → Ty → Ty → Ty
result_of op a b = if compares op then ty.Bool else common a b

-- the operator on both, in their common type
abbrev pub operated : Operator → Typed → Typed → Typed
operated op x y =
    typed (k.binary op (converted (common x.ty y.ty) x) (converted (common x.ty y.ty) y)) (result_of op x.ty y.ty)

-- the type of `+a` and `-a`: unsigned stays, the others become int (4.5, 5.3.1/6, /7)
abbrev pub promoted : Ty → Ty
promoted a = common a a

abbrev pub zero_of : Ty → k.Expr
zero_of ty.Unsigned = k.unsigned 0
zero_of other = k.int (pos 0)

abbrev pub plus : Typed → Typed
plus x = typed (converted (promoted x.ty) x) (promoted x.ty)

-- `-a` is 0 - a (own)
abbrev pub minus : Typed → Typed
minus x = operated op.Subtract (typed (zero_of (promoted x.ty)) (promoted x.ty)) x

abbrev pub negated : Typed → Typed
negated x = typed (k.negation (converted ty.Bool x)) ty.Bool

abbrev pub both_of : Typed → Typed → Typed
both_of x y = typed (k.both (converted ty.Bool x) (converted ty.Bool y)) ty.Bool

abbrev pub either_of : Typed → Typed → Typed
either_of x y = typed (k.either (converted ty.Bool x) (converted ty.Bool y)) ty.Bool

-- the branches of `?:` are arithmetic, or both void (5.16)
abbrev pub are_branches : Ty → Ty → Bool
are_branches a b = (is_arithmetic a && is_arithmetic b) || (is_void a && is_void b)

abbrev pub chosen : Typed → Typed → Typed → Typed
chosen c x y =
    typed (k.choose (converted ty.Bool c) (converted (joined x.ty y.ty) x) (converted (joined x.ty y.ty) y)) (joined x.ty y.ty)

-- a variable gets a value, which is converted to its type (5.17)
abbrev pub set : ℕ → Ty → Typed → Typed
set l to y = typed (k.set_local l (converted to y)) to

-- the old value of the variable, which is read first, and the operator on both
abbrev pub changed : Operator → ℕ → Ty → Typed → Typed
changed op l to y = set l to (operated op (typed (k.local l) to) y)

abbrev pub one : Typed
one = typed (k.int (pos 1)) ty.Int

-- the old value of the variable, which steps (5.2.6)
abbrev pub stepped : Change → ℕ → Ty → Typed
stepped c l to = typed (k.step_local l c) to

-- ---- their checks

-- a wrong operand, at the operator
abbrev pub wrong_unary : UnaryOperator → Place → Fault
wrong_unary op p = at S12 p (unary_spelling op)

abbrev pub wrong_step : StepOperator → Place → Fault
wrong_step op p = at S12 p (step_spelling op)

abbrev pub wrong_binary : BinaryOperator → Place → Fault
wrong_binary op p = at S12 p (binary_spelling op)

abbrev pub wrong_assign : AssignOperator → Place → Fault
wrong_assign op p = at S12 p (assign_spelling op)

abbrev pub wrong_choice : Place → Fault
wrong_choice p = at S12 p (codes "?")

-- a form that isn't built
abbrev pub unbuilt : Place → Fault
unbuilt p = at N0 p (codes "")

-- the number of the variable that an expression is
abbrev pub local_in : Kind → Option ℕ
local_in kind.Value = None
local_in kind.Zero = None
local_in (kind.Local l) = Some l

abbrev pub need_some : Option ℕ → Fault → Checked ℕ
need_some None f = Err f
need_some (Some l) f = Ok l

abbrev pub place_in : Typed → Fault → Checked ℕ
place_in x f = need_some (local_in x.kind) f

-- a change of a place of type int or unsigned
abbrev pub own_change : Operator → Fault → Typed → Typed → Checked Typed
own_change op f x y = do
  l ← place_in x f
  fits ← demand (is_number x.ty && is_arithmetic y.ty) f
  Ok (changed op l x.ty y)

abbrev pub own_unary : UnaryOperator → Place → t.Expr → Typed → Checked Typed
own_unary unary.Plus p a x = do
  fits ← demand (is_arithmetic x.ty) (wrong_unary unary.Plus p)
  Ok (plus x)
own_unary unary.Minus p a x = do
  fits ← demand (is_arithmetic x.ty) (wrong_unary unary.Minus p)
  Ok (minus x)
own_unary unary.Not p a x = do
  fits ← demand (converts x.ty ty.Bool) (unconverted a)
  Ok (negated x)
own_unary unary.Indirection p a x = Err (unbuilt p)
own_unary unary.AddressOf p a x = Err (unbuilt p)
own_unary unary.Increment p a x = own_change op.Add (wrong_unary unary.Increment p) x one
own_unary unary.Decrement p a x = own_change op.Subtract (wrong_unary unary.Decrement p) x one

abbrev pub own_step : StepOperator → Place → Typed → Checked Typed
own_step op p x = do
  l ← place_in x (wrong_step op p)
  fits ← demand (is_number x.ty) (wrong_step op p)
  Ok (stepped (change_of op) l x.ty)

abbrev pub own_operation : Operation → Fault → t.Expr → t.Expr → Typed → Typed → Checked Typed
own_operation operation.And f a b x y = do
  left ← demand (converts x.ty ty.Bool) (unconverted a)
  right ← demand (converts y.ty ty.Bool) (unconverted b)
  Ok (both_of x y)
own_operation operation.Or f a b x y = do
  left ← demand (converts x.ty ty.Bool) (unconverted a)
  right ← demand (converts y.ty ty.Bool) (unconverted b)
  Ok (either_of x y)
own_operation (operation.Two op) f a b x y = do
  fits ← demand (is_arithmetic x.ty && is_arithmetic y.ty) f
  Ok (operated op x y)

abbrev pub own_choose : Place → t.Expr → Typed → Typed → Typed → Checked Typed
own_choose p c d x y = do
  test ← demand (converts d.ty ty.Bool) (unconverted c)
  fits ← demand (are_branches x.ty y.ty) (wrong_choice p)
  Ok (chosen d x y)

abbrev pub own_assign : Assignment → Fault → t.Expr → Typed → Typed → Checked Typed
own_assign assignment.Set f b x y = do
  l ← place_in x f
  fits ← demand (converts y.ty x.ty) (unconverted b)
  Ok (set l x.ty y)
own_assign (assignment.Change op) f b x y = own_change op f x y
