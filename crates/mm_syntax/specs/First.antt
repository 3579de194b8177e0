-- The text of a tree's first token, and the spelling of operators (ISO/IEC 14882:1998, 2.12). Own.
use Rattle.std.specs.Prelude.{ℕ, Bool, true, false, ◌&&◌, ◌==◌, if◌then◌else◌, List, codes}
use Rattle.mm_base.specs.declared.place.Place.{Place}
use Rattle.mm_syntax.specs.declared.name.Indirection.{Indirection}
use Rattle.mm_syntax.specs.declared.name.Indirection.TheVariants as indirection
use Rattle.mm_syntax.specs.declared.name.UnaryOperator.{UnaryOperator}
use Rattle.mm_syntax.specs.declared.name.UnaryOperator.TheVariants as unary
use Rattle.mm_syntax.specs.declared.name.StepOperator.{StepOperator}
use Rattle.mm_syntax.specs.declared.name.StepOperator.TheVariants as step
use Rattle.mm_syntax.specs.declared.name.BinaryOperator.{BinaryOperator}
use Rattle.mm_syntax.specs.declared.name.BinaryOperator.TheVariants as binary
use Rattle.mm_syntax.specs.declared.name.AssignOperator.{AssignOperator}
use Rattle.mm_syntax.specs.declared.name.AssignOperator.TheVariants as assign
use Rattle.mm_syntax.specs.declared.name.MemberOperator.{MemberOperator}
use Rattle.mm_syntax.specs.declared.name.MemberOperator.TheVariants as member
use Rattle.mm_syntax.specs.declared.expr.TypeNameKind.{TypeNameKind}
use Rattle.mm_syntax.specs.declared.expr.TypeNameKind.TheVariants as type
use Rattle.mm_syntax.specs.Tree as t

-- ---- spellings

abbrev pub mark_spelling : Indirection → List ℕ
mark_spelling indirection.Pointer = codes "*"
mark_spelling indirection.Reference = codes "&"

abbrev pub unary_spelling : UnaryOperator → List ℕ
unary_spelling unary.Plus = codes "+"
unary_spelling unary.Minus = codes "-"
unary_spelling unary.Not = codes "!"
unary_spelling unary.Indirection = codes "*"
unary_spelling unary.AddressOf = codes "&"
unary_spelling unary.Increment = codes "++"
unary_spelling unary.Decrement = codes "--"

abbrev pub step_spelling : StepOperator → List ℕ
step_spelling step.Increment = codes "++"
step_spelling step.Decrement = codes "--"

abbrev pub binary_spelling : BinaryOperator → List ℕ
binary_spelling binary.Or = codes "||"
binary_spelling binary.And = codes "&&"
binary_spelling binary.Equal = codes "=="
binary_spelling binary.NotEqual = codes "!="
binary_spelling binary.Less = codes "<"
binary_spelling binary.Greater = codes ">"
binary_spelling binary.LessOrEqual = codes "<="
binary_spelling binary.GreaterOrEqual = codes ">="
binary_spelling binary.Plus = codes "+"
binary_spelling binary.Minus = codes "-"
binary_spelling binary.Times = codes "*"
binary_spelling binary.Divide = codes "/"
binary_spelling binary.Remainder = codes "%"

abbrev pub assign_spelling : AssignOperator → List ℕ
assign_spelling assign.Set = codes "="
assign_spelling assign.Plus = codes "+="
assign_spelling assign.Minus = codes "-="
assign_spelling assign.Times = codes "*="
assign_spelling assign.Divide = codes "/="
assign_spelling assign.Remainder = codes "%="

abbrev pub member_spelling : MemberOperator → List ℕ
member_spelling member.Dot = codes "."
member_spelling member.Arrow = codes "->"

-- the first word of a type
abbrev pub type_text : TypeNameKind → List ℕ
type_text type.Void = codes "void"
type_text type.Bool = codes "bool"
type_text type.Int = codes "int"
type_text (type.Unsigned int) = codes "unsigned"
type_text (type.Class text) = text

-- ---- first tokens

abbrev pub place_of : t.Expr → Place
place_of (t.number p n) = p
place_of (t.boolean p b) = p
place_of (t.this p) = p
place_of (t.name p text) = p
place_of (t.scoped p class word) = p
place_of (t.cast p class x) = p
place_of (t.unary p op x) = p
place_of (t.step p x op at) = p
place_of (t.binary p a op at b) = p
place_of (t.choose p a at b c) = p
place_of (t.assign p a op at b) = p
place_of (t.new p class) = p
place_of (t.make p class xs) = p
place_of (t.call p x xs) = p
place_of (t.member p x op at class word) = p

abbrev pub is_same : Place → Place → Bool
is_same p q = p.file == q.file && (p.line == q.line && p.col == q.col)

-- A tree that begins with an operand begins with its first token, or with a parenthesis before it.
abbrev pub text_from : Place → Place → List ℕ → List ℕ
text_from p q text = if is_same p q then text else codes "("

abbrev pub boolean_text : Bool → List ℕ
boolean_text true = codes "true"
boolean_text false = codes "false"

-- the text of the token at the tree's place
abbrev pub first_text : t.Expr → List ℕ
first_text (t.number p n) = n.text
first_text (t.boolean p b) = boolean_text b
first_text (t.this p) = codes "this"
first_text (t.name p text) = text
first_text (t.scoped p class word) = class.text
first_text (t.cast p class x) = codes "dynamic_cast"
first_text (t.unary p op x) = unary_spelling op
first_text (t.step p x op at) = text_from p (place_of x) (first_text x)
first_text (t.binary p a op at b) = text_from p (place_of a) (first_text a)
first_text (t.choose p a at b c) = text_from p (place_of a) (first_text a)
first_text (t.assign p a op at b) = text_from p (place_of a) (first_text a)
first_text (t.new p class) = codes "new"
first_text (t.make p class xs) = codes "new"
first_text (t.call p x xs) = text_from p (place_of x) (first_text x)
first_text (t.member p x op at class word) = text_from p (place_of x) (first_text x)
