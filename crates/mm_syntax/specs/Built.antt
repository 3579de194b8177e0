-- The trees that the rules of expressions and types give, of their tokens and of the trees of their parts. Own.
use Rattle.std.specs.Prelude.{Bool, true, false, List, [], ◌∷◌, Option, Some, None}
use Rattle.mm_base.specs.declared.place.Place.{Place}
use Rattle.mm_token.specs.declared.token.Token.{Token}
use Rattle.mm_syntax.specs.declared.symbol.Symbol.{Symbol}
use Rattle.mm_syntax.specs.declared.symbol.Symbol.TheVariants as k
use Rattle.mm_syntax.specs.declared.name.Name.{Name}
use Rattle.mm_syntax.specs.declared.name.Number.{Number}
use Rattle.mm_syntax.specs.declared.name.DeclaratorMark.{DeclaratorMark}
use Rattle.mm_syntax.specs.declared.name.Indirection.{Indirection}
use Rattle.mm_syntax.specs.declared.name.Indirection.TheVariants as indirection
use Rattle.mm_syntax.specs.declared.name.UnaryOperator.{UnaryOperator}
use Rattle.mm_syntax.specs.declared.name.UnaryOperator.TheVariants as unary
use Rattle.mm_syntax.specs.declared.name.StepOperator.{StepOperator}
use Rattle.mm_syntax.specs.declared.name.StepOperator.TheVariants as step
use Rattle.mm_syntax.specs.declared.name.BinaryOperator.{BinaryOperator}
use Rattle.mm_syntax.specs.declared.name.BinaryOperator.TheVariants as binary
use Rattle.mm_syntax.specs.declared.name.AssignOperator.{AssignOperator}
use Rattle.mm_syntax.specs.declared.name.AssignOperator.TheVariants as assign
use Rattle.mm_syntax.specs.declared.name.MemberOperator.{MemberOperator}
use Rattle.mm_syntax.specs.declared.name.MemberOperator.TheVariants as member
use Rattle.mm_syntax.specs.declared.expr.Expr.{Expr}
use Rattle.mm_syntax.specs.declared.expr.ExprKind.{ExprKind}
use Rattle.mm_syntax.specs.declared.expr.ExprKind.TheVariants as e
use Rattle.mm_syntax.specs.declared.expr.TypeName.{TypeName}
use Rattle.mm_syntax.specs.declared.expr.TypeNameKind.{TypeNameKind}
use Rattle.mm_syntax.specs.declared.expr.TypeNameKind.TheVariants as type
use Rattle.mm_syntax.specs.declared.part.Begun.{Begun}
use Rattle.mm_syntax.specs.declared.part.End.{End}
use Rattle.mm_syntax.specs.declared.part.End.TheVariants as end
use Rattle.mm_syntax.specs.declared.part.Suffix.{Suffix}
use Rattle.mm_syntax.specs.declared.part.Suffix.TheVariants as suffix
use Rattle.mm_syntax.specs.Symbols.{symbol_of}

-- ---- of single tokens

abbrev pub name_of : Token → Name
name_of t = record { text = t.text; place = t.place }

abbrev pub number_of_token : Token → Number
number_of_token t = record { text = t.text; value = t.value }

abbrev pub indirection_for : Symbol → Indirection
indirection_for k.Star = indirection.Pointer
indirection_for _ = indirection.Reference

abbrev pub mark_of : Token → DeclaratorMark
mark_of t = record { kind = indirection_for (symbol_of t); place = t.place }

abbrev pub unary_for : Symbol → UnaryOperator
unary_for k.Plus = unary.Plus
unary_for k.Minus = unary.Minus
unary_for k.Not = unary.Not
unary_for k.Star = unary.Indirection
unary_for k.And = unary.AddressOf
unary_for k.PlusPlus = unary.Increment
unary_for _ = unary.Decrement

abbrev pub step_for : Symbol → StepOperator
step_for k.PlusPlus = step.Increment
step_for _ = step.Decrement

abbrev pub binary_for : Symbol → BinaryOperator
binary_for k.OrOr = binary.Or
binary_for k.AndAnd = binary.And
binary_for k.EqualEqual = binary.Equal
binary_for k.NotEqual = binary.NotEqual
binary_for k.Less = binary.Less
binary_for k.Greater = binary.Greater
binary_for k.LessEqual = binary.LessOrEqual
binary_for k.GreaterEqual = binary.GreaterOrEqual
binary_for k.Plus = binary.Plus
binary_for k.Minus = binary.Minus
binary_for k.Star = binary.Times
binary_for k.Slash = binary.Divide
binary_for _ = binary.Remainder

abbrev pub assign_for : Symbol → AssignOperator
assign_for k.Assign = assign.Set
assign_for k.PlusAssign = assign.Plus
assign_for k.MinusAssign = assign.Minus
assign_for k.StarAssign = assign.Times
assign_for k.SlashAssign = assign.Divide
assign_for _ = assign.Remainder

abbrev pub member_for : Symbol → MemberOperator
member_for k.Dot = member.Dot
member_for _ = member.Arrow

-- a number, a word of the language, or a name
abbrev pub leaf_for : Symbol → Token → ExprKind
leaf_for k.Number t = e.Number (number_of_token t)
leaf_for k.True t = e.True
leaf_for k.False t = e.False
leaf_for k.This t = e.This
leaf_for _ t = e.Name t.text

abbrev pub type_for : Symbol → TypeNameKind
type_for k.Void = type.Void
type_for k.Bool = type.Bool
type_for _ = type.Int

-- `void`, `bool` or `int`
abbrev pub word_type : Token → TypeName
word_type t = record { kind = type_for (symbol_of t); place = t.place }

abbrev pub is_given : {A : Type 0} → Option A → Bool
is_given None = false
is_given (Some v) = true

-- `unsigned`, and whether `int` follows
abbrev pub unsigned_type : Token → Option Token → TypeName
unsigned_type t int = record { kind = type.Unsigned (is_given int); place = t.place }

abbrev pub class_type : Token → TypeName
class_type t = record { kind = type.Class t.text; place = t.place }

-- ---- of expressions

-- a tree whose text begins at its own first token
abbrev pub begun : ExprKind → Place → Begun
begun kind start = record { tree = record { kind = kind; place = start }; start = start }

abbrev pub leaf : Token → Begun
leaf t = begun (leaf_for (symbol_of t) t) t.place

-- K :: W
abbrev pub scoped : Token → Token → Begun
scoped class word = begun (e.Scoped (name_of class) (name_of word)) class.place

-- in parentheses a tree stays itself, and its text begins at the first of them
abbrev pub enclosed : Token → Begun → Begun
enclosed first inner = record { tree = inner.tree; start = first.place }

abbrev pub cast : Token → Token → Begun → Begun
cast word class operand = begun (e.Cast (name_of class) operand.tree) word.place

abbrev pub with_suffix : Begun → Suffix → Begun
with_suffix left (suffix.Called args) = begun (e.Call left.tree args) left.start
with_suffix left (suffix.Member op place class word) = begun (e.Member left.tree op place class word) left.start
with_suffix left (suffix.Stepped op place) = begun (e.Step left.tree op place) left.start

-- suffixes group from the left
abbrev pub suffixed : Begun → List Suffix → Begun
suffixed left [] = left
suffixed left (s ∷ more) = suffixed (with_suffix left s) more

abbrev pub called : List Expr → Suffix
called args = suffix.Called args

abbrev pub stepped : Token → Suffix
stepped t = suffix.Stepped (step_for (symbol_of t)) t.place

abbrev pub class_of : Option Token → Option Name
class_of None = None
class_of (Some t) = Some (name_of t)

-- after `.` or `->`: a class, which may be left out, and a name
abbrev pub member_of : Token → Option Token → Token → Suffix
member_of op class word = suffix.Member (member_for (symbol_of op)) op.place (class_of class) (name_of word)

abbrev pub prefixed : Token → Begun → Begun
prefixed op operand = begun (e.Unary (unary_for (symbol_of op)) operand.tree) op.place

-- after `new`: a class, and arguments, which may be left out
abbrev pub made : Token → Option (List Expr) → ExprKind
made class None = e.New (name_of class)
made class (Some args) = e.Make (name_of class) args

abbrev pub operated : Begun → Token → Begun → Begun
operated left op right = begun (e.Binary left.tree (binary_for (symbol_of op)) op.place right.tree) left.start

-- chains group from the left
abbrev pub joined : Begun → List (Token × Begun) → Begun
joined left [] = left
joined left (x ∷ more) = joined (operated left x.0 x.1) more

abbrev pub chosen : Token → Begun → Begun → End
chosen mark yes_tree no_tree = end.Choose mark.place yes_tree.tree no_tree.tree

abbrev pub assigned : Token → Begun → End
assigned op right = end.Assign (assign_for (symbol_of op)) op.place right.tree

abbrev pub ended : Begun → Option End → Begun
ended left None = left
ended left (Some (end.Choose place a b)) = begun (e.Choose left.tree place a b) left.start
ended left (Some (end.Assign op place right)) = begun (e.Assign left.tree op place right) left.start

-- the arguments in their parentheses, of which there may be none
abbrev pub listed : {A : Type 0} → Option (List A) → List A
listed None = []
listed (Some xs) = xs
