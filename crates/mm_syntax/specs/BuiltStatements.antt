-- The trees that the rules of statements give. Own.
use Rattle.std.specs.Prelude.{Bool, true, false, List, Option, Some, None}
use Rattle.mm_base.specs.declared.place.Place.{Place}
use Rattle.mm_token.specs.declared.token.Token.{Token}
use Rattle.mm_syntax.specs.declared.name.DeclaratorMark.{DeclaratorMark}
use Rattle.mm_syntax.specs.declared.expr.Expr.{Expr}
use Rattle.mm_syntax.specs.declared.expr.TypeName.{TypeName}
use Rattle.mm_syntax.specs.declared.stmt.Declarator.{Declarator}
use Rattle.mm_syntax.specs.declared.stmt.Variables.{Variables}
use Rattle.mm_syntax.specs.declared.stmt.Initializer.{Initializer}
use Rattle.mm_syntax.specs.declared.stmt.Initializer.TheVariants as initializer
use Rattle.mm_syntax.specs.declared.stmt.ForStart.{ForStart}
use Rattle.mm_syntax.specs.declared.stmt.Stmt.{Stmt}
use Rattle.mm_syntax.specs.declared.stmt.StmtKind.{StmtKind}
use Rattle.mm_syntax.specs.declared.stmt.StmtKind.TheVariants as s
use Rattle.mm_syntax.specs.declared.part.Begun.{Begun}
use Rattle.mm_syntax.specs.Tree as t
use Rattle.mm_syntax.specs.View.{stmt_view}
use Rattle.mm_syntax.specs.Built.{name_of}

abbrev pub statement : StmtKind → Place → Stmt
statement kind place = record { kind = kind; place = place }

abbrev pub block : Token → List Stmt → Stmt
block brace stmts = statement (s.Block stmts) brace.place

-- an expression as a statement begins where its text does
abbrev pub run : Begun → Stmt
run v = statement (s.Expr v.tree) v.start

abbrev pub declared : Variables → Stmt
declared v = statement (s.Variables v) v.type_name.place

abbrev pub value_of : Option Begun → Option Expr
value_of None = None
value_of (Some v) = Some v.tree

abbrev pub returned : Token → Option Begun → Stmt
returned word value = statement (s.Return (value_of value)) word.place

-- `if`, with `else` or without
abbrev pub branched : Token → Begun → Stmt → Option Stmt → Stmt
branched word condition body None = statement (s.If condition.tree body) word.place
branched word condition body (Some other) = statement (s.Choose condition.tree body other) word.place

abbrev pub looped : Token → Begun → Stmt → Stmt
looped word condition body = statement (s.While condition.tree body) word.place

abbrev pub done_while : Token → Stmt → Begun → Stmt
done_while word body condition = statement (s.Do body condition.tree) word.place

abbrev pub repeated : Token → ForStart → Option Begun → Option Begun → Stmt → Stmt
repeated word first condition step body = statement (s.For first (value_of condition) (value_of step) body) word.place

abbrev pub initial : Option Initializer → Initializer
initial None = initializer.Nothing
initial (Some v) = v

abbrev pub declarator : Option DeclaratorMark → Token → Option Initializer → Declarator
declarator mark word value = record { mark = mark; name = name_of word; initializer = initial value }

abbrev pub variables : TypeName → List Declarator → Variables
variables type_name names = record { type_name = type_name; names = names }

-- Whether `else` can't go on after the statement: it doesn't end in an `if` that has none.
abbrev pub closes : t.Stmt → Bool
closes (t.if_then p x a) = false
closes (t.if_else p x a b) = closes b
closes (t.while_do p x a) = closes a
closes (t.for_do p first x y a) = closes a
closes _ = true

abbrev pub is_closed : Stmt → Bool
is_closed s = closes (stmt_view s)
