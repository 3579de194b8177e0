-- Which statements an `else` can follow.
use Rattle.std.proofs.Common.{◌≡◌, false, Option, Some, None, rules}
use Rattle.mm_token.specs.declared.token.Token.{Token}
use Rattle.mm_syntax.specs.declared.stmt.Stmt.{Stmt}
use Rattle.mm_syntax.specs.declared.stmt.ForStart.{ForStart}
use Rattle.mm_syntax.specs.declared.part.Begun.{Begun}
use Rattle.mm_syntax.specs.BuiltStatements.{is_closed, branched, looped, repeated}
use Rattle.mm_syntax.proofs.Views.{tree_rules}

pub closed_if : (word : Token) (condition : Begun) (body : Stmt) → is_closed (branched word condition body None) ≡ false
closed_if word condition body = search (rules, tree_rules)

pub closed_else : (word : Token) (condition : Begun) (body other : Stmt) → is_closed (branched word condition body (Some other)) ≡ is_closed other
closed_else word condition body other = search (rules, tree_rules)

pub closed_while : (word : Token) (condition : Begun) (body : Stmt) → is_closed (looped word condition body) ≡ is_closed body
closed_while word condition body = search (rules, tree_rules)

pub closed_for : (word : Token) (first : ForStart) (condition step : Option Begun) (body : Stmt) → is_closed (repeated word first condition step body) ≡ is_closed body
closed_for word first condition step body = search (rules, tree_rules)
