-- The parts of the grammar of expressions that functions of their own read. ISO/IEC 14882:1998, 5.2 to 5.15.
use Rattle.std.specs.Prelude.{ℕ, zero, suc, List, [], ◌∷◌}
use Rattle.mm_grammar.specs.Grammar.{give, name}
use Rattle.mm_token.specs.declared.token.Token.{Token}
use Rattle.mm_syntax.specs.declared.symbol.Symbol.{Symbol}
use Rattle.mm_syntax.specs.declared.symbol.Symbol.TheVariants as k
use Rattle.mm_syntax.specs.declared.name.Name.{Name}
use Rattle.mm_base.specs.declared.place.Place.{Place}
use Rattle.mm_syntax.specs.declared.expr.Expr.{Expr}
use Rattle.mm_syntax.specs.declared.expr.ExprKind.TheVariants as e
use Rattle.mm_syntax.specs.declared.part.Begun.{Begun}
use Rattle.mm_syntax.specs.declared.part.Suffix.{Suffix}
use Rattle.mm_syntax.specs.Built as b
use Rattle.mm_syntax.specs.Rules.{P, token, or, and, eq, rel, add, mul, unary, expr, selected, ◌▸◌, ◌◂◌}

-- the chains, from the one that binds least on, and unary
abbrev pub part_at : ℕ → P Begun
part_at zero = name or
part_at (suc zero) = name and
part_at (suc (suc zero)) = name eq
part_at (suc (suc (suc zero))) = name rel
part_at (suc (suc (suc (suc zero)))) = name add
part_at (suc (suc (suc (suc (suc zero))))) = name mul
part_at (suc (suc (suc (suc (suc (suc n)))))) = name unary

-- the operators of each chain
abbrev pub operators_at : ℕ → List Symbol
operators_at zero = k.OrOr ∷ []
operators_at (suc zero) = k.AndAnd ∷ []
operators_at (suc (suc zero)) = k.EqualEqual ∷ k.NotEqual ∷ []
operators_at (suc (suc (suc zero))) = k.Less ∷ k.Greater ∷ k.LessEqual ∷ k.GreaterEqual ∷ []
operators_at (suc (suc (suc (suc zero)))) = k.Plus ∷ k.Minus ∷ []
operators_at (suc (suc (suc (suc (suc n))))) = k.Star ∷ k.Slash ∷ k.Percent ∷ []

-- < K * >, with the class as its value
abbrev pub target : P Name
target = give b.name_of (token (k.Less ∷ []) ▸ token (k.Class ∷ []) ◂ token (k.Star ∷ []) ◂ token (k.Greater ∷ []))

-- what follows the `.` or `->` of a member
abbrev pub member : Token → P Suffix
member op = give (λ v. b.member_of op v.0 v.1) selected

-- expr )
abbrev pub closing : P Begun
closing = name expr ◂ token (k.Close ∷ [])

-- the tree of a `dynamic_cast`, of its class's name
abbrev pub cast_of : Token → Name → Begun → Begun
cast_of word class operand = b.begun (e.Cast class operand.tree) word.place

-- the tree of `? :`
abbrev pub choice_of : Begun → Place → Expr → Expr → Begun
choice_of left place a c = b.begun (e.Choose left.tree place a c) left.start
