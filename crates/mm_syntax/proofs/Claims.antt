-- One token ahead decides in the grammar, and two where a class begins an expression or a declaration.
use Rattle.std.proofs.Common.{ℕ, zero, suc, Bool, true, false, IsTrue, List, [], ◌∷◌, ◌++◌, map, refl}
use Rattle.std.specs.Prelude.{if◌then◌else◌}
use Rattle.mm_grammar.specs.Ahead.{Claims, fits}
use Rattle.mm_syntax.specs.declared.symbol.Symbol.{Symbol}
use Rattle.mm_syntax.specs.declared.symbol.Symbol.TheVariants as k
use Rattle.mm_syntax.specs.Symbols.{number_of}
use Rattle.mm_syntax.specs.BuiltStatements.{is_closed}
use Rattle.mm_syntax.specs.Rules.{Rule, unit, decl, item, params, param, inits, init, block, stmt, var, declarator, type_name, args, expr, or, and, eq, rel, add, mul, unary, postfix, primary, Value, units, leaves, prefixes, assigning, accesses}

-- ---- first tokens

abbrev pub begin_primary : List Symbol
begin_primary = leaves ++ k.Open ∷ k.Class ∷ k.DynamicCast ∷ []

abbrev pub begin_unary : List Symbol
begin_unary = prefixes ++ k.New ∷ begin_primary

abbrev pub begin_type : List Symbol
begin_type = k.Void ∷ k.Bool ∷ k.Int ∷ k.Unsigned ∷ k.Class ∷ []

abbrev pub begin_param : List Symbol
begin_param = k.Virtual ∷ begin_type

abbrev pub begin_decl : List Symbol
begin_decl = k.ClassKey ∷ k.StructKey ∷ begin_type

abbrev pub begin_stmt : List Symbol
begin_stmt = k.OpenBrace ∷ k.Semicolon ∷ k.If ∷ k.While ∷ k.Do ∷ k.For ∷ k.Break ∷ k.Continue ∷ k.Return ∷ (begin_type ++ begin_unary)

abbrev pub firsts : Rule → List Symbol
firsts (unit n) = begin_decl
firsts (decl n) = begin_decl
firsts (item n) = accesses ++ k.Virtual ∷ k.Tilde ∷ begin_type
firsts params = begin_param
firsts param = begin_param
firsts inits = k.Colon ∷ []
firsts init = k.Word ∷ k.Class ∷ []
firsts (block n) = k.OpenBrace ∷ []
firsts (stmt n) = begin_stmt
firsts var = begin_type
firsts declarator = k.Star ∷ k.And ∷ k.Word ∷ []
firsts type_name = begin_type
firsts postfix = begin_primary
firsts primary = begin_primary
firsts _ = begin_unary

-- ---- tokens that can follow a whole text within a longer one

abbrev pub suffixes : List Symbol
suffixes = k.Open ∷ k.Dot ∷ k.Arrow ∷ k.PlusPlus ∷ k.MinusMinus ∷ []

abbrev pub after_mul : List Symbol
after_mul = k.Star ∷ k.Slash ∷ k.Percent ∷ suffixes

abbrev pub after_add : List Symbol
after_add = k.Plus ∷ k.Minus ∷ after_mul

abbrev pub after_rel : List Symbol
after_rel = k.Less ∷ k.Greater ∷ k.LessEqual ∷ k.GreaterEqual ∷ after_add

abbrev pub after_eq : List Symbol
after_eq = k.EqualEqual ∷ k.NotEqual ∷ after_rel

abbrev pub after_and : List Symbol
after_and = k.AndAnd ∷ after_eq

abbrev pub after_or : List Symbol
after_or = k.OrOr ∷ after_and

abbrev pub after_expr : List Symbol
after_expr = k.Question ∷ (assigning ++ after_or)

abbrev pub after_param : List Symbol
after_param = k.Int ∷ k.Star ∷ k.And ∷ k.Word ∷ []

abbrev pub follows : Rule → List Symbol
follows (unit n) = begin_decl
follows (item n) = k.Semicolon ∷ []
follows params = k.Comma ∷ (after_param ++ begin_param)
follows param = after_param
follows inits = k.Comma ∷ []
follows (stmt n) = k.Else ∷ []
follows declarator = after_expr
follows type_name = k.Int ∷ []
follows args = k.Comma ∷ after_expr
follows expr = after_expr
follows or = after_or
follows and = after_and
follows eq = after_eq
follows rel = after_rel
follows add = after_add
follows mul = after_mul
follows unary = suffixes
follows postfix = suffixes
follows _ = []

-- `else` can follow a statement that ends in an `if` without one, and no other.
abbrev pub follows_value : (x : Rule) → Value x → List Symbol
follows_value (stmt n) v = if is_closed v then [] else (k.Else ∷ [])
follows_value x v = follows x

-- ---- second tokens after a class

abbrev pub seconds : Rule → List Symbol
seconds (unit n) = k.Scope ∷ k.Class ∷ k.Star ∷ k.And ∷ k.Word ∷ []
seconds (decl n) = k.Scope ∷ k.Class ∷ k.Star ∷ k.And ∷ k.Word ∷ []
seconds (item n) = k.Open ∷ k.Star ∷ k.And ∷ k.Word ∷ []
seconds params = k.Comma ∷ k.Star ∷ k.And ∷ k.Word ∷ []
seconds param = k.Star ∷ k.And ∷ k.Word ∷ []
seconds inits = []
seconds init = k.Open ∷ []
seconds (block n) = []
seconds (stmt n) = k.Scope ∷ k.Star ∷ k.And ∷ k.Word ∷ []
seconds var = k.Star ∷ k.And ∷ k.Word ∷ []
seconds declarator = []
seconds type_name = []
seconds _ = k.Scope ∷ []

-- a class alone is a text
abbrev pub is_alone : Rule → Bool
is_alone params = true
is_alone param = true
is_alone type_name = true
is_alone _ = false

abbrev pub may_be_empty : Rule → Bool
may_be_empty (unit n) = true
may_be_empty params = true
may_be_empty _ = false

abbrev pub numbers : List Symbol → List ℕ
numbers = map number_of

abbrev pub ahead : Claims units
ahead = record {
  first = λ x. numbers (firsts x);
  more = λ x. numbers (follows x);
  after = λ x v. numbers (follows_value x v);
  empty = may_be_empty;
  shared = numbers (k.Class ∷ []);
  second = λ x. numbers (seconds x);
  alone = is_alone;
}

-- ---- checked against the rules

pub claims : (x : Rule) → IsTrue (fits units ahead x)
claims (unit n) = refl
claims (decl n) = refl
claims (item n) = refl
claims params = refl
claims param = refl
claims inits = refl
claims init = refl
claims (block n) = refl
claims (stmt zero) = refl
claims (stmt (suc n)) = refl
claims var = refl
claims declarator = refl
claims type_name = refl
claims args = refl
claims expr = refl
claims or = refl
claims and = refl
claims eq = refl
claims rel = refl
claims add = refl
claims mul = refl
claims unary = refl
claims postfix = refl
claims primary = refl
