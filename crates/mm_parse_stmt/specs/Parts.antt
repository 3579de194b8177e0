-- The parts of the grammar of statements that functions of their own read. ISO/IEC 14882:1998, clause 6.
use Rattle.std.specs.Prelude.{◌≡◌, ℕ, [], ◌∷◌, ◌⊎◌, Option}
use Rattle.mm_grammar.specs.Grammar.{give, name, seq, alt, many}
use Rattle.mm_token.specs.declared.token.Token.{Token}
use Rattle.mm_syntax.specs.declared.symbol.Symbol.{Symbol}
use Rattle.mm_syntax.specs.declared.symbol.Symbol.TheVariants as k
use Rattle.mm_syntax.specs.declared.part.Begun.{Begun}
use Rattle.mm_syntax.specs.declared.stmt.ForStart.{ForStart}
use Rattle.mm_syntax.specs.declared.stmt.Stmt.{Stmt}
use Rattle.mm_syntax.specs.declared.stmt.StmtKind.TheVariants as s
use Rattle.mm_syntax.specs.BuiltStatements as bs
use Rattle.mm_syntax.specs.Rules.{P, token, stmt, enclosed, branches, maybe_expr, for_start, empty_stmt, simple_stmt, break_stmt, continue_stmt, return_stmt, ◌▸◌, ◌◂◌}
use Rattle.mm_parse_stmt.specs.declared.build.ForHead.{ForHead}

-- one of the two marks up to which an expression of `for`, or a returned one, goes
abbrev pub Closes : Symbol → Type 0
Closes close = (close ≡ k.Semicolon) ⊎ (close ≡ k.Close)

-- what follows the brace of a block: stmt* }
abbrev pub block_end : Token → ℕ → P Stmt
block_end brace n = give (λ v. bs.block brace v) (many (name (stmt n)) ◂ token (k.CloseBrace ∷ []))

-- ( expr ) stmt (else stmt)?, after the word `if`
abbrev pub if_end : Token → ℕ → P Stmt
if_end word n = give (λ v. bs.branched word v.0 v.1.0 v.1.1) (seq enclosed (branches n))

-- ( expr ) stmt, after the word `while`
abbrev pub while_end : Token → ℕ → P Stmt
while_end word n = give (λ v. bs.looped word v.0 v.1) (seq enclosed (name (stmt n)))

-- while ( expr ) ;
abbrev pub until : P Begun
until = token (k.While ∷ []) ▸ enclosed ◂ token (k.Semicolon ∷ [])

-- stmt while ( expr ) ;, after the word `do`
abbrev pub do_end : Token → ℕ → P Stmt
do_end word n = give (λ v. bs.done_while word v.0 v.1) (seq (name (stmt n)) until)

-- ( and what stands in the parentheses of `for` up to the first ;
abbrev pub for_open : P ForStart
for_open = token (k.Open ∷ []) ▸ for_start

-- the parentheses and the body, after the word `for`
abbrev pub for_end : Token → ℕ → P Stmt
for_end word n = give (λ v. bs.repeated word v.0 v.1.0 v.1.1.0 v.1.1.1) (seq for_open (seq (maybe_expr k.Semicolon) (seq (maybe_expr k.Close) (name (stmt n)))))

-- a statement in which no other stands
abbrev pub plain : P Stmt
plain = alt empty_stmt (alt break_stmt (alt continue_stmt (alt return_stmt simple_stmt)))

-- what stands in the parentheses of `for`, as its trees
abbrev pub head_of : ForStart → Option Begun → Option Begun → ForHead
head_of first condition step = record { start = first; condition = bs.value_of condition; step = bs.value_of step }

-- the tree of `for`
abbrev pub repeated : Token → ForHead → Stmt → Stmt
repeated word head body = bs.statement (s.For head.start head.condition head.step body) word.place
