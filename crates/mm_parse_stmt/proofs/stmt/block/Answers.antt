use Rattle.std.proofs.Common.{[], ◌∷◌}
use Rattle.mm_grammar.specs.Grammar.{name}
use Rattle.mm_syntax.specs.declared.symbol.Symbol.TheVariants as k
use Rattle.mm_syntax.specs.Rules as rules
use Rattle.mm_cursor.proofs.Steps.{err_take, tail}
use Rattle.mm_parse_stmt.specs.Parts.{block_end}
use Rattle.mm_parse_stmt.proofs.Exits.{block_no_brace, block_reads, block_fails}
use Rattle.mm_parse_stmt.proofs.stmt.block.Goals as goal

pub returns-in_err-brace-clause-reads : goal.returns-in_err-brace-clause-reads
returns-in_err-brace-clause-reads c =
    err_take (k.OpenBrace ∷ []) (name (rules.block c.args.nesting)) _ _ _ _ _ c.from_residual.ensures.1 c.in_err-brace.ensures.reads λ f. block_no_brace c.args.nesting _ _ f

pub returns-clause-reads : goal.returns-clause-reads
returns-clause-reads c =
    tail (block_end c.in_ok-brace.brace.now c.args.nesting) (name (rules.block c.args.nesting)) _ _ _ _ c.block_end.ensures.reads (λ v a. block_reads c.args.nesting _ _ _ _ v c.in_ok-brace.ensures.reads a) (λ f. block_fails c.args.nesting _ _ _ _ c.in_ok-brace.ensures.reads f)
