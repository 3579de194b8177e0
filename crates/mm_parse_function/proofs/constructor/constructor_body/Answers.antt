use Rattle.mm_grammar.specs.Grammar.{name, opt}
use Rattle.mm_syntax.specs.Rules.{inits, block, constructor_body}
use Rattle.mm_cursor.proofs.Steps.{err}
use Rattle.mm_parse_function.proofs.ConstructorExits.{body_no_inits, body_no_block, body_reads}
use Rattle.mm_parse_function.proofs.constructor.constructor_body.Goals as goal

pub returns-in_err-inits-clause-reads : goal.returns-in_err-inits-clause-reads
returns-in_err-inits-clause-reads c =
    err (opt (name inits)) (constructor_body c.args.nesting) _ _ _ _ _ c.from_residual.ensures.1 c.in_err-inits.ensures.reads λ f. body_no_inits c.args.nesting _ _ f

pub returns-in_err-body-clause-reads : goal.returns-in_err-body-clause-reads
returns-in_err-body-clause-reads c =
    err (name (block c.args.nesting)) (constructor_body c.args.nesting) _ _ _ _ _ c.from_residual-in_err-body.ensures.1 c.in_err-body.ensures.reads λ f. body_no_block c.args.nesting _ _ _ _ c.in_ok-inits.ensures.reads f

pub returns-clause-reads : goal.returns-clause-reads
returns-clause-reads c =
    body_reads c.args.nesting _ _ _ _ _ _ c.in_ok-inits.ensures.reads c.in_ok-body.ensures.reads c.in_ok-constructor_body.ensures
