use Rattle.std.proofs.Common.{refl}
use Rattle.mm_syntax.specs.Rules.{constructor_body}
use Rattle.mm_cursor.proofs.Steps.{err}
use Rattle.mm_parse_class.specs.Parts.{inner_constructor}
use Rattle.mm_parse_class.proofs.Exits as exit
use Rattle.mm_parse_class.proofs.ending.inner_constructor.Goals as goal

pub returns-in_err-body-clause-reads : goal.returns-in_err-body-clause-reads
returns-in_err-body-clause-reads c =
    err (constructor_body c.args.nesting) (inner_constructor c.args.nesting) _ _ _ _ _ c.from_residual.ensures.1 c.in_err-body.ensures.reads λ f. exit.not_before_semicolon (constructor_body c.args.nesting) refl _ _ f

pub returns-clause-reads : goal.returns-clause-reads
returns-clause-reads c =
    exit.with_semicolon (constructor_body c.args.nesting) refl _ _ _ _ c.in_ok-body.ensures.reads c.semicolon.ensures.reads
