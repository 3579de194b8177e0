use Rattle.std.specs.Prelude.{not}
use Rattle.std.proofs.Common.{ap, ◌∙◌}
use Rattle.mm_c.specs.WellFormed.{is_name}
use Rattle.mm_c_rules.proofs.Both.{and_then, and_else}
use Rattle.mm_c_rules.proofs.locals.is_free.Goals as goal

pub returns-then-is_name : goal.returns-then-is_name
returns-then-is_name c = and_then c.is_name.result _ (is_name c.args.name.now) _ c.if-is_name.true (c.is_name.ensures ∙ ap is_name c.as_bytes.ensures) (ap not c.has.ensures)

pub returns-else-is_name : goal.returns-else-is_name
returns-else-is_name c = and_else c.is_name.result (is_name c.args.name.now) _ c.if-is_name.false (c.is_name.ensures ∙ ap is_name c.as_bytes.ensures)
