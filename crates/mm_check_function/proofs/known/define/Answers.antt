use Rattle.std.proofs.Common.{◌∙◌, ap}
use Rattle.mm_unit_typing.specs.Functions.{seen}
use Rattle.mm_unit_typing.specs.Made.{block_of}
use Rattle.mm_check_stmt.specs.Results.{steps_view}
use Rattle.mm_check_function.specs.Known.{functions_view}
use Rattle.mm_check_function.proofs.Table.{body_put, seen_body}
use Rattle.mm_check_function.proofs.known.define.Goals as goal

pub returns-clause-functions : goal.returns-clause-functions
returns-clause-functions c = rw c.set.ensures (body_put c.args.fs.now c.args.n c.index-as_slice-n.result c.in_ok-f.f c.args.locals.now (block_of (steps_view c.args.body)) (rw c.as_slice.ensures at c.index-as_slice-n.is) c.requires c.in_ok-f.ensures)

pub returns-clause-heads : goal.returns-clause-heads
returns-clause-heads c = ap seen (returns-clause-functions c) ∙ seen_body (functions_view c.args.fs.now) c.args.n c.args.locals.now (block_of (steps_view c.args.body))
