use Rattle.mm_pack.proofs.Rounds.{turn_more}
use Rattle.mm_pack.proofs.round.turn.Goals as goal

pub loop-column-preserved : goal.loop-column-preserved
loop-column-preserved c = turn_more c.args.rows.now c.loop-column.column c.loop-column.cells.items c.push_column.new.cells.items c.loop-column.invariant c.in_ok-push_column.ensures
