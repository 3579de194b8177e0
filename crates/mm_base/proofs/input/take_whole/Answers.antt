use Rattle.std.proofs.Common.{rules}
use Rattle.mm_base.proofs.Taken.{takes_more}
use Rattle.mm_base.proofs.input.take_whole.Goals as goal

pub returns-in_err-extend_from_slice-clause-front :
    goal.returns-in_err-extend_from_slice-clause-front
returns-in_err-extend_from_slice-clause-front g c =
    takes_more c.loop-buffer.bytes.items c.in-Took.count
    (g.I.Source.seen c.args.input.now) (g.I.Source.seen c.loop-buffer.input) (g.I.Source.seen c.take.new.self)
    _ c.take.new.into
    c.loop-buffer.invariant.taken c.in-Took.ensures.content (search rules) c.in-Took.ensures.more (search rules)
