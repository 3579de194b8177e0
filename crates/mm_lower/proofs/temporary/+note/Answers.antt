use Rattle.std.proofs.Common.{arith}
use Rattle.mm_lower.proofs.Noting.{start, item_depth, next, end}
use Rattle.mm_lower.proofs.temporary.+note.Goals as goal

pub note_code-loop-s-init : goal.note_code-loop-s-init
note_code-loop-s-init t c = start c.args.locals.now c.args.code.now

pub note_code-note_stmt-requires : goal.note_code-note_stmt-requires
note_code-note_stmt-requires t c =
    let d = item_depth c.args.locals.now c.args.code.now c.loop-s.s-index c.s-item.result c.loop-s.locals c.s-item.is c.loop-s-test.true c.loop-s.invariant in
    omega (arith, d, c.decreases)

pub note_code-loop-s-preserved : goal.note_code-loop-s-preserved
note_code-loop-s-preserved t c = next c.args.locals.now c.args.code.now c.loop-s.s-index c.s-item.result c.loop-s.locals c.s-item.is c.loop-s-test.true c.loop-s.invariant c.note_stmt.new.locals c.in_ok-note_stmt.ensures

pub note_code-returns : goal.note_code-returns
note_code-returns t c = end c.args.locals.now c.args.code.now c.loop-s.s-index c.loop-s.locals c.loop-s-test.false c.loop-s.invariant
