use Rattle.std.proofs.Common.{arith}
use Rattle.mm_c.specs.View.{code_view}
use Rattle.mm_lower_trees.proofs.Stmts.{start, item, item_depth, next, end}
use Rattle.mm_lower_trees.proofs.stmt.+stmt.Goals as goal

pub lower_stmts-loop-s-init : goal.lower_stmts-loop-s-init
lower_stmts-loop-s-init t c = start c.args.scope.now c.args.t (code_view c.args.code.now) c.args.ss.now c.requires.lowered

pub lower_stmts-lower_stmt-requires : goal.lower_stmts-lower_stmt-requires
lower_stmts-lower_stmt-requires t c =
    let h = item c.args.scope.now c.args.t (code_view c.args.code.now) c.args.ss.now c.loop-s.s-index c.s-item.result (code_view c.loop-s.code) c.s-item.is c.loop-s-test.true c.loop-s.invariant c.requires.few in
    let d = item_depth c.args.scope.now c.args.t (code_view c.args.code.now) c.args.ss.now c.loop-s.s-index c.s-item.result (code_view c.loop-s.code) c.s-item.is c.loop-s-test.true c.loop-s.invariant in
    (omega (arith, d, c.decreases), (h.0, h.1))

pub lower_stmts-loop-s-preserved : goal.lower_stmts-loop-s-preserved
lower_stmts-loop-s-preserved t c =
    next c.args.scope.now c.args.t (code_view c.args.code.now) c.args.ss.now c.loop-s.s-index c.s-item.result (code_view c.loop-s.code) c.s-item.is c.loop-s-test.true c.loop-s.invariant
    (code_view c.lower_stmt.new.code) c.in_ok-lower_stmt.ensures

pub lower_stmts-returns : goal.lower_stmts-returns
lower_stmts-returns t c = end c.args.scope.now c.args.t (code_view c.args.code.now) c.args.ss.now c.loop-s.s-index (code_view c.loop-s.code) c.loop-s-test.false c.loop-s.invariant
