use Rattle.std.proofs.Common.{ap, ◌∙◌, arith}
use Rattle.mm_c.specs.View.{code_view}
use Rattle.mm_c.specs.declared.tree.CAtom.TheVariants.{Name}
use Rattle.mm_lower_trees.proofs.Exprs.{start, item, item_depth, next_few, next_with, end_code, end_atoms}
use Rattle.mm_lower_trees.proofs.expr.+expr.Goals as goal

pub lower_all-loop-e-init : goal.lower_all-loop-e-init
lower_all-loop-e-init t c = rw c.new-atoms.ensures (start c.args.scope.now c.args.t (code_view c.args.code.now) c.args.es.now c.requires.lowered)

pub lower_all-lower_expr-requires : goal.lower_all-lower_expr-requires
lower_all-lower_expr-requires t c =
    let h = item c.args.scope.now c.args.t (code_view c.args.code.now) c.args.es.now c.loop-e.e-index c.loop-e.at c.e-item.result (code_view c.loop-e.code) c.loop-e.atoms c.e-item.is c.loop-e-test.true c.loop-e.invariant c.requires.few in
    let d = item_depth c.args.scope.now c.args.t (code_view c.args.code.now) c.args.es.now c.loop-e.e-index c.loop-e.at c.e-item.result (code_view c.loop-e.code) c.loop-e.atoms c.e-item.is c.loop-e-test.true c.loop-e.invariant in
    (omega (arith, d, c.decreases), (h.0, h.1))

pub lower_all-loop-e-preserved : goal.lower_all-loop-e-preserved
lower_all-loop-e-preserved t c =
    next_with c.args.scope.now c.args.t (code_view c.args.code.now) c.args.es.now c.loop-e.e-index c.loop-e.at c.e-item.result (code_view c.loop-e.code) c.loop-e.atoms c.e-item.is c.loop-e-test.true c.loop-e.invariant
    (code_view c.lower_expr.new.code) c.push.new.self c.in_ok-atom.field-0 c.in_ok-ty.ty c.in_ok-ty.ensures.code c.in_ok-push.ensures.ok (c.in_ok-atom.ensures ∙ ap Name c.name_for.ensures) c.in_ok-ty.ensures.value

pub lower_all-returns-clause-code : goal.lower_all-returns-clause-code
lower_all-returns-clause-code t c = end_code c.args.scope.now c.args.t (code_view c.args.code.now) c.args.es.now c.loop-e.e-index c.loop-e.at (code_view c.loop-e.code) c.loop-e.atoms c.loop-e-test.false c.loop-e.invariant

pub lower_all-returns-clause-atoms : goal.lower_all-returns-clause-atoms
lower_all-returns-clause-atoms t c = end_atoms c.args.scope.now c.args.t (code_view c.args.code.now) c.args.es.now c.loop-e.e-index c.loop-e.at (code_view c.loop-e.code) c.loop-e.atoms c.loop-e-test.false c.loop-e.invariant

pub lower_all-overflow_add-at : goal.lower_all-overflow_add-at
lower_all-overflow_add-at t c =
    let h = next_few c.args.scope.now c.args.t (code_view c.args.code.now) c.args.es.now c.loop-e.e-index c.loop-e.at c.e-item.result (code_view c.loop-e.code) c.loop-e.atoms c.e-item.is c.loop-e-test.true c.loop-e.invariant c.requires.few in
    omega (arith, h)
