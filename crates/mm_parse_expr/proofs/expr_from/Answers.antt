use Rattle.std.proofs.Common.{inl, inr, arith}
use Rattle.mm_parse_expr.proofs.Longest.{answer_long_tree, answer_long_fault, answer_tree, answer_fault}
use Rattle.mm_parse_expr.proofs.expr_from.Goals.{else-is_cut-via-then-is_cut+else-left-eq0, else-is_cut-via-else-is_cut, else-is_cut-2-via-then-is_cut-2+else-rest-le1, else-is_cut-2-via-else-is_cut-2}
use Rattle.mm_parse_expr.proofs.expr_from.Goals as goal

pub returns-then-left-eq0 : goal.returns-then-left-eq0
returns-then-left-eq0 c =
    inr (answer_long_tree c.args.tokens.now c.first-read.result.now c.new-cursor.result c.expr.new.cursor c.rest-left.result.now c.args.room c.in-Ok.begun c.place_at.result c.new-cursor.ensures c.first-read.ensures c.rest-left.ensures
    (omega (arith, c.if-is_cut.true)) (omega (arith, c.if-left-eq0.true)) c.in-Ok.ensures.reads c.place_at.ensures)

pub returns-then-rest-le1 : goal.returns-then-rest-le1
returns-then-rest-le1 c =
    inr (answer_long_fault c.args.tokens.now c.first-read.result.now c.new-cursor.result c.expr.new.cursor c.rest-rest.result.now c.args.room c.in-Err-Fault.field-0 c.place_at-then-rest-le1.result c.new-cursor.ensures c.first-read.ensures c.rest-rest.ensures
    (omega (arith, c.if-is_cut-2.true)) (omega (arith, c.if-rest-le1.true)) c.in-Err-Fault.field-0-is c.in-Err-Fault.ensures.reads c.place_at-then-rest-le1.ensures)

pub returns-else-is_cut : goal.returns-else-is_cut
returns-else-is_cut c =
    answer_tree c.args.tokens.now c.first-read.result.now c.new-cursor.result c.expr.new.cursor c.rest-left.result.now c.args.room c.args.at c.args.end c.in-Ok.begun c.into_inner-tree.result c.new-cursor.ensures c.first-read.ensures c.rest-left.ensures
    (elim c.else-is_cut.branch [
      | else-is_cut-via-then-is_cut+else-left-eq0 w ↦ inr (omega (arith, w.if-left-eq0.false))
      | else-is_cut-via-else-is_cut w ↦ inl (omega (arith, w.if-is_cut.false))
    ])
    c.in-Ok.ensures.reads c.into_inner-tree.ensures

pub returns-else-is_cut-2 : goal.returns-else-is_cut-2
returns-else-is_cut-2 c =
    inl (answer_fault c.args.tokens.now c.first-read.result.now c.new-cursor.result c.expr.new.cursor c.rest-rest.result.now c.args.room c.args.end c.in-Err-Fault.field-0 c.first_place.result c.new-cursor.ensures c.first-read.ensures c.rest-rest.ensures
    (elim c.else-is_cut-2.branch [
      | else-is_cut-2-via-then-is_cut-2+else-rest-le1 w ↦ inr (omega (arith, w.if-rest-le1.false))
      | else-is_cut-2-via-else-is_cut-2 w ↦ inl (omega (arith, w.if-is_cut-2.false))
    ])
    c.in-Err-Fault.field-0-is c.in-Err-Fault.ensures.reads c.first_place.ensures)
