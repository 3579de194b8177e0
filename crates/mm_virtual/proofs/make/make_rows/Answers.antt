use Rattle.std.proofs.Common.{List, sym, subst, ap, ◌∙◌, ◌≡◌, ◌+◌, arith, length, [], ◌∷◌}
use Rattle.std.proofs.lemmas.List.{map-append}
use Rattle.std.proofs.lemmas.Result.{err_from_is_err_and}
use Rattle.mm_classes.specs.Subobjects.{subobjects_of}
use Rattle.mm_virtual.specs.Kept.{line_of, lines_of}
use Rattle.mm_virtual.proofs.Rowing.{AreLines, lines_none, lines_push, lines_rows, lines_finals, lacks_first}
use Rattle.mm_virtual.proofs.make.make_rows.Goals as goal

pub returns-in_err-row : goal.returns-in_err-row
returns-in_err-row c =
    let p = err_from_is_err_and c.from_residual.result c.from_residual.ensures.1 in
    rw (p.1, p.2) (lacks_first c.args.graph.now c.args.d c.loop-n.n (lines_of c.loop-n.rows.items) c.in_err-row.field-0.0 c.loop-n.invariant.lines c.in_err-row.ensures)

pub loop-n-init : goal.loop-n-init
loop-n-init c = record { low = omega arith; lines = lines_none c.args.graph.now c.args.d (lines_of c.new-rows.result.items) (ap lines_of c.new-rows.ensures.items) }

pub loop-n-preserved : goal.loop-n-preserved
loop-n-preserved c = record {
  low = omega arith;
  lines = subst (AreLines c.args.graph.now c.args.d (c.loop-n.n + 1)) (sym (ap lines_of c.in_ok-push_row.ensures ∙ map-append line_of c.loop-n.rows.items (c.in_ok-row.row ∷ [])))
      (lines_push c.args.graph.now c.args.d c.loop-n.n (lines_of c.loop-n.rows.items) (line_of c.in_ok-row.row) c.loop-n.invariant.lines c.in_ok-row.ensures);
}

pub returns : goal.returns
returns c =
    let l = c.loop-n.invariant.low in
    let t = c.loop-n-test.false in
    let k = c.count-count.ensures.count in
    let e : c.loop-n.n ≡ length (subobjects_of c.args.graph.now c.args.d) = omega arith in (
      lines_rows c.args.graph.now c.args.d (lines_of c.loop-n.rows.items) c.loop-n.n c.loop-n.invariant.lines,
      lines_finals c.args.graph.now c.args.d (lines_of c.loop-n.rows.items) (subst (λ z. AreLines c.args.graph.now c.args.d z (lines_of c.loop-n.rows.items)) e c.loop-n.invariant.lines),
    )
