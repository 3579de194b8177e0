use Rattle.std.proofs.Common.{◌≡◌, ◌+◌, ◌<◌, ◌≤◌, arith, ap, ◌∙◌, length, None, get_or, sym, subst, cond, false}
use Rattle.std.proofs.lemmas.List.{length_push}
use Rattle.std.specs.Option.{option_map}
use Rattle.mm_classes.specs.Subobjects.{end_of}
use Rattle.mm_classes.specs.Questions.{node, IsNode}
use Rattle.mm_layout.specs.Regions.{own_cells}
use Rattle.mm_layout.specs.Cells.{IsTag, cells_before, tags_before}
use Rattle.mm_layout.specs.Layouts.{test_of}
use Rattle.mm_layout.proofs.Numbering.{cells_more}
use Rattle.mm_layout.proofs.Virtual.{pushed}
use Rattle.mm_layout.proofs.Owning.{tag_is}
use Rattle.mm_layout.proofs.cells.numbers.Goals as goal

pub loop-n-preserved : goal.loop-n-preserved
loop-n-preserved c =
    let here : IsNode c.args.graph.now c.args.d c.loop-n.n = omega (arith, c.count-count.ensures.count) in
    let more = cells_more c.args.graph.now (test_of c.args.sorts.now.tags.items) c.args.d c.loop-n.n here in
    let own : cond (get_or c.args.sorts.now.owning.items c.class_of.result false) 1 0 ≡ own_cells c.args.graph.now (test_of c.args.sorts.now.tags.items) (end_of (node c.args.graph.now c.args.d c.loop-n.n))
    = ap (λ b. cond b 1 0) (c.requires.sorts.owning.each c.class_of.result c.class_of.ensures.complete) ∙ ap (own_cells c.args.graph.now (test_of c.args.sorts.now.tags.items)) c.class_of.ensures.class in
    record {
      low = omega arith;
      long = ap length c.in_ok-push.ensures.items ∙ length_push c.loop-n.tags.items c.tag_with.result ∙ ap (λ n. n + 1) c.loop-n.invariant.long;
      each = pushed (λ k o. IsTag c.args.graph.now (test_of c.args.sorts.now.tags.items) c.args.d k o) c.loop-n.tags.items c.push.new.self.items c.loop-n.n c.tag_with.result None
          c.loop-n.invariant.long c.loop-n.invariant.each
          (subst (IsTag c.args.graph.now (test_of c.args.sorts.now.tags.items) c.args.d c.loop-n.n) (sym c.tag_with.ensures)
          (tag_is c.args.graph.now c.requires.valid (test_of c.args.sorts.now.tags.items) c.requires.sorts.tags.1 c.args.d c.requires.class c.loop-n.n c.loop-n.next (get_or c.args.owners.now c.loop-n.n None)
          (c.loop-n.invariant.next_is ∙ ap (λ z. z + cells_before c.args.graph.now (test_of c.args.sorts.now.tags.items) c.args.d c.loop-n.n) c.requires.first) (c.requires.owners.each c.loop-n.n here)))
          c.in_ok-push.ensures.items;
      next_is = omega (arith, c.after-next.ensures, c.loop-n.invariant.next_is, more, own);
    }
