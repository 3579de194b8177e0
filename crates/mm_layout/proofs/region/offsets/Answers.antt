use Rattle.std.proofs.Common.{◌≡◌, ◌+◌, arith, ap, ◌∙◌, sym, length}
use Rattle.std.proofs.lemmas.List.{length_push}
use Rattle.mm_classes.specs.Questions.{IsNode}
use Rattle.mm_layout.specs.Regions.{offset_of, region_of}
use Rattle.mm_layout.specs.Layouts.{test_of}
use Rattle.mm_layout.proofs.Offsets.{offset-more}
use Rattle.mm_layout.proofs.Virtual.{pushed}
use Rattle.mm_layout.proofs.region.offsets.Goals as goal

pub loop-n-preserved : goal.loop-n-preserved
loop-n-preserved c =
    let here : IsNode c.args.graph.now c.args.d c.loop-n.n = omega (arith, c.count-count.ensures.count) in
    record {
      low = omega arith;
      long = ap length c.in_ok-push.ensures.items ∙ length_push c.loop-n.offsets.items c.loop-n.end ∙ ap (λ n. n + 1) c.loop-n.invariant.long;
      each = pushed (λ k v. v ≡ offset_of c.args.graph.now (test_of c.args.sorts.now.tags.items) c.args.d k) c.loop-n.offsets.items c.push.new.self.items c.loop-n.n c.loop-n.end 0
          c.loop-n.invariant.long c.loop-n.invariant.each c.loop-n.invariant.end_is c.in_ok-push.ensures.items;
      end_is = ap (λ x. x + c.region-end.result) c.loop-n.invariant.end_is
          ∙ ap (λ x. offset_of c.args.graph.now (test_of c.args.sorts.now.tags.items) c.args.d c.loop-n.n + x)
          (c.region-end.ensures ∙ c.requires.sorts.regions.each c.class_of.result c.class_of.ensures.complete ∙ ap (region_of c.args.graph.now (test_of c.args.sorts.now.tags.items)) c.class_of.ensures.class)
          ∙ sym (offset-more c.args.graph.now (test_of c.args.sorts.now.tags.items) c.args.d c.loop-n.n here);
      small = omega (arith, c.loop-n.invariant.small, c.region-end.ensures, c.requires.sorts.regions.small c.class_of.result c.class_of.ensures.complete);
    }
