use Rattle.std.proofs.Common.{◌≡◌, ◌≤◌, ◌+◌, arith, ap, ◌∙◌, length, subst, sym, ◌<◌}
use Rattle.std.proofs.lemmas.List.{length_push}
use Rattle.mm_classes.specs.Classes.{IsComplete}
use Rattle.mm_layout.specs.Regions.{region_of}
use Rattle.mm_layout.specs.Layouts.{test_of}
use Rattle.mm_layout.proofs.Virtual.{pushed}
use Rattle.mm_layout.proofs.sorts.regions.Goals as goal

pub loop-c-preserved : goal.loop-c-preserved
loop-c-preserved c = record {
  low = omega arith;
  long = ap length c.in_ok-push.ensures.items ∙ length_push c.loop-c.regions.items c.region_if_complete.result ∙ ap (λ n. n + 1) c.loop-c.invariant.long;
  done = pushed (λ k b. IsComplete c.args.graph.now k → b ≡ region_of c.args.graph.now (test_of c.args.tags.now) k) c.loop-c.regions.items c.push.new.self.items c.loop-c.c c.region_if_complete.result 0
      c.loop-c.invariant.long c.loop-c.invariant.done c.region_if_complete.ensures.region c.in_ok-push.ensures.items;
  few = pushed (λ k b. b ≤ 4194312) c.loop-c.regions.items c.push.new.self.items c.loop-c.c c.region_if_complete.result 0
      c.loop-c.invariant.long c.loop-c.invariant.few c.region_if_complete.ensures.small c.in_ok-push.ensures.items;
}

pub returns : goal.returns
returns c =
    let all : c.loop-c.c ≡ length c.args.graph.now = omega (arith, c.classes-count.ensures.count) in
    record {
      count = c.loop-c.invariant.long ∙ all;
      each = λ k h. c.loop-c.invariant.done k (subst (λ n. k < n) (sym all) h.0) h;
      small = λ k h. c.loop-c.invariant.few k (subst (λ n. k < n) (sym all) h.0);
    }
