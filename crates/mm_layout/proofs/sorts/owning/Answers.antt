use Rattle.std.proofs.Common.{◌≡◌, ◌+◌, arith, ap, ◌∙◌, length, false, subst, sym, ◌<◌}
use Rattle.std.proofs.lemmas.List.{length_push}
use Rattle.mm_classes.specs.Classes.{IsComplete}
use Rattle.mm_layout.specs.Regions.{owns_cell}
use Rattle.mm_layout.specs.Layouts.{test_of}
use Rattle.mm_layout.proofs.Virtual.{pushed}
use Rattle.mm_layout.proofs.sorts.owning.Goals as goal

pub loop-c-preserved : goal.loop-c-preserved
loop-c-preserved c = record {
  low = omega arith;
  long = ap length c.in_ok-push.ensures.items ∙ length_push c.loop-c.owning.items c.owns_if_complete.result ∙ ap (λ n. n + 1) c.loop-c.invariant.long;
  done = pushed (λ k b. IsComplete c.args.graph.now k → b ≡ owns_cell c.args.graph.now (test_of c.args.tags.now) k) c.loop-c.owning.items c.push.new.self.items c.loop-c.c c.owns_if_complete.result false
      c.loop-c.invariant.long c.loop-c.invariant.done c.owns_if_complete.ensures c.in_ok-push.ensures.items;
}

pub returns : goal.returns
returns c =
    let all : c.loop-c.c ≡ length c.args.graph.now = omega (arith, c.classes-count.ensures.count) in
    record {
      count = c.loop-c.invariant.long ∙ all;
      each = λ k h. c.loop-c.invariant.done k (subst (λ n. k < n) (sym all) h.0) h;
    }
