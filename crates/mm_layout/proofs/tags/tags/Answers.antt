use Rattle.std.proofs.Common.{◌+◌, arith, ap, ◌∙◌, length, false}
use Rattle.std.proofs.lemmas.List.{length_push}
use Rattle.std.specs.Bool.{Decides}
use Rattle.mm_layout.specs.Regions.{HasTag}
use Rattle.mm_layout.proofs.Virtual.{pushed}
use Rattle.mm_layout.proofs.tags.tags.Goals as goal

pub loop-c-preserved : goal.loop-c-preserved
loop-c-preserved c = record {
  low = omega arith;
  long = ap length c.in_ok-push.ensures.items ∙ length_push c.loop-c.tags.items c.has_tag.result ∙ ap (λ n. n + 1) c.loop-c.invariant.long;
  done = pushed (λ k b. Decides b (HasTag c.args.graph.now k)) c.loop-c.tags.items c.push.new.self.items c.loop-c.c c.has_tag.result false c.loop-c.invariant.long c.loop-c.invariant.done
      c.has_tag.ensures c.in_ok-push.ensures.items;
}
