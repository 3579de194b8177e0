use Rattle.std.proofs.Common.{◌+◌, arith, ap, ◌∙◌, length, false}
use Rattle.std.proofs.lemmas.List.{length_push}
use Rattle.std.specs.Bool.{Decides}
use Rattle.mm_classes.specs.Subobjects.{IsWithin}
use Rattle.mm_classes.specs.Questions.{node}
use Rattle.mm_virtual.proofs.Finding.{pushed}
use Rattle.mm_virtual.proofs.over.around.Goals as goal

pub loop-t-preserved : goal.loop-t-preserved
loop-t-preserved c = record {
  low = omega arith;
  long = ap length c.in_ok-push.ensures.items ∙ length_push c.loop-t.around.items c.contains.result ∙ ap (λ n. n + 1) c.loop-t.invariant.long;
  done = pushed (λ k b. Decides b (IsWithin c.args.graph.now (node c.args.graph.now c.args.d c.args.n) (node c.args.graph.now c.args.d k))) c.loop-t.around.items c.push.new.self.items c.loop-t.t c.contains.result false
      c.loop-t.invariant.long c.loop-t.invariant.done c.contains.ensures c.in_ok-push.ensures.items;
}
