use Rattle.std.proofs.Common.{◌≡◌, ◌+◌, subst, sym, arith}
use Rattle.mm_classes.specs.declared.answer.Up.{Up}
use Rattle.mm_classes.specs.Subobjects.{end_of}
use Rattle.mm_classes.specs.Questions.{Picks, node}
use Rattle.mm_classes.proofs.Within.{picks_step}
use Rattle.mm_paths.proofs.Looking.{number_decides}
use Rattle.mm_paths.proofs.graph.Graph.up.Goals as goal

pub loop-n-preserved : goal.loop-n-preserved
loop-n-preserved c = record {
  low = omega arith;
  so_far = subst (λ (u : Up). Picks u (λ n. end_of (node c.args.self.now c.args.c n) ≡ c.args.b) (c.loop-n.n + 1)) (sym c.pick-found.ensures)
      (picks_step (λ n. end_of (node c.args.self.now c.args.c n) ≡ c.args.b) c.loop-n.found c.loop-n.n c.eq.result
      (number_decides c.class_of.result c.args.b (end_of (node c.args.self.now c.args.c c.loop-n.n)) c.eq.result c.eq.ensures c.class_of.ensures.class) c.loop-n.invariant.so_far);
}
