use Rattle.std.proofs.Common.{◌+◌, subst, sym, arith}
use Rattle.mm_classes.specs.declared.answer.Up.{Up}
use Rattle.mm_classes.specs.Questions.{Picks, Surrounds}
use Rattle.mm_classes.proofs.Within.{picks_step}
use Rattle.mm_paths.proofs.graph.Graph.around.Goals as goal

pub loop-x-preserved : goal.loop-x-preserved
loop-x-preserved c = record {
  low = omega arith;
  so_far = subst (λ (u : Up). Picks u (Surrounds c.args.self.now c.args.d c.args.n c.args.t) (c.loop-x.x + 1)) (sym c.pick-found.ensures)
      (picks_step (Surrounds c.args.self.now c.args.d c.args.n c.args.t) c.loop-x.found c.loop-x.x c.surrounds.result c.surrounds.ensures c.loop-x.invariant.so_far);
}
