use Rattle.std.proofs.Common.{◌≡◌, arith, sym, ◌∙◌}
use Rattle.std.specs.Prelude.{true, false}
use Rattle.mm_paths.proofs.Looking.{declared_at, fine_here, fine_more}
use Rattle.mm_paths.proofs.build.look.Goals as goal

pub is_complete-requires : goal.is_complete-requires
is_complete-requires c = declared_at c.args.graph.now c.args.bases.now c.loop-n.n c.index-bases-n.result c.index-bases-n.is c.loop-n-test.true c.requires

pub loop-n-preserved : goal.loop-n-preserved
loop-n-preserved c = record {
  low = omega arith;
  fine = fine_more c.args.graph.now c.args.bases.now c.loop-n.n c.loop-n.invariant.fine
      (fine_here c.args.graph.now c.args.bases.now c.loop-n.n c.index-bases-n.result c.index-bases-n.is c.loop-n-test.true
      (λ h. let z : false ≡ true = c.if-is_listed.ensures.1 h in cc) (sym c.is_complete.ensures ∙ c.if-not-is_complete.false));
}
