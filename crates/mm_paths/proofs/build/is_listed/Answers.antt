use Rattle.std.proofs.Common.{refl, arith}
use Rattle.mm_paths.proofs.Looking.{listed_here, none_more}
use Rattle.mm_paths.proofs.build.is_listed.Goals as goal

pub returns-then-eq : goal.returns-then-eq
returns-then-eq c = ((λ e. listed_here c.args.bases.now c.loop-n.n c.args.class c.index-bases-n.result c.eq.result c.loop-n-test.true c.eq.ensures c.if-eq.true), λ h. refl)

pub loop-n-preserved : goal.loop-n-preserved
loop-n-preserved c = record { low = omega arith; none = none_more c.args.bases.now c.loop-n.n c.args.class c.index-bases-n.result c.eq.result c.loop-n-test.true c.loop-n.invariant.none c.eq.ensures c.if-eq.false }
