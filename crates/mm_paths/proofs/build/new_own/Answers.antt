use Rattle.std.proofs.Common.{arith}
use Rattle.mm_paths.specs.declared.entry.MakeEnd.TheVariants.{Many}
use Rattle.mm_paths.specs.Stored.{paths_in}
use Rattle.mm_paths.proofs.Building.{known_at, own_more, own_many, err_moved}
use Rattle.mm_paths.proofs.build.new_own.Goals as goal

pub own-requires : goal.own-requires
own-requires c = known_at c.args.graph.now c.args.bases.now c.loop-n.n c.index-bases-n.result c.index-bases-n.is c.requires.known c.loop-n-test.true

pub loop-n-preserved : goal.loop-n-preserved
loop-n-preserved c = record {
  low = omega arith;
  few = c.in_ok-push_plain.ensures.few;
  done = own_more c.args.graph.now c.args.class c.args.bases.now c.loop-n.n c.index-bases-n.result c.index-bases-n.is c.loop-n-test.true (paths_in c.own.result.now) c.own.ensures
      (paths_in c.loop-n.nodes.items) (paths_in c.push_plain.new.nodes.items) c.loop-n.invariant.done c.in_ok-push_plain.ensures.ok;
}

pub returns-in_err-push_plain-clause-many : goal.returns-in_err-push_plain-clause-many
returns-in_err-push_plain-clause-many c = err_moved c.from_residual-in_err-push_plain.result c.in_err-push_plain.field-0.0 Many _ c.from_residual-in_err-push_plain.ensures.1
    (λ h. own_many c.args.graph.now c.args.class c.args.bases.now c.loop-n.n c.index-bases-n.result c.index-bases-n.is c.loop-n-test.true (paths_in c.own.result.now) c.own.ensures
    c.loop-n.nodes.items c.loop-n.invariant.done (c.in_err-push_plain.ensures.many h))
