use Rattle.std.specs.Prelude.{if◌then◌else◌, is_ok}
use Rattle.std.proofs.Common.{◌≡◌, ◌∷◌, [], ◌++◌, length, arith, subst, sym, ap, ◌∙◌}
use Rattle.mm_paths.specs.declared.entry.MakeEnd.TheVariants.{Many}
use Rattle.mm_classes.specs.Lists.{Has}
use Rattle.mm_classes.specs.Subobjects.{chains}
use Rattle.mm_classes.proofs.Answering.{Has-get_or}
use Rattle.mm_paths.specs.Stored.{paths_in}
use Rattle.mm_paths.proofs.Starts.{starts-more}
use Rattle.mm_paths.proofs.Building.{shared_more, shared_many, err_moved}
use Rattle.mm_paths.proofs.build.push_shared.Goals as goal

pub own-requires : goal.own-requires
own-requires c = c.requires.complete c.index-shared-n.result
    (subst (Has c.args.shared.now) (sym c.index-shared-n.is) (Has-get_or c.args.shared.now c.loop-n.n c.index-shared-n.result c.loop-n-test.true))

pub loop-n-preserved : goal.loop-n-preserved
loop-n-preserved c = record {
  low = omega arith;
  few = c.in_ok-push_block.ensures.few;
  done = shared_more (chains c.args.graph.now (length c.args.graph.now)) (paths_in c.args.nodes.now.items) (paths_in c.loop-n.nodes.items) (paths_in c.push_block.new.nodes.items)
      (paths_in c.own.result.now) c.args.shared.now c.loop-n.n c.index-shared-n.result c.index-shared-n.is c.loop-n-test.true c.own.ensures c.loop-n.invariant.done c.in_ok-push_block.ensures.ok;
  begun = starts-more (chains c.args.graph.now (length c.args.graph.now)) c.args.nodes.now.items c.loop-n.nodes.items c.args.shared.now c.loop-n.n c.index-shared-n.result
      c.loop-n.starts.items c.push.new.self.items c.index-shared-n.is c.loop-n-test.true c.loop-n.invariant.done c.loop-n.invariant.begun
      (c.push.ensures.items ∙ ap (λ b. if b then (c.loop-n.starts.items ++ c.len.result ∷ []) else c.loop-n.starts.items) (sym c.map_err.ensures.variant ∙ ap is_ok c.in_ok-map_err.was) ∙ ap (λ k. c.loop-n.starts.items ++ k ∷ []) (let z = c.loop-n.nodes.ok.0 in let y = c.len.ensures in let k : c.len.result ≡ length c.loop-n.nodes.items = omega arith in k));
}

pub returns-in_err-push_block-clause-many : goal.returns-in_err-push_block-clause-many
returns-in_err-push_block-clause-many c = err_moved c.from_residual-in_err-push_block.result c.in_err-push_block.field-0.0 Many _ c.from_residual-in_err-push_block.ensures.1
    (λ h. shared_many (chains c.args.graph.now (length c.args.graph.now)) c.args.nodes.now.items c.loop-n.nodes.items c.own.result.now
    c.args.shared.now c.loop-n.n c.index-shared-n.result c.index-shared-n.is c.loop-n-test.true c.own.ensures c.loop-n.invariant.done (c.in_err-push_block.ensures.many h))
