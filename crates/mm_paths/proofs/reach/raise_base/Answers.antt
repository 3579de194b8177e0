use Rattle.std.proofs.Common.{◌≡◌, ◌∙◌, refl, sym, arith, length-set}
use Rattle.mm_paths.proofs.Building.{known_at}
use Rattle.mm_paths.proofs.Steps.{step_starts, step_inside, step_more, step_none, step_all}
use Rattle.mm_paths.proofs.reach.raise_base.Goals as goal

pub accesses-accesses-requires : goal.accesses-accesses-requires
accesses-accesses-requires c = known_at c.args.graph.now c.args.bases.now c.args.n c.index-bases-n.result c.index-bases-n.is c.requires.can.known c.requires.base

pub loop-k-init : goal.loop-k-init
loop-k-init c = record {
  low = omega arith;
  long = refl;
  so_far = step_none c.args.graph.now c.requires.valid c.args.class c.args.bases.now c.requires.can c.args.n c.args.at c.index-bases-n.result c.index-bases-n.is c.requires.base c.requires.here c.requires.link c.args.nodes.now.all.items c.requires.nodes c.requires.few c.args.nodes.now.shared.items c.args.nodes.now.starts.items c.requires.shared c.requires.starts c.accesses-accesses.result.now c.accesses-accesses.ensures.access c.args.all.now.items c.requires.before;
}

pub place_in-to-requires-clause-complete : goal.place_in-to-requires-clause-complete
place_in-to-requires-clause-complete c = known_at c.args.graph.now c.args.bases.now c.args.n c.index-bases-n.result c.index-bases-n.is c.requires.can.known c.requires.base

pub place_in-to-requires-clause-starts : goal.place_in-to-requires-clause-starts
place_in-to-requires-clause-starts c = step_starts c.args.graph.now c.requires.valid c.args.class c.args.bases.now c.requires.can c.args.n c.args.at c.index-bases-n.result c.index-bases-n.is c.requires.base c.requires.here c.requires.link c.args.nodes.now.all.items c.requires.nodes c.requires.few c.as_slice.result.now c.as_slice-in-loop-k.result.now (c.as_slice.ensures.value ∙ c.requires.shared) (c.as_slice-in-loop-k.ensures.value ∙ c.requires.starts) c.accesses-accesses.result.now c.accesses-accesses.ensures.access c.loop-k.k c.loop-k-test.true

pub index-requires : goal.index-requires
index-requires c =
    let i = step_inside c.args.graph.now c.requires.valid c.args.class c.args.bases.now c.requires.can c.args.n c.args.at c.index-bases-n.result c.index-bases-n.is c.requires.base c.requires.here c.requires.link c.args.nodes.now.all.items c.requires.nodes c.requires.few c.as_slice.result.now c.as_slice-in-loop-k.result.now (c.as_slice.ensures.value ∙ c.requires.shared) (c.as_slice-in-loop-k.ensures.value ∙ c.requires.starts) c.accesses-accesses.result.now c.accesses-accesses.ensures.access c.loop-k.k c.place_in-to.result c.loop-k-test.true c.place_in-to.ensures in
    let a = c.loop-k.invariant.long in let b = c.requires.long in let v = c.loop-k.all.ok.0 in omega arith

pub index_mut-requires : goal.index_mut-requires
index_mut-requires c =
    let i = step_inside c.args.graph.now c.requires.valid c.args.class c.args.bases.now c.requires.can c.args.n c.args.at c.index-bases-n.result c.index-bases-n.is c.requires.base c.requires.here c.requires.link c.args.nodes.now.all.items c.requires.nodes c.requires.few c.as_slice.result.now c.as_slice-in-loop-k.result.now (c.as_slice.ensures.value ∙ c.requires.shared) (c.as_slice-in-loop-k.ensures.value ∙ c.requires.starts) c.accesses-accesses.result.now c.accesses-accesses.ensures.access c.loop-k.k c.place_in-to.result c.loop-k-test.true c.place_in-to.ensures in
    let a = c.loop-k.invariant.long in let b = c.requires.long in let v = c.loop-k.all.ok.0 in omega arith

pub loop-k-preserved : goal.loop-k-preserved
loop-k-preserved c = record {
  low = omega arith;
  long = length-set c.loop-k.all.items c.place_in-to.result c.greater_of.result ∙ c.loop-k.invariant.long;
  so_far = step_more c.args.graph.now c.requires.valid c.args.class c.args.bases.now c.requires.can c.args.n c.args.at c.index-bases-n.result c.index-bases-n.is c.requires.base c.requires.here c.requires.link c.args.nodes.now.all.items c.requires.nodes c.requires.few c.as_slice.result.now c.as_slice-in-loop-k.result.now (c.as_slice.ensures.value ∙ c.requires.shared) (c.as_slice-in-loop-k.ensures.value ∙ c.requires.starts) c.accesses-accesses.result.now c.accesses-accesses.ensures.access
      c.loop-k.k c.place_in-to.result c.loop-k.all.items c.index.result.now c.passed_by.result c.greater_of.result c.loop-k-test.true c.place_in-to.ensures
      (c.loop-k.invariant.long ∙ c.requires.long) c.index.ensures c.passed_by.ensures c.greater_of.ensures c.loop-k.invariant.so_far;
}

pub returns-clause-after : goal.returns-clause-after
returns-clause-after c = step_all c.args.graph.now c.requires.valid c.args.class c.args.bases.now c.requires.can c.args.n c.args.at c.index-bases-n.result c.index-bases-n.is c.requires.base c.requires.here c.requires.link c.args.nodes.now.all.items c.requires.nodes c.requires.few c.args.nodes.now.shared.items c.args.nodes.now.starts.items c.requires.shared c.requires.starts c.accesses-accesses.result.now c.accesses-accesses.ensures.access c.loop-k.k c.loop-k.all.items c.loop-k.invariant.low (omega arith) c.loop-k.invariant.so_far
