use Rattle.std.proofs.Common.{◌≡◌, ◌≤◌, ap, ◌∙◌, sym, subst, refl, arith, length}
use Rattle.mm_classes.specs.Questions.{node}
use Rattle.mm_classes.specs.Subobjects.{chains}
use Rattle.mm_paths.proofs.Placing.{head_has, start_behind, placed_anew}
use Rattle.mm_paths.proofs.reach.place_in.Goals as goal

read : (c : goal.After-index-path-0) → c.path.result.now ≡ node c.args.graph.now c.args.part c.args.m
read c = c.path.ensures.path ∙ ap (node c.args.graph.now c.args.part) c.node_id.ensures

far : (c : goal.After-index-path-0) → length (chains c.args.graph.now (length c.args.graph.now) c.args.part) ≤ c.args.m
far c = let e = c.own_count.ensures.count in let l = c.if-m-own_count.false in omega arith

pub start-from-requires-clause-has : goal.start-from-requires-clause-has
start-from-requires-clause-has c = head_has c.args.graph.now c.requires.valid c.args.part c.args.m c.index-path-0.result c.path.result.now c.requires.node (far c) (read c) c.index-path-0.is

pub overflow_sub-result : goal.overflow_sub-result
overflow_sub-result c = start_behind c.args.graph.now c.requires.valid c.args.part c.args.m c.start-from.result c.index-path-0.result c.path.result.now c.requires.node
    (let e = c.own_count.ensures.count in let l = c.if-m-own_count.false in omega arith)
    (c.path.ensures.path ∙ ap (node c.args.graph.now c.args.part) c.node_id.ensures) c.index-path-0.is c.start-from.ensures

pub returns : goal.returns
returns c = placed_anew c.args.graph.now c.requires.valid c.args.part c.args.at c.args.m _ c.start-from.result c.start_among-to.result c.index-path-0.result c.path.result.now
    c.args.shared.now c.args.starts.now c.requires.node
    (let e = c.own_count.ensures.count in let l = c.if-m-own_count.false in omega arith)
    (c.path.ensures.path ∙ ap (node c.args.graph.now c.args.part) c.node_id.ensures) c.index-path-0.is c.start-from.ensures c.start_among-to.ensures refl
