use Rattle.std.proofs.Common.{◌≡◌, length, ap, sym, subst, arith, ◌∙◌}
use Rattle.mm_classes.specs.Subobjects.{end_of, compose, subobjects_of}
use Rattle.mm_classes.specs.Questions.{node, IsNode}
use Rattle.mm_paths.proofs.Parting.{near_is, far_heads, far_is}
use Rattle.mm_paths.proofs.graph.Graph.part.Goals as goal

pub returns-in-Some-clause-path : goal.returns-in-Some-clause-path
returns-in-Some-clause-path c = (near_is c.args.self.now c.own_count-own.ensures.valid c.args.d c.args.t c.args.s c.class_of-class.result c.own_count-own.result c.requires.whole c.requires.part c.class_of-class.ensures.class c.own_count-own.ensures.count c.in-Some.m c.in-Some.ensures).path

pub returns-in-Some-clause-node : goal.returns-in-Some-clause-node
returns-in-Some-clause-node c = (near_is c.args.self.now c.own_count-own.ensures.valid c.args.d c.args.t c.args.s c.class_of-class.result c.own_count-own.result c.requires.whole c.requires.part c.class_of-class.ensures.class c.own_count-own.ensures.count c.in-Some.m c.in-Some.ensures).node_in

pub start-from-requires-clause-has : goal.start-from-requires-clause-has
start-from-requires-clause-has c = (far_heads c.args.self.now c.own_count-own.ensures.valid c.args.d c.args.t c.args.s c.class_of-class.result c.own_count-own.result c.requires.whole c.requires.part c.class_of-class.ensures.class c.own_count-own.ensures.count c.requires.within c.in_default.ensures c.index-path-0.result c.path.result.now c.path.ensures.path c.index-path-0.is).0

pub start-to-requires-clause-has : goal.start-to-requires-clause-has
start-to-requires-clause-has c = (far_heads c.args.self.now c.own_count-own.ensures.valid c.args.d c.args.t c.args.s c.class_of-class.result c.own_count-own.result c.requires.whole c.requires.part c.class_of-class.ensures.class c.own_count-own.ensures.count c.requires.within c.in_default.ensures c.index-path-0.result c.path.result.now c.path.ensures.path c.index-path-0.is).1

pub overflow_sub-s-inside : goal.overflow_sub-s-inside
overflow_sub-s-inside c = (far_is c.args.self.now c.own_count-own.ensures.valid c.args.d c.args.t c.args.s c.class_of-class.result c.own_count-own.result c.requires.whole c.requires.part c.class_of-class.ensures.class c.own_count-own.ensures.count c.requires.within c.in_default.ensures c.index-path-0.result c.start-from.result c.start-to.result c.s.inside.number
    c.path.result.now c.path.ensures.path c.index-path-0.is c.start-from.ensures c.start-to.ensures c.s.view_is).0

pub overflow_add-to : goal.overflow_add-to
overflow_add-to c =
    let p = (far_is c.args.self.now c.own_count-own.ensures.valid c.args.d c.args.t c.args.s c.class_of-class.result c.own_count-own.result c.requires.whole c.requires.part c.class_of-class.ensures.class c.own_count-own.ensures.count c.requires.within c.in_default.ensures c.index-path-0.result c.start-from.result c.start-to.result c.s.inside.number
    c.path.result.now c.path.ensures.path c.index-path-0.is c.start-from.ensures c.start-to.ensures c.s.view_is).1.node_in in
    let l = c.own_count-own.ensures.all in
    let e = ap (λ z. length (subobjects_of c.args.self.now z)) c.class_of-class.ensures.class in omega arith

pub node_id-requires : goal.node_id-requires
node_id-requires c =
    let p = (far_is c.args.self.now c.own_count-own.ensures.valid c.args.d c.args.t c.args.s c.class_of-class.result c.own_count-own.result c.requires.whole c.requires.part c.class_of-class.ensures.class c.own_count-own.ensures.count c.requires.within c.in_default.ensures c.index-path-0.result c.start-from.result c.start-to.result c.s.inside.number
    c.path.result.now c.path.ensures.path c.index-path-0.is c.start-from.ensures c.start-to.ensures c.s.view_is).1.node_in in
    let l = c.own_count-own.ensures.all in
    let e = ap (λ z. length (subobjects_of c.args.self.now z)) c.class_of-class.ensures.class in omega arith

pub returns-clause-node : goal.returns-clause-node
returns-clause-node c = subst (IsNode c.args.self.now (end_of (node c.args.self.now c.args.d c.args.t))) (sym c.node_id.ensures)
    (far_is c.args.self.now c.own_count-own.ensures.valid c.args.d c.args.t c.args.s c.class_of-class.result c.own_count-own.result c.requires.whole c.requires.part c.class_of-class.ensures.class c.own_count-own.ensures.count c.requires.within c.in_default.ensures c.index-path-0.result c.start-from.result c.start-to.result c.s.inside.number
    c.path.result.now c.path.ensures.path c.index-path-0.is c.start-from.ensures c.start-to.ensures c.s.view_is).1.node_in

pub returns-clause-path : goal.returns-clause-path
returns-clause-path c = ap (λ m. compose (node c.args.self.now c.args.d c.args.t) (node c.args.self.now (end_of (node c.args.self.now c.args.d c.args.t)) m)) c.node_id.ensures
    ∙ (far_is c.args.self.now c.own_count-own.ensures.valid c.args.d c.args.t c.args.s c.class_of-class.result c.own_count-own.result c.requires.whole c.requires.part c.class_of-class.ensures.class c.own_count-own.ensures.count c.requires.within c.in_default.ensures c.index-path-0.result c.start-from.result c.start-to.result c.s.inside.number
    c.path.result.now c.path.ensures.path c.index-path-0.is c.start-from.ensures c.start-to.ensures c.s.view_is).1.path
