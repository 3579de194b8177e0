use Rattle.std.proofs.Common.{◌≡◌, ap, sym, subst, arith, ◌∙◌}
use Rattle.mm_classes.specs.Subobjects.{end_of, compose}
use Rattle.mm_classes.specs.Questions.{node, IsNode}
use Rattle.mm_paths.specs.Reach.{AreStarts}
use Rattle.mm_paths.proofs.Stored.{few_at}
use Rattle.mm_paths.proofs.Placing.{starts_stand, placed_at}
use Rattle.mm_paths.proofs.graph.Graph.compose.Goals as goal

pub place_in-requires-clause-valid : goal.place_in-requires-clause-valid
place_in-requires-clause-valid c = c.parts_of-whole.ensures.valid

pub place_in-requires-clause-starts : goal.place_in-requires-clause-starts
place_in-requires-clause-starts c = subst (λ m. AreStarts c.args.self.now c.class_of-part.result m c.as_slice.result.now c.as_slice-2.result.now) (sym c.m.view_is)
    (starts_stand c.args.self.now c.parts_of-whole.ensures.valid c.args.d c.args.n c.args.m c.class_of-part.result c.as_slice.result.now c.as_slice-2.result.now
    c.requires.node c.requires.part c.class_of-part.ensures.class (few_at c.args.self.now c.args.d c.parts_of-whole.result.now c.parts_of-whole.ensures.parts)
    (c.as_slice.ensures.value ∙ c.parts_of-whole.ensures.parts.shared) (c.as_slice-2.ensures.value ∙ c.parts_of-whole.ensures.parts.starts))

pub node_id-requires : goal.node_id-requires
node_id-requires c =
    let f = placed_at c.args.self.now c.parts_of-whole.ensures.valid c.args.d c.args.n c.args.m c.class_of-part.result c.place_in.result c.as_slice.result.now c.as_slice-2.result.now
    c.requires.node c.requires.part c.class_of-part.ensures.class
    (c.as_slice.ensures.value ∙ c.parts_of-whole.ensures.parts.shared) (c.as_slice-2.ensures.value ∙ c.parts_of-whole.ensures.parts.starts)
    c.n.inside.number c.m.inside.number c.n.view_is c.m.view_is c.place_in.ensures in
    let z = f.0 in let g = few_at c.args.self.now c.args.d c.parts_of-whole.result.now c.parts_of-whole.ensures.parts in omega arith

facts : (c : goal.After-node_id) → IsNode c.args.self.now c.args.d c.place_in.result
    × (node c.args.self.now c.args.d c.place_in.result ≡ compose (node c.args.self.now c.args.d c.args.n) (node c.args.self.now (end_of (node c.args.self.now c.args.d c.args.n)) c.args.m))
facts c = placed_at c.args.self.now c.parts_of-whole.ensures.valid c.args.d c.args.n c.args.m c.class_of-part.result c.place_in.result c.as_slice.result.now c.as_slice-2.result.now
    c.requires.node c.requires.part c.class_of-part.ensures.class
    (c.as_slice.ensures.value ∙ c.parts_of-whole.ensures.parts.shared) (c.as_slice-2.ensures.value ∙ c.parts_of-whole.ensures.parts.starts)
    c.n.inside.number c.m.inside.number c.n.view_is c.m.view_is c.place_in.ensures

pub returns-clause-node : goal.returns-clause-node
returns-clause-node c = subst (IsNode c.args.self.now c.args.d) (sym c.node_id.ensures) (facts c).0

pub returns-clause-path : goal.returns-clause-path
returns-clause-path c = ap (node c.args.self.now c.args.d) c.node_id.ensures ∙ (facts c).1
