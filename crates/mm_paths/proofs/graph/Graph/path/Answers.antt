use Rattle.std.proofs.Common.{◌≡◌, get_or, sym, ap, ◌∙◌, subst}
use Rattle.mm_classes.specs.Subobjects.{IsSubobject}
use Rattle.mm_classes.specs.Questions.{node}
use Rattle.mm_classes.proofs.Answering.{node_sub, sub_long, end_complete}
use Rattle.mm_paths.proofs.Stored.{path_is}
use Rattle.mm_paths.proofs.graph.Graph.path.Goals as goal

is_node : (c : goal.After-as_slice) → c.as_slice.result.now ≡ node c.args.self.now c.args.d c.args.n
is_node c = c.as_slice.ensures ∙ path_is c.args.self.now c.args.d c.parts_of.result.now c.parts_of.ensures.parts c.args.n c.index.result.now
    (c.index.ensures ∙ ap (λ i. get_or c.parts_of.result.now.nodes.items i c.index.result.now) c.n.view_is) c.requires.node

is_sub : (c : goal.After-as_slice) → IsSubobject c.args.self.now c.args.d c.as_slice.result.now
is_sub c = subst (IsSubobject c.args.self.now c.args.d) (sym (is_node c)) (node_sub c.args.self.now c.parts_of.ensures.valid c.args.d c.args.n c.requires.node)

pub returns-clause-path : goal.returns-clause-path
returns-clause-path c = is_node c

pub returns-clause-long : goal.returns-clause-long
returns-clause-long c = sub_long c.args.self.now c.parts_of.ensures.valid c.args.d c.as_slice.result.now (is_sub c)

pub returns-clause-sub : goal.returns-clause-sub
returns-clause-sub c = is_sub c

pub returns-clause-end : goal.returns-clause-end
returns-clause-end c = end_complete c.args.self.now c.parts_of.ensures.valid c.args.d c.as_slice.result.now c.requires.complete (is_sub c)
