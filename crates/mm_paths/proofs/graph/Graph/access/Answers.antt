use Rattle.std.proofs.Common.{get_or, sym, subst}
use Rattle.std.specs.Prelude.{None}
use Rattle.mm_classes.specs.declared.class.Access.TheVariants.{Public}
use Rattle.mm_classes.specs.Access.{IsAccess}
use Rattle.mm_classes.specs.Questions.{node}
use Rattle.mm_paths.proofs.graph.Graph.access.Goals as goal

pub returns : goal.returns
returns c = subst (λ i. IsAccess c.args.self.now c.args.d (node c.args.self.now c.args.d c.args.n) Public (get_or c.accesses.result.now i None)) (sym c.n.view_is)
    (c.accesses.ensures.access.each c.args.n c.requires.node)
