use Rattle.std.proofs.Common.{sym, subst, ap, ◌∙◌, get_or}
use Rattle.mm_virtual.specs.Finals.{Gives}
use Rattle.mm_virtual.proofs.Halving.{row_is}
use Rattle.mm_virtual.proofs.finals.Finals.at.Goals as goal

pub at-requires-clause-row : goal.at-requires-clause-row
at-requires-clause-row c = row_is c.self.inside.rows.items c.args.n c.args.member c.requires.0 c.index.result.now c.self.invariant
    (subst (λ f. Gives f c.args.n c.args.member c.requires.0) (sym c.self.view_is) c.requires.1)
    (c.index.ensures ∙ ap (λ i. get_or c.self.inside.rows.items i c.index.result.now) c.n.view_is)
