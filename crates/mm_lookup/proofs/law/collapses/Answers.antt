use Rattle.mm_lookup.proofs.Collapse.{collapse, uncollapse}
use Rattle.mm_lookup.proofs.law.collapses.Goals as goal

pub returns : goal.returns
returns c = record {
  to = collapse c.args.graph.now c.classes-classes.ensures.valid c.classes-classes.ensures.access;
  back = uncollapse c.args.graph.now c.classes-classes.ensures.valid c.classes-classes.ensures.access;
}
