use Rattle.std.proofs.Common.{List, subst}
use Rattle.mm_classes.specs.Classes.{Class, IsClassList}
use Rattle.mm_classes.proofs.Laws.{composes}
use Rattle.mm_paths.specs.Stored.{IsStored}
use Rattle.mm_paths.proofs.Laws.{has_access}
use Rattle.mm_paths.proofs.graph.Graph.classes.Goals as goal

pub returns-clause-laws : goal.returns-clause-laws
returns-clause-laws c = composes c.args.self.now (subst IsClassList c.self.view_is c.self.invariant.valid)

pub returns-clause-access : goal.returns-clause-access
returns-clause-access c = has_access c.args.self.now c.self.inside.parts.items (subst (λ (g : List Class). IsStored g c.self.inside.parts.items) c.self.view_is c.self.invariant)
