use Rattle.std.proofs.Common.{◌≡◌, rules, subst}
use Rattle.mm_classes.specs.Classes.{IsClassList}
use Rattle.mm_paths.specs.declared.entry.MakeEnd.TheVariants.{Many}
use Rattle.mm_paths.proofs.Added.{inserted, many_is}
use Rattle.mm_paths.proofs.Building.{err_moved}
use Rattle.mm_paths.proofs.graph.Graph.insert.Goals as goal

pub returns-in_err-made-clause-many : goal.returns-in_err-made-clause-many
returns-in_err-made-clause-many c = err_moved c.from_residual.result c.in_err-made.field-0.0 Many _ c.from_residual.ensures.1
    (λ h. many_is c.args.self.now (subst IsClassList c.self.view_is c.self.invariant.valid) c.args.class c.args.bases.now c.args.members.now c.requires (c.in_err-made.ensures.many h))

bases_are : (c : goal.After-complete) → c.in_ok-bases.bases.items ≡ c.args.bases.now
bases_are c = search rules

pub invariant_of-self : goal.invariant_of-self
invariant_of-self c = (inserted c.args.self.now c.self.inside.table c.complete.new.self c.self.inside.parts.items c.args.class c.class.inside.number c.args.bases.now c.in_ok-bases.bases.items
    c.args.members.now c.in_ok-members.members.items c.in_ok-made.made c.self.view_is c.self.invariant c.requires c.in_ok-made.ensures.made c.class.view_is (bases_are c) c.in_ok-members.ensures c.complete.ensures).0

pub returns-clause-few : goal.returns-clause-few
returns-clause-few c = (inserted c.args.self.now c.self.inside.table c.complete.new.self c.self.inside.parts.items c.args.class c.class.inside.number c.args.bases.now c.in_ok-bases.bases.items
    c.args.members.now c.in_ok-members.members.items c.in_ok-made.made c.self.view_is c.self.invariant c.requires c.in_ok-made.ensures.made c.class.view_is (bases_are c) c.in_ok-members.ensures c.complete.ensures).1
