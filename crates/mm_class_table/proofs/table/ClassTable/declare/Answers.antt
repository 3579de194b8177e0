use Rattle.std.proofs.Common.{length, ap, sym, ◌∙◌, arith}
use Rattle.std.proofs.lemmas.List.{length-map}
use Rattle.std.specs.Prelude.{is_some}
use Rattle.mm_class_table.specs.Kept.{class_in}
use Rattle.mm_class_table.proofs.Naming.{found_name, named_here, none_named, declared_kept}
use Rattle.mm_class_table.proofs.table.ClassTable.declare.Goals as goal

pub returns-in-Some-clause-named : goal.returns-in-Some-clause-named
returns-in-Some-clause-named c = (found_name c.self.inside.names.keys c.self.inside.entries.items c.self.invariant c.args.self.now c.self.view_is c.args.name.now c.in-Some.number
    (sym c.get_index_of.ensures.index ∙ c.in-Some.is)).0

pub invariant_of-self-2 : goal.invariant_of-self-2
invariant_of-self-2 c = (declared_kept c.self.inside.names.keys c.push_named.new.names.keys c.self.inside.entries.items c.push_named.new.entries.items c.args.self.now c.args.name.now (length c.args.self.now)
    c.self.invariant c.self.view_is c.requires (sym c.get_index_of.ensures.found ∙ ap is_some c.in_default.is) c.in_ok-push_named.ensures.names c.in_ok-push_named.ensures.entries (omega arith)).0

pub returns-clause-named : goal.returns-clause-named
returns-clause-named c = none_named c.self.inside.names.keys c.self.inside.entries.items c.self.invariant c.args.self.now c.self.view_is c.args.name.now c.len-number.result
    (sym c.get_index_of.ensures.found ∙ ap is_some c.in_default.is)
    (let l = length-map c.self.inside.entries.items class_in in let m = ap length c.self.view_is in omega arith)

pub returns-in-Some-clause-here : goal.returns-in-Some-clause-here
returns-in-Some-clause-here c =
    let r = found_name c.self.inside.names.keys c.self.inside.entries.items c.self.invariant c.args.self.now c.self.view_is c.args.name.now c.in-Some.number
    (sym c.get_index_of.ensures.index ∙ c.in-Some.is) in
    named_here c.in-Some.number c.args.self.now c.args.name.now r.0 r.1
