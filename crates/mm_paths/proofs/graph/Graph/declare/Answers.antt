use Rattle.std.proofs.Common.{◌≡◌, List, [], ◌∷◌, ◌++◌, length, sym, subst, ap, ◌∙◌, arith}
use Rattle.mm_classes.specs.Classes.{Class}
use Rattle.mm_classes.specs.Adding.{declared}
use Rattle.mm_paths.specs.declared.entry.Parts.{Parts}
use Rattle.mm_paths.specs.Stored.{IsStored}
use Rattle.mm_paths.proofs.Declaring.{declared_stored}
use Rattle.mm_paths.proofs.graph.Graph.declare.Goals as goal

pub invariant_of-self-then-class-len : goal.invariant_of-self-then-class-len
invariant_of-self-then-class-len c =
    let last : c.in_ok-class.class ≡ length c.self.inside.parts.items = (let a = c.if-class-len.true in let b = c.len.ensures in let d = c.class.view_is in let e = ap length c.in_ok-reserve.ensures.items in let f = c.reserve.new.self.ok.0 in omega arith) in
    subst (λ (g : List Class). IsStored g c.push_reserved.new.self.items) (sym c.in_ok-class.ensures.ok)
    (subst (λ (ps : List Parts). IsStored (declared c.in_ok-class.class c.self.inside.table c.args.name.now) ps)
    (sym (c.push_reserved.ensures.items ∙ ap (λ z. z ++ c.no_parts.result ∷ []) c.in_ok-reserve.ensures.items))
    (declared_stored c.self.inside.table c.self.inside.parts.items c.self.invariant c.args.name.now c.no_parts.result c.in_ok-class.class
    (let v = ap length c.self.view_is in let r = c.requires in omega arith) c.in_ok-class.ensures.named last))
