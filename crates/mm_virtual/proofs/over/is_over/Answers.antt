use Rattle.std.proofs.Common.{◌≡◌, sym, ◌∙◌, subst, get_or}
use Rattle.std.specs.Prelude.{true, false}
use Rattle.mm_classes.specs.Classes.{members_of}
use Rattle.mm_virtual.specs.Overriders.{DeclaresSame}
use Rattle.mm_virtual.proofs.Searching.{declares_tells}
use Rattle.mm_virtual.proofs.over.is_over.Goals as goal

pub returns : goal.returns
returns c =
    let tells = declares_tells (members_of c.args.graph.now c.class_of.result) c.args.m.now c.same_in.result c.same_in.ensures in (
      (λ e. (
        (c.requires.around.each c.args.t c.requires.node).0 (subst (λ i. get_or c.args.around.now i false ≡ true) c.t.view_is c.if-not-around-t.false),
        subst (λ k. DeclaresSame (members_of c.args.graph.now k) c.args.m.now) c.class_of.ensures.class (tells.0 (sym c.is_some.ensures ∙ e)),
      )),
      λ o. c.is_some.ensures ∙ tells.1 (subst (λ k. DeclaresSame (members_of c.args.graph.now k) c.args.m.now) (sym c.class_of.ensures.class) o.1),
    )
