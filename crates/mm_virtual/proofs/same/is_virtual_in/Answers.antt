use Rattle.std.proofs.Common.{◌≡◌, ◌<◌, arith, refl, sym, subst, ◌∙◌}
use Rattle.std.specs.Prelude.{true, false}
use Rattle.mm_classes.specs.Subobjects.{end_of}
use Rattle.mm_classes.specs.Questions.{node, IsNode}
use Rattle.mm_virtual.specs.Results.{DeclaresVirtual}
use Rattle.mm_virtual.proofs.Searching.{none_more}
use Rattle.mm_virtual.proofs.Deriving.{virtual_by, virtual_none}
use Rattle.mm_virtual.proofs.same.is_virtual_in.Goals as goal

pub returns-then-declares_virtual : goal.returns-then-declares_virtual
returns-then-declares_virtual c =
    let here : IsNode c.args.graph.now c.args.c c.loop-n.n = omega (arith, c.count-count.ensures.count) in (
      (λ e. virtual_by c.args.graph.now c.requires.valid c.args.c c.args.m.now c.loop-n.n here c.loop-n.invariant.low
          (subst (DeclaresVirtual c.args.graph.now c.args.m.now) c.class_of.ensures.class (c.declares_virtual.ensures.0 c.if-declares_virtual.true))),
      λ h. refl,
    )

pub loop-n-preserved : goal.loop-n-preserved
loop-n-preserved c = record {
  low = omega arith;
  none = none_more (λ r. DeclaresVirtual c.args.graph.now c.args.m.now (end_of (node c.args.graph.now c.args.c r))) c.loop-n.n
      (λ d. let z : false ≡ true = sym c.if-declares_virtual.false ∙ c.declares_virtual.ensures.1 (subst (DeclaresVirtual c.args.graph.now c.args.m.now) (sym c.class_of.ensures.class) d) in cc)
      c.loop-n.invariant.none;
}

pub returns : goal.returns
returns c = (
  (λ e. cc),
  λ v. absurd (virtual_none c.args.graph.now c.requires.valid c.args.c c.args.m.now
      (λ t. let z : false ≡ true = sym c.if-is_a_virtual.false ∙ (c.is_a_virtual.ensures ∙ t) in cc)
      (λ r lo here d. c.loop-n.invariant.none r lo (let k = c.count-count.ensures.count in let b = c.loop-n-test.false in let z : r < c.loop-n.n = omega arith in z) d) v),
)
