use Rattle.std.proofs.Common.{◌≡◌, ◌<◌, arith, refl, sym, subst, ◌∙◌}
use Rattle.std.specs.Prelude.{true, false}
use Rattle.mm_classes.specs.Subobjects.{end_of}
use Rattle.mm_classes.specs.Questions.{node, IsNode}
use Rattle.mm_virtual.specs.Results.{BreaksAt}
use Rattle.mm_virtual.proofs.Searching.{none_more}
use Rattle.mm_virtual.proofs.Deriving.{broken_by, broken_none}
use Rattle.mm_virtual.proofs.results.is_broken.Goals as goal

pub returns-then-breaks_at : goal.returns-then-breaks_at
returns-then-breaks_at c =
    let here : IsNode c.args.graph.now c.args.c c.loop-n.n = omega (arith, c.count-count.ensures.count) in (
      (λ e. broken_by c.args.graph.now c.requires.valid c.args.c c.args.m.now c.loop-n.n here c.loop-n.invariant.low
          (subst (BreaksAt c.args.graph.now c.args.m.now) c.class_of.ensures.class (c.breaks_at.ensures.0 c.if-breaks_at.true))),
      λ h. refl,
    )

pub loop-n-preserved : goal.loop-n-preserved
loop-n-preserved c = record {
  low = omega arith;
  none = none_more (λ r. BreaksAt c.args.graph.now c.args.m.now (end_of (node c.args.graph.now c.args.c r))) c.loop-n.n
      (λ d. let z : false ≡ true = sym c.if-breaks_at.false ∙ c.breaks_at.ensures.1 (subst (BreaksAt c.args.graph.now c.args.m.now) (sym c.class_of.ensures.class) d) in cc)
      c.loop-n.invariant.none;
}

pub returns : goal.returns
returns c = (
  (λ e. cc),
  λ v. absurd (broken_none c.args.graph.now c.requires.valid c.args.c c.args.m.now
      (λ r lo here d. c.loop-n.invariant.none r lo (let k = c.count-count.ensures.count in let b = c.loop-n-test.false in let z : r < c.loop-n.n = omega arith in z) d) v),
)
