use Rattle.std.proofs.Common.{◌≡◌, ◌<◌, refl, arith}
use Rattle.std.specs.Prelude.{true, false}
use Rattle.mm_classes.specs.Questions.{node}
use Rattle.mm_lookup.specs.Access.{IsUsedBy}
use Rattle.mm_lookup.proofs.Using.{none_more, used_by, none_used}
use Rattle.mm_lookup.proofs.may.may_use.Goals as goal

pub returns-then-is_used_by : goal.returns-then-is_used_by
returns-then-is_used_by c = (
  (λ e. used_by c.args.graph.now c.requires.valid c.requires.law c.args.from.now.class c.args.n (node c.args.graph.now c.args.n c.args.at) c.args.declared c.loop-step.step
      (let l = c.loop-step-test.true in let k = c.count-count.ensures.count in omega arith) (c.is_used_by.ensures.0 c.if-is_used_by.true)),
  λ h. refl,
)

pub loop-step-preserved : goal.loop-step-preserved
loop-step-preserved c = record {
  low = let l = c.loop-step-test.true in omega arith;
  none = none_more (IsUsedBy c.args.graph.now c.args.from.now.class c.args.n (node c.args.graph.now c.args.n c.args.at) c.args.declared) c.loop-step.step
      (λ h. let z : false ≡ true = c.if-is_used_by.ensures.1 h in cc) c.loop-step.invariant.none;
}

pub returns : goal.returns
returns c = (
  (λ e. cc),
  λ h. absurd (none_used c.args.graph.now c.requires.valid c.requires.law c.args.from.now.class c.args.n (node c.args.graph.now c.args.n c.args.at) c.args.declared c.requires.complete
      (λ t i. c.loop-step.invariant.none t
      (let a = c.loop-step.invariant.low in let b = c.loop-step-test.false in let k = c.count-count.ensures.count in let z : t < c.loop-step.step = omega arith in z)) h),
)
