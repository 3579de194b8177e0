use Rattle.std.proofs.Common.{◌≡◌, ◌<◌, arith}
use Rattle.std.specs.Prelude.{true, false}
use Rattle.mm_classes.specs.Questions.{node}
use Rattle.mm_lookup.specs.Access.{HasAccessBy}
use Rattle.mm_lookup.proofs.Using.{none_more}
use Rattle.mm_lookup.proofs.uses.has_access_in.Goals as goal

pub loop-way-preserved : goal.loop-way-preserved
loop-way-preserved c = record {
  low = let l = c.loop-way-test.true in omega arith;
  none = none_more (HasAccessBy c.args.graph.now c.args.f c.args.n (node c.args.graph.now c.args.n c.args.at) c.args.declared) c.loop-way.way
      (λ h. let z : false ≡ true = c.if-has_access_by.ensures.1 h in cc) c.loop-way.invariant.none;
}

pub returns : goal.returns
returns c = (
  (λ e. cc),
  λ h. absurd (c.loop-way.invariant.none h.0
      (let a = c.loop-way.invariant.low in let b = c.loop-way-test.false in let k = c.count-count.ensures.count in let i = h.1 in let z : h.0 < c.loop-way.way = omega arith in z) h.2),
)
