use Rattle.std.proofs.Common.{◌≡◌, ◌≤◌, ◌+◌, arith, ap, ◌∙◌, length, cond, sum_by, Bool, true, false}
use Rattle.mm_classes.specs.Subobjects.{subobjects_of, end_of}
use Rattle.mm_classes.specs.Questions.{node, IsNode}
use Rattle.mm_layout.specs.Layouts.{test_of}
use Rattle.mm_layout.proofs.Counting.{pairs_more, take_whole}
use Rattle.mm_layout.proofs.few.pairs_of_complete.Goals as goal

one_at_most : (b : Bool) → cond b 1 0 ≤ 1
one_at_most true = omega arith
one_at_most false = omega arith

pub loop-n-preserved : goal.loop-n-preserved
loop-n-preserved c =
    let here : IsNode c.args.graph.now c.args.d c.loop-n.n = omega (arith, c.count-count.ensures.count) in
    let more = pairs_more c.args.graph.now (test_of c.args.tags.now) c.args.d c.loop-n.n here in
    let one = c.one_if_tagged-pairs.ensures ∙ ap (λ k. cond (test_of c.args.tags.now k) 1 0) c.class_of.ensures.class in
    let few = one_at_most (test_of c.args.tags.now c.class_of.result) in
    record {
      low = omega arith;
      few = omega (arith, c.loop-n.invariant.few, c.one_if_tagged-pairs.ensures, few);
      so_far = omega (arith, c.loop-n.invariant.so_far, more, one);
    }

pub returns-clause-pairs : goal.returns-clause-pairs
returns-clause-pairs c =
    let l = c.loop-n.invariant.low in
    let t = c.loop-n-test.false in
    let k = c.count-count.ensures.count in
    let e : c.loop-n.n ≡ length (subobjects_of c.args.graph.now c.args.d) = omega arith in
    c.loop-n.invariant.so_far ∙ ap (sum_by (λ p. cond (test_of c.args.tags.now (end_of p)) 1 0)) (take_whole (subobjects_of c.args.graph.now c.args.d) c.loop-n.n e)
