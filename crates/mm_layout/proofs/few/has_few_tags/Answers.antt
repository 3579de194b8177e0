use Rattle.std.proofs.Common.{◌≡◌, ◌≤◌, ◌+◌, arith, ap, ◌∙◌, sym, length, refl, suc, ℕ}
use Rattle.mm_layout.specs.Cells.{pairs_of, pairs_before}
use Rattle.mm_layout.specs.Layouts.{test_of}
use Rattle.mm_layout.proofs.Counting.{pairs_agree, pairs_up}
use Rattle.mm_layout.proofs.few.has_few_tags.Goals as goal

pub returns-then-pairs-gt65535 : goal.returns-then-pairs-gt65535
returns-then-pairs-gt65535 c = (
  (λ e. cc),
  λ few. absurd (
      let most = few (test_of c.in_ok-tags.tags.items) c.in_ok-tags.ensures.1 in
      let here = c.pairs_in-pairs.ensures.pairs ∙ ap (λ t. pairs_of c.args.graph.now (test_of t) c.loop-c.c) c.as_slice.ensures.value in
      let up : pairs_before c.args.graph.now (test_of c.in_ok-tags.tags.items) (suc c.loop-c.c) ≤ pairs_before c.args.graph.now (test_of c.in_ok-tags.tags.items) (length c.args.graph.now)
      = pairs_up c.args.graph.now (test_of c.in_ok-tags.tags.items) (suc c.loop-c.c) (length c.args.graph.now) (omega (arith, c.classes-count.ensures.count)) in
      omega (arith, most, here, up, c.loop-c.invariant.so_far, c.if-pairs-gt65535.true)),
)

pub loop-c-preserved : goal.loop-c-preserved
loop-c-preserved c =
    let here = c.pairs_in-pairs.ensures.pairs ∙ ap (λ t. pairs_of c.args.graph.now (test_of t) c.loop-c.c) c.as_slice.ensures.value in
    let more : c.loop-c.c + 1 ≡ suc c.loop-c.c = omega arith in
    record {
      low = omega arith;
      few = c.if-pairs-gt65535.false;
      so_far = sum_is c.loop-c.pairs c.pairs_in-pairs.result _ _ c.loop-c.invariant.so_far here ∙ sym (ap (pairs_before c.args.graph.now (test_of c.in_ok-tags.tags.items)) more);
    }
  where
    sum_is : (a b x y : ℕ) → a ≡ x → b ≡ y → a + b ≡ x + y
    sum_is a b x y e f = omega (arith, e, f)

pub returns : goal.returns
returns c = (
  (λ e tagged tells.
      let l = c.loop-c.invariant.low in
      let t = c.loop-c-test.false in
      let k = c.classes-count.ensures.count in
      let all : c.loop-c.c ≡ length c.args.graph.now = omega arith in
      let same = pairs_agree c.args.graph.now c.classes-count.ensures.valid tagged (test_of c.in_ok-tags.tags.items) tells c.in_ok-tags.ensures.1 (length c.args.graph.now) (omega arith) in
      let done = c.loop-c.invariant.so_far ∙ ap (pairs_before c.args.graph.now (test_of c.in_ok-tags.tags.items)) all in
      omega (arith, same, done, c.loop-c.invariant.few)),
  λ h. refl,
)
