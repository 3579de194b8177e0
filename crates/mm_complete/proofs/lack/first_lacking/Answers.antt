use Rattle.std.proofs.Common.{ap, ◌∙◌, sym, subst, false, get_or, length, ◌+◌, ◌<◌, arith}
use Rattle.mm_core.specs.View.{function_view}
use Rattle.mm_classes.specs.Lists.{has}
use Rattle.mm_complete.specs.Complete.{is_lacking}
use Rattle.mm_complete.proofs.Marks.{found, others, nothing}
use Rattle.mm_complete.proofs.lack.first_lacking.Goals as goal

pub returns-then-lacks : goal.returns-then-lacks
returns-then-lacks c = λ ns m.
    let i = c.loop-function.function-index in
    let same = ap (λ n. get_or c.args.marks.now n false) c.loop-function.invariant.number ∙ m.each i c.loop-function-test.true in
    let e = sym (c.if-lacks.ensures ns i same) in
    found ns c.args.functions.now i c.function-item.result c.function-item.is c.loop-function-test.true e ∙ c.loop-function.invariant.same ns m

pub loop-function-preserved : goal.loop-function-preserved
loop-function-preserved c = record {
  number = ap (λ n. n + 1) c.loop-function.invariant.number;
  same = λ ns m.
      let i = c.loop-function.function-index in
      let same = ap (λ n. get_or c.args.marks.now n false) c.loop-function.invariant.number ∙ m.each i c.loop-function-test.true in
      let e = sym (c.if-lacks.ensures ns i same) in
      others ns c.args.functions.now i c.function-item.result c.function-item.is c.loop-function-test.true e ∙ c.loop-function.invariant.same ns m;
}

pub returns : goal.returns
returns c = λ ns m. nothing ns c.args.functions.now c.loop-function.function-index c.loop-function-test.false ∙ c.loop-function.invariant.same ns m
