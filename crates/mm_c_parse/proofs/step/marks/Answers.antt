use Rattle.std.proofs.Common.{sym, subst, arith}
use Rattle.mm_c_text.specs.declared.class.Class.TheVariants as class
use Rattle.mm_c_parse.specs.Steps.{Marks, Broken}
use Rattle.mm_c_parse.proofs.Skips.{one_more, broken_more, broken_here, item_at, no_pass}
use Rattle.mm_c_parse.proofs.step.marks.Goals as goal

pub returns-then-not-skip : goal.returns-then-not-skip
returns-then-not-skip c =
    let e = item_at c.args.classes.now c.loop-class.class-index class.Name (omega arith) in
    no_pass (c.loop-class.invariant.broken _ (subst (λ cs. Broken cs c.loop-class.cursor c.skip.new.cursor) (sym e) (broken_here _ _ _ _ _ c.if-not-skip.true c.skip.ensures)))

pub loop-class-preserved : goal.loop-class-preserved
loop-class-preserved c =
    let e = item_at c.args.classes.now c.loop-class.class-index class.Name (omega arith) in
    record {
      passed = λ rest m. c.loop-class.invariant.passed rest (subst (λ cs. Marks cs c.loop-class.cursor rest) (sym e) (one_more _ _ _ _ _ _ c.if-not-skip.false c.skip.ensures m));
      broken = λ rest m. c.loop-class.invariant.broken rest (subst (λ cs. Broken cs c.loop-class.cursor rest) (sym e) (broken_more _ _ _ _ _ _ c.if-not-skip.false c.skip.ensures m));
    }
