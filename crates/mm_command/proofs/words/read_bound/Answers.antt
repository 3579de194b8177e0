use Rattle.std.proofs.Common.{◌∙◌, sym, ap, Some, arith}
use Rattle.std.specs.Str.Parse.{digits_value}
use Rattle.mm_command.proofs.Bounds.{says, says_none, is_decimal, no_zero}
use Rattle.mm_command.proofs.words.read_bound.Goals as goal
use Rattle.mm_command.proofs.words.read_bound.Goals.{else-word-ne48-via-then-word-ne48+else-steps-le-MAX_STEPS, else-word-ne48-via-else-word-ne48}

pub returns-in_err-read_decimal : goal.returns-in_err-read_decimal
returns-in_err-read_decimal c =
    let w = c.args.word.now in
    c.from_residual.ensures ∙ sym (says_none w (λ p. c.in_err-read_decimal.ensures (is_decimal w (digits_value 10 w) p)))

pub returns-then-steps-le-MAX_STEPS : goal.returns-then-steps-le-MAX_STEPS
returns-then-steps-le-MAX_STEPS c =
    let w = c.args.word.now in
    let h = c.in_ok-read_decimal.ensures in
    let e = c.from-steps.ensures ∙ h.1 in
    ap Some e ∙ sym (says w h.0 c.if-word-ne48.true (omega (arith, e, c.if-steps-le-MAX_STEPS.true)))

pub returns-else-word-ne48 : goal.returns-else-word-ne48
returns-else-word-ne48 c =
    let w = c.args.word.now in
    let e = c.from-steps.ensures ∙ c.in_ok-read_decimal.ensures.1 in
    sym (says_none w (λ p. elim c.else-word-ne48.branch [
      | else-word-ne48-via-then-word-ne48+else-steps-le-MAX_STEPS v ↦ omega (arith, e, p.within, v.if-steps-le-MAX_STEPS.false)
      | else-word-ne48-via-else-word-ne48 v ↦ omega (arith, no_zero w (digits_value 10 w) p, v.if-word-ne48.false)
    ]))
