use Rattle.std.proofs.Common.{◌+◌, get_or, arith}
use Rattle.std.proofs.lemmas.Int.Digits.{digits_value_more}
use Rattle.std.proofs.lemmas.Str.{digit_value_digit}
use Rattle.std.proofs.lemmas.Str.Parse.{digits_value-take-le}
use Rattle.mm_token.specs.Characters.{is_digit}
use Rattle.mm_token.proofs.Lemmas.{all_index, digit_range}
use Rattle.mm_token.proofs.words.value.Goals as goal

pub overflow_sub-c : goal.overflow_sub-c
overflow_sub-c c = let b = digit_range (get_or c.args.digits.now c.loop-c.c-index 0) (all_index is_digit c.args.digits.now c.loop-c.c-index c.requires (omega arith)) in omega (arith, b)

pub returns-then-value-gt4294967295 : goal.returns-then-value-gt4294967295
returns-then-value-gt4294967295 c = λ h.
    let e = digits_value_more 10 c.args.digits.now c.loop-c.c-index (omega arith) in
    let f = digits_value-take-le 10 c.args.digits.now (c.loop-c.c-index + 1) (omega arith) in
    let b = digit_range (get_or c.args.digits.now c.loop-c.c-index 0) (all_index is_digit c.args.digits.now c.loop-c.c-index c.requires (omega arith)) in
    let v = digit_value_digit (get_or c.args.digits.now c.loop-c.c-index 0) b in
    omega (arith, h)

pub loop-c-preserved : goal.loop-c-preserved
loop-c-preserved c =
    let e = digits_value_more 10 c.args.digits.now c.loop-c.c-index (omega arith) in
    let b = digit_range (get_or c.args.digits.now c.loop-c.c-index 0) (all_index is_digit c.args.digits.now c.loop-c.c-index c.requires (omega arith)) in
    let v = digit_value_digit (get_or c.args.digits.now c.loop-c.c-index 0) b in
    record {
      value = omega arith;
      fits = omega arith;
    }
