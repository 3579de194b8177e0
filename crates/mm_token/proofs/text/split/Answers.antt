use Rattle.std.proofs.Common.{◌≡◌, sym, ◌∙◌, drop, length, arith}
use Rattle.std.specs.Str.Lossy.{utf8_valid_len}
use Rattle.std.proofs.lemmas.Str.{utf8_valid_len-IsUtf8}
use Rattle.std.proofs.lemmas.List.{take_all, nil_from_length}
use Rattle.std.proofs.Common.{length-drop}
use Rattle.mm_token.proofs.text.split.Goals as goal

pub returns-in-Ok-clause-front : goal.returns-in-Ok-clause-front
returns-in-Ok-clause-front c =
    let bs = c.args.bytes.now in
    let e : utf8_valid_len bs ≡ length bs = utf8_valid_len-IsUtf8 bs c.in-Ok.ensures.cases.1 in
    c.in-Ok.ensures.cases.0 ∙ sym (take_all (utf8_valid_len bs) bs (omega arith))

pub returns-in-Ok-clause-rest : goal.returns-in-Ok-clause-rest
returns-in-Ok-clause-rest c =
    let bs = c.args.bytes.now in
    let e : utf8_valid_len bs ≡ length bs = utf8_valid_len-IsUtf8 bs c.in-Ok.ensures.cases.1 in
    sym (nil_from_length (drop (utf8_valid_len bs) bs) (omega (arith, length-drop (utf8_valid_len bs) bs)))
