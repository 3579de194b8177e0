use Rattle.std.proofs.Common.{[], ◌∷◌, ◌++◌, sym, ap, ◌∙◌, append_assoc, arith}
use Rattle.std.specs.List.{filter}
use Rattle.std.specs.Fmt.{decimal}
use Rattle.mm_c.specs.Tokens.{is_word_byte}
use Rattle.mm_lower_trees.proofs.Digits.{numeral_decimal}
use Rattle.mm_lower_trees.proofs.name.function_name.Goals as goal

pub loop-byte-init : goal.loop-byte-init
loop-byte-init c =
    let rest = filter is_word_byte c.as_bytes-byte-items.result.now in
    let n = c.args.number in
    ap (λ l. l ++ rest) c.in_ok-name.ensures.ok
    ∙ (ap (λ l. 102 ∷ l) (append_assoc (decimal n) (95 ∷ []) rest)
    ∙ ap (λ d. 102 ∷ (d ++ 95 ∷ rest)) (sym (numeral_decimal n (omega (arith, c.ranges.number.fits)))))
