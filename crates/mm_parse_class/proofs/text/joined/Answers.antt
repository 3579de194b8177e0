use Rattle.std.proofs.Common.{◌++◌, ap, ◌∙◌}
use Rattle.std.specs.String.{string_bytes}
use Rattle.mm_parse_class.proofs.Texts.{spaced, texts_spaced, text_step, text_end}
use Rattle.mm_parse_class.proofs.text.joined.Goals as goal

pub loop-token-init : goal.loop-token-init
loop-token-init c =
    ap (λ w. w ++ spaced c.args.rest.now) (c.in_ok-text.ensures.ok ∙ c.as_str.ensures) ∙ texts_spaced c.args.first.now c.args.rest.now

pub loop-token-preserved : goal.loop-token-preserved
loop-token-preserved c =
    text_step c.args.rest.now c.loop-token.token-index c.token-item.result _ _ _ c.loop-token-test.true c.token-item.is c.loop-token.invariant
    (c.in_ok-push_str-2.ensures.bytes ∙ (ap (λ w. string_bytes c.push_str.new.self ++ w) c.as_str-in-loop-token.ensures ∙ ap (λ w. w ++ c.token-item.result.text) c.in_ok-push_str.ensures.bytes))

pub returns : goal.returns
returns c =
    c.from_string.ensures ∙ text_end c.args.rest.now c.loop-token.token-index _ _ c.loop-token-test.false c.loop-token.invariant
