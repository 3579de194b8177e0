use Rattle.std.proofs.Common.{◌≡◌, ◌<◌, ◌+◌, ℕ, List, length, arith, ap, sym, ◌∙◌, get_or, take, ◌∷◌, [], ◌++◌, append-nil}
use Rattle.std.specs.Str.{encode_utf8_all}
use Rattle.std.specs.Char.{encode_utf8}
use Rattle.std.proofs.lemmas.Str.{encodes-append}
use Rattle.std.proofs.lemmas.List.{take_more}
use lib.Utf8.{scalar}
use Rattle.mm_token.proofs.Lemmas.{all_index}
use Rattle.mm_token.proofs.text.encoded.Goals as goal

pub character-requires : goal.character-requires
character-requires c = all_index scalar c.args.text.now c.loop-c.c-index c.requires (omega arith)

encode_more : (text : List ℕ) (i : ℕ) → i < length text → encode_utf8_all (take (i + 1) text) ≡ encode_utf8_all (take i text) ++ encode_utf8 (get_or text i 0)
encode_more text i l =
    ap encode_utf8_all (take_more text i 0 l) ∙ (encodes-append (take i text) (get_or text i 0 ∷ []) ∙ ap (λ r. encode_utf8_all (take i text) ++ r) (append-nil (encode_utf8 (get_or text i 0))))

pub loop-c-preserved : goal.loop-c-preserved
loop-c-preserved c =
    let text = c.args.text.now in
    let i = c.loop-c.c-index in
    let l : i < length text = omega arith in
    c.in_ok-push.ensures.bytes ∙ (ap (λ b. b ++ encode_utf8 c.character.result) c.loop-c.invariant ∙ (ap (λ x. encode_utf8_all (take i text) ++ encode_utf8 x) c.character.ensures ∙ sym (encode_more text i l)))
