-- Texts of tokens behind one another.
use Rattle.std.proofs.Common.{◌≡◌, ℕ, suc, ◌+◌, ◌<◌, ◌≤◌, List, [], ◌∷◌, ◌++◌, length, drop, get_or, ap, sym, ◌∙◌, append_assoc, arith}
use Rattle.std.proofs.lemmas.List.{append-nil, drop_all}
use Rattle.std.proofs.Math.Seq.{drop-cons}
use Rattle.mm_token.specs.declared.token.Token.{Token}
use Rattle.mm_syntax.specs.BuiltDeclarations.{texts}

-- the texts, each after a blank
abbrev pub spaced : List Token → List ℕ
spaced [] = []
spaced (t ∷ ts) = 32 ∷ (t.text ++ spaced ts)

pub texts_spaced : (t : Token) (ts : List Token) → t.text ++ spaced ts ≡ texts (t ∷ ts)
texts_spaced t [] = append-nil t.text
texts_spaced t (u ∷ ts) = ap (λ w. t.text ++ 32 ∷ w) (texts_spaced u ts)

pub text_step : (list : List Token) (i : ℕ) (t : Token) (old new whole : List ℕ) → i < length list → t ≡ get_or list i t → old ++ spaced (drop i list) ≡ whole → new ≡ (old ++ 32 ∷ []) ++ t.text → new ++ spaced (drop (i + 1) list) ≡ whole
text_step list i t old new whole lt h e n =
    let more : List Token = drop (i + 1) list in
    let one : suc i ≡ i + 1 = omega arith in
    let split : drop i list ≡ t ∷ more = drop-cons list i t lt ∙ (ap (λ w. w ∷ drop (suc i) list) (sym h) ∙ ap (λ w. t ∷ drop w list) one) in
    ap (λ w. w ++ spaced more) n
    ∙ (append_assoc (old ++ 32 ∷ []) t.text (spaced more)
    ∙ (append_assoc old (32 ∷ []) (t.text ++ spaced more)
    ∙ (ap (λ w. old ++ spaced w) (sym split) ∙ e)))

pub text_end : (list : List Token) (i : ℕ) (old whole : List ℕ) → length list ≤ i → old ++ spaced (drop i list) ≡ whole → old ≡ whole
text_end list i old whole past e =
    sym (append-nil old) ∙ (ap (λ w. old ++ spaced w) (sym (drop_all i list past)) ∙ e)
