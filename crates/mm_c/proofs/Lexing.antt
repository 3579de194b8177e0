-- The tokens of a text, one by one.
use Rattle.std.specs.Prelude.{Bool, true, false, not, if◌then◌else◌}
use Rattle.std.proofs.Common.{◌≡◌, ℕ, List, [], ◌∷◌, ◌++◌, refl, sym, ap, ◌∙◌, arith, append_assoc, append-nil}
use Rattle.mm_c.specs.Tokens.{Place, Token, past, end_from, is_white, joins, in_front, begun, cut, tokens_from}
use Rattle.mm_c.specs.Lexing.{joins_on, is_token, WhiteStep, TokenStep, TokenEnd}
use Rattle.mm_c.proofs.Bools.{and_left, and_right}

abbrev step : Bool → List ℕ → ℕ → Place → Place → List ℕ → List Token
step c p b at here bs = elim c as (λ z. List Token) [ true ↦ cut (p ++ b ∷ []) at (past here b) bs | false ↦ in_front at p (cut (begun b) here (past here b) bs) ]

cut_more : (p : List ℕ) (at here : Place) (b : ℕ) (bs : List ℕ) → joins p b ≡ true → cut p at here (b ∷ bs) ≡ cut (p ++ b ∷ []) at (past here b) bs
unfolding cut
cut_more p at here b bs h = ap (λ c. step c p b at here bs) h

cut_end : (p : List ℕ) (at here : Place) (b : ℕ) (bs : List ℕ) → joins p b ≡ false → cut p at here (b ∷ bs) ≡ in_front at p (cut (begun b) here (past here b) bs)
unfolding cut
cut_end p at here b bs h = ap (λ c. step c p b at here bs) h

-- the place of an empty piece doesn't matter
cut_empty : (at at' here : Place) (bs : List ℕ) → cut [] at here bs ≡ cut [] at' here bs
unfolding cut
cut_empty at at' here [] = refl
cut_empty at at' here (b ∷ bs) = refl

pub white_step : WhiteStep
white_step here b rest h =
    cut_end [] here here b rest refl
    ∙ ap (λ (c : Bool). cut (if c then [] else b ∷ []) here (past here b) rest) h
    ∙ cut_empty here (past here b) (past here b) rest

cut_joined : (p q rest : List ℕ) (at here : Place) → joins_on p q ≡ true → cut p at here (q ++ rest) ≡ cut (p ++ q) at (end_from here q) rest
cut_joined p [] rest at here h = ap (λ l. cut l at here rest) (sym (append-nil p))
cut_joined p (b ∷ q) rest at here h =
    cut_more p at here b (q ++ rest) (and_left (joins p b) (joins_on (p ++ b ∷ []) q) h)
    ∙ cut_joined (p ++ b ∷ []) q rest at (past here b) (and_right (joins p b) (joins_on (p ++ b ∷ []) q) h)
    ∙ ap (λ l. cut l at (end_from (past here b) q) rest) (append_assoc p (b ∷ []) q)

-- a token that is taken as a piece
begin : (b : ℕ) (bs rest : List ℕ) (here : Place) → is_token (b ∷ bs) ≡ true → tokens_from here (b ∷ (bs ++ rest)) ≡ cut (b ∷ bs) here (end_from here (b ∷ bs)) rest
begin b bs rest here h =
    let dark = and_left (not (is_white b)) (joins_on (b ∷ []) bs) h in
    let light : is_white b ≡ false = grind (arith, dark) in
    cut_end [] here here b (bs ++ rest) refl
    ∙ ap (λ (c : Bool). cut (if c then [] else b ∷ []) here (past here b) (bs ++ rest)) light
    ∙ cut_joined (b ∷ []) bs rest here (past here b) (and_right (not (is_white b)) (joins_on (b ∷ []) bs) h)

pub token_step : TokenStep
token_step here [] b rest h k = absurd (cc)
token_step here (c ∷ t) b rest h k =
    begin c t (b ∷ rest) here h
    ∙ cut_end (c ∷ t) here (end_from here (c ∷ t)) b rest k
    ∙ ap (λ l. record { text = c ∷ t; place = here } ∷ l) (sym (cut_end [] (end_from here (c ∷ t)) (end_from here (c ∷ t)) b rest refl))

pub token_end : TokenEnd
unfolding cut
token_end here [] h = absurd (cc)
token_end here (c ∷ t) h = ap (λ l. tokens_from here (c ∷ l)) (sym (append-nil t)) ∙ begin c t [] here h
