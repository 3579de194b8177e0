-- How the count of tokens goes on by one.
use Rattle.std.proofs.Common.{◌≡◌, ℕ, suc, ◌+◌, ◌-◌, ◌≤◌, ◌<◌, true, false, if◌then◌else◌, List, [], ◌∷◌, ◌++◌, length, take, get_or, refl, ap, sym, ◌∙◌, arith}
use Rattle.std.proofs.lemmas.List.{take_more}
use Rattle.mm_token.specs.declared.token.Token.{Token}
use Rattle.mm_parse_expr.specs.Longest.{count_from, ends_count}

pub count_snoc : (n : ℕ) (xs : List Token) (t : Token) → count_from n (xs ++ t ∷ []) ≡ (if ends_count t then 0 else suc (count_from n xs))
count_snoc n [] t = refl
count_snoc n (x ∷ xs) t = count_snoc (if ends_count x then 0 else suc n) xs t

-- at a token that ends the count
pub ended : (whole before : List Token) (t : Token) (count room : ℕ) → before ≡ whole ++ t ∷ [] → true ≡ ends_count t → count ≡ count_from 0 before + (1000 - room) → room ≤ 1000 → room ≡ 1000 - count
ended whole before t count room e h c m =
    let s : count_from 0 before ≡ (if ends_count t then 0 else suc (count_from 0 whole)) = ap (count_from 0) e ∙ count_snoc 0 whole t in
    let z : count_from 0 before ≡ 0 = s ∙ ap (λ b. if b then 0 else suc (count_from 0 whole)) (sym h) in
    omega (arith, z, c, m)

-- at another one
pub counted : (whole before : List Token) (t : Token) (count room : ℕ) → before ≡ whole ++ t ∷ [] → false ≡ ends_count t → count ≡ count_from 0 before + (1000 - room) → 0 < room → room ≤ 1000 → count ≡ count_from 0 whole + (1000 - (room - 1))
counted whole before t count room e h c p m =
    let s : count_from 0 before ≡ (if ends_count t then 0 else suc (count_from 0 whole)) = ap (count_from 0) e ∙ count_snoc 0 whole t in
    let z : count_from 0 before ≡ suc (count_from 0 whole) = s ∙ ap (λ b. if b then 0 else suc (count_from 0 whole)) (sym h) in
    omega (arith, z, c, p, m)

pub last_of : (tokens : List Token) (i : ℕ) (t : Token) → 0 < i → i ≤ length tokens → t ≡ get_or tokens (i - 1) t → take i tokens ≡ take (i - 1) tokens ++ t ∷ []
last_of tokens i t p h e =
    let one : (i - 1) + 1 ≡ i = omega (arith, p) in
    let m = take_more tokens (i - 1) t (omega (arith, p, h)) in
    sym (ap (λ j. take j tokens) one) ∙ (m ∙ ap (λ x. take (i - 1) tokens ++ x ∷ []) (sym e))
