-- Tokens that keep the count: no part of them without `;`, `{` and `}` has more than 1,000.
use Rattle.std.proofs.Common.{◌≡◌, ℕ, suc, ◌+◌, ◌≤◌, ◌<◌, Bool, true, false, if◌then◌else◌, List, [], ◌∷◌, ◌++◌, length, refl, sym, ap, ◌∙◌, subst, arith}
use Rattle.std.proofs.lemmas.List.{append_assoc, append-nil}
use Rattle.mm_token.specs.declared.token.Token.{Token}
use Rattle.mm_parse_expr.specs.Longest.{count_from, ends_count}
use Rattle.mm_parse_unit.specs.Units.{NoStops, KeepsCount}
use Rattle.mm_parse_unit.proofs.Stops.{past_of}

pub stops_append : (a b : List Token) → NoStops a → NoStops b → NoStops (a ++ b)
stops_append [] b h k = k
stops_append (t ∷ a) b h k = (h.0, stops_append a b h.1 k)

-- no part without these has more than 1,000 tokens
abbrev pub Counted : List Token → Type 0
Counted ts = (before part after : List Token) → ts ≡ before ++ (part ++ after) → NoStops part → length part ≤ 1000

pub counted_left : (ts a b : List Token) → ts ≡ a ++ b → Counted ts → Counted a
counted_left ts a b e h before part after f n =
    h before part (after ++ b) (e ∙ (ap (λ c. c ++ b) f ∙ (append_assoc before (part ++ after) b ∙ ap (λ c. before ++ c) (append_assoc part after b)))) n

pub counted_right : (ts a b : List Token) → ts ≡ a ++ b → Counted ts → Counted b
counted_right ts a b e h before part after f n =
    h (a ++ before) part after (e ∙ (ap (λ c. a ++ c) f ∙ sym (append_assoc a before (part ++ after)))) n

pub counted_whole : (ts : List Token) → Counted ts → NoStops ts → length ts ≤ 1000
counted_whole ts h n = h [] ts [] (sym (append-nil ts)) n

-- ---- from the limit on the tokens of a unit

-- no token is past the limit, where n stood before
Keeps : ℕ → List Token → Type 0
Keeps n tokens = (before after : List Token) (t : Token) → tokens ≡ before ++ t ∷ after → 1000 ≤ count_from n before → ⊥

below : (n : ℕ) → (1000 ≤ n → ⊥) → n < 1000
below n h = omega (arith, h)

keeps_first : (n : ℕ) (t : Token) (ts : List Token) → Keeps n (t ∷ ts) → n < 1000
unfolding Keeps
keeps_first n t ts h = below n (h [] ts t refl)

keeps_rest : (n : ℕ) (t : Token) (ts : List Token) → Keeps n (t ∷ ts) → Keeps (if ends_count t then 0 else suc n) ts
unfolding Keeps
keeps_rest n t ts h before after u e = h (t ∷ before) after u (ap (λ us. t ∷ us) e)

next_within : (b : Bool) (n : ℕ) → n < 1000 → (if b then 0 else suc n) ≤ 1000
next_within true n h = omega arith
next_within false n h = omega (arith, h)

part_within : (n : ℕ) (part after : List Token) → n ≤ 1000 → Keeps n (part ++ after) → NoStops part → n + length part ≤ 1000
part_within n [] after m h s = omega (arith, m)
part_within n (t ∷ part) after m h s =
    let first = keeps_first n t (part ++ after) h in
    let rest : Keeps (suc n) (part ++ after) = subst (λ b. Keeps (if b then 0 else suc n) (part ++ after)) s.0 (keeps_rest n t (part ++ after) h) in
    let all = part_within (suc n) part after (omega (arith, first)) rest s.1 in
    omega (arith, all)

all_within : (n : ℕ) (before part after : List Token) → n ≤ 1000 → Keeps n (before ++ (part ++ after)) → NoStops part → length part ≤ 1000
all_within n [] part after m h s = omega (arith, part_within n part after m h s)
all_within n (t ∷ before) part after m h s =
    all_within (if ends_count t then 0 else suc n) before part after
    (next_within (ends_count t) n (keeps_first n t (before ++ (part ++ after)) h))
    (keeps_rest n t (before ++ (part ++ after)) h) s

pub counted : (ts : List Token) → KeepsCount ts → Counted ts
unfolding Keeps
counted ts h before part after e s = all_within 0 before part after (omega arith) (subst (Keeps 0) e (λ b a t i p. h b a t i (past_of b p))) s
