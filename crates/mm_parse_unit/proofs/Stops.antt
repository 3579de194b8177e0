-- The tokens end in 1,000 of which none is `;`, `{` or `}` exactly where a count of those since the last of them says so.
use Rattle.std.proofs.Common.{◌≡◌, ℕ, suc, ◌+◌, ◌-◌, ◌≤◌, Bool, true, false, if◌then◌else◌, List, [], ◌∷◌, ◌++◌, ◌⊎◌, inl, inr, length, take, drop, refl, sym, ap, ◌∙◌, subst, arith, length-drop}
use Rattle.std.proofs.lemmas.List.{append_assoc, take-append-drop}
use Rattle.mm_token.specs.declared.token.Token.{Token}
use Rattle.mm_parse_expr.specs.Longest.{count_from, ends_count}
use Rattle.mm_parse_unit.specs.Units.{NoStops, IsPastCount}

count_append : (n : ℕ) (a b : List Token) → count_from n (a ++ b) ≡ count_from (count_from n a) b
count_append n [] b = refl
count_append n (t ∷ a) b = count_append (if ends_count t then 0 else suc n) a b

count_on : (n : ℕ) (ts : List Token) → NoStops ts → count_from n ts ≡ n + length ts
count_on n [] h = omega arith
count_on n (t ∷ ts) h =
    let e : count_from n (t ∷ ts) ≡ count_from (suc n) ts = ap (λ b. count_from (if b then 0 else suc n) ts) h.0 in
    omega (arith, e, count_on (suc n) ts h.1)

pub past_counts : (ts : List Token) → IsPastCount ts → 1000 ≤ count_from 0 ts
past_counts ts p =
    let e = ap (count_from 0) p.cut in
    let a = count_append 0 p.first p.last in
    let l = count_on (count_from 0 p.first) p.last p.none in
    let m = p.many in
    omega (arith, e, a, l, m)

-- what follows the last of these tokens, where there is one
Behind : ℕ → List Token → Type 0
Behind n ts = (NoStops ts × (count_from n ts ≡ n + length ts)) ⊎ ((first : List Token) × (last : List Token) × (ts ≡ first ++ last) × NoStops last × (count_from n ts ≡ length last))

behind : (n : ℕ) (ts : List Token) → Behind n ts
unfolding Behind
behind n [] = inl (tt, omega arith)
behind n (t ∷ ts) = by (ends_count t) refl (behind 0 ts) (behind (suc n) ts)
  where
    ended : (e : ends_count t ≡ true) → Behind 0 ts → Behind n (t ∷ ts)
    ended e (inl h) = inr (t ∷ [], ts, refl, h.0, (let c : count_from n (t ∷ ts) ≡ count_from 0 ts = ap (λ b. count_from (if b then 0 else suc n) ts) e in omega (arith, c, h.1)))
    ended e (inr h) = inr (t ∷ h.0, h.1, ap (λ us. t ∷ us) h.2, h.3, ap (λ b. count_from (if b then 0 else suc n) ts) e ∙ h.4)

    on : (e : ends_count t ≡ false) → Behind (suc n) ts → Behind n (t ∷ ts)
    on e (inl h) = inl ((e, h.0), (let c : count_from n (t ∷ ts) ≡ count_from (suc n) ts = ap (λ b. count_from (if b then 0 else suc n) ts) e in omega (arith, c, h.1)))
    on e (inr h) = inr (t ∷ h.0, h.1, ap (λ us. t ∷ us) h.2, h.3, ap (λ b. count_from (if b then 0 else suc n) ts) e ∙ h.4)

    by : (b : Bool) → ends_count t ≡ b → Behind 0 ts → Behind (suc n) ts → Behind n (t ∷ ts)
    by true e h k = ended e h
    by false e h k = on e k

stops_right : (a b : List Token) → NoStops (a ++ b) → NoStops b
stops_right [] b h = h
stops_right (t ∷ a) b h = stops_right a b h.1

last_of : (ts first last : List Token) → ts ≡ first ++ last → NoStops last → 1000 ≤ length last → IsPastCount ts
last_of ts first last e s l =
    let n = length last - 1000 in
    record {
      first = first ++ take n last;
      last = drop n last;
      cut = e ∙ (ap (λ us. first ++ us) (sym (take-append-drop n last)) ∙ sym (append_assoc first (take n last) (drop n last)));
      many = omega (arith, l, length-drop n last);
      none = stops_right (take n last) (drop n last) (subst NoStops (sym (take-append-drop n last)) s);
    }

pub past_of : (ts : List Token) → 1000 ≤ count_from 0 ts → IsPastCount ts
unfolding Behind
past_of ts l = by (behind 0 ts)
  where
    by : Behind 0 ts → IsPastCount ts
    by (inl h) = last_of ts [] ts refl h.0 (omega (arith, l, h.1))
    by (inr h) = last_of ts h.0 h.1 h.2 h.3 (omega (arith, l, h.4))
