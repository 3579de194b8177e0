-- What a part costs, by what its parts cost.
use Rattle.std.proofs.Common.{◌≡◌, ℕ, ◌+◌, ◌≤◌, Bool, true, false, ◌&&◌, IsTrue, List, [], ◌∷◌, ◌++◌, length, map, Option, Some, None, inl, inr, refl, sym, ap, ◌∙◌, subst, arith}
use Rattle.std.proofs.lemmas.List.{length-append}
use Rattle.mm_token.specs.declared.token.Token.{Token}
use Rattle.mm_grammar.specs.Grammar.{one, name, nothing, seq, alt, fork, many, tailed, kept, give, opt, has, spells_in, Each, Tail}
use Rattle.mm_grammar.specs.Ahead.{disjoint}
use Rattle.mm_grammar.proofs.Lists.{apart, and_left, and_right}
use Rattle.mm_syntax.specs.declared.symbol.Symbol.TheVariants as k
use Rattle.mm_syntax.specs.Symbols.{number_of, symbol_of}
use Rattle.mm_syntax.specs.Rules.{Rule, units, P, ◌▸◌, ◌◂◌}
use Rattle.mm_parse_expr.specs.Longest.{ends_count}
use Rattle.mm_parse_unit.specs.Units.{NoStops}
use Rattle.mm_parse_unit.proofs.BoundsCount.{stops_append, counted_left, counted_right}
use Rattle.mm_parse_unit.proofs.BoundsWeights.{total, Every, maybe_weight, MaybeGood, weight, Good, is_plain, Cost, RuleCosts}

-- A text of the part has as many tokens as its value weighs or more; where it keeps the count, this holds of the value.
pub record Costs {A : Type 0} (p : P A) (f : A → ℕ) (G : A → Type 0) : Type 0 where
  pub at : (ts : List Token) (v : A) → spells_in units RuleCosts p ts v → Cost ts (f v) (G v)

-- ---- two lists

longer : (ts a b : List Token) (m n : ℕ) → ts ≡ a ++ b → m ≤ length a → n ≤ length b → m + n ≤ length ts
longer ts a b m n e h k =
    let l : length ts ≡ length a + length b = ap length e ∙ length-append a b in
    omega (arith, l, h, k)

pair : (ts a b : List Token) (m n : ℕ) (G H : Type 0) → ts ≡ a ++ b → Cost a m G → Cost b n H → Cost ts (m + n) (G × H)
pair ts a b m n G H e h k = (longer ts a b m n e h.0 k.0, λ c. (h.1 (counted_left ts a b e c), k.1 (counted_right ts a b e c)))

-- ---- parts

pub one_token : {cs : List ℕ} → Costs (one cs) (λ t. 1) (λ t. Unit {0})
one_token = record { at = λ ts t h. (subst (λ us. 1 ≤ length us) (sym h.0) (omega arith), λ c. tt) }

pub rule : (x : Rule) → Costs (name x) (weight x) (Good x)
rule x = record { at = λ ts v h. h.1 }

pub both : {A B : Type 0} {p : P A} {q : P B} {f : A → ℕ} {g : B → ℕ} {G : A → Type 0} {H : B → Type 0} → Costs p f G → Costs q g H → Costs (seq p q) (λ v. f v.0 + g v.1) (λ v. G v.0 × H v.1)
both {f = f} {g = g} {G = G} {H = H} x y = record { at = λ ts v h. pair ts h.0 h.1 (f v.0) (g v.1) (G v.0) (H v.1) h.2 (x.at h.0 v.0 h.3) (y.at h.1 v.1 h.4) }

pub gives : {A B : Type 0} {p : P A} {h : A → B} {f : B → ℕ} {g : A → ℕ} {G : B → Type 0} {H : A → Type 0} → Costs p g H → ((w : A) → f (h w) ≤ g w) → ((w : A) → H w → G (h w)) → Costs (give h p) f G
gives {f = f} {g = g} {G = G} x m n = record {
  at = λ ts v s.
      let c = x.at ts s.0 s.2 in
      subst (λ y. Cost ts (f y) (G y)) (sym s.1) (omega (arith, m s.0, c.0), λ i. n s.0 (c.1 i));
}

pub after : {A B : Type 0} {p : P A} {q : P B} {n : ℕ} {g : B → ℕ} {G : A → Type 0} {H : B → Type 0} → Costs p (λ u. n) G → Costs q g H → Costs (p ▸ q) (λ v. n + g v) H
after x y = gives (both x y) (λ w. omega arith) (λ w h. h.1)

pub before : {A B : Type 0} {p : P A} {q : P B} {n : ℕ} {f : A → ℕ} {G : A → Type 0} {H : B → Type 0} → Costs p f G → Costs q (λ u. n) H → Costs (p ◂ q) (λ v. f v + n) G
before x y = gives (both x y) (λ w. omega arith) (λ w h. h.0)

pub either : {A : Type 0} {p q : P A} {f : A → ℕ} {G : A → Type 0} → Costs p f G → Costs q f G → Costs (alt p q) f G
either x y = record { at = λ ts v h. elim h [ inl i ↦ x.at ts v i | inr i ↦ y.at ts v i ] }

pub forked : {A : Type 0} {p q : P A} {f : A → ℕ} {G : A → Type 0} → Costs p f G → Costs q f G → Costs (fork p q) f G
forked x y = record { at = λ ts v h. elim h [ inl i ↦ x.at ts v i | inr i ↦ y.at ts v i ] }

pub none : Costs nothing (λ u. 0) (λ u. Unit {0})
none = record { at = λ ts u h. (omega arith, λ c. tt) }

pub maybe : {A : Type 0} {p : P A} {f : A → ℕ} {G : A → Type 0} → Costs p f G → Costs (opt p) (maybe_weight f) (MaybeGood G)
maybe x = either (gives x (λ w. omega arith) (λ w h. h)) (gives none (λ w. omega arith) (λ w h. tt))

-- as much as a part costs, or less
pub less : {A : Type 0} {p : P A} {f g : A → ℕ} {G H : A → Type 0} → Costs p g H → ((v : A) → f v ≤ g v) → ((v : A) → H v → G v) → Costs p f G
less x m n = record { at = λ ts v s. let c = x.at ts v s in (omega (arith, m v, c.0), λ i. n v (c.1 i)) }

pub free : {A : Type 0} {p : P A} {f : A → ℕ} {G : A → Type 0} → Costs p f G → Costs p (λ u. 0) (λ u. Unit {0})
free x = less x (λ v. omega arith) (λ v h. tt)

pub whole : {A : Type 0} {p : P A} {f : A → ℕ} {G : A → Type 0} → Costs p f G → Costs (kept p) (λ v. f v.1) (λ v. G v.1)
whole x = record { at = λ ts v h. x.at ts v.1 h.1 }

pub several : {A : Type 0} {p : P A} {f : A → ℕ} {G : A → Type 0} → Costs p f G → Costs (many p) (total f) (Every G)
several {A} {p} {f} {G} x = record { at = each }
  where
    each : (ts : List Token) (vs : List A) → Each (spells_in units RuleCosts p) ts vs → Cost ts (total f vs) (Every G vs)
    each ts [] h = (omega arith, λ c. tt)
    each ts (v ∷ vs) h = pair ts h.0 h.1 (f v) (total f vs) (G v) (Every G vs) h.2 (x.at h.0 v h.3) (each h.1 vs h.4)

pub tail : {A B : Type 0} {p : P A} {closed : A → Bool} {q : P B} {f : A → ℕ} {g : B → ℕ} {G : A → Type 0} {H : B → Type 0} → Costs p f G → Costs q g H → Costs (tailed p closed q) (λ v. f v.0 + maybe_weight g v.1) (λ v. G v.0 × MaybeGood H v.1)
tail {A} {B} {p} {closed} {q} {f} {g} {G} {H} x y = record { at = λ ts v h. two ts v.0 v.1 h }
  where
    two : (ts : List Token) (v : A) (w : Option B) → Tail (spells_in units RuleCosts p) closed (spells_in units RuleCosts q) ts v w → Cost ts (f v + maybe_weight g w) (G v × MaybeGood H w)
    two ts v None h = let c = x.at ts v h in (omega (arith, c.0), λ i. (c.1 i, tt))
    two ts v (Some w) h = pair ts h.0 h.1 (f v) (g w) (G v) (H w) h.2 (x.at h.0 v h.3) (y.at h.1 w h.5)

-- ---- parts without `;`, `{` and `}`

abbrev pub stops : List ℕ
stops = map number_of (k.Semicolon ∷ k.OpenBrace ∷ k.CloseBrace ∷ [])

abbrev pub is_clean : {A : Type 0} → P A → Bool
is_clean (one cs) = disjoint cs stops
is_clean (name x) = is_plain x
is_clean nothing = true
is_clean (seq p q) = is_clean p && is_clean q
is_clean (alt p q) = is_clean p && is_clean q
is_clean (fork p q) = is_clean p && is_clean q
is_clean (many p) = is_clean p
is_clean (tailed p closed q) = false
is_clean (kept p) = is_clean p
is_clean (give f p) = is_clean p

no_stop : (t : Token) (cs : List ℕ) (b : Bool) → has (number_of (symbol_of t)) stops ≡ b → IsTrue (disjoint cs stops) → IsTrue (has (number_of (symbol_of t)) cs) → b ≡ false
no_stop t cs true e d h = absurd (apart (number_of (symbol_of t)) cs stops d h e)
no_stop t cs false e d h = refl

clean_each : {A : Type 0} (p : P A) → ((ts : List Token) (v : A) → spells_in units RuleCosts p ts v → NoStops ts) → (ts : List Token) (vs : List A) → Each (spells_in units RuleCosts p) ts vs → NoStops ts
clean_each p f ts [] h = subst NoStops (sym h) tt
clean_each p f ts (v ∷ vs) h = subst NoStops (sym h.2) (stops_append h.0 h.1 (f h.0 v h.3) (clean_each p f h.1 vs h.4))

pub clean : {A : Type 0} → (p : P A) → IsTrue (is_clean p) → (ts : List Token) (v : A) → spells_in units RuleCosts p ts v → NoStops ts
clean (one cs) d ts v h = subst NoStops (sym h.0) (no_stop v cs (ends_count v) refl d h.1, tt)
clean (name x) d ts v h = h.0 d
clean nothing d ts v h = subst NoStops (sym h) tt
clean (seq p q) d ts v h = subst NoStops (sym h.2) (stops_append h.0 h.1 (clean p (and_left (is_clean p) (is_clean q) d) h.0 v.0 h.3) (clean q (and_right (is_clean p) (is_clean q) d) h.1 v.1 h.4))
clean (alt p q) d ts v h = elim h [ inl i ↦ clean p (and_left (is_clean p) (is_clean q) d) ts v i | inr i ↦ clean q (and_right (is_clean p) (is_clean q) d) ts v i ]
clean (fork p q) d ts v h = elim h [ inl i ↦ clean p (and_left (is_clean p) (is_clean q) d) ts v i | inr i ↦ clean q (and_right (is_clean p) (is_clean q) d) ts v i ]
clean (many p) d ts v h = clean_each p (λ us w i. clean p d us w i) ts v h
clean (tailed p closed q) d ts v h = absurd (cc)
clean (kept p) d ts v h = clean p d ts v.1 h.1
clean (give f p) d ts v h = clean p d ts h.0 h.2
