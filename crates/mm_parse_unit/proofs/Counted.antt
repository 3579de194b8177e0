-- Tokens that keep the limit on their count, one after another.
use Rattle.std.proofs.Common.{◌≡◌, ℕ, suc, ◌+◌, ◌≤◌, ◌<◌, Bool, true, false, if◌then◌else◌, List, [], ◌∷◌, ◌++◌, length, take, get_or, refl, ap, sym, ◌∙◌, arith, subst}
use Rattle.std.proofs.lemmas.List.{take_more}
use Rattle.mm_grammar.proofs.Lists.{equal, later, earlier, cuts}
use Rattle.mm_token.specs.declared.token.Token.{Token}
use Rattle.mm_parse_expr.specs.Longest.{count_from, ends_count}
use Rattle.mm_parse_expr.proofs.Count.{count_snoc}
use Rattle.mm_parse_unit.specs.Units.{KeepsCount}
use Rattle.mm_parse_unit.specs.Reading.{IsFirstPast}
use Rattle.mm_parse_unit.proofs.Stops.{past_counts, past_of}

-- what is counted of the tokens before an index
pub record Counted (tokens : List Token) (count at : ℕ) : Type 0 where
  pub counted : count ≡ count_from 0 (take at tokens)
  pub keeps : KeepsCount (take at tokens)
  pub within : at ≤ length tokens
  pub most : count ≤ 1000

pub nothing_counted : (tokens : List Token) → Counted tokens 0 0
nothing_counted tokens = record { counted = refl; keeps = λ before after t e p. none before after t e; within = omega arith; most = omega arith }
  where
    none : (before after : List Token) (t : Token) → [] ≡ before ++ t ∷ after → ⊥
    none [] after t e = absurd (cc)
    none (x ∷ before) after t e = absurd (cc)

keeps_one : (xs : List Token) (t : Token) → KeepsCount xs → count_from 0 xs < 1000 → KeepsCount (xs ++ t ∷ [])
keeps_one xs t h n before after u e p = elim (cuts xs (t ∷ []) before (u ∷ after) e) [
  | equal i j ↦ (let same : count_from 0 xs ≡ count_from 0 before = ap (count_from 0) i in absurd (omega (arith, same, n, past_counts before p)))
  | later k m i j ↦ h before m k i p
  | earlier k m i j ↦ absurd (no_more m k j)
]
  where
    no_more : (m : List Token) (k : Token) → t ∷ [] ≡ k ∷ (m ++ u ∷ after) → ⊥
    no_more [] k j = absurd (cc)
    no_more (x ∷ m) k j = absurd (cc)

abbrev next_count : Bool → ℕ → ℕ
next_count ends count = if ends then 0 else suc count

counted_more : (tokens : List Token) (count at next : ℕ) (t : Token) → Counted tokens count at → count < 1000 → at < length tokens → t ≡ get_or tokens at t → next ≡ next_count (ends_count t) count → next ≤ 1000 → Counted tokens next (at + 1)
counted_more tokens count at next t s n w e f m =
    let more : take (at + 1) tokens ≡ take at tokens ++ t ∷ [] = take_more tokens at t w ∙ ap (λ x. take at tokens ++ x ∷ []) (sym e) in
    let same = s.counted in
    record {
      counted = f ∙ (ap (next_count (ends_count t)) s.counted ∙ (sym (count_snoc 0 (take at tokens) t) ∙ ap (count_from 0) (sym more)));
      keeps = subst (λ xs. KeepsCount xs) (sym more) (keeps_one (take at tokens) t s.keeps (omega (arith, same, n)));
      within = omega (arith, w);
      most = m;
    }

-- after a token that ends the count
pub ended : (tokens : List Token) (count at next : ℕ) (t : Token) (ends : Bool) → Counted tokens count at → count < 1000 → at < length tokens → t ≡ get_or tokens at t → ends ≡ ends_count t → true ≡ ends → next ≡ 0 → Counted tokens next (at + 1)
ended tokens count at next t ends s n w e f h z =
    counted_more tokens count at next t s n w e (z ∙ ap (λ b. next_count b count) (h ∙ f)) (omega (arith, z))

-- after another one
pub counted_on : (tokens : List Token) (count at next : ℕ) (t : Token) (ends : Bool) → Counted tokens count at → count < 1000 → at < length tokens → t ≡ get_or tokens at t → ends ≡ ends_count t → false ≡ ends → next ≡ count + 1 → Counted tokens next (at + 1)
counted_on tokens count at next t ends s n w e f h z =
    let one : count + 1 ≡ suc count = omega arith in
    counted_more tokens count at next t s n w e (z ∙ (one ∙ ap (λ b. next_count b count) (h ∙ f))) (omega (arith, z, n))

-- at the end, or past the limit
pub all_counted : (tokens : List Token) (count at : ℕ) → Counted tokens count at → length tokens ≤ at → IsFirstPast tokens at
all_counted tokens count at s e = record { within = s.within; counted = s.keeps; past = λ w. absurd (omega (arith, w, e)) }

pub past_limit : (tokens : List Token) (count at : ℕ) → Counted tokens count at → 1000 ≤ count → IsFirstPast tokens at
past_limit tokens count at s e = record { within = s.within; counted = s.keeps; past = λ w. (let same = s.counted in past_of (take at tokens) (omega (arith, same, e))) }
