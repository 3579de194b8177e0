-- Tokens that are passed over.
use Rattle.std.specs.Prelude.{Bool, true, false}
use Rattle.std.specs.Option.{is_some}
use Rattle.std.proofs.Common.{◌≡◌, ℕ, suc, zero, ◌+◌, ◌<◌, IsTrue, List, [], ◌∷◌, ◌++◌, map, drop, get_or, length, refl, ap, sym, ◌∙◌, subst, arith, Option, Some, None, Err, ◌⊎◌, inl, inr}
use Rattle.mm_grammar.specs.Grammar.{has, Avoids, Reads, Fails}
use Rattle.mm_grammar.proofs.Lists.{or_cases, same}
use Rattle.mm_c.specs.Tokens.{Token, class_of}
use Rattle.mm_c.specs.Grammar.{texts, pointer}
use Rattle.mm_c_text.specs.Classes.{number_of}
use Rattle.mm_c_text.specs.Cursor.{Eats, token_of}
use Rattle.mm_c_text.specs.declared.class.Class.{Class}
use Rattle.mm_c_text.specs.declared.cursor.Lexeme.{Lexeme}
use Rattle.mm_c_parse.specs.declared.step.Stop.TheVariants as stop
use Rattle.mm_c_parse.specs.Steps.{Marks, Broken, Passes, Skips}
use Rattle.mm_c_parse.proofs.Steps.{not_both_ways, err_inside, head_is, tail_is, mark_of, mw, mw_not, rg, rs, fg, ff, fs}

has_one : (k c : ℕ) → IsTrue (has k (c ∷ [])) → k ≡ c
has_one k c h = elim (or_cases _ _ h) [ inl i ↦ same k c i | inr i ↦ absurd (cc) ]

pub skip_of : (c : ℕ) (ts rest : List Token) (o : Option Lexeme) (b : Bool) → b ≡ is_some o → Eats (c ∷ []) ts o rest → Skips c ts b rest
skip_of c ts rest (Some x) b e h = record {
  passed = λ i. record { used = token_of x ∷ []; cut = h.0; classes = ap (λ k. k ∷ []) (has_one (class_of (token_of x)) c h.1) };
  none = λ i. absurd (cc);
}
skip_of c ts rest None b e h = record { passed = λ i. absurd (cc); none = λ i. h }

-- one more mark
pub one_more : (c : ℕ) (cs : List ℕ) (ts us rest : List Token) (b : Bool) → b ≡ true → Skips c ts b us → Marks cs us rest → Marks (c ∷ cs) ts rest
one_more c cs ts us rest b e h m =
    let f = mark_of (h.passed e) in
    record { used = f.0 ∷ m.used; cut = f.1 ∙ ap (λ l. f.0 ∷ l) m.cut; classes = ap (λ k. k ∷ map class_of m.used) f.2 ∙ ap (λ l. c ∷ l) m.classes }

pub broken_more : (c : ℕ) (cs : List ℕ) (ts us rest : List Token) (b : Bool) → b ≡ true → Skips c ts b us → Broken cs us rest → Broken (c ∷ cs) ts rest
broken_more c cs ts us rest b e h m =
    let f = mark_of (h.passed e) in
    record {
      used = f.0 ∷ m.used;
      cut = f.1 ∙ ap (λ l. f.0 ∷ l) m.cut;
      wanted = m.wanted;
      more = m.more;
      classes = ap (λ k. k ∷ (map class_of m.used ++ m.wanted ∷ m.more)) f.2 ∙ ap (λ l. c ∷ l) m.classes;
      other = m.other;
    }

pub broken_here : (c : ℕ) (cs : List ℕ) (ts us : List Token) (b : Bool) → b ≡ false → Skips c ts b us → Broken (c ∷ cs) ts us
broken_here c cs ts us b e h =
    let f = h.none e in
    record { used = []; cut = sym f.0; wanted = c; more = cs; classes = refl; other = subst (λ l. Avoids texts (c ∷ []) l) (sym f.0) f.1 }

pub item_at : (xs : List Class) (i : ℕ) (d : Class) → i < length xs → map number_of (drop i xs) ≡ number_of (get_or xs i d) ∷ map number_of (drop (i + 1) xs)
item_at [] i d h = absurd (omega arith)
item_at (x ∷ xs) zero d h = refl
item_at (x ∷ xs) (suc i) d h =
    let e : suc i + 1 ≡ suc (i + 1) = omega arith in
    subst (λ (n : ℕ). map number_of (drop i xs) ≡ number_of (get_or xs i d) ∷ map number_of (drop n (x ∷ xs))) (sym e) (item_at xs i d (omega arith))

pub no_pass : {cs : List ℕ} {ts rest : List Token} → Broken cs ts rest → Passes cs ts (Err stop.Fault) rest
no_pass b = record { passed = λ u h. absurd (not_both_ways (sym h)); broken = λ e h. (sym (err_inside h), b) }

-- ---- two marks

pub split : {a : ℕ} {cs : List ℕ} {ts r : List Token} → Marks (a ∷ cs) ts r → (m : List Token) × Marks (a ∷ []) ts m × Marks cs m r
split {a} {cs} {ts} {r} h = go h.used h.cut h.classes
  where
    go : (u : List Token) → ts ≡ u ++ r → map class_of u ≡ a ∷ cs → (m : List Token) × Marks (a ∷ []) ts m × Marks cs m r
    go [] e k = absurd (cc)
    go (t ∷ u) e k = (u ++ r, record { used = t ∷ []; cut = e; classes = ap (λ n. n ∷ []) (head_is k) }, record { used = u; cut = refl; classes = tail_is k })

pub split_broken : {a : ℕ} {cs : List ℕ} {ts r : List Token} → Broken (a ∷ cs) ts r → Broken (a ∷ []) ts r ⊎ ((m : List Token) × Marks (a ∷ []) ts m × Broken cs m r)
split_broken {a} {cs} {ts} {r} h = go h.used h.cut h.classes
  where
    go : (u : List Token) → ts ≡ u ++ r → map class_of u ++ h.wanted ∷ h.more ≡ a ∷ cs → Broken (a ∷ []) ts r ⊎ ((m : List Token) × Marks (a ∷ []) ts m × Broken cs m r)
    go [] e k = inl (record { used = []; cut = e; wanted = h.wanted; more = []; classes = ap (λ n. n ∷ []) (head_is k); other = h.other })
    go (t ∷ u) e k = inr (u ++ r, record { used = t ∷ []; cut = e; classes = ap (λ n. n ∷ []) (head_is k) }, record { used = u; cut = refl; wanted = h.wanted; more = h.more; classes = tail_is k; other = h.other })

-- p and then the mark behind it
pub pointer_reads : {ts r : List Token} → Marks (48 ∷ 29 ∷ []) ts r → (t : Token) × Reads texts pointer ts t r
pointer_reads h = let s = split h in let p = mw s.1 in (p.0, rg (rs refl p.1 (mw s.2).1) refl)

pub pointer_fails : {ts r : List Token} → Broken (48 ∷ 29 ∷ []) ts r → Fails texts pointer ts r
pointer_fails h = elim (split_broken h) [ inl i ↦ fg (ff refl (mw_not i)) | inr i ↦ fg (fs refl (mw i.1).1 (mw_not i.2)) ]
