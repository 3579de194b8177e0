-- Parts that stand at most once, of what one of their first parts answers.
use Rattle.std.proofs.Common.{◌≡◌, ℕ, zero, suc, ◌+◌, ◌<◌, not, IsTrue, List, [], ◌∷◌, ◌++◌, inl, inr, length, refl, ap, sym, ◌∙◌, subst, arith, Option, Some, None, option_copied}
use Rattle.std.specs.Borrow.{Bor}
use Rattle.std.proofs.lemmas.List.{length-append}
use Rattle.mm_grammar.specs.Grammar.{seq, opt, front_at, Begins, RuleFront, RuleSpells, Front, Spells, Reads, Fails}
use Rattle.mm_grammar.specs.Ahead.{Good, first_of, empty_of}
use Rattle.mm_grammar.proofs.Lists.{not_both}
use Rattle.mm_grammar.proofs.Deep.{front_along}
use Rattle.mm_grammar.proofs.Laws.{front_nil, front_first, spell_empty, spell_front}
use Rattle.mm_grammar.proofs.Closed.{lawful, fold_spells, unfold_spells, fold_front}
use Rattle.mm_grammar.proofs.Reading.{unfold_front}
use Rattle.mm_grammar.proofs.Loops.{opt_fail}
use Rattle.mm_grammar.proofs.Here.{opt_none_of, opt_then_fail}
use Rattle.mm_token.specs.declared.token.Token.{Token}
use Rattle.mm_syntax.specs.declared.symbol.Symbol.TheVariants as k
use Rattle.mm_syntax.specs.BuiltDeclarations as bd
use Rattle.mm_syntax.specs.Rules.{P, Rule, units, token, rule_of, params, some_params}
use Rattle.mm_syntax.proofs.Claims.{ahead}
use Rattle.mm_syntax.proofs.Fitting.{fit}
use Rattle.mm_cursor.specs.Cursor.{Eats}
use Rattle.mm_cursor.proofs.Steps.{is_plain, good, ate, some, none}
use Rattle.mm_parse_function.specs.Parts.{inside_parameters}

-- ---- where p doesn't stand

module _ {A : Type 0} (p : P A) (n : IsTrue (not (empty_of units ahead p))) where
  never_empty : (v : A) → Spells units p [] v → ⊥
  never_empty v s = not_both (empty_of units ahead p) n (spell_empty units ahead (RuleSpells units) (RuleFront units) (lawful units ahead fit) p v s)

  unused : (ts r : List Token) → (a : Reads units (opt p) ts None r) → a.used ≡ []
  unused ts r a = elim a.spelled [ inl i ↦ absurd (let e = i.1 in cc) | inr i ↦ i.2 ]

  no_front : (ts r : List Token) → Reads units (opt p) ts None r → (x : Token) (s tail : List Token) → r ≡ x ∷ s → Front units p (x ∷ tail) → ⊥
  no_front ts r a x s tail e f = a.stuck x s tail e (inl (subst (λ w. Front units p (w ++ x ∷ tail)) (sym (unused ts r a)) f))

  -- it fails there
  pub none_fails : (ts r : List Token) → Reads units (opt p) ts None r → Fails units p ts r
  none_fails ts r a = record {
    used = [];
    cut = sym (opt_none_of units ahead fit p ts r a);
    front = front_nil units ahead (RuleSpells units) (RuleFront units) (lawful units ahead fit) p;
    not_spelled = λ v s. never_empty v s;
    stuck = λ x s tail e f. no_front ts r a x s tail e f;
  }

  -- nor does p with q after it
  pub none_seq : {B : Type 0} → (q : P B) (ts r : List Token) → Reads units (opt p) ts None r → Reads units (opt (seq p q)) ts None r
  none_seq {B} q ts r a = record {
    used = [];
    cut = sym (opt_none_of units ahead fit p ts r a);
    spelled = inr (tt, refl, refl);
    stuck = λ x s tail e f. elim f [ inl i ↦ go x s tail e i | inr i ↦ absurd (cc) ];
  }
    where
      lead : (x : Token) (s tail c d : List Token) (v : A) → r ≡ x ∷ s → x ∷ tail ≡ c ++ d → Spells units p c v → ⊥
      lead x s tail [] d v e i t = never_empty v t
      lead x s tail (y ∷ c) d v e i t =
          let same : y ≡ x = cc in
          no_front ts r a x s c e (subst (λ w. Front units p (w ∷ c)) same (spell_front units ahead (RuleSpells units) (RuleFront units) (lawful units ahead fit) p (y ∷ c) v t))

      go : (x : Token) (s tail : List Token) → r ≡ x ∷ s → Front units (seq p q) (x ∷ tail) → ⊥
      go x s tail e f = elim f [ inl i ↦ no_front ts r a x s tail e i | inr i ↦ lead x s tail i.0 i.1 i.2 e i.3 i.4 ]

  -- what reads it takes a token
  pub reads_takes : (ts r : List Token) (v : A) → Reads units p ts v r → length r < length ts
  reads_takes ts r v a = go a.used a.cut a.spelled
    where
      go : (u : List Token) → ts ≡ u ++ r → Spells units p u v → length r < length ts
      go [] cut s = absurd (never_empty v s)
      go (x ∷ u) cut s = let e : length ts ≡ length (x ∷ u) + length r = ap length cut ∙ length-append (x ∷ u) r in omega arith

-- ---- where it fails behind its first token

begins : {A : Type 0} → (p : P A) → Good units ahead p → (ts r : List Token) → length r < length ts → Fails units p ts r → Begins units (first_of units ahead p) ts
begins p g ts r l a = go a.used a.cut a.front
  where
    go : (u : List Token) → ts ≡ u ++ r → Front units p u → Begins units (first_of units ahead p) ts
    go [] cut f = let e : length ts ≡ length r = ap length cut in absurd (omega arith)
    go (x ∷ u) cut f = (x, u ++ r, cut, front_first units ahead (RuleSpells units) (RuleFront units) (lawful units ahead fit) p g x u f)

pub fails_behind : {A : Type 0} → (p : P A) → IsTrue (is_plain p) → IsTrue (is_plain (opt p)) → (ts r : List Token) → length r < length ts → Fails units p ts r → Fails units (opt p) ts r
fails_behind p h g ts r l a = opt_fail units ahead fit p (good (opt p) g) ts r (begins p (good p h) ts r l a) l a

-- ---- parameters that may be left out, and `)`

pub inside_fails : (ts us r : List Token) → Eats (k.Close ∷ []) ts None us → Fails units some_params us r → Fails units inside_parameters ts r
inside_fails ts us r h a =
    let f = opt_then_fail units ahead fit some_params (token (k.Close ∷ [])) (good (seq (opt some_params) (token (k.Close ∷ []))) refl) (good (token (k.Close ∷ [])) refl) refl ts r h.1 (subst (λ w. Fails units some_params w r) h.0 a) in
    record {
      used = f.used;
      cut = f.cut;
      front = elim f.front [
        | inl i ↦ inl (fold_front units params f.used i)
        | inr i ↦ inr (i.0, i.1, bd.given_params i.2, i.3, fold_spells units params i.0 (bd.given_params i.2) (i.2, refl, i.4), i.5)
      ];
      not_spelled = λ v s. (let s1 = s.2 in let w = unfold_spells units params s1.0 s.0.0 s1.3 in f.not_spelled (w.0, s.0.1) (s1.0, s1.1, s1.2, w.2, s1.4));
      stuck = λ x s tail e g. f.stuck x s tail e (elim g [
        | inl i ↦ inl (unfold_front units ahead fit params (f.used ++ x ∷ tail) i)
        | inr i ↦ (let w = unfold_spells units params i.0 i.2 i.4 in inr (i.0, i.1, w.0, i.3, w.2, i.5))
      ]);
    }
