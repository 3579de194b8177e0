-- Where a part can't begin.
use Rattle.std.proofs.Common.{◌≡◌, ◌<◌, IsTrue, List, [], ◌∷◌, ◌++◌, length, refl, ap, sym, ◌∙◌, subst, arith, append_assoc, ◌+◌, inl, inr, Some, None, not}
use Rattle.std.proofs.lemmas.List.{length-append}
use Rattle.mm_grammar.specs.Grammar.{nothing, seq, many, give, opt, Language, PartOf, RuleSpells, RuleFront, Front, Spells, Each, Avoids, Reads, Fails, has}
use Rattle.mm_grammar.specs.Ahead.{Claims, Good, Fit, first_of, empty_of}
use Rattle.mm_grammar.proofs.Lists.{not_both}
use Rattle.mm_grammar.proofs.Laws.{front_nil, front_first, spell_empty, spell_front, many_full, good_left, alt_left}
use Rattle.mm_grammar.proofs.Closed.{lawful}
use Rattle.mm_grammar.proofs.Reading.{seq_fail_first, seq_fail_second}
use Rattle.mm_grammar.proofs.Loops.{opt_fail, opt_some}

module _ (L : Language) (C : Claims L) (fit : Fit L C) where
  pub fail_here : {A : Type 0} → (p : PartOf L A) → Good L C p → IsTrue (not (empty_of L C p)) → (ts : List L.Token) → Avoids L (first_of L C p) ts → Fails L p ts ts
  fail_here p g n ts av = record {
    used = [];
    cut = refl;
    front = front_nil L C (RuleSpells L) (RuleFront L) (lawful L C fit) p;
    not_spelled = λ v s. not_both (empty_of L C p) n (spell_empty L C (RuleSpells L) (RuleFront L) (lawful L C fit) p v s);
    stuck = λ k r tail e f. av k r e (front_first L C (RuleSpells L) (RuleFront L) (lawful L C fit) p g k tail f);
  }

  -- p? q, where p fails and q can't begin
  pub opt_then_fail : {A B : Type 0} → (p : PartOf L A) (q : PartOf L B) → Good L C (seq (opt p) q) → Good L C q → IsTrue (not (empty_of L C q)) → (ts r : List L.Token) →
      Avoids L (first_of L C q) ts → Fails L p ts r → Fails L (seq (opt p) q) ts r
  opt_then_fail p q g gq n ts r av a = go a.used a.cut refl
    where
      go_opt : Good L C (opt p)
      go_opt = good_left L C (opt p) q g

      gp : Good L C p
      gp = alt_left L C (give (λ v. Some v) p) (give (λ u. None) nothing) go_opt

      go : (u : List L.Token) → ts ≡ u ++ r → a.used ≡ u → Fails L (seq (opt p) q) ts r
      go [] cut same =
          let none : Reads L (opt p) ts None ts = record {
            used = [];
            cut = refl;
            spelled = inr (tt, refl, refl);
            stuck = λ k s tail e f. elim f [
              | inl i ↦ a.stuck k s tail (sym cut ∙ e) (subst (λ w. Front L p w) (ap (λ w. w ++ k ∷ tail) (sym same)) i)
              | inr i ↦ absurd (cc)
            ];
          } in
          subst (λ w. Fails L (seq (opt p) q) ts w) cut (seq_fail_second L C fit (opt p) q g ts ts ts None none (fail_here q gq n ts av))
      go (x ∷ u) cut same =
          let lead : IsTrue (has (L.class x) (first_of L C p)) = front_first L C (RuleSpells L) (RuleFront L) (lawful L C fit) p gp x u (subst (λ w. Front L p w) same a.front) in
          let len : length ts ≡ length (x ∷ u) + length r = ap length cut ∙ length-append (x ∷ u) r in
          seq_fail_first L C fit (opt p) q g ts r (opt_fail L C fit p go_opt ts r (x, (u ++ r), cut, lead) (omega arith) a)

  -- what p reads, p? reads, where p is never empty
  pub opt_read : {A : Type 0} → (p : PartOf L A) → Good L C (opt p) → IsTrue (not (empty_of L C p)) → (ts r : List L.Token) (v : A) → Reads L p ts v r → Reads L (opt p) ts (Some v) r
  opt_read p g n ts r v a = go a.used a.cut refl
    where
      gp : Good L C p
      gp = alt_left L C (give (λ v. Some v) p) (give (λ u. None) nothing) g

      go : (u : List L.Token) → ts ≡ u ++ r → a.used ≡ u → Reads L (opt p) ts (Some v) r
      go [] cut same = absurd (not_both (empty_of L C p) n (spell_empty L C (RuleSpells L) (RuleFront L) (lawful L C fit) p v (subst (λ w. Spells L p w v) same a.spelled)))
      go (x ∷ u) cut same =
          let lead : IsTrue (has (L.class x) (first_of L C p)) = front_first L C (RuleSpells L) (RuleFront L) (lawful L C fit) p gp x u (subst (λ w. Front L p w) same (spell_front L C (RuleSpells L) (RuleFront L) (lawful L C fit) p a.used v a.spelled)) in
          opt_some L C fit p g ts r v (x, (u ++ r), cut, lead) a

  -- ---- from a part at most once back to the part

  pub opt_some_of : {A : Type 0} → (p : PartOf L A) → (ts r : List L.Token) (v : A) → Reads L (opt p) ts (Some v) r → Reads L p ts v r
  opt_some_of p ts r v a = record {
    used = a.used;
    cut = a.cut;
    spelled = elim a.spelled [ inl i ↦ (let e = i.1 in let same : i.0 ≡ v = cc in subst (λ w. Spells L p a.used w) same i.2) | inr i ↦ absurd (let e = i.1 in cc) ];
    stuck = λ k s tail e f. a.stuck k s tail e (inl f);
  }

  pub opt_none_of : {A : Type 0} → (p : PartOf L A) → (ts r : List L.Token) → Reads L (opt p) ts None r → r ≡ ts
  opt_none_of p ts r a =
      let u : a.used ≡ [] = elim a.spelled [ inl i ↦ absurd (let e = i.1 in cc) | inr i ↦ i.2 ] in
      sym (a.cut ∙ ap (λ w. w ++ r) u)

  pub opt_fail_of : {A : Type 0} → (p : PartOf L A) → (ts r : List L.Token) → Fails L (opt p) ts r → Fails L p ts r
  opt_fail_of p ts r a = record {
    used = a.used;
    cut = a.cut;
    front = elim a.front [ inl i ↦ i | inr i ↦ subst (λ w. Front L p w) (sym i) (front_nil L C (RuleSpells L) (RuleFront L) (lawful L C fit) p) ];
    not_spelled = λ v s. a.not_spelled (Some v) (inl (v, refl, s));
    stuck = λ k s tail e f. a.stuck k s tail e (inl f);
  }

  pub opt_fail_shorter : {A : Type 0} → (p : PartOf L A) → (ts r : List L.Token) → Fails L (opt p) ts r → length r < length ts
  opt_fail_shorter p ts r a = go a.used a.cut refl
    where
      go : (u : List L.Token) → ts ≡ u ++ r → a.used ≡ u → length r < length ts
      go [] cut same = absurd (a.not_spelled None (inr (tt, refl, same)))
      go (x ∷ u) cut same = let e : length ts ≡ length (x ∷ u) + length r = ap length cut ∙ length-append (x ∷ u) r in omega arith

  -- p any number of times, where no front of p begins
  pub many_none_of : {A : Type 0} → (p : PartOf L A) → Good L C (many p) → (ts r : List L.Token) → Reads L (opt p) ts None r → Reads L (many p) ts [] r
  many_none_of {A} p g ts r a = record {
    used = [];
    cut = sym (opt_none_of p ts r a);
    spelled = refl;
    stuck = λ k s tail e f. go k s tail e f.0 f.1 f.2 f.3 f.4 f.5;
  }
    where
      u : a.used ≡ []
      u = elim a.spelled [ inl i ↦ absurd (let e = i.1 in cc) | inr i ↦ i.2 ]

      on : (k : L.Token) (s tail : List L.Token) → r ≡ k ∷ s → Front L p (k ∷ tail) → ⊥
      on k s tail e f = a.stuck k s tail e (inl (subst (λ w. Front L p (w ++ k ∷ tail)) (sym u) f))

      lead : (k : L.Token) (s x c d : List L.Token) (v : A) → r ≡ k ∷ s → k ∷ x ≡ c ++ d → Spells L p c v → ⊥
      lead k s x [] d v e i t = not_both (empty_of L C p) (many_full L C p g) (spell_empty L C (RuleSpells L) (RuleFront L) (lawful L C fit) p v t)
      lead k s x (y ∷ c) d v e i t =
          let same : y ≡ k = cc in
          on k s c e (subst (λ w. Front L p (w ∷ c)) same (spell_front L C (RuleSpells L) (RuleFront L) (lawful L C fit) p (y ∷ c) v t))

      go : (k : L.Token) (s tail : List L.Token) → r ≡ k ∷ s → (c b : List L.Token) (vs : List A) → k ∷ tail ≡ c ++ b → Each (Spells L p) c vs → Front L p b → ⊥
      go k s tail e c b [] i t f =
          let only : k ∷ tail ≡ b = subst (λ w. k ∷ tail ≡ w ++ b) t i in
          on k s tail e (subst (λ w. Front L p w) (sym only) f)
      go k s tail e c b (v ∷ vs) i t f = lead k s tail t.0 (t.1 ++ b) v e (i ∙ (ap (λ w. w ++ b) t.2 ∙ append_assoc t.0 t.1 b)) t.3
