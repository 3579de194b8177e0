-- How the reading of a part with its tail follows from the readings of the two.
use Rattle.std.proofs.Common.{◌≡◌, ◌<◌, Bool, not, IsTrue, List, [], ◌∷◌, ◌++◌, Option, Some, None, inl, inr, refl, ap, sym, ◌∙◌, arith, subst, append_assoc, length}
use Rattle.std.proofs.lemmas.List.{append-nil}
use Rattle.mm_grammar.specs.Grammar.{tailed, Language, PartOf, Tail, spells_in, RuleSpells, RuleFront, Spells, Front, Avoids, Stuck, Reads, Fails}
use Rattle.mm_grammar.specs.Ahead.{Claims, first_of, Good, Fit}
use Rattle.mm_grammar.proofs.Lists.{not_both, equal, later, earlier, cuts}
use Rattle.mm_grammar.proofs.Laws.{Lawful, front_first, spell_front, IsTailed, tailed_is}
use Rattle.mm_grammar.proofs.Follow.{spell_follows, spell_once}
use Rattle.mm_grammar.proofs.Closed.{lawful}
use Rattle.mm_grammar.proofs.Reading.{starts, split_head}

module _ (L : Language) (C : Claims L) (fit : Fit L C) where
  laws : Lawful L C (RuleSpells L) (RuleFront L)
  laws = lawful L C fit

  module _ {A B : Type 0} (p : PartOf L A) (closed : A → Bool) (q : PartOf L B) (g : Good L C (tailed p closed q)) where
    is : IsTailed L C p closed q
    is = tailed_is L C p closed q g

    -- A closed text of p before a front of a tail, where p's front u goes on with no token of what follows: it is u.
    agree : (u rest : List L.Token) → Front L p u → Stuck L p u rest → (a b e : List L.Token) (x : A) → Spells L p a x → IsTrue (closed x) → Front L q b →
        ((y : L.Token) (z : List L.Token) → e ≡ y ∷ z → (r : List L.Token) × (rest ≡ y ∷ r)) →
        a ++ b ≡ u ++ e → (a ≡ u) × (b ≡ e)
    agree u rest f stuck a b e x s c fq start h = elim (cuts a b u e h) [
      | equal i j ↦ (i, j)
      | later y z i j ↦
          let r = start y (z ++ b) j in
          absurd (stuck y r.0 z r.1 (subst (λ w. Front L p w) i (spell_front L C (RuleSpells L) (RuleFront L) laws p a x s)))
      | earlier y z i j ↦
          absurd (is.sealed x (L.class y) c (spell_follows L C (RuleSpells L) (RuleFront L) laws p is.left a x y z s (subst (λ w. Front L p w) i f))
          (front_first L C (RuleSpells L) (RuleFront L) laws q is.right y (z ++ e) (subst (λ w. Front L q w) j fq)))
    ]

    -- ---- without its tail

    alone_stuck : (u rest : List L.Token) → Front L p u → Stuck L p u rest → ((v : A) → IsTrue (closed v) → Spells L p u v → Avoids L (first_of L C q) rest) → Stuck L (tailed p closed q) u rest
    alone_stuck u rest f stuck av k s tail e h = elim h [
      | inl i ↦ stuck k s tail e i
      | inr i ↦
          let same = agree u rest f stuck i.0 i.1 (k ∷ tail) i.2 i.4 i.5 i.6 (λ y z j. let eq : k ≡ y = cc in (s, e ∙ ap (λ w. w ∷ s) eq)) (sym i.3) in
          av i.2 i.5 (subst (λ w. Spells L p w i.2) same.0 i.4) k s e (front_first L C (RuleSpells L) (RuleFront L) laws q is.right k tail (subst (λ w. Front L q w) same.1 i.6))
    ]

    pub tailed_none : (ts r : List L.Token) (v : A) → Avoids L (first_of L C q) r → Reads L p ts v r → Reads L (tailed p closed q) ts (v, None) r
    tailed_none ts r v av a = record {
      used = a.used;
      cut = a.cut;
      spelled = a.spelled;
      stuck = alone_stuck a.used r (spell_front L C (RuleSpells L) (RuleFront L) laws p a.used v a.spelled) a.stuck (λ w c s. av);
    }

    -- what isn't closed has no tail
    pub tailed_open : (ts r : List L.Token) (v : A) → IsTrue (not (closed v)) → Reads L p ts v r → Reads L (tailed p closed q) ts (v, None) r
    tailed_open ts r v o a = record {
      used = a.used;
      cut = a.cut;
      spelled = a.spelled;
      stuck = alone_stuck a.used r (spell_front L C (RuleSpells L) (RuleFront L) laws p a.used v a.spelled) a.stuck
          (λ w c s. absurd (not_both (closed v) o (subst (λ x. IsTrue (closed x)) (spell_once L C (RuleSpells L) (RuleFront L) laws p is.left a.used w v s a.spelled) c)));
    }

    pub tailed_fail_first : (ts r : List L.Token) → Fails L p ts r → Fails L (tailed p closed q) ts r
    tailed_fail_first ts r a = record {
      used = a.used;
      cut = a.cut;
      front = inl a.front;
      not_spelled = λ v h. none v.0 v.1 h;
      stuck = alone_stuck a.used r a.front a.stuck (λ w c s. absurd (a.not_spelled w s));
    }
      where
        none : (v : A) (o : Option B) → Tail (spells_in L (RuleSpells L) p) closed (spells_in L (RuleSpells L) q) a.used v o → ⊥
        none v None h = a.not_spelled v h
        none v (Some w) h =
            let same = agree a.used r a.front a.stuck h.0 h.1 [] v h.3 h.4 (spell_front L C (RuleSpells L) (RuleFront L) laws q h.1 w h.5) (λ y z j. absurd (cc)) (sym h.2 ∙ sym (append-nil a.used)) in
            a.not_spelled v (subst (λ x. Spells L p x v) same.0 h.3)

    -- ---- with its tail

    both_stuck : (u1 r1 u2 r2 : List L.Token) → Front L p u1 → Stuck L p u1 r1 → r1 ≡ u2 ++ r2 → Stuck L q u2 r2 → Stuck L (tailed p closed q) (u1 ++ u2) r2
    both_stuck u1 r1 u2 r2 f stuck1 cut stuck2 k r tail e h =
        let group = append_assoc u1 u2 (k ∷ tail) in
        let rest : r1 ≡ u2 ++ k ∷ r = cut ∙ ap (λ w. u2 ++ w) e in
        elim h [
          | inl i ↦
              let head = split_head u2 k tail in
              let same = starts u2 k tail r head.0 head.1 head.2 in
              stuck1 head.0 same.0 head.1 (rest ∙ same.1) (subst (λ w. Front L p w) (group ∙ ap (λ w. u1 ++ w) head.2) i)
          | inr i ↦
              let one = agree u1 r1 f stuck1 i.0 i.1 (u2 ++ k ∷ tail) i.2 i.4 i.5 i.6
              (λ y z j. let same = starts u2 k tail r y z j in (same.0, rest ∙ same.1))
              (sym i.3 ∙ group) in
              stuck2 k r tail e (subst (λ w. Front L q w) one.1 i.6)
        ]

    pub tailed_some : (ts r1 r2 : List L.Token) (v : A) (w : B) → IsTrue (closed v) → Reads L p ts v r1 → Reads L q r1 w r2 → Reads L (tailed p closed q) ts (v, Some w) r2
    tailed_some ts r1 r2 v w c a b = record {
      used = a.used ++ b.used;
      cut = a.cut ∙ (ap (λ x. a.used ++ x) b.cut ∙ sym (append_assoc a.used b.used r2));
      spelled = (a.used, b.used, refl, a.spelled, c, b.spelled);
      stuck = both_stuck a.used r1 b.used r2 (spell_front L C (RuleSpells L) (RuleFront L) laws p a.used v a.spelled) a.stuck b.cut b.stuck;
    }

    pub tailed_fail_tail : (ts r1 r2 : List L.Token) (v : A) → IsTrue (closed v) → length r2 < length r1 → Reads L p ts v r1 → Fails L q r1 r2 → Fails L (tailed p closed q) ts r2
    tailed_fail_tail ts r1 r2 v c n a b = record {
      used = a.used ++ b.used;
      cut = a.cut ∙ (ap (λ x. a.used ++ x) b.cut ∙ sym (append_assoc a.used b.used r2));
      front = inr (a.used, b.used, v, refl, a.spelled, c, b.front);
      not_spelled = λ x h. none x.0 x.1 h;
      stuck = both_stuck a.used r1 b.used r2 whole a.stuck b.cut b.stuck;
    }
      where
        whole : Front L p a.used
        whole = spell_front L C (RuleSpells L) (RuleFront L) laws p a.used v a.spelled

        longer : (u : List L.Token) → r1 ≡ u ++ r2 → (x : A) → Spells L p (a.used ++ u) x → ⊥
        longer [] cut x s = let l = ap length cut in omega (arith, l, n)
        longer (y ∷ u) cut x s = a.stuck y (u ++ r2) u cut (spell_front L C (RuleSpells L) (RuleFront L) laws p (a.used ++ y ∷ u) x s)

        none : (x : A) (o : Option B) → Tail (spells_in L (RuleSpells L) p) closed (spells_in L (RuleSpells L) q) (a.used ++ b.used) x o → ⊥
        none x None h = longer b.used b.cut x h
        none x (Some w) h =
            let one = agree a.used r1 whole a.stuck h.0 h.1 b.used x h.3 h.4 (spell_front L C (RuleSpells L) (RuleFront L) laws q h.1 w h.5)
            (λ y z j. (z ++ r2, b.cut ∙ ap (λ t. t ++ r2) j)) (sym h.2) in
            b.not_spelled w (subst (λ t. Spells L q t w) one.1 h.5)
