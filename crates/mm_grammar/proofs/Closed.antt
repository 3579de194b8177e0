-- The laws hold of the rules, where the claims on the language fit them.
use Rattle.std.proofs.Common.{◌≡◌, ℕ, zero, suc, ◌+◌, Bool, not, ◌&&◌, ◌||◌, IsTrue, List, [], ◌∷◌, ◌++◌, Option, Some, None, inl, inr, refl, arith, subst}
use Rattle.mm_grammar.specs.Grammar.{one, name, nothing, seq, alt, fork, many, tailed, kept, give, Language, PartOf, Each, Tail, spells_in, front_in, spells_at, front_at, RuleSpells, RuleFront, Spells, Front}
use Rattle.mm_grammar.specs.Ahead.{Claims, within, first_of, more_of, empty_of, second_of, alone_of, is_good, Good, Fit}
use Rattle.mm_grammar.proofs.Lists.{and_left, and_right, or_cases, not_both, has-within}
use Rattle.mm_grammar.proofs.Deep.{each_along, spells_along, front_along, spells_more, front_more, front_at_nil}
use Rattle.mm_grammar.proofs.Laws.{Lawful, front_first, spell_empty, spell_front, spell_alone, front_second, follows_more}
use Rattle.mm_grammar.proofs.Follow.{spell_follows, spell_once}

module _ (L : Language) where
  later_spells : (n m : ℕ) (x : L.Name) (ts : List L.Token) (v : L.Value x) → spells_at L m x ts v → spells_at L (n + m) x ts v
  later_spells n m x ts v h = let e : m + n ≡ n + m = omega arith in subst (λ k. spells_at L k x ts v) e (spells_more L m n x ts v h)

  later_front : (n m : ℕ) (x : L.Name) (ts : List L.Token) → front_at L m x ts → front_at L (n + m) x ts
  later_front n m x ts h = let e : m + n ≡ n + m = omega arith in subst (λ k. front_at L k x ts) e (front_more L m n x ts h)

  -- ---- a text of a part has a depth

  each_bound : {A : Type 0} → (p : PartOf L A) → ((ts : List L.Token) (v : A) → Spells L p ts v → (n : ℕ) × spells_in L (spells_at L n) p ts v) →
      (ts : List L.Token) (vs : List A) → Each (spells_in L (RuleSpells L) p) ts vs → (n : ℕ) × Each (spells_in L (spells_at L n) p) ts vs
  each_bound p ih ts [] h = (zero, h)
  each_bound p ih ts (v ∷ vs) h =
      let a = ih h.0 v h.3 in
      let b = each_bound p ih h.1 vs h.4 in (
        a.0 + b.0,
        (
          h.0,
          h.1,
          h.2,
          spells_along L (spells_at L a.0) (spells_at L (a.0 + b.0)) (λ y us w i. spells_more L a.0 b.0 y us w i) p h.0 v a.1,
          each_along (spells_in L (spells_at L b.0) p) (spells_in L (spells_at L (a.0 + b.0)) p) (λ us w i. spells_along L (spells_at L b.0) (spells_at L (a.0 + b.0)) (λ y us w i. later_spells a.0 b.0 y us w i) p us w i) h.1 vs b.1,
        ),
      )

  -- what holds at the left depth, or at the right one, at both together
  spells_left : {A : Type 0} → (p : PartOf L A) (n m : ℕ) (ts : List L.Token) (v : A) → spells_in L (spells_at L n) p ts v → spells_in L (spells_at L (n + m)) p ts v
  spells_left p n m ts v h = spells_along L (spells_at L n) (spells_at L (n + m)) (λ y us w i. spells_more L n m y us w i) p ts v h

  spells_right : {A : Type 0} → (p : PartOf L A) (n m : ℕ) (ts : List L.Token) (v : A) → spells_in L (spells_at L m) p ts v → spells_in L (spells_at L (n + m)) p ts v
  spells_right p n m ts v h = spells_along L (spells_at L m) (spells_at L (n + m)) (λ y us w i. later_spells n m y us w i) p ts v h

  tail_bound : {A B : Type 0} → (p : PartOf L A) (closed : A → Bool) (q : PartOf L B) → ((ts : List L.Token) (v : A) → Spells L p ts v → (n : ℕ) × spells_in L (spells_at L n) p ts v) → ((ts : List L.Token) (v : B) → Spells L q ts v → (n : ℕ) × spells_in L (spells_at L n) q ts v) →
      (ts : List L.Token) (v : A) (o : Option B) → Tail (spells_in L (RuleSpells L) p) closed (spells_in L (RuleSpells L) q) ts v o → (n : ℕ) × Tail (spells_in L (spells_at L n) p) closed (spells_in L (spells_at L n) q) ts v o
  tail_bound p closed q f g ts v None h = f ts v h
  tail_bound p closed q f g ts v (Some w) h =
      let a = f h.0 v h.3 in
      let b = g h.1 w h.5 in
      (a.0 + b.0, (h.0, h.1, h.2, spells_left p a.0 b.0 h.0 v a.1, h.4, spells_right q a.0 b.0 h.1 w b.1))

  pub spells_bound : {A : Type 0} → (p : PartOf L A) (ts : List L.Token) (v : A) → Spells L p ts v → (n : ℕ) × spells_in L (spells_at L n) p ts v
  spells_bound (one cs) ts v h = (zero, h)
  spells_bound (name x) ts v h = h
  spells_bound nothing ts v h = (zero, h)
  spells_bound (seq p q) ts v h =
      let a = spells_bound p h.0 v.0 h.3 in
      let b = spells_bound q h.1 v.1 h.4 in (
        a.0 + b.0,
        (
          h.0,
          h.1,
          h.2,
          spells_along L (spells_at L a.0) (spells_at L (a.0 + b.0)) (λ y us w i. spells_more L a.0 b.0 y us w i) p h.0 v.0 a.1,
          spells_along L (spells_at L b.0) (spells_at L (a.0 + b.0)) (λ y us w i. later_spells a.0 b.0 y us w i) q h.1 v.1 b.1,
        ),
      )
  spells_bound (alt p q) ts v h = elim h [
    | inl i ↦ let a = spells_bound p ts v i in (a.0, inl a.1)
    | inr i ↦ let a = spells_bound q ts v i in (a.0, inr a.1)
  ]
  spells_bound (fork p q) ts v h = elim h [
    | inl i ↦ let a = spells_bound p ts v i in (a.0, inl a.1)
    | inr i ↦ let a = spells_bound q ts v i in (a.0, inr a.1)
  ]
  spells_bound (tailed p closed q) ts v h = tail_bound p closed q (spells_bound p) (spells_bound q) ts v.0 v.1 h
  spells_bound (many p) ts vs h = each_bound p (spells_bound p) ts vs h
  spells_bound (kept p) ts v h = let a = spells_bound p ts v.1 h.1 in (a.0, (h.0, a.1))
  spells_bound (give f p) ts v h = let a = spells_bound p ts h.0 h.2 in (a.0, (h.0, h.1, a.1))

  front_up : {A : Type 0} → (p : PartOf L A) (n m : ℕ) (ts : List L.Token) → front_in L (spells_at L n) (front_at L n) p ts → front_in L (spells_at L (n + m)) (front_at L (n + m)) p ts
  front_up p n m ts h = front_along L (spells_at L n) (spells_at L (n + m)) (λ y us w i. spells_more L n m y us w i) (front_at L n) (front_at L (n + m)) (λ y us i. front_more L n m y us i) p ts h

  front_up_right : {A : Type 0} → (p : PartOf L A) (n m : ℕ) (ts : List L.Token) → front_in L (spells_at L m) (front_at L m) p ts → front_in L (spells_at L (n + m)) (front_at L (n + m)) p ts
  front_up_right p n m ts h = front_along L (spells_at L m) (spells_at L (n + m)) (λ y us w i. later_spells n m y us w i) (front_at L m) (front_at L (n + m)) (λ y us i. later_front n m y us i) p ts h

  pub front_bound : {A : Type 0} → (p : PartOf L A) (ts : List L.Token) → Front L p ts → (n : ℕ) × front_in L (spells_at L n) (front_at L n) p ts
  front_bound (one cs) ts h = (zero, h)
  front_bound (name x) ts h = h
  front_bound nothing ts h = (zero, h)
  front_bound (seq p q) ts h = elim h [
    | inl i ↦ let a = front_bound p ts i in (a.0, inl a.1)
    | inr i ↦
        let a = spells_bound p i.0 i.2 i.4 in
        let b = front_bound q i.1 i.5 in (
          a.0 + b.0,
          inr (
            i.0,
            i.1,
            i.2,
            i.3,
            spells_along L (spells_at L a.0) (spells_at L (a.0 + b.0)) (λ y us w j. spells_more L a.0 b.0 y us w j) p i.0 i.2 a.1,
            front_up_right q a.0 b.0 i.1 b.1,
          ),
        )
  ]
  front_bound (alt p q) ts h = elim h [
    | inl i ↦ let a = front_bound p ts i in (a.0, inl a.1)
    | inr i ↦ let a = front_bound q ts i in (a.0, inr a.1)
  ]
  front_bound (fork p q) ts h = elim h [
    | inl i ↦ let a = front_bound p ts i in (a.0, inl a.1)
    | inr i ↦ let a = front_bound q ts i in (a.0, inr a.1)
  ]
  front_bound (tailed p closed q) ts h = elim h [
    | inl i ↦ let a = front_bound p ts i in (a.0, inl a.1)
    | inr i ↦
        let a = spells_bound p i.0 i.2 i.4 in
        let b = front_bound q i.1 i.6 in
        (a.0 + b.0, inr (i.0, i.1, i.2, i.3, spells_left p a.0 b.0 i.0 i.2 a.1, i.5, front_up_right q a.0 b.0 i.1 b.1))
  ]
  front_bound (many p) ts h =
      let a = each_bound p (spells_bound p) h.0 h.2 h.4 in
      let b = front_bound p h.1 h.5 in (
        a.0 + b.0,
        (
          h.0,
          h.1,
          h.2,
          h.3,
          each_along (spells_in L (spells_at L a.0) p) (spells_in L (spells_at L (a.0 + b.0)) p) (λ us w i. spells_along L (spells_at L a.0) (spells_at L (a.0 + b.0)) (λ y us w i. spells_more L a.0 b.0 y us w i) p us w i) h.0 h.2 a.1,
          front_up_right p a.0 b.0 h.1 b.1,
        ),
      )
  front_bound (kept p) ts h = front_bound p ts h
  front_bound (give f p) ts h = front_bound p ts h

  -- ---- a name is its rule

  pub fold_spells : (x : L.Name) (ts : List L.Token) (v : L.Value x) → Spells L (L.rule x) ts v → RuleSpells L x ts v
  fold_spells x ts v h = let a = spells_bound (L.rule x) ts v h in (suc a.0, a.1)

  pub unfold_spells : (x : L.Name) (ts : List L.Token) (v : L.Value x) → RuleSpells L x ts v → Spells L (L.rule x) ts v
  unfold_spells x ts v h = go h.0 h.1
    where
      go : (n : ℕ) → spells_at L n x ts v → Spells L (L.rule x) ts v
      go zero s = absurd s
      go (suc n) s = spells_along L (spells_at L n) (RuleSpells L) (λ y us w i. (n, i)) (L.rule x) ts v s

  pub fold_front : (x : L.Name) (ts : List L.Token) → Front L (L.rule x) ts → RuleFront L x ts
  fold_front x ts h = let a = front_bound (L.rule x) ts h in (suc a.0, a.1)

  -- ---- the laws

  module _ (C : Claims L) (fit : Fit L C) where
    pub rule_good : (x : L.Name) → Good L C (L.rule x)
    rule_good x = (and_left (is_good L C (L.rule x)) _ (fit.fits_each x), fit.sealed x)

    rule_rest : (x : L.Name) → IsTrue (within (first_of L C (L.rule x)) (C.first x) && (within (more_of L C (L.rule x)) (C.more x) && ((not (empty_of L C (L.rule x)) || C.empty x) && (within (second_of L C (L.rule x)) (C.second x) && (not (alone_of L C (L.rule x)) || C.alone x)))))
    rule_rest x = and_right (is_good L C (L.rule x)) _ (fit.fits_each x)

    rule_first : (x : L.Name) → IsTrue (within (first_of L C (L.rule x)) (C.first x))
    rule_first x = and_left (within (first_of L C (L.rule x)) (C.first x)) _ (rule_rest x)

    rule_after_first : (x : L.Name) → IsTrue (within (more_of L C (L.rule x)) (C.more x) && ((not (empty_of L C (L.rule x)) || C.empty x) && (within (second_of L C (L.rule x)) (C.second x) && (not (alone_of L C (L.rule x)) || C.alone x))))
    rule_after_first x = and_right (within (first_of L C (L.rule x)) (C.first x)) _ (rule_rest x)

    rule_more : (x : L.Name) → IsTrue (within (more_of L C (L.rule x)) (C.more x))
    rule_more x = and_left (within (more_of L C (L.rule x)) (C.more x)) _ (rule_after_first x)

    rule_after_more : (x : L.Name) → IsTrue ((not (empty_of L C (L.rule x)) || C.empty x) && (within (second_of L C (L.rule x)) (C.second x) && (not (alone_of L C (L.rule x)) || C.alone x)))
    rule_after_more x = and_right (within (more_of L C (L.rule x)) (C.more x)) _ (rule_after_first x)

    when : (a b : Bool) → IsTrue (not a || b) → IsTrue a → IsTrue b
    when a b h i = elim (or_cases (not a) b h) [ inl j ↦ absurd (not_both a j i) | inr j ↦ j ]

    rule_empty : (x : L.Name) → IsTrue (empty_of L C (L.rule x)) → IsTrue (C.empty x)
    rule_empty x h = when (empty_of L C (L.rule x)) (C.empty x) (and_left (not (empty_of L C (L.rule x)) || C.empty x) _ (rule_after_more x)) h

    rule_last : (x : L.Name) → IsTrue (within (second_of L C (L.rule x)) (C.second x) && (not (alone_of L C (L.rule x)) || C.alone x))
    rule_last x = and_right (not (empty_of L C (L.rule x)) || C.empty x) _ (rule_after_more x)

    rule_second : (x : L.Name) → IsTrue (within (second_of L C (L.rule x)) (C.second x))
    rule_second x = and_left (within (second_of L C (L.rule x)) (C.second x)) _ (rule_last x)

    rule_alone : (x : L.Name) → IsTrue (alone_of L C (L.rule x)) → IsTrue (C.alone x)
    rule_alone x h = when (alone_of L C (L.rule x)) (C.alone x) (and_right (within (second_of L C (L.rule x)) (C.second x)) _ (rule_last x)) h

    lawful_at : (n : ℕ) → Lawful L C (spells_at L n) (front_at L n)
    lawful_at zero = record {
      nil = λ x. refl;
      first = λ x k r h. absurd (cc);
      empty = λ x v h. absurd h;
      follow = λ x u v k r s f. absurd s;
      whole = λ x u v s. absurd s;
      once = λ x u v w s t. absurd s;
      alone = λ x k v s h. absurd h;
      second = λ x k y r s h. absurd (cc);
    }
    lawful_at (suc n) =
        let laws = lawful_at n in
        record {
          nil = λ x. front_at_nil L (suc n) x;
          first = λ x k r h. has-within (L.class k) (first_of L C (L.rule x)) (C.first x) (rule_first x) (front_first L C (spells_at L n) (front_at L n) laws (L.rule x) (rule_good x) k r h);
          empty = λ x v h. rule_empty x (spell_empty L C (spells_at L n) (front_at L n) laws (L.rule x) v h);
          follow = λ x u v k r s f.
              let m = spell_follows L C (spells_at L n) (front_at L n) laws (L.rule x) (rule_good x) u v k r s f in
              (has-within (L.class k) (more_of L C (L.rule x)) (C.more x) (rule_more x) (follows_more L C (L.rule x) v (L.class k) m), fit.after x v (L.class k) m);
          whole = λ x u v s. spell_front L C (spells_at L n) (front_at L n) laws (L.rule x) u v s;
          once = λ x u v w s t. spell_once L C (spells_at L n) (front_at L n) laws (L.rule x) (rule_good x) u v w s t;
          alone = λ x k v s h. rule_alone x (spell_alone L C (spells_at L n) (front_at L n) laws (L.rule x) (rule_good x) k v s h);
          second = λ x k y r s h. has-within (L.class y) (second_of L C (L.rule x)) (C.second x) (rule_second x) (front_second L C (spells_at L n) (front_at L n) laws (L.rule x) (rule_good x) k y r s h);
        }

    pub lawful : Lawful L C (RuleSpells L) (RuleFront L)
    lawful = record {
      nil = λ x. (zero, refl);
      first = λ x k r h. (lawful_at h.0).first x k r h.1;
      empty = λ x v h. (lawful_at h.0).empty x v h.1;
      follow = λ x u v k r s f. (lawful_at (s.0 + f.0)).follow x u v k r (spells_more L s.0 f.0 x u v s.1) (later_front s.0 f.0 x (u ++ k ∷ r) f.1);
      whole = λ x u v s. (s.0, (lawful_at s.0).whole x u v s.1);
      once = λ x u v w s t. (lawful_at (s.0 + t.0)).once x u v w (spells_more L s.0 t.0 x u v s.1) (later_spells s.0 t.0 x u w t.1);
      alone = λ x k v s h. (lawful_at h.0).alone x k v s h.1;
      second = λ x k y r s h. (lawful_at h.0).second x k y r s h.1;
    }
