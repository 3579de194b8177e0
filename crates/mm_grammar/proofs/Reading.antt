-- How the reading of a part follows from the readings of its parts.
use Rattle.std.proofs.Common.{◌≡◌, ℕ, zero, suc, ◌+◌, ◌<◌, ◌≤◌, not, IsTrue, List, [], ◌∷◌, ◌++◌, ◌⊎◌, inl, inr, refl, ap, sym, ◌∙◌, arith, subst, append_assoc, length}
use Rattle.std.proofs.lemmas.List.{append-nil, length-append, append_cancel_right}
use Rattle.mm_grammar.specs.Grammar.{one, name, nothing, seq, alt, many, kept, give, Language, PartOf, Each, front_at, RuleSpells, RuleFront, Spells, Front, Begins, Avoids, Stuck, Reads, Fails, has}
use Rattle.mm_grammar.specs.Ahead.{Claims, disjoint, first_of, more_of, empty_of, Good, Fit}
use Rattle.mm_grammar.proofs.Lists.{not_both, apart, equal, later, earlier, cuts}
use Rattle.mm_grammar.proofs.Deep.{front_along}
use Rattle.mm_grammar.proofs.Laws.{Lawful, front_first, front_nil, spell_empty, spell_front, lead_each, lead_many, follows_more, good_left, good_right, good_apart, alt_left, alt_right, alt_apart, many_part, many_full, many_apart}
use Rattle.mm_grammar.proofs.Follow.{spell_follows, spell_once}
use Rattle.mm_grammar.proofs.Closed.{lawful, fold_spells, unfold_spells, fold_front}

-- the first token of a list with k in it doesn't depend on what follows k
pub starts : {T : Type 0} → (b : List T) (k : T) (r s : List T) (y : T) (z : List T) → b ++ k ∷ r ≡ y ∷ z → (x : List T) × (b ++ k ∷ s ≡ y ∷ x)
starts [] k r s y z e = let same : k ≡ y = cc in (s, ap (λ w. w ∷ s) same)
starts (w ∷ b) k r s y z e = let same : w ≡ y = cc in (b ++ k ∷ s, ap (λ w. w ∷ (b ++ k ∷ s)) same)

pub split_head : {T : Type 0} → (b : List T) (k : T) (r : List T) → (y : T) × (z : List T) × (b ++ k ∷ r ≡ y ∷ z)
split_head [] k r = (k, r, refl)
split_head (w ∷ b) k r = (w, b ++ k ∷ r, refl)

module _ (L : Language) (C : Claims L) (fit : Fit L C) where
  laws : Lawful L C (RuleSpells L) (RuleFront L)
  laws = lawful L C fit

  leads : {A : Type 0} → (p : PartOf L A) → Good L C p → (k : L.Token) (r : List L.Token) → Front L p (k ∷ r) → IsTrue (has (L.class k) (first_of L C p))
  leads p g k r h = front_first L C (RuleSpells L) (RuleFront L) laws p g k r h

  whole : {A : Type 0} → (p : PartOf L A) (u : List L.Token) (v : A) → Spells L p u v → Front L p u
  whole p u v s = spell_front L C (RuleSpells L) (RuleFront L) laws p u v s

  follows : {A : Type 0} → (p : PartOf L A) → Good L C p → (u : List L.Token) (v : A) (k : L.Token) (r : List L.Token) → Spells L p u v → Front L p (u ++ k ∷ r) → IsTrue (has (L.class k) (more_of L C p))
  follows p g u v k r s f = follows_more L C p v (L.class k) (spell_follows L C (RuleSpells L) (RuleFront L) laws p g u v k r s f)

  pub one_value : {A : Type 0} → (p : PartOf L A) → Good L C p → (u : List L.Token) (v w : A) → Spells L p u v → Spells L p u w → v ≡ w
  one_value p g u v w s t = spell_once L C (RuleSpells L) (RuleFront L) laws p g u v w s t

  -- ---- one token

  pub one_ok : (cs : List ℕ) (t : L.Token) (r : List L.Token) → IsTrue (has (L.class t) cs) → Reads L (one cs) (t ∷ r) t r
  one_ok cs t r h = record {
    used = t ∷ [];
    cut = refl;
    spelled = (refl, h);
    stuck = λ k s tail e f. elim f [ inl i ↦ absurd (cc) | inr i ↦ absurd (let j = i.1 in cc) ];
  }

  pub one_fail : (cs : List ℕ) (ts : List L.Token) → Avoids L cs ts → Fails L (one cs) ts ts
  one_fail cs ts h = record {
    used = [];
    cut = refl;
    front = inl refl;
    not_spelled = λ v s. absurd (let e = s.0 in cc);
    stuck = λ k s tail e f. elim f [ inl i ↦ absurd (cc) | inr i ↦ (let j = i.1 in let same : i.0 ≡ k = cc in h k s e (subst (λ w. IsTrue (has (L.class w) cs)) same i.2)) ];
  }

  -- ---- one part and then another

  -- A text of p that ends where no longer front of p goes on is the one text of p there.
  agree : {A B : Type 0} → (p : PartOf L A) (q : PartOf L B) → Good L C p → IsTrue (disjoint (more_of L C p) (first_of L C q)) →
      (u rest : List L.Token) → Front L p u → Stuck L p u rest → (a b e : List L.Token) (x : A) → Spells L p a x →
      ((y : L.Token) (z : List L.Token) → b ≡ y ∷ z → IsTrue (has (L.class y) (first_of L C q))) →
      ((y : L.Token) (z : List L.Token) → e ≡ y ∷ z → (r : List L.Token) × (rest ≡ y ∷ r)) →
      a ++ b ≡ u ++ e → (a ≡ u) × (b ≡ e)
  agree p q g d u rest f stuck a b e x s lead start h = elim (cuts a b u e h) [
    | equal i j ↦ (i, j)
    | later y z i j ↦
        let r = start y (z ++ b) j in
        absurd (stuck y r.0 z r.1 (subst (λ w. Front L p w) i (whole p a x s)))
    | earlier y z i j ↦
        absurd (apart (L.class y) (more_of L C p) (first_of L C q) d (follows p g a x y z s (subst (λ w. Front L p w) i f)) (lead y (z ++ e) j))
  ]

  seq_stuck : {A B : Type 0} → (p : PartOf L A) (q : PartOf L B) → Good L C (seq p q) →
      (u1 r1 u2 r2 : List L.Token) → Front L p u1 → Stuck L p u1 r1 → r1 ≡ u2 ++ r2 → Stuck L q u2 r2 → Stuck L (seq p q) (u1 ++ u2) r2
  seq_stuck p q g u1 r1 u2 r2 f stuck1 cut stuck2 k r tail e h =
      let group = append_assoc u1 u2 (k ∷ tail) in
      let rest : r1 ≡ u2 ++ k ∷ r = cut ∙ ap (λ w. u2 ++ w) e in
      elim h [
        | inl i ↦
            let head = split_head u2 k tail in
            let same = starts u2 k tail r head.0 head.1 head.2 in
            stuck1 head.0 same.0 head.1 (rest ∙ same.1) (subst (λ w. Front L p w) (group ∙ ap (λ w. u1 ++ w) head.2) i)
        | inr i ↦
            let one = agree p q (good_left L C p q g) (good_apart L C p q g) u1 r1 f stuck1 i.0 i.1 (u2 ++ k ∷ tail) i.2 i.4
            (λ y z j. leads q (good_right L C p q g) y z (subst (λ w. Front L q w) j i.5))
            (λ y z j. let same = starts u2 k tail r y z j in (same.0, rest ∙ same.1))
            (sym i.3 ∙ group) in
            stuck2 k r tail e (subst (λ w. Front L q w) one.1 i.5)
      ]

  pub seq_ok : {A B : Type 0} → (p : PartOf L A) (q : PartOf L B) → Good L C (seq p q) → (ts r1 r2 : List L.Token) (v : A) (w : B) →
      Reads L p ts v r1 → Reads L q r1 w r2 → Reads L (seq p q) ts (v, w) r2
  seq_ok p q g ts r1 r2 v w a b = record {
    used = a.used ++ b.used;
    cut = a.cut ∙ (ap (λ x. a.used ++ x) b.cut ∙ sym (append_assoc a.used b.used r2));
    spelled = (a.used, b.used, refl, a.spelled, b.spelled);
    stuck = seq_stuck p q g a.used r1 b.used r2 (whole p a.used v a.spelled) a.stuck b.cut b.stuck;
  }

  pub seq_fail_second : {A B : Type 0} → (p : PartOf L A) (q : PartOf L B) → Good L C (seq p q) → (ts r1 r2 : List L.Token) (v : A) →
      Reads L p ts v r1 → Fails L q r1 r2 → Fails L (seq p q) ts r2
  seq_fail_second p q g ts r1 r2 v a b = record {
    used = a.used ++ b.used;
    cut = a.cut ∙ (ap (λ x. a.used ++ x) b.cut ∙ sym (append_assoc a.used b.used r2));
    front = inr (a.used, b.used, v, refl, a.spelled, b.front);
    not_spelled = λ vw s.
        let one = agree p q (good_left L C p q g) (good_apart L C p q g) a.used r1 (whole p a.used v a.spelled) a.stuck s.0 s.1 b.used vw.0 s.3
        (λ y z j. leads q (good_right L C p q g) y z (subst (λ w. Front L q w) j (whole q s.1 vw.1 s.4)))
        (λ y z j. (z ++ r2, b.cut ∙ ap (λ w. w ++ r2) j))
        (sym s.2) in
        b.not_spelled vw.1 (subst (λ w. Spells L q w vw.1) one.1 s.4);
    stuck = seq_stuck p q g a.used r1 b.used r2 (whole p a.used v a.spelled) a.stuck b.cut b.stuck;
  }

  -- what is no text of p, and is stuck, is no text of p with more after it
  none_longer : {A B : Type 0} → (p : PartOf L A) (q : PartOf L B) → Good L C p → IsTrue (disjoint (more_of L C p) (first_of L C q)) →
      (u rest : List L.Token) → Front L p u → ((v : A) → Spells L p u v → ⊥) → Stuck L p u rest → (a b e : List L.Token) (x : A) → Spells L p a x →
      ((y : L.Token) (z : List L.Token) → b ≡ y ∷ z → IsTrue (has (L.class y) (first_of L C q))) →
      ((y : L.Token) (z : List L.Token) → e ≡ y ∷ z → (r : List L.Token) × (rest ≡ y ∷ r)) →
      a ++ b ≡ u ++ e → ⊥
  none_longer p q g d u rest f none stuck a b e x s lead start h =
      let one = agree p q g d u rest f stuck a b e x s lead start h in
      none x (subst (λ w. Spells L p w x) one.0 s)

  pub seq_fail_first : {A B : Type 0} → (p : PartOf L A) (q : PartOf L B) → Good L C (seq p q) → (ts r : List L.Token) →
      Fails L p ts r → Fails L (seq p q) ts r
  seq_fail_first p q g ts r a = record {
    used = a.used;
    cut = a.cut;
    front = inl a.front;
    not_spelled = λ vw s.
        none_longer p q gp d a.used r a.front a.not_spelled a.stuck s.0 s.1 [] vw.0 s.3
        (λ y z j. leads q gq y z (subst (λ w. Front L q w) j (whole q s.1 vw.1 s.4)))
        (λ y z j. absurd (cc))
        (sym s.2 ∙ sym (append-nil a.used));
    stuck = λ k s tail e h. elim h [
      | inl i ↦ a.stuck k s tail e i
      | inr i ↦ none_longer p q gp d a.used r a.front a.not_spelled a.stuck i.0 i.1 (k ∷ tail) i.2 i.4
          (λ y z j. leads q gq y z (subst (λ w. Front L q w) j i.5))
          (λ y z j. let same : k ≡ y = cc in (s, e ∙ ap (λ w. w ∷ s) same))
          (sym i.3)
    ];
  }
    where
      gp : Good L C p
      gp = good_left L C p q g

      gq : Good L C q
      gq = good_right L C p q g

      d : IsTrue (disjoint (more_of L C p) (first_of L C q))
      d = good_apart L C p q g

  -- ---- one part or another

  -- the first token of what goes on from used is the first of the tokens
  head_stays : (used rest ts : List L.Token) (k : L.Token) (r tail : List L.Token) → ts ≡ used ++ rest → rest ≡ k ∷ r → (y : L.Token) × (z : List L.Token) × (x : List L.Token) × (ts ≡ y ∷ z) × (used ++ k ∷ tail ≡ y ∷ x)
  head_stays used rest ts k r tail cut e =
      let head = split_head used k r in
      let same = starts used k r tail head.0 head.1 head.2 in
      (head.0, head.1, same.0, cut ∙ (ap (λ w. used ++ w) e ∙ head.2), same.1)

  avoided : {A : Type 0} → (p : PartOf L A) → Good L C p → (used rest ts : List L.Token) → ts ≡ used ++ rest → Avoids L (first_of L C p) ts → Stuck L p used rest
  avoided p g used rest ts cut av k r tail e f =
      let h = head_stays used rest ts k r tail cut e in
      av h.0 h.1 h.3 (leads p g h.0 h.2 (subst (λ w. Front L p w) h.4 f))

  begins_avoids : (a b : List ℕ) (ts : List L.Token) → IsTrue (disjoint a b) → Begins L a ts → Avoids L b ts
  begins_avoids a b ts d h k r e f =
      let e' = h.2 in
      let same : h.0 ≡ k = cc in
      apart (L.class k) a b d (subst (λ w. IsTrue (has (L.class w) a)) same h.3) f

  not_text : {A : Type 0} → (p : PartOf L A) → Good L C p → IsTrue (not (empty_of L C p)) → (used rest ts : List L.Token) → ts ≡ used ++ rest → Avoids L (first_of L C p) ts → (v : A) → Spells L p used v → ⊥
  not_text p g n [] rest ts cut av v s = not_both (empty_of L C p) n (spell_empty L C (RuleSpells L) (RuleFront L) laws p v s)
  not_text p g n (x ∷ used) rest ts cut av v s = av x (used ++ rest) cut (leads p g x used (whole p (x ∷ used) v s))

  not_text_after : {A : Type 0} → (p : PartOf L A) → Good L C p → (used rest ts : List L.Token) → length rest < length ts → ts ≡ used ++ rest → Avoids L (first_of L C p) ts → (v : A) → Spells L p used v → ⊥
  not_text_after p g [] rest ts n cut av v s = let e : length ts ≡ length rest = ap length cut in absurd (omega arith)
  not_text_after p g (x ∷ used) rest ts n cut av v s = av x (used ++ rest) cut (leads p g x used (whole p (x ∷ used) v s))

  pub alt_first_ok : {A : Type 0} → (p q : PartOf L A) → Good L C (alt p q) → (ts r : List L.Token) (v : A) → Begins L (first_of L C p) ts → Reads L p ts v r → Reads L (alt p q) ts v r
  alt_first_ok p q g ts r v b a =
      let av = begins_avoids (first_of L C p) (first_of L C q) ts (alt_apart L C p q g) b in
      record {
        used = a.used;
        cut = a.cut;
        spelled = inl a.spelled;
        stuck = λ k s tail e f. elim f [ inl i ↦ a.stuck k s tail e i | inr i ↦ avoided q (alt_right L C p q g) a.used r ts a.cut av k s tail e i ];
      }

  pub alt_first_fail : {A : Type 0} → (p q : PartOf L A) → Good L C (alt p q) → (ts r : List L.Token) → Begins L (first_of L C p) ts → IsTrue (not (empty_of L C q)) ⊎ (length r < length ts) → Fails L p ts r → Fails L (alt p q) ts r
  alt_first_fail p q g ts r b n a =
      let av = begins_avoids (first_of L C p) (first_of L C q) ts (alt_apart L C p q g) b in
      let gq = alt_right L C p q g in
      record {
        used = a.used;
        cut = a.cut;
        front = inl a.front;
        not_spelled = λ v s. elim s [ inl i ↦ a.not_spelled v i | inr i ↦ elim n [ inl m ↦ not_text q gq m a.used r ts a.cut av v i | inr m ↦ not_text_after q gq a.used r ts m a.cut av v i ] ];
        stuck = λ k s tail e f. elim f [ inl i ↦ a.stuck k s tail e i | inr i ↦ avoided q gq a.used r ts a.cut av k s tail e i ];
      }

  pub alt_second_ok : {A : Type 0} → (p q : PartOf L A) → Good L C (alt p q) → (ts r : List L.Token) (v : A) → Avoids L (first_of L C p) ts → Reads L q ts v r → Reads L (alt p q) ts v r
  alt_second_ok p q g ts r v av a = record {
    used = a.used;
    cut = a.cut;
    spelled = inr a.spelled;
    stuck = λ k s tail e f. elim f [ inl i ↦ avoided p (alt_left L C p q g) a.used r ts a.cut av k s tail e i | inr i ↦ a.stuck k s tail e i ];
  }

  pub alt_second_fail : {A : Type 0} → (p q : PartOf L A) → Good L C (alt p q) → (ts r : List L.Token) → Avoids L (first_of L C p) ts → IsTrue (not (empty_of L C p)) → Fails L q ts r → Fails L (alt p q) ts r
  alt_second_fail p q g ts r av n a = record {
    used = a.used;
    cut = a.cut;
    front = inr a.front;
    not_spelled = λ v s. elim s [ inl i ↦ not_text p (alt_left L C p q g) n a.used r ts a.cut av v i | inr i ↦ a.not_spelled v i ];
    stuck = λ k s tail e f. elim f [ inl i ↦ avoided p (alt_left L C p q g) a.used r ts a.cut av k s tail e i | inr i ↦ a.stuck k s tail e i ];
  }

  pub nothing_ok : (ts : List L.Token) (v : Unit {0}) → Reads L nothing ts v ts
  nothing_ok ts v = record { used = []; cut = refl; spelled = refl; stuck = λ k s tail e f. absurd (cc) }

  -- ---- a part any number of times

  pub many_none : {A : Type 0} → (p : PartOf L A) → Good L C (many p) → (ts : List L.Token) → Avoids L (first_of L C p) ts → Reads L (many p) ts [] ts
  many_none p g ts av = record {
    used = [];
    cut = refl;
    spelled = refl;
    stuck = avoided (many p) g [] ts ts refl av;
  }

  many_stuck : {A : Type 0} → (p : PartOf L A) → Good L C (many p) → (u1 r1 u2 r2 : List L.Token) → Front L p u1 → Stuck L p u1 r1 → r1 ≡ u2 ++ r2 → Stuck L (many p) u2 r2 → Stuck L (many p) (u1 ++ u2) r2
  many_stuck {A} p g u1 r1 u2 r2 f stuck1 cut stuck2 k r tail e h = go h.0 h.1 h.2 h.3 h.4 h.5
    where
      group : (u1 ++ u2) ++ k ∷ tail ≡ u1 ++ (u2 ++ k ∷ tail)
      group = append_assoc u1 u2 (k ∷ tail)

      rest : r1 ≡ u2 ++ k ∷ r
      rest = cut ∙ ap (λ w. u2 ++ w) e

      go : (a b : List L.Token) (ws : List A) → (u1 ++ u2) ++ k ∷ tail ≡ a ++ b → Each (Spells L p) a ws → Front L p b → ⊥
      go a b [] i t j =
          let head = split_head u2 k tail in
          let same = starts u2 k tail r head.0 head.1 head.2 in
          let only : (u1 ++ u2) ++ k ∷ tail ≡ b = subst (λ w. (u1 ++ u2) ++ k ∷ tail ≡ w ++ b) t i in
          stuck1 head.0 same.0 head.1 (rest ∙ same.1) (subst (λ w. Front L p w) (sym only ∙ (group ∙ ap (λ w. u1 ++ w) head.2)) j)
      go a b (w ∷ ws) i t j =
          let one = agree p p (many_part L C p g) (many_apart L C p g) u1 r1 f stuck1 t.0 (t.1 ++ b) (u2 ++ k ∷ tail) w t.3
          (λ y z l. lead_many L C (RuleSpells L) (RuleFront L) laws p (many_full L C p g) (leads p (many_part L C p g)) y z t.1 b ws (sym l) t.4 j)
          (λ y z l. let same = starts u2 k tail r y z l in (same.0, rest ∙ same.1))
          (sym (append_assoc t.0 t.1 b) ∙ (ap (λ w. w ++ b) (sym t.2) ∙ (sym i ∙ group))) in
          stuck2 k r tail e (t.1, b, ws, sym one.1, t.4, j)

  pub many_more : {A : Type 0} → (p : PartOf L A) → Good L C (many p) → (ts r1 r2 : List L.Token) (v : A) (vs : List A) → Reads L p ts v r1 → Reads L (many p) r1 vs r2 → Reads L (many p) ts (v ∷ vs) r2
  many_more p g ts r1 r2 v vs a b = record {
    used = a.used ++ b.used;
    cut = a.cut ∙ (ap (λ x. a.used ++ x) b.cut ∙ sym (append_assoc a.used b.used r2));
    spelled = (a.used, b.used, refl, a.spelled, b.spelled);
    stuck = many_stuck p g a.used r1 b.used r2 (whole p a.used v a.spelled) a.stuck b.cut b.stuck;
  }

  pub many_fail_later : {A : Type 0} → (p : PartOf L A) → Good L C (many p) → (ts r1 r2 : List L.Token) (v : A) → Reads L p ts v r1 → Fails L (many p) r1 r2 → Fails L (many p) ts r2
  many_fail_later {A} p g ts r1 r2 v a b =
      let f = b.front in
      record {
        used = a.used ++ b.used;
        cut = a.cut ∙ (ap (λ x. a.used ++ x) b.cut ∙ sym (append_assoc a.used b.used r2));
        front = (a.used ++ f.0, f.1, v ∷ f.2, ap (λ w. a.used ++ w) f.3 ∙ sym (append_assoc a.used f.0 f.1), (a.used, f.0, refl, a.spelled, f.4), f.5);
        not_spelled = go;
        stuck = many_stuck p g a.used r1 b.used r2 (whole p a.used v a.spelled) a.stuck b.cut b.stuck;
      }
    where
      empty_front : (c d : List L.Token) → c ++ d ≡ [] → c ≡ []
      empty_front [] d e = refl
      empty_front (x ∷ c) d e = absurd (cc)

      go : (vs : List A) → Each (Spells L p) (a.used ++ b.used) vs → ⊥
      go [] s = not_both (empty_of L C p) (many_full L C p g) (spell_empty L C (RuleSpells L) (RuleFront L) laws p v (subst (λ w. Spells L p w v) (empty_front a.used b.used s) a.spelled))
      go (w ∷ ws) s =
          let one = agree p p (many_part L C p g) (many_apart L C p g) a.used r1 (whole p a.used v a.spelled) a.stuck s.0 s.1 b.used w s.3
          (λ y z j. lead_each L C (RuleSpells L) (RuleFront L) laws p (many_full L C p g) (leads p (many_part L C p g)) y z ws (subst (λ w. Each (Spells L p) w ws) j s.4))
          (λ y z j. (z ++ r2, b.cut ∙ ap (λ w. w ++ r2) j))
          (sym s.2) in
          b.not_spelled ws (subst (λ w. Each (Spells L p) w ws) one.1 s.4)

  pub many_fail_now : {A : Type 0} → (p : PartOf L A) → Good L C (many p) → (ts r : List L.Token) → length r < length ts → Fails L p ts r → Fails L (many p) ts r
  many_fail_now {A} p g ts r n a = record {
    used = a.used;
    cut = a.cut;
    front = ([], a.used, [], refl, refl, a.front);
    not_spelled = none a.used a.cut refl;
    stuck = λ k s tail e h. on k s tail e h.0 h.1 h.2 h.3 h.4 h.5;
  }
    where
      gp : Good L C p
      gp = many_part L C p g

      d : IsTrue (disjoint (more_of L C p) (first_of L C p))
      d = many_apart L C p g

      none : (u : List L.Token) → ts ≡ u ++ r → u ≡ a.used → (vs : List A) → Each (Spells L p) u vs → ⊥
      none u c same [] s = let e : length ts ≡ length r = ap length (c ∙ ap (λ w. w ++ r) s) in absurd (omega arith)
      none u c same (w ∷ ws) s =
          none_longer p p gp d a.used r a.front a.not_spelled a.stuck s.0 s.1 [] w s.3
          (λ y z j. lead_each L C (RuleSpells L) (RuleFront L) laws p (many_full L C p g) (leads p gp) y z ws (subst (λ w. Each (Spells L p) w ws) j s.4))
          (λ y z j. absurd (cc))
          (sym s.2 ∙ (same ∙ sym (append-nil a.used)))

      on : (k : L.Token) (s tail : List L.Token) → r ≡ k ∷ s → (c b : List L.Token) (ws : List A) → a.used ++ k ∷ tail ≡ c ++ b → Each (Spells L p) c ws → Front L p b → ⊥
      on k s tail e c b [] i t j =
          let only : a.used ++ k ∷ tail ≡ b = subst (λ w. a.used ++ k ∷ tail ≡ w ++ b) t i in
          a.stuck k s tail e (subst (λ w. Front L p w) (sym only) j)
      on k s tail e c b (w ∷ ws) i t j =
          none_longer p p gp d a.used r a.front a.not_spelled a.stuck t.0 (t.1 ++ b) (k ∷ tail) w t.3
          (λ y z l. lead_many L C (RuleSpells L) (RuleFront L) laws p (many_full L C p g) (leads p gp) y z t.1 b ws (sym l) t.4 j)
          (λ y z l. let same : k ≡ y = cc in (s, e ∙ ap (λ w. w ∷ s) same))
          (sym (append_assoc t.0 t.1 b) ∙ (ap (λ w. w ++ b) (sym t.2) ∙ sym i))

  -- ---- values and names

  pub map_ok : {A B : Type 0} → (f : A → B) (p : PartOf L A) (ts r : List L.Token) (v : A) → Reads L p ts v r → Reads L (give f p) ts (f v) r
  map_ok f p ts r v a = record { used = a.used; cut = a.cut; spelled = (v, refl, a.spelled); stuck = a.stuck }

  pub map_fail : {A B : Type 0} → (f : A → B) (p : PartOf L A) (ts r : List L.Token) → Fails L p ts r → Fails L (give f p) ts r
  map_fail f p ts r a = record { used = a.used; cut = a.cut; front = a.front; not_spelled = λ v s. a.not_spelled s.0 s.2; stuck = a.stuck }

  -- with the tokens that were used
  pub kept_ok : {A : Type 0} → (p : PartOf L A) (ts u r : List L.Token) (v : A) → ts ≡ u ++ r → Reads L p ts v r → Reads L (kept p) ts (u, v) r
  kept_ok p ts u r v e a =
      let same : a.used ≡ u = append_cancel_right a.used u r (sym a.cut ∙ e) in
      record { used = a.used; cut = a.cut; spelled = (sym same, a.spelled); stuck = a.stuck }

  pub kept_fail : {A : Type 0} → (p : PartOf L A) (ts r : List L.Token) → Fails L p ts r → Fails L (kept p) ts r
  kept_fail p ts r a = record { used = a.used; cut = a.cut; front = a.front; not_spelled = λ v s. a.not_spelled v.1 s.1; stuck = a.stuck }

  pub unfold_front : (x : L.Name) (ts : List L.Token) → RuleFront L x ts → Front L (L.rule x) ts
  unfold_front x ts h = go h.0 h.1
    where
      go : (n : ℕ) → front_at L n x ts → Front L (L.rule x) ts
      go zero e = subst (λ w. Front L (L.rule x) w) (sym e) (front_nil L C (RuleSpells L) (RuleFront L) laws (L.rule x))
      go (suc n) f = front_along L _ _ (λ y us w i. (n, i)) _ _ (λ y us i. (n, i)) (L.rule x) ts f

  pub name_ok : (x : L.Name) (ts r : List L.Token) (v : L.Value x) → Reads L (L.rule x) ts v r → Reads L (name x) ts v r
  name_ok x ts r v a = record { used = a.used; cut = a.cut; spelled = fold_spells L x a.used v a.spelled; stuck = λ k s tail e f. a.stuck k s tail e (unfold_front x (a.used ++ k ∷ tail) f) }

  pub name_fail : (x : L.Name) (ts r : List L.Token) → Fails L (L.rule x) ts r → Fails L (name x) ts r
  name_fail x ts r a = record { used = a.used; cut = a.cut; front = fold_front L x a.used a.front; not_spelled = λ v s. a.not_spelled v (unfold_spells L x a.used v s); stuck = λ k s tail e f. a.stuck k s tail e (unfold_front x (a.used ++ k ∷ tail) f) }

  -- ---- what follows the reading is a part of the tokens

  pub reads_shorter : {A : Type 0} → (p : PartOf L A) (ts r : List L.Token) (v : A) → Reads L p ts v r → length r ≤ length ts
  reads_shorter p ts r v a = let e : length ts ≡ length a.used + length r = ap length a.cut ∙ length-append a.used r in omega arith
