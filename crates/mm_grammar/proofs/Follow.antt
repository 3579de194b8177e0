-- What can follow a whole text, and that a text has one value.
use Rattle.std.proofs.Common.{◌≡◌, ℕ, Bool, not, IsTrue, List, [], ◌∷◌, ◌++◌, Option, Some, None, inl, inr, refl, ap, sym, ◌∙◌, subst, append_assoc}
use Rattle.mm_grammar.specs.Grammar.{one, name, nothing, seq, alt, fork, many, tailed, kept, give, Language, PartOf, Each, Tail, spells_in, front_in, has}
use Rattle.mm_grammar.specs.Ahead.{Claims, disjoint, first_of, more_of, empty_of, alone_of, second_of, Good, Follows, AtTail}
use Rattle.mm_grammar.proofs.Lists.{not_both, apart, has-meet, equal, later, earlier, cuts}
use Rattle.mm_grammar.proofs.Laws.{Lawful, good_left, good_right, good_apart, alt_left, alt_right, alt_apart, alt_one_empty, many_part, many_full, many_apart, fork_is, tailed_is, follows_more, nil_left, head_of, pair_eq, spell_front, spell_empty, front_first, lead_each, lead_many, spell_alone, front_second}

module _ (L : Language) (C : Claims L) (R : (x : L.Name) → List L.Token → L.Value x → Type 0) (F : (x : L.Name) → List L.Token → Type 0) (laws : Lawful L C R F) where
  Spelled : {A : Type 0} → PartOf L A → List L.Token → A → Type 0
  Spelled p u v = spells_in L R p u v

  first : {A : Type 0} → (p : PartOf L A) → Good L C p → (k : L.Token) (r : List L.Token) → front_in L R F p (k ∷ r) → IsTrue (has (L.class k) (first_of L C p))
  first p g k r h = front_first L C R F laws p g k r h

  -- a text of p that a longer front of p goes on from with a first token of q
  clash : {A B : Type 0} → (p : PartOf L A) (q : PartOf L B) → IsTrue (disjoint (more_of L C p) (first_of L C q)) → (v : A) (k : L.Token) →
      Follows L C p v (L.class k) → IsTrue (has (L.class k) (first_of L C q)) → ⊥
  clash p q d v k m f = apart (L.class k) (more_of L C p) (first_of L C q) d (follows_more L C p v (L.class k) m) f

  -- q's text b, then k: its first token is y, and y may follow v within p
  follow_or_clash : {A B : Type 0} → (p : PartOf L A) (q : PartOf L B) → IsTrue (disjoint (more_of L C p) (first_of L C q)) → Good L C q → (v : A) →
      (b : List L.Token) (w : B) (k : L.Token) (r : List L.Token) (y : L.Token) (e : List L.Token) → spells_in L R q b w → b ++ k ∷ r ≡ y ∷ e → Follows L C p v (L.class y) →
      IsTrue (empty_of L C q) × Follows L C p v (L.class k)
  follow_or_clash p q d g v [] w k r y e s h m = let same : y ≡ k = cc in (spell_empty L C R F laws q w s, subst (λ z. Follows L C p v (L.class z)) same m)
  follow_or_clash p q d g v (z ∷ b) w k r y e s h m =
      let same : y ≡ z = cc in
      absurd (clash p q d v z (subst (λ z. Follows L C p v (L.class z)) same m) (first q g z b (spell_front L C R F laws q (z ∷ b) w s)))

  follow_each : {A : Type 0} → (p : PartOf L A) → Good L C (many p) → (v : A) →
      (b : List L.Token) (ws : List A) (k : L.Token) (r : List L.Token) (y : L.Token) (e : List L.Token) → Each (spells_in L R p) b ws → b ++ k ∷ r ≡ y ∷ e → Follows L C p v (L.class y) →
      Follows L C p v (L.class k)
  follow_each p g v [] ws k r y e s h m = let same : y ≡ k = cc in subst (λ z. Follows L C p v (L.class z)) same m
  follow_each p g v (z ∷ b) ws k r y e s h m =
      let same : y ≡ z = cc in
      absurd (clash p p (many_apart L C p g) v z (subst (λ z. Follows L C p v (L.class z)) same m) (lead_each L C R F laws p (many_full L C p g) (first p (many_part L C p g)) z b ws s))

  follow_later : {A : Type 0} → (p : PartOf L A) (v : A) (vs : List A) (k : ℕ) → Follows L C (many p) vs k → Follows L C (many p) (v ∷ vs) k
  follow_later p v vs k h = elim h [ inl i ↦ inl (inr i) | inr i ↦ inr i ]

  follow_many : {A : Type 0} → (p : PartOf L A) → Good L C (many p) →
      ((u : List L.Token) (v : A) (k : L.Token) (r : List L.Token) → spells_in L R p u v → front_in L R F p (u ++ k ∷ r) → Follows L C p v (L.class k)) →
      (k : L.Token) (r u : List L.Token) (vs : List A) → Each (spells_in L R p) u vs → (a b : List L.Token) (ws : List A) → u ++ k ∷ r ≡ a ++ b → Each (spells_in L R p) a ws → front_in L R F p b → Follows L C (many p) vs (L.class k)
  follow_many p g ih k r u [] s a b ws e t f =
      let e' : k ∷ r ≡ a ++ b = subst (λ w. w ++ k ∷ r ≡ a ++ b) s e in
      inr (lead_many L C R F laws p (many_full L C p g) (first p (many_part L C p g)) k r a b ws e' t f)
  follow_many p g ih k r u (v ∷ vs) s a b [] e t f =
      let u1 = s.0 in
      let u2 = s.1 in
      let head = head_of u2 k r in
      let whole : u ++ k ∷ r ≡ u1 ++ (u2 ++ k ∷ r) = ap (λ w. w ++ k ∷ r) s.2 ∙ append_assoc u1 u2 (k ∷ r) in
      let only : u ++ k ∷ r ≡ b = subst (λ w. u ++ k ∷ r ≡ w ++ b) t e in
      let m = ih u1 v head.0 head.1 s.3 (subst (λ w. front_in L R F p w) (sym only ∙ (whole ∙ ap (λ w. u1 ++ w) head.2)) f) in
      inl (inl (follow_each p g v u2 vs k r head.0 head.1 s.4 head.2 m))
  follow_many p g ih k r u (v ∷ vs) s a b (w ∷ ws) e t f =
      let u1 = s.0 in
      let u2 = s.1 in
      let a1 = t.0 in
      let a2 = t.1 in
      let whole : u ++ k ∷ r ≡ u1 ++ (u2 ++ k ∷ r) = ap (λ w. w ++ k ∷ r) s.2 ∙ append_assoc u1 u2 (k ∷ r) in
      let other : a ++ b ≡ a1 ++ (a2 ++ b) = ap (λ w. w ++ b) t.2 ∙ append_assoc a1 a2 b in
      elim (cuts u1 (u2 ++ k ∷ r) a1 (a2 ++ b) (sym whole ∙ (e ∙ other))) [
        | equal i j ↦ follow_later p v vs (L.class k) (follow_many p g ih k r u2 vs s.4 a2 b ws j t.4 f)
        | later y z i j ↦
            let m = ih a1 w y z t.3 (subst (λ x. front_in L R F p x) i (spell_front L C R F laws p u1 v s.3)) in
            absurd (clash p p (many_apart L C p g) w y m (lead_many L C R F laws p (many_full L C p g) (first p (many_part L C p g)) y (z ++ (u2 ++ k ∷ r)) a2 b ws (sym j) t.4 f))
        | earlier y z i j ↦
            let m = ih u1 v y z s.3 (subst (λ x. front_in L R F p x) i (spell_front L C R F laws p a1 w t.3)) in
            inl (inl (follow_each p g v u2 vs k r y (z ++ (a2 ++ b)) s.4 j m))
      ]

  -- a text of the one and a front of the other that begins with it
  fork_clash : {A : Type 0} → (p q : PartOf L A) → Good L C (fork p q) → (u : List L.Token) (v : A) (k : L.Token) (r : List L.Token) → spells_in L R p u v → front_in L R F q (u ++ k ∷ r) → ⊥
  fork_clash p q g [] v k r s f = not_both (empty_of L C p) (fork_is L C p q g).full.0 (spell_empty L C R F laws p v s)
  fork_clash p q g (x ∷ []) v k r s f =
      let is = fork_is L C p q g in
      let shared = has-meet (L.class x) (first_of L C p) (first_of L C q) C.shared is.meet (first p is.left x [] (spell_front L C R F laws p (x ∷ []) v s)) (first q is.right x (k ∷ r) f) in
      not_both (alone_of L C p) is.longer.0 (spell_alone L C R F laws p is.left x v shared s)
  fork_clash p q g (x ∷ y ∷ u) v k r s f =
      let is = fork_is L C p q g in
      let i = spell_front L C R F laws p (x ∷ y ∷ u) v s in
      let shared = has-meet (L.class x) (first_of L C p) (first_of L C q) C.shared is.meet (first p is.left x (y ∷ u) i) (first q is.right x (y ∷ (u ++ k ∷ r)) f) in
      apart (L.class y) (second_of L C p) (second_of L C q) is.apart (front_second L C R F laws p is.left x y u shared i) (front_second L C R F laws q is.right x y (u ++ k ∷ r) shared f)

  fork_clash_back : {A : Type 0} → (p q : PartOf L A) → Good L C (fork p q) → (u : List L.Token) (v : A) (k : L.Token) (r : List L.Token) → spells_in L R q u v → front_in L R F p (u ++ k ∷ r) → ⊥
  fork_clash_back p q g [] v k r s f = not_both (empty_of L C q) (fork_is L C p q g).full.1 (spell_empty L C R F laws q v s)
  fork_clash_back p q g (x ∷ []) v k r s f =
      let is = fork_is L C p q g in
      let shared = has-meet (L.class x) (first_of L C p) (first_of L C q) C.shared is.meet (first p is.left x (k ∷ r) f) (first q is.right x [] (spell_front L C R F laws q (x ∷ []) v s)) in
      not_both (alone_of L C q) is.longer.1 (spell_alone L C R F laws q is.right x v shared s)
  fork_clash_back p q g (x ∷ y ∷ u) v k r s f =
      let is = fork_is L C p q g in
      let i = spell_front L C R F laws q (x ∷ y ∷ u) v s in
      let shared = has-meet (L.class x) (first_of L C p) (first_of L C q) C.shared is.meet (first p is.left x (y ∷ (u ++ k ∷ r)) f) (first q is.right x (y ∷ u) i) in
      apart (L.class y) (second_of L C p) (second_of L C q) is.apart (front_second L C R F laws p is.left x y (u ++ k ∷ r) shared f) (front_second L C R F laws q is.right x y u shared i)

  fork_one : {A : Type 0} → (p q : PartOf L A) → Good L C (fork p q) → (u : List L.Token) (v w : A) → spells_in L R p u v → spells_in L R q u w → ⊥
  fork_one p q g [] v w s t = not_both (empty_of L C p) (fork_is L C p q g).full.0 (spell_empty L C R F laws p v s)
  fork_one p q g (x ∷ []) v w s t =
      let is = fork_is L C p q g in
      let shared = has-meet (L.class x) (first_of L C p) (first_of L C q) C.shared is.meet (first p is.left x [] (spell_front L C R F laws p (x ∷ []) v s)) (first q is.right x [] (spell_front L C R F laws q (x ∷ []) w t)) in
      not_both (alone_of L C p) is.longer.0 (spell_alone L C R F laws p is.left x v shared s)
  fork_one p q g (x ∷ y ∷ u) v w s t =
      let is = fork_is L C p q g in
      let i = spell_front L C R F laws p (x ∷ y ∷ u) v s in
      let j = spell_front L C R F laws q (x ∷ y ∷ u) w t in
      let shared = has-meet (L.class x) (first_of L C p) (first_of L C q) C.shared is.meet (first p is.left x (y ∷ u) i) (first q is.right x (y ∷ u) j) in
      apart (L.class y) (second_of L C p) (second_of L C q) is.apart (front_second L C R F laws p is.left x y u shared i) (front_second L C R F laws q is.right x y u shared j)

  -- the first token of a tail and what follows it
  tail_head : {B : Type 0} → (q : PartOf L B) → Good L C q → IsTrue (not (empty_of L C q)) → (b : List L.Token) (w : B) (k : L.Token) (r : List L.Token) (y : L.Token) (e : List L.Token) → spells_in L R q b w → b ++ k ∷ r ≡ y ∷ e → IsTrue (has (L.class y) (first_of L C q))
  tail_head q g n [] w k r y e s h = absurd (not_both (empty_of L C q) n (spell_empty L C R F laws q w s))
  tail_head q g n (z ∷ b) w k r y e s h =
      let same : z ≡ y = cc in
      subst (λ x. IsTrue (has (L.class x) (first_of L C q))) same (first q g z b (spell_front L C R F laws q (z ∷ b) w s))

  follow_tailed : {A B : Type 0} → (p : PartOf L A) (closed : A → Bool) (q : PartOf L B) → Good L C (tailed p closed q) →
      ((u : List L.Token) (v : A) (k : L.Token) (r : List L.Token) → spells_in L R p u v → front_in L R F p (u ++ k ∷ r) → Follows L C p v (L.class k)) →
      ((u : List L.Token) (v : B) (k : L.Token) (r : List L.Token) → spells_in L R q u v → front_in L R F q (u ++ k ∷ r) → Follows L C q v (L.class k)) →
      (u : List L.Token) (v : A) (o : Option B) (k : L.Token) (r : List L.Token) → Tail (spells_in L R p) closed (spells_in L R q) u v o → front_in L R F (tailed p closed q) (u ++ k ∷ r) →
      AtTail (λ a. Follows L C p a (L.class k)) (IsTrue (has (L.class k) (first_of L C q))) (λ w. Follows L C q w (L.class k)) v o
  follow_tailed p closed q g ih ih' u v None k r s f =
      let is = tailed_is L C p closed q g in
      elim f [
        | inl i ↦ inl (ih u v k r s i)
        | inr i ↦ elim (cuts u (k ∷ r) i.0 i.1 i.3) [
          | equal a b ↦ inr (first q is.right k r (subst (λ w. front_in L R F q w) (sym b) i.6))
          | later y z a b ↦
              absurd (is.sealed i.2 (L.class y) i.5 (ih i.0 i.2 y z i.4 (subst (λ x. front_in L R F p x) a (spell_front L C R F laws p u v s)))
              (first q is.right y (z ++ k ∷ r) (subst (λ w. front_in L R F q w) b i.6)))
          | earlier y z a b ↦
              let same : y ≡ k = cc in
              inl (subst (λ x. Follows L C p v (L.class x)) same (ih u v y z s (subst (λ x. front_in L R F p x) a (spell_front L C R F laws p i.0 i.2 i.4))))
        ]
      ]
  follow_tailed p closed q g ih ih' u v (Some w) k r s f =
      let is = tailed_is L C p closed q g in
      let a1 = s.0 in
      let b1 = s.1 in
      let whole : u ++ k ∷ r ≡ a1 ++ (b1 ++ k ∷ r) = ap (λ x. x ++ k ∷ r) s.2 ∙ append_assoc a1 b1 (k ∷ r) in
      let head = head_of b1 k r in
      elim f [
        | inl i ↦
            absurd (is.sealed v (L.class head.0) s.4 (ih a1 v head.0 head.1 s.3 (subst (λ x. front_in L R F p x) (whole ∙ ap (λ x. a1 ++ x) head.2) i))
            (tail_head q is.right is.full_tail b1 w k r head.0 head.1 s.5 head.2))
        | inr i ↦ elim (cuts a1 (b1 ++ k ∷ r) i.0 i.1 (sym whole ∙ i.3)) [
          | equal a b ↦ ih' b1 w k r s.5 (subst (λ x. front_in L R F q x) (sym b) i.6)
          | later y z a b ↦
              absurd (is.sealed i.2 (L.class y) i.5 (ih i.0 i.2 y z i.4 (subst (λ x. front_in L R F p x) a (spell_front L C R F laws p a1 v s.3)))
              (first q is.right y (z ++ (b1 ++ k ∷ r)) (subst (λ x. front_in L R F q x) b i.6)))
          | earlier y z a b ↦
              absurd (is.sealed v (L.class y) s.4 (ih a1 v y z s.3 (subst (λ x. front_in L R F p x) a (spell_front L C R F laws p i.0 i.2 i.4)))
              (tail_head q is.right is.full_tail b1 w k r y (z ++ i.1) s.5 b))
        ]
      ]

  pub spell_follows : {A : Type 0} → (p : PartOf L A) → Good L C p → (u : List L.Token) (v : A) (k : L.Token) (r : List L.Token) → spells_in L R p u v → front_in L R F p (u ++ k ∷ r) → Follows L C p v (L.class k)
  spell_follows (one cs) g u v k r s f =
      let s0 = s.0 in
      elim f [ inl e ↦ absurd (two e s0) | inr i ↦ absurd (let e = i.1 in let e' : v ∷ k ∷ r ≡ i.0 ∷ [] = subst (λ w. w ++ k ∷ r ≡ i.0 ∷ []) s0 e in cc) ]
    where
      two : u ++ k ∷ r ≡ [] → u ≡ v ∷ [] → ⊥
      two e s0 = let e' : (v ∷ []) ++ k ∷ r ≡ [] = subst (λ w. w ++ k ∷ r ≡ []) s0 e in absurd (cc)
  spell_follows (name x) g u v k r s f = laws.follow x u v k r s f
  spell_follows nothing g u v k r s f = absurd (let e : [] ++ k ∷ r ≡ [] = subst (λ w. w ++ k ∷ r ≡ []) s f in cc)
  spell_follows (seq p q) g u v k r s f =
      let a = s.0 in
      let b = s.1 in
      let gp = good_left L C p q g in
      let gq = good_right L C p q g in
      let d = good_apart L C p q g in
      let whole : u ++ k ∷ r ≡ a ++ (b ++ k ∷ r) = ap (λ w. w ++ k ∷ r) s.2 ∙ append_assoc a b (k ∷ r) in
      let head = head_of b k r in
      elim f [
        | inl i ↦
            let m = spell_follows p gp a v.0 head.0 head.1 s.3 (subst (λ w. front_in L R F p w) (whole ∙ ap (λ w. a ++ w) head.2) i) in
            inr (follow_or_clash p q d gq v.0 b v.1 k r head.0 head.1 s.4 head.2 m)
        | inr i ↦ elim (cuts a (b ++ k ∷ r) i.0 i.1 (sym whole ∙ i.3)) [
          | equal e h ↦ inl (spell_follows q gq b v.1 k r s.4 (subst (λ w. front_in L R F q w) (sym h) i.5))
          | later y e h l ↦
              let m = spell_follows p gp i.0 i.2 y e i.4 (subst (λ w. front_in L R F p w) h (spell_front L C R F laws p a v.0 s.3)) in
              absurd (clash p q d i.2 y m (first q gq y (e ++ (b ++ k ∷ r)) (subst (λ w. front_in L R F q w) l i.5)))
          | earlier y e h l ↦
              let m = spell_follows p gp a v.0 y e s.3 (subst (λ w. front_in L R F p w) h (spell_front L C R F laws p i.0 i.2 i.4)) in
              inr (follow_or_clash p q d gq v.0 b v.1 k r y (e ++ i.1) s.4 l m)
        ]
      ]
  spell_follows (alt p q) g u v k r s f = elim s [
    | inl i ↦ elim f [
      | inl j ↦ inl (inl (spell_follows p (alt_left L C p q g) u v k r i j))
      | inr j ↦ inr (inl (left u i j))
    ]
    | inr i ↦ elim f [
      | inl j ↦ inr (inr (right u i j))
      | inr j ↦ inl (inr (spell_follows q (alt_right L C p q g) u v k r i j))
    ]
  ]
    where
      left : (u : List L.Token) → spells_in L R p u v → front_in L R F q (u ++ k ∷ r) → IsTrue (empty_of L C p) × IsTrue (has (L.class k) (first_of L C q))
      left [] i j = (spell_empty L C R F laws p v i, first q (alt_right L C p q g) k r j)
      left (x ∷ u) i j = absurd (apart (L.class x) (first_of L C p) (first_of L C q) (alt_apart L C p q g) (first p (alt_left L C p q g) x u (spell_front L C R F laws p (x ∷ u) v i)) (first q (alt_right L C p q g) x (u ++ k ∷ r) j))

      right : (u : List L.Token) → spells_in L R q u v → front_in L R F p (u ++ k ∷ r) → IsTrue (empty_of L C q) × IsTrue (has (L.class k) (first_of L C p))
      right [] i j = (spell_empty L C R F laws q v i, first p (alt_left L C p q g) k r j)
      right (x ∷ u) i j = absurd (apart (L.class x) (first_of L C p) (first_of L C q) (alt_apart L C p q g) (first p (alt_left L C p q g) x (u ++ k ∷ r) j) (first q (alt_right L C p q g) x u (spell_front L C R F laws q (x ∷ u) v i)))
  spell_follows (fork p q) g u v k r s f = elim s [
    | inl i ↦ elim f [
      | inl j ↦ inl (spell_follows p (fork_is L C p q g).left u v k r i j)
      | inr j ↦ absurd (fork_clash p q g u v k r i j)
    ]
    | inr i ↦ elim f [
      | inl j ↦ absurd (fork_clash_back p q g u v k r i j)
      | inr j ↦ inr (spell_follows q (fork_is L C p q g).right u v k r i j)
    ]
  ]
  spell_follows (many p) g u vs k r s f = follow_many p g (spell_follows p (many_part L C p g)) k r u vs s f.0 f.1 f.2 f.3 f.4 f.5
  spell_follows (tailed p closed q) g u v k r s f =
      follow_tailed p closed q g (spell_follows p (tailed_is L C p closed q g).left) (spell_follows q (tailed_is L C p closed q g).right) u v.0 v.1 k r s f
  spell_follows (kept p) g u v k r s f = spell_follows p g u v.1 k r s.1 f
  spell_follows (give h p) g u v k r s f = (s.0, s.1, spell_follows p g u s.0 k r s.2 f)

  -- ---- one value

  once_many : {A : Type 0} → (p : PartOf L A) → Good L C (many p) → ((u : List L.Token) (v w : A) → spells_in L R p u v → spells_in L R p u w → v ≡ w) →
      (u : List L.Token) (vs ws : List A) → Each (spells_in L R p) u vs → Each (spells_in L R p) u ws → vs ≡ ws
  once_many p g ih u [] [] s t = refl
  once_many p g ih u [] (w ∷ ws) s t =
      let e : [] ≡ t.0 ++ t.1 = sym s ∙ t.2 in
      absurd (not_both (empty_of L C p) (many_full L C p g) (spell_empty L C R F laws p w (subst (λ x. spells_in L R p x w) (nil_left t.0 t.1 e) t.3)))
  once_many p g ih u (v ∷ vs) [] s t =
      let e : [] ≡ s.0 ++ s.1 = sym t ∙ s.2 in
      absurd (not_both (empty_of L C p) (many_full L C p g) (spell_empty L C R F laws p v (subst (λ x. spells_in L R p x v) (nil_left s.0 s.1 e) s.3)))
  once_many p g ih u (v ∷ vs) (w ∷ ws) s t = elim (cuts s.0 s.1 t.0 t.1 (sym s.2 ∙ t.2)) [
    | equal i j ↦
        let e : v ≡ w = ih s.0 v w s.3 (subst (λ x. spells_in L R p x w) (sym i) t.3) in
        let f : vs ≡ ws = once_many p g ih s.1 vs ws s.4 (subst (λ x. Each (spells_in L R p) x ws) (sym j) t.4) in
        cc
    | later y z i j ↦
        let m = spell_follows p (many_part L C p g) t.0 w y z t.3 (subst (λ x. front_in L R F p x) i (spell_front L C R F laws p s.0 v s.3)) in
        absurd (clash p p (many_apart L C p g) w y m (lead_each L C R F laws p (many_full L C p g) (first p (many_part L C p g)) y (z ++ s.1) ws (subst (λ x. Each (spells_in L R p) x ws) j t.4)))
    | earlier y z i j ↦
        let m = spell_follows p (many_part L C p g) s.0 v y z s.3 (subst (λ x. front_in L R F p x) i (spell_front L C R F laws p t.0 w t.3)) in
        absurd (clash p p (many_apart L C p g) v y m (lead_each L C R F laws p (many_full L C p g) (first p (many_part L C p g)) y (z ++ t.1) vs (subst (λ x. Each (spells_in L R p) x vs) j s.4)))
  ]

  not_two : {A : Type 0} → (p q : PartOf L A) → Good L C (alt p q) → (u : List L.Token) (v w : A) → spells_in L R p u v → spells_in L R q u w → ⊥
  not_two p q g [] v w i j = alt_one_empty L C p q g (spell_empty L C R F laws p v i) (spell_empty L C R F laws q w j)
  not_two p q g (x ∷ u) v w i j = apart (L.class x) (first_of L C p) (first_of L C q) (alt_apart L C p q g) (first p (alt_left L C p q g) x u (spell_front L C R F laws p (x ∷ u) v i)) (first q (alt_right L C p q g) x u (spell_front L C R F laws q (x ∷ u) w j))

  -- a text of p that is also one of p and its tail
  tail_or_none : {A B : Type 0} → (p : PartOf L A) (closed : A → Bool) (q : PartOf L B) → Good L C (tailed p closed q) → (u a b : List L.Token) (v v' : A) (w : B) →
      u ≡ a ++ b → spells_in L R p u v → spells_in L R p a v' → IsTrue (closed v') → spells_in L R q b w → ⊥
  tail_or_none p closed q g u a [] v v' w e s t c i = not_both (empty_of L C q) (tailed_is L C p closed q g).full_tail (spell_empty L C R F laws q w i)
  tail_or_none p closed q g u a (y ∷ b) v v' w e s t c i =
      let is = tailed_is L C p closed q g in
      is.sealed v' (L.class y) c (spell_follows p is.left a v' y b t (spell_front L C R F laws p (a ++ y ∷ b) v (subst (λ x. spells_in L R p x v) e s)))
      (first q is.right y b (spell_front L C R F laws q (y ∷ b) w i))

  once_tailed : {A B : Type 0} → (p : PartOf L A) (closed : A → Bool) (q : PartOf L B) → Good L C (tailed p closed q) →
      ((u : List L.Token) (v w : A) → spells_in L R p u v → spells_in L R p u w → v ≡ w) → ((u : List L.Token) (v w : B) → spells_in L R q u v → spells_in L R q u w → v ≡ w) →
      (u : List L.Token) (v : A) (o : Option B) (v' : A) (o' : Option B) → Tail (spells_in L R p) closed (spells_in L R q) u v o → Tail (spells_in L R p) closed (spells_in L R q) u v' o' → (v ≡ v') × (o ≡ o')
  once_tailed p closed q g ih ih' u v None v' None s t = (ih u v v' s t, refl)
  once_tailed p closed q g ih ih' u v None v' (Some w) s t = absurd (tail_or_none p closed q g u t.0 t.1 v v' w t.2 s t.3 t.4 t.5)
  once_tailed p closed q g ih ih' u v (Some w) v' None s t = absurd (tail_or_none p closed q g u s.0 s.1 v' v w s.2 t s.3 s.4 s.5)
  once_tailed p closed q g ih ih' u v (Some w) v' (Some w') s t =
      let is = tailed_is L C p closed q g in
      elim (cuts s.0 s.1 t.0 t.1 (sym s.2 ∙ t.2)) [
        | equal i j ↦
            (ih s.0 v v' s.3 (subst (λ x. spells_in L R p x v') (sym i) t.3), ap (λ x. Some x) (ih' s.1 w w' s.5 (subst (λ x. spells_in L R q x w') (sym j) t.5)))
        | later y z i j ↦
            absurd (is.sealed v' (L.class y) t.4 (spell_follows p is.left t.0 v' y z t.3 (subst (λ x. front_in L R F p x) i (spell_front L C R F laws p s.0 v s.3)))
            (first q is.right y (z ++ s.1) (spell_front L C R F laws q (y ∷ (z ++ s.1)) w' (subst (λ x. spells_in L R q x w') j t.5))))
        | earlier y z i j ↦
            absurd (is.sealed v (L.class y) s.4 (spell_follows p is.left s.0 v y z s.3 (subst (λ x. front_in L R F p x) i (spell_front L C R F laws p t.0 v' t.3)))
            (first q is.right y (z ++ t.1) (spell_front L C R F laws q (y ∷ (z ++ t.1)) w (subst (λ x. spells_in L R q x w) j s.5))))
      ]

  pub spell_once : {A : Type 0} → (p : PartOf L A) → Good L C p → (u : List L.Token) (v w : A) → spells_in L R p u v → spells_in L R p u w → v ≡ w
  spell_once (one cs) g u v w s t = let e : v ∷ [] ≡ w ∷ [] = sym s.0 ∙ t.0 in cc
  spell_once (name x) g u v w s t = laws.once x u v w s t
  spell_once nothing g u v w s t = refl
  spell_once (seq p q) g u v w s t = elim (cuts s.0 s.1 t.0 t.1 (sym s.2 ∙ t.2)) [
    | equal i j ↦
        pair_eq v w
        (spell_once p (good_left L C p q g) s.0 v.0 w.0 s.3 (subst (λ x. spells_in L R p x w.0) (sym i) t.3))
        (spell_once q (good_right L C p q g) s.1 v.1 w.1 s.4 (subst (λ x. spells_in L R q x w.1) (sym j) t.4))
    | later y z i j ↦
        let m = spell_follows p (good_left L C p q g) t.0 w.0 y z t.3 (subst (λ x. front_in L R F p x) i (spell_front L C R F laws p s.0 v.0 s.3)) in
        absurd (clash p q (good_apart L C p q g) w.0 y m (first q (good_right L C p q g) y (z ++ s.1) (spell_front L C R F laws q (y ∷ (z ++ s.1)) w.1 (subst (λ x. spells_in L R q x w.1) j t.4))))
    | earlier y z i j ↦
        let m = spell_follows p (good_left L C p q g) s.0 v.0 y z s.3 (subst (λ x. front_in L R F p x) i (spell_front L C R F laws p t.0 w.0 t.3)) in
        absurd (clash p q (good_apart L C p q g) v.0 y m (first q (good_right L C p q g) y (z ++ t.1) (spell_front L C R F laws q (y ∷ (z ++ t.1)) v.1 (subst (λ x. spells_in L R q x v.1) j s.4))))
  ]
  spell_once (alt p q) g u v w s t = elim s [
    | inl i ↦ elim t [ inl j ↦ spell_once p (alt_left L C p q g) u v w i j | inr j ↦ absurd (not_two p q g u v w i j) ]
    | inr i ↦ elim t [ inl j ↦ absurd (not_two p q g u w v j i) | inr j ↦ spell_once q (alt_right L C p q g) u v w i j ]
  ]
  spell_once (fork p q) g u v w s t = elim s [
    | inl i ↦ elim t [ inl j ↦ spell_once p (fork_is L C p q g).left u v w i j | inr j ↦ absurd (fork_one p q g u v w i j) ]
    | inr i ↦ elim t [ inl j ↦ absurd (fork_one p q g u w v j i) | inr j ↦ spell_once q (fork_is L C p q g).right u v w i j ]
  ]
  spell_once (many p) g u vs ws s t = once_many p g (spell_once p (many_part L C p g)) u vs ws s t
  spell_once (tailed p closed q) g u v w s t =
      let e = once_tailed p closed q g (spell_once p (tailed_is L C p closed q g).left) (spell_once q (tailed_is L C p closed q g).right) u v.0 v.1 w.0 w.1 s t in
      pair_eq v w e.0 e.1
  spell_once (kept p) g u v w s t = pair_eq v w (s.0 ∙ sym t.0) (spell_once p g u v.1 w.1 s.1 t.1)
  spell_once (give f p) g u v w s t = s.1 ∙ (ap f (spell_once p g u s.0 t.0 s.2 t.2) ∙ sym t.1)
