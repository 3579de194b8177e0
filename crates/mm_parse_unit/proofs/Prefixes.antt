-- What a front begins with is a front, and so is what a text begins with.
use Rattle.std.proofs.Common.{◌≡◌, ℕ, zero, suc, Bool, IsTrue, List, [], ◌∷◌, ◌++◌, ◌⊎◌, Option, Some, None, inl, inr, refl, ap, sym, ◌∙◌, subst, append_assoc}
use Rattle.std.proofs.lemmas.List.{append-nil}
use Rattle.mm_grammar.specs.Grammar.{one, name, nothing, seq, alt, fork, many, tailed, kept, give, Language, PartOf, Each, Tail, spells_in, front_in, spells_at, front_at, RuleSpells, RuleFront, Spells, Front, has}
use Rattle.mm_grammar.proofs.Lists.{equal, later, earlier, cuts}
use Rattle.mm_grammar.proofs.Laws.{nil_left}
use Rattle.mm_grammar.proofs.Deep.{front_at_nil}

module _ (L : Language) (R : (x : L.Name) → List L.Token → L.Value x → Type 0) (F : (x : L.Name) → List L.Token → Type 0) (none : (x : L.Name) → F x []) (text : (x : L.Name) (a b : List L.Token) (v : L.Value x) → R x (a ++ b) v → F x a) where
  nil : {A : Type 0} → (p : PartOf L A) → front_in L R F p []
  nil (one cs) = inl refl
  nil (name x) = none x
  nil nothing = refl
  nil (seq p q) = inl (nil p)
  nil (alt p q) = inl (nil p)
  nil (fork p q) = inl (nil p)
  nil (many p) = ([], [], [], refl, refl, nil p)
  nil (tailed p closed q) = inl (nil p)
  nil (kept p) = nil p
  nil (give g p) = nil p

  -- The list ends within a text of the first part, or after it.
  within_or_after : {A : Type 0} → (p : PartOf L A) (Q : List L.Token → Type 0) → ((a b : List L.Token) (v : A) → spells_in L R p (a ++ b) v → front_in L R F p a) → (a b c d : List L.Token) (v : A) → a ++ b ≡ c ++ d → spells_in L R p c v →
      ((m n : List L.Token) → d ≡ m ++ n → Q m) → front_in L R F p a ⊎ ((e : List L.Token) × (a ≡ c ++ e) × Q e)
  within_or_after p Q f a b c d v e s g = elim (cuts a b c d e) [
    | equal i j ↦ inr ([], i ∙ sym (append-nil c), g [] d refl)
    | later k m i j ↦ inr (k ∷ m, i, g (k ∷ m) b j)
    | earlier k m i j ↦ inl (f a (k ∷ m) v (subst (λ w. spells_in L R p w v) i s))
  ]

  one_text : (cs : List ℕ) (a b : List L.Token) (t : L.Token) → a ++ b ≡ t ∷ [] → IsTrue (has (L.class t) cs) → front_in L R F (one cs) a
  one_text cs [] b t e h = inl refl
  one_text cs (x ∷ a) b t e h =
      let same : x ≡ t = cc in
      let rest : a ++ b ≡ [] = cc in
      inr (t, (ap (λ w. x ∷ w) (nil_left a b (sym rest)) ∙ ap (λ w. w ∷ []) same), h)

  each_text : {A : Type 0} → (p : PartOf L A) → ((a b : List L.Token) (v : A) → spells_in L R p (a ++ b) v → front_in L R F p a) → (vs : List A) (a b : List L.Token) → Each (spells_in L R p) (a ++ b) vs → front_in L R F (many p) a
  each_text p f [] a b h = ([], [], [], nil_left a b (sym h), refl, nil p)
  each_text p f (v ∷ vs) a b h = elim (within_or_after p (λ w. front_in L R F (many p) w) f a b h.0 h.1 v h.2 h.3 (λ m n e. each_text p f vs m n (subst (λ w. Each (spells_in L R p) w vs) e h.4))) [
    | inl i ↦ ([], a, [], refl, refl, i)
    | inr i ↦ (let g = i.2 in (h.0 ++ g.0, g.1, v ∷ g.2, i.1 ∙ (ap (λ w. h.0 ++ w) g.3 ∙ sym (append_assoc h.0 g.0 g.1)), (h.0, g.0, refl, h.3, g.4), g.5))
  ]

  tail_text : {A B : Type 0} → (p : PartOf L A) (closed : A → Bool) (q : PartOf L B) → ((a b : List L.Token) (v : A) → spells_in L R p (a ++ b) v → front_in L R F p a) → ((a b : List L.Token) (v : B) → spells_in L R q (a ++ b) v → front_in L R F q a) →
      (a b : List L.Token) (v : A) (w : Option B) → Tail (spells_in L R p) closed (spells_in L R q) (a ++ b) v w → front_in L R F (tailed p closed q) a
  tail_text p closed q f g a b v None h = inl (f a b v h)
  tail_text p closed q f g a b v (Some w) h = elim (within_or_after p (λ u. front_in L R F q u) f a b h.0 h.1 v h.2 h.3 (λ m n e. g m n w (subst (λ u. spells_in L R q u w) e h.5))) [
    | inl i ↦ inl i
    | inr i ↦ inr (h.0, i.0, v, i.1, h.3, h.4, i.2)
  ]

  -- what a text of the part begins with
  pub of_text : {A : Type 0} → (p : PartOf L A) (a b : List L.Token) (v : A) → spells_in L R p (a ++ b) v → front_in L R F p a
  of_text (one cs) a b v h = one_text cs a b v h.0 h.1
  of_text (name x) a b v h = text x a b v h
  of_text nothing a b v h = nil_left a b (sym h)
  of_text (seq p q) a b v h = elim (within_or_after p (λ u. front_in L R F q u) (of_text p) a b h.0 h.1 v.0 h.2 h.3 (λ m n e. of_text q m n v.1 (subst (λ u. spells_in L R q u v.1) e h.4))) [
    | inl i ↦ inl i
    | inr i ↦ inr (h.0, i.0, v.0, i.1, h.3, i.2)
  ]
  of_text (alt p q) a b v h = elim h [ inl i ↦ inl (of_text p a b v i) | inr i ↦ inr (of_text q a b v i) ]
  of_text (fork p q) a b v h = elim h [ inl i ↦ inl (of_text p a b v i) | inr i ↦ inr (of_text q a b v i) ]
  of_text (many p) a b vs h = each_text p (of_text p) vs a b h
  of_text (tailed p closed q) a b v h = tail_text p closed q (of_text p) (of_text q) a b v.0 v.1 h
  of_text (kept p) a b v h = of_text p a b v.1 h.1
  of_text (give g p) a b v h = of_text p a b h.0 h.2

  module _ (front : (x : L.Name) (a b : List L.Token) → F x (a ++ b) → F x a) where
    each_front : {A : Type 0} → (p : PartOf L A) → ((a b : List L.Token) → front_in L R F p (a ++ b) → front_in L R F p a) → (vs : List A) (a b c d : List L.Token) → a ++ b ≡ c ++ d → Each (spells_in L R p) c vs → front_in L R F p d → front_in L R F (many p) a
    each_front p f [] a b c d e t h =
        let only : d ≡ a ++ b = sym (e ∙ ap (λ w. w ++ d) t) in
        ([], a, [], refl, refl, f a b (subst (λ w. front_in L R F p w) only h))
    each_front p f (v ∷ vs) a b c d e t h =
        elim (within_or_after p (λ w. front_in L R F (many p) w) (of_text p) a b t.0 (t.1 ++ d) v (e ∙ (ap (λ w. w ++ d) t.2 ∙ append_assoc t.0 t.1 d)) t.3
        (λ m n i. each_front p f vs m n t.1 d (sym i) t.4 h)) [
          | inl i ↦ ([], a, [], refl, refl, i)
          | inr i ↦ (let g = i.2 in (t.0 ++ g.0, g.1, v ∷ g.2, i.1 ∙ (ap (λ w. t.0 ++ w) g.3 ∙ sym (append_assoc t.0 g.0 g.1)), (t.0, g.0, refl, t.3, g.4), g.5))
        ]

    -- what a front of the part begins with
    pub of_front : {A : Type 0} → (p : PartOf L A) (a b : List L.Token) → front_in L R F p (a ++ b) → front_in L R F p a
    of_front (one cs) a b h = elim h [ inl i ↦ inl (nil_left a b (sym i)) | inr i ↦ one_text cs a b i.0 i.1 i.2 ]
    of_front (name x) a b h = front x a b h
    of_front nothing a b h = nil_left a b (sym h)
    of_front (seq p q) a b h = elim h [
      | inl i ↦ inl (of_front p a b i)
      | inr i ↦ elim (within_or_after p (λ u. front_in L R F q u) (of_text p) a b i.0 i.1 i.2 i.3 i.4 (λ m n e. of_front q m n (subst (λ u. front_in L R F q u) e i.5))) [
        | inl j ↦ inl j
        | inr j ↦ inr (i.0, j.0, i.2, j.1, i.4, j.2)
      ]
    ]
    of_front (alt p q) a b h = elim h [ inl i ↦ inl (of_front p a b i) | inr i ↦ inr (of_front q a b i) ]
    of_front (fork p q) a b h = elim h [ inl i ↦ inl (of_front p a b i) | inr i ↦ inr (of_front q a b i) ]
    of_front (many p) a b h = each_front p (of_front p) h.2 a b h.0 h.1 h.3 h.4 h.5
    of_front (tailed p closed q) a b h = elim h [
      | inl i ↦ inl (of_front p a b i)
      | inr i ↦ elim (within_or_after p (λ u. front_in L R F q u) (of_text p) a b i.0 i.1 i.2 i.3 i.4 (λ m n e. of_front q m n (subst (λ u. front_in L R F q u) e i.6))) [
        | inl j ↦ inl j
        | inr j ↦ inr (i.0, j.0, i.2, j.1, i.4, i.5, j.2)
      ]
    ]
    of_front (kept p) a b h = of_front p a b h
    of_front (give g p) a b h = of_front p a b h

module _ (L : Language) where
  text_at : (n : ℕ) (x : L.Name) (a b : List L.Token) (v : L.Value x) → spells_at L n x (a ++ b) v → front_at L n x a
  text_at zero x a b v h = absurd h
  text_at (suc n) x a b v h = of_text L (spells_at L n) (front_at L n) (front_at_nil L n) (text_at n) (L.rule x) a b v h

  begun_at : (n : ℕ) (x : L.Name) (a b : List L.Token) → front_at L n x (a ++ b) → front_at L n x a
  begun_at zero x a b h = nil_left a b (sym h)
  begun_at (suc n) x a b h = of_front L (spells_at L n) (front_at L n) (front_at_nil L n) (text_at n) (begun_at n) (L.rule x) a b h

  text_of : (x : L.Name) (a b : List L.Token) (v : L.Value x) → RuleSpells L x (a ++ b) v → RuleFront L x a
  text_of x a b v h = (h.0, text_at h.0 x a b v h.1)

  front_of : (x : L.Name) (a b : List L.Token) → RuleFront L x (a ++ b) → RuleFront L x a
  front_of x a b h = (h.0, begun_at h.0 x a b h.1)

  pub text_begins : {A : Type 0} → (p : PartOf L A) (a b : List L.Token) (v : A) → Spells L p (a ++ b) v → Front L p a
  text_begins p a b v h = of_text L (RuleSpells L) (RuleFront L) (λ x. (zero, refl)) text_of p a b v h

  pub front_begins : {A : Type 0} → (p : PartOf L A) (a b : List L.Token) → Front L p (a ++ b) → Front L p a
  front_begins p a b h = of_front L (RuleSpells L) (RuleFront L) (λ x. (zero, refl)) text_of front_of p a b h
