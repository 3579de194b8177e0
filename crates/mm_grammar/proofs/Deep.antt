-- Derivations: what holds at a depth holds deeper, and a text of a part has some depth.
use Rattle.std.proofs.Common.{◌≡◌, ℕ, zero, suc, ◌+◌, Bool, List, [], ◌∷◌, Option, Some, None, inl, inr, refl, sym, arith, subst}
use Rattle.mm_grammar.specs.Grammar.{one, name, nothing, seq, alt, fork, many, tailed, kept, give, Language, PartOf, Each, Tail, spells_in, front_in, spells_at, front_at}

pub each_along : {T A : Type 0} (P Q : List T → A → Type 0) → ((ts : List T) (v : A) → P ts v → Q ts v) → (ts : List T) (vs : List A) → Each P ts vs → Each Q ts vs
each_along P Q f ts [] h = h
each_along P Q f ts (v ∷ vs) h = (h.0, h.1, h.2, f h.0 v h.3, each_along P Q f h.1 vs h.4)

pub tail_along : {T A B : Type 0} (P P' : List T → A → Type 0) (closed : A → Bool) (Q Q' : List T → B → Type 0) → ((ts : List T) (v : A) → P ts v → P' ts v) → ((ts : List T) (v : B) → Q ts v → Q' ts v) →
    (ts : List T) (v : A) (w : Option B) → Tail P closed Q ts v w → Tail P' closed Q' ts v w
tail_along P P' closed Q Q' f g ts v None h = f ts v h
tail_along P P' closed Q Q' f g ts v (Some w) h = (h.0, h.1, h.2, f h.0 v h.3, h.4, g h.1 w h.5)

module _ (L : Language) where
  Rules : Type 1
  Rules = (x : L.Name) → List L.Token → L.Value x → Type 0

  module _ (R S : (x : L.Name) → List L.Token → L.Value x → Type 0) (f : (x : L.Name) (ts : List L.Token) (v : L.Value x) → R x ts v → S x ts v) where
    pub spells_along : {A : Type 0} → (p : PartOf L A) (ts : List L.Token) (v : A) → spells_in L R p ts v → spells_in L S p ts v
    spells_along (one cs) ts v h = h
    spells_along (name x) ts v h = f x ts v h
    spells_along nothing ts v h = h
    spells_along (seq p q) ts v h = (h.0, h.1, h.2, spells_along p h.0 v.0 h.3, spells_along q h.1 v.1 h.4)
    spells_along (alt p q) ts v h = elim h [ inl i ↦ inl (spells_along p ts v i) | inr i ↦ inr (spells_along q ts v i) ]
    spells_along (fork p q) ts v h = elim h [ inl i ↦ inl (spells_along p ts v i) | inr i ↦ inr (spells_along q ts v i) ]
    spells_along (tailed p closed q) ts v h = tail_along (spells_in L R p) (spells_in L S p) closed (spells_in L R q) (spells_in L S q) (λ us w i. spells_along p us w i) (λ us w i. spells_along q us w i) ts v.0 v.1 h
    spells_along (many p) ts vs h = each_along (spells_in L R p) (spells_in L S p) (λ us v i. spells_along p us v i) ts vs h
    spells_along (kept p) ts v h = (h.0, spells_along p ts v.1 h.1)
    spells_along (give g p) ts v h = (h.0, h.1, spells_along p ts h.0 h.2)

    module _ (F G : (x : L.Name) → List L.Token → Type 0) (g : (x : L.Name) (ts : List L.Token) → F x ts → G x ts) where
      pub front_along : {A : Type 0} → (p : PartOf L A) (ts : List L.Token) → front_in L R F p ts → front_in L S G p ts
      front_along (one cs) ts h = h
      front_along (name x) ts h = g x ts h
      front_along nothing ts h = h
      front_along (seq p q) ts h = elim h [
        | inl i ↦ inl (front_along p ts i)
        | inr i ↦ inr (i.0, i.1, i.2, i.3, spells_along p i.0 i.2 i.4, front_along q i.1 i.5)
      ]
      front_along (alt p q) ts h = elim h [ inl i ↦ inl (front_along p ts i) | inr i ↦ inr (front_along q ts i) ]
      front_along (fork p q) ts h = elim h [ inl i ↦ inl (front_along p ts i) | inr i ↦ inr (front_along q ts i) ]
      front_along (tailed p closed q) ts h = elim h [
        | inl i ↦ inl (front_along p ts i)
        | inr i ↦ inr (i.0, i.1, i.2, i.3, spells_along p i.0 i.2 i.4, i.5, front_along q i.1 i.6)
      ]
      front_along (many p) ts h = (h.0, h.1, h.2, h.3, each_along (spells_in L R p) (spells_in L S p) (λ us v i. spells_along p us v i) h.0 h.2 h.4, front_along p h.1 h.5)
      front_along (kept p) ts h = front_along p ts h
      front_along (give k p) ts h = front_along p ts h

  pub spells_more : (n m : ℕ) (x : L.Name) (ts : List L.Token) (v : L.Value x) → spells_at L n x ts v → spells_at L (n + m) x ts v
  spells_more zero m x ts v h = absurd h
  spells_more (suc n) m x ts v h =
      let e : suc n + m ≡ suc (n + m) = omega arith in
      subst (λ k. spells_at L k x ts v) (sym e) (spells_along (spells_at L n) (spells_at L (n + m)) (λ y us w i. spells_more n m y us w i) (L.rule x) ts v h)

  front_nil_in : (R : (x : L.Name) → List L.Token → L.Value x → Type 0) (F : (x : L.Name) → List L.Token → Type 0) → ((x : L.Name) → F x []) → {A : Type 0} → (p : PartOf L A) → front_in L R F p []
  front_nil_in R F f (one cs) = inl refl
  front_nil_in R F f (name x) = f x
  front_nil_in R F f nothing = refl
  front_nil_in R F f (seq p q) = inl (front_nil_in R F f p)
  front_nil_in R F f (alt p q) = inl (front_nil_in R F f p)
  front_nil_in R F f (fork p q) = inl (front_nil_in R F f p)
  front_nil_in R F f (tailed p closed q) = inl (front_nil_in R F f p)
  front_nil_in R F f (many p) = ([], [], [], refl, refl, front_nil_in R F f p)
  front_nil_in R F f (kept p) = front_nil_in R F f p
  front_nil_in R F f (give g p) = front_nil_in R F f p

  pub front_at_nil : (n : ℕ) (x : L.Name) → front_at L n x []
  front_at_nil zero x = refl
  front_at_nil (suc n) x = front_nil_in (spells_at L n) (front_at L n) (front_at_nil n) (L.rule x)

  pub front_more : (n m : ℕ) (x : L.Name) (ts : List L.Token) → front_at L n x ts → front_at L (n + m) x ts
  front_more zero m x ts h = subst (λ us. front_at L (zero + m) x us) (sym h) (front_at_nil (zero + m) x)
  front_more (suc n) m x ts h =
      let e : suc n + m ≡ suc (n + m) = omega arith in
      subst (λ k. front_at L k x ts) (sym e) (front_along (spells_at L n) (spells_at L (n + m)) (λ y us w i. spells_more n m y us w i) (front_at L n) (front_at L (n + m)) (λ y us i. front_more n m y us i) (L.rule x) ts h)
