-- Why one token ahead decides: the laws of parts, where they hold of the rules.
use Rattle.std.proofs.Common.{◌≡◌, ℕ, Bool, not, ◌&&◌, ◌||◌, if◌then◌else◌, IsTrue, List, [], ◌∷◌, ◌++◌, ◌⊎◌, Option, Some, None, inl, inr, refl, ap, sym, ◌∙◌, subst, append_assoc}
use Rattle.std.proofs.lemmas.List.{append-nil}
use Rattle.mm_grammar.specs.Grammar.{one, name, nothing, seq, alt, fork, many, tailed, kept, give, Language, PartOf, Each, Tail, spells_in, front_in, has}
use Rattle.mm_grammar.specs.Ahead.{Claims, disjoint, meet_within, first_of, more_of, empty_of, alone_of, second_of, is_good, Good, Follows, Some_of, AtTail}
use Rattle.mm_grammar.proofs.Lists.{both, and_left, and_right, or_left, or_right, not_both, not_either, has-left, has-right, meets, has-when}

pub record Lawful (L : Language) (C : Claims L) (R : (x : L.Name) → List L.Token → L.Value x → Type 0) (F : (x : L.Name) → List L.Token → Type 0) : Type 0 where
  pub nil : (x : L.Name) → F x []
  pub first : (x : L.Name) (k : L.Token) (r : List L.Token) → F x (k ∷ r) → IsTrue (has (L.class k) (C.first x))
  pub empty : (x : L.Name) (v : L.Value x) → R x [] v → IsTrue (C.empty x)
  pub follow : (x : L.Name) (u : List L.Token) (v : L.Value x) (k : L.Token) (r : List L.Token) → R x u v → F x (u ++ k ∷ r) → IsTrue (has (L.class k) (C.more x)) × IsTrue (has (L.class k) (C.after x v))
  pub whole : (x : L.Name) (u : List L.Token) (v : L.Value x) → R x u v → F x u
  pub once : (x : L.Name) (u : List L.Token) (v w : L.Value x) → R x u v → R x u w → v ≡ w
  pub alone : (x : L.Name) (k : L.Token) (v : L.Value x) → IsTrue (has (L.class k) C.shared) → R x (k ∷ []) v → IsTrue (C.alone x)
  pub second : (x : L.Name) (k y : L.Token) (r : List L.Token) → IsTrue (has (L.class k) C.shared) → F x (k ∷ y ∷ r) → IsTrue (has (L.class y) (C.second x))

-- ---- what the conditions on a part say of its parts

module _ (L : Language) (C : Claims L) where
  pub good_left : {A : Type 0} {B : Type 0} → (p : PartOf L A) (q : PartOf L B) → Good L C (seq p q) → Good L C p
  good_left p q g = (and_left (is_good L C p) (is_good L C q) (and_left (is_good L C p && is_good L C q) (disjoint (more_of L C p) (first_of L C q)) g.0), g.1.0)

  pub good_right : {A : Type 0} {B : Type 0} → (p : PartOf L A) (q : PartOf L B) → Good L C (seq p q) → Good L C q
  good_right p q g = (and_right (is_good L C p) (is_good L C q) (and_left (is_good L C p && is_good L C q) (disjoint (more_of L C p) (first_of L C q)) g.0), g.1.1)

  pub good_apart : {A : Type 0} {B : Type 0} → (p : PartOf L A) (q : PartOf L B) → Good L C (seq p q) → IsTrue (disjoint (more_of L C p) (first_of L C q))
  good_apart p q g = and_right (is_good L C p && is_good L C q) (disjoint (more_of L C p) (first_of L C q)) g.0

  alt_both : {A : Type 0} → (p q : PartOf L A) → Good L C (alt p q) → IsTrue (is_good L C p && is_good L C q)
  alt_both p q g = and_left (is_good L C p && is_good L C q) (disjoint (first_of L C p) (first_of L C q) && not (empty_of L C p && empty_of L C q)) g.0

  alt_rest : {A : Type 0} → (p q : PartOf L A) → Good L C (alt p q) → IsTrue (disjoint (first_of L C p) (first_of L C q) && not (empty_of L C p && empty_of L C q))
  alt_rest p q g = and_right (is_good L C p && is_good L C q) (disjoint (first_of L C p) (first_of L C q) && not (empty_of L C p && empty_of L C q)) g.0

  pub alt_left : {A : Type 0} → (p q : PartOf L A) → Good L C (alt p q) → Good L C p
  alt_left p q g = (and_left (is_good L C p) (is_good L C q) (alt_both p q g), g.1.0)

  pub alt_right : {A : Type 0} → (p q : PartOf L A) → Good L C (alt p q) → Good L C q
  alt_right p q g = (and_right (is_good L C p) (is_good L C q) (alt_both p q g), g.1.1)

  pub alt_apart : {A : Type 0} → (p q : PartOf L A) → Good L C (alt p q) → IsTrue (disjoint (first_of L C p) (first_of L C q))
  alt_apart p q g = and_left (disjoint (first_of L C p) (first_of L C q)) (not (empty_of L C p && empty_of L C q)) (alt_rest p q g)

  pub alt_one_empty : {A : Type 0} → (p q : PartOf L A) → Good L C (alt p q) → IsTrue (empty_of L C p) → IsTrue (empty_of L C q) → ⊥
  alt_one_empty p q g a b = not_both (empty_of L C p && empty_of L C q) (and_right (disjoint (first_of L C p) (first_of L C q)) (not (empty_of L C p && empty_of L C q)) (alt_rest p q g)) (both (empty_of L C p) (empty_of L C q) a b)

  pub many_part : {A : Type 0} → (p : PartOf L A) → Good L C (many p) → Good L C p
  many_part p g = (and_left (is_good L C p) (not (empty_of L C p) && disjoint (more_of L C p) (first_of L C p)) g.0, g.1)

  pub many_full : {A : Type 0} → (p : PartOf L A) → Good L C (many p) → IsTrue (not (empty_of L C p))
  many_full p g = and_left (not (empty_of L C p)) (disjoint (more_of L C p) (first_of L C p)) (and_right (is_good L C p) (not (empty_of L C p) && disjoint (more_of L C p) (first_of L C p)) g.0)

  pub many_apart : {A : Type 0} → (p : PartOf L A) → Good L C (many p) → IsTrue (disjoint (more_of L C p) (first_of L C p))
  many_apart p g = and_right (not (empty_of L C p)) (disjoint (more_of L C p) (first_of L C p)) (and_right (is_good L C p) (not (empty_of L C p) && disjoint (more_of L C p) (first_of L C p)) g.0)

  pub record IsFork {A : Type 0} (p q : PartOf L A) : Type 0 where
    pub left : Good L C p
    pub right : Good L C q
    pub full : IsTrue (not (empty_of L C p)) × IsTrue (not (empty_of L C q))
    pub longer : IsTrue (not (alone_of L C p)) × IsTrue (not (alone_of L C q))
    pub meet : IsTrue (meet_within (first_of L C p) (first_of L C q) C.shared)
    pub apart : IsTrue (disjoint (second_of L C p) (second_of L C q))

  pub fork_is : {A : Type 0} → (p q : PartOf L A) → Good L C (fork p q) → IsFork p q
  fork_is p q g =
      let x = and_left (is_good L C p && is_good L C q) ((not (empty_of L C p || empty_of L C q) && not (alone_of L C p || alone_of L C q)) && (meet_within (first_of L C p) (first_of L C q) C.shared && disjoint (second_of L C p) (second_of L C q))) g.0 in
      let y = and_right (is_good L C p && is_good L C q) ((not (empty_of L C p || empty_of L C q) && not (alone_of L C p || alone_of L C q)) && (meet_within (first_of L C p) (first_of L C q) C.shared && disjoint (second_of L C p) (second_of L C q))) g.0 in
      let a = and_left (not (empty_of L C p || empty_of L C q) && not (alone_of L C p || alone_of L C q)) (meet_within (first_of L C p) (first_of L C q) C.shared && disjoint (second_of L C p) (second_of L C q)) y in
      let b = and_right (not (empty_of L C p || empty_of L C q) && not (alone_of L C p || alone_of L C q)) (meet_within (first_of L C p) (first_of L C q) C.shared && disjoint (second_of L C p) (second_of L C q)) y in
      record {
        left = (and_left (is_good L C p) (is_good L C q) x, g.1.0);
        right = (and_right (is_good L C p) (is_good L C q) x, g.1.1);
        full = not_either (empty_of L C p) (empty_of L C q) (and_left (not (empty_of L C p || empty_of L C q)) (not (alone_of L C p || alone_of L C q)) a);
        longer = not_either (alone_of L C p) (alone_of L C q) (and_right (not (empty_of L C p || empty_of L C q)) (not (alone_of L C p || alone_of L C q)) a);
        meet = and_left (meet_within (first_of L C p) (first_of L C q) C.shared) (disjoint (second_of L C p) (second_of L C q)) b;
        apart = and_right (meet_within (first_of L C p) (first_of L C q) C.shared) (disjoint (second_of L C p) (second_of L C q)) b;
      }

  pub record IsTailed {A B : Type 0} (p : PartOf L A) (closed : A → Bool) (q : PartOf L B) : Type 0 where
    pub left : Good L C p
    pub right : Good L C q
    pub full : IsTrue (not (empty_of L C p))
    pub full_tail : IsTrue (not (empty_of L C q))
    pub sealed : (v : A) (k : ℕ) → IsTrue (closed v) → Follows L C p v k → IsTrue (has k (first_of L C q)) → ⊥

  pub tailed_is : {A B : Type 0} → (p : PartOf L A) (closed : A → Bool) (q : PartOf L B) → Good L C (tailed p closed q) → IsTailed p closed q
  tailed_is p closed q g =
      let x = and_left (is_good L C p && is_good L C q) (not (empty_of L C p) && not (empty_of L C q)) g.0 in
      let y = and_right (is_good L C p && is_good L C q) (not (empty_of L C p) && not (empty_of L C q)) g.0 in
      record {
        left = (and_left (is_good L C p) (is_good L C q) x, g.1.0);
        right = (and_right (is_good L C p) (is_good L C q) x, g.1.1);
        full = and_left (not (empty_of L C p)) (not (empty_of L C q)) y;
        full_tail = and_right (not (empty_of L C p)) (not (empty_of L C q)) y;
        sealed = g.1.2;
      }

  -- what can follow a value can follow a text
  some_of_more : {A : Type 0} → (P : A → Type 0) (cs : List ℕ) (k : ℕ) → ((v : A) → P v → IsTrue (has k cs)) → (vs : List A) → Some_of P vs → IsTrue (has k cs)
  some_of_more P cs k f [] h = absurd h
  some_of_more P cs k f (v ∷ vs) h = elim h [ inl i ↦ f v i | inr i ↦ some_of_more P cs k f vs i ]

  at_tail_more : {A B : Type 0} → (P : A → Type 0) (Z : Type 0) (Q : B → Type 0) (ps zs qs : List ℕ) (k : ℕ) → ((v : A) → P v → IsTrue (has k ps)) → (Z → IsTrue (has k zs)) → ((w : B) → Q w → IsTrue (has k qs)) →
      (v : A) (w : Option B) → AtTail P Z Q v w → IsTrue (has k ((ps ++ zs) ++ qs))
  at_tail_more P Z Q ps zs qs k f z g v None h = has-left k (ps ++ zs) qs (elim h [ inl i ↦ has-left k ps zs (f v i) | inr i ↦ has-right k ps zs (z i) ])
  at_tail_more P Z Q ps zs qs k f z g v (Some w) h = has-right k (ps ++ zs) qs (g w h)

  pub follows_more : {A : Type 0} → (p : PartOf L A) (v : A) (k : ℕ) → Follows L C p v k → IsTrue (has k (more_of L C p))
  follows_more (one cs) v k h = absurd h
  follows_more (name x) v k h = h.0
  follows_more nothing v k h = absurd h
  follows_more (seq p q) v k h = elim h [
    | inl i ↦ has-left k (more_of L C q) (if empty_of L C q then more_of L C p else []) (follows_more q v.1 k i)
    | inr i ↦ has-right k (more_of L C q) (if empty_of L C q then more_of L C p else []) (has-when k (empty_of L C q) (more_of L C p) i.0 (follows_more p v.0 k i.1))
  ]
  follows_more (alt p q) v k h = elim h [
    | inl i ↦ has-left k (more_of L C p ++ more_of L C q) ((if empty_of L C p then first_of L C q else []) ++ (if empty_of L C q then first_of L C p else []))
        (elim i [ inl j ↦ has-left k (more_of L C p) (more_of L C q) (follows_more p v k j) | inr j ↦ has-right k (more_of L C p) (more_of L C q) (follows_more q v k j) ])
    | inr i ↦ has-right k (more_of L C p ++ more_of L C q) ((if empty_of L C p then first_of L C q else []) ++ (if empty_of L C q then first_of L C p else []))
        (elim i [
          | inl j ↦ has-left k (if empty_of L C p then first_of L C q else []) (if empty_of L C q then first_of L C p else []) (has-when k (empty_of L C p) (first_of L C q) j.0 j.1)
          | inr j ↦ has-right k (if empty_of L C p then first_of L C q else []) (if empty_of L C q then first_of L C p else []) (has-when k (empty_of L C q) (first_of L C p) j.0 j.1)
        ])
  ]
  follows_more (fork p q) v k h = elim h [ inl j ↦ has-left k (more_of L C p) (more_of L C q) (follows_more p v k j) | inr j ↦ has-right k (more_of L C p) (more_of L C q) (follows_more q v k j) ]
  follows_more (many p) vs k h = elim h [
    | inl i ↦ has-left k (more_of L C p) (first_of L C p) (some_of_more (λ v. Follows L C p v k) (more_of L C p) k (λ v j. follows_more p v k j) vs i)
    | inr i ↦ has-right k (more_of L C p) (first_of L C p) i
  ]
  follows_more (tailed p closed q) v k h =
      at_tail_more (λ a. Follows L C p a k) (IsTrue (has k (first_of L C q))) (λ w. Follows L C q w k) (more_of L C p) (first_of L C q) (more_of L C q) k (λ a j. follows_more p a k j) (λ j. j) (λ w j. follows_more q w k j) v.0 v.1 h
  follows_more (kept p) v k h = follows_more p v.1 k h
  follows_more (give f p) v k h = follows_more p h.0 k h.2

-- ---- lists in two pieces

one_split : {T : Type 0} (k : T) (a b : List T) → k ∷ [] ≡ a ++ b → ((a ≡ []) × (b ≡ k ∷ [])) ⊎ ((a ≡ k ∷ []) × (b ≡ []))
one_split k [] b e = inl (refl, sym e)
one_split k (x ∷ []) b e = inr (cc, cc)
one_split k (x ∷ y ∷ a) b e = absurd (cc)

two_split : {T : Type 0} (k y : T) (r a b : List T) → k ∷ y ∷ r ≡ a ++ b → ((a ≡ []) × (b ≡ k ∷ y ∷ r)) ⊎ (((a ≡ k ∷ []) × (b ≡ y ∷ r)) ⊎ ((c : List T) × (a ≡ k ∷ y ∷ c)))
two_split k y r [] b e = inl (refl, sym e)
two_split k y r (x ∷ []) b e = inr (inl (cc, cc))
two_split k y r (x ∷ z ∷ a) b e = inr (inr (a, cc))

pub nil_left : {T : Type 0} (a b : List T) → [] ≡ a ++ b → a ≡ []
nil_left [] b e = refl
nil_left (x ∷ a) b e = absurd (cc)

pub nil_right : {T : Type 0} (a b : List T) → [] ≡ a ++ b → b ≡ []
nil_right [] b e = sym e
nil_right (x ∷ a) b e = absurd (cc)

pub head_of : {T : Type 0} (b : List T) (k : T) (r : List T) → (y : T) × (e : List T) × (b ++ k ∷ r ≡ y ∷ e)
head_of [] k r = (k, r, refl)
head_of (z ∷ b) k r = (z, b ++ k ∷ r, refl)

pub pair_eq : {A B : Type 0} → (v w : A × B) → v.0 ≡ w.0 → v.1 ≡ w.1 → v ≡ w
pair_eq v w e f = λ i. (e i, f i)

module _ (L : Language) (C : Claims L) (R : (x : L.Name) → List L.Token → L.Value x → Type 0) (F : (x : L.Name) → List L.Token → Type 0) (laws : Lawful L C R F) where
  pub front_nil : {A : Type 0} → (p : PartOf L A) → front_in L R F p []
  front_nil (one cs) = inl refl
  front_nil (name x) = laws.nil x
  front_nil nothing = refl
  front_nil (seq p q) = inl (front_nil p)
  front_nil (alt p q) = inl (front_nil p)
  front_nil (fork p q) = inl (front_nil p)
  front_nil (many p) = ([], [], [], refl, refl, front_nil p)
  front_nil (tailed p closed q) = inl (front_nil p)
  front_nil (kept p) = front_nil p
  front_nil (give g p) = front_nil p

  -- a whole text is a front
  tail_front : {A B : Type 0} → (p : PartOf L A) (closed : A → Bool) (q : PartOf L B) → ((u : List L.Token) (v : A) → spells_in L R p u v → front_in L R F p u) → ((u : List L.Token) (v : B) → spells_in L R q u v → front_in L R F q u) →
      (u : List L.Token) (v : A) (w : Option B) → Tail (spells_in L R p) closed (spells_in L R q) u v w → front_in L R F (tailed p closed q) u
  tail_front p closed q f g u v None h = inl (f u v h)
  tail_front p closed q f g u v (Some w) h = inr (h.0, h.1, v, h.2, h.3, h.4, g h.1 w h.5)

  pub spell_front : {A : Type 0} → (p : PartOf L A) (u : List L.Token) (v : A) → spells_in L R p u v → front_in L R F p u
  spell_front (one cs) u v h = inr (v, h.0, h.1)
  spell_front (name x) u v h = laws.whole x u v h
  spell_front nothing u v h = h
  spell_front (seq p q) u v h = inr (h.0, h.1, v.0, h.2, h.3, spell_front q h.1 v.1 h.4)
  spell_front (alt p q) u v h = elim h [ inl i ↦ inl (spell_front p u v i) | inr i ↦ inr (spell_front q u v i) ]
  spell_front (fork p q) u v h = elim h [ inl i ↦ inl (spell_front p u v i) | inr i ↦ inr (spell_front q u v i) ]
  spell_front (many p) u vs h = (u, [], vs, sym (append-nil u), h, front_nil p)
  spell_front (tailed p closed q) u v h = tail_front p closed q (spell_front p) (spell_front q) u v.0 v.1 h
  spell_front (kept p) u v h = spell_front p u v.1 h.1
  spell_front (give g p) u v h = spell_front p u h.0 h.2

  -- only what may be empty spells nothing
  tail_empty : {A B : Type 0} → (p : PartOf L A) (closed : A → Bool) (q : PartOf L B) → ((v : A) → spells_in L R p [] v → IsTrue (empty_of L C p)) →
      (v : A) (w : Option B) → Tail (spells_in L R p) closed (spells_in L R q) [] v w → IsTrue (empty_of L C p)
  tail_empty p closed q f v None h = f v h
  tail_empty p closed q f v (Some w) h = f v (subst (λ a. spells_in L R p a v) (nil_left h.0 h.1 h.2) h.3)

  pub spell_empty : {A : Type 0} → (p : PartOf L A) (v : A) → spells_in L R p [] v → IsTrue (empty_of L C p)
  spell_empty (one cs) v h = absurd (let e = h.0 in cc)
  spell_empty (name x) v h = laws.empty x v h
  spell_empty nothing v h = refl
  spell_empty (seq p q) v h = both (empty_of L C p) (empty_of L C q)
      (spell_empty p v.0 (subst (λ a. spells_in L R p a v.0) (nil_left h.0 h.1 h.2) h.3))
      (spell_empty q v.1 (subst (λ a. spells_in L R q a v.1) (nil_right h.0 h.1 h.2) h.4))
  spell_empty (alt p q) v h = elim h [ inl i ↦ or_left (empty_of L C p) (empty_of L C q) (spell_empty p v i) | inr i ↦ or_right (empty_of L C p) (empty_of L C q) (spell_empty q v i) ]
  spell_empty (fork p q) v h = elim h [ inl i ↦ or_left (empty_of L C p) (empty_of L C q) (spell_empty p v i) | inr i ↦ or_right (empty_of L C p) (empty_of L C q) (spell_empty q v i) ]
  spell_empty (many p) vs h = refl
  spell_empty (tailed p closed q) v h = tail_empty p closed q (spell_empty p) v.0 v.1 h
  spell_empty (kept p) v h = spell_empty p v.1 h.1
  spell_empty (give g p) v h = spell_empty p h.0 h.2

  -- ---- first tokens

  lead_spelled : {A : Type 0} → (p : PartOf L A) → ((k : L.Token) (r : List L.Token) → front_in L R F p (k ∷ r) → IsTrue (has (L.class k) (first_of L C p))) →
      (a b : List L.Token) (k : L.Token) (r : List L.Token) (v : A) → k ∷ r ≡ a ++ b → spells_in L R p a v → IsTrue (has (L.class k) (first_of L C p)) ⊎ (IsTrue (empty_of L C p) × (b ≡ k ∷ r))
  lead_spelled p f [] b k r v e s = inr (spell_empty p v s, sym e)
  lead_spelled p f (x ∷ a) b k r v e s =
      let same : x ≡ k = cc in
      inl (f k a (spell_front p (k ∷ a) v (subst (λ y. spells_in L R p (y ∷ a) v) same s)))

  pub lead_each : {A : Type 0} → (p : PartOf L A) → IsTrue (not (empty_of L C p)) → ((k : L.Token) (r : List L.Token) → front_in L R F p (k ∷ r) → IsTrue (has (L.class k) (first_of L C p))) →
      (k : L.Token) (r : List L.Token) (vs : List A) → Each (spells_in L R p) (k ∷ r) vs → IsTrue (has (L.class k) (first_of L C p))
  lead_each p n f k r [] h = absurd (cc)
  lead_each p n f k r (v ∷ vs) h = elim (lead_spelled p f h.0 h.1 k r v h.2 h.3) [ inl i ↦ i | inr i ↦ absurd (not_both (empty_of L C p) n i.0) ]

  pub lead_many : {A : Type 0} → (p : PartOf L A) → IsTrue (not (empty_of L C p)) → ((k : L.Token) (r : List L.Token) → front_in L R F p (k ∷ r) → IsTrue (has (L.class k) (first_of L C p))) →
      (k : L.Token) (r a b : List L.Token) (vs : List A) → k ∷ r ≡ a ++ b → Each (spells_in L R p) a vs → front_in L R F p b → IsTrue (has (L.class k) (first_of L C p))
  lead_many p n f k r [] b vs e s g = f k r (subst (λ u. front_in L R F p u) (sym e) g)
  lead_many p n f k r (x ∷ a) b vs e s g =
      let same : x ≡ k = cc in
      lead_each p n f k a vs (subst (λ y. Each (spells_in L R p) (y ∷ a) vs) same s)

  pub front_first : {A : Type 0} → (p : PartOf L A) → Good L C p → (k : L.Token) (r : List L.Token) → front_in L R F p (k ∷ r) → IsTrue (has (L.class k) (first_of L C p))
  front_first (one cs) g k r h = elim h [
    | inl e ↦ absurd (cc)
    | inr i ↦ let e = i.1 in let same : i.0 ≡ k = cc in subst (λ y. IsTrue (has (L.class y) cs)) same i.2
  ]
  front_first (name x) g k r h = laws.first x k r h
  front_first nothing g k r h = absurd (cc)
  front_first (seq p q) g k r h = elim h [
    | inl i ↦ has-left (L.class k) (first_of L C p) (if empty_of L C p then first_of L C q else []) (front_first p (good_left L C p q g) k r i)
    | inr i ↦ elim (lead_spelled p (front_first p (good_left L C p q g)) i.0 i.1 k r i.2 i.3 i.4) [
      | inl j ↦ has-left (L.class k) (first_of L C p) (if empty_of L C p then first_of L C q else []) j
      | inr j ↦ has-right (L.class k) (first_of L C p) (if empty_of L C p then first_of L C q else [])
          (has-when (L.class k) (empty_of L C p) (first_of L C q) j.0 (front_first q (good_right L C p q g) k r (subst (λ u. front_in L R F q u) j.1 i.5)))
    ]
  ]
  front_first (alt p q) g k r h = elim h [
    | inl i ↦ has-left (L.class k) (first_of L C p) (first_of L C q) (front_first p (alt_left L C p q g) k r i)
    | inr i ↦ has-right (L.class k) (first_of L C p) (first_of L C q) (front_first q (alt_right L C p q g) k r i)
  ]
  front_first (fork p q) g k r h = elim h [
    | inl i ↦ has-left (L.class k) (first_of L C p) (first_of L C q) (front_first p (fork_is L C p q g).left k r i)
    | inr i ↦ has-right (L.class k) (first_of L C p) (first_of L C q) (front_first q (fork_is L C p q g).right k r i)
  ]
  front_first (many p) g k r h = lead_many p (many_full L C p g) (front_first p (many_part L C p g)) k r h.0 h.1 h.2 h.3 h.4 h.5
  front_first (tailed p closed q) g k r h = elim h [
    | inl i ↦ front_first p (tailed_is L C p closed q g).left k r i
    | inr i ↦ elim (lead_spelled p (front_first p (tailed_is L C p closed q g).left) i.0 i.1 k r i.2 i.3 i.4) [
      | inl j ↦ j
      | inr j ↦ absurd (not_both (empty_of L C p) (tailed_is L C p closed q g).full j.0)
    ]
  ]
  front_first (kept p) g k r h = front_first p g k r h
  front_first (give f p) g k r h = front_first p g k r h

  -- ---- second tokens

  alone_each : {A : Type 0} → (p : PartOf L A) → IsTrue (not (empty_of L C p)) → (k : L.Token) → ((v : A) → spells_in L R p (k ∷ []) v → IsTrue (alone_of L C p)) → (vs : List A) → Each (spells_in L R p) (k ∷ []) vs → IsTrue (alone_of L C p)
  alone_each p n k f [] h = absurd (cc)
  alone_each p n k f (v ∷ vs) h = elim (one_split k h.0 h.1 h.2) [
    | inl i ↦ absurd (not_both (empty_of L C p) n (spell_empty p v (subst (λ a. spells_in L R p a v) i.0 h.3)))
    | inr i ↦ f v (subst (λ a. spells_in L R p a v) i.0 h.3)
  ]

  alone_tail : {A B : Type 0} → (p : PartOf L A) (closed : A → Bool) (q : PartOf L B) → IsTrue (not (empty_of L C p)) → (k : L.Token) → ((v : A) → spells_in L R p (k ∷ []) v → IsTrue (alone_of L C p)) →
      (v : A) (w : Option B) → Tail (spells_in L R p) closed (spells_in L R q) (k ∷ []) v w → IsTrue (alone_of L C p)
  alone_tail p closed q n k f v None h = f v h
  alone_tail p closed q n k f v (Some w) h = elim (one_split k h.0 h.1 h.2) [
    | inl i ↦ absurd (not_both (empty_of L C p) n (spell_empty p v (subst (λ a. spells_in L R p a v) i.0 h.3)))
    | inr i ↦ f v (subst (λ a. spells_in L R p a v) i.0 h.3)
  ]

  pub spell_alone : {A : Type 0} → (p : PartOf L A) → Good L C p → (k : L.Token) (v : A) → IsTrue (has (L.class k) C.shared) → spells_in L R p (k ∷ []) v → IsTrue (alone_of L C p)
  spell_alone (one cs) g k v s h =
      let e = h.0 in
      let same : v ≡ k = cc in
      meets (L.class k) cs C.shared (subst (λ y. IsTrue (has (L.class y) cs)) same h.1) s
  spell_alone (name x) g k v s h = laws.alone x k v s h
  spell_alone nothing g k v s h = absurd (cc)
  spell_alone (seq p q) g k v s h = elim (one_split k h.0 h.1 h.2) [
    | inl i ↦ or_right (alone_of L C p && empty_of L C q) (empty_of L C p && alone_of L C q) (both (empty_of L C p) (alone_of L C q)
        (spell_empty p v.0 (subst (λ a. spells_in L R p a v.0) i.0 h.3)) (spell_alone q (good_right L C p q g) k v.1 s (subst (λ a. spells_in L R q a v.1) i.1 h.4)))
    | inr i ↦ or_left (alone_of L C p && empty_of L C q) (empty_of L C p && alone_of L C q) (both (alone_of L C p) (empty_of L C q)
        (spell_alone p (good_left L C p q g) k v.0 s (subst (λ a. spells_in L R p a v.0) i.0 h.3)) (spell_empty q v.1 (subst (λ a. spells_in L R q a v.1) i.1 h.4)))
  ]
  spell_alone (alt p q) g k v s h = elim h
      [ inl i ↦ or_left (alone_of L C p) (alone_of L C q) (spell_alone p (alt_left L C p q g) k v s i) | inr i ↦ or_right (alone_of L C p) (alone_of L C q) (spell_alone q (alt_right L C p q g) k v s i) ]
  spell_alone (fork p q) g k v s h = elim h
      [ inl i ↦ or_left (alone_of L C p) (alone_of L C q) (spell_alone p (fork_is L C p q g).left k v s i) | inr i ↦ or_right (alone_of L C p) (alone_of L C q) (spell_alone q (fork_is L C p q g).right k v s i) ]
  spell_alone (many p) g k vs s h = alone_each p (many_full L C p g) k (λ v i. spell_alone p (many_part L C p g) k v s i) vs h
  spell_alone (tailed p closed q) g k v s h = alone_tail p closed q (tailed_is L C p closed q g).full k (λ v i. spell_alone p (tailed_is L C p closed q g).left k v s i) v.0 v.1 h
  spell_alone (kept p) g k v s h = spell_alone p g k v.1 s h.1
  spell_alone (give f p) g k v s h = spell_alone p g k h.0 s h.2

  second_many : {A : Type 0} → (p : PartOf L A) → Good L C (many p) → (k y : L.Token) (r : List L.Token) → IsTrue (has (L.class k) C.shared) → ((r : List L.Token) → front_in L R F p (k ∷ y ∷ r) → IsTrue (has (L.class y) (second_of L C p))) →
      (a b : List L.Token) (vs : List A) → k ∷ y ∷ r ≡ a ++ b → Each (spells_in L R p) a vs → front_in L R F p b → IsTrue (has (L.class y) (second_of L C p ++ (if alone_of L C p then first_of L C p else [])))
  second_many p g k y r s f a b [] e t h =
      let only : k ∷ y ∷ r ≡ b = subst (λ w. k ∷ y ∷ r ≡ w ++ b) t e in
      has-left (L.class y) (second_of L C p) (if alone_of L C p then first_of L C p else []) (f r (subst (λ w. front_in L R F p w) (sym only) h))
  second_many p g k y r s f a b (v ∷ vs) e t h =
      elim (two_split k y r t.0 (t.1 ++ b) (e ∙ (ap (λ w. w ++ b) t.2 ∙ append_assoc t.0 t.1 b))) [
        | inl i ↦ absurd (not_both (empty_of L C p) (many_full L C p g) (spell_empty p v (subst (λ w. spells_in L R p w v) i.0 t.3)))
        | inr i ↦ elim i [
          | inl j ↦ has-right (L.class y) (second_of L C p) (if alone_of L C p then first_of L C p else []) (has-when (L.class y) (alone_of L C p) (first_of L C p)
              (spell_alone p (many_part L C p g) k v s (subst (λ w. spells_in L R p w v) j.0 t.3))
              (lead_many p (many_full L C p g) (front_first p (many_part L C p g)) y r t.1 b vs (sym j.1) t.4 h))
          | inr j ↦ has-left (L.class y) (second_of L C p) (if alone_of L C p then first_of L C p else []) (f j.0 (spell_front p (k ∷ y ∷ j.0) v (subst (λ w. spells_in L R p w v) j.1 t.3)))
        ]
      ]

  pub front_second : {A : Type 0} → (p : PartOf L A) → Good L C p → (k y : L.Token) (r : List L.Token) → IsTrue (has (L.class k) C.shared) → front_in L R F p (k ∷ y ∷ r) → IsTrue (has (L.class y) (second_of L C p))
  front_second (one cs) g k y r s h = elim h [ inl e ↦ absurd (cc) | inr i ↦ absurd (let e = i.1 in cc) ]
  front_second (name x) g k y r s h = laws.second x k y r s h
  front_second nothing g k y r s h = absurd (cc)
  front_second (seq p q) g k y r s h = elim h [
    | inl i ↦ has-left (L.class y) (second_of L C p) rest (front_second p (good_left L C p q g) k y r s i)
    | inr i ↦ elim (two_split k y r i.0 i.1 i.3) [
      | inl j ↦ has-right (L.class y) (second_of L C p) rest (has-right (L.class y) (if alone_of L C p then first_of L C q else []) (if empty_of L C p then second_of L C q else [])
          (has-when (L.class y) (empty_of L C p) (second_of L C q) (spell_empty p i.2 (subst (λ a. spells_in L R p a i.2) j.0 i.4))
          (front_second q (good_right L C p q g) k y r s (subst (λ b. front_in L R F q b) j.1 i.5))))
      | inr j ↦ elim j [
        | inl l ↦ has-right (L.class y) (second_of L C p) rest (has-left (L.class y) (if alone_of L C p then first_of L C q else []) (if empty_of L C p then second_of L C q else [])
            (has-when (L.class y) (alone_of L C p) (first_of L C q) (spell_alone p (good_left L C p q g) k i.2 s (subst (λ a. spells_in L R p a i.2) l.0 i.4))
            (front_first q (good_right L C p q g) y r (subst (λ b. front_in L R F q b) l.1 i.5))))
        | inr l ↦ has-left (L.class y) (second_of L C p) rest (front_second p (good_left L C p q g) k y l.0 s (spell_front p (k ∷ y ∷ l.0) i.2 (subst (λ a. spells_in L R p a i.2) l.1 i.4)))
      ]
    ]
  ]
    where
      rest : List ℕ
      rest = (if alone_of L C p then first_of L C q else []) ++ (if empty_of L C p then second_of L C q else [])
  front_second (alt p q) g k y r s h = elim h [
    | inl i ↦ has-left (L.class y) (second_of L C p) (second_of L C q) (front_second p (alt_left L C p q g) k y r s i)
    | inr i ↦ has-right (L.class y) (second_of L C p) (second_of L C q) (front_second q (alt_right L C p q g) k y r s i)
  ]
  front_second (fork p q) g k y r s h = elim h [
    | inl i ↦ has-left (L.class y) (second_of L C p) (second_of L C q) (front_second p (fork_is L C p q g).left k y r s i)
    | inr i ↦ has-right (L.class y) (second_of L C p) (second_of L C q) (front_second q (fork_is L C p q g).right k y r s i)
  ]
  front_second (many p) g k y r s h = second_many p g k y r s (λ t i. front_second p (many_part L C p g) k y t s i) h.0 h.1 h.2 h.3 h.4 h.5
  front_second (tailed p closed q) g k y r s h = elim h [
    | inl i ↦ has-left (L.class y) (second_of L C p) (if alone_of L C p then first_of L C q else []) (front_second p (tailed_is L C p closed q g).left k y r s i)
    | inr i ↦ elim (two_split k y r i.0 i.1 i.3) [
      | inl j ↦ absurd (not_both (empty_of L C p) (tailed_is L C p closed q g).full (spell_empty p i.2 (subst (λ a. spells_in L R p a i.2) j.0 i.4)))
      | inr j ↦ elim j [
        | inl l ↦ has-right (L.class y) (second_of L C p) (if alone_of L C p then first_of L C q else [])
            (has-when (L.class y) (alone_of L C p) (first_of L C q) (spell_alone p (tailed_is L C p closed q g).left k i.2 s (subst (λ a. spells_in L R p a i.2) l.0 i.4))
            (front_first q (tailed_is L C p closed q g).right y r (subst (λ b. front_in L R F q b) l.1 i.6)))
        | inr l ↦ has-left (L.class y) (second_of L C p) (if alone_of L C p then first_of L C q else []) (front_second p (tailed_is L C p closed q g).left k y l.0 s (spell_front p (k ∷ y ∷ l.0) i.2 (subst (λ a. spells_in L R p a i.2) l.1 i.4)))
      ]
    ]
  ]
  front_second (kept p) g k y r s h = front_second p g k y r s h
  front_second (give f p) g k y r s h = front_second p g k y r s h
