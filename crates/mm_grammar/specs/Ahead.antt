-- Why one token ahead decides, and two at a fork. These are claims on a language, which are checked against its
-- rules; what its parts spell doesn't rest on them. Own.
use Rattle.std.specs.Prelude.{◌≡◌, ℕ, Bool, true, false, not, ◌&&◌, ◌||◌, if◌then◌else◌, IsTrue, List, [], ◌∷◌, ◌++◌, ◌⊎◌, Option, Some, None}
use Rattle.mm_grammar.specs.Grammar.{one, name, nothing, seq, alt, fork, many, tailed, kept, give, Language, PartOf, has}

-- The two have no class together.
abbrev pub disjoint : List ℕ → List ℕ → Bool
disjoint [] b = true
disjoint (c ∷ a) b = not (has c b) && disjoint a b

-- Each class of the one is in the other.
abbrev pub within : List ℕ → List ℕ → Bool
within [] b = true
within (c ∷ a) b = has c b && within a b

-- Each class that the two have together is in the third.
abbrev pub meet_within : List ℕ → List ℕ → List ℕ → Bool
meet_within [] b s = true
meet_within (c ∷ a) b s = (not (has c b) || has c s) && meet_within a b s

-- Of the texts and fronts of each name:
pub record Claims (L : Language) : Type 0 where
  -- the classes of their first tokens
  pub first : L.Name → List ℕ
  -- the classes of the tokens that can follow a whole text within a longer front
  pub more : L.Name → List ℕ
  -- the same for the texts with this value
  pub after : (x : L.Name) → L.Value x → List ℕ
  -- whether no token is a text
  pub empty : L.Name → Bool
  -- the classes of first tokens after which a second one decides; where a front begins with one of them, the
  -- classes of its second token, and whether such a token alone is a text
  pub shared : List ℕ
  pub second : L.Name → List ℕ
  pub alone : L.Name → Bool

-- The claims of a language without forks and tails.
abbrev pub plain : (L : Language) → (L.Name → List ℕ) → (L.Name → List ℕ) → (L.Name → Bool) → Claims L
plain L first more empty = record { first = first; more = more; after = λ x v. more x; empty = empty; shared = []; second = λ x. []; alone = λ x. false }

-- One of the values has this property.
abbrev pub Some_of : {A : Type 0} → (A → Type 0) → List A → Type 0
Some_of P [] = ⊥
Some_of P (v ∷ vs) = P v ⊎ Some_of P vs

-- A token of the class can follow the value, or, where there is one, the value of the tail.
abbrev pub AtTail : {A B : Type 0} → (A → Type 0) → Type 0 → (B → Type 0) → A → Option B → Type 0
AtTail P first Q v None = P v ⊎ first
AtTail P first Q v (Some w) = Q w

module _ (L : Language) (C : Claims L) where
  abbrev pub empty_of : {A : Type 0} → PartOf L A → Bool
  empty_of (one cs) = false
  empty_of (name x) = C.empty x
  empty_of nothing = true
  empty_of (seq p q) = empty_of p && empty_of q
  empty_of (alt p q) = empty_of p || empty_of q
  empty_of (fork p q) = empty_of p || empty_of q
  empty_of (many p) = true
  empty_of (tailed p closed q) = empty_of p
  empty_of (kept p) = empty_of p
  empty_of (give f p) = empty_of p

  abbrev pub first_of : {A : Type 0} → PartOf L A → List ℕ
  first_of (one cs) = cs
  first_of (name x) = C.first x
  first_of nothing = []
  first_of (seq p q) = first_of p ++ (if empty_of p then first_of q else [])
  first_of (alt p q) = first_of p ++ first_of q
  first_of (fork p q) = first_of p ++ first_of q
  first_of (many p) = first_of p
  first_of (tailed p closed q) = first_of p
  first_of (kept p) = first_of p
  first_of (give f p) = first_of p

  abbrev pub more_of : {A : Type 0} → PartOf L A → List ℕ
  more_of (one cs) = []
  more_of (name x) = C.more x
  more_of nothing = []
  more_of (seq p q) = more_of q ++ (if empty_of q then more_of p else [])
  more_of (alt p q) = (more_of p ++ more_of q) ++ ((if empty_of p then first_of q else []) ++ (if empty_of q then first_of p else []))
  more_of (fork p q) = more_of p ++ more_of q
  more_of (many p) = more_of p ++ first_of p
  more_of (tailed p closed q) = (more_of p ++ first_of q) ++ more_of q
  more_of (kept p) = more_of p
  more_of (give f p) = more_of p

  -- A token of class k can follow a text of the part with this value, within a longer front.
  abbrev pub Follows : {A : Type 0} → PartOf L A → A → ℕ → Type 0
  Follows (one cs) v k = ⊥
  Follows (name x) v k = IsTrue (has k (C.more x)) × IsTrue (has k (C.after x v))
  Follows nothing v k = ⊥
  Follows (seq p q) v k = Follows q v.1 k ⊎ (IsTrue (empty_of q) × Follows p v.0 k)
  Follows (alt p q) v k = (Follows p v k ⊎ Follows q v k) ⊎ ((IsTrue (empty_of p) × IsTrue (has k (first_of q))) ⊎ (IsTrue (empty_of q) × IsTrue (has k (first_of p))))
  Follows (fork p q) v k = Follows p v k ⊎ Follows q v k
  Follows (many p) vs k = Some_of (λ v. Follows p v k) vs ⊎ IsTrue (has k (first_of p))
  Follows (tailed p closed q) v k = AtTail (λ a. Follows p a k) (IsTrue (has k (first_of q))) (λ w. Follows q w k) v.0 v.1
  Follows (kept p) v k = Follows p v.1 k
  Follows (give {A} f p) v k = (w : A) × (v ≡ f w) × Follows p w k

  -- whether a token of a shared class is a text
  abbrev pub alone_of : {A : Type 0} → PartOf L A → Bool
  alone_of (one cs) = not (disjoint cs C.shared)
  alone_of (name x) = C.alone x
  alone_of nothing = false
  alone_of (seq p q) = (alone_of p && empty_of q) || (empty_of p && alone_of q)
  alone_of (alt p q) = alone_of p || alone_of q
  alone_of (fork p q) = alone_of p || alone_of q
  alone_of (many p) = alone_of p
  alone_of (tailed p closed q) = alone_of p
  alone_of (kept p) = alone_of p
  alone_of (give f p) = alone_of p

  -- the classes of second tokens, after a first one of a shared class
  abbrev pub second_of : {A : Type 0} → PartOf L A → List ℕ
  second_of (one cs) = []
  second_of (name x) = C.second x
  second_of nothing = []
  second_of (seq p q) = second_of p ++ ((if alone_of p then first_of q else []) ++ (if empty_of p then second_of q else []))
  second_of (alt p q) = second_of p ++ second_of q
  second_of (fork p q) = second_of p ++ second_of q
  second_of (many p) = second_of p ++ (if alone_of p then first_of p else [])
  second_of (tailed p closed q) = second_of p ++ (if alone_of p then first_of q else [])
  second_of (kept p) = second_of p
  second_of (give f p) = second_of p

  -- One token ahead decides in the part, and two at its forks.
  abbrev pub is_good : {A : Type 0} → PartOf L A → Bool
  is_good (one cs) = true
  is_good (name x) = true
  is_good nothing = true
  is_good (seq p q) = (is_good p && is_good q) && disjoint (more_of p) (first_of q)
  is_good (alt p q) = (is_good p && is_good q) && (disjoint (first_of p) (first_of q) && not (empty_of p && empty_of q))
  is_good (fork p q) = (is_good p && is_good q) && ((not (empty_of p || empty_of q) && not (alone_of p || alone_of q)) && (meet_within (first_of p) (first_of q) C.shared && disjoint (second_of p) (second_of q)))
  is_good (many p) = is_good p && (not (empty_of p) && disjoint (more_of p) (first_of p))
  is_good (tailed p closed q) = (is_good p && is_good q) && (not (empty_of p) && not (empty_of q))
  is_good (kept p) = is_good p
  is_good (give f p) = is_good p

  -- No tail's first token can follow what stands closed before it.
  abbrev pub Sealed : {A : Type 0} → PartOf L A → Type 0
  Sealed (one cs) = Unit {0}
  Sealed (name x) = Unit {0}
  Sealed nothing = Unit {0}
  Sealed (seq p q) = Sealed p × Sealed q
  Sealed (alt p q) = Sealed p × Sealed q
  Sealed (fork p q) = Sealed p × Sealed q
  Sealed (many p) = Sealed p
  Sealed (tailed {A} p closed q) = Sealed p × Sealed q × ((v : A) (k : ℕ) → IsTrue (closed v) → Follows p v k → IsTrue (has k (first_of q)) → ⊥)
  Sealed (kept p) = Sealed p
  Sealed (give f p) = Sealed p

  -- Both together: what the laws ask of a part.
  abbrev pub Good : {A : Type 0} → PartOf L A → Type 0
  Good p = IsTrue (is_good p) × Sealed p

  -- The part has no tails, so that it is sealed.
  abbrev pub has_no_tail : {A : Type 0} → PartOf L A → Bool
  has_no_tail (one cs) = true
  has_no_tail (name x) = true
  has_no_tail nothing = true
  has_no_tail (seq p q) = has_no_tail p && has_no_tail q
  has_no_tail (alt p q) = has_no_tail p && has_no_tail q
  has_no_tail (fork p q) = has_no_tail p && has_no_tail q
  has_no_tail (many p) = has_no_tail p
  has_no_tail (tailed p closed q) = false
  has_no_tail (kept p) = has_no_tail p
  has_no_tail (give f p) = has_no_tail p

  -- The rule of a name is good, and the claims hold of it.
  abbrev pub fits : L.Name → Bool
  fits x = is_good (L.rule x) && (within (first_of (L.rule x)) (C.first x) && (within (more_of (L.rule x)) (C.more x) && ((not (empty_of (L.rule x)) || C.empty x) && (within (second_of (L.rule x)) (C.second x) && (not (alone_of (L.rule x)) || C.alone x)))))

  -- The claims fit the language: what is computed of each rule, and what its values say.
  pub record Fit : Type 0 where
    pub fits_each : (x : L.Name) → IsTrue (fits x)
    pub sealed : (x : L.Name) → Sealed (L.rule x)
    pub after : (x : L.Name) (v : L.Value x) (k : ℕ) → Follows (L.rule x) v k → IsTrue (has k (C.after x v))
