-- A grammar as data. A part is an expression over tokens and rules, and what it spells has values of a type. Own.
use Rattle.std.specs.Prelude.{◌≡◌, ℕ, zero, suc, Bool, false, ◌||◌, ◌==◌, IsTrue, List, [], ◌∷◌, ◌++◌, ◌⊎◌, Option, Some, None}

pub data Part (T X : Type 0) (V : X → Type 0) : Type 0 → Type 1 where
  -- a token of one of these classes
  one : List ℕ → Part T X V T
  -- what the rule of this name spells
  name : (x : X) → Part T X V (V x)
  -- no token
  nothing : Part T X V (Unit {0})
  -- the one and then the other
  seq : {A B : Type 0} → Part T X V A → Part T X V B → Part T X V (A × B)
  -- the one or the other, as the first token tells
  alt : {A : Type 0} → Part T X V A → Part T X V A → Part T X V A
  -- the one or the other, as the first two tokens tell
  fork : {A : Type 0} → Part T X V A → Part T X V A → Part T X V A
  -- any number of times
  many : {A : Type 0} → Part T X V A → Part T X V (List A)
  -- the first, and where its value is closed maybe the second after it
  tailed : {A B : Type 0} → Part T X V A → (A → Bool) → Part T X V B → Part T X V (A × Option B)
  -- the same, with its tokens
  kept : {A : Type 0} → Part T X V A → Part T X V (List T × A)
  -- the same with another value, which the function gives
  give : {A B : Type 0} → (A → B) → Part T X V A → Part T X V B

-- a part at most once
abbrev pub opt : {T X : Type 0} {V : X → Type 0} {A : Type 0} → Part T X V A → Part T X V (Option A)
opt p = alt (give (λ v. Some v) p) (give (λ u. None) nothing)

-- A language: its tokens, each of a class; and its names, each with a rule, which gives values of the name's type.
pub record Language : Type 1 where
  pub Token : Type 0
  pub Name : Type 0
  pub Value : Name → Type 0
  pub class : Token → ℕ
  pub rule : (x : Name) → Part Token Name Value (Value x)

abbrev pub PartOf : Language → Type 0 → Type 1
PartOf L A = Part L.Token L.Name L.Value A

-- The class is among these.
abbrev pub has : ℕ → List ℕ → Bool
has k [] = false
has k (c ∷ cs) = k == c || has k cs

-- The list is the texts of these values, one after another.
abbrev pub Each : {T A : Type 0} → (List T → A → Type 0) → List T → List A → Type 0
Each P ts [] = ts ≡ []
Each {T} P ts (v ∷ vs) = (a : List T) × (b : List T) × (ts ≡ a ++ b) × P a v × Each P b vs

-- The list is a text of the value; or of the value, which is closed, and then of the one after it.
abbrev pub Tail : {T A B : Type 0} → (List T → A → Type 0) → (A → Bool) → (List T → B → Type 0) → List T → A → Option B → Type 0
Tail P closed Q ts v None = P ts v
Tail {T} P closed Q ts v (Some w) = (a : List T) × (b : List T) × (ts ≡ a ++ b) × P a v × IsTrue (closed v) × Q b w

module _ (L : Language) where
  -- What a part spells, where R says what the rules spell.
  abbrev pub spells_in : (R : (x : L.Name) → List L.Token → L.Value x → Type 0) → {A : Type 0} → PartOf L A → List L.Token → A → Type 0
  spells_in R (one cs) ts t = (ts ≡ t ∷ []) × IsTrue (has (L.class t) cs)
  spells_in R (name x) ts v = R x ts v
  spells_in R nothing ts v = ts ≡ []
  spells_in R (seq p q) ts v = (a : List L.Token) × (b : List L.Token) × (ts ≡ a ++ b) × spells_in R p a v.0 × spells_in R q b v.1
  spells_in R (alt p q) ts v = spells_in R p ts v ⊎ spells_in R q ts v
  spells_in R (fork p q) ts v = spells_in R p ts v ⊎ spells_in R q ts v
  spells_in R (many p) ts vs = Each (spells_in R p) ts vs
  spells_in R (tailed p closed q) ts v = Tail (spells_in R p) closed (spells_in R q) ts v.0 v.1
  spells_in R (kept p) ts v = (v.0 ≡ ts) × spells_in R p ts v.1
  spells_in R (give {A} f p) ts v = (w : A) × (v ≡ f w) × spells_in R p ts w

  -- The fronts of a part, where R says what the rules spell and F what their fronts are: what the first parts
  -- spell as a whole, and then a front of the next part, which may be nothing.
  abbrev pub front_in : (R : (x : L.Name) → List L.Token → L.Value x → Type 0) → (F : (x : L.Name) → List L.Token → Type 0) → {A : Type 0} → PartOf L A → List L.Token → Type 0
  front_in R F (one cs) ts = (ts ≡ []) ⊎ ((t : L.Token) × (ts ≡ t ∷ []) × IsTrue (has (L.class t) cs))
  front_in R F (name x) ts = F x ts
  front_in R F nothing ts = ts ≡ []
  front_in R F (seq {A} p q) ts = front_in R F p ts ⊎ ((a : List L.Token) × (b : List L.Token) × (v : A) × (ts ≡ a ++ b) × spells_in R p a v × front_in R F q b)
  front_in R F (alt p q) ts = front_in R F p ts ⊎ front_in R F q ts
  front_in R F (fork p q) ts = front_in R F p ts ⊎ front_in R F q ts
  front_in R F (many {A} p) ts = (a : List L.Token) × (b : List L.Token) × (vs : List A) × (ts ≡ a ++ b) × Each (spells_in R p) a vs × front_in R F p b
  front_in R F (tailed {A} p closed q) ts = front_in R F p ts ⊎ ((a : List L.Token) × (b : List L.Token) × (v : A) × (ts ≡ a ++ b) × spells_in R p a v × IsTrue (closed v) × front_in R F q b)
  front_in R F (kept p) ts = front_in R F p ts
  front_in R F (give f p) ts = front_in R F p ts

  -- The same with derivations at most n rules deep.
  abbrev pub spells_at : ℕ → (x : L.Name) → List L.Token → L.Value x → Type 0
  spells_at zero x ts v = ⊥
  spells_at (suc n) x ts v = spells_in (spells_at n) (L.rule x) ts v

  abbrev pub front_at : ℕ → (x : L.Name) → List L.Token → Type 0
  front_at zero x ts = ts ≡ []
  front_at (suc n) x ts = front_in (spells_at n) (front_at n) (L.rule x) ts

  -- What a rule spells and its fronts, at any depth.
  abbrev pub RuleSpells : (x : L.Name) → List L.Token → L.Value x → Type 0
  RuleSpells x ts v = (n : ℕ) × spells_at n x ts v

  abbrev pub RuleFront : (x : L.Name) → List L.Token → Type 0
  RuleFront x ts = (n : ℕ) × front_at n x ts

  -- The tokens are a text of the part, with this value.
  abbrev pub Spells : {A : Type 0} → PartOf L A → List L.Token → A → Type 0
  Spells p ts v = spells_in RuleSpells p ts v

  -- The tokens are a front of the part: what a text of it may begin with.
  abbrev pub Front : {A : Type 0} → PartOf L A → List L.Token → Type 0
  Front p ts = front_in RuleSpells RuleFront p ts

  -- ---- reading from the left

  -- The tokens begin with one of these classes, or with none of them.
  abbrev pub Begins : List ℕ → List L.Token → Type 0
  Begins cs ts = (k : L.Token) × (r : List L.Token) × (ts ≡ k ∷ r) × IsTrue (has (L.class k) cs)

  abbrev pub Avoids : List ℕ → List L.Token → Type 0
  Avoids cs ts = (k : L.Token) (r : List L.Token) → ts ≡ k ∷ r → IsTrue (has (L.class k) cs) → ⊥

  -- No front goes on from used with the first token of rest.
  abbrev pub Stuck : {A : Type 0} → PartOf L A → List L.Token → List L.Token → Type 0
  Stuck p used rest = (k : L.Token) (r tail : List L.Token) → rest ≡ k ∷ r → Front p (used ++ k ∷ tail) → ⊥

  -- The longest front of the tokens is a text of the part: its value, and what follows it.
  pub record Reads {A : Type 0} (p : PartOf L A) (ts : List L.Token) (v : A) (rest : List L.Token) : Type 0 where
    pub used : List L.Token
    pub cut : ts ≡ used ++ rest
    pub spelled : Spells p used v
    pub stuck : Stuck p used rest

  -- The longest front of the tokens is no text of the part: what follows it.
  pub record Fails {A : Type 0} (p : PartOf L A) (ts : List L.Token) (rest : List L.Token) : Type 0 where
    pub used : List L.Token
    pub cut : ts ≡ used ++ rest
    pub front : Front p used
    pub not_spelled : (v : A) → Spells p used v → ⊥
    pub stuck : Stuck p used rest
