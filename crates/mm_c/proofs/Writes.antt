-- How a part of the grammar spells tokens with given texts: what is built up of `seq`, `give` and the like.
use Rattle.std.specs.Prelude.{Bool, true, map, flat_map}
use Rattle.mm_c.specs.WellFormed.{list_every}
use Rattle.mm_c.specs.Printing.{next_of, joined}
use Rattle.mm_c.proofs.Bools.{and_left, and_right}
use Rattle.std.proofs.Common.{codes, ◌≡◌, ℕ, List, [], ◌∷◌, ◌++◌, Option, Some, None, IsTrue, refl, sym, ap, ◌∙◌, inl, inr, subst}
use Rattle.mm_grammar.specs.Grammar.{one, name, nothing, seq, alt, many, give, opt, Spells, has}
use Rattle.mm_grammar.proofs.Closed.{fold_spells}
use Rattle.mm_c.specs.Tokens.{Token, classes, class_in}
use Rattle.mm_c.specs.Grammar.{P, Name, Value, texts, rule_of, w, ◌▸◌, ◌◂◌, as_, listed}

abbrev pub Words : Type 0
Words = List (List ℕ)

abbrev pub texts_in : List Token → Words
texts_in = map (λ (x : Token). x.text)

-- Tokens with these texts are a text of the part, with a value that has the property.
pub record Writes {A : Type 0} (p : P A) (ws : Words) (Q : A → Type 0) : Type 0 where
  pub by : (us : List Token) → texts_in us ≡ ws → (v : A) × Q v × Spells texts p us v

-- a list with the texts of two lists is two lists
pub split : (a b : Words) (us : List Token) → texts_in us ≡ a ++ b → (x : List Token) × (y : List Token) × (us ≡ x ++ y) × (texts_in x ≡ a) × (texts_in y ≡ b)
split [] b us e = ([], us, refl, refl, e)
split (t ∷ a) b [] e = absurd (cc)
split (t ∷ a) b (u ∷ us) e =
    let head : u.text ≡ t = cc in
    let tail : texts_in us ≡ a ++ b = cc in
    let r = split a b us tail in
    (u ∷ r.0, r.1, ap (λ l. u ∷ l) r.2, cc, r.4)

lone : (t : List ℕ) (us : List Token) → texts_in us ≡ t ∷ [] → (x : Token) × (us ≡ x ∷ []) × (x.text ≡ t)
lone t [] e = absurd (cc)
lone t (x ∷ []) e = (x, refl, cc)
lone t (x ∷ y ∷ us) e = absurd (let tail : texts_in (y ∷ us) ≡ [] = cc in cc)

-- a token of these classes
pub w_one : (cs : List ℕ) (t : List ℕ) → has (class_in classes t) cs ≡ true → Writes (one cs) (t ∷ []) (λ x. x.text ≡ t)
w_one cs t h = record { by = λ us e. let r = lone t us e in (r.0, r.2, (r.1, subst (λ z. IsTrue (has (class_in classes z) cs)) (sym r.2) h)) }

pub w_none : Writes nothing [] (λ v. Unit {0})
w_none = record { by = λ us e. (tt, tt, go us e) }
  where
    go : (us : List Token) → texts_in us ≡ [] → us ≡ []
    go [] e = refl
    go (u ∷ us) e = absurd (cc)

module _ {A B : Type 0} where
  pub w_seq : {p : P A} {q : P B} {a b : Words} {Q : A → Type 0} {R : B → Type 0} → Writes p a Q → Writes q b R → Writes (seq p q) (a ++ b) (λ v. Q v.0 × R v.1)
  w_seq {p} {q} {a} {b} h k = record {
    by = λ us e.
        let s = split a b us e in let x = h.by s.0 s.3 in let y = k.by s.1 s.4 in
        ((x.0, y.0), (x.1, y.1), (s.0, s.1, s.2, x.2, y.2));
  }

  pub w_give : {p : P A} {a : Words} {Q : A → Type 0} {R : B → Type 0} (f : A → B) → ((v : A) → Q v → R (f v)) → Writes p a Q → Writes (give f p) a R
  w_give f i h = record { by = λ us e. let x = h.by us e in (f x.0, i x.0 x.1, (x.0, refl, x.2)) }

module _ {A B : Type 0} where
  pub w_after : {p : P A} {q : P B} {a b : Words} {Q : A → Type 0} {R : B → Type 0} → Writes p a Q → Writes q b R → Writes (p ▸ q) (a ++ b) R
  w_after h k = w_give (λ v. v.1) (λ v r. r.1) (w_seq h k)

  pub w_before : {p : P A} {q : P B} {a b : Words} {Q : A → Type 0} {R : B → Type 0} → Writes p a Q → Writes q b R → Writes (p ◂ q) (a ++ b) Q
  w_before h k = w_give (λ v. v.0) (λ v r. r.0) (w_seq h k)

  pub w_as : {p : P A} {a : Words} {Q : A → Type 0} (x : B) → Writes p a Q → Writes (as_ x p) a (λ v. v ≡ x)
  w_as x h = w_give (λ v. x) (λ v r. refl) h

module _ {A : Type 0} where
  pub w_left : {p q : P A} {a : Words} {Q : A → Type 0} → Writes p a Q → Writes (alt p q) a Q
  w_left h = record { by = λ us e. let x = h.by us e in (x.0, x.1, inl x.2) }

  pub w_right : {p q : P A} {a : Words} {Q : A → Type 0} → Writes q a Q → Writes (alt p q) a Q
  w_right h = record { by = λ us e. let x = h.by us e in (x.0, x.1, inr x.2) }

  pub w_more : {p : P A} {a : Words} {Q R : A → Type 0} → ((v : A) → Q v → R v) → Writes p a Q → Writes p a R
  w_more i h = record { by = λ us e. let x = h.by us e in (x.0, i x.0 x.1, x.2) }

module _ {A : Type 0} where
  pub w_some : {p : P A} {a : Words} {Q : A → Type 0} {R : Option A → Type 0} → ((v : A) → Q v → R (Some v)) → Writes p a Q → Writes (opt p) a R
  w_some i h = w_left (w_give (λ v. Some v) i h)

  pub w_nothing : {p : P A} {R : Option A → Type 0} → R None → Writes (opt p) [] R
  w_nothing r = w_right (w_give (λ v. None) (λ v u. r) w_none)

pub w_name : (x : Name) {a : Words} {Q : Value x → Type 0} → Writes (rule_of x) a Q → Writes (name x) a Q
w_name x h = record { by = λ us e. let v = h.by us e in (v.0, v.1, fold_spells texts x us v.0 v.2) }

-- values with a property each, for a list of trees
abbrev pub EachIs : {X A : Type 0} → (X → A → Type 0) → List X → List A → Type 0
EachIs Q [] [] = Unit {0}
EachIs Q [] (v ∷ vs) = ⊥
EachIs Q (x ∷ xs) [] = ⊥
EachIs Q (x ∷ xs) (v ∷ vs) = Q x v × EachIs Q xs vs

none_of : (us : List Token) → texts_in us ≡ [] → us ≡ []
none_of [] e = refl
none_of (u ∷ us) e = absurd (cc)

module _ {A : Type 0} where
  pub w_many_none : {p : P A} {R : List A → Type 0} → R [] → Writes (many p) [] R
  w_many_none r = record { by = λ us e. ([], r, none_of us e) }

  pub w_many_more : {p : P A} {a b : Words} {Q : A → Type 0} {R S : List A → Type 0} → ((v : A) (vs : List A) → Q v → R vs → S (v ∷ vs)) → Writes p a Q → Writes (many p) b R → Writes (many p) (a ++ b) S
  w_many_more {a = a} {b = b} i h k = record {
    by = λ us e.
        let s = split a b us e in let v = h.by s.0 s.3 in let vs = k.by s.1 s.4 in
        (v.0 ∷ vs.0, i v.0 vs.0 v.1 vs.1, (s.0, s.1, s.2, v.2, vs.2));
  }

  pub w_words : {p : P A} {a b : Words} {Q : A → Type 0} → a ≡ b → Writes p a Q → Writes p b Q
  w_words e h = record { by = λ us f. h.by us (f ∙ sym e) }

-- as many of a part as trees in a list that pass a test
pub w_many : {X A : Type 0} (p : P A) (f : X → Words) (ok : X → Bool) (Q : X → A → Type 0) → ((x : X) → ok x ≡ true → Writes p (f x) (Q x)) → (xs : List X) → list_every ok xs ≡ true → Writes (many p) (flat_map f xs) (EachIs Q xs)
w_many p f ok Q h [] g = w_many_none tt
w_many p f ok Q h (x ∷ xs) g = w_many_more (λ v vs q r. (q, r)) (h x (and_left (ok x) (list_every ok xs) g)) (w_many p f ok Q h xs (and_right (ok x) (list_every ok xs) g))

pub each_same : {A : Type 0} (xs vs : List A) → EachIs (λ x v. v ≡ x) xs vs → vs ≡ xs
each_same [] [] h = refl
each_same [] (v ∷ vs) h = absurd h
each_same (x ∷ xs) [] h = absurd h
each_same (x ∷ xs) (v ∷ vs) h = let t = each_same xs vs h.1 in λ i. h.0 i ∷ t i

-- one or more, joined by commas
pub w_listed : {A : Type 0} (p : P A) (f : A → Words) (ok : A → Bool) → ((x : A) → ok x ≡ true → Writes p (f x) (λ v. v ≡ x)) → (x : A) (xs : List A) → list_every ok (x ∷ xs) ≡ true → Writes (listed p) (joined f (x ∷ xs)) (λ vs. vs ≡ x ∷ xs)
w_listed p f ok h x xs g =
    w_give (λ v. v.0 ∷ v.1) (λ v q. let t = each_same xs v.1 q.1 in λ i. q.0 i ∷ t i)
    (w_seq (h x (and_left (ok x) (list_every ok xs) g)) (w_many (w 27 ▸ p) (next_of f) ok (λ y v. v ≡ y) (λ y o. w_after (w_one (27 ∷ []) (codes ",") refl) (h y o)) xs (and_right (ok x) (list_every ok xs) g)))
