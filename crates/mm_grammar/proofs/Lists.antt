-- Sets of classes, and two ways to cut one list.
use Rattle.std.proofs.Common.{◌≡◌, ℕ, Bool, true, false, not, ◌&&◌, ◌||◌, ◌==◌, if◌then◌else◌, IsTrue, List, [], ◌∷◌, ◌++◌, ◌⊎◌, inl, inr, refl, sym, arith, subst}
use Rattle.mm_grammar.specs.Grammar.{has}
use Rattle.mm_grammar.specs.Ahead.{disjoint, within, meet_within}

pub both : (a b : Bool) → IsTrue a → IsTrue b → IsTrue (a && b)
both true b x y = y
both false b x y = x

pub and_left : (a b : Bool) → IsTrue (a && b) → IsTrue a
and_left true b h = refl
and_left false b h = h

pub and_right : (a b : Bool) → IsTrue (a && b) → IsTrue b
and_right true b h = h
and_right false b h = absurd (cc)

pub or_left : (a b : Bool) → IsTrue a → IsTrue (a || b)
or_left true b h = refl
or_left false b h = absurd (cc)

pub or_right : (a b : Bool) → IsTrue b → IsTrue (a || b)
or_right true b h = refl
or_right false b h = h

pub or_cases : (a b : Bool) → IsTrue (a || b) → IsTrue a ⊎ IsTrue b
or_cases true b h = inl refl
or_cases false b h = inr h

pub not_both : (a : Bool) → IsTrue (not a) → IsTrue a → ⊥
not_both true h i = absurd (cc)
not_both false h i = absurd (cc)

pub has-left : (k : ℕ) (a b : List ℕ) → IsTrue (has k a) → IsTrue (has k (a ++ b))
has-left k [] b h = absurd (cc)
has-left k (c ∷ a) b h = elim (or_cases (k == c) (has k a) h) [ inl e ↦ or_left (k == c) (has k (a ++ b)) e | inr i ↦ or_right (k == c) (has k (a ++ b)) (has-left k a b i) ]

pub has-right : (k : ℕ) (a b : List ℕ) → IsTrue (has k b) → IsTrue (has k (a ++ b))
has-right k [] b h = h
has-right k (c ∷ a) b h = or_right (k == c) (has k (a ++ b)) (has-right k a b h)

pub same : (k c : ℕ) → IsTrue (k == c) → k ≡ c
same k c h = grind (arith, h)

pub apart : (k : ℕ) (a b : List ℕ) → IsTrue (disjoint a b) → IsTrue (has k a) → IsTrue (has k b) → ⊥
apart k [] b d h i = absurd (cc)
apart k (c ∷ a) b d h i = elim (or_cases (k == c) (has k a) h) [
  | inl e ↦ not_both (has c b) (and_left (not (has c b)) (disjoint a b) d) (subst (λ x. IsTrue (has x b)) (same k c e) i)
  | inr j ↦ apart k a b (and_right (not (has c b)) (disjoint a b) d) j i
]

pub has-within : (k : ℕ) (a b : List ℕ) → IsTrue (within a b) → IsTrue (has k a) → IsTrue (has k b)
has-within k [] b d h = absurd (cc)
has-within k (c ∷ a) b d h = elim (or_cases (k == c) (has k a) h) [
  | inl e ↦ subst (λ x. IsTrue (has x b)) (sym (same k c e)) (and_left (has c b) (within a b) d)
  | inr j ↦ has-within k a b (and_right (has c b) (within a b) d) j
]

pub has-when : (k : ℕ) (t : Bool) (a : List ℕ) → IsTrue t → IsTrue (has k a) → IsTrue (has k (if t then a else []))
has-when k true a t h = h
has-when k false a t h = absurd (cc)

-- Two cuts of one list are the same, or the one or the other comes first.
pub data Cuts {T : Type 0} (a b c d : List T) : Type 0 where
  equal : a ≡ c → b ≡ d → Cuts a b c d
  later : (k : T) (e : List T) → a ≡ c ++ k ∷ e → d ≡ k ∷ (e ++ b) → Cuts a b c d
  earlier : (k : T) (e : List T) → c ≡ a ++ k ∷ e → b ≡ k ∷ (e ++ d) → Cuts a b c d

pub cuts : {T : Type 0} → (a b c d : List T) → a ++ b ≡ c ++ d → Cuts a b c d
cuts [] b [] d h = equal refl h
cuts [] b (k ∷ c) d h = earlier k c refl h
cuts (k ∷ a) b [] d h = later k a refl (sym h)
cuts (x ∷ a) b (y ∷ c) d h =
    let head : x ≡ y = cc in
    let tail : a ++ b ≡ c ++ d = cc in
    elim (cuts a b c d tail) [
      | equal e f ↦ equal (cc) f
      | later k m e f ↦ later k m (cc) f
      | earlier k m e f ↦ earlier k m (cc) f
    ]

pub has-meet : (k : ℕ) (a b s : List ℕ) → IsTrue (meet_within a b s) → IsTrue (has k a) → IsTrue (has k b) → IsTrue (has k s)
has-meet k [] b s d h i = absurd (cc)
has-meet k (c ∷ a) b s d h i = elim (or_cases (k == c) (has k a) h) [
  | inl e ↦ elim (or_cases (not (has c b)) (has c s) (and_left (not (has c b) || has c s) (meet_within a b s) d)) [
    | inl n ↦ absurd (not_both (has c b) n (subst (λ x. IsTrue (has x b)) (same k c e) i))
    | inr j ↦ subst (λ x. IsTrue (has x s)) (sym (same k c e)) j
  ]
  | inr j ↦ has-meet k a b s (and_right (not (has c b) || has c s) (meet_within a b s) d) j i
]

-- a class of the two is no proof that they have none together
pub meets : (k : ℕ) (a b : List ℕ) → IsTrue (has k a) → IsTrue (has k b) → IsTrue (not (disjoint a b))
meets k a b h i = go (disjoint a b) refl
  where
    go : (t : Bool) → disjoint a b ≡ t → IsTrue (not t)
    go true e = absurd (apart k a b e h i)
    go false e = refl

pub has-split : (k : ℕ) (a b : List ℕ) → IsTrue (has k (a ++ b)) → IsTrue (has k a) ⊎ IsTrue (has k b)
has-split k [] b h = inr h
has-split k (c ∷ a) b h = elim (or_cases (k == c) (has k (a ++ b)) h) [
  | inl e ↦ inl (or_left (k == c) (has k a) e)
  | inr i ↦ elim (has-split k a b i) [ inl j ↦ inl (or_right (k == c) (has k a) j) | inr j ↦ inr j ]
]

pub not_either : (a b : Bool) → IsTrue (not (a || b)) → IsTrue (not a) × IsTrue (not b)
not_either true b h = absurd (cc)
not_either false b h = (refl, h)

pub when-true : (k : ℕ) (t : Bool) (a : List ℕ) → IsTrue (has k (if t then a else [])) → IsTrue t × IsTrue (has k a)
when-true k true a h = (refl, h)
when-true k false a h = absurd (cc)
