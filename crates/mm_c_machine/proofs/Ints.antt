-- Values that are all of type `int`.
use Rattle.std.proofs.Common.{◌≡◌, ℕ, zero, suc, ◌<◌, ◌≤◌, ◌+◌, true, false, ◌&&◌, List, [], ◌∷◌, length, get_or, drop, Some, None, refl, sym, ap, ◌∙◌, arith}
use Rattle.std.specs.Prelude.{ℤ}
use Rattle.mm_c.specs.declared.value.CValue.{CValue}
use Rattle.mm_c.specs.declared.value.CValue.TheVariants.{Int, Unsigned, Long, Null, At}
use Rattle.mm_c.specs.CMeaning.{ints_in, with_int}
use Rattle.mm_c_machine.specs.Answers.{are_ints, is_int_value}

-- the test of the values from one on
pub ints_step : (vs : List CValue) (i : ℕ) (d : CValue) → i < length vs → are_ints (drop i vs) ≡ (is_int_value (get_or vs i d) && are_ints (drop (i + 1) vs))
ints_step [] i d lt = absurd (let z : ⊥ = omega (arith, lt) in z)
ints_step (v ∷ vs) zero d lt = refl
ints_step (v ∷ vs) (suc i) d lt = let e : suc i + 1 ≡ suc (i + 1) = omega arith in ints_step vs i d (omega (arith, lt)) ∙ ap (λ j. is_int_value (get_or vs i d) && are_ints (drop j (v ∷ vs))) (sym e)

pub ints_end : (vs : List CValue) (i : ℕ) → length vs ≤ i → are_ints (drop i vs) ≡ true
ints_end [] zero le = refl
ints_end [] (suc i) le = refl
ints_end (v ∷ vs) zero le = absurd (let z : ⊥ = omega (arith, le) in z)
ints_end (v ∷ vs) (suc i) le = ints_end vs i (omega (arith, le))

pub int_goes : (vs : List CValue) (i : ℕ) (d : CValue) (z : ℤ) → i < length vs → get_or vs i d ≡ Int z → are_ints vs ≡ are_ints (drop i vs) → are_ints vs ≡ are_ints (drop (i + 1) vs)
int_goes vs i d z lt is h = h ∙ ints_step vs i d lt ∙ ap (λ v. is_int_value v && are_ints (drop (i + 1) vs)) is

not_int : (v : CValue) → ((z : ℤ) → v ≡ Int z → ⊥) → is_int_value v ≡ false
not_int (Int z) other = absurd (other z refl)
not_int (Unsigned n) other = refl
not_int (Long z) other = refl
not_int Null other = refl
not_int (At b o) other = refl

pub int_ends : (vs : List CValue) (i : ℕ) (d : CValue) → i < length vs → ((z : ℤ) → get_or vs i d ≡ Int z → ⊥) → are_ints vs ≡ are_ints (drop i vs) → are_ints vs ≡ false
int_ends vs i d lt other h = h ∙ ints_step vs i d lt ∙ ap (λ b. b && are_ints (drop (i + 1) vs)) (not_int (get_or vs i d) other)

-- the numbers, where the test holds
pub some_ints : (vs : List CValue) → are_ints vs ≡ true → (zs : List ℤ) × (ints_in vs ≡ Some zs)
some_ints [] h = ([], refl)
some_ints (Int z ∷ vs) h = let r = some_ints vs h in (z ∷ r.0, ap (with_int (Some z)) r.1)
some_ints (Unsigned n ∷ vs) h = cc
some_ints (Long z ∷ vs) h = cc
some_ints (Null ∷ vs) h = cc
some_ints (At b o ∷ vs) h = cc

pub no_ints : (vs : List CValue) → are_ints vs ≡ false → ints_in vs ≡ None
no_ints [] h = cc
no_ints (Int z ∷ vs) h = ap (with_int (Some z)) (no_ints vs h)
no_ints (Unsigned n ∷ vs) h = refl
no_ints (Long z ∷ vs) h = refl
no_ints (Null ∷ vs) h = refl
no_ints (At b o ∷ vs) h = refl

-- a value of a front is one of them
pub first_is_int : (vs : List CValue) (d : CValue) → are_ints vs ≡ true → 0 < length vs → ((z : ℤ) → get_or vs 0 d ≡ Int z → ⊥) → ⊥
first_is_int [] d t lt other = let x : ⊥ = omega (arith, lt) in x
first_is_int (Int y ∷ vs) d t lt other = other y refl
first_is_int (Unsigned n ∷ vs) d t lt other = cc
first_is_int (Long n ∷ vs) d t lt other = cc
first_is_int (Null ∷ vs) d t lt other = cc
first_is_int (At b' o ∷ vs) d t lt other = cc

pub first_int : (vs : List CValue) (d : CValue) (z : ℤ) → are_ints vs ≡ true → 0 < length vs → get_or vs 0 d ≡ Int z → (zs : List ℤ) × (ints_in vs ≡ Some (z ∷ zs))
first_int [] d z t lt e = absurd (let x : ⊥ = omega (arith, lt) in x)
first_int (Int y ∷ vs) d z t lt e =
    let r = some_ints vs t in
    let same : y ≡ z = cc in
    (r.0, ap (with_int (Some y)) r.1 ∙ ap (λ q. Some (q ∷ r.0)) same)
first_int (Unsigned n ∷ vs) d z t lt e = cc
first_int (Long n ∷ vs) d z t lt e = cc
first_int (Null ∷ vs) d z t lt e = cc
first_int (At b' o ∷ vs) d z t lt e = cc

pub nothing_in : (vs : List CValue) → length vs ≡ 0 → ints_in vs ≡ Some []
nothing_in [] e = refl
nothing_in (v ∷ vs) e = absurd (let x : ⊥ = omega (arith, e) in x)
