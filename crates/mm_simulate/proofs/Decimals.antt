-- What code that writes lowered programs uses: numbers of 64 bits are printed as names have them, and what code mentions.
use Rattle.std.proofs.Common.{◌≡◌, ℕ, zero, suc, ◌+◌, ◌/◌, ◌%◌, ◌^◌, ◌<◌, ◌≤◌, List, [], ◌∷◌, ◌++◌, refl, sym, ap, ◌∙◌, arith, append_assoc}
use Rattle.std.specs.Prelude.{Bool, true, false, nat_eq}
use Rattle.std.specs.Fmt.{decimal}
use Rattle.std.proofs.lemmas.Fmt.{decimal_by_steps}
use Rattle.mm_c.specs.Tree.{Code, done, do_then, ◌⨾◌}
use Rattle.mm_simulate.specs.Names.{digits_onto, numeral}
use Rattle.mm_simulate.specs.Temporaries.{stmt_names, names_in}

-- digits before others
onto_more : (k n : ℕ) (more : List ℕ) → digits_onto k n more ≡ digits_onto k n [] ++ more
onto_more zero n more = refl
onto_more (suc k) n more = by (nat_eq (n / 10) 0) (onto_more k (n / 10) ((48 + n % 10) ∷ more)) (onto_more k (n / 10) ((48 + n % 10) ∷ []))
  where
    by : (b : Bool) → digits_onto k (n / 10) ((48 + n % 10) ∷ more) ≡ digits_onto k (n / 10) [] ++ (48 + n % 10) ∷ more → digits_onto k (n / 10) ((48 + n % 10) ∷ []) ≡ digits_onto k (n / 10) [] ++ (48 + n % 10) ∷ [] → elim b as (λ (z : Bool). List ℕ) [ true ↦ (48 + n % 10) ∷ more | false ↦ digits_onto k (n / 10) ((48 + n % 10) ∷ more) ] ≡ elim b as (λ (z : Bool). List ℕ) [ true ↦ (48 + n % 10) ∷ [] | false ↦ digits_onto k (n / 10) ((48 + n % 10) ∷ []) ] ++ more
    by true e f = refl
    by false e f = e ∙ sym (append_assoc (digits_onto k (n / 10) []) ((48 + n % 10) ∷ []) more) ∙ ap (λ ds. ds ++ more) (sym f)

-- as much fuel as the number is enough
enough : (k j n : ℕ) (more : List ℕ) → n < k → n < j → digits_onto k n more ≡ digits_onto j n more
enough zero j n more low low' = absurd (let z : ⊥ = omega arith in z)
enough (suc k) zero n more low low' = absurd (let z : ⊥ = omega arith in z)
enough (suc k) (suc j) n more low low' = by (nat_eq (n / 10) 0) refl (enough k j (n / 10) ((48 + n % 10) ∷ more))
  where
    by : (b : Bool) → nat_eq (n / 10) 0 ≡ b → (n / 10 < k → n / 10 < j → digits_onto k (n / 10) ((48 + n % 10) ∷ more) ≡ digits_onto j (n / 10) ((48 + n % 10) ∷ more)) → elim b as (λ (z : Bool). List ℕ) [ true ↦ (48 + n % 10) ∷ more | false ↦ digits_onto k (n / 10) ((48 + n % 10) ∷ more) ] ≡ elim b as (λ (z : Bool). List ℕ) [ true ↦ (48 + n % 10) ∷ more | false ↦ digits_onto j (n / 10) ((48 + n % 10) ∷ more) ]
    by true e ih = refl
    by false e ih = ih (grind arith) (grind arith)

pub one_digit : (n : ℕ) → n < 10 → (48 + n) ∷ [] ≡ numeral n
unfolding numeral
one_digit n low = by (nat_eq (n / 10) 0) (grind arith)
  where
    same : 48 + n ≡ 48 + n % 10
    same = grind arith

    by : (b : Bool) → b ≡ true → (48 + n) ∷ [] ≡ elim b as (λ (z : Bool). List ℕ) [ true ↦ (48 + n % 10) ∷ [] | false ↦ digits_onto n (n / 10) ((48 + n % 10) ∷ []) ]
    by true e = ap (λ d. d ∷ []) same
    by false e = cc

pub more_digits : (n : ℕ) (ds : List ℕ) → 10 ≤ n → ds ≡ numeral (n / 10) → ds ++ (48 + n % 10) ∷ [] ≡ numeral n
unfolding numeral
more_digits n ds high e = by (nat_eq (n / 10) 0) (grind arith)
  where
    by : (b : Bool) → b ≡ false → ds ++ (48 + n % 10) ∷ [] ≡ elim b as (λ (z : Bool). List ℕ) [ true ↦ (48 + n % 10) ∷ [] | false ↦ digits_onto n (n / 10) ((48 + n % 10) ∷ []) ]
    by true f = cc
    by false f = ap (λ xs. xs ++ (48 + n % 10) ∷ []) e ∙ sym (onto_more (suc (n / 10)) (n / 10) ((48 + n % 10) ∷ [])) ∙ enough (suc (n / 10)) n (n / 10) ((48 + n % 10) ∷ []) (omega arith) (grind arith)

-- what is printed is the number as it stands in a name
pub numeral_printed : (n : ℕ) → n < 2 ^ 64 → decimal n ≡ numeral n
numeral_printed n low = decimal_by_steps (λ m ds. ds ≡ numeral m) one_digit more_digits n low

-- code and then other code mentions what both do
pub names_then : (xs ys : Code) → names_in (xs ⨾ ys) ≡ names_in xs ++ names_in ys
names_then done ys = refl
names_then (do_then s more) ys = ap (λ ns. stmt_names s ++ ns) (names_then more ys) ∙ sym (append_assoc (stmt_names s) (names_in more) (names_in ys))
