-- Which names are those of temporaries.
use Rattle.std.proofs.Common.{◌≡◌, ℕ, zero, suc, ◌+◌, ◌-◌, ◌*◌, ◌/◌, ◌%◌, ◌<◌, ◌≤◌, List, [], ◌∷◌, ◌++◌, length, refl, sym, ap, ◌∙◌, append_assoc, arith}
use Rattle.std.specs.Prelude.{Bool, true, false, not, ◌||◌, nat_eq, Some, None, if◌then◌else◌}
use Rattle.std.specs.List.{list_all}
use Rattle.std.specs.Char.{is_ascii_digit}
use Rattle.std.proofs.lemmas.List.{append-nil}
use Rattle.std.proofs.lemmas.Bool.{eqb-true}
use Rattle.mm_c.specs.declared.tree.CKind.{CKind}
use Rattle.mm_c.specs.declared.tree.CKind.TheVariants.{Int, Unsigned, Long, Pointer}
use Rattle.mm_c.proofs.Bools.{and_left, and_right, both}
use Rattle.mm_simulate.specs.Names.{digits_onto, numeral, letter, temporary, named}
use Rattle.mm_simulate.proofs.Names.{numeral_digits}
use Rattle.mm_simulate.proofs.Decimals.{one_digit, more_digits}
use Rattle.mm_lower.specs.Needed.{is_plain, is_numeral, letter_kind, kind_named}

abbrev read : ℕ → List ℕ → ℕ
read n [] = n
read n (d ∷ ds) = read (n * 10 + (d - 48)) ds

low_digit : (d : ℕ) → is_ascii_digit d ≡ true → 48 ≤ d
low_digit d h = grind (arith, h)

high_digit : (d : ℕ) → is_ascii_digit d ≡ true → d ≤ 57
high_digit d h = grind (arith, h)

-- more digits behind those of a number that isn't 0
grow : (m : ℕ) (ds : List ℕ) → 0 < m → list_all is_ascii_digit ds ≡ true → numeral (read m ds) ≡ numeral m ++ ds
grow m [] some h = sym (append-nil (numeral m))
grow m (d ∷ ds) some h =
    let e = and_left (is_ascii_digit d) (list_all is_ascii_digit ds) h in
    let l = low_digit d e in
    let r = high_digit d e in
    let tenth : (m * 10 + (d - 48)) / 10 ≡ m = omega (arith, l, r) in
    let last : 48 + (m * 10 + (d - 48)) % 10 ≡ d = omega (arith, l, r) in
    let large : 10 ≤ m * 10 + (d - 48) = omega (arith, some) in
    let more : 0 < m * 10 + (d - 48) = omega (arith, some) in
    grow (m * 10 + (d - 48)) ds more (and_right (is_ascii_digit d) (list_all is_ascii_digit ds) h)
    ∙ ap (λ ns. ns ++ ds) (sym (more_digits (m * 10 + (d - 48)) (numeral m) large (ap numeral (sym tenth))))
    ∙ append_assoc (numeral m) ((48 + (m * 10 + (d - 48)) % 10) ∷ []) ds
    ∙ ap (λ x. numeral m ++ x ∷ ds) last

single : (d : ℕ) → is_ascii_digit d ≡ true → d ∷ [] ≡ numeral (d - 48)
single d e =
    let l = low_digit d e in
    let r = high_digit d e in
    let same : d ≡ 48 + (d - 48) = omega (arith, l) in
    let low : d - 48 < 10 = omega (arith, l, r) in
    ap (λ x. x ∷ []) same ∙ one_digit (d - 48) low

not_zero : (b d : Bool) → d ≡ false → not b || d ≡ true → b ≡ false
not_zero true d e h = let z : false ≡ true = sym e ∙ h in cc
not_zero false d e h = refl

pub is_some_numeral : (ds : List ℕ) → is_numeral ds ≡ true → (t : ℕ) × (ds ≡ numeral t)
is_some_numeral [] h = cc
is_some_numeral (d ∷ []) h = (d - 48, single d (and_left (is_ascii_digit d) true (and_right (is_plain (d ∷ [])) (list_all is_ascii_digit (d ∷ [])) h)))
is_some_numeral (d ∷ x ∷ xs) h =
    let digits = and_right (is_plain (d ∷ x ∷ xs)) (list_all is_ascii_digit (d ∷ x ∷ xs)) h in
    let e = and_left (is_ascii_digit d) (list_all is_ascii_digit (x ∷ xs)) digits in
    let long : nat_eq (length (x ∷ xs)) 0 ≡ false = grind arith in
    let z = not_zero (nat_eq d 48) (nat_eq (length (x ∷ xs)) 0) long (and_left (is_plain (d ∷ x ∷ xs)) (list_all is_ascii_digit (d ∷ x ∷ xs)) h) in
    let l = low_digit d e in
    let some : 0 < d - 48 = grind (arith, z, l) in
    (read (d - 48) (x ∷ xs), sym (grow (d - 48) (x ∷ xs) some (and_right (is_ascii_digit d) (list_all is_ascii_digit (x ∷ xs)) digits) ∙ ap (λ ns. ns ++ x ∷ xs) (sym (single d e))))

plain_onto : (k n : ℕ) (more : List ℕ) → n < k → 0 < n → is_plain (digits_onto k n more) ≡ true
plain_onto zero n more low some = absurd (let z : ⊥ = omega (arith, low) in z)
plain_onto (suc k) n more low some = by (nat_eq (n / 10) 0) refl (plain_onto k (n / 10) ((48 + n % 10) ∷ more))
  where
    by : (b : Bool) → nat_eq (n / 10) 0 ≡ b → (n / 10 < k → 0 < n / 10 → is_plain (digits_onto k (n / 10) ((48 + n % 10) ∷ more)) ≡ true) → is_plain (elim b as (λ (z : Bool). List ℕ) [ true ↦ (48 + n % 10) ∷ more | false ↦ digits_onto k (n / 10) ((48 + n % 10) ∷ more) ]) ≡ true
    by true e ih = let ne : nat_eq (48 + n % 10) 48 ≡ false = grind (arith, e, some) in ap (λ b. not b || nat_eq (length more) 0) ne
    by false e ih = ih (grind (arith, low, some)) (grind (arith, e))

numeral_plain : (n : ℕ) → is_plain (numeral n) ≡ true
unfolding numeral
numeral_plain zero = refl
numeral_plain (suc n) = plain_onto (suc (suc n)) (suc n) [] (omega arith) (omega arith)

pub numeral_is : (t : ℕ) → is_numeral (numeral t) ≡ true
numeral_is t = both (is_plain (numeral t)) (list_all is_ascii_digit (numeral t)) (numeral_plain t) (numeral_digits t)

of_letter : (k : CKind) → letter_kind (letter k) ≡ Some k
of_letter Int = refl
of_letter Unsigned = refl
of_letter Long = refl
of_letter Pointer = refl

pub temporary_kind : (k : CKind) (t : ℕ) → kind_named (named (temporary k t)) ≡ Some k
temporary_kind k t = ap (λ b. if b then letter_kind (letter k) else None) (numeral_is t) ∙ of_letter k

some_kind : (j k : CKind) (c n : ℕ) → nat_eq c n ≡ true → letter j ≡ n → Some j ≡ Some k → c ≡ letter k
some_kind j k c n e l h = let same : j ≡ k = cc in eqb-true c n e ∙ sym l ∙ ap letter same

letter_is : (c : ℕ) (k : CKind) → letter_kind c ≡ Some k → c ≡ letter k
letter_is c k h = at (nat_eq c 105) (nat_eq c 117) (nat_eq c 108) (nat_eq c 112) refl refl refl refl h
  where
    at : (i u l p : Bool) → nat_eq c 105 ≡ i → nat_eq c 117 ≡ u → nat_eq c 108 ≡ l → nat_eq c 112 ≡ p → (if i then Some Int else (if u then Some Unsigned else (if l then Some Long else (if p then Some Pointer else None)))) ≡ Some k → c ≡ letter k
    at true u l p ei eu el ep h = some_kind Int k c 105 ei refl h
    at false true l p ei eu el ep h = some_kind Unsigned k c 117 eu refl h
    at false false true p ei eu el ep h = some_kind Long k c 108 el refl h
    at false false false true ei eu el ep h = some_kind Pointer k c 112 ep refl h
    at false false false false ei eu el ep h = cc

pub named_temporary : (x : List ℕ) (k : CKind) → kind_named x ≡ Some k → (t : ℕ) × (x ≡ named (temporary k t))
named_temporary [] k h = cc
named_temporary (c ∷ ds) k h = at (is_numeral ds) refl h
  where
    at : (b : Bool) → is_numeral ds ≡ b → (if b then letter_kind c else None) ≡ Some k → (t : ℕ) × (c ∷ ds ≡ named (temporary k t))
    at false e h = cc
    at true e h = let n = is_some_numeral ds e in (n.0, ap (λ x. x ∷ ds) (letter_is c k h) ∙ ap (λ l. letter k ∷ l) n.1)
