-- Names of different places are different, so each holds what was stored in it last.
use Rattle.std.proofs.Common.{◌≡◌, ◌≢◌, ℕ, zero, suc, ◌+◌, ◌-◌, ◌*◌, ◌/◌, ◌%◌, ◌<◌, List, [], ◌∷◌, refl, sym, ap, ◌∙◌, arith, ◌++◌}
use Rattle.std.specs.Prelude.{Bool, true, false, nat_eq, if◌then◌else◌}
use Rattle.std.specs.Str.{bytes_eq}
use Rattle.std.proofs.lemmas.Bool.{eqb-true, eq-eqb}
use Rattle.std.proofs.lemmas.Slice.Eq.{bytes_eq-Decides}
use Rattle.mm_c.specs.declared.value.CValue.{CValue}
use Rattle.mm_c.specs.declared.tree.CKind.{CKind}
use Rattle.mm_c.specs.declared.tree.CKind.TheVariants.{Int, Unsigned, Long, Pointer}
use Rattle.mm_c.specs.CMeaning.{Names, with_name}
use Rattle.mm_c.specs.Tokens.{is_word_byte}
use Rattle.mm_c.proofs.Bools.{and_left, and_right, both}
use Rattle.std.specs.Prelude.{filter}
use Rattle.std.specs.List.{list_all}
use Rattle.std.specs.Char.{is_ascii_digit}
use Rattle.mm_simulate.specs.Names.{function_named, digits_onto, numeral, letter, Place, local, temporary, named}

-- ---- digits

abbrev read : ℕ → List ℕ → ℕ
read n [] = n
read n (d ∷ ds) = read (n * 10 + (d - 48)) ds

read_digits : (k n : ℕ) (more : List ℕ) → n < k → read 0 (digits_onto k n more) ≡ read n more
read_digits zero n more low = absurd (let z : ⊥ = omega arith in z)
read_digits (suc k) n more low = by (nat_eq (n / 10) 0) refl (read_digits k)
  where
    by : (b : Bool) → nat_eq (n / 10) 0 ≡ b → ((m : ℕ) (more : List ℕ) → m < k → read 0 (digits_onto k m more) ≡ read m more) → read 0 (elim b [ true ↦ (48 + n % 10) ∷ more | false ↦ digits_onto k (n / 10) ((48 + n % 10) ∷ more) ]) ≡ read n more
    by true e ih = let z = eqb-true (n / 10) 0 e in let same : 0 * 10 + (48 + n % 10 - 48) ≡ n = grind arith in ap (λ m. read m more) same
    by false e ih = let less : n / 10 < k = grind arith in let same : n / 10 * 10 + (48 + n % 10 - 48) ≡ n = grind arith in ih (n / 10) ((48 + n % 10) ∷ more) less ∙ ap (λ m. read m more) same

read_numeral : (n : ℕ) → read 0 (numeral n) ≡ n
unfolding numeral
read_numeral n = let low : n < suc n = omega arith in read_digits (suc n) n [] low

-- ---- digits are digits

digit_byte : (n : ℕ) → is_ascii_digit (48 + n % 10) ≡ true
digit_byte n = grind arith

one_digit : (n : ℕ) (more : List ℕ) → list_all is_ascii_digit more ≡ true → list_all is_ascii_digit ((48 + n % 10) ∷ more) ≡ true
one_digit n more h = both (is_ascii_digit (48 + n % 10)) (list_all is_ascii_digit more) (digit_byte n) h

digits_on : (k n : ℕ) (more : List ℕ) → list_all is_ascii_digit more ≡ true → list_all is_ascii_digit (digits_onto k n more) ≡ true
digits_on zero n more h = h
digits_on (suc k) n more h = by (nat_eq (n / 10) 0) (digits_on k (n / 10) ((48 + n % 10) ∷ more) (one_digit n more h))
  where
    by : (b : Bool) → list_all is_ascii_digit (digits_onto k (n / 10) ((48 + n % 10) ∷ more)) ≡ true → list_all is_ascii_digit (elim b [ true ↦ (48 + n % 10) ∷ more | false ↦ digits_onto k (n / 10) ((48 + n % 10) ∷ more) ]) ≡ true
    by true ih = one_digit n more h
    by false ih = ih

pub numeral_digits : (n : ℕ) → list_all is_ascii_digit (numeral n) ≡ true
unfolding numeral
numeral_digits n = digits_on (suc n) n [] refl

pub numeral_injective : (m n : ℕ) → numeral m ≡ numeral n → m ≡ n
numeral_injective m n e = sym (read_numeral m) ∙ ap (read 0) e ∙ read_numeral n

-- ---- places

abbrev pub same : Place → Place → Bool
same (local x) (local y) = nat_eq x y
same (local x) (temporary k t) = false
same (temporary k t) (local y) = false
same (temporary k t) (temporary j s) = if nat_eq (letter k) (letter j) then nat_eq t s else false

tail_of : List ℕ → List ℕ
tail_of [] = []
tail_of (x ∷ xs) = xs

head_of : List ℕ → ℕ
head_of [] = 0
head_of (x ∷ xs) = x

local_letter : (k : CKind) → letter k ≢ 118
local_letter Int e = omega (arith, e)
local_letter Unsigned e = omega (arith, e)
local_letter Long e = omega (arith, e)
local_letter Pointer e = omega (arith, e)

pub is_false : (b : Bool) → (b ≡ true → ⊥) → b ≡ false
is_false true h = absurd (h refl)
is_false false h = refl

pub one_name : (p q : Place) → named p ≡ named q → same p q ≡ true
unfolding tail_of head_of
one_name (local x) (local y) e = eq-eqb x y (numeral_injective x y (ap tail_of e))
one_name (local x) (temporary k t) e = absurd (local_letter k (sym (ap head_of e)))
one_name (temporary k t) (local y) e = absurd (local_letter k (ap head_of e))
one_name (temporary k t) (temporary j s) e = let h : letter k ≡ letter j = ap head_of e in rw (eq-eqb (letter k) (letter j) h) (eq-eqb t s (numeral_injective t s (ap tail_of e)))

pub apart : (p q : Place) → same p q ≡ false → bytes_eq (named p) (named q) ≡ false
apart p q e = is_false (bytes_eq (named p) (named q)) (λ h. let t = one_name p q ((bytes_eq-Decides (named p) (named q)).0 h) in let z : true ≡ false = sym t ∙ e in cc)

-- ---- what names hold

-- one name's entry is another
abbrev pub changed : {X : Type 0} → (List ℕ → X) → List ℕ → X → List ℕ → X
changed f x v y = if bytes_eq x y then v else f y

module _ {X : Type 0} where
  pub at_name : (f : List ℕ → X) (x : List ℕ) (v : X) → changed f x v x ≡ v
  at_name f x v = ap (λ (b : Bool). if b then v else f x) ((bytes_eq-Decides x x).1 refl)

  pub at_other : (f : List ℕ → X) (p q : Place) (v : X) → same p q ≡ false → changed f (named p) v (named q) ≡ f (named q)
  at_other f p q v e = ap (λ (b : Bool). if b then v else f (named q)) (apart p q e)

pub written : (names : Names) (x : List ℕ) (v : CValue) → with_name names x v x ≡ v
written names x v = at_name names x v

pub kept : (names : Names) (p q : Place) (v : CValue) → same p q ≡ false → with_name names (named p) v (named q) ≡ names (named q)
kept names p q v e = at_other names p q v e

-- another number
pub apart_number : (k j : CKind) (t s : ℕ) → s ≢ t → same (temporary k t) (temporary j s) ≡ false
apart_number k j t s ne = by (nat_eq (letter k) (letter j))
  where
    by : (b : Bool) → (if b then nat_eq t s else false) ≡ false
    by true = is_false (nat_eq t s) (λ e. ne (sym (eqb-true t s e)))
    by false = refl

pub kept_other : (names : Names) (k : CKind) (t : ℕ) (v : CValue) (j : CKind) (s : ℕ) → s ≢ t → with_name names (named (temporary k t)) v (named (temporary j s)) ≡ names (named (temporary j s))
kept_other names k t v j s ne = kept names (temporary k t) (temporary j s) v (apart_number k j t s ne)

pub kept_local : (names : Names) (x : ℕ) (v : CValue) (y : ℕ) → y ≢ x → with_name names (named (local x)) v (named (local y)) ≡ names (named (local y))
kept_local names x v y ne = kept names (local x) (local y) v (is_false (nat_eq x y) (λ e. ne (sym (eqb-true x y e))))

-- the name of an `int` temporary is no other kind's
int_letter : (k : CKind) → letter k ≡ 105 → k ≡ Int
int_letter Int e = refl
int_letter Unsigned e = absurd (let z : ⊥ = omega (arith, e) in z)
int_letter Long e = absurd (let z : ⊥ = omega (arith, e) in z)
int_letter Pointer e = absurd (let z : ⊥ = omega (arith, e) in z)

pub int_name : (k : CKind) (t x : ℕ) → bytes_eq (named (temporary k t)) (named (temporary Int x)) ≡ true → k ≡ Int
unfolding head_of
int_name k t x e = int_letter k (ap head_of ((bytes_eq-Decides (named (temporary k t)) (named (temporary Int x))).0 e))

-- ---- functions

-- what stands before a `_`
abbrev lead : List ℕ → List ℕ
lead [] = []
lead (c ∷ cs) = elim (nat_eq c 95) [ true ↦ [] | false ↦ c ∷ lead cs ]

no_line : (d : ℕ) → is_ascii_digit d ≡ true → nat_eq d 95 ≡ false
no_line d e = grind arith

lead_digits : (ds more : List ℕ) → list_all is_ascii_digit ds ≡ true → lead (ds ++ 95 ∷ more) ≡ ds
lead_digits [] more h = refl
lead_digits (d ∷ ds) more h =
    ap (λ (b : Bool). elim b as (λ (z : Bool). List ℕ) [ true ↦ [] | false ↦ d ∷ lead (ds ++ 95 ∷ more) ]) (no_line d (and_left (is_ascii_digit d) (list_all is_ascii_digit ds) h))
    ∙ ap (λ ns. d ∷ ns) (lead_digits ds more (and_right (is_ascii_digit d) (list_all is_ascii_digit ds) h))

no_entry : ◌≢◌ {A = ℕ} 109 102
no_entry e = omega (arith, e)

-- functions of different numbers have different names
pub function_name : (b d : Bool) (i j m : ℕ) (s t : List ℕ) → nat_eq i m ≡ b → nat_eq j m ≡ d → function_named b i s ≡ function_named d j t → i ≡ j
unfolding tail_of head_of
function_name true true i j m s t e f h = eqb-true i m e ∙ sym (eqb-true j m f)
function_name false false i j m s t e f h = numeral_injective i j (sym (lead_digits (numeral i) (filter is_word_byte s) (numeral_digits i)) ∙ ap (λ xs. lead (tail_of xs)) h ∙ lead_digits (numeral j) (filter is_word_byte t) (numeral_digits j))
function_name true false i j m s t e f h = absurd (no_entry (ap head_of h))
function_name false true i j m s t e f h = absurd (no_entry (sym (ap head_of h)))
