-- What the tests before operators tell.
use Rattle.std.proofs.Common.{◌≡◌, ℕ, zero, suc, ◌*◌, ◌/◌, ◌<◌, ◌≤◌, ◌^◌, refl, sym, ap, ◌∙◌, arith}
use Rattle.std.specs.Prelude.{ℤ, pos, negsuc, neg_ℤ, ◌+ℤ◌, ◌-ℤ◌, ◌*ℤ◌, ◌≤ℤ◌, Bool, true, false, not, IsTrue, int_lt, int_le, int_div, nat_lt, ◌&&◌}
use Rattle.std.proofs.lemmas.Int.{ints}
use Rattle.std.proofs.Math.Nat.{div-le_self}
use Rattle.mm_base.specs.Num.{is_int}

abbrev pub greatest_int : ℤ
greatest_int = pos 2147483647

abbrev pub least_int : ℤ
least_int = negsuc 2147483647

pub bounds : (z : ℤ) → IsTrue (is_int z) → (least_int ≤ℤ z) × (z ≤ℤ greatest_int)
bounds (pos n) h = let l : n < 2 ^ 31 = grind arith in (omega (arith, ints), omega (arith, ints))
bounds (negsuc n) h = let l : n < 2 ^ 31 = grind arith in (omega (arith, ints), omega (arith, ints))

pub within : (z : ℤ) → least_int ≤ℤ z → z ≤ℤ greatest_int → is_int z ≡ true
within (pos n) l g = let e : n < 2 ^ 31 = omega (arith, ints) in grind arith
within (negsuc n) l g = let e : n < 2 ^ 31 = omega (arith, ints) in grind arith

-- ---- sums and differences

pub sum_up : (x y : ℤ) → IsTrue (is_int x) → IsTrue (is_int y) → int_lt y (pos 0) ≡ false → is_int (x +ℤ y) ≡ not (int_lt (greatest_int -ℤ y) x)
sum_up x y hx hy h = let x0 = (bounds x hx).0 in let x1 = (bounds x hx).1 in let y0 = (bounds y hy).0 in let y1 = (bounds y hy).1 in grind (arith, ints)

pub sum_down : (x y : ℤ) → IsTrue (is_int x) → IsTrue (is_int y) → int_lt y (pos 0) ≡ true → is_int (x +ℤ y) ≡ not (int_lt x (least_int -ℤ y))
sum_down x y hx hy h = let x0 = (bounds x hx).0 in let x1 = (bounds x hx).1 in let y0 = (bounds y hy).0 in let y1 = (bounds y hy).1 in grind (arith, ints)

pub difference_up : (x y : ℤ) → IsTrue (is_int x) → IsTrue (is_int y) → int_lt y (pos 0) ≡ true → is_int (x -ℤ y) ≡ not (int_lt (greatest_int +ℤ y) x)
difference_up x y hx hy h = let x0 = (bounds x hx).0 in let x1 = (bounds x hx).1 in let y0 = (bounds y hy).0 in let y1 = (bounds y hy).1 in grind (arith, ints)

pub difference_down : (x y : ℤ) → IsTrue (is_int x) → IsTrue (is_int y) → int_lt y (pos 0) ≡ false → is_int (x -ℤ y) ≡ not (int_lt x (least_int +ℤ y))
difference_down x y hx hy h = let x0 = (bounds x hx).0 in let x1 = (bounds x hx).1 in let y0 = (bounds y hy).0 in let y1 = (bounds y hy).1 in grind (arith, ints)

-- what is left up to the greatest and down to the least
pub room_up : (y : ℤ) → IsTrue (is_int y) → int_lt y (pos 0) ≡ false → is_int (greatest_int -ℤ y) ≡ true
room_up y hy h = let y0 = (bounds y hy).0 in let y1 = (bounds y hy).1 in within (greatest_int -ℤ y) (grind (arith, ints)) (grind (arith, ints))

pub room_down : (y : ℤ) → IsTrue (is_int y) → int_lt y (pos 0) ≡ true → is_int (least_int -ℤ y) ≡ true
room_down y hy h = let y0 = (bounds y hy).0 in let y1 = (bounds y hy).1 in within (least_int -ℤ y) (grind (arith, ints)) (grind (arith, ints))

pub room_up' : (y : ℤ) → IsTrue (is_int y) → int_lt y (pos 0) ≡ true → is_int (greatest_int +ℤ y) ≡ true
room_up' y hy h = let y0 = (bounds y hy).0 in let y1 = (bounds y hy).1 in within (greatest_int +ℤ y) (grind (arith, ints)) (grind (arith, ints))

pub room_down' : (y : ℤ) → IsTrue (is_int y) → int_lt y (pos 0) ≡ false → is_int (least_int +ℤ y) ≡ true
room_down' y hy h = let y0 = (bounds y hy).0 in let y1 = (bounds y hy).1 in within (least_int +ℤ y) (grind (arith, ints)) (grind (arith, ints))

-- ---- products

product_low : (a b m : ℕ) → 0 < b → a ≤ m / b → a * b ≤ m
product_low a b m h e = grind arith

product_high : (a b m : ℕ) → 0 < b → m / b < a → m < a * b
product_high a b m h e = grind arith

by_lt : {P : Type 0} (m n : ℕ) → (m < n → P) → (n ≤ m → P) → P
by_lt {P} m n f g = by (nat_lt m n) refl
  where
    by : (b : Bool) → nat_lt m n ≡ b → P
    by true e = f (grind arith)
    by false e = g (grind arith)

-- a product is past a bound where the one factor is past the quotient of the bound by the other
over : (a b m n : ℕ) → 0 < b → n ≡ suc m → nat_lt (a * b) n ≡ not (nat_lt (m / b) a)
over a b m n h e = by_lt (m / b) a (λ l. let r = product_high a b m h l in grind arith) (λ l. let r = product_low a b m h l in grind arith)

pub product_up : (x y : ℤ) → int_lt (pos 0) y ≡ true → int_lt (pos 0) x ≡ true → is_int (x *ℤ y) ≡ not (int_lt (int_div greatest_int y) x)
product_up (pos a) (pos b) hy hx = over a b 2147483647 (2 ^ 31) (grind arith) refl
product_up (pos a) (negsuc b) hy hx = cc
product_up (negsuc a) y hy hx = cc

-- numbers below 0
negative_is : (n : ℕ) → is_int (neg_ℤ (pos n)) ≡ nat_lt n 2147483649
negative_is zero = refl
negative_is (suc n) = grind arith

negative_lt : (a b : ℕ) → int_lt (neg_ℤ (pos a)) (neg_ℤ (pos b)) ≡ nat_lt b a
negative_lt a b = grind (arith, ints)

negative : (a b m : ℕ) → 0 < b → m ≡ 2147483648 → is_int (neg_ℤ (pos (a * b))) ≡ not (int_lt (neg_ℤ (pos a)) (neg_ℤ (pos (m / b))))
negative a b m h e = negative_is (a * b) ∙ over a b m 2147483649 h (omega arith) ∙ ap not (sym (negative_lt a (m / b)))

opposite : (a b : ℕ) → negsuc a *ℤ pos b ≡ neg_ℤ (pos (suc a * b))
opposite a b = grind (arith, ints)

opposite' : (a b : ℕ) → pos a *ℤ negsuc b ≡ neg_ℤ (pos (a * suc b))
opposite' a b = grind (arith, ints)

opposites : (a b : ℕ) → negsuc a *ℤ negsuc b ≡ pos (suc a * suc b)
opposites a b = grind (arith, ints)

never : (q : ℕ) → not (nat_lt q 0) ≡ true
never q = grind arith

pub product_down : (x y : ℤ) → int_lt (pos 0) y ≡ true → int_lt (pos 0) x ≡ false → is_int (x *ℤ y) ≡ not (int_lt x (int_div least_int y))
product_down (pos a) (pos b) hy hx =
    let z : a ≡ 0 = grind arith in
    let l : 0 < b = grind arith in
    ap (λ n. is_int (pos n *ℤ pos b)) z ∙ zero_product b ∙ sym (never (2147483648 / b)) ∙ sym (ap not (ap (λ n. int_lt (pos n) (int_div least_int (pos b))) z ∙ negative_lt 0 (2147483648 / b)))
  where
    zero_product : (b : ℕ) → is_int (pos 0 *ℤ pos b) ≡ true
    zero_product b = grind (arith, ints)
product_down (negsuc a) (pos b) hy hx = ap is_int (opposite a b) ∙ negative (suc a) b 2147483648 (grind arith) refl
product_down (pos a) (negsuc b) hy hx = cc
product_down (negsuc a) (negsuc b) hy hx = cc

-- by a factor below -1
pub product_up' : (x y : ℤ) → int_lt y (negsuc 0) ≡ true → int_lt (pos 0) x ≡ true → is_int (x *ℤ y) ≡ not (int_lt (int_div least_int y) x)
product_up' (pos a) (negsuc b) hy hx = ap is_int (opposite' a b) ∙ negative_is (a * suc b) ∙ over a (suc b) 2147483648 2147483649 (omega arith) refl
product_up' (pos a) (pos b) hy hx = cc
product_up' (negsuc a) y hy hx = cc

pub product_down' : (x y : ℤ) → int_lt y (negsuc 0) ≡ true → int_lt (pos 0) x ≡ false → is_int (x *ℤ y) ≡ not (int_lt x (int_div greatest_int y))
product_down' (pos a) (negsuc b) hy hx =
    let z : a ≡ 0 = grind arith in
    ap (λ n. is_int (pos n *ℤ negsuc b)) z ∙ zero_product b ∙ sym (never (2147483647 / suc b)) ∙ sym (ap not (ap (λ n. int_lt (pos n) (int_div greatest_int (negsuc b))) z ∙ negative_lt 0 (2147483647 / suc b)))
  where
    zero_product : (b : ℕ) → is_int (pos 0 *ℤ negsuc b) ≡ true
    zero_product b = grind (arith, ints)
product_down' (negsuc a) (negsuc b) hy hx = ap is_int (opposites a b) ∙ over (suc a) (suc b) 2147483647 (2 ^ 31) (omega arith) refl ∙ ap not (sym (negative_lt (suc a) (2147483647 / suc b)))
product_down' (pos a) (pos b) hy hx = cc
product_down' (negsuc a) (pos b) hy hx = cc

-- by 0 and by -1
pub product_zero : (x : ℤ) → is_int (x *ℤ pos 0) ≡ true
product_zero (pos a) = grind (arith, ints)
product_zero (negsuc a) = grind (arith, ints)

pub product_minus : (x : ℤ) → IsTrue (is_int x) → is_int (x *ℤ negsuc 0) ≡ not (int_le x least_int && int_le least_int x)
product_minus x h = let x0 = (bounds x h).0 in let x1 = (bounds x h).1 in grind (arith, ints)

-- ---- quotients

less_div : (a b n : ℕ) → a < n → a / b < n
less_div a b n h = let l = div-le_self a b in omega arith

-- half at most
half_div : (a b : ℕ) → suc (suc b) ≤ a → a / suc (suc b) < a
half_div a b h = grind arith

pub quotient_is : (x y : ℤ) → IsTrue (is_int x) → (int_le y (negsuc 0) && int_le (negsuc 0) y) && (int_le x least_int && int_le least_int x) ≡ false → is_int (int_div x y) ≡ true
quotient_is (pos a) (pos b) h n = let l = less_div a b (2 ^ 31) (grind arith) in grind arith
quotient_is (pos a) (negsuc b) h n = let l = less_div a (suc b) 2147483649 (grind arith) in negative_is (a / suc b) ∙ grind arith
quotient_is (negsuc a) (pos b) h n = let l = less_div (suc a) b 2147483649 (grind arith) in negative_is (suc a / b) ∙ grind arith
quotient_is (negsuc a) (negsuc zero) h n = let l : a < 2147483647 = grind (arith, ints) in grind arith
quotient_is (negsuc a) (negsuc (suc b)) h n = by_lt (suc a) (suc (suc b)) (λ l. let z = less_div (suc a) (suc (suc b)) (2 ^ 31) in grind arith) (λ l. let z = half_div (suc a) b l in grind arith)
