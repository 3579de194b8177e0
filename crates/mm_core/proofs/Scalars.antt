-- Operators and conversions give values of their types.
use Rattle.std.proofs.Common.{◌≡◌, ℕ, zero, suc, ◌<◌, ◌≤◌, List, refl, sym, subst, inl, inr, arith}
use Rattle.std.proofs.Math.Nat.{mod-le, div-le_self}
use Rattle.std.specs.Prelude.{◌/◌, ◌%◌, ◌^◌, ℤ, pos, negsuc, neg_ℤ, ◌+ℤ◌, ◌-ℤ◌, ◌*ℤ◌, Bool, true, false, IsTrue, nat_eq, if◌then◌else◌, Result, Ok, Err, int_rem, int_div, nat_abs}
use Rattle.mm_base.specs.declared.num.Trap.{Trap}
use Rattle.mm_base.specs.declared.num.Trap.TheVariants as by
use Rattle.mm_base.specs.Num.{is_int, is_zero, int_of, to_int, to_unsigned}
use Rattle.mm_classes.specs.declared.class.Ty.{Ty}
use Rattle.mm_classes.specs.declared.class.Ty.TheVariants as ty
use Rattle.mm_classes.specs.Classes.{Class}
use Rattle.mm_core.specs.declared.part.Operator.{Operator}
use Rattle.mm_core.specs.declared.part.Operator.TheVariants.{Add, Subtract, Multiply, Divide, Remainder, Less, Greater, LessEqual, GreaterEqual, Equal, NotEqual}
use Rattle.mm_core.specs.declared.part.Target.{Target}
use Rattle.mm_core.specs.declared.part.Target.TheVariants as target
use Rattle.mm_core.specs.declared.part.Change.{Change}
use Rattle.mm_core.specs.declared.part.Change.TheVariants.{Up, Down}
use Rattle.mm_core.specs.State.{Value, Truth, Number, Word, Null, At, Nothing, Object}
use Rattle.mm_core.specs.Scalar.{int_value, word_value, converted, number_or, quotient, remainder_by, on_ints, on_words, on_pointers, operate, changed, compounded, all_like, common, is_word}
use Rattle.mm_core.specs.Valid.{is_number, is_arithmetic, is_pointer, compares, tests_equality, type_of_target, AreOperands, Converts}
use Rattle.mm_core.specs.Fits.{Fits}

-- ---- numbers

word_low : (n : ℕ) → n % 2 ^ 32 < 2 ^ 32
word_low n = grind arith

signed_is : (n : ℕ) → n < 2 ^ 32 → is_int (to_int n) ≡ true
signed_is n h = grind arith

unsigned_low : (z : ℤ) → to_unsigned z < 2 ^ 32
unsigned_low (pos n) = word_low n
unsigned_low (negsuc n) = grind arith

module _ (g : List Class) (objects : List Object) where
  abbrev pub ResultFits : Ty → Result Value Trap → Type 0
  ResultFits t (Ok v) = Fits g objects t v
  ResultFits t (Err x) = Unit {0}

  if_fits : (b : Bool) (z : ℤ) → is_int z ≡ b → ResultFits ty.Int (number_or (if b then Ok z else Err by.Overflow))
  if_fits true z e = e
  if_fits false z e = tt

  int_fits : (z : ℤ) → ResultFits ty.Int (number_or (int_of z))
  int_fits z = if_fits (is_int z) z refl

  quotient_fits : (c : Bool) (z : ℤ) → ResultFits ty.Int (number_or (if c then Err by.Divide else int_of z))
  quotient_fits true z = tt
  quotient_fits false z = int_fits z

  neg_is : (n m : ℕ) → n ≤ suc m → is_int (negsuc m) ≡ true → is_int (neg_ℤ (pos n)) ≡ true
  neg_is zero m le h = refl
  neg_is (suc n) m le h = grind arith

  rest_is : (a b : ℤ) → is_int a ≡ true → is_int (int_rem a b) ≡ true
  rest_is (pos n) b h = let l = mod-le n (nat_abs b) in grind arith
  rest_is (negsuc n) b h = neg_is (suc n % nat_abs b) n (mod-le (suc n) (nat_abs b)) h

  rest_fits : (q : Result ℤ Trap) (a b : ℤ) → is_int a ≡ true → ResultFits ty.Int (number_or (remainder_by q a b))
  rest_fits (Ok q) a b h = rest_is a b h
  rest_fits (Err t) a b h = tt

  pub ints_fit : (op : Operator) (a b : ℤ) → is_int a ≡ true → ResultFits (if compares op then ty.Bool else ty.Int) (on_ints op a b)
  ints_fit Add a b h = int_fits (a +ℤ b)
  ints_fit Subtract a b h = int_fits (a -ℤ b)
  ints_fit Multiply a b h = int_fits (a *ℤ b)
  ints_fit Divide a b h = quotient_fits (is_zero b) (int_div a b)
  ints_fit Remainder a b h = rest_fits (quotient a b) a b h
  ints_fit Less a b h = tt
  ints_fit Greater a b h = tt
  ints_fit LessEqual a b h = tt
  ints_fit GreaterEqual a b h = tt
  ints_fit Equal a b h = tt
  ints_fit NotEqual a b h = tt

  word_if : (c : Bool) (n : ℕ) → n < 2 ^ 32 → ResultFits ty.Unsigned (if c then Err by.Divide else Ok (Word n))
  word_if true n h = tt
  word_if false n h = h

  div_low : (a b : ℕ) → a < 2 ^ 32 → a / b < 2 ^ 32
  div_low a b h = let l = div-le_self a b in omega arith

  mod_low : (a b : ℕ) → a < 2 ^ 32 → a % b < 2 ^ 32
  mod_low a b h = let l = mod-le a b in omega arith

  pub words_fit : (op : Operator) (a b : ℕ) → a < 2 ^ 32 → ResultFits (if compares op then ty.Bool else ty.Unsigned) (on_words op a b)
  words_fit Add a b h = word_low _
  words_fit Subtract a b h = word_low _
  words_fit Multiply a b h = word_low _
  words_fit Divide a b h = word_if (nat_eq b 0) _ (div_low a b h)
  words_fit Remainder a b h = word_if (nat_eq b 0) _ (mod_low a b h)
  words_fit Less a b h = tt
  words_fit Greater a b h = tt
  words_fit LessEqual a b h = tt
  words_fit GreaterEqual a b h = tt
  words_fit Equal a b h = tt
  words_fit NotEqual a b h = tt

  -- ---- operators

  numbers_fit : (op : Operator) (t : Ty) (v w : Value) → IsTrue (is_number t) → Fits g objects t v → Fits g objects t w → ResultFits (if compares op then ty.Bool else t) (operate op v w)
  numbers_fit op ty.Int (Number a) w n h k = ints_fit op a (int_value w) h
  numbers_fit op ty.Unsigned (Word a) w n h k = words_fit op a (word_value w) h
  numbers_fit op ty.Int (Truth b) w n h k = absurd h
  numbers_fit op ty.Int (Word b) w n h k = absurd h
  numbers_fit op ty.Int Null w n h k = absurd h
  numbers_fit op ty.Int (At o s) w n h k = absurd h
  numbers_fit op ty.Int Nothing w n h k = absurd h
  numbers_fit op ty.Unsigned (Truth b) w n h k = absurd h
  numbers_fit op ty.Unsigned (Number b) w n h k = absurd h
  numbers_fit op ty.Unsigned Null w n h k = absurd h
  numbers_fit op ty.Unsigned (At o s) w n h k = absurd h
  numbers_fit op ty.Unsigned Nothing w n h k = absurd h
  numbers_fit op t v w n h k = cc

  equality_fits : (op : Operator) (t : Ty) (v w : Value) → IsTrue (tests_equality op) → ResultFits (if compares op then ty.Bool else t) (on_pointers op v w)
  equality_fits Equal t v w e = tt
  equality_fits NotEqual t v w e = tt
  equality_fits op t v w e = cc

  pointers_fit : (op : Operator) (t : Ty) (v w : Value) → IsTrue (tests_equality op) → IsTrue (is_pointer t) → Fits g objects t v → ResultFits (if compares op then ty.Bool else t) (operate op v w)
  pointers_fit op t Null w e n h = equality_fits op t Null w e
  pointers_fit op t (At o s) w e n h = equality_fits op t (At o s) w e
  pointers_fit op (ty.Ptr c) (Truth b) w e n h = absurd h
  pointers_fit op (ty.Ptr c) (Number b) w e n h = absurd h
  pointers_fit op (ty.Ptr c) (Word b) w e n h = absurd h
  pointers_fit op (ty.Ptr c) Nothing w e n h = absurd h
  pointers_fit op (ty.Ref c) (Truth b) w e n h = absurd h
  pointers_fit op (ty.Ref c) (Number b) w e n h = absurd h
  pointers_fit op (ty.Ref c) (Word b) w e n h = absurd h
  pointers_fit op (ty.Ref c) Nothing w e n h = absurd h
  pointers_fit op t v w e n h = cc

  pub operate_fits : (op : Operator) (t u : Ty) (v w : Value) → AreOperands op t u → Fits g objects t v → Fits g objects u w → ResultFits (if compares op then ty.Bool else t) (operate op v w)
  operate_fits op t u v w (inl o) h k = numbers_fit op t v w o.0 h (subst (λ z. Fits g objects z w) (sym o.1) k)
  operate_fits op t u v w (inr o) h k = pointers_fit op t v w o.0 o.1 h

  -- ---- conversions

  bit_is : (b : Bool) → is_int (if b then pos 1 else pos 0) ≡ true
  bit_is true = refl
  bit_is false = refl

  bit_low : (b : Bool) → (if b then 1 else 0) < 2 ^ 32
  bit_low true = omega arith
  bit_low false = omega arith

  int_value_is : (t : Ty) (v : Value) → IsTrue (is_arithmetic t) → Fits g objects t v → is_int (int_value v) ≡ true
  int_value_is t (Truth b) n h = bit_is b
  int_value_is ty.Int (Number z) n h = h
  int_value_is ty.Unsigned (Word m) n h = signed_is m h
  int_value_is t Null n h = refl
  int_value_is t (At o s) n h = refl
  int_value_is t Nothing n h = refl
  int_value_is ty.Bool (Number z) n h = absurd h
  int_value_is ty.Unsigned (Number z) n h = absurd h
  int_value_is ty.Bool (Word z) n h = absurd h
  int_value_is ty.Int (Word z) n h = absurd h
  int_value_is t v n h = cc

  word_value_low : (t : Ty) (v : Value) → IsTrue (is_arithmetic t) → Fits g objects t v → word_value v < 2 ^ 32
  word_value_low t (Truth b) n h = bit_low b
  word_value_low t (Number z) n h = unsigned_low z
  word_value_low ty.Unsigned (Word m) n h = h
  word_value_low t Null n h = omega arith
  word_value_low t (At o s) n h = omega arith
  word_value_low t Nothing n h = omega arith
  word_value_low ty.Bool (Word z) n h = absurd h
  word_value_low ty.Int (Word z) n h = absurd h
  word_value_low t v n h = cc

  arithmetic_fits : (x : Target) (t : Ty) (v : Value) → IsTrue (is_arithmetic t) → Fits g objects t v → Fits g objects (type_of_target x) (converted x v)
  arithmetic_fits target.Bool t v n h = tt
  arithmetic_fits target.Int t v n h = int_value_is t v n h
  arithmetic_fits target.Unsigned t v n h = word_value_low t v n h

  pub converted_fits : (x : Target) (t : Ty) (v : Value) → Converts t x → Fits g objects t v → Fits g objects (type_of_target x) (converted x v)
  converted_fits x t v (d, inl n) h = arithmetic_fits x t v n h
  converted_fits x t v (d, inr e) h = subst (λ z. Fits g objects (type_of_target z) (converted z v)) (sym e.1) tt

  -- ---- steps and compound sets

  pub changed_fits : (c : Change) (t : Ty) (v : Value) → IsTrue (is_number t) → Fits g objects t v → ResultFits t (changed c v)
  changed_fits Up ty.Int (Number z) n h = ints_fit Add z (pos 1) h
  changed_fits Down ty.Int (Number z) n h = ints_fit Subtract z (pos 1) h
  changed_fits Up ty.Unsigned (Word z) n h = words_fit Add z 1 h
  changed_fits Down ty.Unsigned (Word z) n h = words_fit Subtract z 1 h
  changed_fits c ty.Int (Truth b) n h = absurd h
  changed_fits c ty.Int (Word b) n h = absurd h
  changed_fits c ty.Int Null n h = absurd h
  changed_fits c ty.Int (At o s) n h = absurd h
  changed_fits c ty.Int Nothing n h = absurd h
  changed_fits c ty.Unsigned (Truth b) n h = absurd h
  changed_fits c ty.Unsigned (Number b) n h = absurd h
  changed_fits c ty.Unsigned Null n h = absurd h
  changed_fits c ty.Unsigned (At o s) n h = absurd h
  changed_fits c ty.Unsigned Nothing n h = absurd h
  changed_fits c t v n h = cc

  -- a result of the common type, converted to the type of the old value
  abbrev type_like : Value → Ty
  type_like v = if is_word v then ty.Unsigned else ty.Int

  to_old : (old : Value) (x : Target) (r : Result Value Trap) → IsTrue (is_arithmetic (type_of_target x)) → ResultFits (type_of_target x) r → ResultFits (type_like old) (all_like old r)
  to_old old x (Err t) n h = tt
  to_old (Word m) x (Ok v) n h = word_value_low (type_of_target x) v n h
  to_old (Number m) x (Ok v) n h = int_value_is (type_of_target x) v n h
  to_old (Truth m) x (Ok v) n h = int_value_is (type_of_target x) v n h
  to_old Null x (Ok v) n h = int_value_is (type_of_target x) v n h
  to_old (At o s) x (Ok v) n h = int_value_is (type_of_target x) v n h
  to_old Nothing x (Ok v) n h = int_value_is (type_of_target x) v n h

  is_number_target : (x : Target) → (x ≡ target.Bool → ⊥) → IsTrue (is_number (type_of_target x)) × IsTrue (is_arithmetic (type_of_target x))
  is_number_target target.Bool h = absurd (h refl)
  is_number_target target.Int h = (refl, refl)
  is_number_target target.Unsigned h = (refl, refl)

  common_if : (a b : Bool) → (if a then target.Unsigned else (if b then target.Unsigned else target.Int)) ≡ target.Bool → ⊥
  common_if true b e = cc
  common_if false true e = cc
  common_if false false e = cc

  type_like_is : (t : Ty) (v : Value) → IsTrue (is_number t) → Fits g objects t v → type_like v ≡ t
  type_like_is ty.Int (Number z) n h = refl
  type_like_is ty.Unsigned (Word z) n h = refl
  type_like_is ty.Int (Truth b) n h = absurd h
  type_like_is ty.Int (Word b) n h = absurd h
  type_like_is ty.Int Null n h = absurd h
  type_like_is ty.Int (At o s) n h = absurd h
  type_like_is ty.Int Nothing n h = absurd h
  type_like_is ty.Unsigned (Truth b) n h = absurd h
  type_like_is ty.Unsigned (Number b) n h = absurd h
  type_like_is ty.Unsigned Null n h = absurd h
  type_like_is ty.Unsigned (At o s) n h = absurd h
  type_like_is ty.Unsigned Nothing n h = absurd h
  type_like_is t v n h = cc

  number_arithmetic : (t : Ty) → IsTrue (is_number t) → IsTrue (is_arithmetic t)
  number_arithmetic ty.Int n = refl
  number_arithmetic ty.Unsigned n = refl
  number_arithmetic t n = cc

  pub compounded_fits : (op : Operator) (t u : Ty) (old v : Value) → compares op ≡ false → IsTrue (is_number t) → IsTrue (is_arithmetic u) → Fits g objects t old → Fits g objects u v → ResultFits t (compounded op old v)
  compounded_fits op t u old v low n m h k =
      let x = common old v in
      let nx = is_number_target x (common_if (is_word old) (is_word v)) in
      let a = arithmetic_fits x t old (number_arithmetic t n) h in
      let b = arithmetic_fits x u v m k in
      let r = numbers_fit op (type_of_target x) (converted x old) (converted x v) nx.0 a b in
      let r' : ResultFits (type_of_target x) (operate op (converted x old) (converted x v)) = subst (λ c. ResultFits (if c then ty.Bool else type_of_target x) (operate op (converted x old) (converted x v))) low r in
      subst (λ z. ResultFits z (compounded op old v)) (type_like_is t old n h) (to_old old x (operate op (converted x old) (converted x v)) nx.1 r')
