-- What the tests before operators leave: the bit, and all else as it was.
use Rattle.std.proofs.Common.{◌≡◌, ℕ, zero, suc, refl, sym, ap, ◌∙◌, subst, arith}
use Rattle.std.specs.Prelude.{ℤ, pos, negsuc, ◌+ℤ◌, ◌-ℤ◌, ◌*ℤ◌, Bool, true, false, not, ◌&&◌, ◌||◌, IsTrue, int_lt, int_le, int_div, Some}
use Rattle.std.proofs.lemmas.Int.{ints}
use Rattle.mm_base.specs.Num.{is_zero, is_int}
use Rattle.mm_meaning.specs.Run.{Gives}
use Rattle.mm_c.specs.declared.value.CValue.{CValue}
use Rattle.mm_c.specs.declared.value.CValue.TheVariants as holds
use Rattle.mm_c.specs.declared.tree.CKind.TheVariants as kind
use Rattle.mm_c.specs.declared.tree.CAtom.{CAtom}
use Rattle.mm_c.specs.declared.tree.CAtom.TheVariants.{Name, Least}
use Rattle.mm_c.specs.declared.tree.COperator.{COperator}
use Rattle.mm_c.specs.declared.tree.COperator.TheVariants as o
use Rattle.mm_c.specs.declared.tree.CExpr.{CExpr}
use Rattle.mm_c.specs.declared.tree.CExpr.TheVariants.{Binary}
use Rattle.mm_c.specs.CMeaning as c
use Rattle.mm_c.specs.CMeaning.{Around, bit_of}
use Rattle.mm_c.specs.Tree.{Code, done, ◌⨾◌}
use Rattle.mm_agree.proofs.Values.{received, operate_ints}
use Rattle.mm_agree.proofs.Steps.{Ran, ran_done, ran_then, set_ran, if_ran, only_ran, either_code, op_gives, with_value}
use Rattle.mm_simulate.specs.Names.{temporary, named, Place}
use Rattle.mm_simulate.specs.Lowered.{plain, greatest, minus_one, i_, set, only_if, if_or, test_by, sum_test, difference_test, bound_test, minus_test, low_test, product_test}
use Rattle.mm_simulate.proofs.Names.{same, written, kept}
use Rattle.mm_simulate.proofs.Ints.{greatest_int, least_int, sum_up, sum_down, difference_up, difference_down, room_up, room_down, room_up', room_down', product_up, product_down, product_up', product_down', product_zero, product_minus, quotient_is}

-- a store that differs in one `int` temporary alone
pub record Near (w : ℕ) (u v : c.Store) : Type 0 where
  pub others : (p : Place) → same (temporary kind.Int w) p ≡ false → v.names (named p) ≡ u.names (named p)
  pub kinds : v.kinds ≡ u.kinds
  pub state : v.state ≡ u.state

pub near_self : (w : ℕ) (u : c.Store) → Near w u u
near_self w u = record { others = λ p e. refl; kinds = refl; state = refl }

pub near_on : (w : ℕ) (u v x : c.Store) → Near w u v → Near w v x → Near w u x
near_on w u v x f h = record { others = λ p e. h.others p e ∙ f.others p e; kinds = h.kinds ∙ f.kinds; state = h.state ∙ f.state }

pub near_set : (w : ℕ) (u : c.Store) (z : ℤ) → Near w u (with_value u (i_ w) (holds.Int z))
near_set w u z = record { others = λ p e. kept u.names (temporary kind.Int w) p (holds.Int z) e; kinds = refl; state = refl }

-- Code that goes on, and leaves a bit in w.
pub record Tested (around : Around) (w : ℕ) (xs : Code) (u : c.Store) (k : ℕ) (b : Bool) : Type 0 where
  pub after : c.Store
  pub ran : Ran around xs u k after
  pub near : Near w u after
  pub bit : after.names (i_ w) ≡ holds.Int (bit_of b)

-- the same, with any number
pub record Left (around : Around) (w : ℕ) (xs : Code) (u : c.Store) (k : ℕ) (z : ℤ) : Type 0 where
  pub after : c.Store
  pub ran : Ran around xs u k after
  pub near : Near w u after
  pub is : after.names (i_ w) ≡ holds.Int z

exact_is : (z : ℤ) → is_int z ≡ true → c.exact z ≡ Some (holds.Int z)
exact_is z e = rw e refl

either_fails : (b d : Bool) → b ≡ false → d ≡ true → (b || not d) ≡ false
either_fails b d e f = rw (e, f) refl

pub divided_is : (x y z : ℤ) → is_zero y ≡ false → is_int (int_div x y) ≡ true → c.divided x y z ≡ Some (holds.Int z)
divided_is x y z e f = rw (either_fails (is_zero y) (is_int (int_div x y)) e f) refl

-- ---- bounds of a factor

and_false : (a b : Bool) → a ≡ false → (a && b) ≡ false
and_false a b e = rw e refl

no_zero : (b : ℕ) → is_zero (pos (suc b)) ≡ false
no_zero b = grind arith

above_zero : (p n : ℤ) → IsTrue (is_int p) → int_lt (pos 0) n ≡ true → (is_int (int_div p n) ≡ true) × (is_zero n ≡ false)
above_zero p (pos zero) h e = absurd (let z : ⊥ = grind (arith, ints) in z)
above_zero p (pos (suc b)) h e = (quotient_is p (pos (suc b)) h refl, no_zero b)
above_zero p (negsuc b) h e = cc

below_one : (p n : ℤ) → IsTrue (is_int p) → int_lt n (negsuc 0) ≡ true → (is_int (int_div p n) ≡ true) × (is_zero n ≡ false)
below_one p (pos b) h e = cc
below_one p (negsuc zero) h e = absurd (let z : ⊥ = grind (arith, ints) in z)
below_one p (negsuc (suc b)) h e = (quotient_is p (negsuc (suc b)) h (and_false _ _ (let z : (int_le (negsuc (suc b)) (negsuc 0) && int_le (negsuc 0) (negsuc (suc b))) ≡ false = grind (arith, ints) in z)), refl)

is_minus : (n : ℤ) → (int_le n (negsuc 0) && int_le (negsuc 0) n) ≡ true → n ≡ negsuc 0
is_minus (pos b) e = cc
is_minus (negsuc b) e = ap negsuc (let z : b ≡ 0 = grind (arith, ints) in z)

is_nil : (n : ℤ) → int_lt (pos 0) n ≡ false → int_lt n (negsuc 0) ≡ false → (int_le n (negsuc 0) && int_le (negsuc 0) n) ≡ false → n ≡ pos 0
is_nil (pos b) e f h = ap pos (let z : b ≡ 0 = grind (arith, ints) in z)
is_nil (negsuc b) e f h = absurd (let z : ⊥ = grind (arith, ints) in z)

least_is : is_int least_int ≡ true
least_is = refl

greatest_is : is_int greatest_int ≡ true
greatest_is = refl

module _ (around : Around) (w : ℕ) (k : ℕ) where
  left_set : (u : c.Store) (r : CExpr) (z : ℤ) → c.right_of around r u k ≡ Gives (holds.Int z) u k → u.kinds (i_ w) ≡ kind.Int → Left around w (set (i_ w) r) u k z
  left_set u r z e i = record { after = with_value u (i_ w) (holds.Int z); ran = set_ran around (i_ w) r (holds.Int z) u k e (received (u.kinds (i_ w)) (holds.Int z) (λ d. i)); near = near_set w u z; is = written u.names (i_ w) (holds.Int z) }

  pub tested_set : (u : c.Store) (r : CExpr) (b : Bool) → c.right_of around r u k ≡ Gives (holds.Int (bit_of b)) u k → u.kinds (i_ w) ≡ kind.Int → Tested around w (set (i_ w) r) u k b
  tested_set u r b e i = let l = left_set u r (bit_of b) e i in record { after = l.after; ran = l.ran; near = l.near; bit = l.is }

  pub tested_then : (xs ys : Code) (u : c.Store) (b d : Bool) (f : Tested around w xs u k b) → Tested around w ys f.after k d → Tested around w (xs ⨾ ys) u k d
  tested_then xs ys u b d f h = record { after = h.after; ran = ran_then around xs ys u k f.ran h.ran; near = near_on w u f.after h.after f.near h.near; bit = h.bit }

  left_then : (xs ys : Code) (u : c.Store) (z : ℤ) (d : Bool) (f : Left around w xs u k z) → Tested around w ys f.after k d → Tested around w (xs ⨾ ys) u k d
  left_then xs ys u z d f h = record { after = h.after; ran = ran_then around xs ys u k f.ran h.ran; near = near_on w u f.after h.after f.near h.near; bit = h.bit }

  either_tested : (b d : Bool) (p q : Code) (u : c.Store) → (b ≡ true → Tested around w p u k d) → (b ≡ false → Tested around w q u k d) → Tested around w (either_code b p q) u k d
  either_tested true d p q u f h = f refl
  either_tested false d p q u f h = h refl

  pub tested_if : (b d : Bool) (p q : Code) (u : c.Store) → u.names (i_ w) ≡ holds.Int (bit_of b) → (b ≡ true → Tested around w p u k d) → (b ≡ false → Tested around w q u k d) → Tested around w (if_or (i_ w) p q) u k d
  tested_if b d p q u e f h = let t = either_tested b d p q u f h in record { after = t.after; ran = if_ran around (i_ w) b p q u k e t.ran; near = t.near; bit = t.bit }

  pub tested_only : (b d : Bool) (p : Code) (u : c.Store) → u.names (i_ w) ≡ holds.Int (bit_of b) → (b ≡ true → Tested around w p u k d) → (b ≡ false → Tested around w done u k d) → Tested around w (only_if (i_ w) p) u k d
  tested_only b d p u e f h = let t = either_tested b d p done u f h in record { after = t.after; ran = only_ran around (i_ w) b p u k e t.ran; near = t.near; bit = t.bit }

  -- an operator between atoms that hold numbers
  pub int_op : (u : c.Store) (a b : CAtom) (op : COperator) (x y : ℤ) (r : CValue) → c.atom_of u.names a ≡ holds.Int x → c.atom_of u.names b ≡ holds.Int y → c.on_ints op x y ≡ Some r → c.right_of around (Binary a op b) u k ≡ Gives r u k
  int_op u a b op x y r e f h = op_gives around u k a b op (holds.Int x) (holds.Int y) r e f (operate_ints u.state.memory op x y ∙ h)

  -- two names that hold numbers
  module _ (x y : ℕ) (m n : ℤ) (other_x : same (temporary kind.Int w) (temporary kind.Int x) ≡ false) (other_y : same (temporary kind.Int w) (temporary kind.Int y) ≡ false) where
    pub record Two (u : c.Store) : Type 0 where
      pub left : u.names (i_ x) ≡ holds.Int m
      pub right : u.names (i_ y) ≡ holds.Int n
      pub int : u.kinds (i_ w) ≡ kind.Int

    pub two_near : (u v : c.Store) → Near w u v → Two u → Two v
    two_near u v f h = record { left = f.others (temporary kind.Int x) other_x ∙ h.left; right = f.others (temporary kind.Int y) other_y ∙ h.right; int = ap (λ (k : c.Kinds). k (i_ w)) f.kinds ∙ h.int }

    -- w = a op y; w = w < x, or x < w
    above_ran : (u : c.Store) (a : CAtom) (op : COperator) (d r : ℤ) → Two u → c.atom_of u.names a ≡ holds.Int d → c.on_ints op d n ≡ Some (holds.Int r) → Tested around w (test_by (i_ w) a op (Name (i_ y)) (Name (i_ w)) (Name (i_ x))) u k (int_lt r m)
    above_ran u a op d r h e f =
        let l = left_set u (Binary a op (Name (i_ y))) r (int_op u a (Name (i_ y)) op d n (holds.Int r) e h.right f) h.int in
        let h1 = two_near u l.after l.near h in
        left_then (set (i_ w) (Binary a op (Name (i_ y)))) (set (i_ w) (Binary (Name (i_ w)) o.Less (Name (i_ x)))) u r (int_lt r m) l
        (tested_set l.after (Binary (Name (i_ w)) o.Less (Name (i_ x))) (int_lt r m) (int_op l.after (Name (i_ w)) (Name (i_ x)) o.Less r m (holds.Int (bit_of (int_lt r m))) l.is h1.left refl) h1.int)

    below_ran : (u : c.Store) (a : CAtom) (op : COperator) (d r : ℤ) → Two u → c.atom_of u.names a ≡ holds.Int d → c.on_ints op d n ≡ Some (holds.Int r) → Tested around w (test_by (i_ w) a op (Name (i_ y)) (Name (i_ x)) (Name (i_ w))) u k (int_lt m r)
    below_ran u a op d r h e f =
        let l = left_set u (Binary a op (Name (i_ y))) r (int_op u a (Name (i_ y)) op d n (holds.Int r) e h.right f) h.int in
        let h1 = two_near u l.after l.near h in
        left_then (set (i_ w) (Binary a op (Name (i_ y)))) (set (i_ w) (Binary (Name (i_ x)) o.Less (Name (i_ w)))) u r (int_lt m r) l
        (tested_set l.after (Binary (Name (i_ x)) o.Less (Name (i_ w))) (int_lt m r) (int_op l.after (Name (i_ x)) (Name (i_ w)) o.Less m r (holds.Int (bit_of (int_lt m r))) h1.left l.is refl) h1.int)

    -- a comparison goes to w
    compared : (u : c.Store) (a b : CAtom) (op : COperator) (x' y' : ℤ) (t : Bool) → u.kinds (i_ w) ≡ kind.Int → c.atom_of u.names a ≡ holds.Int x' → c.atom_of u.names b ≡ holds.Int y' → c.on_ints op x' y' ≡ Some (holds.Int (bit_of t)) → Tested around w (set (i_ w) (Binary a op b)) u k t
    compared u a b op x' y' t i e f h = tested_set u (Binary a op b) t (int_op u a b op x' y' (holds.Int (bit_of t)) e f h) i

    as_bit : (xs : Code) (u : c.Store) (b d : Bool) → b ≡ d → Tested around w xs u k b → Tested around w xs u k d
    as_bit xs u b d e h = subst (λ z. Tested around w xs u k z) e h

    -- the bit of an answer: not what the test says
    flipped : (b d : Bool) → d ≡ not b → b ≡ not d
    flipped true d e = rw e refl
    flipped false d e = rw e refl

    module _ (is_m : IsTrue (is_int m)) (is_n : IsTrue (is_int n)) where
      pub sum_tested : (u : c.Store) → Two u → Tested around w (sum_test (i_ x) (i_ y) (i_ w)) u k (not (is_int (m +ℤ n)))
      sum_tested u h =
          let f = compared u (Name (i_ y)) (plain 0) o.Less n (pos 0) (int_lt n (pos 0)) h.int h.right refl refl in
          let h1 = two_near u f.after f.near h in
          tested_then (set (i_ w) (Binary (Name (i_ y)) o.Less (plain 0))) (if_or (i_ w) (test_by (i_ w) Least o.Subtract (Name (i_ y)) (Name (i_ x)) (Name (i_ w))) (test_by (i_ w) (plain greatest) o.Subtract (Name (i_ y)) (Name (i_ w)) (Name (i_ x)))) u (int_lt n (pos 0)) (not (is_int (m +ℤ n))) f
          (tested_if (int_lt n (pos 0)) (not (is_int (m +ℤ n))) _ _ f.after f.bit
          (λ e. as_bit _ f.after (int_lt m (least_int -ℤ n)) (not (is_int (m +ℤ n))) (flipped _ _ (sum_down m n is_m is_n e)) (below_ran f.after Least o.Subtract least_int (least_int -ℤ n) h1 refl (exact_is (least_int -ℤ n) (room_down n is_n e))))
          (λ e. as_bit _ f.after (int_lt (greatest_int -ℤ n) m) (not (is_int (m +ℤ n))) (flipped _ _ (sum_up m n is_m is_n e)) (above_ran f.after (plain greatest) o.Subtract greatest_int (greatest_int -ℤ n) h1 refl (exact_is (greatest_int -ℤ n) (room_up n is_n e)))))

      pub difference_tested : (u : c.Store) → Two u → Tested around w (difference_test (i_ x) (i_ y) (i_ w)) u k (not (is_int (m -ℤ n)))
      difference_tested u h =
          let f = compared u (Name (i_ y)) (plain 0) o.Less n (pos 0) (int_lt n (pos 0)) h.int h.right refl refl in
          let h1 = two_near u f.after f.near h in
          tested_then (set (i_ w) (Binary (Name (i_ y)) o.Less (plain 0))) (if_or (i_ w) (test_by (i_ w) (plain greatest) o.Add (Name (i_ y)) (Name (i_ w)) (Name (i_ x))) (test_by (i_ w) Least o.Add (Name (i_ y)) (Name (i_ x)) (Name (i_ w)))) u (int_lt n (pos 0)) (not (is_int (m -ℤ n))) f
          (tested_if (int_lt n (pos 0)) (not (is_int (m -ℤ n))) _ _ f.after f.bit
          (λ e. as_bit _ f.after (int_lt (greatest_int +ℤ n) m) (not (is_int (m -ℤ n))) (flipped _ _ (difference_up m n is_m is_n e)) (above_ran f.after (plain greatest) o.Add greatest_int (greatest_int +ℤ n) h1 refl (exact_is (greatest_int +ℤ n) (room_up' n is_n e))))
          (λ e. as_bit _ f.after (int_lt m (least_int +ℤ n)) (not (is_int (m -ℤ n))) (flipped _ _ (difference_down m n is_m is_n e)) (below_ran f.after Least o.Add least_int (least_int +ℤ n) h1 refl (exact_is (least_int +ℤ n) (room_down' n is_n e)))))

      -- what a bound's quotient tells
      bound_tested : (u : c.Store) (above below : CAtom) (p q : ℤ) (d : Bool) → Two u → ((v : c.Store) → c.atom_of v.names above ≡ holds.Int p) → ((v : c.Store) → c.atom_of v.names below ≡ holds.Int q) → is_zero n ≡ false → is_int (int_div p n) ≡ true → is_int (int_div q n) ≡ true → (int_lt (pos 0) m ≡ true → int_lt (int_div p n) m ≡ d) → (int_lt (pos 0) m ≡ false → int_lt m (int_div q n) ≡ d) → Tested around w (bound_test (i_ x) (i_ y) (i_ w) above below) u k d
      bound_tested u above below p q d h ep eq z ip iq f1 f2 =
          let f = compared u (plain 0) (Name (i_ x)) o.Less (pos 0) m (int_lt (pos 0) m) h.int refl h.left refl in
          let h1 = two_near u f.after f.near h in
          tested_then (set (i_ w) (Binary (plain 0) o.Less (Name (i_ x)))) (if_or (i_ w) (test_by (i_ w) above o.Divide (Name (i_ y)) (Name (i_ w)) (Name (i_ x))) (test_by (i_ w) below o.Divide (Name (i_ y)) (Name (i_ x)) (Name (i_ w)))) u (int_lt (pos 0) m) d f
          (tested_if (int_lt (pos 0) m) d _ _ f.after f.bit
          (λ e. as_bit _ f.after (int_lt (int_div p n) m) d (f1 e) (above_ran f.after above o.Divide p (int_div p n) h1 (ep f.after) (divided_is p n (int_div p n) z ip)))
          (λ e. as_bit _ f.after (int_lt m (int_div q n)) d (f2 e) (below_ran f.after below o.Divide q (int_div q n) h1 (eq f.after) (divided_is q n (int_div q n) z iq))))

      -- whether x is the least one and y is -1
      pub minus_tested : (u : c.Store) (d : Bool) → Two u → (n ≡ negsuc 0 → (int_le m least_int && int_le least_int m) ≡ d) → ((int_le n (negsuc 0) && int_le (negsuc 0) n) ≡ false → d ≡ false) → Tested around w (minus_test (i_ x) (i_ y) (i_ w)) u k d
      minus_tested u d h f1 f2 =
          let b = int_le n (negsuc 0) && int_le (negsuc 0) n in
          let f = compared u (Name (i_ y)) minus_one o.Equal n (negsuc 0) b h.int h.right refl refl in
          let h1 = two_near u f.after f.near h in
          tested_then (set (i_ w) (Binary (Name (i_ y)) o.Equal minus_one)) (only_if (i_ w) (set (i_ w) (Binary (Name (i_ x)) o.Equal Least))) u b d f
          (tested_only b d _ f.after f.bit
          (λ e. as_bit _ f.after (int_le m least_int && int_le least_int m) d (f1 (is_minus n e)) (compared f.after (Name (i_ x)) Least o.Equal m least_int (int_le m least_int && int_le least_int m) h1.int h1.left refl refl))
          (λ e. record { after = f.after; ran = ran_done around f.after k; near = near_self w f.after; bit = f.bit ∙ ap (λ z. holds.Int (bit_of z)) (e ∙ sym (f2 e)) }))

      not_true : (b : Bool) → b ≡ true → not b ≡ false
      not_true b e = rw e refl

      low_tested : (u : c.Store) → int_lt (pos 0) n ≡ false → Two u → Tested around w (low_test (i_ x) (i_ y) (i_ w)) u k (not (is_int (m *ℤ n)))
      low_tested u low h =
          let b = int_lt n (negsuc 0) in
          let f = compared u (Name (i_ y)) minus_one o.Less n (negsuc 0) b h.int h.right refl refl in
          let h1 = two_near u f.after f.near h in
          tested_then (set (i_ w) (Binary (Name (i_ y)) o.Less minus_one)) (if_or (i_ w) (bound_test (i_ x) (i_ y) (i_ w) Least (plain greatest)) (minus_test (i_ x) (i_ y) (i_ w))) u b (not (is_int (m *ℤ n))) f
          (tested_if b (not (is_int (m *ℤ n))) _ _ f.after f.bit
          (λ e. bound_tested f.after Least (plain greatest) least_int greatest_int (not (is_int (m *ℤ n))) h1 (λ v. refl) (λ v. refl) (below_one least_int n least_is e).1 (below_one least_int n least_is e).0 (below_one greatest_int n greatest_is e).0
          (λ z. flipped _ _ (product_up' m n e z)) (λ z. flipped _ _ (product_down' m n e z)))
          (λ e. minus_tested f.after (not (is_int (m *ℤ n))) h1
          (λ z. flipped _ _ (ap (λ y. is_int (m *ℤ y)) z ∙ product_minus m is_m))
          (λ z. not_true (is_int (m *ℤ n)) (ap (λ y. is_int (m *ℤ y)) (is_nil n low e z) ∙ product_zero m))))

      pub product_tested : (u : c.Store) → Two u → Tested around w (product_test (i_ x) (i_ y) (i_ w)) u k (not (is_int (m *ℤ n)))
      product_tested u h =
          let b = int_lt (pos 0) n in
          let f = compared u (plain 0) (Name (i_ y)) o.Less (pos 0) n b h.int refl h.right refl in
          let h1 = two_near u f.after f.near h in
          tested_then (set (i_ w) (Binary (plain 0) o.Less (Name (i_ y)))) (if_or (i_ w) (bound_test (i_ x) (i_ y) (i_ w) (plain greatest) Least) (low_test (i_ x) (i_ y) (i_ w))) u b (not (is_int (m *ℤ n))) f
          (tested_if b (not (is_int (m *ℤ n))) _ _ f.after f.bit
          (λ e. bound_tested f.after (plain greatest) Least greatest_int least_int (not (is_int (m *ℤ n))) h1 (λ v. refl) (λ v. refl) (above_zero greatest_int n greatest_is e).1 (above_zero greatest_int n greatest_is e).0 (above_zero least_int n least_is e).0
          (λ z. flipped _ _ (product_up m n e z)) (λ z. flipped _ _ (product_down m n e z)))
          (λ e. low_tested f.after e h1))
