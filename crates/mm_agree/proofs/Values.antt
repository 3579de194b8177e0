-- Values in C: of the kind of their type, and the same where more objects are there.
use Rattle.std.proofs.Common.{arith, ◌≡◌, ℕ, zero, suc, List, refl, sym, ap, subst}
use Rattle.std.specs.Prelude.{ℤ, pos, negsuc}
use Rattle.mm_classes.specs.declared.class.Ty.{Ty}
use Rattle.mm_classes.specs.declared.class.Ty.TheVariants as ty
use Rattle.mm_classes.specs.Classes.{Class}
use Rattle.mm_core.specs.State.{Value, Truth, Number, Word, Null, At, Nothing, Object}
use Rattle.mm_core.specs.Fits.{Fits, Grew}
use Rattle.mm_c.specs.declared.value.CValue.{CValue}
use Rattle.mm_c.specs.declared.value.CValue.TheVariants as holds
use Rattle.mm_c.specs.declared.tree.CKind.{CKind}
use Rattle.mm_c.specs.declared.tree.CKind.TheVariants as kind
use Rattle.mm_c.specs.declared.tree.COperator.{COperator}
use Rattle.mm_c.specs.Memory.{Block}
use Rattle.mm_c.specs.CMeaning as c
use Rattle.mm_agree.specs.Agree.{Layout, kind_of, in_c, Stands}

-- what receives a value of its own kind doesn't change it
pub fitted_int : (z : ℤ) → c.fitted kind.Int (holds.Int z) ≡ holds.Int z
fitted_int (pos zero) = refl
fitted_int (pos (suc n)) = refl
fitted_int (negsuc n) = refl

pub fitted_same : (k : CKind) (v : CValue) → c.kind_of v ≡ k → c.fitted k v ≡ v
fitted_same k (holds.Int z) e = subst (λ j. c.fitted j (holds.Int z) ≡ holds.Int z) e (fitted_int z)
fitted_same k (holds.Unsigned n) e = refl
fitted_same k (holds.Long z) e = refl
fitted_same k holds.Null e = refl
fitted_same k (holds.At b o) e = refl

-- A value is received as it is where it is no `int`, or where an `int` is received.
pub received : (k : CKind) (v : CValue) → (c.kind_of v ≡ kind.Int → k ≡ kind.Int) → c.fitted k v ≡ v
received k (holds.Int z) h = fitted_same k (holds.Int z) (sym (h refl))
received k (holds.Unsigned m) h = refl
received k (holds.Long z) h = refl
received k holds.Null h = refl
received k (holds.At b o) h = refl

-- two operands of one kind
pub operate_ints : (m : List Block) (o : COperator) (x y : ℤ) → c.operate m o (holds.Int x) (holds.Int y) ≡ c.on_ints o x y
operate_ints m o x y = ap (λ v. c.on_alike m o v (holds.Int y)) (fitted_int x)

pub operate_words : (m : List Block) (o : COperator) (x y : ℕ) → c.operate m o (holds.Unsigned x) (holds.Unsigned y) ≡ c.on_unsigned o x y
operate_words m o x y = refl

module _ (g : List Class) (l : Layout) where
  pub fits_stands : (xs : List Object) (t : Ty) (v : Value) → Fits g xs t v → Stands xs v
  fits_stands xs t (Truth b) f = tt
  fits_stands xs t (Number z) f = tt
  fits_stands xs t (Word n) f = tt
  fits_stands xs t Null f = tt
  fits_stands xs t Nothing f = tt
  fits_stands xs ty.Void (At o s) f = absurd f
  fits_stands xs ty.Bool (At o s) f = absurd f
  fits_stands xs ty.Int (At o s) f = absurd f
  fits_stands xs ty.Unsigned (At o s) f = absurd f
  fits_stands xs (ty.Ptr d) (At o s) f = f.there
  fits_stands xs (ty.Ref d) (At o s) f = f.there

  pub in_c_grew : (xs ys : List Object) (v : Value) → Grew xs ys → Stands xs v → in_c l ys v ≡ in_c l xs v
  in_c_grew xs ys (Truth b) h f = refl
  in_c_grew xs ys (Number z) h f = refl
  in_c_grew xs ys (Word n) h f = refl
  in_c_grew xs ys Null h f = refl
  in_c_grew xs ys Nothing h f = refl
  in_c_grew xs ys (At o s) h f = ap (λ d. holds.At o (l.offset d s)) (h.same o f)

  pub stands_grew : (xs ys : List Object) (v : Value) → Grew xs ys → Stands xs v → Stands ys v
  stands_grew xs ys (Truth b) h f = tt
  stands_grew xs ys (Number z) h f = tt
  stands_grew xs ys (Word n) h f = tt
  stands_grew xs ys Null h f = tt
  stands_grew xs ys Nothing h f = tt
  stands_grew xs ys (At o s) h f = let m = h.longer in omega arith

  -- a value of a type has the kind of the type
  pub kind_fits : (xs : List Object) (t : Ty) (v : Value) → Fits g xs t v → c.kind_of (in_c l xs v) ≡ kind_of t
  kind_fits xs ty.Void Nothing f = refl
  kind_fits xs ty.Bool (Truth b) f = refl
  kind_fits xs ty.Int (Number z) f = refl
  kind_fits xs ty.Unsigned (Word n) f = refl
  kind_fits xs (ty.Ptr d) Null f = refl
  kind_fits xs (ty.Ptr d) (At o s) f = refl
  kind_fits xs (ty.Ref d) (At o s) f = refl
  kind_fits xs t v f = absurd f
