-- Values that are numbers, as they are received and under operators.
use Rattle.std.proofs.Common.{◌≡◌, zero, suc, List, refl}
use Rattle.std.specs.Prelude.{ℤ, pos, negsuc}
use Rattle.mm_c.specs.declared.tree.CKind.TheVariants as kind
use Rattle.mm_c.specs.declared.tree.COperator.{COperator}
use Rattle.mm_c.specs.declared.value.CValue.{CValue}
use Rattle.mm_c.specs.declared.value.CValue.TheVariants.{Int, Unsigned, Long, Null, At}
use Rattle.mm_c.specs.Memory as c
use Rattle.mm_c.specs.CMeaning.{fitted, on_ints, operate}

pub fitted_int : (v : CValue) → fitted kind.Int v ≡ v
fitted_int (Int (pos zero)) = refl
fitted_int (Int (pos (suc n))) = refl
fitted_int (Int (negsuc n)) = refl
fitted_int (Unsigned n) = refl
fitted_int (Long z) = refl
fitted_int Null = refl
fitted_int (At b o) = refl

pub fitted_unsigned : (v : CValue) → fitted kind.Unsigned v ≡ v
fitted_unsigned (Int (pos zero)) = refl
fitted_unsigned (Int (pos (suc n))) = refl
fitted_unsigned (Int (negsuc n)) = refl
fitted_unsigned (Unsigned n) = refl
fitted_unsigned (Long z) = refl
fitted_unsigned Null = refl
fitted_unsigned (At b o) = refl

pub operate_ints : (blocks : List c.Block) (o : COperator) (x y : ℤ) → operate blocks o (Int x) (Int y) ≡ on_ints o x y
operate_ints blocks o (pos zero) y = refl
operate_ints blocks o (pos (suc n)) y = refl
operate_ints blocks o (negsuc n) y = refl
