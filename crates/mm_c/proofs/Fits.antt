-- Code that breaks no rule, put together of parts. For code that is made of these parts this is shorter than `code_breaks`.
use Rattle.std.specs.Prelude.{Bool, true, false, not, ◌&&◌, ◌||◌, ◌==◌}
use Rattle.std.specs.List.{list_any}
use Rattle.std.proofs.Common.{◌≡◌, List, [], ◌∷◌, ◌++◌, Some, ℕ, refl}
use Rattle.mm_c.specs.declared.tree.CKind.{CKind}
use Rattle.mm_c.specs.declared.tree.CKind.TheVariants as kind
use Rattle.mm_c.specs.declared.tree.CAtom.{CAtom}
use Rattle.mm_c.specs.declared.tree.CAtom.TheVariants.{Name}
use Rattle.mm_c.specs.declared.tree.COperator.{COperator}
use Rattle.mm_c.specs.declared.tree.CCall.{CCall}
use Rattle.mm_c.specs.declared.tree.CExpr.{CExpr}
use Rattle.mm_c.specs.declared.tree.CExpr.TheVariants.{Binary}
use Rattle.mm_c.specs.Tree.{assign, run, if_only, if_else, forever, return, Block, block, Code, done, do_then, ◌⨾◌, just}
use Rattle.mm_c.specs.WellFormed.{Here, is_true, kind_number, kind_in, fits, right_fits, both_fit, is_arithmetic, call_fits, stmt_breaks, block_breaks, code_breaks}

-- no statement of the code breaks a rule
pub record Fit (h : Here) (xs : Code) : Type 0 where
  pub by : list_any is_true (code_breaks h xs) ≡ false

-- nor does one of the block
pub record BlockFit (h : Here) (b : Block) : Type 0 where
  pub by : list_any is_true (block_breaks h b) ≡ false

pub none_append : (xs ys : List Bool) → list_any is_true xs ≡ false → list_any is_true ys ≡ false → list_any is_true (xs ++ ys) ≡ false
none_append [] ys e f = f
none_append (true ∷ xs) ys e f = cc
none_append (false ∷ xs) ys e f = none_append xs ys e f

pub none_left : (xs ys : List Bool) → list_any is_true (xs ++ ys) ≡ false → list_any is_true xs ≡ false
none_left [] ys e = refl
none_left (true ∷ xs) ys e = cc
none_left (false ∷ xs) ys e = none_left xs ys e

pub none_right : (xs ys : List Bool) → list_any is_true (xs ++ ys) ≡ false → list_any is_true ys ≡ false
none_right [] ys e = e
none_right (true ∷ xs) ys e = cc
none_right (false ∷ xs) ys e = none_right xs ys e

-- a statement that fits, before others that break no rule
none_after : (b : Bool) (xs : List Bool) → b ≡ true → list_any is_true xs ≡ false → list_any is_true (not b ∷ xs) ≡ false
none_after true xs e f = f
none_after false xs e f = cc

pub kind_same : (k : CKind) → (kind_number k == kind_number k) ≡ true
kind_same kind.Int = refl
kind_same kind.Unsigned = refl
kind_same kind.Long = refl
kind_same kind.Pointer = refl

module _ (h : Here) where
  pub fit_done : Fit h done
  fit_done = record { by = refl }

  pub fit_then : (xs ys : Code) → Fit h xs → Fit h ys → Fit h (xs ⨾ ys)
  fit_then done ys f g = g
  fit_then (do_then s xs) ys f g = record {
    by = none_append (stmt_breaks h s) (code_breaks h (xs ⨾ ys)) (none_left (stmt_breaks h s) (code_breaks h xs) f.by) (fit_then xs ys (record { by = none_right (stmt_breaks h s) (code_breaks h xs) f.by }) g).by;
  }

  pub fit_block : (xs : Code) → Fit h xs → BlockFit h (block [] xs)
  fit_block xs f = record { by = f.by }

  pub name_fits : (k : CKind) (x : List ℕ) → kind_in h.scope x ≡ Some k → fits h k (Name x) ≡ true
  name_fits k x e = rw e (kind_same k)

  pub fit_set : (x : List ℕ) (k : CKind) (r : CExpr) → kind_in h.scope x ≡ Some k → right_fits h k r ≡ true → Fit h (just (assign x r))
  fit_set x k r e f = record { by = rw e (rw f refl) }

  pub fit_run : (c : CCall) → call_fits h c ≡ true → Fit h (just (run c))
  fit_run c e = record { by = rw e refl }

  pub fit_return : (k : CKind) (a : CAtom) → h.result ≡ Some k → fits h k a ≡ true → Fit h (just (return a))
  fit_return k a e f = record { by = rw e (rw f refl) }

  pub fit_if : (a : CAtom) (b c : Block) → fits h kind.Int a ≡ true → BlockFit h b → BlockFit h c → Fit h (just (if_else a b c))
  fit_if a b c e f g = record { by = rw e (none_append (block_breaks h b ++ block_breaks h c) [] (none_append (block_breaks h b) (block_breaks h c) f.by g.by) refl) }

  pub fit_only : (a : CAtom) (b : Block) → fits h kind.Int a ≡ true → BlockFit h b → Fit h (just (if_only a b))
  fit_only a b e f = record { by = rw e (none_append (block_breaks h b) [] f.by refl) }

  pub fit_forever : (b : Block) → h.inside_inline ≡ false → BlockFit (record h { in_loop = true }) b → Fit h (just (forever b))
  fit_forever b e f = record { by = none_after (not h.inside_inline) (block_breaks (record h { in_loop = true }) b ++ []) (rw e refl) (none_append (block_breaks (record h { in_loop = true }) b) [] f.by refl) }

  -- right sides
  pub ints_fit : (a b : CAtom) (op : COperator) → fits h kind.Int a ≡ true → fits h kind.Int b ≡ true → right_fits h kind.Int (Binary a op b) ≡ true
  ints_fit a b op e f = rw (e, f) refl

  pub words_fit : (a b : CAtom) (op : COperator) → is_arithmetic op ≡ true → fits h kind.Unsigned a ≡ true → fits h kind.Unsigned b ≡ true → right_fits h kind.Unsigned (Binary a op b) ≡ true
  words_fit a b op is e f = rw (is, e, f) refl

  pub words_compare : (a b : CAtom) (op : COperator) → is_arithmetic op ≡ false → fits h kind.Unsigned a ≡ true → fits h kind.Unsigned b ≡ true → right_fits h kind.Int (Binary a op b) ≡ true
  words_compare a b op is e f = second (both_fit h kind.Int a b) (not (is_arithmetic op) && both_fit h kind.Unsigned a b) _ (rw (is, e, f) refl)
    where
      second : (x y z : Bool) → y ≡ true → (x || y || z) ≡ true
      second true y z e = refl
      second false y z e = rw e refl
