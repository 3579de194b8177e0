-- In code that breaks no rule, each name of a local that is used is seen where it is used.
use Rattle.std.specs.Prelude.{Bool, true, false, not, ◌&&◌, ◌||◌, ◌==◌, Option, Some, None, is_some, ◌^◌, nat_lt, if◌then◌else◌}
use Rattle.std.specs.List.{list_any}
use Rattle.std.proofs.Common.{◌≡◌, ℕ, List, [], ◌∷◌, ◌++◌, refl, ap, arith}
use Rattle.mm_c.specs.declared.value.CCell.{CCell}
use Rattle.mm_c.specs.declared.value.CCell.TheVariants as cell
use Rattle.mm_c.specs.declared.tree.CKind.{CKind}
use Rattle.mm_c.specs.declared.tree.CKind.TheVariants as kind
use Rattle.mm_c.specs.declared.tree.CNumber.{CNumber}
use Rattle.mm_c.specs.declared.tree.CAtom.{CAtom}
use Rattle.mm_c.specs.declared.tree.CAtom.TheVariants.{Name, Number, Negative, Least}
use Rattle.mm_c.specs.declared.tree.COperator.{COperator}
use Rattle.mm_c.specs.declared.tree.CAddress.{CAddress}
use Rattle.mm_c.specs.declared.tree.CIndex.{CIndex}
use Rattle.mm_c.specs.declared.tree.CIndex.TheVariants as index_is
use Rattle.mm_c.specs.declared.tree.CCall.{CCall}
use Rattle.mm_c.specs.declared.tree.CCall.TheVariants.{Named, Element}
use Rattle.mm_c.specs.declared.tree.CExpr.{CExpr}
use Rattle.mm_c.specs.declared.tree.CExpr.TheVariants.{Atom, Binary, ToInt, ToUnsigned, Load, Index, Call}
use Rattle.mm_c.specs.declared.tree.CLocal.{CLocal}
use Rattle.mm_c.specs.Tree.{Stmt, assign, store, run, if_only, if_else, forever, break, continue, leave, return, Block, block, Code, done, do_then}
use Rattle.mm_c.specs.Tokens.{is_number}
use Rattle.mm_c.specs.WellFormed.{Here, same_kind, Entry, functions_type, numbers_array, functions_array, callable, entry_in, is_true, kind_in, kind_number, result_number, is_of, fits, all_fit, number_fits, is_offset, address_fits, is_index, index_fits, both_fit, binary_fits, is_arithmetic, is_equality, is_add, is_name_atom, one_is_name, callable_fits, element_fits, call_fits, right_fits, assign_fits, stored_fits, is_tag, returned_fits, stmt_breaks, block_breaks, code_breaks, locals_of, code_locals, stmt_locals, seeing}
use Rattle.mm_c.proofs.Bools.{and_left, and_right}
use Rattle.mm_c.proofs.Fits.{none_left, none_right}
use Rattle.mm_c_places.specs.Seen.{Sees, Agree, SeesAtom, SeesAtoms, SeesIndex, SeesCall, SeesRight, SeesStmt, SeesBlock, SeesCode}

-- ---- operands

none_is_none : (k : CKind) → (result_number None == kind_number k) ≡ false
none_is_none kind.Int = refl
none_is_none kind.Unsigned = refl
none_is_none kind.Long = refl
none_is_none kind.Pointer = refl

some_if : (o : Option CKind) (k : CKind) → (result_number o == kind_number k) ≡ true → is_some o ≡ true
some_if None k e = absurd (let f = none_is_none k in cc)
some_if (Some j) k e = refl

one_of : (P : Type 0) (a b : Bool) → (a ≡ true → P) → (b ≡ true → P) → (a || b) ≡ true → P
one_of P true b f g e = f refl
one_of P false b f g e = g e

-- a number without suffix
negative_sees : (m : CNumber) → is_number m ≡ true → not m.is_unsigned ≡ true → nat_lt m.value (2 ^ 31) ≡ true
negative_sees m e f = go m.is_unsigned f e
  where
    go : (b : Bool) → not b ≡ true → nat_lt m.value (if b then 2 ^ 32 else 2 ^ 31) ≡ true → nat_lt m.value (2 ^ 31) ≡ true
    go true f e = absurd (cc)
    go false f e = e

tag_number : (m : CNumber) → nat_lt m.value (2 ^ 16) ≡ true → is_number m ≡ true
tag_number m e = go m.is_unsigned
  where
    go : (b : Bool) → nat_lt m.value (if b then 2 ^ 32 else 2 ^ 31) ≡ true
    go true = grind (arith, e)
    go false = grind (arith, e)

module _ (h : Here) where
  of_sees : (k : CKind) (x : List ℕ) → is_of h k x ≡ true → Sees h.scope x
  of_sees k x e = some_if (kind_in h.scope x) k e

  pub atom_sees : (k : CKind) (a : CAtom) → fits h k a ≡ true → SeesAtom h.scope a
  atom_sees k (Name x) e = of_sees k x e
  atom_sees k (Number n) e = and_left (is_number n) (number_fits k n) e
  atom_sees k (Negative n) e = negative_sees n (and_right (same_kind k kind.Int) (is_number n) (and_left (same_kind k kind.Int && is_number n) (not n.is_unsigned) e)) (and_right (same_kind k kind.Int && is_number n) (not n.is_unsigned) e)
  atom_sees k Least e = tt

  atoms_see : (ks : List CKind) (xs : List CAtom) → all_fit h ks xs ≡ true → SeesAtoms h.scope xs
  atoms_see [] [] e = tt
  atoms_see [] (x ∷ xs) e = absurd (cc)
  atoms_see (k ∷ ks) [] e = absurd (cc)
  atoms_see (k ∷ ks) (x ∷ xs) e = (atom_sees k x (and_left (fits h k x) (all_fit h ks xs) e), atoms_see ks xs (and_right (fits h k x) (all_fit h ks xs) e))

  offset_sees : (a : CAtom) → is_offset h a ≡ true → SeesAtom h.scope a
  offset_sees (Name x) e = of_sees kind.Long x e
  offset_sees (Number n) e = and_left (is_number n) (not n.is_unsigned) e
  offset_sees (Negative n) e = absurd (cc)
  offset_sees Least e = tt

  address_sees : (p : CAddress) → address_fits h p ≡ true → Sees h.scope p.pointer
  address_sees p e = of_sees kind.Pointer p.pointer (and_left (is_of h kind.Pointer p.pointer) _ (and_left _ (not p.offset.is_unsigned) e))

  two_see : (j k : CKind) (x : List ℕ) → (is_of h j x || is_of h k x) ≡ true → Sees h.scope x
  two_see j k x e = one_of (Sees h.scope x) (is_of h j x) (is_of h k x) (of_sees j x) (of_sees k x) e

  index_sees : (i : CIndex) → index_fits h i ≡ true → SeesIndex h.scope i
  index_sees (index_is.Name x) e = two_see kind.Int kind.Long x e
  index_sees (index_is.Tag p) e = address_sees p e

  both_see : (k : CKind) (a b : CAtom) → both_fit h k a b ≡ true → SeesAtom h.scope a × SeesAtom h.scope b
  both_see k a b e = (atom_sees k a (and_left (fits h k a) (fits h k b) e), atom_sees k b (and_right (fits h k a) (fits h k b) e))

  binary_sees : (k : CKind) (a : CAtom) (o : COperator) (b : CAtom) → binary_fits h k a o b ≡ true → SeesAtom h.scope a × SeesAtom h.scope b
  binary_sees kind.Int a o b e =
      one_of (SeesAtom h.scope a × SeesAtom h.scope b) (both_fit h kind.Int a b || (not (is_arithmetic o) && both_fit h kind.Unsigned a b)) (is_equality o && one_is_name a b && both_fit h kind.Pointer a b)
      (one_of (SeesAtom h.scope a × SeesAtom h.scope b) (both_fit h kind.Int a b) (not (is_arithmetic o) && both_fit h kind.Unsigned a b) (both_see kind.Int a b) (λ f. both_see kind.Unsigned a b (and_right (not (is_arithmetic o)) (both_fit h kind.Unsigned a b) f)))
      (λ f. both_see kind.Pointer a b (and_right (is_equality o && one_is_name a b) (both_fit h kind.Pointer a b) f)) e
  binary_sees kind.Unsigned a o b e = both_see kind.Unsigned a b (and_right (is_arithmetic o) (both_fit h kind.Unsigned a b) e)
  binary_sees kind.Long a o b e = both_see kind.Long a b (and_right (is_add o && one_is_name a b) (both_fit h kind.Long a b) e)
  binary_sees kind.Pointer a o b e = (
    atom_sees kind.Pointer a (and_right (is_add o && is_name_atom a) (fits h kind.Pointer a) (and_left (is_add o && is_name_atom a && fits h kind.Pointer a) (is_offset h b) e)),
    offset_sees b (and_right (is_add o && is_name_atom a && fits h kind.Pointer a) (is_offset h b) e),
  )

  -- ---- calls and right sides

  callable_sees : (xs : List CAtom) (o : Option Entry) → callable_fits h xs o ≡ true → SeesAtoms h.scope xs
  callable_sees xs None e = absurd (cc)
  callable_sees xs (Some (functions_type r ks)) e = absurd (cc)
  callable_sees xs (Some numbers_array) e = absurd (cc)
  callable_sees xs (Some (functions_array r ks)) e = absurd (cc)
  callable_sees xs (Some (callable i d r ks)) e = atoms_see ks xs (and_right (not (i && h.inside_inline)) (all_fit h ks xs) e)

  element_sees : (xs : List CAtom) (o : Option Entry) → element_fits h xs o ≡ true → SeesAtoms h.scope xs
  element_sees xs None e = absurd (cc)
  element_sees xs (Some (functions_type r ks)) e = absurd (cc)
  element_sees xs (Some numbers_array) e = absurd (cc)
  element_sees xs (Some (functions_array r ks)) e = atoms_see ks xs e
  element_sees xs (Some (callable i d r ks)) e = absurd (cc)

  call_sees : (c : CCall) → call_fits h c ≡ true → SeesCall h.scope c
  call_sees (Named f xs) e = callable_sees xs (entry_in h.table f) e
  call_sees (Element a x xs) e = (
    two_see kind.Int kind.Long x (and_right (not h.inside_inline) (is_index h x) (and_left (not h.inside_inline && is_index h x) (element_fits h xs (entry_in h.table a)) e)),
    element_sees xs (entry_in h.table a) (and_right (not h.inside_inline && is_index h x) (element_fits h xs (entry_in h.table a)) e),
  )

  right_sees : (k : CKind) (r : CExpr) → right_fits h k r ≡ true → SeesRight h.scope r
  right_sees k (Atom a) e = atom_sees k a e
  right_sees k (Binary a o b) e = binary_sees k a o b e
  right_sees k (ToInt x) e = two_see kind.Int kind.Unsigned x (and_right _ (is_of h kind.Int x || is_of h kind.Unsigned x) e)
  right_sees k (ToUnsigned x) e = two_see kind.Int kind.Unsigned x (and_right _ (is_of h kind.Int x || is_of h kind.Unsigned x) e)
  right_sees k (Load c p) e = address_sees p (and_right _ (address_fits h p) e)
  right_sees k (Index a i) e = index_sees i (and_right _ (index_fits h i) e)
  right_sees k (Call c) e = call_sees c (and_left (call_fits h c) _ e)

  -- ---- statements

  assign_sees : (x : List ℕ) (o : Option CKind) (r : CExpr) → kind_in h.scope x ≡ o → assign_fits h o r ≡ true → Sees h.scope x × SeesRight h.scope r
  assign_sees x None r e f = absurd (cc)
  assign_sees x (Some k) r e f = (ap is_some e, right_sees k r f)

  tag_sees : (a : CAtom) → is_tag a ≡ true → SeesAtom h.scope a
  tag_sees (Name x) e = absurd (cc)
  tag_sees (Number n) e = tag_number n e
  tag_sees (Negative n) e = absurd (cc)
  tag_sees Least e = tt

  stored_sees : (c : CCell) (a : CAtom) → stored_fits h c a ≡ true → SeesAtom h.scope a
  stored_sees cell.Int a e = atom_sees kind.Int a e
  stored_sees cell.Unsigned a e = atom_sees kind.Unsigned a e
  stored_sees cell.Short a e = tag_sees a e
  stored_sees cell.Pointer a e = atom_sees kind.Pointer a e

  returned_sees : (o : Option CKind) (a : CAtom) → returned_fits h o a ≡ true → SeesAtom h.scope a
  returned_sees None a e = absurd (cc)
  returned_sees (Some k) a e = atom_sees k a e

pub agree_left : (all xs ys : List CLocal) → Agree all (xs ++ ys) → Agree all xs
agree_left all [] ys h = tt
agree_left all (x ∷ xs) ys h = (h.0, agree_left all xs ys h.1)

pub agree_right : (all xs ys : List CLocal) → Agree all (xs ++ ys) → Agree all ys
agree_right all [] ys h = h
agree_right all (x ∷ xs) ys h = agree_right all xs ys h.1

pub fine : (b : Bool) (bs : List Bool) → list_any is_true (not b ∷ bs) ≡ false → b ≡ true
fine true bs e = refl
fine false bs e = absurd (cc)

pub after : (b : Bool) (bs : List Bool) → list_any is_true (not b ∷ bs) ≡ false → list_any is_true bs ≡ false
after true bs e = e
after false bs e = absurd (cc)

module _ (all : List CLocal) where
  mutual
    stmt_sees : (h : Here) (s : Stmt) → list_any is_true (stmt_breaks h s) ≡ false → Agree all (stmt_locals s) → SeesStmt all h.scope s
    stmt_sees h (assign x r) e g = assign_sees h x (kind_in h.scope x) r refl (fine _ [] e)
    stmt_sees h (store c p a) e g = let f = fine (address_fits h p && stored_fits h c a) [] e in (address_sees h p (and_left _ (stored_fits h c a) f), stored_sees h c a (and_right (address_fits h p) _ f))
    stmt_sees h (run c) e g = call_sees h c (fine _ [] e)
    stmt_sees h (if_only a b) e g = (atom_sees h kind.Int a (fine _ (block_breaks h b) e), block_sees h b (after (fits h kind.Int a) (block_breaks h b) e) g)
    stmt_sees h (if_else a b c) e g =
        let f = after (fits h kind.Int a) (block_breaks h b ++ block_breaks h c) e in
        (atom_sees h kind.Int a (fine _ (block_breaks h b ++ block_breaks h c) e), block_sees h b (none_left (block_breaks h b) (block_breaks h c) f) (agree_left all (locals_of b) (locals_of c) g), block_sees h c (none_right (block_breaks h b) (block_breaks h c) f) (agree_right all (locals_of b) (locals_of c) g))
    stmt_sees h (forever b) e g = block_sees (record h { in_loop = true }) b (after (not h.inside_inline) (block_breaks (record h { in_loop = true }) b) e) g
    stmt_sees h break e g = tt
    stmt_sees h continue e g = tt
    stmt_sees h leave e g = tt
    stmt_sees h (return a) e g = returned_sees h h.result a (fine _ [] e)

    pub block_sees : (h : Here) (b : Block) → list_any is_true (block_breaks h b) ≡ false → Agree all (locals_of b) → SeesBlock all h.scope b
    block_sees h (block xs code) e g = (agree_left all xs (code_locals code) g, code_sees (seeing h xs) code e (agree_right all xs (code_locals code) g))

    code_sees : (h : Here) (c : Code) → list_any is_true (code_breaks h c) ≡ false → Agree all (code_locals c) → SeesCode all h.scope c
    code_sees h done e g = tt
    code_sees h (do_then s more) e g = (stmt_sees h s (none_left (stmt_breaks h s) (code_breaks h more) e) (agree_left all (stmt_locals s) (code_locals more) g), code_sees h more (none_right (stmt_breaks h s) (code_breaks h more) e) (agree_right all (stmt_locals s) (code_locals more) g))
