-- Whether code breaks a rule rests on the kinds of the names that it mentions alone.
use Rattle.mm_c.specs.Tokens.{is_number}
use Rattle.std.proofs.Common.{◌≡◌, ℕ, List, [], ◌∷◌, ◌++◌, refl, ap, ap₂, ◌∙◌}
use Rattle.std.specs.Prelude.{Bool, true, false, not, ◌&&◌, ◌||◌, ◌==◌, Option, Some, None}
use Rattle.std.specs.Str.{bytes_eq}
use Rattle.mm_classes.specs.Lists.{Has, first, later}
use Rattle.mm_c.specs.declared.value.CCell.{CCell}
use Rattle.mm_c.specs.declared.value.CCell.TheVariants as cell
use Rattle.mm_c.specs.declared.tree.CKind.{CKind}
use Rattle.mm_c.specs.declared.tree.CKind.TheVariants.{Int, Unsigned, Long, Pointer}
use Rattle.mm_c.specs.declared.tree.CAtom.{CAtom}
use Rattle.mm_c.specs.declared.tree.CAtom.TheVariants.{Name, Number, Negative, Least}
use Rattle.mm_c.specs.declared.tree.COperator.{COperator}
use Rattle.mm_c.specs.declared.tree.CAddress.{CAddress}
use Rattle.mm_c.specs.declared.tree.CIndex.{CIndex}
use Rattle.mm_c.specs.declared.tree.CIndex.TheVariants as index_is
use Rattle.mm_c.specs.declared.tree.CCall.{CCall}
use Rattle.mm_c.specs.declared.tree.CCall.TheVariants.{Named, Element}
use Rattle.mm_c.specs.declared.tree.CExpr.{CExpr}
use Rattle.mm_c.specs.declared.tree.CExpr.TheVariants.{Atom, Binary, ToInt, ToUnsigned, Load, Index, Call}
use Rattle.mm_c.specs.declared.tree.CLocal.{CLocal}
use Rattle.mm_c.specs.Tree.{Stmt, assign, store, run, if_only, if_else, forever, break, continue, leave, return, Block, block, Code, done, do_then}
use Rattle.mm_c.specs.WellFormed.{Here, Entry, callable, functions_array, kind_number, result_number, kind_in, is_of, fits, all_fit, is_offset, address_fits, is_index, index_fits, is_add, is_equality, is_arithmetic, both_fit, one_is_name, is_name_atom, binary_fits, kind_of_cell, is_numbers, entry_in, callable_fits, element_fits, call_fits, call_result, right_fits, assign_fits, stored_fits, returned_fits, stmt_fits, stmt_breaks, block_breaks, code_breaks, same_kind}
use Rattle.mm_simulate.specs.Temporaries.{atom_names, atoms_names, call_names, index_names, right_names, stmt_names, block_names, names_in}
use Rattle.mm_simulate.proofs.Defined.{has_left, has_right}

-- the names have one kind each in both scopes
abbrev pub OneKind : List CLocal → List CLocal → List (List ℕ) → Type 0
OneKind scope other names = (x : List ℕ) → Has names x → kind_in scope x ≡ kind_in other x

module _ (scope other : List CLocal) where
  left : (xs ys : List (List ℕ)) → OneKind scope other (xs ++ ys) → OneKind scope other xs
  left xs ys h x e = h x (has_left xs ys x e)

  right : (xs ys : List (List ℕ)) → OneKind scope other (xs ++ ys) → OneKind scope other ys
  right xs ys h x e = h x (has_right xs ys x e)

  -- names before both
  before : (xs : List CLocal) (x : List ℕ) → kind_in scope x ≡ kind_in other x → kind_in (xs ++ scope) x ≡ kind_in (xs ++ other) x
  before [] x e = e
  before (l ∷ xs) x e = ap (λ o. elim (bytes_eq l.name x) as (λ (b : Bool). Option CKind) [ true ↦ Some l.kind | false ↦ o ]) (before xs x e)

  module _ (h : Here) where
    abbrev a : Here
    a = record h { scope = scope }

    abbrev b : Here
    b = record h { scope = other }

    same_of : (k : CKind) (x : List ℕ) → kind_in scope x ≡ kind_in other x → is_of a k x ≡ is_of b k x
    same_of k x e = ap (λ o. result_number o == kind_number k) e

    same_atom : (k : CKind) (d : CAtom) → OneKind scope other (atom_names d) → fits a k d ≡ fits b k d
    same_atom k (Name x) e = same_of k x (e x (first refl))
    same_atom k (Number n) e = refl
    same_atom k (Negative n) e = refl
    same_atom k Least e = refl

    same_offset : (d : CAtom) → OneKind scope other (atom_names d) → is_offset a d ≡ is_offset b d
    same_offset (Name x) e = same_of Long x (e x (first refl))
    same_offset (Number n) e = refl
    same_offset (Negative n) e = refl
    same_offset Least e = refl

    same_atoms : (ks : List CKind) (ds : List CAtom) → OneKind scope other (atoms_names ds) → all_fit a ks ds ≡ all_fit b ks ds
    same_atoms [] [] e = refl
    same_atoms (k ∷ ks) (d ∷ ds) e = ap₂ (λ x y. x && y) (same_atom k d (left (atom_names d) (atoms_names ds) e)) (same_atoms ks ds (right (atom_names d) (atoms_names ds) e))
    same_atoms [] (d ∷ ds) e = refl
    same_atoms (k ∷ ks) [] e = refl

    same_address : (p : CAddress) → OneKind scope other (p.pointer ∷ []) → address_fits a p ≡ address_fits b p
    same_address p e = ap (λ x. x && is_number p.offset && not p.offset.is_unsigned) (same_of Pointer p.pointer (e p.pointer (first refl)))

    same_index : (x : List ℕ) → kind_in scope x ≡ kind_in other x → is_index a x ≡ is_index b x
    same_index x e = ap₂ (λ y z. y || z) (same_of Int x e) (same_of Long x e)

    same_indexed : (i : CIndex) → OneKind scope other (index_names i) → index_fits a i ≡ index_fits b i
    same_indexed (index_is.Name x) e = same_index x (e x (first refl))
    same_indexed (index_is.Tag p) e = same_address p e

    same_binary : (k : CKind) (c : CAtom) (o : COperator) (d : CAtom) → OneKind scope other (atom_names c) → OneKind scope other (atom_names d) → binary_fits a k c o d ≡ binary_fits b k c o d
    same_binary Int c o d e f = ap₂ (λ x y. x || y) (ap₂ (λ x y. x || y) (same_both Int c d e f) (ap (λ x. not (is_arithmetic o) && x) (same_both Unsigned c d e f))) (ap (λ x. is_equality o && one_is_name c d && x) (same_both Pointer c d e f))
      where
        same_both : (k : CKind) (c d : CAtom) → OneKind scope other (atom_names c) → OneKind scope other (atom_names d) → both_fit a k c d ≡ both_fit b k c d
        same_both k c d e f = ap₂ (λ x y. x && y) (same_atom k c e) (same_atom k d f)
    same_binary Unsigned c o d e f = ap₂ (λ x y. is_arithmetic o && (x && y)) (same_atom Unsigned c e) (same_atom Unsigned d f)
    same_binary Long c o d e f = ap₂ (λ x y. is_add o && one_is_name c d && (x && y)) (same_atom Long c e) (same_atom Long d f)
    same_binary Pointer c o d e f = ap₂ (λ x y. is_add o && is_name_atom c && x && y) (same_atom Pointer c e) (same_offset d f)

    same_callable : (ds : List CAtom) (o : Option Entry) → OneKind scope other (atoms_names ds) → callable_fits a ds o ≡ callable_fits b ds o
    same_callable ds None e = refl
    same_callable ds (Some (callable i d r ks)) e = ap (λ x. not (i && h.inside_inline) && x) (same_atoms ks ds e)
    same_callable ds (Some other') e = refl

    same_element : (ds : List CAtom) (o : Option Entry) → OneKind scope other (atoms_names ds) → element_fits a ds o ≡ element_fits b ds o
    same_element ds None e = refl
    same_element ds (Some (functions_array r ks)) e = same_atoms ks ds e
    same_element ds (Some other') e = refl

    same_call : (c : CCall) → OneKind scope other (call_names c) → call_fits a c ≡ call_fits b c
    same_call (Named f ds) e = same_callable ds (entry_in h.table f) e
    same_call (Element f x ds) e = ap₂ (λ y z. not h.inside_inline && y && z) (same_index x (e x (first refl))) (same_element ds (entry_in h.table f) (λ y m. e y (later m)))

    same_right : (k : CKind) (r : CExpr) → OneKind scope other (right_names r) → right_fits a k r ≡ right_fits b k r
    same_right k (Atom d) e = same_atom k d e
    same_right k (Binary c o d) e = same_binary k c o d (left (atom_names c) (atom_names d) e) (right (atom_names c) (atom_names d) e)
    same_right k (ToInt x) e = ap (λ y. same_kind k Int && y) (ap₂ (λ y z. y || z) (same_of Int x (e x (first refl))) (same_of Unsigned x (e x (first refl))))
    same_right k (ToUnsigned x) e = ap (λ y. same_kind k Unsigned && y) (ap₂ (λ y z. y || z) (same_of Int x (e x (first refl))) (same_of Unsigned x (e x (first refl))))
    same_right k (Load c p) e = ap (λ y. (result_number (kind_of_cell c) == kind_number k) && y) (same_address p e)
    same_right k (Index f i) e = ap (λ y. same_kind k Long && is_numbers (entry_in h.table f) && y) (same_indexed i e)
    same_right k (Call (Named f ds)) e = ap (λ y. y && (call_result a (Named f ds) == kind_number k)) (same_call (Named f ds) e)
    same_right k (Call (Element f x ds)) e = ap (λ y. y && (call_result a (Element f x ds) == kind_number k)) (same_call (Element f x ds) e)

    same_assign : (o p : Option CKind) (r : CExpr) → o ≡ p → OneKind scope other (right_names r) → assign_fits a o r ≡ assign_fits b p r
    same_assign o p r is e = at o e ∙ ap (λ z. assign_fits b z r) is
      where
        at : (o : Option CKind) → OneKind scope other (right_names r) → assign_fits a o r ≡ assign_fits b o r
        at None e = refl
        at (Some k) e = same_right k r e

    same_stored : (c : CCell) (d : CAtom) → OneKind scope other (atom_names d) → stored_fits a c d ≡ stored_fits b c d
    same_stored cell.Int d e = same_atom Int d e
    same_stored cell.Unsigned d e = same_atom Unsigned d e
    same_stored cell.Short d e = refl
    same_stored cell.Pointer d e = same_atom Pointer d e

    same_returned : (o : Option CKind) (d : CAtom) → OneKind scope other (atom_names d) → returned_fits a o d ≡ returned_fits b o d
    same_returned None d e = refl
    same_returned (Some k) d e = same_atom k d e

    same_one : (s : Stmt) → OneKind scope other (stmt_names s) → stmt_fits a s ≡ stmt_fits b s
    same_one (assign x r) e = same_assign (kind_in scope x) (kind_in other x) r (e x (first refl)) (λ y m. e y (later m))
    same_one (store c p d) e = ap₂ (λ y z. y && z) (same_address p (λ y m. e y (elim m [ first q ↦ first q | later n ↦ absurd (elim n [ ]) ]))) (same_stored c d (λ y m. e y (later m)))
    same_one (run c) e = same_call c e
    same_one (if_only d p) e = same_atom Int d (left (atom_names d) (block_names p) e)
    same_one (if_else d p q) e = same_atom Int d (left (atom_names d) (block_names p ++ block_names q) e)
    same_one (forever p) e = refl
    same_one break e = refl
    same_one continue e = refl
    same_one leave e = refl
    same_one (return d) e = same_returned h.result d e

mutual
  same_stmt : (scope other : List CLocal) (h : Here) (s : Stmt) → OneKind scope other (stmt_names s) → stmt_breaks (record h { scope = scope }) s ≡ stmt_breaks (record h { scope = other }) s
  same_stmt scope other h (assign x r) e = ap (λ y. not y ∷ []) (same_one scope other h (assign x r) e)
  same_stmt scope other h (store c p d) e = ap (λ y. not y ∷ []) (same_one scope other h (store c p d) e)
  same_stmt scope other h (run c) e = ap (λ y. not y ∷ []) (same_one scope other h (run c) e)
  same_stmt scope other h (if_only d p) e = ap₂ (λ y ys. not y ∷ ys) (same_one scope other h (if_only d p) e) (same_block scope other h p (right scope other (atom_names d) (block_names p) e))
  same_stmt scope other h (if_else d p q) e = ap₂ (λ y ys. not y ∷ ys) (same_one scope other h (if_else d p q) e) (let f = right scope other (atom_names d) (block_names p ++ block_names q) e in ap₂ (λ ys zs. ys ++ zs) (same_block scope other h p (left scope other (block_names p) (block_names q) f)) (same_block scope other h q (right scope other (block_names p) (block_names q) f)))
  same_stmt scope other h (forever p) e = ap (λ ys. not (not h.inside_inline) ∷ ys) (same_block scope other (record h { in_loop = true }) p e)
  same_stmt scope other h break e = refl
  same_stmt scope other h continue e = refl
  same_stmt scope other h leave e = refl
  same_stmt scope other h (return d) e = ap (λ y. not y ∷ []) (same_one scope other h (return d) e)

  same_block : (scope other : List CLocal) (h : Here) (p : Block) → OneKind scope other (block_names p) → block_breaks (record h { scope = scope }) p ≡ block_breaks (record h { scope = other }) p
  same_block scope other h (block xs code) e = same_code (xs ++ scope) (xs ++ other) h code (λ x m. before scope other xs x (e x m))

  pub same_code : (scope other : List CLocal) (h : Here) (code : Code) → OneKind scope other (names_in code) → code_breaks (record h { scope = scope }) code ≡ code_breaks (record h { scope = other }) code
  same_code scope other h done e = refl
  same_code scope other h (do_then s more) e = ap₂ (λ ys zs. ys ++ zs) (same_stmt scope other h s (left scope other (stmt_names s) (names_in more) e)) (same_code scope other h more (right scope other (stmt_names s) (names_in more) e))
