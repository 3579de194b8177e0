-- A well-formed program is a tree of the grammar: each name is declared, and what is declared is a name.
use Rattle.std.specs.Prelude.{Bool, true, false, not, ◌&&◌, ◌||◌, ◌==◌, nat_lt, map, length, if◌then◌else◌}
use Rattle.std.proofs.Common.{◌≡◌, ℕ, zero, suc, ◌≤◌, List, [], ◌∷◌, ◌++◌, Option, Some, None, refl, sym, ap, ◌∙◌, arith}
use Rattle.std.specs.Str.{bytes_eq}
use Rattle.std.specs.List.{list_any}
use Rattle.std.proofs.lemmas.Slice.Eq.{bytes_eq-Decides}
use Rattle.mm_c.specs.declared.value.CCell.{CCell}
use Rattle.mm_c.specs.declared.value.CCell.TheVariants as cell
use Rattle.mm_c.specs.declared.tree.CKind.{CKind}
use Rattle.mm_c.specs.declared.tree.CKind.TheVariants.{Int, Unsigned, Long, Pointer}
use Rattle.mm_c.specs.declared.tree.CAtom.{CAtom}
use Rattle.mm_c.specs.declared.tree.CAtom.TheVariants.{Name, Number, Negative, Least}
use Rattle.mm_c.specs.declared.tree.COperator.{COperator}
use Rattle.mm_c.specs.declared.tree.CAddress.{CAddress}
use Rattle.mm_c.specs.declared.tree.CIndex.{CIndex}
use Rattle.mm_c.specs.declared.tree.CIndex.TheVariants as index_is
use Rattle.mm_c.specs.declared.tree.CCall.{CCall}
use Rattle.mm_c.specs.declared.tree.CCall.TheVariants.{Named, Element}
use Rattle.mm_c.specs.declared.tree.CExpr.{CExpr}
use Rattle.mm_c.specs.declared.tree.CExpr.TheVariants.{Atom, Binary, ToInt, ToUnsigned, Load, Index, Call}
use Rattle.mm_c.specs.declared.tree.CLocal.{CLocal}
use Rattle.mm_c.specs.declared.tree.CElement.{CElement}
use Rattle.mm_c.specs.declared.tree.CElement.TheVariants as element_is
use Rattle.mm_c.specs.declared.tree.CArray.{CArray}
use Rattle.mm_c.specs.declared.tree.CProto.{CProto}
use Rattle.mm_c.specs.Tree.{Stmt, assign, store, run, if_only, if_else, forever, break, continue, leave, return, Block, block, Code, done, do_then, Function, Item, typedef, array, proto, function, Program}
use Rattle.mm_c.specs.Tokens.{is_number}
use Rattle.mm_c.specs.WellFormed.{Entry, functions_type, functions_array, callable, numbers_array, Table, Here, entry_in, kind_in, kind_number, result_number, is_of, fits, all_fit, is_name, list_every, address_fits, is_index, index_fits, both_fit, is_arithmetic, is_equality, one_is_name, binary_fits, right_fits, callable_fits, element_fits, call_fits, is_offset, assign_fits, stored_fits, returned_fits, seeing, stmt_breaks, block_breaks, code_breaks, locals_of, code_locals, stmt_locals, depth_of, code_depth, stmt_depth, is_new, locals_fit, is_numbers, kind_of_cell, is_true, same_kind, same_params, same_linkage, same_result, is_in, is_long, is_callable, is_function_in, functions_fit, elements_fit, array_fits, definitions, defines, may_define, head_fits, item_fits, inner_breaks, with_item, items_break, prelude, globals_of, breaks, has_main, well_formed, is_inline}
use Rattle.mm_c.specs.Printing.{local_ok, atom_ok, address_ok, index_ok, call_ok, is_loaded, right_ok, stmt_ok, block_ok, code_ok, element_ok, functions_ok, is_some_list, item_ok, program_ok}
use Rattle.mm_c.proofs.Bools.{and_left, and_right, both}

-- ---- tests

abbrev entry_ok : List ℕ × Entry → Bool
entry_ok e = is_name e.0

entry_name : (f : Option Entry → Bool) → f None ≡ false → (t : Table) (x : List ℕ) → list_every entry_ok t ≡ true → f (entry_in t x) ≡ true → is_name x ≡ true
entry_name f z [] x g h = absurd (cc)
entry_name f z (e ∷ t) x g h = go (bytes_eq e.0 x) refl (entry_name f z t x (and_right (entry_ok e) (list_every entry_ok t) g)) h
  where
    go : (b : Bool) → bytes_eq e.0 x ≡ b → (f (entry_in t x) ≡ true → is_name x ≡ true) → f (elim b as (λ z. Option Entry) [ true ↦ Some e.1 | false ↦ entry_in t x ]) ≡ true → is_name x ≡ true
    go true s r k = ap is_name (sym ((bytes_eq-Decides e.0 x).0 s)) ∙ and_left (entry_ok e) (list_every entry_ok t) g
    go false s r k = r k

local_name : (f : Option CKind → Bool) → f None ≡ false → (ls : List CLocal) (x : List ℕ) → list_every local_ok ls ≡ true → f (kind_in ls x) ≡ true → is_name x ≡ true
local_name f z [] x g h = absurd (cc)
local_name f z (l ∷ ls) x g h = go (bytes_eq l.name x) refl (local_name f z ls x (and_right (local_ok l) (list_every local_ok ls) g)) h
  where
    go : (b : Bool) → bytes_eq l.name x ≡ b → (f (kind_in ls x) ≡ true → is_name x ≡ true) → f (elim b as (λ z. Option CKind) [ true ↦ Some l.kind | false ↦ kind_in ls x ]) ≡ true → is_name x ≡ true
    go true s r k = ap is_name (sym ((bytes_eq-Decides l.name x).0 s)) ∙ and_left (local_ok l) (list_every local_ok ls) g
    go false s r k = r k

-- what is declared where a statement stands has names
record Named_in (h : Here) : Type 0 where
  table : list_every entry_ok h.table ≡ true
  scope : list_every local_ok h.scope ≡ true

no_kind : (k : CKind) → (0 == kind_number k) ≡ false
no_kind Int = refl
no_kind Unsigned = refl
no_kind Long = refl
no_kind Pointer = refl

or_true : (a b : Bool) (Z : Type 0) → (a ≡ true → Z) → (b ≡ true → Z) → (a || b) ≡ true → Z
or_true true b Z f g h = f refl
or_true false b Z f g h = g h

module _ (h : Here) (n : Named_in h) where
  of_name : (k : CKind) (x : List ℕ) → is_of h k x ≡ true → is_name x ≡ true
  of_name k x e = local_name (λ o. result_number o == kind_number k) (no_kind k) h.scope x n.scope e

  index_name : (x : List ℕ) → is_index h x ≡ true → is_name x ≡ true
  index_name x e = or_true (is_of h Int x) (is_of h Long x) (is_name x ≡ true) (of_name Int x) (of_name Long x) e

  atom_good : (k : CKind) (a : CAtom) → fits h k a ≡ true → atom_ok a ≡ true
  atom_good k (Name x) e = of_name k x e
  atom_good k (Number m) e = and_left (is_number m) _ e
  atom_good k (Negative m) e = and_right (same_kind k Int) (is_number m) (and_left (same_kind k Int && is_number m) (not m.is_unsigned) e)
  atom_good k Least e = refl

  atoms_good : (ks : List CKind) (ys : List CAtom) → all_fit h ks ys ≡ true → list_every atom_ok ys ≡ true
  atoms_good [] [] e = refl
  atoms_good [] (a ∷ ys) e = absurd (cc)
  atoms_good (k ∷ ks) [] e = refl
  atoms_good (k ∷ ks) (a ∷ ys) e = both (atom_ok a) (list_every atom_ok ys) (atom_good k a (and_left (fits h k a) (all_fit h ks ys) e)) (atoms_good ks ys (and_right (fits h k a) (all_fit h ks ys) e))

  offset_good : (a : CAtom) → is_offset h a ≡ true → atom_ok a ≡ true
  offset_good (Name x) e = of_name Long x e
  offset_good (Number m) e = and_left (is_number m) _ e
  offset_good (Negative m) e = absurd (cc)
  offset_good Least e = refl

  address_good : (p : CAddress) → address_fits h p ≡ true → address_ok p ≡ true
  address_good p e =
      let f = and_left (is_of h Pointer p.pointer && is_number p.offset) (not p.offset.is_unsigned) e in
      both (is_name p.pointer) (is_number p.offset) (of_name Pointer p.pointer (and_left (is_of h Pointer p.pointer) (is_number p.offset) f)) (and_right (is_of h Pointer p.pointer) (is_number p.offset) f)

  index_good : (i : CIndex) → index_fits h i ≡ true → index_ok i ≡ true
  index_good (index_is.Name x) e = index_name x e
  index_good (index_is.Tag p) e = address_good p e

  both_good : (k : CKind) (a b : CAtom) → both_fit h k a b ≡ true → (atom_ok a && atom_ok b) ≡ true
  both_good k a b e = both (atom_ok a) (atom_ok b) (atom_good k a (and_left (fits h k a) (fits h k b) e)) (atom_good k b (and_right (fits h k a) (fits h k b) e))

  binary_good : (k : CKind) (a : CAtom) (o : COperator) (b : CAtom) → binary_fits h k a o b ≡ true → (atom_ok a && atom_ok b) ≡ true
  binary_good Int a o b e =
      or_true (both_fit h Int a b || (not (is_arithmetic o) && both_fit h Unsigned a b)) (is_equality o && one_is_name a b && both_fit h Pointer a b) _
      (λ x. or_true (both_fit h Int a b) (not (is_arithmetic o) && both_fit h Unsigned a b) _ (both_good Int a b) (λ y. both_good Unsigned a b (and_right (not (is_arithmetic o)) (both_fit h Unsigned a b) y)) x)
      (λ x. both_good Pointer a b (and_right (is_equality o && one_is_name a b) (both_fit h Pointer a b) x)) e
  binary_good Unsigned a o b e = both_good Unsigned a b (and_right _ _ e)
  binary_good Long a o b e = both_good Long a b (and_right _ _ e)
  binary_good Pointer a o b e = both (atom_ok a) (atom_ok b) (atom_good Pointer a (and_right _ _ (and_left _ (is_offset h b) e))) (offset_good b (and_right _ _ e))

  callable_atoms : (ys : List CAtom) (o : Option Entry) → callable_fits h ys o ≡ true → list_every atom_ok ys ≡ true
  callable_atoms ys None e = absurd (cc)
  callable_atoms ys (Some (functions_type r ks)) e = absurd (cc)
  callable_atoms ys (Some numbers_array) e = absurd (cc)
  callable_atoms ys (Some (functions_array r ks)) e = absurd (cc)
  callable_atoms ys (Some (callable i d r ks)) e = atoms_good ks ys (and_right _ _ e)

  element_atoms : (ys : List CAtom) (o : Option Entry) → element_fits h ys o ≡ true → list_every atom_ok ys ≡ true
  element_atoms ys None e = absurd (cc)
  element_atoms ys (Some (functions_type r ks)) e = absurd (cc)
  element_atoms ys (Some numbers_array) e = absurd (cc)
  element_atoms ys (Some (functions_array r ks)) e = atoms_good ks ys e
  element_atoms ys (Some (callable i d r ks)) e = absurd (cc)

  call_good : (c : CCall) → call_fits h c ≡ true → call_ok c ≡ true
  call_good (Named f ys) e = both (is_name f) (list_every atom_ok ys) (entry_name (callable_fits h ys) refl h.table f n.table e) (callable_atoms ys (entry_in h.table f) e)
  call_good (Element a x ys) e =
      let l = and_right (not h.inside_inline && is_index h x) (element_fits h ys (entry_in h.table a)) e in
      let i = and_right (not h.inside_inline) (is_index h x) (and_left (not h.inside_inline && is_index h x) (element_fits h ys (entry_in h.table a)) e) in
      both (is_name a) (is_name x && list_every atom_ok ys) (entry_name (element_fits h ys) refl h.table a n.table l) (both (is_name x) (list_every atom_ok ys) (index_name x i) (element_atoms ys (entry_in h.table a) l))

  loaded_good : (k : CKind) (c : CCell) → (result_number (kind_of_cell c) == kind_number k) ≡ true → is_loaded c ≡ true
  loaded_good k cell.Int e = refl
  loaded_good k cell.Unsigned e = refl
  loaded_good k cell.Short e = let f = no_kind k in absurd (cc)
  loaded_good k cell.Pointer e = refl

  cast_name : (x : List ℕ) → (is_of h Int x || is_of h Unsigned x) ≡ true → is_name x ≡ true
  cast_name x e = or_true (is_of h Int x) (is_of h Unsigned x) (is_name x ≡ true) (of_name Int x) (of_name Unsigned x) e

  right_good : (k : CKind) (r : CExpr) → right_fits h k r ≡ true → right_ok r ≡ true
  right_good k (Atom a) e = atom_good k a e
  right_good k (Binary a o b) e = binary_good k a o b e
  right_good k (ToInt x) e = cast_name x (and_right (same_kind k Int) _ e)
  right_good k (ToUnsigned x) e = cast_name x (and_right (same_kind k Unsigned) _ e)
  right_good k (Load c p) e = both (is_loaded c) (address_ok p) (loaded_good k c (and_left _ (address_fits h p) e)) (address_good p (and_right _ (address_fits h p) e))
  right_good k (Index a i) e = both (is_name a) (index_ok i) (entry_name is_numbers refl h.table a n.table (and_right _ _ (and_left _ (index_fits h i) e))) (index_good i (and_right _ (index_fits h i) e))
  right_good k (Call c) e = call_good c (and_left (call_fits h c) _ e)

  assign_good : (o : Option CKind) (r : CExpr) → assign_fits h o r ≡ true → right_ok r ≡ true
  assign_good None r e = absurd (cc)
  assign_good (Some k) r e = right_good k r e

  stored_good : (c : CCell) (a : CAtom) → stored_fits h c a ≡ true → atom_ok a ≡ true
  stored_good cell.Int a e = atom_good Int a e
  stored_good cell.Unsigned a e = atom_good Unsigned a e
  stored_good cell.Short (Name x) e = absurd (cc)
  stored_good cell.Short (Number m) e = small m.value m.is_unsigned e
    where
      small : (v : ℕ) (b : Bool) → nat_lt v 65536 ≡ true → nat_lt v (if b then 4294967296 else 2147483648) ≡ true
      small v true e = grind (arith, e)
      small v false e = grind (arith, e)
  stored_good cell.Short (Negative m) e = absurd (cc)
  stored_good cell.Short Least e = refl
  stored_good cell.Pointer a e = atom_good Pointer a e

  returned_good : (o : Option CKind) (a : CAtom) → returned_fits h o a ≡ true → atom_ok a ≡ true
  returned_good None a e = absurd (cc)
  returned_good (Some k) a e = atom_good k a e

-- ---- statements

not_any : (b : Bool) (bs : List Bool) → list_any is_true (not b ∷ bs) ≡ false → (b ≡ true) × (list_any is_true bs ≡ false)
not_any true bs e = (refl, e)
not_any false bs e = absurd (cc)

any_both : (a b : List Bool) → list_any is_true (a ++ b) ≡ false → (list_any is_true a ≡ false) × (list_any is_true b ≡ false)
any_both [] b e = (refl, e)
any_both (true ∷ a) b e = absurd (cc)
any_both (false ∷ a) b e = any_both a b e

every_both : {A : Type 0} → (f : A → Bool) (a b : List A) → list_every f (a ++ b) ≡ true → (list_every f a ≡ true) × (list_every f b ≡ true)
every_both f [] b e = (refl, e)
every_both f (x ∷ a) b e = let r = every_both f a b (and_right (f x) (list_every f (a ++ b)) e) in (both (f x) (list_every f a) (and_left (f x) (list_every f (a ++ b)) e) r.0, r.1)

every_join : {A : Type 0} → (f : A → Bool) (a b : List A) → list_every f a ≡ true → list_every f b ≡ true → list_every f (a ++ b) ≡ true
every_join f [] b g e = e
every_join f (x ∷ a) b g e = both (f x) (list_every f (a ++ b)) (and_left (f x) (list_every f a) g) (every_join f a b (and_right (f x) (list_every f a) g) e)

looping : (h : Here) → Named_in h → Named_in (record h { in_loop = true })
looping h n = record { table = n.table; scope = n.scope }

mutual
  stmt_good : (h : Here) → Named_in h → (s : Stmt) (d : ℕ) → list_any is_true (stmt_breaks h s) ≡ false → list_every local_ok (stmt_locals s) ≡ true → stmt_depth s ≤ d → stmt_ok s d ≡ true
  stmt_good h n (assign x r) d e l g = let f = (not_any _ [] e).0 in both (is_name x) (right_ok r) (local_name (λ o. assign_fits h o r) refl h.scope x n.scope f) (assign_good h n (kind_in h.scope x) r f)
  stmt_good h n (store c p a) d e l g = let f = (not_any _ [] e).0 in both _ _ (address_good h n p (and_left _ (stored_fits h c a) f)) (stored_good h n c a (and_right _ (stored_fits h c a) f))
  stmt_good h n (run c) d e l g = call_good h n c (not_any _ [] e).0
  stmt_good h n (if_only a b) d e l g = let f = not_any _ (block_breaks h b) e in both _ _ (atom_good h n Int a f.0) (block_good h n b d f.1 l g)
  stmt_good h n (if_else a b c) d e l g =
      let f = not_any _ (block_breaks h b ++ block_breaks h c) e in
      let k = any_both (block_breaks h b) (block_breaks h c) f.1 in
      let m = every_both local_ok (locals_of b) (locals_of c) l in
      both _ _ (atom_good h n Int a f.0) (both _ _ (block_good h n b d k.0 m.0 (omega arith)) (block_good h n c d k.1 m.1 (omega arith)))
  stmt_good h n (forever b) d e l g = block_good (record h { in_loop = true }) (looping h n) b d (not_any _ (block_breaks (record h { in_loop = true }) b) e).1 l g
  stmt_good h n break d e l g = refl
  stmt_good h n continue d e l g = refl
  stmt_good h n leave d e l g = refl
  stmt_good h n (return a) d e l g = returned_good h n h.result a (not_any _ [] e).0

  block_good : (h : Here) → Named_in h → (b : Block) (d : ℕ) → list_any is_true (block_breaks h b) ≡ false → list_every local_ok (locals_of b) ≡ true → depth_of b ≤ d → block_ok b d ≡ true
  block_good h n (block xs code) zero e l g = absurd (let x : ⊥ = omega arith in x)
  block_good h n (block xs code) (suc d) e l g =
      let m = every_both local_ok xs (code_locals code) l in
      both _ _ m.0 (code_good (seeing h xs) (record { table = n.table; scope = every_join local_ok xs h.scope m.0 n.scope }) code d e m.1 (omega arith))

  code_good : (h : Here) → Named_in h → (c : Code) (d : ℕ) → list_any is_true (code_breaks h c) ≡ false → list_every local_ok (code_locals c) ≡ true → code_depth c ≤ d → code_ok c d ≡ true
  code_good h n done d e l g = refl
  code_good h n (do_then s more) d e l g =
      let k = any_both (stmt_breaks h s) (code_breaks h more) e in
      let m = every_both local_ok (stmt_locals s) (code_locals more) l in
      both _ _ (stmt_good h n s d k.0 m.0 (omega arith)) (code_good h n more d k.1 m.1 (omega arith))

-- ---- items

locals_good : (globals : List (List ℕ)) (ls : List CLocal) → locals_fit globals ls ≡ true → list_every local_ok ls ≡ true
locals_good globals [] e = refl
locals_good globals (l ∷ ls) e = go (is_name l.name) (not (is_in globals l.name)) (not (is_in (map (λ (x : CLocal). x.name) ls) l.name)) (locals_fit globals ls) (locals_good globals ls) e
  where
    go : (a b c d : Bool) → (d ≡ true → list_every local_ok ls ≡ true) → (a && b && c && d) ≡ true → (a && list_every local_ok ls) ≡ true
    go true true true true f k = f refl
    go true true true false f k = absurd (cc)
    go true true false d f k = absurd (cc)
    go true false c d f k = absurd (cc)
    go false b c d f k = absurd (cc)

long_number : (v : ℕ) (b : Bool) → nat_lt v 2147483648 ≡ true → nat_lt v (if b then 4294967296 else 2147483648) ≡ true
long_number v true e = grind (arith, e)
long_number v false e = e

longs_good : (es : List CElement) → list_every is_long es ≡ true → list_every element_ok es ≡ true
longs_good [] e = refl
longs_good (x ∷ es) e = both (element_ok x) (list_every element_ok es) (one x (and_left (is_long x) (list_every is_long es) e)) (longs_good es (and_right (is_long x) (list_every is_long es) e))
  where
    one : (x : CElement) → is_long x ≡ true → element_ok x ≡ true
    one (element_is.Name y) k = absurd (cc)
    one (element_is.Number m) k = long_number m.value m.is_unsigned k
    one (element_is.Negative m) k = long_number m.value m.is_unsigned (and_left (nat_lt m.value 2147483648) (not m.is_unsigned) k)

functions_good : (t : Table) (r : Option CKind) (ks : List CKind) → list_every entry_ok t ≡ true → (es : List CElement) → list_every (is_function_in t r ks) es ≡ true → list_every element_ok es ≡ true
functions_good t r ks g [] e = refl
functions_good t r ks g (x ∷ es) e = both (element_ok x) (list_every element_ok es) (one x (and_left (is_function_in t r ks x) (list_every (is_function_in t r ks) es) e)) (functions_good t r ks g es (and_right (is_function_in t r ks x) (list_every (is_function_in t r ks) es) e))
  where
    one : (x : CElement) → is_function_in t r ks x ≡ true → element_ok x ≡ true
    one (element_is.Name y) k = entry_name (is_callable r ks) refl t y g k
    one (element_is.Number m) k = absurd (cc)
    one (element_is.Negative m) k = absurd (cc)

typed_good : (t : Table) (es : List CElement) (o : Option Entry) → list_every entry_ok t ≡ true → functions_fit t es o ≡ true → list_every element_ok es ≡ true
typed_good t es None g e = absurd (cc)
typed_good t es (Some (functions_type r ks)) g e = functions_good t r ks g es e
typed_good t es (Some numbers_array) g e = absurd (cc)
typed_good t es (Some (functions_array r ks)) g e = absurd (cc)
typed_good t es (Some (callable i d r ks)) g e = absurd (cc)

elements_good : (t : Table) (f : Option (List ℕ)) (es : List CElement) → list_every entry_ok t ≡ true → elements_fit t f es ≡ true → (functions_ok f ≡ true) × (list_every element_ok es ≡ true)
elements_good t None es g e = (refl, longs_good es e)
elements_good t (Some f) es g e = (entry_name (functions_fit t es) refl t f g e, typed_good t es (entry_in t f) g e)

some_elements : (v : ℕ) (es : List CElement) → (v == length es) ≡ true → not (v == 0) ≡ true → is_some_list es ≡ true
some_elements v [] e f = absurd (let x = e in let y = f in grind (arith, e, f))
some_elements v (x ∷ es) e f = refl

array_good : (t : Table) (a : CArray) → list_every entry_ok t ≡ true → array_fits t a ≡ true → item_ok (array a) ≡ true
array_good t a g e =
    let e4 = and_left (is_new t a.name && is_number a.length && (a.length.value == length a.elements) && not (a.length.value == 0)) (elements_fit t a.functions a.elements) e in
    let k = elements_good t a.functions a.elements g (and_right (is_new t a.name && is_number a.length && (a.length.value == length a.elements) && not (a.length.value == 0)) (elements_fit t a.functions a.elements) e) in
    let e3 = and_left (is_new t a.name && is_number a.length && (a.length.value == length a.elements)) (not (a.length.value == 0)) e4 in
    let e2 = and_left (is_new t a.name && is_number a.length) (a.length.value == length a.elements) e3 in
    let s = some_elements a.length.value a.elements (and_right (is_new t a.name && is_number a.length) (a.length.value == length a.elements) e3) (and_right (is_new t a.name && is_number a.length && (a.length.value == length a.elements)) (not (a.length.value == 0)) e4) in
    both (functions_ok a.functions) _ k.0
    (both (is_name a.name) _ (and_left (is_name a.name) _ (and_left (is_new t a.name) (is_number a.length) e2))
    (both (is_number a.length) _ (and_right (is_new t a.name) (is_number a.length) e2) (both (is_some_list a.elements) (list_every element_ok a.elements) s k.1)))

params_same : (xs ys : List CLocal) → same_params xs ys ≡ true → list_every local_ok ys ≡ true → list_every local_ok xs ≡ true
params_same [] ys e g = refl
params_same (x ∷ xs) [] e g = absurd (cc)
params_same (x ∷ xs) (y ∷ ys) e g =
    let f = and_left (same_kind x.kind y.kind && bytes_eq x.name y.name) (same_params xs ys) e in
    let same : x.name ≡ y.name = (bytes_eq-Decides x.name y.name).0 (and_right (same_kind x.kind y.kind) (bytes_eq x.name y.name) f) in
    both (local_ok x) (list_every local_ok xs) (ap is_name same ∙ and_left (local_ok y) (list_every local_ok ys) g) (params_same xs ys (and_right (same_kind x.kind y.kind && bytes_eq x.name y.name) (same_params xs ys) e) (and_right (local_ok y) (list_every local_ok ys) g))

abbrev function_ok : Function → Bool
function_ok f = item_ok (function f)

defined_ok : (x : List ℕ) (is : List Item) → list_every item_ok is ≡ true → list_every function_ok (definitions x is) ≡ true
defined_ok x [] e = refl
defined_ok x (typedef d ∷ is) e = defined_ok x is (and_right (item_ok (typedef d)) (list_every item_ok is) e)
defined_ok x (array a ∷ is) e = defined_ok x is (and_right (item_ok (array a)) (list_every item_ok is) e)
defined_ok x (proto p ∷ is) e = defined_ok x is (and_right (item_ok (proto p)) (list_every item_ok is) e)
defined_ok x (function f ∷ is) e = go (bytes_eq f.name x) (defined_ok x is (and_right (item_ok (function f)) (list_every item_ok is) e))
  where
    go : (b : Bool) → list_every function_ok (definitions x is) ≡ true → list_every function_ok (if b then f ∷ definitions x is else definitions x is) ≡ true
    go true k = both (function_ok f) (list_every function_ok (definitions x is)) (and_left (function_ok f) (list_every item_ok is) e) k
    go false k = k

proto_params : (p : CProto) (fs : List Function) → defines p fs ≡ true → list_every function_ok fs ≡ true → list_every local_ok p.params ≡ true
proto_params p [] e g = absurd (cc)
proto_params p (f ∷ []) e g =
    params_same p.params f.params (and_right (same_linkage p.is_inline f.linkage && same_result p.result f.result) (same_params p.params f.params) e)
    (and_left (list_every local_ok f.params) (block_ok f.body 4096) (and_right (is_name f.name) (list_every local_ok f.params && block_ok f.body 4096) (and_left (function_ok f) true g)))
proto_params p (f ∷ h ∷ fs) e g = absurd (cc)

deep : (d : ℕ) → nat_lt d 4097 ≡ true → d ≤ 4096
deep d e = grind (arith, e)

item_good : (t : Table) (globals : List (List ℕ)) (more : List Item) (i : Item) → list_every entry_ok t ≡ true → item_fits t globals more i ≡ true →
    (list_every entry_ok (with_item t i) ≡ true) × (list_every item_ok more ≡ true → (list_any is_true (inner_breaks (with_item t i) i) ≡ false) → item_ok i ≡ true)
item_good t globals more (typedef d) g e = let x = and_left (is_name d.name) _ e in (both (is_name d.name) (list_every entry_ok t) x g, λ m k. x)
item_good t globals more (array a) g e =
    let x = array_good t a g e in
    (both (is_name a.name) (list_every entry_ok t) (and_left (is_name a.name) _ (and_right (functions_ok a.functions) _ x)) g, λ m k. x)
item_good t globals more (proto p) g e =
    let x = and_left (is_name p.name) _ (and_left (is_new t p.name) (defines p (definitions p.name more)) e) in
    (both (is_name p.name) (list_every entry_ok t) x g, λ m k. both (is_name p.name) (list_every local_ok p.params) x (proto_params p (definitions p.name more) (and_right (is_new t p.name) (defines p (definitions p.name more)) e) (defined_ok p.name more m)))
item_good t globals more (function f) g e =
    let e4 = and_left (is_name f.name && may_define (entry_in t f.name) && head_fits f && locals_fit globals (f.params ++ locals_of f.body)) (nat_lt (depth_of f.body) 4097) e in
    let depth = deep (depth_of f.body) (and_right (is_name f.name && may_define (entry_in t f.name) && head_fits f && locals_fit globals (f.params ++ locals_of f.body)) (nat_lt (depth_of f.body) 4097) e) in
    let ls = every_both local_ok f.params (locals_of f.body) (locals_good globals (f.params ++ locals_of f.body) (and_right (is_name f.name && may_define (entry_in t f.name) && head_fits f) (locals_fit globals (f.params ++ locals_of f.body)) e4)) in
    let x = and_left (is_name f.name) (may_define (entry_in t f.name)) (and_left (is_name f.name && may_define (entry_in t f.name)) (head_fits f) (and_left (is_name f.name && may_define (entry_in t f.name) && head_fits f) (locals_fit globals (f.params ++ locals_of f.body)) e4)) in
    let table = both (is_name f.name) (list_every entry_ok t) x g in (
      table,
      λ m k. both (is_name f.name) (list_every local_ok f.params && block_ok f.body 4096) x (both (list_every local_ok f.params) (block_ok f.body 4096) ls.0
          (block_good (record { table = with_item t (function f); scope = f.params; result = f.result; inside_inline = is_inline f.linkage; in_loop = false }) (record { table = table; scope = ls.0 }) f.body 4096 k ls.1 depth)),
    )

items_good : (t : Table) (globals : List (List ℕ)) (is : List Item) → list_every entry_ok t ≡ true → list_any is_true (items_break t globals is) ≡ false → list_every item_ok is ≡ true
items_good t globals [] g e = refl
items_good t globals (i ∷ more) g e =
    let f = not_any (item_fits t globals more i) (inner_breaks (with_item t i) i ++ items_break (with_item t i) globals more) e in
    let k = any_both (inner_breaks (with_item t i) i) (items_break (with_item t i) globals more) f.1 in
    let r = item_good t globals more i g f.0 in
    let m = items_good (with_item t i) globals more r.0 k.1 in
    both (item_ok i) (list_every item_ok more) (r.1 m k.0) m

-- each name and number of a well-formed program is a token, and no block stands in too many
pub well_formed_ok : (p : Program) → well_formed p ≡ true → program_ok p ≡ true
well_formed_ok p w = items_good prelude (globals_of p) p.items refl (go (list_any is_true (breaks p)) (has_main p) w)
  where
    go : (a b : Bool) → (not a && b) ≡ true → a ≡ false
    go true b e = absurd (cc)
    go false b e = refl
