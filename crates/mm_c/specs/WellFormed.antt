-- The rules that a program keeps beside its grammar, as one truth value for each item and statement, in the order of
-- the text: whether it breaks a rule. What stands inside a statement, or in a function's block, has values of its own.
-- (ISO/IEC 14882, 2.10, 3.3, 5.2.2, 6.6 and 7.1.2, for these trees; own.)
use Rattle.std.specs.Prelude.{ℕ, suc, ◌^◌, max, Bool, true, false, not, ◌&&◌, ◌||◌, ◌==◌, nat_lt, List, [], ◌∷◌, ◌++◌, map, length, Option, Some, None, codes, if◌then◌else◌}
use Rattle.std.specs.Str.{bytes_eq}
use Rattle.std.specs.List.{list_any}
use Rattle.mm_grammar.specs.Grammar.{has}
use Rattle.mm_c.specs.declared.value.CCell.{CCell}
use Rattle.mm_c.specs.declared.value.CCell.TheVariants as cell
use Rattle.mm_c.specs.declared.tree.CKind.{CKind}
use Rattle.mm_c.specs.declared.tree.CKind.TheVariants.{Int, Unsigned, Long, Pointer}
use Rattle.mm_c.specs.declared.tree.CNumber.{CNumber}
use Rattle.mm_c.specs.declared.tree.CAtom.{CAtom}
use Rattle.mm_c.specs.declared.tree.CAtom.TheVariants.{Name, Number, Negative, Least}
use Rattle.mm_c.specs.declared.tree.COperator.{COperator}
use Rattle.mm_c.specs.declared.tree.COperator.TheVariants.{Add, Subtract, Multiply, Divide, Remainder, Equal, NotEqual}
use Rattle.mm_c.specs.declared.tree.CAddress.{CAddress}
use Rattle.mm_c.specs.declared.tree.CIndex.{CIndex}
use Rattle.mm_c.specs.declared.tree.CIndex.TheVariants as index_is
use Rattle.mm_c.specs.declared.tree.CCall.{CCall}
use Rattle.mm_c.specs.declared.tree.CCall.TheVariants.{Named, Element}
use Rattle.mm_c.specs.declared.tree.CExpr.{CExpr}
use Rattle.mm_c.specs.declared.tree.CExpr.TheVariants.{Atom, Binary, ToInt, ToUnsigned, Load, Index, Call}
use Rattle.mm_c.specs.declared.tree.CLocal.{CLocal}
use Rattle.mm_c.specs.declared.tree.CLinkage.{CLinkage}
use Rattle.mm_c.specs.declared.tree.CLinkage.TheVariants.{Public, Static, StaticInline}
use Rattle.mm_c.specs.declared.tree.CElement.{CElement}
use Rattle.mm_c.specs.declared.tree.CElement.TheVariants as element_is
use Rattle.mm_c.specs.declared.tree.CArray.{CArray}
use Rattle.mm_c.specs.declared.tree.CProto.{CProto}
use Rattle.mm_c.specs.Tree.{Stmt, assign, store, run, if_only, if_else, forever, break, continue, leave, return, Block, block, Code, done, do_then, Function, Item, typedef, array, proto, function, Program}
use Rattle.mm_c.specs.Tokens.{classes, class_in, names, is_number}

-- ---- equal kinds

abbrev pub kind_number : CKind → ℕ
kind_number Int = 1
kind_number Unsigned = 2
kind_number Long = 3
kind_number Pointer = 4

abbrev pub same_kind : CKind → CKind → Bool
same_kind a b = kind_number a == kind_number b

-- of a function without a result, 0
abbrev pub result_number : Option CKind → ℕ
result_number None = 0
result_number (Some k) = kind_number k

abbrev pub same_result : Option CKind → Option CKind → Bool
same_result a b = result_number a == result_number b

abbrev pub same_kinds : List CKind → List CKind → Bool
same_kinds [] [] = true
same_kinds (a ∷ as_) (b ∷ bs) = same_kind a b && same_kinds as_ bs
same_kinds _ _ = false

abbrev pub same_params : List CLocal → List CLocal → Bool
same_params [] [] = true
same_params (a ∷ as_) (b ∷ bs) = same_kind a.kind b.kind && bytes_eq a.name b.name && same_params as_ bs
same_params _ _ = false

abbrev pub is_public : CLinkage → Bool
is_public Public = true
is_public Static = false
is_public StaticInline = false

abbrev pub is_inline : CLinkage → Bool
is_inline Public = false
is_inline Static = false
is_inline StaticInline = true

-- ---- what the names of a program are, where an item stands

pub data Entry : Type 0 where
  -- a typedef
  functions_type : Option CKind → List CKind → Entry
  numbers_array : Entry
  functions_array : Option CKind → List CKind → Entry
  -- a function: whether it is inline, whether it is defined, its result and the kinds of its parameters
  callable : Bool → Bool → Option CKind → List CKind → Entry

-- the latest first
abbrev pub Table : Type 0
Table = List (List ℕ × Entry)

abbrev pub entry_in : Table → List ℕ → Option Entry
entry_in [] x = None
entry_in (e ∷ es) x = elim (bytes_eq e.0 x) [ true ↦ Some e.1 | false ↦ entry_in es x ]

abbrev pub prelude : Table
prelude =
    (codes "mm_put", callable false true None (Int ∷ []))
    ∷ (codes "mm_get", callable false true (Some Int) [])
    ∷ (codes "mm_more", callable false true (Some Int) [])
    ∷ (codes "mm_trap", callable false true None (Int ∷ []))
    ∷ (codes "mm_new", callable false true (Some Pointer) (Unsigned ∷ [])) ∷ []

abbrev pub kinds_of : List CLocal → List CKind
kinds_of = map (λ (x : CLocal). x.kind)

abbrev pub array_of : Option Entry → Entry
array_of (Some (functions_type r ks)) = functions_array r ks
array_of _ = numbers_array

abbrev pub array_entry : Table → Option (List ℕ) → Entry
array_entry table None = numbers_array
array_entry table (Some f) = array_of (entry_in table f)

-- the table behind an item
abbrev pub with_item : Table → Item → Table
with_item table (typedef d) = (d.name, functions_type d.result d.kinds) ∷ table
with_item table (array a) = (a.name, array_entry table a.functions) ∷ table
with_item table (proto p) = (p.name, callable p.is_inline false p.result (kinds_of p.params)) ∷ table
with_item table (function f) = (f.name, callable (is_inline f.linkage) true f.result (kinds_of f.params)) ∷ table

-- ---- operands

-- Where a statement stands: what is declared before it, the parameters and locals that are seen, and its function.
pub record Here : Type 0 where
  pub table : Table
  pub scope : List CLocal
  pub result : Option CKind
  pub inside_inline : Bool
  pub in_loop : Bool

abbrev pub kind_in : List CLocal → List ℕ → Option CKind
kind_in [] x = None
kind_in (l ∷ ls) x = elim (bytes_eq l.name x) [ true ↦ Some l.kind | false ↦ kind_in ls x ]

-- a name that is seen and has the kind
abbrev pub is_of : Here → CKind → List ℕ → Bool
is_of h k x = result_number (kind_in h.scope x) == kind_number k

-- 0 is also null, and a `long`
abbrev pub number_fits : CKind → CNumber → Bool
number_fits Int n = not n.is_unsigned
number_fits Unsigned n = n.is_unsigned
number_fits Long n = not n.is_unsigned && (n.value == 0)
number_fits Pointer n = not n.is_unsigned && (n.value == 0)

abbrev pub fits : Here → CKind → CAtom → Bool
fits h k (Name x) = is_of h k x
fits h k (Number n) = is_number n && number_fits k n
fits h k (Negative n) = same_kind k Int && is_number n && not n.is_unsigned
fits h k Least = same_kind k Int

abbrev pub all_fit : Here → List CKind → List CAtom → Bool
all_fit h [] [] = true
all_fit h (k ∷ ks) (a ∷ as_) = fits h k a && all_fit h ks as_
all_fit h _ _ = false

abbrev pub is_name_atom : CAtom → Bool
is_name_atom (Name x) = true
is_name_atom _ = false

-- a number without suffix, or a `long` name: what may be added to a pointer
abbrev pub is_offset : Here → CAtom → Bool
is_offset h (Name x) = is_of h Long x
is_offset h (Number n) = is_number n && not n.is_unsigned
is_offset h _ = false

abbrev pub address_fits : Here → CAddress → Bool
address_fits h p = is_of h Pointer p.pointer && is_number p.offset && not p.offset.is_unsigned

abbrev pub is_index : Here → List ℕ → Bool
is_index h x = is_of h Int x || is_of h Long x

abbrev pub index_fits : Here → CIndex → Bool
index_fits h (index_is.Name x) = is_index h x
index_fits h (index_is.Tag p) = address_fits h p

-- ---- right sides

abbrev pub is_add : COperator → Bool
is_add Add = true
is_add _ = false

abbrev pub is_equality : COperator → Bool
is_equality Equal = true
is_equality NotEqual = true
is_equality _ = false

abbrev pub is_arithmetic : COperator → Bool
is_arithmetic Add = true
is_arithmetic Subtract = true
is_arithmetic Multiply = true
is_arithmetic Divide = true
is_arithmetic Remainder = true
is_arithmetic _ = false

abbrev pub both_fit : Here → CKind → CAtom → CAtom → Bool
both_fit h k a b = fits h k a && fits h k b

abbrev pub one_is_name : CAtom → CAtom → Bool
one_is_name a b = is_name_atom a || is_name_atom b

-- an operation with a result of the kind
abbrev pub binary_fits : Here → CKind → CAtom → COperator → CAtom → Bool
binary_fits h Int a o b = both_fit h Int a b || (not (is_arithmetic o) && both_fit h Unsigned a b) || (is_equality o && one_is_name a b && both_fit h Pointer a b)
binary_fits h Unsigned a o b = is_arithmetic o && both_fit h Unsigned a b
binary_fits h Long a o b = is_add o && one_is_name a b && both_fit h Long a b
binary_fits h Pointer a o b = is_add o && is_name_atom a && fits h Pointer a && is_offset h b

abbrev pub kind_of_cell : CCell → Option CKind
kind_of_cell cell.Int = Some Int
kind_of_cell cell.Unsigned = Some Unsigned
kind_of_cell cell.Short = None
kind_of_cell cell.Pointer = Some Pointer

abbrev pub is_numbers : Option Entry → Bool
is_numbers (Some numbers_array) = true
is_numbers _ = false

-- A call of a function: an inline one calls no inline one.
abbrev pub callable_fits : Here → List CAtom → Option Entry → Bool
callable_fits h as_ (Some (callable i d r ks)) = not (i && h.inside_inline) && all_fit h ks as_
callable_fits h as_ _ = false

abbrev pub element_fits : Here → List CAtom → Option Entry → Bool
element_fits h as_ (Some (functions_array r ks)) = all_fit h ks as_
element_fits h as_ _ = false

abbrev pub call_fits : Here → CCall → Bool
call_fits h (Named f as_) = callable_fits h as_ (entry_in h.table f)
call_fits h (Element a x as_) = not h.inside_inline && is_index h x && element_fits h as_ (entry_in h.table a)

-- the result of what is called, and 0 where there is none
abbrev pub result_in : Option Entry → ℕ
result_in (Some (callable i d r ks)) = result_number r
result_in (Some (functions_array r ks)) = result_number r
result_in _ = 0

abbrev pub call_result : Here → CCall → ℕ
call_result h (Named f as_) = result_in (entry_in h.table f)
call_result h (Element a x as_) = result_in (entry_in h.table a)

abbrev pub right_fits : Here → CKind → CExpr → Bool
right_fits h k (Atom a) = fits h k a
right_fits h k (Binary a o b) = binary_fits h k a o b
right_fits h k (ToInt x) = same_kind k Int && (is_of h Int x || is_of h Unsigned x)
right_fits h k (ToUnsigned x) = same_kind k Unsigned && (is_of h Int x || is_of h Unsigned x)
right_fits h k (Load c p) = (result_number (kind_of_cell c) == kind_number k) && address_fits h p
right_fits h k (Index a i) = same_kind k Long && is_numbers (entry_in h.table a) && index_fits h i
right_fits h k (Call c) = call_fits h c && (call_result h c == kind_number k)

-- ---- statements

abbrev pub assign_fits : Here → Option CKind → CExpr → Bool
assign_fits h None r = false
assign_fits h (Some k) r = right_fits h k r

abbrev pub is_tag : CAtom → Bool
is_tag (Number n) = nat_lt n.value (2 ^ 16)
is_tag _ = false

abbrev pub stored_fits : Here → CCell → CAtom → Bool
stored_fits h cell.Int a = fits h Int a
stored_fits h cell.Unsigned a = fits h Unsigned a
stored_fits h cell.Short a = is_tag a
stored_fits h cell.Pointer a = fits h Pointer a

abbrev pub returned_fits : Here → Option CKind → CAtom → Bool
returned_fits h None a = false
returned_fits h (Some k) a = fits h k a

-- A statement by itself. A `while` and a call through an array break a rule where they stand in an inline function.
abbrev pub stmt_fits : Here → Stmt → Bool
stmt_fits h (assign x r) = assign_fits h (kind_in h.scope x) r
stmt_fits h (store c p a) = address_fits h p && stored_fits h c a
stmt_fits h (run c) = call_fits h c
stmt_fits h (if_only a b) = fits h Int a
stmt_fits h (if_else a b c) = fits h Int a
stmt_fits h (forever b) = not h.inside_inline
stmt_fits h break = h.in_loop
stmt_fits h continue = h.in_loop
stmt_fits h leave = result_number h.result == 0
stmt_fits h (return a) = returned_fits h h.result a

abbrev pub seeing : Here → List CLocal → Here
seeing h xs = record h { scope = xs ++ h.scope }

abbrev mutual
  pub stmt_breaks : Here → Stmt → List Bool
  stmt_breaks h (assign x r) = not (stmt_fits h (assign x r)) ∷ []
  stmt_breaks h (store c p a) = not (stmt_fits h (store c p a)) ∷ []
  stmt_breaks h (run c) = not (stmt_fits h (run c)) ∷ []
  stmt_breaks h (if_only a b) = not (stmt_fits h (if_only a b)) ∷ block_breaks h b
  stmt_breaks h (if_else a b c) = not (stmt_fits h (if_else a b c)) ∷ (block_breaks h b ++ block_breaks h c)
  stmt_breaks h (forever b) = not (stmt_fits h (forever b)) ∷ block_breaks (record h { in_loop = true }) b
  stmt_breaks h break = not (stmt_fits h break) ∷ []
  stmt_breaks h continue = not (stmt_fits h continue) ∷ []
  stmt_breaks h leave = not (stmt_fits h leave) ∷ []
  stmt_breaks h (return a) = not (stmt_fits h (return a)) ∷ []

  pub block_breaks : Here → Block → List Bool
  block_breaks h (block xs code) = code_breaks (seeing h xs) code

  pub code_breaks : Here → Code → List Bool
  code_breaks h done = []
  code_breaks h (do_then s more) = stmt_breaks h s ++ code_breaks h more

-- ---- items by themselves

-- the locals of a block and of all blocks inside it
abbrev mutual
  pub locals_of : Block → List CLocal
  locals_of (block xs code) = xs ++ code_locals code

  pub code_locals : Code → List CLocal
  code_locals done = []
  code_locals (do_then s more) = stmt_locals s ++ code_locals more

  pub stmt_locals : Stmt → List CLocal
  stmt_locals (if_only a b) = locals_of b
  stmt_locals (if_else a b c) = locals_of b ++ locals_of c
  stmt_locals (forever b) = locals_of b
  stmt_locals _ = []

-- how many blocks stand in one another, with the block itself
abbrev mutual
  pub depth_of : Block → ℕ
  depth_of (block xs code) = suc (code_depth code)

  pub code_depth : Code → ℕ
  code_depth done = 0
  code_depth (do_then s more) = max (stmt_depth s) (code_depth more)

  pub stmt_depth : Stmt → ℕ
  stmt_depth (if_only a b) = depth_of b
  stmt_depth (if_else a b c) = max (depth_of b) (depth_of c)
  stmt_depth (forever b) = depth_of b
  stmt_depth _ = 0

abbrev pub is_name : List ℕ → Bool
is_name x = has (class_in classes x) names

abbrev pub is_in : List (List ℕ) → List ℕ → Bool
is_in xs x = list_any (bytes_eq x) xs

-- a name that nothing before has
abbrev pub is_new : Table → List ℕ → Bool
is_new table x = is_name x && not (is_in (map (λ (e : List ℕ × Entry). e.0) table) x)

-- The parameters and locals are names, differ from each other, and from all names of the program.
abbrev pub locals_fit : List (List ℕ) → List CLocal → Bool
locals_fit globals [] = true
locals_fit globals (l ∷ ls) = is_name l.name && not (is_in globals l.name) && not (is_in (map (λ (x : CLocal). x.name) ls) l.name) && locals_fit globals ls

abbrev pub is_long : CElement → Bool
is_long (element_is.Name x) = false
is_long (element_is.Number n) = nat_lt n.value (2 ^ 31)
is_long (element_is.Negative n) = nat_lt n.value (2 ^ 31) && not n.is_unsigned

abbrev pub is_callable : Option CKind → List CKind → Option Entry → Bool
is_callable r ks (Some (callable i d r' ks')) = same_result r r' && same_kinds ks ks'
is_callable r ks _ = false

abbrev pub is_function_in : Table → Option CKind → List CKind → CElement → Bool
is_function_in table r ks (element_is.Name x) = is_callable r ks (entry_in table x)
is_function_in table r ks _ = false

abbrev pub list_every : {A : Type 0} → (A → Bool) → List A → Bool
list_every f [] = true
list_every f (x ∷ xs) = f x && list_every f xs

abbrev pub functions_fit : Table → List CElement → Option Entry → Bool
functions_fit table es (Some (functions_type r ks)) = list_every (is_function_in table r ks) es
functions_fit table es _ = false

abbrev pub elements_fit : Table → Option (List ℕ) → List CElement → Bool
elements_fit table None es = list_every is_long es
elements_fit table (Some f) es = functions_fit table es (entry_in table f)

abbrev pub array_fits : Table → CArray → Bool
array_fits table a = is_new table a.name && is_number a.length && (a.length.value == length a.elements) && not (a.length.value == 0) && elements_fit table a.functions a.elements

-- the functions of a name that are defined among the items
abbrev pub definitions : List ℕ → List Item → List Function
definitions x [] = []
definitions x (typedef d ∷ more) = definitions x more
definitions x (array a ∷ more) = definitions x more
definitions x (proto p ∷ more) = definitions x more
definitions x (function f ∷ more) = if bytes_eq f.name x then f ∷ definitions x more else definitions x more

abbrev pub same_linkage : Bool → CLinkage → Bool
same_linkage true StaticInline = true
same_linkage false Static = true
same_linkage _ _ = false

-- one definition, with the same words
abbrev pub defines : CProto → List Function → Bool
defines p (f ∷ []) = same_linkage p.is_inline f.linkage && same_result p.result f.result && same_params p.params f.params
defines p _ = false

-- a name of a function that may be defined here
abbrev pub may_define : Option Entry → Bool
may_define None = true
may_define (Some (callable i d r ks)) = not d
may_define _ = false

abbrev pub takes_nothing : List CLocal → Bool
takes_nothing [] = true
takes_nothing (l ∷ ls) = false

-- `int main ( void )` without `static`, and all others with it
abbrev pub head_fits : Function → Bool
head_fits f = if bytes_eq f.name (codes "main") then is_public f.linkage && same_result f.result (Some Int) && takes_nothing f.params else not (is_public f.linkage)

abbrev pub function_fits : Table → List (List ℕ) → Function → Bool
function_fits table globals f = is_name f.name && may_define (entry_in table f.name) && head_fits f && locals_fit globals (f.params ++ locals_of f.body) && nat_lt (depth_of f.body) 4097

-- An item by itself, where these items follow it. A head without its definition breaks a rule where the head stands.
abbrev pub item_fits : Table → List (List ℕ) → List Item → Item → Bool
item_fits table globals later (typedef d) = is_new table d.name
item_fits table globals later (array a) = array_fits table a
item_fits table globals later (proto p) = is_new table p.name && defines p (definitions p.name later)
item_fits table globals later (function f) = function_fits table globals f

abbrev pub inner_breaks : Table → Item → List Bool
inner_breaks table (typedef d) = []
inner_breaks table (array a) = []
inner_breaks table (proto p) = []
inner_breaks table (function f) = block_breaks (record { table = table; scope = f.params; result = f.result; inside_inline = is_inline f.linkage; in_loop = false }) f.body

-- ---- programs

abbrev pub item_name : Item → List ℕ
item_name (typedef d) = d.name
item_name (array a) = a.name
item_name (proto p) = p.name
item_name (function f) = f.name

abbrev pub items_break : Table → List (List ℕ) → List Item → List Bool
items_break table globals [] = []
items_break table globals (i ∷ more) = not (item_fits table globals more i) ∷ (inner_breaks (with_item table i) i ++ items_break (with_item table i) globals more)

-- the names of the prelude and of all items
abbrev pub globals_of : Program → List (List ℕ)
globals_of p = map (λ (e : List ℕ × Entry). e.0) prelude ++ map item_name p.items

-- Whether each item and each statement breaks a rule, in the order of the text.
abbrev pub breaks : Program → List Bool
breaks p = items_break prelude (globals_of p) p.items

abbrev pub is_main : Item → Bool
is_main (function f) = bytes_eq f.name (codes "main")
is_main _ = false

abbrev pub has_main : Program → Bool
has_main p = list_any is_main p.items

abbrev pub is_true : Bool → Bool
is_true b = b

abbrev pub well_formed : Program → Bool
well_formed p = not (list_any is_true (breaks p)) && has_main p

-- the first of these with a true value
abbrev pub first_broken : {A : Type 0} → List Bool → List A → Option A
first_broken [] xs = None
first_broken (b ∷ bs) [] = None
first_broken (true ∷ bs) (x ∷ xs) = Some x
first_broken (false ∷ bs) (x ∷ xs) = first_broken bs xs
