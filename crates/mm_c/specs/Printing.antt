-- The tokens of a program and the layout in which they are written: each one with a blank behind it, but `;`, `{` and
-- `}` with an LF. (Own.)
use Rattle.std.specs.Prelude.{ℕ, zero, suc, Bool, true, false, ◌&&◌, ◌||◌, List, [], ◌∷◌, ◌++◌, Option, Some, None, codes, if◌then◌else◌, flat_map}
use Rattle.std.specs.Str.{bytes_eq}
use Rattle.std.specs.Fmt.{decimal}
use Rattle.mm_c.specs.declared.value.CCell.{CCell}
use Rattle.mm_c.specs.declared.value.CCell.TheVariants as cell
use Rattle.mm_c.specs.declared.tree.CKind.{CKind}
use Rattle.mm_c.specs.declared.tree.CKind.TheVariants.{Int, Unsigned, Long, Pointer}
use Rattle.mm_c.specs.declared.tree.CNumber.{CNumber}
use Rattle.mm_c.specs.declared.tree.CAtom.{CAtom}
use Rattle.mm_c.specs.declared.tree.CAtom.TheVariants.{Name, Number, Negative, Least}
use Rattle.mm_c.specs.declared.tree.COperator.{COperator}
use Rattle.mm_c.specs.declared.tree.COperator.TheVariants.{Add, Subtract, Multiply, Divide, Remainder, Less, Greater, LessEqual, GreaterEqual, Equal, NotEqual}
use Rattle.mm_c.specs.declared.tree.CAddress.{CAddress}
use Rattle.mm_c.specs.declared.tree.CIndex.{CIndex}
use Rattle.mm_c.specs.declared.tree.CIndex.TheVariants as index_is
use Rattle.mm_c.specs.declared.tree.CCall.{CCall}
use Rattle.mm_c.specs.declared.tree.CCall.TheVariants.{Named, Element}
use Rattle.mm_c.specs.declared.tree.CExpr.{CExpr}
use Rattle.mm_c.specs.declared.tree.CExpr.TheVariants.{Atom, Binary, ToInt, ToUnsigned, Load, Index, Call}
use Rattle.mm_c.specs.declared.tree.CLocal.{CLocal}
use Rattle.mm_c.specs.declared.tree.CLinkage.{CLinkage}
use Rattle.mm_c.specs.declared.tree.CLinkage.TheVariants.{Public, Static, StaticInline}
use Rattle.mm_c.specs.declared.tree.CElement.{CElement}
use Rattle.mm_c.specs.declared.tree.CElement.TheVariants as element_is
use Rattle.mm_c.specs.declared.tree.CTypedef.{CTypedef}
use Rattle.mm_c.specs.declared.tree.CArray.{CArray}
use Rattle.mm_c.specs.declared.tree.CProto.{CProto}
use Rattle.mm_c.specs.Tree.{Stmt, assign, store, run, if_only, if_else, forever, break, continue, leave, return, Block, block, Code, done, do_then, Function, Item, typedef, array, proto, function, Program}
use Rattle.mm_c.specs.Tokens.{is_number}
use Rattle.mm_c.specs.WellFormed.{is_name, list_every}

-- ---- the layout

abbrev pub Words : Type 0
Words = List (List ℕ)

abbrev pub separator : List ℕ → ℕ
separator token = if bytes_eq token (codes ";") || bytes_eq token (codes "{") || bytes_eq token (codes "}") then 10 else 32

abbrev pub written : List ℕ → List ℕ
written token = token ++ separator token ∷ []

-- the text of tokens
abbrev pub text_of : Words → List ℕ
text_of tokens = flat_map written tokens

-- ---- the tokens of each tree

abbrev pub next_of : {A : Type 0} → (A → Words) → A → Words
next_of f x = codes "," ∷ f x

-- one or more, joined by commas
abbrev pub joined : {A : Type 0} → (A → Words) → List A → Words
joined f [] = []
joined f (x ∷ xs) = f x ++ flat_map (next_of f) xs

-- the same between parentheses, where none is `void`
abbrev pub or_void : {A : Type 0} → (A → Words) → List A → Words
or_void f [] = codes "void" ∷ []
or_void f (x ∷ xs) = joined f (x ∷ xs)

abbrev pub suffix : Bool → List ℕ
suffix true = codes "u"
suffix false = []

abbrev pub number_text : CNumber → List ℕ
number_text n = decimal n.value ++ suffix n.is_unsigned

abbrev pub kind_tokens : CKind → Words
kind_tokens Int = codes "int" ∷ []
kind_tokens Unsigned = codes "unsigned" ∷ []
kind_tokens Long = codes "long" ∷ []
kind_tokens Pointer = codes "char" ∷ codes "*" ∷ []

abbrev pub result_tokens : Option CKind → Words
result_tokens None = codes "void" ∷ []
result_tokens (Some k) = kind_tokens k

abbrev pub param_tokens : CLocal → Words
param_tokens l = kind_tokens l.kind ++ l.name ∷ []

abbrev pub zero_token : CKind → List ℕ
zero_token Int = codes "0"
zero_token Unsigned = codes "0u"
zero_token Long = codes "0"
zero_token Pointer = codes "0"

abbrev pub local_tokens : CLocal → Words
local_tokens l = kind_tokens l.kind ++ l.name ∷ codes "=" ∷ zero_token l.kind ∷ codes ";" ∷ []

abbrev pub least_tokens : Words
least_tokens = codes "-" ∷ codes "2147483647" ∷ codes "-" ∷ codes "1" ∷ codes ")" ∷ []

abbrev pub atom_tokens : CAtom → Words
atom_tokens (Name x) = x ∷ []
atom_tokens (Number n) = number_text n ∷ []
atom_tokens (Negative n) = codes "-" ∷ number_text n ∷ []
atom_tokens Least = codes "(" ∷ least_tokens

abbrev pub operator_token : COperator → List ℕ
operator_token Add = codes "+"
operator_token Subtract = codes "-"
operator_token Multiply = codes "*"
operator_token Divide = codes "/"
operator_token Remainder = codes "%"
operator_token Less = codes "<"
operator_token Greater = codes ">"
operator_token LessEqual = codes "<="
operator_token GreaterEqual = codes ">="
operator_token Equal = codes "=="
operator_token NotEqual = codes "!="

abbrev pub cell_tokens : CCell → Words
cell_tokens cell.Int = codes "int" ∷ []
cell_tokens cell.Unsigned = codes "unsigned" ∷ []
cell_tokens cell.Short = codes "unsigned" ∷ codes "short" ∷ []
cell_tokens cell.Pointer = codes "char" ∷ codes "*" ∷ []

-- what follows the cell: * ) ( I + M )
abbrev pub address_tokens : CAddress → Words
address_tokens p = codes "*" ∷ codes ")" ∷ codes "(" ∷ p.pointer ∷ codes "+" ∷ number_text p.offset ∷ codes ")" ∷ []

abbrev pub place_tokens : CCell → CAddress → Words
place_tokens c p = codes "*" ∷ codes "(" ∷ (cell_tokens c ++ address_tokens p)

abbrev pub arguments_tokens : List CAtom → Words
arguments_tokens atoms = codes "(" ∷ (joined atom_tokens atoms ++ codes ")" ∷ [])

abbrev pub call_tokens : CCall → Words
call_tokens (Named f atoms) = f ∷ arguments_tokens atoms
call_tokens (Element a x atoms) = a ∷ codes "[" ∷ x ∷ codes "]" ∷ arguments_tokens atoms

abbrev pub index_tokens : CIndex → Words
index_tokens (index_is.Name x) = x ∷ []
index_tokens (index_is.Tag p) = place_tokens cell.Short p

abbrev pub right_tokens : CExpr → Words
right_tokens (Atom a) = atom_tokens a
right_tokens (Binary a o b) = atom_tokens a ++ operator_token o ∷ atom_tokens b
right_tokens (ToInt x) = codes "(" ∷ codes "int" ∷ codes ")" ∷ x ∷ []
right_tokens (ToUnsigned x) = codes "(" ∷ codes "unsigned" ∷ codes ")" ∷ x ∷ []
right_tokens (Load c p) = place_tokens c p
right_tokens (Index a i) = a ∷ codes "[" ∷ (index_tokens i ++ codes "]" ∷ [])
right_tokens (Call c) = call_tokens c

-- ( a )
abbrev pub condition_tokens : CAtom → Words
condition_tokens a = codes "(" ∷ (atom_tokens a ++ codes ")" ∷ [])

abbrev mutual
  pub stmt_tokens : Stmt → Words
  stmt_tokens (assign x r) = x ∷ codes "=" ∷ (right_tokens r ++ codes ";" ∷ [])
  stmt_tokens (store c p a) = codes "*" ∷ codes "(" ∷ (cell_tokens c ++ (address_tokens p ++ codes "=" ∷ (atom_tokens a ++ codes ";" ∷ [])))
  stmt_tokens (run c) = call_tokens c ++ codes ";" ∷ []
  stmt_tokens (if_only a b) = codes "if" ∷ (condition_tokens a ++ block_tokens b)
  stmt_tokens (if_else a b c) = codes "if" ∷ (condition_tokens a ++ (block_tokens b ++ codes "else" ∷ block_tokens c))
  stmt_tokens (forever b) = codes "while" ∷ codes "(" ∷ codes "1" ∷ codes ")" ∷ block_tokens b
  stmt_tokens break = codes "break" ∷ codes ";" ∷ []
  stmt_tokens continue = codes "continue" ∷ codes ";" ∷ []
  stmt_tokens leave = codes "return" ∷ codes ";" ∷ []
  stmt_tokens (return a) = codes "return" ∷ (atom_tokens a ++ codes ";" ∷ [])

  pub block_tokens : Block → Words
  block_tokens (block xs code) = codes "{" ∷ (flat_map local_tokens xs ++ (code_tokens code ++ codes "}" ∷ []))

  pub code_tokens : Code → Words
  code_tokens done = []
  code_tokens (do_then s more) = stmt_tokens s ++ code_tokens more

abbrev pub linkage_tokens : CLinkage → Words
linkage_tokens Public = []
linkage_tokens Static = codes "static" ∷ []
linkage_tokens StaticInline = codes "static" ∷ codes "inline" ∷ []

abbrev pub inline_tokens : Bool → Words
inline_tokens true = codes "inline" ∷ []
inline_tokens false = []

-- I ( params )
abbrev pub head_tokens : List ℕ → List CLocal → Words
head_tokens f params = f ∷ codes "(" ∷ (or_void param_tokens params ++ codes ")" ∷ [])

abbrev pub element_tokens : CElement → Words
element_tokens (element_is.Name x) = x ∷ []
element_tokens (element_is.Number n) = number_text n ∷ []
element_tokens (element_is.Negative n) = codes "-" ∷ number_text n ∷ []

abbrev pub array_type : Option (List ℕ) → List ℕ
array_type None = codes "long"
array_type (Some f) = f

abbrev pub array_tokens : CArray → Words
array_tokens a = codes "static" ∷ codes "const" ∷ array_type a.functions ∷ a.name ∷ codes "[" ∷ number_text a.length ∷ codes "]" ∷ codes "=" ∷ codes "{" ∷ (joined element_tokens a.elements ++ codes "}" ∷ codes ";" ∷ [])

abbrev pub typedef_tokens : CTypedef → Words
typedef_tokens d = codes "typedef" ∷ (result_tokens d.result ++ codes "(" ∷ codes "*" ∷ d.name ∷ codes ")" ∷ codes "(" ∷ (or_void kind_tokens d.kinds ++ codes ")" ∷ codes ";" ∷ []))

abbrev pub proto_tokens : CProto → Words
proto_tokens p = codes "static" ∷ (inline_tokens p.is_inline ++ (result_tokens p.result ++ (head_tokens p.name p.params ++ codes ";" ∷ [])))

abbrev pub function_tokens : Function → Words
function_tokens f = linkage_tokens f.linkage ++ (result_tokens f.result ++ (head_tokens f.name f.params ++ block_tokens f.body))

abbrev pub item_tokens : Item → Words
item_tokens (typedef d) = typedef_tokens d
item_tokens (array a) = array_tokens a
item_tokens (proto p) = proto_tokens p
item_tokens (function f) = function_tokens f

abbrev pub prelude_tokens : Words
prelude_tokens =
    codes "extern" ∷ codes "void" ∷ codes "mm_put" ∷ codes "(" ∷ codes "int" ∷ codes ")" ∷ codes ";"
    ∷ codes "extern" ∷ codes "int" ∷ codes "mm_get" ∷ codes "(" ∷ codes "void" ∷ codes ")" ∷ codes ";"
    ∷ codes "extern" ∷ codes "int" ∷ codes "mm_more" ∷ codes "(" ∷ codes "void" ∷ codes ")" ∷ codes ";"
    ∷ codes "extern" ∷ codes "void" ∷ codes "mm_trap" ∷ codes "(" ∷ codes "int" ∷ codes ")" ∷ codes ";"
    ∷ codes "extern" ∷ codes "char" ∷ codes "*" ∷ codes "mm_new" ∷ codes "(" ∷ codes "unsigned" ∷ codes ")" ∷ codes ";" ∷ []

abbrev pub program_tokens : Program → Words
program_tokens p = prelude_tokens ++ flat_map item_tokens p.items

-- ---- trees of the grammar: each name and number is a token, and no block stands in too many

abbrev pub atom_ok : CAtom → Bool
atom_ok (Name x) = is_name x
atom_ok (Number n) = is_number n
atom_ok (Negative n) = is_number n
atom_ok Least = true

abbrev pub address_ok : CAddress → Bool
address_ok p = is_name p.pointer && is_number p.offset

abbrev pub index_ok : CIndex → Bool
index_ok (index_is.Name x) = is_name x
index_ok (index_is.Tag p) = address_ok p

abbrev pub call_ok : CCall → Bool
call_ok (Named f atoms) = is_name f && list_every atom_ok atoms
call_ok (Element a x atoms) = is_name a && (is_name x && list_every atom_ok atoms)

abbrev pub is_loaded : CCell → Bool
is_loaded cell.Int = true
is_loaded cell.Unsigned = true
is_loaded cell.Short = false
is_loaded cell.Pointer = true

abbrev pub right_ok : CExpr → Bool
right_ok (Atom a) = atom_ok a
right_ok (Binary a o b) = atom_ok a && atom_ok b
right_ok (ToInt x) = is_name x
right_ok (ToUnsigned x) = is_name x
right_ok (Load c p) = is_loaded c && address_ok p
right_ok (Index a i) = is_name a && index_ok i
right_ok (Call c) = call_ok c

abbrev pub local_ok : CLocal → Bool
local_ok l = is_name l.name

-- in blocks that may hold d others, one inside the other
abbrev mutual
  pub stmt_ok : Stmt → ℕ → Bool
  stmt_ok (assign x r) d = is_name x && right_ok r
  stmt_ok (store c p a) d = address_ok p && atom_ok a
  stmt_ok (run c) d = call_ok c
  stmt_ok (if_only a b) d = atom_ok a && block_ok b d
  stmt_ok (if_else a b c) d = atom_ok a && (block_ok b d && block_ok c d)
  stmt_ok (forever b) d = block_ok b d
  stmt_ok break d = true
  stmt_ok continue d = true
  stmt_ok leave d = true
  stmt_ok (return a) d = atom_ok a

  pub block_ok : Block → ℕ → Bool
  block_ok (block xs code) zero = false
  block_ok (block xs code) (suc d) = list_every local_ok xs && code_ok code d

  pub code_ok : Code → ℕ → Bool
  code_ok done d = true
  code_ok (do_then s more) d = stmt_ok s d && code_ok more d

abbrev pub element_ok : CElement → Bool
element_ok (element_is.Name x) = is_name x
element_ok (element_is.Number n) = is_number n
element_ok (element_is.Negative n) = is_number n

abbrev pub functions_ok : Option (List ℕ) → Bool
functions_ok None = true
functions_ok (Some f) = is_name f

abbrev pub is_some_list : {A : Type 0} → List A → Bool
is_some_list [] = false
is_some_list (x ∷ xs) = true

abbrev pub item_ok : Item → Bool
item_ok (typedef d) = is_name d.name
item_ok (array a) = functions_ok a.functions && (is_name a.name && (is_number a.length && (is_some_list a.elements && list_every element_ok a.elements)))
item_ok (proto p) = is_name p.name && list_every local_ok p.params
item_ok (function f) = is_name f.name && (list_every local_ok f.params && block_ok f.body 4096)

abbrev pub program_ok : Program → Bool
program_ok p = list_every item_ok p.items
