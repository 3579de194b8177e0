-- The grammar of C texts as data: one clause of `rule_of` for each rule that refers to itself or is named by others,
-- with the tree that it gives, and with the places of the items and statements in it, in the order of the text. Own.
use Rattle.std.specs.Prelude.{ℕ, zero, suc, Bool, true, false, List, [], ◌∷◌, ◌++◌, map, flat_map, Option, Some, None}
use Rattle.mm_grammar.specs.Grammar.{Part, one, name, nothing, seq, alt, many, give, opt, Language}
use Rattle.mm_c.specs.declared.value.CCell.{CCell}
use Rattle.mm_c.specs.declared.value.CCell.TheVariants as cell
use Rattle.mm_c.specs.declared.tree.CKind.{CKind}
use Rattle.mm_c.specs.declared.tree.CKind.TheVariants as kind_is
use Rattle.mm_c.specs.declared.tree.CNumber.{CNumber}
use Rattle.mm_c.specs.declared.tree.CAtom.{CAtom}
use Rattle.mm_c.specs.declared.tree.CAtom.TheVariants as atom_is
use Rattle.mm_c.specs.declared.tree.COperator.{COperator}
use Rattle.mm_c.specs.declared.tree.COperator.TheVariants as by
use Rattle.mm_c.specs.declared.tree.CAddress.{CAddress}
use Rattle.mm_c.specs.declared.tree.CIndex.TheVariants as index_is
use Rattle.mm_c.specs.declared.tree.CCall.TheVariants as call_is
use Rattle.mm_c.specs.declared.tree.CExpr.{CExpr}
use Rattle.mm_c.specs.declared.tree.CExpr.TheVariants as expr
use Rattle.mm_c.specs.declared.tree.CLocal.{CLocal}
use Rattle.mm_c.specs.declared.tree.CLinkage.{CLinkage}
use Rattle.mm_c.specs.declared.tree.CLinkage.TheVariants as linkage_is
use Rattle.mm_c.specs.declared.tree.CElement.{CElement}
use Rattle.mm_c.specs.declared.tree.CElement.TheVariants as element_is
use Rattle.mm_c.specs.Tree as t
use Rattle.mm_c.specs.Tree.{Stmt, Block, Function, Item, Program}
use Rattle.mm_c.specs.Tokens.{Token, Place, class_of, names, numbers, number_in}

-- a tree, and the places of its items and statements in the order of the text
pub record Placed (A : Type 0) : Type 0 where
  pub tree : A
  pub places : List Place

pub data Name : Type 0 where
  program item right atoms : Name
  -- a block that may hold so many others, one inside the other, and a statement in it
  block stmt : ℕ → Name

abbrev pub Value : Name → Type 0
Value program = Placed Program
Value item = Placed Item
Value right = CExpr
Value atoms = List CAtom
Value (block d) = Placed Block
Value (stmt d) = Placed Stmt

abbrev pub P : Type 0 → Type 1
P A = Part Token Name Value A

-- ---- how parts are put together

-- a token of the class
abbrev pub w : ℕ → P Token
w c = one (c ∷ [])

-- the one, and then the other, whose value alone counts
infixr 40 ◌▸◌
abbrev pub ◌▸◌ : {A B : Type 0} → P A → P B → P B
p ▸ q = give (λ v. v.1) (seq p q)

-- the one, whose value alone counts, and then the other
infixl 45 ◌◂◌
abbrev pub ◌◂◌ : {A B : Type 0} → P A → P B → P A
p ◂ q = give (λ v. v.0) (seq p q)

-- the part, with this value
abbrev pub as_ : {A B : Type 0} → B → P A → P B
as_ v p = give (λ x. v) p

infixr 30 ◌∣◌
abbrev pub ◌∣◌ : {A : Type 0} → P A → P A → P A
p ∣ q = alt p q

-- one or more, joined by commas
abbrev pub listed : {A : Type 0} → P A → P (List A)
listed p = give (λ v. v.0 ∷ v.1) (seq p (many (w 27 ▸ p)))

-- ---- names, numbers and types

abbrev pub ident : P (List ℕ)
ident = give (λ x. x.text) (one names)

abbrev pub number : P CNumber
number = give (λ x. number_in x.text) (one numbers)

-- char *
abbrev pub pointer : P Token
pointer = w 48 ◂ w 29

-- a kind, and where it begins
abbrev pub kind_at : P (CKind × Place)
kind_at =
    give (λ x. (kind_is.Int, x.place)) (w 45)
    ∣ give (λ x. (kind_is.Unsigned, x.place)) (w 46)
    ∣ give (λ x. (kind_is.Long, x.place)) (w 47)
    ∣ give (λ x. (kind_is.Pointer, x.place)) pointer

abbrev pub kind : P CKind
kind = give (λ v. v.0) kind_at

abbrev pub result_at : P (Option CKind × Place)
result_at = give (λ x. (None, x.place)) (w 44) ∣ give (λ v. (Some v.0, v.1)) kind_at

abbrev pub result : P (Option CKind)
result = give (λ v. v.0) result_at

-- what stands between the parentheses of a typedef
abbrev pub kinds : P (List CKind)
kinds = as_ [] (w 44) ∣ listed kind

abbrev pub named : P CLocal
named = give (λ v. record { kind = v.0; name = v.1 }) (seq kind ident)

abbrev pub params : P (List CLocal)
params = as_ [] (w 44) ∣ listed named

-- a local of a kind, spelled by these tokens, with its first value
abbrev pub local_of : {A : Type 0} → CKind → P A → ℕ → P CLocal
local_of k p z = give (λ x. record { kind = k; name = x }) (p ▸ ident ◂ w 28 ◂ w z ◂ w 26)

abbrev pub local : P CLocal
local = local_of kind_is.Int (w 45) 10 ∣ local_of kind_is.Unsigned (w 46) 11 ∣ local_of kind_is.Long (w 47) 10 ∣ local_of kind_is.Pointer pointer 10

-- ---- operands and right sides

-- what follows the `(` of the least `int`
abbrev pub least : P Token
least = w 31 ▸ w 13 ▸ w 31 ▸ w 12 ▸ w 21

abbrev pub atom : P CAtom
atom =
    give (λ x. atom_is.Name x) ident
    ∣ give (λ n. atom_is.Number n) number
    ∣ give (λ n. atom_is.Negative n) (w 31 ▸ number)
    ∣ as_ atom_is.Least (w 20 ▸ least)

abbrev pub op : P COperator
op =
    as_ by.Multiply (w 29) ∣ as_ by.Add (w 30) ∣ as_ by.Subtract (w 31) ∣ as_ by.Divide (w 32) ∣ as_ by.Remainder (w 33)
    ∣ as_ by.Less (w 34) ∣ as_ by.Greater (w 35) ∣ as_ by.LessEqual (w 36) ∣ as_ by.GreaterEqual (w 37) ∣ as_ by.Equal (w 38) ∣ as_ by.NotEqual (w 39)

abbrev pub load_cell : P CCell
load_cell = as_ cell.Int (w 45) ∣ as_ cell.Unsigned (w 46) ∣ as_ cell.Pointer pointer

abbrev pub unsigned_or : Option Token → CCell
unsigned_or None = cell.Unsigned
unsigned_or (Some x) = cell.Short

abbrev pub store_cell : P CCell
store_cell = as_ cell.Int (w 45) ∣ give unsigned_or (w 46 ▸ opt (w 49)) ∣ as_ cell.Pointer pointer

-- what follows the cell: * ) ( I + M )
abbrev pub address : P CAddress
address = give (λ v. record { pointer = v.0; offset = v.1 }) (w 29 ▸ w 21 ▸ w 20 ▸ seq ident (w 30 ▸ number ◂ w 21))

-- * ( unsigned short * ) ( I + M )
abbrev pub tag : P CAddress
tag = w 29 ▸ w 20 ▸ w 46 ▸ w 49 ▸ address

abbrev pub arguments : P (List CAtom)
arguments = w 20 ▸ name atoms ◂ w 21

-- what may follow a first operand that is no name
abbrev pub operated : P (CAtom → CExpr)
operated = give (λ v a. expr.Binary a v.0 v.1) (seq op atom) ∣ as_ (λ a. expr.Atom a) nothing

abbrev pub called_or : List ℕ → Option (List CAtom) → List ℕ → CExpr
called_or i None x = expr.Index x (index_is.Name i)
called_or i (Some ys) x = expr.Call (call_is.Element x i ys)

-- what follows the `[` behind a name
abbrev pub indexed : P (List ℕ → CExpr)
indexed = give (λ v. called_or v.0 v.1) (seq (ident ◂ w 25) (opt arguments)) ∣ give (λ p x. expr.Index x (index_is.Tag p)) (tag ◂ w 25)

-- what may follow a name on a right side
abbrev pub after_name : P (List ℕ → CExpr)
after_name =
    give (λ v x. expr.Binary (atom_is.Name x) v.0 v.1) (seq op atom)
    ∣ give (λ ys x. expr.Call (call_is.Named x ys)) arguments
    ∣ w 24 ▸ indexed
    ∣ as_ (λ x. expr.Atom (atom_is.Name x)) nothing

-- what may follow a `(` on a right side
abbrev pub after_open : P CExpr
after_open =
    give (λ x. expr.ToInt x) (w 45 ▸ w 21 ▸ ident)
    ∣ give (λ x. expr.ToUnsigned x) (w 46 ▸ w 21 ▸ ident)
    ∣ give (λ f. f atom_is.Least) (least ▸ operated)

abbrev pub right_rule : P CExpr
right_rule =
    give (λ v. v.1 v.0) (seq ident after_name)
    ∣ give (λ v. v.1 (atom_is.Number v.0)) (seq number operated)
    ∣ give (λ v. v.1 (atom_is.Negative v.0)) (w 31 ▸ seq number operated)
    ∣ w 20 ▸ after_open
    ∣ give (λ v. expr.Load v.0 v.1) (w 29 ▸ w 20 ▸ seq load_cell address)

-- ---- statements

abbrev pub at : {A : Type 0} → A → Place → Placed A
at v p = record { tree = v; places = p ∷ [] }

-- a tree around others, at a place before theirs
abbrev pub around : {A : Type 0} → A → Place → List Place → Placed A
around v p ps = record { tree = v; places = p ∷ ps }

-- what follows the name that a statement begins with
abbrev pub after_first : P (List ℕ → Stmt)
after_first =
    give (λ r x. t.assign x r) (w 28 ▸ name right)
    ∣ give (λ ys x. t.run (call_is.Named x ys)) arguments
    ∣ give (λ v x. t.run (call_is.Element x v.0 v.1)) (w 24 ▸ seq (ident ◂ w 25) arguments)

abbrev pub simple_stmt : P (Placed Stmt)
simple_stmt = give (λ v. at (v.1 v.0.text) v.0.place) (seq (one names) (after_first ◂ w 26))

abbrev pub store_stmt : P (Placed Stmt)
store_stmt = give (λ v. at (t.store v.1.0 v.1.1.0 v.1.1.1) v.0.place) (seq (w 29) (w 20 ▸ seq store_cell (seq address (w 28 ▸ atom ◂ w 26))))

abbrev pub branched : Token → CAtom → Placed Block → Option (Placed Block) → Placed Stmt
branched x a b None = around (t.if_only a b.tree) x.place b.places
branched x a b (Some c) = around (t.if_else a b.tree c.tree) x.place (b.places ++ c.places)

abbrev pub if_stmt : ℕ → P (Placed Stmt)
if_stmt d = give (λ v. branched v.0 v.1.0 v.1.1.0 v.1.1.1) (seq (w 50) (seq (w 20 ▸ atom ◂ w 21) (seq (name (block d)) (opt (w 51 ▸ name (block d))))))

abbrev pub while_stmt : ℕ → P (Placed Stmt)
while_stmt d = give (λ v. around (t.forever v.1.tree) v.0.place v.1.places) (seq (w 52) (w 20 ▸ w 12 ▸ w 21 ▸ name (block d)))

abbrev pub returned : Option CAtom → Stmt
returned None = t.leave
returned (Some a) = t.return a

abbrev pub return_stmt : P (Placed Stmt)
return_stmt = give (λ v. at (returned v.1) v.0.place) (seq (w 55) (opt atom ◂ w 26))

abbrev pub block_of : List CLocal → List (Placed Stmt) → Placed Block
block_of xs ss = record { tree = t.block xs (t.code_of (map (λ (s : Placed Stmt). s.tree) ss)); places = flat_map (λ (s : Placed Stmt). s.places) ss }

abbrev pub no_block : Placed Block
no_block = record { tree = t.block [] t.done; places = [] }

-- ---- items

-- elements of arrays
abbrev pub element : P CElement
element = give (λ x. element_is.Name x) ident ∣ give (λ n. element_is.Number n) number ∣ give (λ n. element_is.Negative n) (w 31 ▸ number)

-- what follows `static const`
abbrev pub array_rule : P Item
array_rule =
    give (λ v. t.array (record { functions = v.0; name = v.1.0; length = v.1.1.0; elements = v.1.1.1 }))
    (seq (as_ None (w 47) ∣ give (λ x. Some x) ident) (seq ident (seq (w 24 ▸ number ◂ w 25) (w 28 ▸ w 22 ▸ listed element ◂ (w 23 ◂ w 26)))))

-- I ( params )
abbrev pub head : P (List ℕ × List CLocal)
head = seq ident (w 20 ▸ params ◂ w 21)

abbrev pub function_of : CLinkage → Option CKind → List ℕ × List CLocal → Block → Item
function_of l r h b = t.function (record { linkage = l; result = r; name = h.0; params = h.1; body = b })

abbrev pub is_there : Option Token → Bool
is_there None = false
is_there (Some x) = true

abbrev pub static_or : Option Token → CLinkage
static_or None = linkage_is.Static
static_or (Some x) = linkage_is.StaticInline

-- a proto, or a function with this block
abbrev pub proto_or : Place → Option Token → Option CKind → List ℕ × List CLocal → Option (Placed Block) → Placed Item
proto_or p i r h None = at (t.proto (record { is_inline = is_there i; result = r; name = h.0; params = h.1 })) p
proto_or p i r h (Some b) = around (function_of (static_or i) r h b.tree) p b.places

-- what follows `static`
abbrev pub after_static : P (Place → Placed Item)
after_static =
    give (λ a p. at a p) (w 42 ▸ array_rule)
    ∣ give (λ v p. proto_or p v.0 v.1.0 v.1.1.0 v.1.1.1) (seq (opt (w 43)) (seq result (seq head (as_ None (w 26) ∣ give (λ b. Some b) (name (block 4096))))))

abbrev pub typedef_rule : P Item
typedef_rule = give (λ v. t.typedef (record { result = v.0; name = v.1.0; kinds = v.1.1 })) (seq result (w 20 ▸ w 29 ▸ seq (ident ◂ w 21) (w 20 ▸ kinds ◂ (w 21 ◂ w 26))))

abbrev pub item_rule : P (Placed Item)
item_rule =
    give (λ v. at v.1 v.0.place) (seq (w 40) typedef_rule)
    ∣ give (λ v. v.1 v.0.place) (seq (w 41) after_static)
    ∣ give (λ v. around (function_of linkage_is.Public v.0.0 v.1.0 v.1.1.tree) v.0.1 v.1.1.places) (seq result_at (seq head (name (block 4096))))

-- the functions that a program is given, which stand before its own
abbrev pub prelude : P Token
prelude =
    w 56 ▸ w 44 ▸ w 1 ▸ w 20 ▸ w 45 ▸ w 21 ▸ w 26
    ▸ w 56 ▸ w 45 ▸ w 2 ▸ w 20 ▸ w 44 ▸ w 21 ▸ w 26
    ▸ w 56 ▸ w 45 ▸ w 3 ▸ w 20 ▸ w 44 ▸ w 21 ▸ w 26
    ▸ w 56 ▸ w 44 ▸ w 4 ▸ w 20 ▸ w 45 ▸ w 21 ▸ w 26
    ▸ w 56 ▸ w 48 ▸ w 29 ▸ w 5 ▸ w 20 ▸ w 46 ▸ w 21 ▸ w 26

abbrev pub program_of : List (Placed Item) → Placed Program
program_of xs = record { tree = record { items = map (λ (x : Placed Item). x.tree) xs }; places = flat_map (λ (x : Placed Item). x.places) xs }

abbrev pub rule_of : (x : Name) → P (Value x)
rule_of program = give program_of (prelude ▸ many (name item))
rule_of item = item_rule
rule_of right = right_rule
rule_of atoms = listed atom ∣ as_ [] nothing
-- no token can begin a block that stands in too many
rule_of (block zero) = as_ no_block (one [])
rule_of (block (suc d)) = give (λ v. block_of v.0 v.1) (w 22 ▸ seq (many local) (many (name (stmt d)) ◂ w 23))
rule_of (stmt d) =
    simple_stmt
    ∣ store_stmt
    ∣ if_stmt d
    ∣ while_stmt d
    ∣ give (λ x. at t.break x.place) (w 53 ◂ w 26)
    ∣ give (λ x. at t.continue x.place) (w 54 ◂ w 26)
    ∣ return_stmt

abbrev pub texts : Language
texts = record { Token = Token; Name = Name; Value = Value; class = class_of; rule = rule_of }
