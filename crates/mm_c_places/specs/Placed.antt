-- The program in which numbers stand for the names of a program. (Own.)
use Rattle.std.specs.Prelude.{ℕ, ◌-◌, ◌%◌, ◌^◌, ℤ, negsuc, List, [], ◌∷◌, length, map, Option, Some, None, codes, if◌then◌else◌}
use Rattle.mm_base.specs.Num.{to_int}
use Rattle.mm_c.specs.declared.value.CValue.{CValue}
use Rattle.mm_c.specs.declared.value.CValue.TheVariants.{Int, Unsigned}
use Rattle.mm_c.specs.declared.tree.CNumber.{CNumber}
use Rattle.mm_c.specs.declared.tree.CAtom.{CAtom}
use Rattle.mm_c.specs.declared.tree.CAtom.TheVariants.{Name, Number, Negative, Least}
use Rattle.mm_c.specs.declared.tree.CAddress.{CAddress}
use Rattle.mm_c.specs.declared.tree.CIndex.{CIndex}
use Rattle.mm_c.specs.declared.tree.CIndex.TheVariants as index_is
use Rattle.mm_c.specs.declared.tree.CCall.{CCall}
use Rattle.mm_c.specs.declared.tree.CCall.TheVariants.{Named, Element}
use Rattle.mm_c.specs.declared.tree.CExpr.{CExpr}
use Rattle.mm_c.specs.declared.tree.CExpr.TheVariants.{Atom, Binary, ToInt, ToUnsigned, Load, Index, Call}
use Rattle.mm_c.specs.declared.tree.CLocal.{CLocal}
use Rattle.mm_c.specs.declared.tree.CElement.{CElement}
use Rattle.mm_c.specs.declared.tree.CElement.TheVariants as element_is
use Rattle.mm_c.specs.Tree.{Stmt, assign, store, run, if_only, if_else, forever, break, continue, leave, return, Block, block, Code, done, do_then, Function, Item, typedef, array, proto, function, Program}
use Rattle.mm_c.specs.CMeaning.{atoms_in}
use Rattle.mm_c.specs.WellFormed.{is_inline, kinds_of}
use Rattle.mm_c_placed.specs.declared.tree.Operand.{Operand}
use Rattle.mm_c_placed.specs.declared.tree.Operand.TheVariants.{Place, Value}
use Rattle.mm_c_placed.specs.declared.tree.Address.{Address}
use Rattle.mm_c_placed.specs.declared.tree.Index as p_index
use Rattle.mm_c_placed.specs.declared.tree.Index.TheVariants as p_index_is
use Rattle.mm_c_placed.specs.declared.tree.Right.TheVariants as right_is
use Rattle.mm_c_placed.specs.declared.tree.Target.{Target}
use Rattle.mm_c_placed.specs.declared.tree.Target.TheVariants as target_is
use Rattle.mm_c_placed.specs.declared.tree.Local.{Local}
use Rattle.mm_c_placed.specs.declared.tree.Element as p_element
use Rattle.mm_c_placed.specs.declared.tree.Element.TheVariants as p_element_is
use Rattle.mm_c_placed.specs.Tree as t
use Rattle.mm_c_places.specs.Locals.{all_locals}
use Rattle.mm_c_places.specs.Places.{Places, Numbers, places, numbers, function_number, callee_at}

-- the `int` that is congruent to a number, and to its opposite, modulo 2^32
abbrev pub opposite : ℕ → ℤ
opposite n = to_int ((2 ^ 32 - n) % 2 ^ 32)

abbrev pub number : CNumber → CValue
number n = if n.is_unsigned then Unsigned n.value else Int (to_int n.value)

-- ---- what names locals alone

abbrev pub operand : Places → CAtom → Operand
operand ps (Name x) = Place (ps.place x)
operand ps (Number n) = Value (number n)
operand ps (Negative n) = Value (Int (opposite n.value))
operand ps Least = Value (Int (negsuc 2147483647))

abbrev pub operands : Places → List CAtom → List Operand
operands ps = map (operand ps)

abbrev pub address : Places → CAddress → Address
address ps p = record { pointer = ps.place p.pointer; offset = p.offset.value }

abbrev pub index : Places → CIndex → p_index.Index
index ps (index_is.Name x) = p_index_is.Place (ps.place x)
index ps (index_is.Tag p) = p_index_is.Tag (address ps p)

-- a local by its name, and one that a block declares
abbrev pub local_of : Places → List ℕ → Local
local_of ps x = record { place = ps.place x; kind = ps.kind x }

abbrev pub own_local : Places → CLocal → Local
own_local ps l = record { place = ps.place l.name; kind = l.kind }

-- ---- what names functions and arrays too

module _ (ns : Numbers) (ps : Places) where
  abbrev pub target : CCall → Target
  target (Named f atoms) = target_is.Named (callee_at ns f)
  target (Element a x atoms) = target_is.Element (ns.array a) (ps.place x)

  abbrev pub call : Option Local → CCall → t.Stmt
  call x c = t.run x (target c) (operands ps (atoms_in c))

  abbrev pub assigned : Local → CExpr → t.Stmt
  assigned x (Atom a) = t.assign x (right_is.Copy (operand ps a))
  assigned x (Binary a o b) = t.assign x (right_is.Binary (operand ps a) o (operand ps b))
  assigned x (ToInt y) = t.assign x (right_is.ToInt (ps.place y))
  assigned x (ToUnsigned y) = t.assign x (right_is.ToUnsigned (ps.place y))
  assigned x (Load c p) = t.assign x (right_is.Load c (address ps p))
  assigned x (Index a i) = t.assign x (right_is.Index (ns.array a) (index ps i))
  assigned x (Call c) = call (Some x) c

  -- A block without locals is its statements alone.
  abbrev pub with_locals : List CLocal → t.Code → t.Code
  with_locals [] code = code
  with_locals (x ∷ xs) code = t.do_then (t.locals (map (own_local ps) (x ∷ xs))) code

  abbrev mutual
    pub placed_stmt : Stmt → t.Stmt
    placed_stmt (assign x r) = assigned (local_of ps x) r
    placed_stmt (store c p a) = t.store c (address ps p) (operand ps a)
    placed_stmt (run c) = call None c
    placed_stmt (if_only a b) = t.if_else (operand ps a) (placed_block b) t.done
    placed_stmt (if_else a b c) = t.if_else (operand ps a) (placed_block b) (placed_block c)
    placed_stmt (forever b) = t.forever (placed_block b)
    placed_stmt break = t.break
    placed_stmt continue = t.continue
    placed_stmt leave = t.leave
    placed_stmt (return a) = t.return (operand ps a)

    pub placed_block : Block → t.Code
    placed_block (block xs code) = with_locals xs (placed_code code)

    pub placed_code : Code → t.Code
    placed_code done = t.done
    placed_code (do_then s more) = t.do_then (placed_stmt s) (placed_code more)

abbrev pub placed_function : Numbers → Function → t.Function
placed_function ns f = record {
  is_inline = is_inline f.linkage;
  result = f.result;
  params = kinds_of f.params;
  slots = length (all_locals f);
  body = placed_block ns (places (all_locals f)) f.body;
}

abbrev pub placed_element : Numbers → CElement → p_element.Element
placed_element ns (element_is.Name f) = p_element_is.Function (callee_at ns f)
placed_element ns (element_is.Number n) = p_element_is.Number (to_int n.value)
placed_element ns (element_is.Negative n) = p_element_is.Number (opposite n.value)

-- the functions among items, and the arrays
abbrev pub placed_functions : Numbers → List Item → List t.Function
placed_functions ns [] = []
placed_functions ns (function f ∷ more) = placed_function ns f ∷ placed_functions ns more
placed_functions ns (typedef d ∷ more) = placed_functions ns more
placed_functions ns (array a ∷ more) = placed_functions ns more
placed_functions ns (proto p ∷ more) = placed_functions ns more

abbrev pub placed_arrays : Numbers → List Item → List (List p_element.Element)
placed_arrays ns [] = []
placed_arrays ns (array a ∷ more) = map (placed_element ns) a.elements ∷ placed_arrays ns more
placed_arrays ns (typedef d ∷ more) = placed_arrays ns more
placed_arrays ns (proto p ∷ more) = placed_arrays ns more
placed_arrays ns (function f ∷ more) = placed_arrays ns more

abbrev pub placed : Program → t.Program
placed p = record { functions = placed_functions (numbers p.items) p.items; arrays = placed_arrays (numbers p.items) p.items; main = function_number p.items (codes "main") }
