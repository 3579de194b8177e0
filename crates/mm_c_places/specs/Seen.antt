-- The names of locals that code uses are seen where they are used, and each is declared once among a function's locals. (Own.)
use Rattle.std.specs.Prelude.{◌≡◌, ℕ, ◌^◌, nat_lt, true, false, List, [], ◌∷◌, ◌++◌, Some, is_some}
use Rattle.mm_c.specs.declared.tree.CAtom.{CAtom}
use Rattle.mm_c.specs.declared.tree.CAtom.TheVariants.{Name, Number, Negative, Least}
use Rattle.mm_c.specs.declared.tree.CIndex.{CIndex}
use Rattle.mm_c.specs.declared.tree.CIndex.TheVariants as index_is
use Rattle.mm_c.specs.declared.tree.CCall.{CCall}
use Rattle.mm_c.specs.declared.tree.CCall.TheVariants.{Named, Element}
use Rattle.mm_c.specs.declared.tree.CExpr.{CExpr}
use Rattle.mm_c.specs.declared.tree.CExpr.TheVariants.{Atom, Binary, ToInt, ToUnsigned, Load, Index, Call}
use Rattle.mm_c.specs.declared.tree.CLocal.{CLocal}
use Rattle.mm_c.specs.declared.tree.CElement.{CElement}
use Rattle.mm_c.specs.declared.tree.CElement.TheVariants as element_is
use Rattle.mm_c.specs.Tree.{Stmt, assign, store, run, if_only, if_else, forever, break, continue, leave, return, Block, block, Code, done, do_then, Function, Item, typedef, array, proto, function}
use Rattle.mm_c.specs.Tokens.{is_number}
use Rattle.mm_c.specs.WellFormed.{kind_in}
use Rattle.mm_c_places.specs.Locals.{all_locals}

-- a name of one of these locals
abbrev pub Sees : List CLocal → List ℕ → Type 0
Sees scope x = is_some (kind_in scope x) ≡ true

-- the kind of each of these names is the one declared among all
abbrev pub Agree : List CLocal → List CLocal → Type 0
Agree all [] = Unit {0}
Agree all (l ∷ ls) = (kind_in all l.name ≡ Some l.kind) × Agree all ls

-- each name among these differs from those behind it
abbrev pub Differ : List CLocal → Type 0
Differ [] = Unit {0}
Differ (l ∷ ls) = (is_some (kind_in ls l.name) ≡ false) × Differ ls

-- an operand that is seen, or a number that its type holds
abbrev pub SeesAtom : List CLocal → CAtom → Type 0
SeesAtom scope (Name x) = Sees scope x
SeesAtom scope (Number n) = is_number n ≡ true
SeesAtom scope (Negative n) = nat_lt n.value (2 ^ 31) ≡ true
SeesAtom scope Least = Unit {0}

abbrev pub SeesAtoms : List CLocal → List CAtom → Type 0
SeesAtoms scope [] = Unit {0}
SeesAtoms scope (a ∷ more) = SeesAtom scope a × SeesAtoms scope more

abbrev pub SeesIndex : List CLocal → CIndex → Type 0
SeesIndex scope (index_is.Name x) = Sees scope x
SeesIndex scope (index_is.Tag p) = Sees scope p.pointer

abbrev pub SeesCall : List CLocal → CCall → Type 0
SeesCall scope (Named f atoms) = SeesAtoms scope atoms
SeesCall scope (Element a x atoms) = Sees scope x × SeesAtoms scope atoms

abbrev pub SeesRight : List CLocal → CExpr → Type 0
SeesRight scope (Atom a) = SeesAtom scope a
SeesRight scope (Binary a o b) = SeesAtom scope a × SeesAtom scope b
SeesRight scope (ToInt x) = Sees scope x
SeesRight scope (ToUnsigned x) = Sees scope x
SeesRight scope (Load c p) = Sees scope p.pointer
SeesRight scope (Index a i) = SeesIndex scope i
SeesRight scope (Call c) = SeesCall scope c

-- among all locals of the function, from where these are seen
abbrev mutual
  pub SeesStmt : List CLocal → List CLocal → Stmt → Type 0
  SeesStmt all scope (assign x r) = Sees scope x × SeesRight scope r
  SeesStmt all scope (store c p a) = Sees scope p.pointer × SeesAtom scope a
  SeesStmt all scope (run c) = SeesCall scope c
  SeesStmt all scope (if_only a b) = SeesAtom scope a × SeesBlock all scope b
  SeesStmt all scope (if_else a b c) = SeesAtom scope a × SeesBlock all scope b × SeesBlock all scope c
  SeesStmt all scope (forever b) = SeesBlock all scope b
  SeesStmt all scope break = Unit {0}
  SeesStmt all scope continue = Unit {0}
  SeesStmt all scope leave = Unit {0}
  SeesStmt all scope (return a) = SeesAtom scope a

  pub SeesBlock : List CLocal → List CLocal → Block → Type 0
  SeesBlock all scope (block xs code) = Agree all xs × SeesCode all (xs ++ scope) code

  pub SeesCode : List CLocal → List CLocal → Code → Type 0
  SeesCode all scope done = Unit {0}
  SeesCode all scope (do_then s more) = SeesStmt all scope s × SeesCode all scope more

-- ---- functions, arrays, programs

-- A function's parameters differ from each other, and each name is seen where it is used.
pub record SeesFunction (f : Function) : Type 0 where
  pub differ : Differ f.params
  pub params : Agree (all_locals f) f.params
  pub body : SeesBlock (all_locals f) f.params f.body

-- a number that a `long` holds
abbrev pub SeesElement : CElement → Type 0
SeesElement (element_is.Name f) = Unit {0}
SeesElement (element_is.Number n) = nat_lt n.value (2 ^ 31) ≡ true
SeesElement (element_is.Negative n) = nat_lt n.value (2 ^ 31) ≡ true

abbrev pub SeesElements : List CElement → Type 0
SeesElements [] = Unit {0}
SeesElements (e ∷ es) = SeesElement e × SeesElements es

abbrev pub SeesItems : List Item → Type 0
SeesItems [] = Unit {0}
SeesItems (typedef d ∷ more) = SeesItems more
SeesItems (array a ∷ more) = SeesElements a.elements × SeesItems more
SeesItems (proto p ∷ more) = SeesItems more
SeesItems (function f ∷ more) = SeesFunction f × SeesItems more
