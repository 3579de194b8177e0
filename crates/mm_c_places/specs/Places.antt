-- Which numbers stand for the names of locals, functions and arrays. (Own.)
use Rattle.std.specs.Prelude.{ℕ, zero, suc, true, false, List, [], ◌∷◌, map, Option, Some, None}
use Rattle.std.specs.Str.{bytes_eq}
use Rattle.mm_c.specs.declared.tree.CKind.{CKind}
use Rattle.mm_c.specs.declared.tree.CKind.TheVariants as kind
use Rattle.mm_c.specs.declared.tree.CLocal.{CLocal}
use Rattle.mm_c.specs.Tree.{Item, typedef, array, proto, function}
use Rattle.mm_c.specs.WellFormed.{kind_in}
use Rattle.mm_c.specs.CMeaning.{Given, asks, traps, allocates, prelude_callees}
use Rattle.mm_c_placed.specs.declared.tree.Callee.{Callee}
use Rattle.mm_c_placed.specs.declared.tree.Callee.TheVariants as callee_is

-- the place of the first of these names that is this one, or the place past them
abbrev pub index_of : List (List ℕ) → List ℕ → ℕ
index_of [] x = zero
index_of (n ∷ ns) x = elim (bytes_eq n x) [ true ↦ zero | false ↦ suc (index_of ns x) ]

abbrev pub names_of : List CLocal → List (List ℕ)
names_of = map (λ (l : CLocal). l.name)

abbrev pub function_names : List Item → List (List ℕ)
function_names [] = []
function_names (function f ∷ more) = f.name ∷ function_names more
function_names (typedef d ∷ more) = function_names more
function_names (array a ∷ more) = function_names more
function_names (proto p ∷ more) = function_names more

abbrev pub array_names : List Item → List (List ℕ)
array_names [] = []
array_names (array a ∷ more) = a.name ∷ array_names more
array_names (typedef d ∷ more) = array_names more
array_names (proto p ∷ more) = array_names more
array_names (function f ∷ more) = array_names more

abbrev pub place_of : List CLocal → List ℕ → ℕ
place_of all = index_of (names_of all)

abbrev pub function_number : List Item → List ℕ → ℕ
function_number items = index_of (function_names items)

abbrev pub array_number : List Item → List ℕ → ℕ
array_number items = index_of (array_names items)

abbrev pub kind_or : Option CKind → CKind
kind_or None = kind.Int
kind_or (Some k) = k

-- what a function's names are: the places and kinds of its locals
pub record Places : Type 0 where
  pub place : List ℕ → ℕ
  pub kind : List ℕ → CKind

-- what a program's names are: the numbers of its functions and of its arrays
pub record Numbers : Type 0 where
  pub function : List ℕ → ℕ
  pub array : List ℕ → ℕ

abbrev pub places : List CLocal → Places
places all = record { place = place_of all; kind = λ x. kind_or (kind_in all x) }

abbrev pub numbers : List Item → Numbers
numbers items = record { function = function_number items; array = array_number items }

abbrev pub given_callee : Given → Callee
given_callee (asks b) = callee_is.Asks b
given_callee traps = callee_is.Trap
given_callee allocates = callee_is.New

abbrev pub callee_among : List (List ℕ × Given) → Numbers → List ℕ → Callee
callee_among [] n f = callee_is.Function (n.function f)
callee_among (g ∷ gs) n f = elim (bytes_eq g.0 f) [ true ↦ given_callee g.1 | false ↦ callee_among gs n f ]

-- a function by its name: one of the prelude, or one of the program
abbrev pub callee_at : Numbers → List ℕ → Callee
callee_at = callee_among prelude_callees
