-- The names of locals that code mentions, and which temporaries a function declares. (Own.)
use Rattle.std.specs.Prelude.{ℕ, List, [], ◌∷◌, ◌++◌}
use Rattle.mm_classes.specs.Lists.{Has, Distinct}
use Rattle.mm_c.specs.declared.tree.CKind.{CKind}
use Rattle.mm_c.specs.declared.tree.CAtom.{CAtom}
use Rattle.mm_c.specs.declared.tree.CAtom.TheVariants.{Name, Number, Negative, Least}
use Rattle.mm_c.specs.declared.tree.CIndex.{CIndex}
use Rattle.mm_c.specs.declared.tree.CIndex.TheVariants as index_is
use Rattle.mm_c.specs.declared.tree.CCall.{CCall}
use Rattle.mm_c.specs.declared.tree.CCall.TheVariants.{Named, Element}
use Rattle.mm_c.specs.declared.tree.CExpr.{CExpr}
use Rattle.mm_c.specs.declared.tree.CExpr.TheVariants.{Atom, Binary, ToInt, ToUnsigned, Load, Index, Call}
use Rattle.mm_c.specs.Tree.{Stmt, assign, store, run, if_only, if_else, forever, break, continue, leave, return, Block, block, Code, done, do_then}
use Rattle.mm_simulate.specs.Names.{temporary, named}

abbrev pub atom_names : CAtom → List (List ℕ)
atom_names (Name x) = x ∷ []
atom_names (Number n) = []
atom_names (Negative n) = []
atom_names Least = []

abbrev pub atoms_names : List CAtom → List (List ℕ)
atoms_names [] = []
atoms_names (a ∷ more) = atom_names a ++ atoms_names more

abbrev pub call_names : CCall → List (List ℕ)
call_names (Named f atoms) = atoms_names atoms
call_names (Element a x atoms) = x ∷ atoms_names atoms

abbrev pub index_names : CIndex → List (List ℕ)
index_names (index_is.Name x) = x ∷ []
index_names (index_is.Tag p) = p.pointer ∷ []

abbrev pub right_names : CExpr → List (List ℕ)
right_names (Atom a) = atom_names a
right_names (Binary a o b) = atom_names a ++ atom_names b
right_names (ToInt x) = x ∷ []
right_names (ToUnsigned x) = x ∷ []
right_names (Load c p) = p.pointer ∷ []
right_names (Index a i) = index_names i
right_names (Call c) = call_names c

abbrev mutual
  pub stmt_names : Stmt → List (List ℕ)
  stmt_names (assign x r) = x ∷ right_names r
  stmt_names (store c p a) = p.pointer ∷ atom_names a
  stmt_names (run c) = call_names c
  stmt_names (if_only a b) = atom_names a ++ block_names b
  stmt_names (if_else a b c) = atom_names a ++ (block_names b ++ block_names c)
  stmt_names (forever b) = block_names b
  stmt_names break = []
  stmt_names continue = []
  stmt_names leave = []
  stmt_names (return a) = atom_names a

  pub block_names : Block → List (List ℕ)
  block_names (block xs code) = names_in code

  pub names_in : Code → List (List ℕ)
  names_in done = []
  names_in (do_then s more) = stmt_names s ++ names_in more

-- The temporaries that code needs: each that it mentions, and none twice.
pub record AreTemporaries (code : Code) (ds : List (CKind × ℕ)) : Type 0 where
  pub mentioned : (k : CKind) (t : ℕ) → Has (names_in code) (named (temporary k t)) → Has ds (k, t)
  pub once : Distinct ds
