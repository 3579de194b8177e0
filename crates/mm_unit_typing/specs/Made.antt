-- What checking makes of statements. Own; which node stands where is of the table of checked trees.
use Rattle.std.specs.Prelude.{pos, Bool, true, false, if◌then◌else◌, List, [], ◌∷◌}
use Rattle.mm_classes.specs.declared.class.Ty.{Ty}
use Rattle.mm_classes.specs.declared.class.Ty.TheVariants as ty
use Rattle.mm_core.specs.Tree as k
use Rattle.mm_core.specs.View.{stmts_of}
use Rattle.mm_syntax.specs.Tree as t

-- checked trees, and the types of the locals of the function so far
pub record Made (A : Type 0) : Type 0 where
  pub tree : A
  pub locals : List Ty

abbrev pub made : {A : Type 0} → A → List Ty → Made A
made tree locals = record { tree = tree; locals = locals }

-- zero, or false
abbrev pub zero_of : Ty → k.Expr
zero_of ty.Bool = k.bool false
zero_of ty.Unsigned = k.unsigned 0
zero_of other = k.int (pos 0)

-- A statement is checked as a list of statements, those of the block that it is or in which it stands. These are blocks.
abbrev pub is_block : t.Stmt → Bool
is_block (t.block p ss) = true
is_block (t.empty p) = true
is_block (t.for_do p first c s a) = true
is_block other = false

abbrev pub block_of : List k.Stmt → k.Stmt
block_of ss = k.block (stmts_of ss)

-- in a list of statements a block is one of them; a declaration of several variables is several
abbrev pub nodes_of : t.Stmt → List k.Stmt → List k.Stmt
nodes_of s ss = if is_block s then block_of ss ∷ [] else ss
