-- The trees of C programs, as plain data. They are what every definition and every proof speaks of; specs/View says
-- which of them a tree in memory is. Kinds, operands, right sides, arrays and heads are the Rust types themselves.
use Rattle.std.specs.Prelude.{ℕ, List, [], ◌∷◌, Option}
use Rattle.mm_c.specs.declared.value.CCell.{CCell}
use Rattle.mm_c.specs.declared.tree.CKind.{CKind}
use Rattle.mm_c.specs.declared.tree.CAtom.{CAtom}
use Rattle.mm_c.specs.declared.tree.CAddress.{CAddress}
use Rattle.mm_c.specs.declared.tree.CCall.{CCall}
use Rattle.mm_c.specs.declared.tree.CExpr.{CExpr}
use Rattle.mm_c.specs.declared.tree.CLocal.{CLocal}
use Rattle.mm_c.specs.declared.tree.CLinkage.{CLinkage}
use Rattle.mm_c.specs.declared.tree.CProto.{CProto}
use Rattle.mm_c.specs.declared.tree.CTypedef.{CTypedef}
use Rattle.mm_c.specs.declared.tree.CArray.{CArray}

mutual
  pub data Stmt : Type 0 where
    assign : List ℕ → CExpr → Stmt
    store : CCell → CAddress → CAtom → Stmt
    run : CCall → Stmt
    if_only : CAtom → Block → Stmt
    if_else : CAtom → Block → Block → Stmt
    forever : Block → Stmt
    break : Stmt
    continue : Stmt
    leave : Stmt
    return : CAtom → Stmt

  -- A block: its locals, and then its statements.
  pub data Block : Type 0 where
    block : List CLocal → Code → Block

  -- Statements, one after another.
  pub data Code : Type 0 where
    done : Code
    do_then : Stmt → Code → Code

-- One piece of code and then another.
infixl 60 ◌⨾◌
abbrev pub ◌⨾◌ : Code → Code → Code
◌⨾◌ done rest = rest
◌⨾◌ (do_then s more) rest = do_then s (more ⨾ rest)

abbrev pub code_of : List Stmt → Code
code_of [] = done
code_of (s ∷ ss) = do_then s (code_of ss)

abbrev pub just : Stmt → Code
just s = do_then s done

pub record Function : Type 0 where
  pub linkage : CLinkage
  pub result : Option CKind
  pub name : List ℕ
  pub params : List CLocal
  pub body : Block

pub data Item : Type 0 where
  typedef : CTypedef → Item
  array : CArray → Item
  proto : CProto → Item
  function : Function → Item

-- A program, behind the prelude.
pub record Program : Type 0 where
  pub items : List Item
