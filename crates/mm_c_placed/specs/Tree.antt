-- The trees of C programs with places, as plain data. Operands, right sides, targets and locals are the Rust types
-- themselves, as only statements refer to themselves.
use Rattle.std.specs.Prelude.{ℕ, Bool, List, [], ◌∷◌, Option}
use Rattle.mm_c.specs.declared.value.CCell.{CCell}
use Rattle.mm_c.specs.declared.tree.CKind.{CKind}
use Rattle.mm_c_placed.specs.declared.tree.Operand.{Operand}
use Rattle.mm_c_placed.specs.declared.tree.Address.{Address}
use Rattle.mm_c_placed.specs.declared.tree.Right.{Right}
use Rattle.mm_c_placed.specs.declared.tree.Target.{Target}
use Rattle.mm_c_placed.specs.declared.tree.Local.{Local}
use Rattle.mm_c_placed.specs.declared.tree.Element.{Element}

mutual
  pub data Stmt : Type 0 where
    locals : List Local → Stmt
    assign : Local → Right → Stmt
    store : CCell → Address → Operand → Stmt
    run : Option Local → Target → List Operand → Stmt
    if_else : Operand → Code → Code → Stmt
    forever : Code → Stmt
    break : Stmt
    continue : Stmt
    leave : Stmt
    return : Operand → Stmt

  -- Statements, one after another.
  pub data Code : Type 0 where
    done : Code
    do_then : Stmt → Code → Code

-- One piece of code and then another.
infixl 60 ◌⨾◌
abbrev pub ◌⨾◌ : Code → Code → Code
◌⨾◌ done rest = rest
◌⨾◌ (do_then s more) rest = do_then s (more ⨾ rest)

abbrev pub code_of : List Stmt → Code
code_of [] = done
code_of (s ∷ ss) = do_then s (code_of ss)

abbrev pub just : Stmt → Code
just s = do_then s done

pub record Function : Type 0 where
  pub is_inline : Bool
  pub result : Option CKind
  pub params : List CKind
  pub slots : ℕ
  pub body : Code

pub record Program : Type 0 where
  pub functions : List Function
  pub arrays : List (List Element)
  pub main : ℕ
