-- What is visible where an expression stands. Own, for the scopes of ISO/IEC 14882:1998, 3.3.
use Rattle.std.specs.Prelude.{List}
use Rattle.mm_classes.specs.Classes.{Class}
use Rattle.mm_lookup.specs.declared.found.Context.{Context}
use Rattle.mm_scopes.specs.declared.head.Var.{Var}
use Rattle.mm_scopes.specs.declared.head.FnHead.{FnHead}

-- The classes of the unit, the place from which members are used, the variables of all scopes around in one list, the
-- innermost last, and the functions that are declared so far, in the order of their declarations.
pub record Environment : Type 0 where
  pub classes : List Class
  pub from : Context
  pub vars : List Var
  pub functions : List FnHead
