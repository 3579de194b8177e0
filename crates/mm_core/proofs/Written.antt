-- Words to write small programs with.
use Rattle.std.proofs.Common.{ℕ, List, [], ◌∷◌, Some}
use Rattle.std.specs.Prelude.{ℤ, Bool, true, false, codes, ◌++◌}
use Rattle.mm_base.specs.declared.place.Place.{Place}
use Rattle.mm_classes.specs.declared.class.Ty.{Ty}
use Rattle.mm_classes.specs.declared.class.Ty.TheVariants as ty
use Rattle.mm_classes.specs.declared.class.Base.{Base}
use Rattle.mm_classes.specs.declared.class.Member.{Member}
use Rattle.mm_classes.specs.declared.class.MemberKind.TheVariants as kind
use Rattle.mm_classes.specs.declared.class.Access.TheVariants.{Public}
use Rattle.mm_classes.specs.Classes.{Class}
use Rattle.mm_base.specs.declared.world.Builtin.TheVariants.{Put, Get}
use Rattle.mm_core.specs.declared.part.CoreParam.{CoreParam}
use Rattle.mm_core.specs.Tree.{Expr, builtin, Exprs, no_exprs, expr_and, Stmt, block, run, return, int, Stmts, no_stmts, stmt_and, Function}

abbrev pub args : List Expr → Exprs
args [] = no_exprs
args (e ∷ es) = expr_and e (args es)

abbrev pub stmts : List Stmt → Stmts
stmts [] = no_stmts
stmts (s ∷ ss) = stmt_and s (stmts ss)

abbrev pub put : Expr → Stmt
put e = run (builtin Put (expr_and e no_exprs))

abbrev pub get : Expr
get = builtin Get no_exprs

abbrev pub nowhere : Place
nowhere = record { file = 0; line = 0; col = 0 }

abbrev pub named : List ℕ → Ty → List CoreParam → List Ty → List Stmt → Function
named x t qs ts ss = record { name = x; defined = true; in_class = false; member = false; place = nowhere; result = t; params = qs; locals = ts; body = Some (block (stmts ss)) }

-- `int main()` with these variables
abbrev pub main_of : List Ty → List Stmt → Function
main_of ts ss = named (codes "main") ty.Int [] ts ss

-- a member that is defined in its class
abbrev pub method_of : List ℕ → Ty → List CoreParam → List Stmt → Function
method_of x t qs ss = record { name = x; defined = true; in_class = true; member = true; place = nowhere; result = t; params = qs; locals = []; body = Some (block (stmts ss)) }

abbrev pub plain : Ty → CoreParam
plain t = record { ty = t; is_virtual = false }

abbrev pub virt : Ty → CoreParam
virt t = record { ty = t; is_virtual = true }

-- a function that returns a number
abbrev pub gives : List ℕ → List CoreParam → ℤ → Function
gives x qs z = named x ty.Int qs [] (return (int z) ∷ [])

abbrev pub to : ℕ → Base
to c = record { class = c; shared = false; access = Public }

abbrev pub to_shared : ℕ → Base
to_shared c = record { class = c; shared = true; access = Public }

abbrev pub class : List ℕ → List Base → List Member → Class
class x bs ms = record { name = x; complete = true; bases = bs; members = ms }

abbrev pub destructor : List ℕ → Member
destructor x = record { name = codes "~" ++ x; access = Public; kind = kind.Function [] ty.Void true; place = nowhere }

abbrev pub data_field : List ℕ → Ty → Member
data_field x t = record { name = x; access = Public; kind = kind.Field t; place = nowhere }

abbrev pub method : List ℕ → List Ty → Ty → Bool → Member
method x ps t v = record { name = x; access = Public; kind = kind.Function ps t v; place = nowhere }
