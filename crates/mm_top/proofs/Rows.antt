-- What every C program does that translates `int main() { mm_put(1 + 2); return 0; }`, and what one
-- does of a sum past the greatest `int`.
use Rattle.std.proofs.Common.{◌≡◌, ℕ, true, false, [], ◌∷◌, Some}
use Rattle.std.specs.Prelude.{pos, codes}
use Rattle.mm_base.specs.declared.world.Builtin.TheVariants.{Put}
use Rattle.mm_classes.specs.declared.class.Ty.TheVariants.{Int}
use Rattle.mm_core.specs.declared.part.Operator.TheVariants.{Add}
use Rattle.mm_core.specs.Tree.{int, binary, builtin, no_exprs, expr_and, block, run, return, no_stmts, stmt_and, Program}
use Rattle.mm_c.specs.Tree as c
use Rattle.mm_c.specs.CRun.{c_run, Ended, TrappedBy, GoesOn}
use Rattle.mm_agree.specs.Translates.{Translates, IsInput}

abbrev main : ℕ → ℕ → Program
main a b = record {
  classes = [];
  functions = record {
    name = codes "main";
    defined = true;
    in_class = false;
    member = false;
    place = record { file = 0; line = 1; col = 5 };
    result = Int;
    params = [];
    locals = [];
    body = Some (block (stmt_and (run (builtin Put (expr_and (binary Add (int (pos a)) (int (pos b))) no_exprs))) (stmt_and (return (int (pos 0))) no_stmts)));
  } ∷ [];
}

nothing : IsInput []
nothing z h = elim h [ ]

-- at a bound of one step it ends with 0, and has put 3
pub it_puts_three : (q : c.Program) → Translates (main 1 2) q → c_run q [] 1 ≡ record { finish = Ended (pos 0); put = pos 3 ∷ [] }
it_puts_three q t = t.agrees [] 1 nothing

-- at a bound of none it goes on, and has put nothing
pub it_goes_on : (q : c.Program) → Translates (main 1 2) q → c_run q [] 0 ≡ record { finish = GoesOn; put = [] }
it_goes_on q t = t.agrees [] 0 nothing

-- a sum past the greatest `int` traps with 1, and puts nothing
pub it_traps : (q : c.Program) → Translates (main 2147483647 1) q → c_run q [] 1 ≡ record { finish = TrappedBy 1; put = [] }
it_traps q t = t.agrees [] 1 nothing
