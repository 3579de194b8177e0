use Rattle.std.proofs.Common.{sym, subst}
use Rattle.mm_syntax.specs.View.{expr_view}
use Rattle.mm_checks.specs.Checks.{Gives}
use Rattle.mm_typing.specs.Typed.{typed_view, typeds_view}
use Rattle.mm_check_expr.proofs.Choosing.{none_called}
use Rattle.mm_check_expr.proofs.calls.make_call.Goals as goal

pub returns-in-Main : goal.returns-in-Main
returns-in-Main c =
    rw c.in-Main.is (subst (Gives typed_view c.refuse-in-Main.result) (sym (none_called c.args.env.now.classes (expr_view c.args.e.now) (typeds_view c.args.args)))
    (rw (c.start_of-in-Main.ensures, c.first_text-in-Main.ensures) at c.refuse-in-Main.ensures))
