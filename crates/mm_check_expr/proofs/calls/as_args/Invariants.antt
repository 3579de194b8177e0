use Rattle.std.proofs.Common.{◌≡◌, take, map}
use Rattle.mm_typing.specs.Typed.{typeds_view, arg_of}
use Rattle.mm_check_expr.proofs.calls.as_args.Given as goal

abbrev pub invariant-loop-x : goal.invariant-loop-x
invariant-loop-x l = l.args ≡ map arg_of (typeds_view (take l.x-index l.xs))
