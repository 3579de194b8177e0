use Rattle.std.proofs.Common.{◌≡◌, length}
use Rattle.mm_unit_typing.specs.Scopes.{type_named}
use Rattle.mm_check_function.proofs.Params.{param_type}
use Rattle.mm_check_function.proofs.param.push_param.Goals as goal

pub returns-clause-vars : goal.returns-clause-vars
returns-clause-vars c =
    let t : type_named c.args.q.now.type_name ≡ c.in_ok-ty.ty = param_type _ _ _ c.in_ok-ty.ensures in
    let n : length c.args.types.now ≡ c.in_ok-local.local = cc (c.in_ok-local.ensures) in
    rw (t, n) c.in_ok-declare_named.ensures
