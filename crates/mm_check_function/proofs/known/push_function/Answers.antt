use Rattle.std.proofs.Common.{◌≡◌, length}
use Rattle.mm_unit_typing.specs.Functions.{heading}
use Rattle.mm_check_function.proofs.Table.{pushed_seen}
use Rattle.mm_check_function.proofs.known.push_function.Goals as goal

pub returns-clause-env : goal.returns-clause-env
returns-clause-env c =
    let n : c.in_ok-number.number ≡ length c.args.fs.now = cc (c.in_ok-number.ensures) in
    rw (c.in_ok-declare_function.ensures.ok, c.in_ok-push.ensures.ok)
    (pushed_seen c.args.fs.now c.in_ok-new_function.field-0 c.args.name.now (heading c.args.ty c.args.params.now) c.in_ok-new_function.ensures c.args.env.now c.in_ok-number.number c.in_ok-head.head c.requires n c.in_ok-head.ensures)
