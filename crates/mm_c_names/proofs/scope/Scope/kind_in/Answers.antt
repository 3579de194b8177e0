use Rattle.std.proofs.Common.{reverse}
use Rattle.mm_c_names.proofs.Shown.{kind_found}
use Rattle.mm_c_names.proofs.scope.Scope.kind_in.Goals as goal

pub returns-in-Some : goal.returns-in-Some
returns-in-Some c = kind_found c.self.inside.kinds (reverse c.self.inside.shown.items) c.args.self.now c.as_str.result.now c.args.name.now c.in-Some.kind.now c.self.invariant c.self.view_is c.as_str.ensures c.in-Some.ensures.value
