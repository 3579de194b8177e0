use Rattle.std.proofs.Common.{length, ◌∙◌, ap}
use Rattle.mm_scopes.proofs.Places.{places-length}
use Rattle.mm_scopes.proofs.functions.Functions.count.Goals as goal

pub returns : goal.returns
returns c = ap length c.places.ensures ∙ places-length 0 c.args.self.now c.args.name.now
