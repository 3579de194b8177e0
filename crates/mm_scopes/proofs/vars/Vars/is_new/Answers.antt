use Rattle.std.proofs.Common.{sym, ◌∙◌, ap}
use Rattle.mm_scopes.specs.Tables.{is_before}
use Rattle.mm_scopes.proofs.Places.{new-place}
use Rattle.mm_scopes.proofs.vars.Vars.is_new.Goals as goal

pub returns : goal.returns
returns c = c.is_older.ensures ∙ ap (is_before c.args.outer) c.place.ensures ∙ sym (new-place c.args.outer c.args.self.now c.args.name.now)
