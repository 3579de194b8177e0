use Rattle.std.proofs.Common.{◌≡◌, ◌<◌, length, sym, ◌∙◌, ap, arith}
use Rattle.std.specs.Prelude.{slice_get, Some}
use Rattle.std.proofs.lemmas.Option.{slice_get_read}
use Rattle.mm_scopes.proofs.Places.{lookup-place, place-low, var_at}
use Rattle.mm_scopes.proofs.vars.Vars.lookup.Goals as goal

pub returns-in-None : goal.returns-in-None
returns-in-None c = sym (lookup-place c.args.self.now c.args.name.now ∙ ap (var_at c.args.self.now) (sym c.place.ensures ∙ c.in-None.is))

pub index-requires : goal.index-requires
index-requires c =
    let l = place-low c.args.self.now c.args.name.now c.in-Some.place (sym c.place.ensures ∙ c.in-Some.is) in
    let v : length c.self.inside.list.items ≡ length c.args.self.now = ap length c.self.view_is in
    let k = c.self.inside.list.ok.0 in
    omega arith

pub returns-in-Some : goal.returns-in-Some
returns-in-Some c =
    let l = place-low c.args.self.now c.args.name.now c.in-Some.place (sym c.place.ensures ∙ c.in-Some.is) in
    let v : length c.self.inside.list.items ≡ length c.args.self.now = ap length c.self.view_is in
    let low : c.in-Some.place < length c.self.inside.list.items = omega arith in
    let at : slice_get c.self.inside.list.items c.in-Some.place ≡ Some c.index.result.now = slice_get_read c.self.inside.list.items _ c.in-Some.place c.index.result.now (λ i. length c.self.inside.list.items) low c.index.ensures in
    sym (lookup-place c.args.self.now c.args.name.now ∙ ap (var_at c.args.self.now) (sym c.place.ensures ∙ c.in-Some.is) ∙ ap (λ xs. slice_get xs c.in-Some.place) (sym c.self.view_is) ∙ at)
