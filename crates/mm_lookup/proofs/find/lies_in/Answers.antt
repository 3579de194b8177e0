use Rattle.std.proofs.Common.{refl, sym, ◌∙◌, ◌≡◌}
use Rattle.std.specs.Prelude.{true, false}
use Rattle.mm_lookup.proofs.find.lies_in.Goals as goal

pub returns-then-not-declares : goal.returns-then-not-declares
returns-then-not-declares c = ((λ e p. let z : false ≡ true = sym c.if-not-declares.true ∙ c.declares.ensures.1 p in cc), λ h. refl)

pub returns : goal.returns
returns c = ((λ e p. c.contains.ensures.0 e), λ h. c.contains.ensures.1 (h (c.declares.ensures.0 c.if-not-declares.false)))
