use Rattle.std.proofs.Common.{sym, ◌∙◌, ◌≡◌, true, false}
use Rattle.std.proofs.lemmas.Bool.{eq-eqb}
use Rattle.mm_virtual.proofs.Deriving.{bare_only}
use Rattle.mm_virtual.proofs.results.is_same_or_only_base.Goals as goal

pub returns-then-not-is_complete : goal.returns-then-not-is_complete
returns-then-not-is_complete c = (
  (λ e. cc),
  λ h. absurd (bare_only c.args.graph.now c.requires.valid c.args.x c.args.y (sym c.is_complete.ensures ∙ c.if-not-is_complete.true)
      (λ e. let z : false ≡ true = sym c.if-eq.false ∙ (c.eq.ensures ∙ eq-eqb c.args.x c.args.y e) in cc) h),
)
