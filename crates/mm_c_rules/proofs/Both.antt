-- What both of two tests say, where the second is asked only if the first holds.
use Rattle.std.specs.Prelude.{Bool, true, false, ◌&&◌}
use Rattle.std.proofs.Common.{◌≡◌, sym, ap, ◌∙◌}

pub and_then : (r s a b : Bool) → r ≡ true → r ≡ a → s ≡ b → s ≡ (a && b)
and_then r s a b t e f = f ∙ ap (λ z. z && b) (sym t ∙ e)

pub and_else : (r a b : Bool) → r ≡ false → r ≡ a → r ≡ (a && b)
and_else r a b t e = t ∙ ap (λ z. z && b) (sym t ∙ e)
