use Rattle.std.specs.Prelude.{slice_get}
use Rattle.std.proofs.Common.{◌-◌, length, vec_len, ap, ◌∙◌}
use Rattle.mm_c_names.proofs.Shown.{scope_less, last_split}
use Rattle.mm_c_names.proofs.scope.Scope.hide.Goals as goal

pub invariant_of-self-2 : goal.invariant_of-self-2
invariant_of-self-2 c =
    scope_less c.self.inside.kinds c.insert.new.self c.in-Some.last c.as_str.result.now c.as_str.ensures
    c.self.inside.shown.items c.pop-hidden.new.self.items
    (last_split c.self.inside.shown.items c.pop-hidden.new.self.items (vec_len c.self.inside.shown) c.in-Some.last c.self.inside.shown.ok.0
    (c.in-Some.ensures ∙ c.last.ensures.value ∙ ap (λ ss. slice_get ss (length ss - 1)) c.deref.ensures.value) c.pop-hidden.ensures.rest)
    c.in_ok-insert.ensures.updates c.self.invariant
