use Rattle.std.proofs.Common.{◌++◌, ◌∷◌, [], sym, ◌∙◌, ap}
use Rattle.std.specs.Prelude.{cond}
use Rattle.mm_classes.specs.Lists.{has}
use Rattle.mm_paths.proofs.build.push_new.Goals as goal

pub returns-in_ok-push : goal.returns-in_ok-push
returns-in_ok-push c = c.in_ok-push.ensures.items ∙ ap (λ b. cond b c.args.seen.now.items (c.args.seen.now.items ++ c.args.x ∷ []))
    (sym c.if-not-there.true ∙ (c.contains-there.ensures.value ∙ ap (λ xs. has xs c.args.x) c.deref.ensures.value))

pub returns-else-not-there : goal.returns-else-not-there
returns-else-not-there c = ap (λ b. cond b c.args.seen.now.items (c.args.seen.now.items ++ c.args.x ∷ []))
    (sym c.if-not-there.false ∙ (c.contains-there.ensures.value ∙ ap (λ xs. has xs c.args.x) c.deref.ensures.value))
