use Rattle.std.proofs.Common.{◌∙◌, sym, ap, arith, subst, map, refl}
use Rattle.std.specs.Prelude.{not}
use Rattle.std.proofs.lemmas.Bool.Decides.{nat_tests}
use Rattle.mm_grammar.specs.Grammar.{has}
use Rattle.mm_c_text.specs.Classes.{number_of}
use Rattle.mm_c_text.specs.Cursor.{Sees}
use Rattle.mm_c_text.specs.Places.{at}
use Rattle.mm_c_text.proofs.Left.{left_none, sees_end, sees_next}
use Rattle.mm_c_text.proofs.cursor.Cursor.sees.Goals as goal

pub returns-then-not-is_empty : goal.returns-then-not-is_empty
returns-then-not-is_empty c =
    let cs = map number_of c.args.classes.now in
    let i = c.is_among.ensures in
    let n = c.number.ensures in
    subst (λ ts. Sees cs ts c.is_among.result) c.self.view_is (sees_next cs c.self.inside.next (at c.self.inside.next.place) (at c.self.inside.after) c.self.inside.rest.now c.is_among.result refl (grind (arith, nat_tests, c.is_empty.ensures, c.if-not-is_empty.true)) c.self.invariant.kept (i ∙ ap (λ x. has x cs) n))

pub returns-else-not-is_empty : goal.returns-else-not-is_empty
returns-else-not-is_empty c =
    sees_end (map number_of c.args.classes.now) c.args.self.now _ (ap not c.if-not-is_empty.false) (sym c.self.view_is ∙ left_none _ _ _ _ (grind (arith, nat_tests, c.is_empty.ensures, c.if-not-is_empty.false)) c.self.invariant.ended)
