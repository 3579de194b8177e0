use Rattle.std.proofs.Common.{◌∷◌, ◌∙◌, sym, ap, arith, subst, map, None, refl}
use Rattle.std.proofs.lemmas.Bool.Decides.{nat_tests}
use Rattle.mm_grammar.specs.Grammar.{has}
use Rattle.mm_c_text.specs.Classes.{number_of}
use Rattle.mm_c_text.specs.Cursor.{Eats, token_of}
use Rattle.mm_c_text.specs.Places.{at}
use Rattle.mm_c_text.proofs.Left.{left_none, eats_none_end, eats_none_other, eats_some}
use Rattle.mm_c_text.proofs.cursor.Cursor.eat.Goals as goal

pub returns-then-is_empty : goal.returns-then-is_empty
returns-then-is_empty c =
    eats_none_end (map number_of c.args.classes.now) c.args.self.now (sym c.self.view_is ∙ left_none _ _ _ _ (grind (arith, nat_tests, c.is_empty.ensures, c.if-is_empty.true)) c.self.invariant.ended)

pub returns-then-not-is_among : goal.returns-then-not-is_among
returns-then-not-is_among c =
    let cs = map number_of c.args.classes.now in
    let i = c.is_among.ensures in
    let n = c.number.ensures in
    let k = c.self.invariant.kept in
    let f = c.if-not-is_among.true in
    subst (λ ts. Eats cs ts None ts) c.self.view_is (eats_none_other cs c.self.inside.next.text.now (at c.self.inside.next.place) (at c.self.inside.after) c.self.inside.rest.now (grind (arith, nat_tests, c.is_empty.ensures, c.if-is_empty.false)) (ap (λ x. has x cs) (sym (n ∙ k)) ∙ (sym i ∙ f)))

pub returns : goal.returns
returns c =
    let cs = map number_of c.args.classes.now in
    let i = c.is_among.ensures in
    let n = c.number.ensures in
    let e = eats_some cs c.self.inside.next (at c.self.inside.next.place) (at c.self.inside.after) c.self.inside.rest.now refl (grind (arith, nat_tests, c.is_empty.ensures, c.if-is_empty.false)) c.self.invariant.kept (ap (λ x. has x cs) (sym n) ∙ (sym i ∙ c.if-not-is_among.false)) in
    (sym c.self.view_is ∙ (e.0 ∙ ap (λ l. token_of c.self.inside.next ∷ l) (sym (c.self-2.view_is ∙ c.before-2.ensures))), e.1, e.2)
