use Rattle.std.proofs.Common.{◌∙◌, sym, arith}
use Rattle.std.proofs.lemmas.Bool.Decides.{nat_tests}
use Rattle.mm_c_text.proofs.Left.{left_none}
use Rattle.mm_c_text.proofs.cursor.Cursor.place.Goals as goal

pub returns-then-is_empty : goal.returns-then-is_empty
returns-then-is_empty c = sym c.self.view_is ∙ left_none _ _ _ _ (grind (arith, nat_tests, c.is_empty.ensures, c.if-is_empty.true)) c.self.invariant.ended
