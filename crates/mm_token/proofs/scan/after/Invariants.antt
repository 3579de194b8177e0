use Rattle.std.proofs.Common.{◌≡◌, ◌≤◌, ◌+◌, ◌*◌, drop}
use Rattle.mm_token.specs.Characters.{place_after}
use Rattle.mm_token.proofs.scan.after.Given as goal

abbrev pub invariant-loop-c : goal.invariant-loop-c
invariant-loop-c l = record { same : place_after l.place (drop l.c-index l.text) ≡ place_after l.fn.at l.text; line : l.place.line ≤ l.fn.at.line + l.c-index; col : l.place.col ≤ l.fn.at.col + 4 * l.c-index }
