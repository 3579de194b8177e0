-- The examples, by computation.
use Rattle.std.specs.Prelude.{true}
use Rattle.std.proofs.Common.{Option, ◌≡◌, ℕ, List, [], ◌∷◌, Some, None, refl, inl, inr, codes}
use Rattle.mm_c.specs.Tree.{Program}
use Rattle.mm_c.specs.Tokens.{Place, Token, tokens_of, cut}
use Rattle.mm_c.specs.Grammar.{Placed, program, texts}
use Rattle.mm_c.specs.WellFormed.{well_formed}
use Rattle.mm_c.specs.Spelling.{Parses, SpellsProgram}
use Rattle.mm_c.specs.Examples.{sum_text, sum_program, SumIsPut, BadSumIsStuck, cells_text, CellsRuns, open_call_text, OpenCallRuns, loop_text, LoopRuns, misaligned_text, MisalignedRuns, at_null_text, AtNullRuns, out_of_block_text, OutOfBlockRuns, other_kind_text, OtherKindRuns, past_block_text, PastBlockRuns, no_block_text, NoBlockRuns, quotients_text, QuotientsRuns, least_remainder_text, LeastRemainderRuns, by_zero_text, ByZeroRuns, long_sum_text, LongSumRuns, trap_text, TrapRuns, bad_trap_text, BadTrapRuns, no_result_text, NoResultRuns, locals_anew_text, LocalsAnewRuns, UndeclaredIsRefused}
use Rattle.mm_c.proofs.Claims.{ahead}
use Rattle.mm_c.proofs.Read.{read_at, read_spells}

abbrev pub at : ℕ → ℕ → Place
at l c = record { line = l; column = c }

-- a text whose tokens are read to the end
pub parsed : (text : List ℕ) (p : Program) (places : List Place) → read_at texts ahead 10 program (tokens_of text) ≡ Some (record { tree = p; places = places }, []) → Parses text p places
parsed text p places e = read_spells texts ahead 10 program (tokens_of text) (record { tree = p; places = places }) e

abbrev sum_places : List Place
sum_places = at 6 1 ∷ at 8 1 ∷ at 9 1 ∷ at 10 1 ∷ []

sum_parsed : Parses (sum_text (codes "40 + 2") (codes "x")) (sum_program 40 2 (codes "x")) sum_places
unfolding cut
sum_parsed = parsed (sum_text (codes "40 + 2") (codes "x")) (sum_program 40 2 (codes "x")) sum_places refl

pub sum_is_put : SumIsPut
sum_is_put = (record { places = sum_places; parses = sum_parsed; well_formed = refl }, λ input n. refl, λ input. refl)

bad_sum_parsed : Parses (sum_text (codes "2147483647 + 1") (codes "x")) (sum_program 2147483647 1 (codes "x")) sum_places
unfolding cut
bad_sum_parsed = parsed (sum_text (codes "2147483647 + 1") (codes "x")) (sum_program 2147483647 1 (codes "x")) sum_places refl

pub bad_sum_is_stuck : BadSumIsStuck
bad_sum_is_stuck = (record { places = sum_places; parses = bad_sum_parsed; well_formed = refl }, λ input n. refl)

abbrev found : Option (Placed Program × List Token) → Placed Program
found None = record { tree = record { items = [] }; places = [] }
found (Some r) = r.0

-- the tree of a text, and the places in it
abbrev read_text : List ℕ → Placed Program
read_text text = found (read_at texts ahead 10 program (tokens_of text))

abbrev tree_in : List ℕ → Program
tree_in text = (read_text text).tree

spells : (text : List ℕ) (v : Placed Program) → read_at texts ahead 10 program (tokens_of text) ≡ Some (v, []) → well_formed v.tree ≡ true → SpellsProgram text v.tree
spells text v e w = record { places = v.places; parses = read_spells texts ahead 10 program (tokens_of text) v e; well_formed = w }

undeclared_parsed : Parses (sum_text (codes "40 + 2") (codes "y")) (sum_program 40 2 (codes "y")) sum_places
unfolding cut
undeclared_parsed = parsed (sum_text (codes "40 + 2") (codes "y")) (sum_program 40 2 (codes "y")) sum_places refl

pub undeclared_is_refused : UndeclaredIsRefused
undeclared_is_refused = inr (sum_program 40 2 (codes "y"), sum_places, undeclared_parsed, inl refl)

pub cells_runs : CellsRuns
unfolding cut
cells_runs = (tree_in cells_text, spells cells_text (read_text cells_text) refl refl, λ input. refl)

pub open_call_runs : OpenCallRuns
unfolding cut
open_call_runs = ((tree_in open_call_text, spells open_call_text (read_text open_call_text) refl refl, λ input. refl), (tree_in open_call_text, spells open_call_text (read_text open_call_text) refl refl, λ input. refl), (tree_in open_call_text, spells open_call_text (read_text open_call_text) refl refl, λ input. refl), (tree_in open_call_text, spells open_call_text (read_text open_call_text) refl refl, λ input. refl))

pub loop_runs : LoopRuns
unfolding cut
loop_runs = ((tree_in loop_text, spells loop_text (read_text loop_text) refl refl, λ input. refl), (tree_in loop_text, spells loop_text (read_text loop_text) refl refl, λ input. refl), (tree_in loop_text, spells loop_text (read_text loop_text) refl refl, λ input. refl), (tree_in loop_text, spells loop_text (read_text loop_text) refl refl, λ input. refl))

pub misaligned_runs : MisalignedRuns
unfolding cut
misaligned_runs = (tree_in misaligned_text, spells misaligned_text (read_text misaligned_text) refl refl, λ input. refl)

pub at_null_runs : AtNullRuns
unfolding cut
at_null_runs = (tree_in at_null_text, spells at_null_text (read_text at_null_text) refl refl, λ input. refl)

pub out_of_block_runs : OutOfBlockRuns
unfolding cut
out_of_block_runs = (tree_in out_of_block_text, spells out_of_block_text (read_text out_of_block_text) refl refl, λ input. refl)

pub other_kind_runs : OtherKindRuns
unfolding cut
other_kind_runs = (tree_in other_kind_text, spells other_kind_text (read_text other_kind_text) refl refl, λ input. refl)

pub past_block_runs : PastBlockRuns
unfolding cut
past_block_runs = (tree_in past_block_text, spells past_block_text (read_text past_block_text) refl refl, λ input. refl)

pub no_block_runs : NoBlockRuns
unfolding cut
no_block_runs = (tree_in no_block_text, spells no_block_text (read_text no_block_text) refl refl, λ input. refl)

pub quotients_runs : QuotientsRuns
unfolding cut
quotients_runs = (tree_in quotients_text, spells quotients_text (read_text quotients_text) refl refl, λ input. refl)

pub least_remainder_runs : LeastRemainderRuns
unfolding cut
least_remainder_runs = (tree_in least_remainder_text, spells least_remainder_text (read_text least_remainder_text) refl refl, λ input. refl)

pub by_zero_runs : ByZeroRuns
unfolding cut
by_zero_runs = (tree_in by_zero_text, spells by_zero_text (read_text by_zero_text) refl refl, λ input. refl)

pub long_sum_runs : LongSumRuns
unfolding cut
long_sum_runs = (tree_in long_sum_text, spells long_sum_text (read_text long_sum_text) refl refl, λ input. refl)

pub trap_runs : TrapRuns
unfolding cut
trap_runs = (tree_in trap_text, spells trap_text (read_text trap_text) refl refl, λ input. refl)

pub bad_trap_runs : BadTrapRuns
unfolding cut
bad_trap_runs = (tree_in bad_trap_text, spells bad_trap_text (read_text bad_trap_text) refl refl, λ input. refl)

pub no_result_runs : NoResultRuns
unfolding cut
no_result_runs = (tree_in no_result_text, spells no_result_text (read_text no_result_text) refl refl, λ input. refl)

pub locals_anew_runs : LocalsAnewRuns
unfolding cut
locals_anew_runs = (tree_in locals_anew_text, spells locals_anew_text (read_text locals_anew_text) refl refl, λ input. refl)
