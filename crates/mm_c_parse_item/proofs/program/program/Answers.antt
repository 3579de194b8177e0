use Rattle.std.proofs.Common.{List, refl, ap, ◌∙◌}
use Rattle.mm_c.specs.Tree.{Item}
use Rattle.mm_c.specs.Grammar.{Placed, program}
use Rattle.mm_c_parse.proofs.Steps.{yes_, passed_, broken_, rg, fg, rs, ff, fs, rn, fn_, ug, uf}
use Rattle.mm_c_parse.proofs.Seen.{bad_seen}
use Rattle.mm_c_parse_stmt.proofs.Gathers.{here, got, gone}
use Rattle.mm_c_parse_item.specs.Parsed.{placed_of}
use Rattle.mm_c_parse_item.proofs.Programs.{prelude_reads, prelude_fails, program_reads}
use Rattle.mm_c_parse_item.proofs.program.program.Goals as goal

pub returns-in_err-prelude : goal.returns-in_err-prelude
returns-in_err-prelude c = bad_seen placed_of _ c.from_residual.ensures.1 (λ e. fn_ {x = program} (fg (fg (ff refl (prelude_fails (broken_ c.in_err-prelude.ensures))))))

pub returns-in_err-items : goal.returns-in_err-items
returns-in_err-items c = bad_seen placed_of _ c.from_residual-in_err-items.ensures.1 (λ e. fn_ {x = program} (fg (fg (fs refl (prelude_reads (passed_ c.in_ok-prelude.ensures)).1 (uf (gone c.in_err-items.ensures e))))))

pub returns : goal.returns
returns c = yes_ (program_reads c.new-places.ensures (passed_ c.in_ok-prelude.ensures) c.in_ok-items.ensures)
