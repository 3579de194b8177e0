use Rattle.mm_c.specs.View.{program_view}
use Rattle.mm_c.proofs.Counts.{places_match}
use Rattle.mm_c_read.proofs.read.Goals as goal

pub broken_at-requires : goal.broken_at-requires
broken_at-requires c = places_match c.args.text.now (program_view c.in_ok-parsed.parsed.program) c.in_ok-parsed.parsed.places c.in_ok-parsed.ensures
