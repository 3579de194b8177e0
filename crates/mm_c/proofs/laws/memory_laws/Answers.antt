use Rattle.mm_c.proofs.Stored.{loads_what_was_stored, loads_as_before, store_keeps_sizes, fresh_is_zero, loads_in_block, stores_in_block, no_other_load, stuck_stays, stuck_alike}
use Rattle.mm_c.proofs.laws.memory_laws.Goals as goal

pub returns : goal.returns
returns c = record {
  stored = loads_what_was_stored;
  elsewhere = loads_as_before;
  sizes = store_keeps_sizes;
  fresh = fresh_is_zero;
  loads_within = loads_in_block;
  stores_within = stores_in_block;
  across = no_other_load;
  for_ever = stuck_stays;
  alike = stuck_alike;
}
