use Rattle.mm_c.proofs.Once.{nothing_is_no_program}
use Rattle.mm_c.proofs.Examples.{sum_is_put, bad_sum_is_stuck, undeclared_is_refused, cells_runs, open_call_runs, loop_runs, misaligned_runs, at_null_runs, out_of_block_runs, other_kind_runs, past_block_runs, no_block_runs, quotients_runs, least_remainder_runs, by_zero_runs, long_sum_runs, trap_runs, bad_trap_runs, no_result_runs, locals_anew_runs}
use Rattle.mm_c.proofs.laws.examples.Goals as goal

pub returns : goal.returns
returns c = record {
  sum = sum_is_put;
  bad_sum = bad_sum_is_stuck;
  nothing = nothing_is_no_program;
  undeclared = undeclared_is_refused;
  cells = cells_runs;
  open_call = open_call_runs;
  turns = loop_runs;
  misaligned = misaligned_runs;
  at_null = at_null_runs;
  out_of_block = out_of_block_runs;
  other_kind = other_kind_runs;
  past_block = past_block_runs;
  no_block = no_block_runs;
  quotients = quotients_runs;
  least_remainder = least_remainder_runs;
  by_zero = by_zero_runs;
  long_sum = long_sum_runs;
  trap = trap_runs;
  bad_trap = bad_trap_runs;
  no_result = no_result_runs;
  locals_anew = locals_anew_runs;
}
