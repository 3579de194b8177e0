use Rattle.mm_c_placed.proofs.Deep.{now_step, forever_step, steady_in, run_now}
use Rattle.mm_c_placed.specs.Meaning.{around_in, now}
use Rattle.mm_c_placed.proofs.laws.runs.Goals as goal

pub returns : goal.returns
returns c = record { calls = now_step; loops = λ p i b s k. forever_step (around_in p (now p) i) (steady_in p i) b s k; deep = run_now }
