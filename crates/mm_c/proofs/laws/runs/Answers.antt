use Rattle.mm_c.proofs.Settling.{settles}
use Rattle.mm_c.proofs.Deep.{now_step, forever_step, steady_all}
use Rattle.mm_c.specs.CMeaning.{around_all, now}
use Rattle.mm_c.proofs.laws.runs.Goals as goal

pub returns : goal.returns
returns c = record { settles = settles; calls = now_step; loops = λ p b s k. forever_step (around_all p (now p)) (steady_all p) b s k }
