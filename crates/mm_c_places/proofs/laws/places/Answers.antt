use Rattle.mm_c_places.proofs.Runs.{runs_same}
use Rattle.mm_c_places.proofs.Whole.{well_formed_sees}
use Rattle.mm_c_places.proofs.Ready.{placed_ready}
use Rattle.mm_c_places.proofs.laws.places.Goals as goal

pub returns-clause-runs : goal.returns-clause-runs
returns-clause-runs c = λ p e. runs_same p (well_formed_sees p e)

pub returns-clause-ready : goal.returns-clause-ready
returns-clause-ready c = placed_ready
