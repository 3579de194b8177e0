-- That a check gives exactly what two relations say. Own.
use Rattle.std.specs.Prelude.{◌≡◌, Ok, Err}
use Rattle.mm_checks.specs.Checks.{Fault, Checked}

-- The values and the faults of the check are exactly those of the relations.
pub record Reads {V : Type 0} (r : Checked V) (T : V → Type 0) (F : Fault → Type 0) : Type 0 where
  pub is_typed : (v : V) → r ≡ Ok v → T v
  pub types : (v : V) → T v → r ≡ Ok v
  pub is_fault : (f : Fault) → r ≡ Err f → F f
  pub faults : (f : Fault) → F f → r ≡ Err f
