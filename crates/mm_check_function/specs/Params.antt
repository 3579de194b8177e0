-- Types of parameters, one after another. Own.
use Rattle.std.specs.Prelude.{List, [], ◌∷◌, ◌++◌, Ok}
use Rattle.mm_classes.specs.declared.class.Ty.{Ty}
use Rattle.mm_checks.specs.Checks.{Checked, ◌>>=◌}

-- a type behind others
abbrev pub added : List Ty → Checked Ty → Checked (List Ty)
added front check = check >>= λ t. Ok (front ++ t ∷ [])
