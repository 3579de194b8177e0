-- What the steps of `lacking` leave for the next.
use Rattle.std.specs.Prelude.{◌≡◌, ℕ, ◌<◌, ◌||◌, nat_eq, Bool, false, List, length, get_or, Option, Some, None}
use Rattle.mm_classes.specs.Lists.{has}
use Rattle.mm_core.specs.declared.tree.CoreFn.{CoreFn}
use Rattle.mm_core.specs.Tree.{Function}
use Rattle.mm_core.specs.View.{function_view}

-- one more number is marked
abbrev pub MarksOne : List Bool → ℕ → List Bool → Type 0
MarksOne old number new = (k : ℕ) → k < length old →
    get_or new k false ≡ (get_or old k false || nat_eq number k)

-- each number below n is marked where it is among the numbers
pub record AreMarks (marks : List Bool) (n : ℕ) (numbers : List ℕ) : Type 0 where
  pub lengths : length marks ≡ n
  pub each : (k : ℕ) → k < n → get_or marks k false ≡ has numbers k

-- the plain function that was found
abbrev pub found_as : Option CoreFn → Option Function
found_as None = None
found_as (Some f) = Some (function_view f)
