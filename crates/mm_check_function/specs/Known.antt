-- The functions that are declared, as the code keeps them. Own.
use Rattle.std.specs.Prelude.{◌≡◌, ℕ, Bool, List, map, find, Option, option_map}
use Rattle.mm_classes.specs.declared.class.Ty.{Ty}
use Rattle.mm_core.specs.declared.tree.CoreFn.{CoreFn}
use Rattle.mm_core.specs.Heads.{same_types}
use Rattle.mm_core.specs.Tree as k
use Rattle.mm_core.specs.View.{function_view}
use Rattle.mm_scopes.specs.declared.head.FnHead.{FnHead}
use Rattle.mm_scopes.specs.Environment.{Environment}
use Rattle.mm_scopes.specs.Names.{named}
use Rattle.mm_unit_typing.specs.Scopes.{inside}
use Rattle.mm_unit_typing.specs.Functions.{Heading, heading, heads_from, seen}
use Rattle.mm_check_function.specs.declared.head.Signature.{Signature}

-- functions in memory as plain trees
abbrev pub functions_view : List CoreFn → List k.Function
functions_view fs = map function_view fs

abbrev pub number_in : FnHead → ℕ
number_in h = h.number

abbrev pub has_params : List Ty → FnHead → Bool
has_params params h = same_types h.params params

-- the number of the first of these heads that has the name and the types
abbrev pub found_in : List FnHead → List ℕ → List Ty → Option ℕ
found_in hs name params = option_map number_in (find (has_params params) (named name hs))

-- the environment sees these functions
abbrev pub Sees : Environment → List CoreFn → Type 0
Sees env fs = env.functions ≡ heads_from 0 (functions_view fs)

-- the environment with these functions instead of its own
abbrev pub seeing : Environment → List CoreFn → Environment
seeing env fs = record env { functions = heads_from 0 (functions_view fs) }

-- the environment has these functions, its variables, and no classes
abbrev pub Stands : Environment → List CoreFn → Type 0
Stands env fs = env ≡ inside (seen (functions_view fs)) env.vars

-- what a head says, in memory
abbrev pub heading_view : Signature → Heading
heading_view s = heading s.result s.params
