-- Virtual calls. (ISO/IEC 14882, 10.3 and 5.2.2.)
use Rattle.std.specs.Prelude.{ℕ, List, ◌∷◌, Option, Some, None, Result, Ok, Err, find, option_and_then, slice_get}
use Rattle.mm_base.specs.declared.num.Trap.{Trap}
use Rattle.mm_base.specs.declared.num.Trap.TheVariants as by
use Rattle.mm_meaning.specs.Run.{◌>>=◌}
use Rattle.mm_classes.specs.declared.class.Member.{Member}
use Rattle.mm_classes.specs.declared.class.Ty.{Ty}
use Rattle.mm_classes.specs.declared.class.Ty.TheVariants as ty
use Rattle.mm_classes.specs.Classes.{class_at, members_of}
use Rattle.mm_classes.specs.Subobjects.{end_of}
use Rattle.mm_core.specs.Tree.{Function, Program}
use Rattle.mm_core.specs.Heads.{result_in, same_function, function_of}
use Rattle.mm_core.specs.State.{Value, At, State, class_of, From, or_trap, on_some, at_once}
use Rattle.mm_core.specs.Moves.{to_final, moved, result_back}

-- A call of a function, by its number, on the values of its arguments, `this` first where it is a
-- member.
abbrev pub Calls : Type 0
Calls = ℕ → List Value → From State Value

-- what follows from the state as it is
abbrev pub reads : {A : Type 0} → (State → Result A Trap) → From State A
reads f s = or_trap (f s) s

-- The function that a call enters, with its arguments, and the result type of the declaration that
-- was called.
pub record Entry : Type 0 where
  pub function : ℕ
  pub arguments : List Value
  pub declared : Ty

abbrev pub result_of_entry : Option Function → Ty
result_of_entry None = ty.Void
result_of_entry (Some f) = f.result

-- it is entered, and its result is moved
abbrev pub entered : Program → Calls → Entry → From State Value
entered p calls e = do
  v ← calls e.function e.arguments
  at_once (result_back p.classes (result_of_entry (slice_get p.functions e.function)) e.declared v)

-- the function of a class that is the same as a member
abbrev pub declared_in : Program → ℕ → Member → Option ℕ
declared_in p c x =
    option_and_then (function_of p (class_at p.classes c))
    (find (same_function x) (members_of p.classes c))

-- A virtual call on a subobject enters the final overrider, on the final overrider's subobject.
abbrev pub virtual_entry : Program → ℕ → Value → List Value → State → Result Entry Trap
virtual_entry p m (At o t) vs s =
    on_some (slice_get (members_of p.classes (end_of t)) m) (λ x.
    on_some (moved p.classes (to_final x) (class_of s.objects o) t) (λ u.
    on_some (declared_in p (end_of u) x) (λ f.
    Ok (record { function = f; arguments = At o u ∷ vs; declared = result_in x.kind }))))
virtual_entry p m other vs s = Err by.Null

abbrev pub call_virtual : Program → Calls → ℕ → Value → List Value → From State Value
call_virtual p calls m v vs = do
  e ← reads (virtual_entry p m v vs)
  entered p calls e
