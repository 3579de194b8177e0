-- What a machine stands for: the code in hand, the frame of the function that runs, and what is
-- done after the code.
use Rattle.std.specs.Prelude.{ℕ, ◌-◌, Bool, List, [], ◌∷◌, ◌++◌, reverse, length, take, drop, set, replicate, Option, pos}
use Rattle.mm_c.specs.declared.value.CValue.{CValue}
use Rattle.mm_c.specs.declared.value.CValue.TheVariants.{Int}
use Rattle.mm_c.specs.declared.tree.CKind.{CKind}
use Rattle.mm_c.specs.CMeaning.{State, Flow, Next, Broke, Continued, Returned, fitted}
use Rattle.mm_c_placed.specs.declared.tree.Local.{Local}
use Rattle.mm_c_placed.specs.Tree.{Code}
use Rattle.mm_c_placed.specs.View.{code_view}
use Rattle.mm_c_placed.specs.Meaning.{Store, start}
use Rattle.mm_c_machine.specs.declared.machine.Machine.{Machine}
use Rattle.mm_c_machine.specs.declared.machine.Frame.{Frame}
use Rattle.mm_c_machine.specs.declared.machine.Pending.{Pending}
use Rattle.mm_c_machine.specs.declared.machine.Pending.TheVariants as pending
use Rattle.mm_c_machine.specs.declared.machine.Here.{Here}
use Rattle.mm_c_machine.specs.declared.machine.Here.TheVariants as here
use Rattle.mm_c_machine.specs.declared.machine.Flow as m
use Rattle.mm_c_machine.specs.declared.machine.Flow.TheVariants as flow

-- The function that runs: what its places hold, what it returns, and whether it is inline.
pub record Level : Type 0 where
  pub values : List CValue
  pub result : Option CKind
  pub is_inline : Bool

-- What is done after the code in hand: the rest of a block, a loop once more, or the function that
-- called goes on.
pub data Piece : Type 0 where
  rest : Code → Piece
  loop : Code → Piece
  ret : Option Local → Level → Code → Piece

-- what is done first
pub data At : Type 0 where
  code : Code → At
  leaves : Flow → At
  no_way : At

-- the pieces stand in the order in which they are taken
pub record Core : Type 0 where
  pub at : At
  pub level : Level
  pub pieces : List Piece

abbrev pub flow_view : m.Flow → Flow
flow_view flow.Next = Next
flow_view flow.Broke = Broke
flow_view flow.Continued = Continued
flow_view (flow.Returned v) = Returned v

abbrev pub at_view : Here → At
at_view (here.Code c) = code (code_view c.now)
at_view (here.Leaves f) = leaves (flow_view f)
at_view here.Stuck = no_way

-- a frame, over all values from the first one to its end
abbrev pub level_of : Frame → List CValue → Level
level_of f values = record { values = drop f.base values; result = f.result; is_inline = f.is_inline }

-- the pieces of a stack, the next one first, over the values below the frame
abbrev pub pieces_of : List Pending → ℕ → List CValue → List Piece
pieces_of [] base values = []
pieces_of (pending.Rest c ∷ more) base values = rest (code_view c.now) ∷ pieces_of more base values
pieces_of (pending.Loop c ∷ more) base values = loop (code_view c.now) ∷ pieces_of more base values
pieces_of (pending.Return c f x ∷ more) base values = ret x (level_of f (take base values)) (code_view c.now) ∷ pieces_of more f.base (take base values)

-- what the places of the function that runs hold
abbrev pub frame_of : Machine → List CValue
frame_of m = drop m.frame.base m.values.items

abbrev pub seen : Machine → Core
seen m = record { at = at_view m.here; level = level_of m.frame m.values.items; pieces = pieces_of (reverse m.pending.items) m.frame.base m.values.items }

-- ---- what moves make of it

abbrev pub with_at : Core → At → Core
with_at s a = record { at = a; level = s.level; pieces = s.pieces }

abbrev pub with_piece : Core → Piece → Core
with_piece s p = record { at = s.at; level = s.level; pieces = p ∷ s.pieces }

abbrev pub with_values : Level → List CValue → Level
with_values l vs = record { values = vs; result = l.result; is_inline = l.is_inline }

abbrev pub with_level : Core → Level → Core
with_level s l = record { at = s.at; level = l; pieces = s.pieces }

-- a local receives a value by its kind
abbrev pub with_local : Core → Local → CValue → Core
with_local s x v = with_level s (with_values s.level (set s.level.values x.place (fitted x.kind v)))

-- a function is entered, with these arguments and as many places as it has slots
abbrev pub entered : Core → Option Local → Code → List CValue → ℕ → Option CKind → Bool → Code → Core
entered s x more vs slots result is_inline body = record {
  at = code body;
  level = record { values = vs ++ replicate (slots - length vs) (Int (pos 0)); result = result; is_inline = is_inline };
  pieces = ret x s.level more ∷ s.pieces;
}

-- ---- states and stores

abbrev pub store_of : Level → State → Store
store_of l s = record { frame = start l.values; state = s }

-- ---- a function that was called

-- where a function is left, over the one that called it
abbrev pub calling : Core → At → Option Local → Level → Code → List Piece → Core
calling s a x l c ps = record { at = a; level = s.level; pieces = ret x l c ∷ ps }

-- the caller, and what is done after it
abbrev pub below : Machine → Frame → Level
below m f = level_of f (take m.frame.base m.values.items)

abbrev pub pieces_below : Machine → Frame → List Piece
pieces_below m f = pieces_of (reverse m.pending.items) f.base (take m.frame.base m.values.items)
