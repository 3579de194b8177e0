-- When a run of a function's statements with names, and one with places, do the same. (Own.)
use Rattle.std.specs.Prelude.{◌≡◌, ℕ, ℤ, List}
use Rattle.std.specs.Option.{option_map}
use Rattle.mm_meaning.specs.Run.{Run, Gives, Stops}
use Rattle.mm_c.specs.declared.value.CValue.{CValue}
use Rattle.mm_c.specs.declared.tree.CLocal.{CLocal}
use Rattle.mm_c.specs.Tree.{Item}
use Rattle.mm_c.specs.CMeaning.{Stop, State, Names, Kinds, From}
use Rattle.mm_c.specs.CMeaning as n
use Rattle.mm_c_placed.specs.Meaning.{Frame}
use Rattle.mm_c_placed.specs.Meaning as c
use Rattle.mm_c_places.specs.Places.{array_number, callee_at, numbers}
use Rattle.mm_c_places.specs.Near.{Near}

-- Both gave the same and left the same, and what is seen is still near; or both stopped in the same way.
pub data Alike {A : Type 0} (all scope : List CLocal) : Run Stop n.Store A → Run Stop c.Store A → Type 0 where
  both_give : {a : A} {names : Names} {kinds : Kinds} {frame : Frame} {w : State} {k : ℕ} → Near all scope names kinds frame
      → Alike all scope (Gives a (record { names = names; kinds = kinds; state = w }) k) (Gives a (record { frame = frame; state = w }) k)
  both_stop : {t : Stop} {names : Names} {kinds : Kinds} {frame : Frame} {w : State}
      → Alike all scope (Stops t (record { names = names; kinds = kinds; state = w })) (Stops t (record { frame = frame; state = w }))

-- From where the names in `before` are near, both do the same, and those in `after` are near.
pub record Does {A : Type 0} (all before after : List CLocal) (m : From n.Store A) (m' : From c.Store A) : Type 0 where
  pub by : (names : Names) (kinds : Kinds) (frame : Frame) (w : State) (k : ℕ) → Near all before names kinds frame
      → Alike all after (m (record { names = names; kinds = kinds; state = w }) k) (m' (record { frame = frame; state = w }) k)

-- what is around statements is the same by name and by number
pub record SameAround (items : List Item) (m : n.Around) (m' : c.Around) : Type 0 where
  pub call : (f : List ℕ) (vs : List CValue) (w : State) (k : ℕ) → m.call f vs w k ≡ m'.call (callee_at (numbers items) f) vs w k
  pub functions : (a : List ℕ) (i : ℤ) → option_map (callee_at (numbers items)) (m.function_at a i) ≡ m'.function_at (array_number items a) i
  pub numbers : (a : List ℕ) (i : ℤ) → m.number_at a i ≡ m'.number_at (array_number items a) i
