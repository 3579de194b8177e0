-- A well-formed program does with numbers what it does with names, and its places are those of its functions' slots. (Own.)
use Rattle.std.specs.Prelude.{◌≡◌, ℕ, true, [], codes}
use Rattle.mm_c.specs.Tree.{Program}
use Rattle.mm_c.specs.WellFormed.{well_formed}
use Rattle.mm_c.specs.CMeaning.{State, named_call}
use Rattle.mm_c_placed.specs.Tree as t
use Rattle.mm_c_placed.specs.Meaning.{run_of}
use Rattle.mm_c_placed.specs.Ready.{IsReady}
use Rattle.mm_c_places.specs.Placed.{placed}

-- the same run of `main` at every bound, from every state
abbrev pub SameRuns : Program → t.Program → Type 0
SameRuns p q = (n : ℕ) (w : State) → named_call p n (codes "main") [] w n ≡ run_of q n w

abbrev pub PlacedRuns : Type 0
PlacedRuns = (p : Program) → well_formed p ≡ true → SameRuns p (placed p)

abbrev pub PlacedIsReady : Type 0
PlacedIsReady = (p : Program) → well_formed p ≡ true → IsReady (placed p)
