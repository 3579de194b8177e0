-- What the two meanings have in common at one moment: each name that is seen holds what its place holds, and has the kind that
-- is declared. (Own.)
use Rattle.std.specs.Prelude.{◌≡◌, ℕ, List, Some}
use Rattle.mm_c.specs.declared.tree.CLocal.{CLocal}
use Rattle.mm_c.specs.WellFormed.{kind_in}
use Rattle.mm_c.specs.CMeaning.{Names, Kinds}
use Rattle.mm_c_placed.specs.Meaning.{Frame}
use Rattle.mm_c_places.specs.Places.{place_of}
use Rattle.mm_c_places.specs.Seen.{Sees}

pub record Near (all scope : List CLocal) (names : Names) (kinds : Kinds) (frame : Frame) : Type 0 where
  pub kind : (x : List ℕ) → Sees scope x → kind_in all x ≡ Some (kinds x)
  pub value : (x : List ℕ) → Sees scope x → names x ≡ frame (place_of all x)
