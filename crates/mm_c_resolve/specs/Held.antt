-- The locals of a function, as they are held.
use Rattle.std.specs.Prelude.{◌≡◌, List, map}
use Rattle.std.specs.Borrow.{Bor}
use Rattle.mm_c.specs.declared.tree.CLocal.{CLocal}
use Rattle.mm_c.specs.WellFormed.{kinds_of}
use Rattle.mm_c_places.specs.Places.{names_of}
use Rattle.mm_c_resolve.specs.declared.locals.Declared.{Declared}
use Rattle.mm_c_resolve.specs.Numbering.{AreNumbered}

abbrev pub seen : List (Bor CLocal) → List CLocal
seen = map (λ (l : Bor CLocal). l.now)

-- The names have the places of their first local, and the kinds are those of the locals.
pub record AreDeclared (d : Declared) (all : List CLocal) : Type 0 where
  pub places : AreNumbered d.places (names_of all)
  pub kinds : d.kinds.items ≡ kinds_of all
