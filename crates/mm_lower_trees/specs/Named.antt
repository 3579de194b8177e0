-- The text in C of what the code names. (Own.)
use Rattle.std.specs.Prelude.{ℕ, List}
use Rattle.mm_simulate.specs.Names.{named}
use Rattle.mm_simulate.specs.Names as place
use Rattle.mm_lower_trees.specs.declared.name.Name.{Name}
use Rattle.mm_lower_trees.specs.declared.name.Name.TheVariants.{Local, Temporary}

abbrev pub text_of : Name → List ℕ
text_of (Local x) = named (place.local x)
text_of (Temporary k t) = named (place.temporary k t)
