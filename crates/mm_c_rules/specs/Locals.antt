-- The parameters and locals of a function.
use Rattle.std.specs.Prelude.{List, ◌++◌, map}
use Rattle.std.specs.Borrow.{Bor}
use Rattle.mm_c.specs.declared.tree.CLocal.{CLocal}
use Rattle.mm_c.specs.declared.tree.CFn.{CFn}
use Rattle.mm_c.specs.View.{block_view}
use Rattle.mm_c.specs.WellFormed.{locals_of}

abbrev pub all_locals : CFn → List CLocal
all_locals f = f.params ++ locals_of (block_view f.body)

abbrev pub held : List (Bor CLocal) → List CLocal
held = map (λ (l : Bor CLocal). l.now)
