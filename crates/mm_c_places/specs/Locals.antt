-- The locals of a function.
use Rattle.std.specs.Prelude.{List, ◌++◌}
use Rattle.mm_c.specs.declared.tree.CLocal.{CLocal}
use Rattle.mm_c.specs.Tree.{Function}
use Rattle.mm_c.specs.WellFormed.{locals_of}

-- the parameters of a function, and then the locals of all its blocks, in the order of the text
abbrev pub all_locals : Function → List CLocal
all_locals f = f.params ++ locals_of f.body
