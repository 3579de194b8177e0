-- Where a statement stands, as the rules see it, and what a call names.
use Rattle.std.specs.Prelude.{ℕ, List}
use Rattle.mm_c.specs.declared.tree.CLocal.{CLocal}
use Rattle.mm_c.specs.declared.tree.CCall.{CCall}
use Rattle.mm_c.specs.declared.tree.CCall.TheVariants.{Named, Element}
use Rattle.mm_c.specs.WellFormed as w
use Rattle.mm_c_names.specs.Entries.{table_of}
use Rattle.mm_c_rules.specs.declared.here.Place.{Place}
use Rattle.mm_c_rules.specs.declared.here.Here.{Here}

-- a place from which these parameters and locals are seen
abbrev pub here_at : Place → List CLocal → w.Here
here_at p scope = record { table = table_of p.declared.now; scope = scope; result = p.result; inside_inline = p.inside_inline; in_loop = p.in_loop }

abbrev pub here_view : Here → w.Here
here_view h = here_at h.place h.scope.now

-- the name of what is called, or of the array of which an element is called
abbrev pub called_name : CCall → List ℕ
called_name (Named f atoms) = f
called_name (Element a x atoms) = a
