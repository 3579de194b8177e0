-- What a contract sees of a checked unit and of a merged program: their parts as they stand in
-- memory. (Own.)
use Rattle.std.specs.Prelude.{ℕ, List}
use Rattle.mm_classes.specs.Classes.{Class}
use Rattle.mm_core.specs.declared.tree.CoreClass.{CoreClass}
use Rattle.mm_core.specs.declared.tree.CoreFn.{CoreFn}
use Rattle.mm_core.specs.declared.tree.OpenDecl.{OpenDecl}
use Rattle.mm_core.specs.View.{program_view}
use Rattle.mm_core.specs.Units.{Checked, Joined}

pub record UnitSeen : Type 0 where
  pub files : List (List ℕ)
  pub bytes : ℕ
  pub graph : List Class
  pub classes : List CoreClass
  pub functions : List CoreFn

-- the unit that it is
abbrev pub checked_of : UnitSeen → Checked
checked_of u = record {
  files = u.files;
  bytes = u.bytes;
  program = program_view u.graph u.functions;
  marks = u.classes;
}

pub record MergedSeen : Type 0 where
  pub graph : List Class
  pub classes : List CoreClass
  pub functions : List CoreFn
  pub opens : List OpenDecl
  pub bases : List ℕ
  pub names : List (List ℕ)

-- the program that it is
abbrev pub joined_of : MergedSeen → Joined
joined_of m = record {
  files = m.names;
  program = program_view m.graph m.functions;
  marks = m.classes;
  opens = m.opens;
  bases = m.bases;
}
