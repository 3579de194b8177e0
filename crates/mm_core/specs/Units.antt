-- What a checked unit is and keeps, and what a merged program is and keeps. (Own; on names ISO/IEC
-- 14882, 2.10.)
use Rattle.std.specs.Prelude.{◌≡◌, ◌≢◌, ◌↔◌, ℕ, ◌+◌, ◌<◌, ◌≤◌, ◌^◌, Bool, true, not, ◌&&◌, IsTrue, List, length, map, take, All, AllPairs, Option, None, Some, codes, slice_get}
use Rattle.std.specs.Str.{bytes_eq}
use Rattle.mm_classes.specs.declared.class.Member.{Member}
use Rattle.mm_classes.specs.Lists.{Has, has}
use Rattle.mm_classes.specs.Classes.{Class, members_of}
use Rattle.mm_core.specs.declared.part.CoreParam.{CoreParam}
use Rattle.mm_core.specs.declared.tree.CoreClass.{CoreClass}
use Rattle.mm_core.specs.declared.tree.OpenDecl.{OpenDecl}
use Rattle.mm_core.specs.Tree.{Stmt, Function, Program}
use Rattle.mm_core.specs.Sets.{is_some_of}
use Rattle.mm_core.specs.Heads.{types_of_params}
use Rattle.mm_core.specs.Families.{Declared, opens_of, base_methods}
use Rattle.mm_core.specs.Ordering.{declared_before}
use Rattle.mm_core.specs.Valid.{IsDestructor}
use Rattle.mm_core.specs.ValidProgram.{IsValidUnit, IsMerged}
use Rattle.mm_core.specs.Sizes.{stmt_depth, stmt_width}

-- A checked unit: its files, its own first; how many bytes its text has with its headers; its
-- program; and beside each class where it was first named, with its tokens joined by blanks (none
-- of a class that is only declared).
pub record Checked : Type 0 where
  pub files : List (List ℕ)
  pub bytes : ℕ
  pub program : Program
  pub marks : List CoreClass

-- A merged program: the files of its units stand one unit after another. `bases` are the places of
-- the base-methods among the open-methods.
pub record Joined : Type 0 where
  pub files : List (List ℕ)
  pub program : Program
  pub marks : List CoreClass
  pub opens : List OpenDecl
  pub bases : List ℕ

-- ---- names and places

-- A name that a program declares: it has bytes, no colon and no `~` among them, and not `mm_` at
-- its front. (That it is an identifier is asked where texts and records are read.)
abbrev pub is_name : List ℕ → Bool
is_name n =
    is_some_of n && (not (has n 58) && (not (has n 126) && not (bytes_eq (take 3 n) (codes "mm_"))))

-- a member's name, a destructor's among them
abbrev pub IsMemberName : List Class → ℕ → Member → Type 0
IsMemberName g c m = (IsDestructor g c m → ⊥) → IsTrue (is_name m.name)

-- a member function has its class before its name, and so a colon
pub record AreNamed (p : Program) : Type 0 where
  pub classes : (c : Class) → Has p.classes c → IsTrue (is_name c.name)
  pub members : (c : ℕ) (m : Member) → Has (members_of p.classes c) m → IsMemberName p.classes c m
  pub functions : (f : Function) → Has p.functions f → f.member ≢ true → IsTrue (is_name f.name)

-- no function outside classes is named as a class
abbrev pub NamesDiffer : Program → Type 0
NamesDiffer p = (c : Class) (f : Function) → Has p.classes c → Has p.functions f → f.name ≢ c.name

-- every place lies in one of so many files
pub record ArePlaced (n : ℕ) (p : Program) (marks : List CoreClass) : Type 0 where
  pub classes : (x : CoreClass) → Has marks x → x.place.file < n
  pub members : (c : ℕ) (m : Member) → Has (members_of p.classes c) m → m.place.file < n
  pub functions : (f : Function) → Has p.functions f → f.place.file < n

-- ---- sizes

-- a body within the depth of a record, in which it stands at the fourth level
abbrev pub IsSmallBody : Option Stmt → Type 0
IsSmallBody None = Unit {0}
IsSmallBody (Some s) = (stmt_depth s + 3 ≤ 4096) × (stmt_width s < 2 ^ 32)

-- every text, list and number has 32 bits, and a local's number 31
pub record IsSmallFunction (f : Function) : Type 0 where
  pub name : length f.name < 2 ^ 32
  pub locals : length f.params + length f.locals + 1 < 2 ^ 31
  pub body : IsSmallBody f.body

pub record AreSmall (files : List (List ℕ)) (p : Program) (marks : List CoreClass) : Type 0 where
  pub few_files : length files < 2 ^ 32
  pub file_names : (n : List ℕ) → Has files n → length n < 2 ^ 32
  pub classes : length p.classes ≤ 1024
  pub class_names : (c : Class) → Has p.classes c → length c.name < 2 ^ 32
  pub member_names : (c : ℕ) (m : Member) → Has (members_of p.classes c) m → length m.name < 2 ^ 32
  pub tokens : (x : CoreClass) → Has marks x → length x.tokens < 2 ^ 32
  pub functions : length p.functions < 2 ^ 32
  pub each_function : (f : Function) → Has p.functions f → IsSmallFunction f

-- ---- what is kept

-- what a checked unit and a merged program keep beside what is valid
pub record AreKept (files : List (List ℕ)) (p : Program) (marks : List CoreClass) : Type 0 where
  pub marked : length marks ≡ length p.classes
  pub named : AreNamed p
  pub placed : ArePlaced (length files) p marks
  pub small : AreSmall files p marks

pub record IsChecked (u : Checked) : Type 0 where
  pub some : 0 < length u.files
  pub bytes : u.bytes < 2 ^ 32
  pub valid : IsValidUnit u.program
  pub kept : AreKept u.files u.program u.marks
  pub differ : NamesDiffer u.program

-- what is told of an open-method
abbrev pub open_decl_of : Declared → OpenDecl
open_decl_of d = record {
  name = d.function.name;
  params = types_of_params d.function.params;
  virtuals = map (λ (q : CoreParam). q.is_virtual) d.function.params;
  result = d.function.result;
  place = d.function.place;
  defined = d.function.defined;
}

-- at each of these places stands an element, one after another in an order
pub record AreBases (p : Program) (bases : List ℕ) : Type 0 where
  -- exactly the base-methods stand at these places
  pub are : (d : Declared) →
      Has (base_methods p.classes (opens_of p)) d ↔
      ((b : ℕ) × Has bases b × (slice_get (opens_of p) b ≡ Some d))
  pub inside : All (λ b. b < length (opens_of p)) bases
  pub ordered : AllPairs (λ b c. (d e : Declared) → slice_get (opens_of p) b ≡ Some d →
      slice_get (opens_of p) c ≡ Some e → IsTrue (declared_before p.classes d e)) bases

pub record IsJoined (m : Joined) : Type 0 where
  pub valid : IsMerged m.program
  pub kept : AreKept m.files m.program m.marks
  pub opens : m.opens ≡ map open_decl_of (opens_of m.program)
  pub bases : AreBases m.program m.bases
