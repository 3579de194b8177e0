-- Which functions and programs checking gives. (ISO/IEC 14882, 3.2, 8.3.5, 9.3, 10.3 and 13.1; the
-- limits are own.)
use Rattle.std.specs.Prelude.{if◌then◌else◌, ◌&&◌, ◌≡◌, ◌≢◌, ℕ, zero, suc, ◌<◌, ◌≤◌, ◌^◌, Bool, true, false, IsTrue, List, [], ◌∷◌, length, map, count_by, AllPairs, Option, Some, None, slice_get}
use Rattle.mm_classes.specs.declared.class.Ty.{Ty}
use Rattle.mm_classes.specs.declared.class.Ty.TheVariants as ty
use Rattle.mm_classes.specs.declared.class.Member.{Member}
use Rattle.mm_classes.specs.declared.class.MemberKind.{MemberKind}
use Rattle.mm_classes.specs.declared.class.MemberKind.TheVariants as kind
use Rattle.mm_classes.specs.Lists.{Has}
use Rattle.mm_classes.specs.Classes.{Class, IsClassList, class_at, members_of, is_field, field_count, IsComplete, IsPolymorphic, Derives}
use Rattle.mm_classes.specs.Subobjects.{Path, IsSubobject, subobjects_of, end_of}
use Rattle.mm_core.specs.declared.part.CoreParam.{CoreParam}
use Rattle.mm_core.specs.Tree.{Stmt, block, Function, Program}
use Rattle.mm_core.specs.Heads.{class_in, class_shown, is_reference, type_code, params_in, result_in, same_function, types_of_params, is_method, function_of, owner_of, is_open, argument_types, local_types}
use Rattle.mm_core.specs.Finals.{final_of}
use Rattle.mm_core.specs.Sets.{is_one, is_some_of}
use Rattle.mm_core.specs.Families.{classes_of, Declared, opens_of, over, base_methods, family_of}
use Rattle.mm_core.specs.Dispatch.{Row, parts_at, is_viable, Reason, is_covariant, winner_of}
use Rattle.mm_core.specs.Valid.{Around, is_pointer, IsVirtualIn, IsDestructor, IsValidStmt}
use Rattle.mm_core.specs.Run.{number_of_main}

-- the class of a type is declared
abbrev pub IsDeclared : List Class → Option ℕ → Type 0
IsDeclared g None = Unit {0}
IsDeclared g (Some c) = c < length g

abbrev pub IsType : List Class → Ty → Type 0
IsType g t = IsDeclared g (class_in t)

-- of a variable or parameter
abbrev pub IsVariable : List Class → Ty → Type 0
IsVariable g t = IsType g t × (t ≢ ty.Void)

-- a virtual position is a pointer or reference to a complete polymorphic class
abbrev pub IsParam : List Class → CoreParam → Type 0
IsParam g q = IsVariable g q.ty ×
    (IsTrue q.is_virtual → IsTrue (is_pointer q.ty) × IsComplete g (class_shown q.ty) ×
    IsPolymorphic g (class_shown q.ty))

abbrev pub numbers_below : ℕ → List ℕ
numbers_below zero = []
numbers_below (suc n) = n ∷ numbers_below n

abbrev pub around : (Function → Bool) → Program → Function → Around
around callable p f = record {
  classes = p.classes;
  functions = p.functions;
  callable = callable;
  locals = local_types p.classes f;
  arguments = length (argument_types p.classes f);
}

-- a body is a block, in which the arguments are known
abbrev pub IsBody : Around → Ty → Stmt → Type 0
IsBody a result (block ss) = IsValidStmt a result false (numbers_below a.arguments) (block ss)
IsBody a result other = ⊥

abbrev pub BodyFits : Around → Ty → Bool → Option Stmt → Type 0
BodyFits a result false None = Unit {0}
BodyFits a result false (Some s) = ⊥
BodyFits a result true None = ⊥
BodyFits a result true (Some s) = IsBody a result s

pub record IsValidFunction (callable : Function → Bool) (p : Program) (f : Function) : Type 0 where
  pub result : IsType p.classes f.result
  pub params : (q : CoreParam) → Has f.params q → IsParam p.classes q
  pub few : length f.params ≤ 32
  pub few_virtual : count_by (λ (q : CoreParam). q.is_virtual) f.params ≤ 4
  pub locals : (t : Ty) → Has f.locals t → IsVariable p.classes t
  -- a member has a complete class and a method of its name and types there, and no virtual
  -- parameter
  pub owner : IsTrue f.member → (c : ℕ) × (m : Member) × (owner_of p.classes f ≡ Some c) ×
      IsComplete p.classes c × Has (members_of p.classes c) m ×
      IsTrue (is_method (class_at p.classes c) f m) × (result_in m.kind ≡ f.result) ×
      (is_open f ≡ false)
  pub inside : IsTrue f.in_class → IsTrue f.defined × IsTrue f.member
  pub body : BodyFits (around callable p f) f.result f.defined f.body

-- two functions of one program differ in their names or in the types of their parameters
abbrev pub AreApart : Function → Function → Type 0
AreApart f h = f.name ≡ h.name →
    map type_code (types_of_params f.params) ≢ map type_code (types_of_params h.params)

abbrev pub TypesAre : List Class → MemberKind → Type 0
TypesAre g (kind.Field t) = IsVariable g t × (is_reference t ≡ false)
TypesAre g (kind.Function ps r v) = IsType g r × ((t : Ty) → Has ps t → IsVariable g t)

-- The function of a method. That the class found by the text of its name is this one rests on names
-- of classes that differ and on identifiers, which have no colon.
pub record IsFunctionOf (p : Program) (c : ℕ) (m : Member) (n : ℕ) (f : Function) : Type 0 where
  pub number : function_of p (class_at p.classes c) m ≡ Some n
  pub there : slice_get p.functions n ≡ Some f
  pub member : IsTrue f.member
  pub owner : owner_of p.classes f ≡ Some c
  pub params : types_of_params f.params ≡ params_in m.kind
  pub result : f.result ≡ result_in m.kind
  pub closed : is_open f ≡ false

-- A class within the limits, of which every virtual function has one final overrider with a
-- covariant result.
pub record IsValidClass (p : Program) (c : ℕ) : Type 0 where
  pub types : (m : Member) → Has (members_of p.classes c) m → TypesAre p.classes m.kind
  pub subobjects : length (subobjects_of p.classes c) ≤ 256
  pub fields : field_count (members_of p.classes c) ≤ 2 ^ 19
  pub finals : (s : Path) (m : Member) → IsSubobject p.classes c s →
      Has (members_of p.classes (end_of s)) m → is_field m ≡ false →
      IsVirtualIn p.classes (end_of s) m → (t : Path) × (final_of p.classes c s m ≡ Some t)
  pub covariant : (m : Member) (b : ℕ) (o : Member) → Has (members_of p.classes c) m →
      Derives p.classes c b → Has (members_of p.classes b) o → IsTrue (same_function m o) →
      IsVirtualIn p.classes b o →
      IsTrue (is_covariant p.classes (result_in m.kind) (result_in o.kind))
  -- each method but a destructor is a function
  pub methods : (m : Member) → Has (members_of p.classes c) m → is_field m ≡ false →
      (IsDestructor p.classes c m → ⊥) → (n : ℕ) × (f : Function) × IsFunctionOf p c m n f

pub record IsValidProgram (callable : Function → Bool) (p : Program) : Type 0 where
  pub listed : IsClassList p.classes
  pub classes : (c : ℕ) → IsComplete p.classes c → IsValidClass p c
  pub functions : (f : Function) → Has p.functions f → IsValidFunction callable p f
  pub apart : AllPairs AreApart p.functions

-- a unit may call what it declares
abbrev pub IsValidUnit : Program → Type 0
IsValidUnit = IsValidProgram (λ f. true)

-- In a merged program what may be called is defined, open-methods and virtual functions are, and
-- `main` is.
pub record IsMerged (p : Program) : Type 0 where
  pub valid : IsValidProgram (λ f. f.defined) p
  pub opens : (f : Function) → Has p.functions f → IsTrue (is_open f) → IsTrue f.defined
  pub virtuals : (c n : ℕ) (m : Member) (f : Function) → IsComplete p.classes c →
      Has (members_of p.classes c) m → IsVirtualIn p.classes c m →
      function_of p (class_at p.classes c) m ≡ Some n → slice_get p.functions n ≡ Some f →
      IsTrue f.defined
  pub main : number_of_main p.functions < length p.functions

-- ---- open-methods

-- rows of classes: at each position a complete class, and a subobject of it that is of the
-- position's class
abbrev pub AreRows : List Class → List ℕ → List Row → Type 0
AreRows g [] [] = Unit {0}
AreRows g [] (row ∷ rows) = ⊥
AreRows g (c ∷ cs) [] = ⊥
AreRows g (c ∷ cs) (row ∷ rows) = IsComplete g row.class × IsSubobject g row.class row.part ×
    (end_of row.part ≡ c) × AreRows g cs rows

-- at each position there is at most one
abbrev pub are_single : List (List Path) → Bool
are_single [] = true
are_single (ts ∷ rest) = (if is_some_of ts then is_one ts else true) && are_single rest

-- No open-method has a fault: the results of overriders are covariant, at every tuple of a
-- base-method the parameters of the viable declarations are the only ones, and one of them wins.
pub record IsResolved (p : Program) : Type 0 where
  pub covariant : (r o : Declared) → Has (opens_of p) r → Has (opens_of p) o →
      IsTrue (over p.classes r o) →
      IsTrue (is_covariant p.classes r.function.result o.function.result)
  pub single : (b r : Declared) (rows : List Row) → Has (base_methods p.classes (opens_of p)) b →
      Has (family_of p.classes (opens_of p) b) r → AreRows p.classes (classes_of b.function) rows →
      IsTrue (is_viable p.classes rows r) →
      IsTrue (are_single (parts_at p.classes rows (classes_of r.function)))
  pub won : (b : Declared) (rows : List Row) → Has (base_methods p.classes (opens_of p)) b →
      AreRows p.classes (classes_of b.function) rows → (w : Declared) × (reason : Reason) ×
      (winner_of p.classes (opens_of p) b rows ≡ Some (w, reason))
