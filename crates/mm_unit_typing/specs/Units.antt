-- What a unit is typed as, and which is its first fault. (ISO/IEC 14882:1998, 3.5, 8.4. Own: declarations are taken in
-- order; the faults of a function's head count before those of its body.)
use Rattle.std.specs.Prelude.{◌≡◌, true, false, List, [], ◌∷◌, length, drop}
use Rattle.mm_base.specs.declared.place.Place.{Place}
use Rattle.mm_core.specs.Tree as k
use Rattle.mm_core.specs.Units.{Checked}
use Rattle.mm_syntax.specs.declared.name.Name.{Name}
use Rattle.mm_syntax.specs.declared.decl.Head.{Head}
use Rattle.mm_syntax.specs.Tree.{Function, declaration, definition, member_definition, constructor_definition, method, destructor, constructor, Decl, class_decl, function_decl, UnitTree, Stmt}
use Rattle.mm_checks.specs.Checks.{Fault, Then, First}
use Rattle.mm_unit_typing.specs.declared.here.Here.{Here}
use Rattle.mm_unit_typing.specs.Declarators.{unbuilt}
use Rattle.mm_unit_typing.specs.Scopes.{parameters_from}
use Rattle.mm_unit_typing.specs.Made.{Made, block_of}
use Rattle.mm_unit_typing.specs.Statements.{StmtTypes, StmtFaults}
use Rattle.mm_unit_typing.specs.Functions.{Heading, HeadTypes, HeadFault, with_function, with_body, number_of, seen}

-- ---- bodies

-- a body stands in the scope of the function's parameters, and sees the function itself
abbrev pub body_here : Head → Heading → Here
body_here x h = record { outer = 0; in_loop = false; result = h.result }

abbrev pub BodyTypes : List k.Function → Head → Heading → Stmt → Made (List k.Stmt) → Type 0
BodyTypes fs x h body = StmtTypes (seen fs) (body_here x h) (parameters_from 0 x.params.list) h.params body

abbrev pub BodyFaults : List k.Function → Head → Heading → Stmt → Fault → Type 0
BodyFaults fs x h body = StmtFaults (seen fs) (body_here x h) (parameters_from 0 x.params.list) h.params body

-- the locals that are no parameters are the variables
abbrev pub defined : List k.Function → Name → Heading → Made (List k.Stmt) → List k.Function
defined fs name h body = with_body fs (number_of fs name.text h.params) (drop (length h.params) body.locals) (block_of body.tree)

-- ---- declarations

-- after the functions `fs`: those and the one that is declared
abbrev pub FunctionTypes : List k.Function → Function → List k.Function → Type 0
FunctionTypes fs (declaration p x) = Then (HeadTypes fs false x) λ h v. with_function fs x.name h ≡ v
FunctionTypes fs (definition p x body) =
    Then (HeadTypes fs true x) λ h.
    Then (BodyTypes (with_function fs x.name h) x h body) λ b v.
    defined (with_function fs x.name h) x.name h b ≡ v
FunctionTypes fs other = λ v. ⊥

abbrev pub place_of : Function → Place
place_of (declaration p x) = p
place_of (definition p x body) = p
place_of (member_definition p class x body) = p
place_of (constructor_definition p class word params body) = p
place_of (method p virtual_at x body) = p
place_of (destructor p virtual_at word has_void) = p
place_of (constructor p word params body) = p

abbrev pub FunctionFaults : List k.Function → Function → Fault → Type 0
FunctionFaults fs (declaration p x) = HeadFault fs false x
FunctionFaults fs (definition p x body) =
    First (HeadTypes fs true x) (HeadFault fs true x) λ h.
    BodyFaults (with_function fs x.name h) x h body
FunctionFaults fs other = λ f. unbuilt (place_of other) ≡ f

-- classes are not built yet
abbrev pub DeclTypes : List k.Function → Decl → List k.Function → Type 0
DeclTypes fs (function_decl p x) = FunctionTypes fs x
DeclTypes fs (class_decl p x) = λ v. ⊥

abbrev pub DeclFaults : List k.Function → Decl → Fault → Type 0
DeclFaults fs (function_decl p x) = FunctionFaults fs x
DeclFaults fs (class_decl p x) = λ f. unbuilt p ≡ f

abbrev pub DeclsType : List k.Function → List Decl → List k.Function → Type 0
DeclsType fs [] = λ v. fs ≡ v
DeclsType fs (x ∷ xs) = Then (DeclTypes fs x) λ next. DeclsType next xs

abbrev pub DeclsFault : List k.Function → List Decl → Fault → Type 0
DeclsFault fs [] = λ f. ⊥
DeclsFault fs (x ∷ xs) = First (DeclTypes fs x) (DeclFaults fs x) λ next. DeclsFault next xs

-- ---- units

-- a unit without classes, of these functions
abbrev pub unit_of : UnitTree → List k.Function → Checked
unit_of u fs = record { files = u.files; bytes = u.bytes; program = record { classes = []; functions = fs }; marks = [] }

abbrev pub UnitTypes : UnitTree → Checked → Type 0
UnitTypes u = Then (DeclsType [] u.decls) λ fs v. unit_of u fs ≡ v

abbrev pub UnitFaults : UnitTree → Fault → Type 0
UnitFaults u = DeclsFault [] u.decls
