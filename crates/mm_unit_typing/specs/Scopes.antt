-- Scopes, and the locals that declarations make. (ISO/IEC 14882:1998, 3.3.1, 3.3.2, 6.4, 6.5 and 6.7.)
--
-- The variables that are seen stand in one list, the innermost last; a scope is what stands in it behind a number of
-- outer ones. Locals are numbered: the parameters, then the variables in the order of their declarations.
use Rattle.std.specs.Prelude.{ℕ, ◌+◌, Bool, true, not, is_some, List, [], ◌∷◌, ◌++◌, length, drop, Option, Some, None}
use Rattle.mm_classes.specs.declared.class.Ty.{Ty}
use Rattle.mm_classes.specs.declared.class.Ty.TheVariants as ty
use Rattle.mm_syntax.specs.declared.name.Name.{Name}
use Rattle.mm_syntax.specs.declared.decl.Param.{Param}
use Rattle.mm_syntax.specs.declared.expr.TypeName.{TypeName}
use Rattle.mm_syntax.specs.Tree as t
use Rattle.mm_scopes.specs.declared.head.Var.{Var}
use Rattle.mm_scopes.specs.Environment.{Environment}
use Rattle.mm_scopes.specs.Names.{lookup}
use Rattle.mm_unit_typing.specs.declared.here.Here.{Here}
use Rattle.mm_unit_typing.specs.Declarators.{scalar_of}

-- ---- scopes

-- what is seen with these variables
abbrev pub inside : Environment → List Var → Environment
inside env vs = record env { vars = vs }

-- in the scope that stands here the name means no variable
abbrev pub is_new : ℕ → List Var → List ℕ → Bool
is_new outer vs text = not (is_some (lookup (drop outer vs) text))

-- a scope inside, in which nothing is declared yet
abbrev pub within : Here → List Var → Here
within here vs = record here { outer = length vs }

-- a scope inside, the body of a loop
abbrev pub turn_within : Here → List Var → Here
turn_within here vs = record here { outer = length vs; in_loop = true }

-- ---- variables

abbrev pub variable : List ℕ → Ty → ℕ → Var
variable text type n = record { name = text; ty = type; local = n }

abbrev pub type_or_void : Option Ty → Ty
type_or_void None = ty.Void
type_or_void (Some type) = type

-- the type of a declaration that is typed
abbrev pub type_named : TypeName → Ty
type_named x = type_or_void (scalar_of x.kind)

-- the variables of a declaration, of which the first is the local of this number
abbrev pub variables_from : Ty → ℕ → List t.Declarator → List Var
variables_from type n [] = []
variables_from type n (x ∷ xs) = variable x.name.text type n ∷ variables_from type (n + 1) xs

abbrev pub declared_by : ℕ → t.Variables → List Var
declared_by n v = variables_from (type_named v.type_name) n v.names

-- those that a statement adds for the statements behind it
abbrev pub declared : ℕ → t.Stmt → List Var
declared n (t.declare p v) = declared_by n v
declared n other = []

-- those that the first part of a `for` adds for the rest of it
abbrev pub started : ℕ → t.Start → List Var
started n (t.start_variables v) = declared_by n v
started n other = []

-- what is seen behind a statement, and in the rest of a `for` that begins so
abbrev pub behind : List Var → List Ty → t.Stmt → List Var
behind vs locals s = vs ++ declared (length locals) s

abbrev pub behind_start : List Var → List Ty → t.Start → List Var
behind_start vs locals first = vs ++ started (length locals) first

-- a parameter without a name is a local that nothing names
abbrev pub parameter_named : Option Name → Ty → ℕ → List Var
parameter_named None type n = []
parameter_named (Some name) type n = variable name.text type n ∷ []

abbrev pub parameter : ℕ → Param → List Var
parameter n q = parameter_named q.name (type_named q.type_name) n

-- the variables of parameters, of which the first is the local of this number
abbrev pub parameters_from : ℕ → List Param → List Var
parameters_from n [] = []
parameters_from n (q ∷ qs) = parameter n q ++ parameters_from (n + 1) qs
