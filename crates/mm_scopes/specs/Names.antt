-- What a name means. ISO/IEC 14882:1998, 3.3.2 (local scope), 3.3.7 (name hiding), 3.4.1 (unqualified name lookup).
use Rattle.std.specs.Prelude.{◌≡◌, List, [], ◌∷◌, ◌++◌, ℕ, filter, Option, Some, None, if◌then◌else◌}
use Rattle.std.specs.Str.{bytes_eq}
use Rattle.mm_classes.specs.declared.class.Ty.{Ty}
use Rattle.mm_scopes.specs.declared.head.Var.{Var}
use Rattle.mm_scopes.specs.declared.head.FnHead.{FnHead}

-- ---- variables

-- no variable of the list has the name
abbrev pub IsFree : List Var → List ℕ → Type 0
IsFree vs x = (before after : List Var) (v : Var) → vs ≡ before ++ v ∷ after → v.name ≡ x → ⊥

-- The innermost variable of the name: it hides those of its name further out, and none further in has its name (3.3.7/1).
pub record Means (vs : List Var) (x : List ℕ) (v : Var) : Type 0 where
  pub outer : List Var
  pub inner : List Var
  pub stands : vs ≡ outer ++ v ∷ inner
  pub name : v.name ≡ x
  pub hides : IsFree inner x

-- the same as a function
abbrev pub or_else : Option Var → Option Var → Option Var
or_else (Some v) other = Some v
or_else None other = other

abbrev pub lookup : List Var → List ℕ → Option Var
lookup [] x = None
lookup (v ∷ vs) x = or_else (lookup vs x) (if bytes_eq v.name x then Some v else None)

-- ---- functions

-- the functions of the name, in the order of their declarations
abbrev pub named : List ℕ → List FnHead → List FnHead
named x fs = filter (λ f. bytes_eq f.name x) fs

abbrev pub params_of : FnHead → List Ty
params_of f = f.params

-- a variable of this name and type, and its number
abbrev pub var : List ℕ → Ty → ℕ → Var
var x type local = record { name = x; ty = type; local = local }
