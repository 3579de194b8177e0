-- How large the checked trees are. Own.
use Rattle.std.specs.Prelude.{◌≡◌, ℕ, ◌+◌, ◌*◌, ◌<◌, ◌≤◌, ◌^◌, Some, slice_get}
use Rattle.mm_base.specs.declared.limits.TheConstants.{MAX_TOKEN_RUN, MAX_NESTING}
use Rattle.mm_core.specs.Tree as k
use Rattle.mm_core.specs.Sizes.{depth, stmt_depth}
use Rattle.mm_core.specs.Units.{Checked}
use Rattle.mm_scopes.specs.Environment.{Environment}
use Rattle.mm_simulate.specs.Lowered.{nesting, nesting_stmt, reach, reach_stmt}
use Rattle.mm_simulate.specs.Simulates.{IsShallow}
use Rattle.mm_syntax.specs.declared.decl.Unit.{Unit as UnitInMemory}
use Rattle.mm_syntax.specs.Limits.{IsWithinLimits}
use Rattle.mm_syntax.specs.Tree as t
use Rattle.mm_syntax.specs.View.{unit_view}
use Rattle.mm_typing.specs.Typed.{Typed}
use Rattle.mm_typing.specs.Typing.{Types}
use Rattle.mm_unit_typing.specs.Units.{UnitTypes}
use Rattle.mm_typing_bounds.specs.Sizes.{size, DeclsAreSmall}

-- by the nodes of the expression: its depth in a record, the blocks that its code nests, and its
-- temporaries
pub record IsBounded (n : ℕ) (e : k.Expr) : Type 0 where
  pub deep : depth e ≤ 3 * n
  pub nested : nesting e ≤ n
  pub few : reach e ≤ n + 3

-- by the most nodes of an expression, and the most statements that stand in one another
pub record StmtIsBounded (n most : ℕ) (s : k.Stmt) : Type 0 where
  pub deep : stmt_depth s ≤ 3 * most + 3 * n + 3
  pub nested : nesting_stmt s ≤ most + n + 2
  pub few : reach_stmt s ≤ most + n + 4

abbrev pub TypedIsBounded : Type 0
TypedIsBounded = (env : Environment) (e : t.Expr) (v : Typed) → Types env e v
    → IsBounded (size e) v.core

-- so is each body of a typed unit
abbrev pub BodiesAreBounded : ℕ → ℕ → k.Program → Type 0
BodiesAreBounded n most p = (i : ℕ) (f : k.Function) (b : k.Stmt)
    → slice_get p.functions i ≡ Some f → f.body ≡ Some b
    → StmtIsBounded n (most + 1) b

abbrev pub TypedUnitIsBounded : Type 0
TypedUnitIsBounded = (n most : ℕ) (u : t.UnitTree) (c : Checked) → DeclsAreSmall n most u.decls
    → UnitTypes u c
    → BodiesAreBounded n most c.program

-- The number of each temporary that the code of a body needs is one of 32 bits, as
-- `FewTemporaries` of mm_lower says.
abbrev pub NeedsFew : k.Program → Type 0
NeedsFew p = (i : ℕ) (f : k.Function) (b : k.Stmt) → slice_get p.functions i ≡ Some f
    → f.body ≡ Some b → reach_stmt b < 2 ^ 32

-- a unit that was read keeps the limits, so what it is typed as can be lowered
abbrev pub UnitIsSmall : Type 0
UnitIsSmall = (u : UnitInMemory) → IsWithinLimits u
    → DeclsAreSmall MAX_TOKEN_RUN MAX_NESTING (unit_view u).decls

abbrev pub TypedUnitIsShallow : Type 0
TypedUnitIsShallow = (u : UnitInMemory) (c : Checked) → IsWithinLimits u
    → UnitTypes (unit_view u) c
    → IsShallow c.program × NeedsFew c.program
