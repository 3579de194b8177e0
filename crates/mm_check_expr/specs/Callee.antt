-- Which candidates the answer about a called name stands for. Own.
use Rattle.std.specs.Prelude.{ℕ, List, [], ◌∷◌, map, Option, Some, None}
use Rattle.mm_syntax.specs.Tree as t
use Rattle.mm_scopes.specs.Environment.{Environment}
use Rattle.mm_scopes.specs.Names.{named}
use Rattle.mm_typing.specs.Calls.{Candidate, function, builtin}
use Rattle.mm_check_expr.specs.declared.calls.Callee.{Callee}
use Rattle.mm_check_expr.specs.declared.calls.Callee.TheVariants as callee

-- the name that an expression is
abbrev pub name_in : t.Expr → List ℕ
name_in (t.name p x) = x
name_in other = []

abbrev pub callee_view : Environment → List ℕ → Callee → Option (List Candidate)
callee_view env x callee.NoFunction = None
callee_view env x (callee.Builtin b) = Some (builtin b ∷ [])
callee_view env x callee.Main = Some []
callee_view env x callee.Functions = Some (map function (named x env.functions))
