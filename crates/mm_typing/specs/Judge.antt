-- The check of an expression: its parts in order, then the node itself.
use Rattle.std.specs.Prelude.{List, [], ◌∷◌, Ok, Err}
use Rattle.mm_classes.specs.declared.class.Ty.{Ty}
use Rattle.mm_classes.specs.declared.class.Ty.TheVariants as ty
use Rattle.mm_core.specs.Tree as k
use Rattle.mm_syntax.specs.Tree as t
use Rattle.mm_scopes.specs.Environment.{Environment}
use Rattle.mm_scopes.specs.Names.{lookup}
use Rattle.mm_checks.specs.Checks.{Checked, ◌>>=◌}
use Rattle.mm_typing.specs.Typed.{Typed, typed, number_typed}
use Rattle.mm_typing.specs.Conversions.{as_type}
use Rattle.mm_typing.specs.Operators.{operation_of, assignment_of, wrong_binary, wrong_assign, unbuilt, own_unary, own_step, own_operation, own_choose, own_assign}
use Rattle.mm_typing.specs.Calls.{declared, own_name, callee, own_call}

module _ (env : Environment) where
  abbrev mutual
    pub judge : t.Expr → Checked Typed
    judge (t.number p n) = Ok (number_typed n)
    judge (t.boolean p b) = Ok (typed (k.bool b) ty.Bool)
    judge (t.this p) = Err (unbuilt p)
    judge (t.name p x) = own_name p x (declared env x) (lookup env.vars x)
    judge (t.scoped p class word) = Err (unbuilt p)
    judge (t.cast p class a) = Err (unbuilt p)
    judge (t.unary p op a) = do
      x ← judge a
      own_unary op p a x
    judge (t.step p a op at) = do
      x ← judge a
      own_step op at x
    judge (t.binary p a op at b) = do
      x ← judge a
      y ← judge b
      own_operation (operation_of op) (wrong_binary op at) a b x y
    judge (t.choose p c at a b) = do
      d ← judge c
      x ← judge a
      y ← judge b
      own_choose at c d x y
    judge (t.assign p a op at b) = do
      x ← judge a
      y ← judge b
      own_assign (assignment_of op) (wrong_assign op at) b x y
    judge (t.new p class) = Err (unbuilt p)
    judge (t.make p class es) = Err (unbuilt p)
    judge (t.call p e es) = do
      cs ← callee env e (judge e)
      xs ← judge_all es
      own_call env.classes e cs xs
    judge (t.member p a op at class word) = Err (unbuilt p)

    pub judge_all : t.Exprs → Checked (List Typed)
    judge_all t.no_exprs = Ok []
    judge_all (t.expr_and e es) = do
      x ← judge e
      xs ← judge_all es
      Ok (x ∷ xs)

-- an expression that is to become a type; that of a condition is bool
abbrev pub judge_as : Environment → Ty → t.Expr → Checked k.Expr
judge_as env to e = do
  x ← judge env e
  as_type to e x
