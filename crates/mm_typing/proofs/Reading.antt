-- The check of an expression gives what the relations say: one line a node.
use Rattle.std.proofs.Common.{List, ◌∷◌}
use Rattle.std.specs.Prelude.{Option, Some, None}
use Rattle.mm_classes.specs.Classes.{Class}
use Rattle.mm_classes.specs.declared.class.Ty.{Ty}
use Rattle.mm_syntax.specs.Tree as t
use Rattle.mm_scopes.specs.Environment.{Environment}
use Rattle.mm_checks.specs.Reads.{Reads}
use Rattle.mm_checks.proofs.Combinators.{part, gives, fails, exactly_one}
use Rattle.mm_typing.specs.Typed.{Typed}
use Rattle.mm_typing.specs.Calls.{Candidate, own_call}
use Rattle.mm_typing.specs.Judge.{judge, judge_all, judge_as}
use Rattle.mm_typing.specs.Typing.{CallTypes, CallFaults, Types, AreTyped, Faults, HaveFault, TypesAs, FaultsAs, OneVerdict}
use Rattle.mm_typing.proofs.Operators.{becomes, unary_reads, step_reads, operation_reads, choose_reads, assign_reads}
use Rattle.mm_typing.proofs.Calls.{name_reads, callee_reads, some_call_reads}

call_reads : (g : List Class) (e : t.Expr) (cs : Option (List Candidate)) (xs : List Typed) → Reads (own_call g e cs xs) (CallTypes g cs xs) (CallFaults g e cs xs)
call_reads g e None xs = fails _
call_reads g e (Some cs) xs = some_call_reads g e cs xs

module _ (env : Environment) where
  mutual
    pub reads : (e : t.Expr) → Reads (judge env e) (Types env e) (Faults env e)
    reads (t.number p n) = gives _
    reads (t.boolean p b) = gives _
    reads (t.this p) = fails _
    reads (t.name p x) = name_reads env p x
    reads (t.scoped p class word) = fails _
    reads (t.cast p class a) = fails _
    reads (t.unary p op a) = part (reads a) λ x. unary_reads op p a x
    reads (t.step p a op at) = part (reads a) λ x. step_reads op at x
    reads (t.binary p a op at b) = part (reads a) λ x. part (reads b) λ y. operation_reads _ _ a b x y
    reads (t.choose p c at a b) = part (reads c) λ d. part (reads a) λ x. part (reads b) λ y. choose_reads at c d x y
    reads (t.assign p a op at b) = part (reads a) λ x. part (reads b) λ y. assign_reads _ _ b x y
    reads (t.new p class) = fails _
    reads (t.make p class es) = fails _
    reads (t.call p e es) = part (callee_reads env e _ _ _ (reads e)) λ cs. part (all_read es) λ xs. call_reads env.classes e cs xs
    reads (t.member p a op at class word) = fails _

    pub all_read : (es : t.Exprs) → Reads (judge_all env es) (AreTyped env es) (HaveFault env es)
    all_read t.no_exprs = gives _
    all_read (t.expr_and e es) = part (reads e) λ x. part (all_read es) λ xs. gives (x ∷ xs)

  pub as_reads : (to : Ty) (e : t.Expr) → Reads (judge_as env to e) (TypesAs env to e) (FaultsAs env to e)
  as_reads to e = part (reads e) λ x. becomes to e x

pub one_verdict_only : OneVerdict
one_verdict_only env e = exactly_one (judge env e) (Types env e) (Faults env e) (reads env e)
