-- The checks of operators give what their relations say.
use Rattle.std.proofs.Common.{◌≡◌, ℕ, refl, ap}
use Rattle.std.specs.Prelude.{Ok, Err}
use Rattle.mm_base.specs.declared.place.Place.{Place}
use Rattle.mm_core.specs.declared.part.Operator.{Operator}
use Rattle.mm_core.specs.declared.part.Operator.TheVariants as op
use Rattle.mm_syntax.specs.declared.name.UnaryOperator.{UnaryOperator}
use Rattle.mm_syntax.specs.declared.name.UnaryOperator.TheVariants as unary
use Rattle.mm_syntax.specs.declared.name.StepOperator.{StepOperator}
use Rattle.mm_syntax.specs.Tree as t
use Rattle.mm_checks.specs.Checks.{Fault}
use Rattle.mm_checks.specs.Reads.{Reads}
use Rattle.mm_checks.proofs.Combinators.{part, met, gives, fails}
use Rattle.mm_typing.specs.declared.typed.Kind.{Kind}
use Rattle.mm_typing.specs.declared.typed.Kind.TheVariants as kind
use Rattle.mm_typing.specs.declared.typed.Operation.{Operation}
use Rattle.mm_typing.specs.declared.typed.Operation.TheVariants as operation
use Rattle.mm_typing.specs.declared.typed.Assignment.{Assignment}
use Rattle.mm_typing.specs.declared.typed.Assignment.TheVariants as assignment
use Rattle.mm_classes.specs.declared.class.Ty.{Ty}
use Rattle.mm_typing.specs.Typed.{Typed}
use Rattle.mm_typing.specs.Conversions.{as_type, Becomes, BecomesNot}
use Rattle.mm_typing.specs.Operators.{local_in, need_some, place_in, one, own_change, own_unary, own_step, own_operation, own_choose, own_assign}
use Rattle.mm_typing.specs.Typing.{IsPlace, NoPlace, Changes, ChangesNot, UnaryTypes, UnaryFaults, StepTypes, StepFaults, OperationTypes, OperationFaults, ChooseTypes, ChooseFaults, AssignTypes, AssignFaults}

pub becomes : (to : Ty) (e : t.Expr) (x : Typed) → Reads (as_type to e x) (Becomes to x) (BecomesNot to e x)
becomes to e x = part (met _ _) λ u. gives _

-- whether an expression is a place
place_kinds : (k : Kind) (f : Fault) → Reads (need_some (local_in k) f) (λ l. k ≡ kind.Local l) (λ g. ((l : ℕ) → k ≡ kind.Local l → ⊥) × (f ≡ g))
place_kinds kind.Value f = record { is_typed = λ l e. cc; types = λ l e. cc; is_fault = λ g e. (λ l e. cc, cc); faults = λ g t. ap Err t.1 }
place_kinds kind.Zero f = record { is_typed = λ l e. cc; types = λ l e. cc; is_fault = λ g e. (λ l e. cc, cc); faults = λ g t. ap Err t.1 }
place_kinds (kind.Local l) f = record {
  is_typed = λ m e. (let same : l ≡ m = cc in ap kind.Local same);
  types = λ m e. (let same : l ≡ m = cc in ap Ok same);
  is_fault = λ g e. cc;
  faults = λ g t. absurd (t.0 l refl);
}

pub place_reads : (x : Typed) (f : Fault) → Reads (place_in x f) (IsPlace x) (NoPlace x f)
place_reads x f = place_kinds x.kind f

pub change_reads : (op : Operator) (f : Fault) (x y : Typed) → Reads (own_change op f x y) (Changes op x y) (ChangesNot f x y)
change_reads op f x y = part (place_reads x f) λ l. part (met _ _) λ u. gives _

pub unary_reads : (op : UnaryOperator) (p : Place) (a : t.Expr) (x : Typed) → Reads (own_unary op p a x) (UnaryTypes op x) (UnaryFaults op p a x)
unary_reads unary.Plus p a x = part (met _ _) λ u. gives _
unary_reads unary.Minus p a x = part (met _ _) λ u. gives _
unary_reads unary.Not p a x = part (met _ _) λ u. gives _
unary_reads unary.Indirection p a x = fails _
unary_reads unary.AddressOf p a x = fails _
unary_reads unary.Increment p a x = change_reads op.Add _ x one
unary_reads unary.Decrement p a x = change_reads op.Subtract _ x one

pub step_reads : (op : StepOperator) (p : Place) (x : Typed) → Reads (own_step op p x) (StepTypes op x) (StepFaults op p x)
step_reads op p x = part (place_reads x _) λ l. part (met _ _) λ u. gives _

pub operation_reads : (o : Operation) (f : Fault) (a b : t.Expr) (x y : Typed) → Reads (own_operation o f a b x y) (OperationTypes o x y) (OperationFaults o f a b x y)
operation_reads operation.And f a b x y = part (met _ _) λ u. part (met _ _) λ w. gives _
operation_reads operation.Or f a b x y = part (met _ _) λ u. part (met _ _) λ w. gives _
operation_reads (operation.Two op) f a b x y = part (met _ _) λ u. gives _

pub choose_reads : (p : Place) (c : t.Expr) (d x y : Typed) → Reads (own_choose p c d x y) (ChooseTypes d x y) (ChooseFaults p c d x y)
choose_reads p c d x y = part (met _ _) λ u. part (met _ _) λ w. gives _

pub assign_reads : (o : Assignment) (f : Fault) (b : t.Expr) (x y : Typed) → Reads (own_assign o f b x y) (AssignTypes o x y) (AssignFaults o f b x y)
assign_reads assignment.Set f b x y = part (place_reads x f) λ l. part (met _ _) λ u. gives _
assign_reads (assignment.Change op) f b x y = change_reads op f x y
