-- How large the checked tree of a typed expression is.
use Rattle.std.proofs.Common.{◌≡◌, ℕ, ◌+◌, ◌*◌, ◌≤◌, List, [], ◌∷◌, refl, subst, arith}
use Rattle.std.specs.Prelude.{Bool, true, false, if◌then◌else◌, Option, Some, None, nat_eq}
use Rattle.std.specs.List.{list_any}
use Rattle.mm_base.specs.Num.{to_int}
use Rattle.mm_classes.specs.declared.class.Ty.{Ty}
use Rattle.mm_classes.specs.declared.class.Ty.TheVariants as ty
use Rattle.mm_core.specs.declared.part.Operator.{Operator}
use Rattle.mm_core.specs.declared.part.Operator.TheVariants as op
use Rattle.mm_core.specs.Heads.{same_type}
use Rattle.mm_core.specs.Tree as k
use Rattle.mm_core.specs.View.{exprs_of}
use Rattle.mm_core.specs.Sizes.{depth, all_depth}
use Rattle.mm_simulate.specs.Lowered.{nesting, nesting_all, reach, reach_all}
use Rattle.mm_scopes.specs.Environment.{Environment}
use Rattle.mm_scopes.specs.declared.head.FnHead.{FnHead}
use Rattle.mm_syntax.specs.declared.name.Number.{Number}
use Rattle.mm_syntax.specs.declared.name.UnaryOperator.{UnaryOperator}
use Rattle.mm_syntax.specs.declared.name.UnaryOperator.TheVariants as unary
use Rattle.mm_syntax.specs.Numbers.{is_unsigned}
use Rattle.mm_syntax.specs.Tree as t
use Rattle.mm_typing.specs.declared.typed.Kind.TheVariants as kind
use Rattle.mm_typing.specs.declared.typed.Operation.{Operation}
use Rattle.mm_typing.specs.declared.typed.Operation.TheVariants as operation
use Rattle.mm_typing.specs.declared.typed.Assignment.{Assignment}
use Rattle.mm_typing.specs.declared.typed.Assignment.TheVariants as assignment
use Rattle.mm_typing.specs.Typed.{Typed, typed, number_typed}
use Rattle.mm_typing.specs.Conversions.{common, joined, convert_to, converted, converted_all}
use Rattle.mm_typing.specs.Operators.{operation_of, assignment_of, change_of, operated, promoted, zero_of, one, set, changed}
use Rattle.mm_typing.specs.Calls.{Candidate, function, builtin, params_in, call_in, function_call}
use Rattle.mm_typing.specs.Typing.{UnaryTypes, OperationTypes, AssignTypes, Changes, CallTypes, Types, AreTyped}
use Rattle.mm_typing_bounds.specs.Sizes.{size, sizes}
use Rattle.mm_typing_bounds.specs.Bounded.{IsBounded, TypedIsBounded}

pub some : (e : t.Expr) → 1 ≤ size e
some (t.number p n) = omega arith
some (t.boolean p b) = omega arith
some (t.this p) = omega arith
some (t.name p x) = omega arith
some (t.scoped p class word) = omega arith
some (t.cast p class d) = omega arith
some (t.unary p o d) = omega arith
some (t.step p d o at) = omega arith
some (t.binary p d o at f) = omega arith
some (t.choose p c at d f) = omega arith
some (t.assign p d o at f) = omega arith
some (t.new p class) = omega arith
some (t.make p class es) = omega arith
some (t.call p e es) = omega arith
some (t.member p d o at class word) = omega arith

-- a conversion is one level
pub record IsWithin (n : ℕ) (e : k.Expr) : Type 0 where
  pub deep : depth e ≤ 3 * n + 1
  pub nested : nesting e ≤ n
  pub few : reach e ≤ n + 3

leaf : (e : k.Expr) → depth e ≡ 1 → nesting e ≡ 0 → reach e ≤ 2 → IsBounded 1 e
leaf e d n r = record { deep = omega arith; nested = omega arith; few = omega arith }

itself : (n : ℕ) (e : k.Expr) → IsBounded n e → IsWithin n e
itself n e h = record { deep = (let d = h.deep in omega arith); nested = h.nested; few = h.few }

convert_within : (n : ℕ) (to : Ty) (e : k.Expr) → IsBounded n e → IsWithin n (convert_to to e)
convert_within n ty.Bool e h = record { deep = (let d = h.deep in omega arith); nested = h.nested; few = h.few }
convert_within n ty.Int e h = record { deep = (let d = h.deep in omega arith); nested = h.nested; few = h.few }
convert_within n ty.Unsigned e h = record { deep = (let d = h.deep in omega arith); nested = h.nested; few = h.few }
convert_within n ty.Void e h = itself n e h
convert_within n (ty.Ptr c) e h = itself n e h
convert_within n (ty.Ref c) e h = itself n e h

pub converted_within : (n : ℕ) (to : Ty) (x : Typed) → IsBounded n x.core → IsWithin n (converted to x)
converted_within n to x h = by (same_type x.ty to) where
  by : (b : Bool) → IsWithin n (if b then x.core else convert_to to x.core)
  by true = itself n x.core h
  by false = convert_within n to x.core h

-- ---- nodes

module _ (m n : ℕ) (d e : k.Expr) (h : IsWithin m d) (i : IsWithin n e) where
  binary_bounded : (o : Operator) (l : ℕ) → m + n + 1 ≤ l → IsBounded l (k.binary o d e)
  binary_bounded o l le = record {
    deep = (let a = h.deep in let b = i.deep in omega arith);
    nested = (let a = h.nested in let b = i.nested in omega arith);
    few = (let a = h.few in let b = i.few in omega arith);
  }

  both_bounded : IsBounded (1 + m + n) (k.both d e)
  both_bounded = record {
    deep = (let a = h.deep in let b = i.deep in omega arith);
    nested = (let a = h.nested in let b = i.nested in omega arith);
    few = (let a = h.few in let b = i.few in omega arith);
  }

  either_bounded : IsBounded (1 + m + n) (k.either d e)
  either_bounded = record {
    deep = (let a = h.deep in let b = i.deep in omega arith);
    nested = (let a = h.nested in let b = i.nested in omega arith);
    few = (let a = h.few in let b = i.few in omega arith);
  }

  choose_bounded : (l : ℕ) (c : k.Expr) → IsWithin l c → IsBounded (1 + l + m + n) (k.choose c d e)
  choose_bounded l c j = record {
    deep = (let a = h.deep in let b = i.deep in let f = j.deep in omega arith);
    nested = (let a = h.nested in let b = i.nested in let f = j.nested in omega arith);
    few = (let a = h.few in let b = i.few in let f = j.few in omega arith);
  }

negation_bounded : (n : ℕ) (e : k.Expr) → IsWithin n e → IsBounded (1 + n) (k.negation e)
negation_bounded n e h = record { deep = (let d = h.deep in omega arith); nested = (let d = h.nested in omega arith); few = (let d = h.few in omega arith) }

set_bounded : (n : ℕ) (l : ℕ) (e : k.Expr) → IsWithin n e → IsBounded (1 + n) (k.set_local l e)
set_bounded n l e h = record { deep = (let d = h.deep in omega arith); nested = (let d = h.nested in omega arith); few = (let d = h.few in omega arith) }

plus_bounded : (n : ℕ) (e : k.Expr) → IsWithin n e → IsBounded (1 + n) e
plus_bounded n e h = record { deep = (let d = h.deep in omega arith); nested = (let d = h.nested in omega arith); few = (let d = h.few in omega arith) }

local_bounded : (l : ℕ) → IsBounded 1 (k.local l)
local_bounded l = leaf (k.local l) refl refl (omega arith)

operated_bounded : (o : Operator) (m n : ℕ) (x y : Typed) → IsBounded m x.core → IsBounded n y.core → IsBounded (m + n + 1) (operated o x y).core
operated_bounded o m n x y h i = binary_bounded m n (converted (common x.ty y.ty) x) (converted (common x.ty y.ty) y) (converted_within m (common x.ty y.ty) x h) (converted_within n (common x.ty y.ty) y i) o (m + n + 1) (omega arith)

-- a changed variable: the conversion of the result, the operator, and the conversions of its operands
record IsInner (n : ℕ) (e : k.Expr) : Type 0 where
  deep : depth e ≤ 3 * n + 3
  nested : nesting e ≤ n + 1
  few : reach e ≤ n + 5

inner : (o : Operator) (n : ℕ) (d e : k.Expr) → 1 ≤ n → IsWithin 1 d → IsWithin n e → IsInner n (k.binary o d e)
inner o n d e le h i = record {
  deep = (let a = h.deep in let b = i.deep in omega arith);
  nested = (let a = h.nested in let b = i.nested in omega arith);
  few = (let a = h.few in let b = i.few in omega arith);
}

set_inner : (n l : ℕ) (e : k.Expr) → IsInner n e → IsBounded (2 + n) (k.set_local l e)
set_inner n l e h = record { deep = (let d = h.deep in omega arith); nested = (let d = h.nested in omega arith); few = (let d = h.few in omega arith) }

set_converted : (n l : ℕ) (to : Ty) (e : k.Expr) → IsInner n e → IsBounded (2 + n) (k.set_local l (convert_to to e))
set_converted n l ty.Bool e h = record { deep = (let d = h.deep in omega arith); nested = (let d = h.nested in omega arith); few = (let d = h.few in omega arith) }
set_converted n l ty.Int e h = record { deep = (let d = h.deep in omega arith); nested = (let d = h.nested in omega arith); few = (let d = h.few in omega arith) }
set_converted n l ty.Unsigned e h = record { deep = (let d = h.deep in omega arith); nested = (let d = h.nested in omega arith); few = (let d = h.few in omega arith) }
set_converted n l ty.Void e h = set_inner n l e h
set_converted n l (ty.Ptr c) e h = set_inner n l e h
set_converted n l (ty.Ref c) e h = set_inner n l e h

changed_with : (o : Operator) (n : ℕ) (l : ℕ) (to : Ty) (y : Typed) → IsInner n (operated o (typed (k.local l) to) y).core → IsBounded (2 + n) (changed o l to y).core
changed_with o n l to y i = by (same_type (operated o (typed (k.local l) to) y).ty to) where
  by : (b : Bool) → IsBounded (2 + n) (k.set_local l (if b then (operated o (typed (k.local l) to) y).core else convert_to to (operated o (typed (k.local l) to) y).core))
  by true = set_inner n l (operated o (typed (k.local l) to) y).core i
  by false = set_converted n l to (operated o (typed (k.local l) to) y).core i

changed_bounded : (o : Operator) (n : ℕ) (l : ℕ) (to : Ty) (y : Typed) → 1 ≤ n → IsBounded n y.core → IsBounded (2 + n) (changed o l to y).core
changed_bounded o n l to y le h = changed_with o n l to y
    (inner o n (converted (common to y.ty) (typed (k.local l) to)) (converted (common to y.ty) y) le (converted_within 1 (common to y.ty) (typed (k.local l) to) (local_bounded l)) (converted_within n (common to y.ty) y h))

larger : (m n : ℕ) (e : k.Expr) → m ≤ n → IsBounded m e → IsBounded n e
larger m n e le h = record { deep = (let d = h.deep in omega arith); nested = (let d = h.nested in omega arith); few = (let d = h.few in omega arith) }

abbrev B : ℕ → Typed → Type 0
B n v = IsBounded n v.core

changes : (o : Operator) (m n : ℕ) (x y v : Typed) → 1 ≤ m → 1 ≤ n → Changes o x y v → IsBounded n y.core → IsBounded (1 + m + n) v.core
changes o m n x y v lm ln h i = subst (B (1 + m + n)) h.2.2 (larger (2 + n) (1 + m + n) (changed o h.0 x.ty y).core (omega arith) (changed_bounded o n h.0 x.ty y ln i))

one_bounded : IsBounded 1 one.core
one_bounded = leaf one.core refl refl (omega arith)

zero_bounded : (u : Ty) → IsBounded 1 (zero_of u)
zero_bounded ty.Void = leaf (zero_of ty.Void) refl refl (omega arith)
zero_bounded ty.Bool = leaf (zero_of ty.Bool) refl refl (omega arith)
zero_bounded ty.Int = leaf (zero_of ty.Int) refl refl (omega arith)
zero_bounded ty.Unsigned = leaf (zero_of ty.Unsigned) refl refl (omega arith)
zero_bounded (ty.Ptr c) = leaf (zero_of (ty.Ptr c)) refl refl (omega arith)
zero_bounded (ty.Ref c) = leaf (zero_of (ty.Ref c)) refl refl (omega arith)

-- the operator over a leaf and a conversion
minus_bounded : (n : ℕ) (d e : k.Expr) → 1 ≤ n → IsWithin 1 d → IsWithin n e → IsBounded (1 + n) (k.binary op.Subtract d e)
minus_bounded n d e le h i = record {
  deep = (let a = h.deep in let b = i.deep in omega arith);
  nested = (let a = h.nested in let b = i.nested in omega arith);
  few = (let a = h.few in let b = i.few in omega arith);
}

-- a leaf, or the conversion of one
record IsLow (e : k.Expr) : Type 0 where
  deep : depth e ≤ 2
  nested : nesting e ≡ 0
  few : reach e ≤ 2

low_convert : (to : Ty) (e : k.Expr) → depth e ≡ 1 → nesting e ≡ 0 → reach e ≤ 2 → IsLow (convert_to to e)
low_convert ty.Bool e d n r = record { deep = omega arith; nested = n; few = r }
low_convert ty.Int e d n r = record { deep = omega arith; nested = n; few = r }
low_convert ty.Unsigned e d n r = record { deep = omega arith; nested = n; few = r }
low_convert ty.Void e d n r = record { deep = omega arith; nested = n; few = r }
low_convert (ty.Ptr c) e d n r = record { deep = omega arith; nested = n; few = r }
low_convert (ty.Ref c) e d n r = record { deep = omega arith; nested = n; few = r }

low_converted : (to : Ty) (x : Typed) → depth x.core ≡ 1 → nesting x.core ≡ 0 → reach x.core ≤ 2 → IsLow (converted to x)
low_converted to x d n r = by (same_type x.ty to) where
  by : (b : Bool) → IsLow (if b then x.core else convert_to to x.core)
  by true = record { deep = omega arith; nested = n; few = r }
  by false = low_convert to x.core d n r

low_inner : (o : Operator) (d e : k.Expr) → IsLow d → IsLow e → IsInner 0 (k.binary o d e)
low_inner o d e h i = record {
  deep = (let a = h.deep in let b = i.deep in omega arith);
  nested = (let a = h.nested in let b = i.nested in omega arith);
  few = (let a = h.few in let b = i.few in omega arith);
}

step_bounded : (o : Operator) (n : ℕ) (l : ℕ) (to : Ty) → 1 ≤ n → IsBounded (1 + n) (changed o l to one).core
step_bounded o n l to le = larger 2 (1 + n) (changed o l to one).core (omega arith) (changed_with o 0 l to one
    (low_inner o (converted (common to one.ty) (typed (k.local l) to)) (converted (common to one.ty) one) (low_converted (common to one.ty) (typed (k.local l) to) refl refl (omega arith)) (low_converted (common to one.ty) one refl refl (omega arith))))

unary_bounded : (o : UnaryOperator) (n : ℕ) (x v : Typed) → 1 ≤ n → UnaryTypes o x v → IsBounded n x.core → IsBounded (1 + n) v.core
unary_bounded unary.Plus n x v le h i = subst (B (1 + n)) h.2 (plus_bounded n (converted (promoted x.ty) x) (converted_within n (promoted x.ty) x i))
unary_bounded unary.Minus n x v le h i = subst (B (1 + n)) h.2
    (minus_bounded n (converted (common (promoted x.ty) x.ty) (typed (zero_of (promoted x.ty)) (promoted x.ty))) (converted (common (promoted x.ty) x.ty) x) le
    (converted_within 1 (common (promoted x.ty) x.ty) (typed (zero_of (promoted x.ty)) (promoted x.ty)) (zero_bounded (promoted x.ty)))
    (converted_within n (common (promoted x.ty) x.ty) x i))
unary_bounded unary.Not n x v le h i = subst (B (1 + n)) h.2 (negation_bounded n (converted ty.Bool x) (converted_within n ty.Bool x i))
unary_bounded unary.Indirection n x v le h i = absurd h
unary_bounded unary.AddressOf n x v le h i = absurd h
unary_bounded unary.Increment n x v le h i = subst (B (1 + n)) h.2.2 (step_bounded op.Add n h.0 x.ty le)
unary_bounded unary.Decrement n x v le h i = subst (B (1 + n)) h.2.2 (step_bounded op.Subtract n h.0 x.ty le)

operation_bounded : (o : Operation) (m n : ℕ) (x y v : Typed) → OperationTypes o x y v → IsBounded m x.core → IsBounded n y.core → IsBounded (1 + m + n) v.core
operation_bounded operation.And m n x y v h i j = subst (B (1 + m + n)) h.2.2 (both_bounded m n (converted ty.Bool x) (converted ty.Bool y) (converted_within m ty.Bool x i) (converted_within n ty.Bool y j))
operation_bounded operation.Or m n x y v h i j = subst (B (1 + m + n)) h.2.2 (either_bounded m n (converted ty.Bool x) (converted ty.Bool y) (converted_within m ty.Bool x i) (converted_within n ty.Bool y j))
operation_bounded (operation.Two o) m n x y v h i j = subst (B (1 + m + n)) h.2
    (binary_bounded m n (converted (common x.ty y.ty) x) (converted (common x.ty y.ty) y) (converted_within m (common x.ty y.ty) x i) (converted_within n (common x.ty y.ty) y j) o (1 + m + n) (omega arith))

assign_bounded : (o : Assignment) (m n : ℕ) (x y v : Typed) → 1 ≤ m → 1 ≤ n → AssignTypes o x y v → IsBounded n y.core → IsBounded (1 + m + n) v.core
assign_bounded assignment.Set m n x y v lm ln h j = subst (B (1 + m + n)) h.2.2 (larger (1 + n) (1 + m + n) (set h.0 x.ty y).core (omega arith) (set_bounded n h.0 (converted x.ty y) (converted_within n x.ty y j)))
assign_bounded (assignment.Change o) m n x y v lm ln h j = changes o m n x y v lm ln h j

literal_bounded : (n : Number) → IsBounded 1 (number_typed n).core
literal_bounded n = by (is_unsigned n.text) where
  by : (u : Bool) → IsBounded 1 (if u then typed (k.unsigned n.value) ty.Unsigned else record { core = k.int (to_int n.value); ty = ty.Int; kind = if nat_eq n.value 0 then kind.Zero else kind.Value }).core
  by true = leaf (k.unsigned n.value) refl refl (omega arith)
  by false = leaf (k.int (to_int n.value)) refl refl (omega arith)

-- ---- calls

abbrev pub AllBounded : t.Exprs → List Typed → Type 0
AllBounded t.no_exprs [] = Unit {0}
AllBounded t.no_exprs (x ∷ xs) = ⊥
AllBounded (t.expr_and e es) [] = ⊥
AllBounded (t.expr_and e es) (x ∷ xs) = IsBounded (size e) x.core × AllBounded es xs

args_bounded : (ps : List Ty) (es : t.Exprs) (xs : List Typed) → AllBounded es xs → (all_depth (exprs_of (converted_all ps xs)) ≤ 3 * sizes es + 1) × (nesting_all (exprs_of (converted_all ps xs)) ≤ sizes es) × (reach_all (exprs_of (converted_all ps xs)) ≤ sizes es + 3)
args_bounded [] es xs h = (omega arith, omega arith, omega arith)
args_bounded (p ∷ ps) t.no_exprs [] h = (omega arith, omega arith, omega arith)
args_bounded (p ∷ ps) t.no_exprs (x ∷ xs) h = absurd h
args_bounded (p ∷ ps) (t.expr_and e es) [] h = absurd h
args_bounded (p ∷ ps) (t.expr_and e es) (x ∷ xs) h =
    let c = converted_within (size e) p x h.0 in
    let r = args_bounded ps es xs h.1 in
    let l = some e in
    ((let a = c.deep in let b = r.0 in omega arith), (let a = c.nested in let b = r.1 in omega arith), (let a = c.few in let b = r.2 in omega arith))

function_bounded : (n : ℕ) (f : FnHead) (es : List k.Expr) → (all_depth (exprs_of es) ≤ 3 * n + 1) × (nesting_all (exprs_of es) ≤ n) × (reach_all (exprs_of es) ≤ n + 3) → IsBounded (1 + n) (function_call f es)
function_bounded n f es h = by (list_any (λ v. v) f.virtuals) where
  by : (o : Bool) → IsBounded (1 + n) (if o then k.open_call f.number (exprs_of es) else k.call f.number (exprs_of es))
  by true = record { deep = (let a = h.0 in omega arith); nested = omega arith; few = omega arith }
  by false = record { deep = (let a = h.0 in omega arith); nested = (let a = h.1 in omega arith); few = (let a = h.2 in omega arith) }

call_bounded : (n : ℕ) (c : Candidate) (es : List k.Expr) → (all_depth (exprs_of es) ≤ 3 * n + 1) × (nesting_all (exprs_of es) ≤ n) × (reach_all (exprs_of es) ≤ n + 3) → IsBounded (1 + n) (call_in c es)
call_bounded n (function f) es h = function_bounded n f es h
call_bounded n (builtin b) es h = record { deep = (let a = h.0 in omega arith); nested = (let a = h.1 in omega arith); few = (let a = h.2 in omega arith) }

module _ (env : Environment) where
  calls_bounded : (m : ℕ) (es : t.Exprs) (o : Option (List Candidate)) (xs : List Typed) (v : Typed) → CallTypes env.classes o xs v → AllBounded es xs → IsBounded (1 + m + sizes es) v.core
  calls_bounded m es None xs v h a = absurd h
  calls_bounded m es (Some cs) xs v h a = subst (B (1 + m + sizes es)) h.2.1.1
      (larger (1 + sizes es) (1 + m + sizes es) (call_in h.1 (converted_all (params_in h.1) xs)) (omega arith)
      (call_bounded (sizes es) h.1 (converted_all (params_in h.1) xs) (args_bounded (params_in h.1) es xs a)))

  mutual
    pub bounded : (e : t.Expr) (v : Typed) → Types env e v → IsBounded (size e) v.core
    bounded (t.number p n) v h = subst (B 1) h (literal_bounded n)
    bounded (t.boolean p b) v h = subst (B 1) h (leaf (k.bool b) refl refl (omega arith))
    bounded (t.this p) v h = absurd h
    bounded (t.name p x) v h = subst (B 1) h.1.1 (local_bounded h.0.local)
    bounded (t.scoped p class word) v h = absurd h
    bounded (t.cast p class b) v h = absurd h
    bounded (t.unary p o b) v h = unary_bounded o (size b) h.0 v (some b) h.2 (bounded b h.0 h.1)
    bounded (t.step p b o at) v h = subst (B (1 + size b)) h.2.2.2 (larger 1 (1 + size b) (k.step_local h.2.0 (change_of o)) (omega arith) (leaf (k.step_local h.2.0 (change_of o)) refl refl (omega arith)))
    bounded (t.binary p b o at d) v h = operation_bounded (operation_of o) (size b) (size d) h.0 h.2.0 v h.2.2 (bounded b h.0 h.1) (bounded d h.2.0 h.2.1)
    bounded (t.choose p c at b d) v h =
        let x = bounded c h.0 h.1 in
        let y = bounded b h.2.0 h.2.1 in
        let z = bounded d h.2.2.0 h.2.2.1 in
        subst (B (1 + size c + size b + size d)) h.2.2.2.2.2
        (choose_bounded (size b) (size d) (converted (joined h.2.0.ty h.2.2.0.ty) h.2.0) (converted (joined h.2.0.ty h.2.2.0.ty) h.2.2.0)
        (converted_within (size b) (joined h.2.0.ty h.2.2.0.ty) h.2.0 y) (converted_within (size d) (joined h.2.0.ty h.2.2.0.ty) h.2.2.0 z)
        (size c) (converted ty.Bool h.0) (converted_within (size c) ty.Bool h.0 x))
    bounded (t.assign p b o at d) v h = assign_bounded (assignment_of o) (size b) (size d) h.0 h.2.0 v (some b) (some d) h.2.2 (bounded d h.2.0 h.2.1)
    bounded (t.new p class) v h = absurd h
    bounded (t.make p class es) v h = absurd h
    bounded (t.call p e es) v h = calls_bounded (size e) es h.0 h.2.0 v h.2.2 (all_bounded es h.2.0 h.2.1)
    bounded (t.member p b o at class word) v h = absurd h

    pub all_bounded : (es : t.Exprs) (vs : List Typed) → AreTyped env es vs → AllBounded es vs
    all_bounded t.no_exprs vs h = subst (AllBounded t.no_exprs) h tt
    all_bounded (t.expr_and e es) vs h = subst (AllBounded (t.expr_and e es)) h.2.2 (bounded e h.0 h.1, all_bounded es h.2.0 h.2.1)

pub typed_is_bounded : TypedIsBounded
typed_is_bounded env e v h = bounded env e v h
