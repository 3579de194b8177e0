-- Functions, classes and units: their expressions are short, their bodies don't nest deeper than their rules, and they have
-- no more names than tokens.
use Rattle.std.proofs.Common.{ℕ, ◌+◌, ◌≤◌, List, length, Option, Some, None, arith}
use Rattle.mm_base.specs.declared.place.Place.{Place}
use Rattle.mm_token.specs.declared.token.Token.{Token}
use Rattle.mm_syntax.specs.declared.name.Name.{Name}
use Rattle.mm_syntax.specs.declared.name.DeclaratorMark.{DeclaratorMark}
use Rattle.mm_syntax.specs.declared.expr.TypeName.{TypeName}
use Rattle.mm_syntax.specs.declared.stmt.Stmt.{Stmt}
use Rattle.mm_syntax.specs.declared.decl.Param.{Param}
use Rattle.mm_syntax.specs.declared.decl.Params.{Params}
use Rattle.mm_syntax.specs.declared.decl.Head.{Head}
use Rattle.mm_syntax.specs.declared.decl.Init.{Init}
use Rattle.mm_syntax.specs.declared.decl.ConstructorBody.{ConstructorBody}
use Rattle.mm_syntax.specs.declared.decl.FnDeclKind.TheVariants as f
use Rattle.mm_syntax.specs.declared.part.ParamEnd.{ParamEnd}
use Rattle.mm_syntax.specs.declared.part.Declared.{Declared}
use Rattle.mm_syntax.specs.declared.part.FunctionEnd.{FunctionEnd}
use Rattle.mm_syntax.specs.declared.part.FunctionEnd.TheVariants as end_of
use Rattle.mm_syntax.specs.declared.part.AfterClass.{AfterClass}
use Rattle.mm_syntax.specs.declared.part.AfterClass.TheVariants as after_class
use Rattle.mm_syntax.specs.declared.part.ClassBody.{ClassBody}
use Rattle.mm_syntax.specs.declared.part.MemberEnd.{MemberEnd}
use Rattle.mm_syntax.specs.declared.part.MemberEnd.TheVariants as member_is
use Rattle.mm_syntax.specs.declared.part.AfterVirtual.{AfterVirtual}
use Rattle.mm_syntax.specs.declared.part.AfterVirtual.TheVariants as virtual_is
use Rattle.mm_syntax.specs.declared.part.AfterMemberClass.{AfterMemberClass}
use Rattle.mm_syntax.specs.declared.part.AfterMemberClass.TheVariants as class_is
use Rattle.mm_syntax.specs.Built as b
use Rattle.mm_syntax.specs.BuiltDeclarations as bd
use Rattle.mm_syntax.specs.Limits.{variables_of, member_functions, member_count}
use Rattle.mm_syntax.specs.Rules.{unit, decl, item, params, param, inits, init, block, type_name, rule_of, parameters, param_end, void_end, other_param, more_params, after_void, some_params, function_body, function_end, after_type, constructor_body, after_class_name, base, bases, class_body, method_end, next_field, member_end, member_tail, method_tail, destructor, after_virtual, constructor_tail, after_member_class}
use Rattle.mm_parse_unit.proofs.BoundsWeights.{Free, total, Every, maybe_weight, MaybeGood, GoodStmt, GoodInit, kind_weight, GoodKind, fn_weight, GoodFn, member_weight, GoodMember, decl_weight, GoodDecl, weight, Good}
use Rattle.mm_parse_unit.proofs.BoundsLists.{every_flat, sum_total, total_flat, total_both}
use Rattle.mm_parse_unit.proofs.BoundsParts.{Costs, one_token, rule, both, gives, after, before, either, maybe, several, free, less, whole}
use Rattle.mm_parse_unit.proofs.BoundsExpr.{call_costs, scope_costs}
use Rattle.mm_parse_unit.proofs.BoundsStmt.{items_costs, void_costs, number_costs, class_costs, mark_costs}

-- ---- parameters

param_end_costs : Costs param_end (λ v. 0) Free
param_end_costs = gives (both (maybe mark_costs) (maybe one_token)) (λ w. omega arith) (λ w h. tt)

void_end_costs : Costs void_end (λ v. 0) Free
void_end_costs = either (gives (both mark_costs (maybe one_token)) (λ w. omega arith) (λ w h. tt)) (gives one_token (λ w. omega arith) (λ w h. tt))

other_costs : Costs other_param (λ v. 1) Free
other_costs = either
    (gives (both one_token (both (rule type_name) param_end_costs)) (λ w. omega arith) (λ w h. tt))
    (gives (both (either number_costs class_costs) param_end_costs) (λ w. omega arith) (λ w h. tt))

more_costs : Costs more_params length Free
more_costs = less (items_costs (less (after one_token (rule param)) (λ w. omega arith) (λ w h. h))) (λ w. omega arith) (λ w h. tt)

pub param_costs : Costs (rule_of param) (weight param) (Good param)
param_costs = either (gives (both void_costs void_end_costs) (λ w. omega arith) (λ w h. tt)) other_costs

abbrev rest_weight : Option (ParamEnd × List Param) → ℕ
rest_weight v = maybe_weight (λ x. length x.1) v

after_void_costs : Costs after_void rest_weight Free
after_void_costs = less (maybe (both void_end_costs more_costs)) rest (λ w h. tt)
  where
    rest : (v : Option (ParamEnd × List Param)) → rest_weight v ≤ maybe_weight (λ x. 0 + length x.1) v
    rest None = omega arith
    rest (Some v) = omega arith

void_weight : (t : TypeName) (v : Option (ParamEnd × List Param)) → length (bd.after_void t v).list ≤ 1 + rest_weight v
void_weight t None = omega arith
void_weight t (Some v) = omega arith

some_costs : Costs some_params (λ v. length v.list) Free
some_costs = either
    (gives (both void_costs after_void_costs) (λ w. void_weight w.0 w.1) (λ w h. tt))
    (gives (both other_costs more_costs) (λ w. omega arith) (λ w h. tt))

given_weight : (v : Option Params) → length (bd.given_params v).list ≤ maybe_weight (λ x. length x.list) v
given_weight None = omega arith
given_weight (Some v) = omega arith

pub params_costs : Costs (rule_of params) (weight params) (Good params)
params_costs = gives (maybe some_costs) given_weight (λ w h. tt)

parameters_costs : Costs parameters (λ v. length v.list) Free
parameters_costs = less (after one_token (before (rule params) one_token)) (λ w. omega arith) (λ w h. tt)

-- ---- functions outside classes

abbrev body_weight : Option Stmt → ℕ
body_weight x = maybe_weight variables_of x

function_body_costs : (n : ℕ) → Costs (function_body n) body_weight (MaybeGood (GoodStmt n))
function_body_costs n = either (gives one_token (λ t. omega arith) (λ t h. tt)) (gives (rule (block n)) (λ w. omega arith) (λ w h. h))

abbrev end_weight : FunctionEnd → ℕ
end_weight (end_of.Plain word v body) = length v.list + body_weight body
end_weight (end_of.Member class word v body) = length v.list + variables_of body

abbrev GoodEnd : ℕ → FunctionEnd → Type 0
GoodEnd n (end_of.Plain word v body) = MaybeGood (GoodStmt n) body
GoodEnd n (end_of.Member class word v body) = GoodStmt n body

function_end_costs : (n : ℕ) → Costs (function_end n) end_weight (GoodEnd n)
function_end_costs n = either
    (gives (both one_token (both parameters_costs (function_body_costs n))) (λ w. omega arith) (λ w h. h.1.1))
    (gives (both scope_costs (both one_token (both parameters_costs (rule (block n))))) (λ w. omega arith) (λ w h. h.1.1.1))

after_type_costs : (n : ℕ) → Costs (after_type n) (λ v. end_weight v.end) (λ v. GoodEnd n v.end)
after_type_costs n = gives (both (maybe mark_costs) (function_end_costs n)) (λ w. omega arith) (λ w h. h.1)

kind_at : (t : TypeName) (m : Option DeclaratorMark) (v : FunctionEnd) → kind_weight (bd.function_kind t m v) ≤ end_weight v
kind_at t m (end_of.Plain word v None) = omega arith
kind_at t m (end_of.Plain word v (Some body)) = omega arith
kind_at t m (end_of.Member class word v body) = omega arith

kind_good : (n : ℕ) (t : TypeName) (m : Option DeclaratorMark) (v : FunctionEnd) → GoodEnd n v → GoodKind n (bd.function_kind t m v)
kind_good n t m (end_of.Plain word v None) h = (tt, tt)
kind_good n t m (end_of.Plain word v (Some body)) h = (tt, (h, tt))
kind_good n t m (end_of.Member class word v body) h = (tt, (h, tt))

-- ---- constructors

pub init_costs : Costs (rule_of init) (weight init) (Good init)
init_costs = gives (both one_token call_costs) (λ w. omega arith) (λ w h. h.1)

pub inits_costs : Costs (rule_of inits) (weight inits) (Good inits)
inits_costs = gives (after one_token (both (rule init) (several (after one_token (rule init))))) (λ w. omega arith) (λ w h. h)

abbrev constructor_weight : ConstructorBody → ℕ
constructor_weight v = variables_of v.block

abbrev GoodBody : ℕ → ConstructorBody → Type 0
GoodBody n v = Every GoodInit v.inits × GoodStmt n v.block

listed_good : (v : Option (List Init)) → MaybeGood (Every GoodInit) v → Every GoodInit (b.listed v)
listed_good None h = tt
listed_good (Some v) h = h

constructor_body_costs : (n : ℕ) → Costs (constructor_body n) constructor_weight (GoodBody n)
constructor_body_costs n = gives (both (maybe (rule inits)) (rule (block n))) (λ w. omega arith) (λ w h. (listed_good w.0 h.0, h.1))

abbrev after_weight : AfterClass → ℕ
after_weight (after_class.Type v) = end_weight v.end
after_weight (after_class.Constructor word v body) = length v.list + constructor_weight body

abbrev GoodAfter : ℕ → AfterClass → Type 0
GoodAfter n (after_class.Type v) = GoodEnd n v.end
GoodAfter n (after_class.Constructor word v body) = GoodBody n body

after_class_costs : (n : ℕ) → Costs (after_class_name n) after_weight (GoodAfter n)
after_class_costs n = either
    (gives (after_type_costs n) (λ w. omega arith) (λ w h. h))
    (gives (after one_token (both one_token (both parameters_costs (constructor_body_costs n)))) (λ w. omega arith) (λ w h. h.1.1))

-- ---- declarations of functions

typed_weight : (t : TypeName) (v : Declared) → decl_weight (bd.typed t v) ≤ 1 + end_weight v.end
typed_weight t v = omega (arith, kind_at t v.mark v.end)

typed_good : (n : ℕ) (t : TypeName) (v : Declared) → GoodEnd n v.end → GoodDecl n (bd.typed t v)
typed_good n t v h = (kind_good n t v.mark v.end h, tt)

after_at : (class : Token) (v : AfterClass) → decl_weight (bd.after class v) ≤ 1 + after_weight v
after_at class (after_class.Type v) = typed_weight (b.class_type class) v
after_at class (after_class.Constructor word v body) = omega arith

after_good : (n : ℕ) (class : Token) (v : AfterClass) → GoodAfter n v → GoodDecl n (bd.after class v)
after_good n class (after_class.Type v) h = typed_good n (b.class_type class) v h
after_good n class (after_class.Constructor word v body) h = ((h.0, (h.1, tt)), tt)

-- ---- members

method_end_costs : (n : ℕ) → Costs (method_end n) (λ v. length v.0.list + body_weight v.1) (λ v. MaybeGood (GoodStmt n) v.1)
method_end_costs n = less (both {g = body_weight} {H = MaybeGood (GoodStmt n)} parameters_costs (either (gives one_token (λ t. omega arith) (λ t h. tt)) (gives (before (rule (block n)) (free (maybe one_token))) (λ w. omega arith) (λ w h. h)))) (λ w. omega arith) (λ w h. h.1)

field_costs : Costs next_field (λ v. 1) Free
field_costs = gives (after one_token (both (maybe mark_costs) one_token)) (λ w. omega arith) (λ w h. tt)

abbrev member_end_weight : MemberEnd → ℕ
member_end_weight (member_is.Function v body) = length v.list + body_weight body
member_end_weight (member_is.Fields v) = length v

abbrev GoodMemberEnd : ℕ → MemberEnd → Type 0
GoodMemberEnd n (member_is.Function v body) = MaybeGood (GoodStmt n) body
GoodMemberEnd n (member_is.Fields v) = Unit {0}

member_end_costs : (n : ℕ) → Costs (member_end n) member_end_weight (GoodMemberEnd n)
member_end_costs n = either
    (gives (method_end_costs n) (λ w. omega arith) (λ w h. h))
    (gives (before (items_costs field_costs) one_token) (λ w. omega arith) (λ w h. tt))

member_tail_costs : (n : ℕ) → Costs (member_tail n) (λ v. 1 + member_end_weight v.end) (λ v. GoodMemberEnd n v.end)
member_tail_costs n = gives (both (maybe mark_costs) (both one_token (member_end_costs n))) (λ w. omega arith) (λ w h. h.1.1)

method_tail_costs : (n : ℕ) → Costs (method_tail n) (λ v. length v.params.list + body_weight v.body) (λ v. MaybeGood (GoodStmt n) v.body)
method_tail_costs n = gives (both (maybe mark_costs) (both one_token (method_end_costs n))) (λ w. omega arith) (λ w h. h.1.1)

destructor_costs : Costs destructor (λ v. 1) Free
destructor_costs = gives (both one_token (both one_token (after one_token (before (before (before (before (maybe one_token) one_token) one_token) one_token) (free (maybe one_token)))))) (λ w. omega arith) (λ w h. tt)

abbrev virtual_weight : AfterVirtual → ℕ
virtual_weight (virtual_is.Destructor v) = 0
virtual_weight (virtual_is.Method t v) = length v.params.list + body_weight v.body

abbrev GoodVirtual : ℕ → AfterVirtual → Type 0
GoodVirtual n (virtual_is.Destructor v) = Unit {0}
GoodVirtual n (virtual_is.Method t v) = MaybeGood (GoodStmt n) v.body

after_virtual_costs : (n : ℕ) → Costs (after_virtual n) virtual_weight (GoodVirtual n)
after_virtual_costs n = either
    (gives destructor_costs (λ w. omega arith) (λ w h. tt))
    (gives (both (rule type_name) (method_tail_costs n)) (λ w. omega arith) (λ w h. h.1))

constructor_tail_costs : (n : ℕ) → Costs (constructor_tail n) (λ v. length v.params.list + maybe_weight constructor_weight v.body) (λ v. MaybeGood (GoodBody n) v.body)
constructor_tail_costs n = gives (both {g = maybe_weight constructor_weight} {H = MaybeGood (GoodBody n)} parameters_costs (either (gives one_token (λ t. omega arith) (λ t h. tt)) (gives (before (constructor_body_costs n) (free (maybe one_token))) (λ w. omega arith) (λ w h. h)))) (λ w. omega arith) (λ w h. h.1)

abbrev class_member_weight : AfterMemberClass → ℕ
class_member_weight (class_is.Type v) = member_end_weight v.end
class_member_weight (class_is.Constructor v) = length v.params.list + maybe_weight constructor_weight v.body

abbrev GoodClassMember : ℕ → AfterMemberClass → Type 0
GoodClassMember n (class_is.Type v) = GoodMemberEnd n v.end
GoodClassMember n (class_is.Constructor v) = MaybeGood (GoodBody n) v.body

class_member_costs : (n : ℕ) → Costs (after_member_class n) class_member_weight (GoodClassMember n)
class_member_costs n = either
    (gives (member_tail_costs n) (λ w. omega arith) (λ w h. h))
    (gives (constructor_tail_costs n) (λ w. omega arith) (λ w h. h))

method_weight : (at : Option Place) (h : Head) (body : Option Stmt) → kind_weight (f.Method at h body) ≤ length h.params.list + body_weight body
method_weight at h None = omega arith
method_weight at h (Some body) = omega arith

method_good : (n : ℕ) (at : Option Place) (h : Head) (body : Option Stmt) → MaybeGood (GoodStmt n) body → GoodKind n (f.Method at h body)
method_good n at h None i = (tt, tt)
method_good n at h (Some body) i = (tt, (i, tt))

constructor_at : (word : Name) (v : Params) (body : Option ConstructorBody) → kind_weight (f.Constructor word v body) ≤ length v.list + maybe_weight constructor_weight body
constructor_at word v None = omega arith
constructor_at word v (Some body) = omega arith

constructor_good : (n : ℕ) (word : Name) (v : Params) (body : Option ConstructorBody) → MaybeGood (GoodBody n) body → GoodKind n (f.Constructor word v body)
constructor_good n word v None h = (tt, tt)
constructor_good n word v (Some body) h = (h.0, (h.1, tt))

typed_end_weight : (t : TypeName) (m : Option DeclaratorMark) (word : Name) (v : MemberEnd) → member_weight (bd.typed_end t m word v) ≤ 1 + member_end_weight v
typed_end_weight t m word (member_is.Function v body) = omega (arith, method_weight None (bd.head t m word v) body)
typed_end_weight t m word (member_is.Fields v) = omega arith

typed_end_good : (n : ℕ) (t : TypeName) (m : Option DeclaratorMark) (word : Name) (v : MemberEnd) → GoodMemberEnd n v → GoodMember n (bd.typed_end t m word v)
typed_end_good n t m word (member_is.Function v body) h = (method_good n None (bd.head t m word v) body h, tt)
typed_end_good n t m word (member_is.Fields v) h = tt

class_member_at : (class : Token) (v : AfterMemberClass) → member_weight (bd.after_in_class class v) ≤ 1 + class_member_weight v
class_member_at class (class_is.Type v) = typed_end_weight (b.class_type class) v.mark v.name v.end
class_member_at class (class_is.Constructor v) = omega (arith, constructor_at (b.name_of class) v.params v.body)

class_member_good : (n : ℕ) (class : Token) (v : AfterMemberClass) → GoodClassMember n v → GoodMember n (bd.after_in_class class v)
class_member_good n class (class_is.Type v) h = typed_end_good n (b.class_type class) v.mark v.name v.end h
class_member_good n class (class_is.Constructor v) h = (constructor_good n (b.name_of class) v.params v.body h, tt)

virtual_at : (word : Token) (v : AfterVirtual) → member_weight (bd.virtual_member word v) ≤ 1 + virtual_weight v
virtual_at word (virtual_is.Destructor v) = omega arith
virtual_at word (virtual_is.Method t v) = omega (arith, method_weight (Some word.place) (bd.head t v.mark v.name v.params) v.body)

virtual_good : (n : ℕ) (word : Token) (v : AfterVirtual) → GoodVirtual n v → GoodMember n (bd.virtual_member word v)
virtual_good n word (virtual_is.Destructor v) h = ((tt, tt), tt)
virtual_good n word (virtual_is.Method t v) h = (method_good n (Some word.place) (bd.head t v.mark v.name v.params) v.body h, tt)

pub item_costs : (n : ℕ) → Costs (rule_of (item n)) (weight (item n)) (Good (item n))
item_costs n = either
    (gives (before one_token one_token) (λ t. omega arith) (λ t h. tt))
    (either
    (gives (both one_token (after_virtual_costs n)) (λ w. virtual_at w.0 w.1) (λ w h. virtual_good n w.0 w.1 h.1))
    (either
    (gives destructor_costs (λ w. omega arith) (λ w h. ((tt, tt), tt)))
    (either
    (gives (both (either void_costs number_costs) (member_tail_costs n)) (λ w. omega (arith, typed_end_weight w.0 w.1.mark w.1.name w.1.end)) (λ w h. typed_end_good n w.0 w.1.mark w.1.name w.1.end h.1))
    (gives (both one_token (class_member_costs n)) (λ w. class_member_at w.0 w.1) (λ w h. class_member_good n w.0 w.1 h.1)))))

-- ---- classes

base_costs : Costs base (λ v. 0) Free
base_costs = either
    (gives one_token (λ w. omega arith) (λ w h. tt))
    (either
    (gives (both one_token (both (maybe one_token) one_token)) (λ w. omega arith) (λ w h. tt))
    (gives (both one_token (both (maybe one_token) one_token)) (λ w. omega arith) (λ w h. tt)))

bases_costs : Costs bases (λ v. 0) Free
bases_costs = gives (after one_token (both base_costs (several (after one_token base_costs)))) (λ w. omega arith) (λ w h. tt)

class_body_costs : (n : ℕ) → Costs (class_body n) (λ v. total member_weight v.members) (λ v. Every (GoodMember n) v.members)
class_body_costs n = gives (both (maybe bases_costs) (after one_token (before (several (rule (item n))) one_token))) (λ w. omega arith) (λ w h. h.1)

class_at : (tokens : List Token) (word class : Token) (body : Option ClassBody) → decl_weight (bd.class_decl tokens word class body) ≤ 1 + maybe_weight (λ v. total member_weight v.members) body
class_at tokens word class None = omega arith
class_at tokens word class (Some v) =
    let s = sum_total member_count v.members in
    let f = total_flat fn_weight member_functions v.members in
    let t = total_both member_count (λ x. total fn_weight (member_functions x)) v.members in
    omega (arith, s, f, t)

class_good : (n : ℕ) (tokens : List Token) (word class : Token) (body : Option ClassBody) → MaybeGood (λ v. Every (GoodMember n) v.members) body → GoodDecl n (bd.class_decl tokens word class body)
class_good n tokens word class None h = tt
class_good n tokens word class (Some v) h = every_flat (GoodFn n) member_functions v.members h

-- ---- units

pub decl_costs : (n : ℕ) → Costs (rule_of (decl n)) (weight (decl n)) (Good (decl n))
decl_costs n = either
    (gives (before (whole (both one_token (both one_token (maybe (class_body_costs n))))) one_token)
    (λ w. omega (arith, class_at w.0 w.1.0 w.1.1.0 w.1.1.1))
    (λ w h. class_good n w.0 w.1.0 w.1.1.0 w.1.1.1 h.1.1))
    (either
    (gives (both (either void_costs number_costs) (after_type_costs n)) (λ w. typed_weight w.0 w.1) (λ w h. typed_good n w.0 w.1 h.1))
    (gives (both one_token (after_class_costs n)) (λ w. after_at w.0 w.1) (λ w h. after_good n w.0 w.1 h.1)))

pub unit_costs : (n : ℕ) → Costs (rule_of (unit n)) (weight (unit n)) (Good (unit n))
unit_costs n = several (rule (decl n))
