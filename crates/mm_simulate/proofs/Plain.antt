-- In a program without classes every valid tree is one of scalars.
use Rattle.std.proofs.Common.{◌≡◌, ℕ, zero, suc, ◌<◌, List, [], ◌∷◌, ◌++◌, length, refl, sym, ap, ◌∙◌, subst, arith}
use Rattle.std.specs.Prelude.{Bool, true, false, IsTrue, Option, Some, None, slice_get, if◌then◌else◌}
use Rattle.std.specs.List.{list_any}
use Rattle.mm_base.specs.declared.world.Builtin.{Builtin}
use Rattle.mm_base.specs.declared.world.Builtin.TheVariants.{Put, Get, More}
use Rattle.mm_classes.specs.declared.class.Ty.{Ty}
use Rattle.mm_classes.specs.declared.class.Ty.TheVariants as ty
use Rattle.mm_classes.specs.Lists.{Has, first, later}
use Rattle.mm_classes.specs.Classes.{Class, IsComplete}
use Rattle.mm_core.specs.declared.part.CoreParam.{CoreParam}
use Rattle.mm_core.specs.declared.part.Target.{Target}
use Rattle.mm_core.specs.declared.part.Target.TheVariants as to
use Rattle.mm_core.specs.Tree.{Expr, int, unsigned, bool, null, local, set_local, field, set_field, not_null, move, convert, binary, negation, both, either, choose, call, virtual_call, open_call, builtin, new, step_local, step_field, compound, Exprs, no_exprs, expr_and, Stmt, block, run, if_else, while_do, do_while, for_do, break, continue, return_nothing, return, make, Stmts, no_stmts, stmt_and, Function, Program}
use Rattle.mm_core.specs.Heads.{class_in, type_at, is_open, this_of, owner_of, types_of_params, argument_types, local_types}
use Rattle.mm_core.specs.Valid.{Around, is_pointer, as_pointer, type_of_target, type_answered, compares, result_of_function, type_of, IsValid, AreValid, IsValidStmt, AreValidStmts, sets}
use Rattle.mm_core.specs.ValidProgram.{around, IsType, IsValidFunction, BodyFits, numbers_below}
use Rattle.mm_simulate.specs.Lowered.{is_defined, IsLowered, AreLowered, IsLoweredStmt, AreLoweredStmts}

-- no pointer stands where these trees do, and no open-method
pub record IsBare (a : Around) : Type 0 where
  pub classes : a.classes ≡ []
  pub locals : (x : ℕ) → is_pointer (type_at a.locals x) ≡ false
  pub closed : (n : ℕ) (f : Function) → slice_get a.functions n ≡ Some f → is_open f ≡ false
  pub results : (n : ℕ) (f : Function) → slice_get a.functions n ≡ Some f → is_pointer f.result ≡ false

none_complete : (g : List Class) (c : ℕ) → g ≡ [] → IsComplete g c → ⊥
none_complete g c e h = let z = subst (λ g. IsComplete g c) e h in let l = z.0 in omega arith

no_target : (t : Target) → is_pointer (type_of_target t) ≡ false
no_target to.Bool = refl
no_target to.Int = refl
no_target to.Unsigned = refl

no_answer : (b : Builtin) → is_pointer (type_answered b) ≡ false
no_answer Put = refl
no_answer Get = refl
no_answer More = refl

pointer_same : (t : Ty) → is_pointer (as_pointer t) ≡ is_pointer t
pointer_same ty.Void = refl
pointer_same ty.Bool = refl
pointer_same ty.Int = refl
pointer_same ty.Unsigned = refl
pointer_same (ty.Ptr c) = refl
pointer_same (ty.Ref c) = refl

one_branch : (b : Bool) (t : Ty) → is_pointer t ≡ false → is_pointer (if b then t else as_pointer t) ≡ false
one_branch true t e = e
one_branch false t e = pointer_same t ∙ e

one_result : (b : Bool) (t : Ty) → is_pointer t ≡ false → is_pointer (if b then ty.Bool else t) ≡ false
one_result true t e = refl
one_result false t e = e

no_reference : (t : Ty) (c : ℕ) → is_pointer t ≡ false → t ≡ ty.Ref c → ⊥
no_reference t c e h = let z : false ≡ true = sym e ∙ ap is_pointer h in cc

no_null : (t : Ty) (c : ℕ) → is_pointer t ≡ false → t ≡ ty.Ptr c → ⊥
no_null t c e h = let z : false ≡ true = sym e ∙ ap is_pointer h in cc

no_class : (t : Ty) (c : ℕ) → is_pointer t ≡ false → class_in t ≡ Some c → ⊥
no_class ty.Void c e h = cc
no_class ty.Bool c e h = cc
no_class ty.Int c e h = cc
no_class ty.Unsigned c e h = cc
no_class (ty.Ptr d) c e h = cc
no_class (ty.Ref d) c e h = cc

module _ (a : Around) (bare : IsBare a) (known : List ℕ) where
  mutual
    pub plain_expr : (e : Expr) → IsValid a known e → IsLowered a e × (is_pointer (type_of a e) ≡ false)
    plain_expr (int z) v = (tt, refl)
    plain_expr (unsigned n) v = (tt, refl)
    plain_expr (bool b) v = (tt, refl)
    plain_expr (null c) v = absurd (let z : c < length {A = Class} [] = subst (λ (g : List Class). c < length g) bare.classes v in let y : ⊥ = omega arith in y)
    plain_expr (local x) v = (tt, bare.locals x)
    plain_expr (set_local x e) v = ((plain_expr e v.2).0, bare.locals x)
    plain_expr (field f e) v = absurd (no_reference (type_of a e) v.0.0 (plain_expr e v.1).1 v.0.1.0)
    plain_expr (set_field f e d) v = absurd (no_reference (type_of a e) v.0.0 (plain_expr e v.2).1 v.0.1.0)
    plain_expr (not_null e) v = absurd (no_null (type_of a e) v.0 (plain_expr e v.3).1 v.1)
    plain_expr (move c n e) v = absurd (no_class (type_of a e) c (plain_expr e v.4).1 v.0)
    plain_expr (convert t e) v = ((plain_expr e v.1).0, no_target t)
    plain_expr (binary op d e) v = let l = plain_expr d v.1 in ((l.1, l.0, (plain_expr e v.2).0), one_result (compares op) (type_of a d) l.1)
    plain_expr (negation e) v = ((plain_expr e v.1).0, refl)
    plain_expr (both d e) v = (((plain_expr d v.2).0, (plain_expr e v.3).0), refl)
    plain_expr (either d e) v = (((plain_expr d v.2).0, (plain_expr e v.3).0), refl)
    plain_expr (choose c d e) v = let l = plain_expr d v.3 in (((plain_expr c v.2).0, l.0, (plain_expr e v.4).0), one_branch _ (type_of a d) l.1)
    plain_expr (call f es) v = (plain_exprs es v.1, ap (λ o. is_pointer (result_of_function o)) v.0.1 ∙ bare.results f v.0.0 v.0.1)
    plain_expr (virtual_call m e es) v = absurd (no_reference (type_of a e) v.0 (plain_expr e v.5).1 v.2.0)
    plain_expr (open_call f es) v = absurd (let z : true ≡ false = sym v.0.2 ∙ bare.closed f v.0.0 v.0.1 in let y : ⊥ = cc in y)
    plain_expr (builtin b es) v = (plain_exprs es v.1, no_answer b)
    plain_expr (new c) v = absurd (none_complete a.classes c bare.classes v)
    plain_expr (step_local x c) v = (tt, bare.locals x)
    plain_expr (step_field f c e) v = absurd (no_reference (type_of a e) v.0.0 (plain_expr e v.2).1 v.0.1.0)
    plain_expr (compound op f e d) v = absurd (no_reference (type_of a e) v.1.0 (plain_expr e v.4).1 v.1.1.0)

    pub plain_exprs : (es : Exprs) → AreValid a known es → AreLowered a es
    plain_exprs no_exprs v = tt
    plain_exprs (expr_and e es) v = ((plain_expr e v.0).0, plain_exprs es v.1)

module _ (a : Around) (bare : IsBare a) (result : Ty) where
  mutual
    pub plain_stmt : (s : Stmt) (in_loop : Bool) (known : List ℕ) → IsValidStmt a result in_loop known s → IsLoweredStmt a s
    plain_stmt (block ss) in_loop known v = plain_stmts ss in_loop known v
    plain_stmt (run e) in_loop known v = (plain_expr a bare known e v).0
    plain_stmt (if_else e ss ts) in_loop known v = ((plain_expr a bare known e v.0.1).0, plain_stmts ss in_loop known v.1, plain_stmts ts in_loop known v.2)
    plain_stmt (while_do e ss) in_loop known v = ((plain_expr a bare known e v.0.1).0, plain_stmts ss true known v.1)
    plain_stmt (do_while ss e) in_loop known v = (plain_stmts ss true known v.0, (plain_expr a bare known e v.1.1).0)
    plain_stmt (for_do e s ss) in_loop known v = ((plain_expr a bare known e v.0.1).0, plain_stmt s true known v.2, plain_stmts ss true known v.3)
    plain_stmt break in_loop known v = tt
    plain_stmt continue in_loop known v = tt
    plain_stmt return_nothing in_loop known v = tt
    plain_stmt (return e) in_loop known v = (plain_expr a bare known e v.1).0
    plain_stmt (make x) in_loop known v = absurd (no_reference (type_at a.locals x) v.2.0 (bare.locals x) v.2.1.0)

    pub plain_stmts : (ss : Stmts) (in_loop : Bool) (known : List ℕ) → AreValidStmts a result in_loop known ss → AreLoweredStmts a ss
    plain_stmts no_stmts in_loop known v = tt
    plain_stmts (stmt_and s ss) in_loop known v = (plain_stmt s in_loop known v.0, plain_stmts ss in_loop (sets s ++ known) v.1)

-- ---- programs

-- a type that is declared among no classes
plain_type : (g : List Class) (t : Ty) → g ≡ [] → IsType g t → is_pointer t ≡ false
plain_type g ty.Void e h = refl
plain_type g ty.Bool e h = refl
plain_type g ty.Int e h = refl
plain_type g ty.Unsigned e h = refl
plain_type g (ty.Ptr c) e h = absurd (let z : c < length {A = Class} [] = subst (λ (g : List Class). c < length g) e h in let y : ⊥ = omega arith in y)
plain_type g (ty.Ref c) e h = absurd (let z : c < length {A = Class} [] = subst (λ (g : List Class). c < length g) e h in let y : ⊥ = omega arith in y)

abbrev ArePlain : List Ty → Type 0
ArePlain [] = Unit {0}
ArePlain (t ∷ ts) = (is_pointer t ≡ false) × ArePlain ts

plain_append : (ts us : List Ty) → ArePlain ts → ArePlain us → ArePlain (ts ++ us)
plain_append [] us h k = k
plain_append (t ∷ ts) us h k = (h.0, plain_append ts us h.1 k)

plain_list : (ts : List Ty) → ((t : Ty) → Has ts t → is_pointer t ≡ false) → ArePlain ts
plain_list [] h = tt
plain_list (t ∷ ts) h = (h t (first refl), plain_list ts (λ u k. h u (later k)))

plain_params : (qs : List CoreParam) → ((x : CoreParam) → Has qs x → is_pointer x.ty ≡ false) → ArePlain (types_of_params qs)
plain_params [] h = tt
plain_params (x ∷ qs) h = (h x (first refl), plain_params qs (λ y k. h y (later k)))

plain_at : (ts : List Ty) (x : ℕ) → ArePlain ts → is_pointer (type_at ts x) ≡ false
plain_at [] x h = refl
plain_at (t ∷ ts) zero h = h.0
plain_at (t ∷ ts) (suc x) h = plain_at ts x h.1

plain_this : (b : Bool) (g : List Class) (f : Function) → g ≡ [] → ArePlain (if b then this_of (owner_of g f) else [])
plain_this true g f e = subst (λ g. ArePlain (this_of (owner_of g f))) (sym e) tt
plain_this false g f e = tt

-- a virtual parameter is a pointer
plain_closed : (qs : List CoreParam) → ((x : CoreParam) → Has qs x → x.is_virtual ≡ false) → list_any (λ (q : CoreParam). q.is_virtual) qs ≡ false
plain_closed [] h = refl
plain_closed (x ∷ qs) h = rw (h x (first refl)) (plain_closed qs (λ y k. h y (later k)))

module _ (p : Program) (empty : p.classes ≡ []) (valid : (i : ℕ) (f : Function) → slice_get p.functions i ≡ Some f → IsValidFunction is_defined p f) where
  pub closed : (i : ℕ) (f : Function) → slice_get p.functions i ≡ Some f → is_open f ≡ false
  closed i f e = plain_closed f.params (λ x h. let w = (valid i f e).params x h in never x.is_virtual x.ty w.1 (plain_type p.classes x.ty empty w.0.0))
    where
      never : (b : Bool) (t : Ty) {A B : Type 0} → (IsTrue b → IsTrue (is_pointer t) × A × B) → is_pointer t ≡ false → b ≡ false
      never true t h e = absurd (let z = (h refl).0 in let y : true ≡ false = sym z ∙ e in let w : ⊥ = cc in w)
      never false t h e = refl

  locals_plain : (i : ℕ) (f : Function) → slice_get p.functions i ≡ Some f → ArePlain (local_types p.classes f)
  locals_plain i f e =
      let v = valid i f e in
      plain_append (argument_types p.classes f) f.locals
      (plain_append (if f.member then this_of (owner_of p.classes f) else []) (types_of_params f.params) (plain_this f.member p.classes f empty) (plain_params f.params (λ x h. plain_type p.classes x.ty empty (v.params x h).0.0)))
      (plain_list f.locals (λ t h. plain_type p.classes t empty (v.locals t h).0))

  bare_at : (i : ℕ) (f : Function) → slice_get p.functions i ≡ Some f → IsBare (around is_defined p f)
  bare_at i f e = record {
    classes = empty;
    locals = λ x. plain_at (local_types p.classes f) x (locals_plain i f e);
    closed = closed;
    results = λ n h k. plain_type p.classes h.result empty (valid n h k).result;
  }

  pub trees : (i : ℕ) (f : Function) (b : Stmt) → slice_get p.functions i ≡ Some f → f.body ≡ Some b → IsLoweredStmt (around is_defined p f) b
  trees i f b e h = at f.defined f.body h (valid i f e).body
    where
      at : (d : Bool) (o : Option Stmt) → o ≡ Some b → BodyFits (around is_defined p f) f.result d o → IsLoweredStmt (around is_defined p f) b
      at true (Some (block ss)) is v = let same : block ss ≡ b = cc in subst (λ s. IsLoweredStmt (around is_defined p f) s) same (plain_stmts (around is_defined p f) (bare_at i f e) f.result ss false (numbers_below (length (argument_types p.classes f))) v)
      at true (Some s) is v = absurd v
      at true None is v = absurd v
      at false (Some s) is v = absurd v
      at false None is v = cc
