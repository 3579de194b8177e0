-- What the loop over parameters keeps.
use Rattle.std.proofs.Common.{◌≡◌, ℕ, ◌+◌, ◌<◌, ◌≤◌, List, [], ◌∷◌, ◌++◌, length, get_or, drop, refl, sym, ap, ◌∙◌, append_assoc, append-nil}
use Rattle.std.specs.Prelude.{Ok, Err, Option, Some, None}
use Rattle.std.proofs.lemmas.List.{length-append, drop_more, drop_all}
use Rattle.mm_classes.specs.declared.class.Ty.{Ty}
use Rattle.mm_syntax.specs.declared.expr.TypeName.{TypeName}
use Rattle.mm_syntax.specs.declared.decl.Param.{Param}
use Rattle.mm_checks.specs.declared.CheckEnd.{CheckEnd}
use Rattle.mm_checks.specs.declared.CheckEnd.TheVariants as ends
use Rattle.mm_checks.specs.Checks.{Fault, Checked, ◌>>=◌, at, Fails}
use Rattle.mm_scopes.specs.declared.head.Var.{Var}
use Rattle.mm_scopes.specs.Environment.{Environment}
use Rattle.mm_unit_typing.specs.Declarators.{scalar_of}
use Rattle.mm_unit_typing.specs.Scopes.{inside, type_named, parameter, parameters_from}
use Rattle.mm_unit_typing.specs.Judge.{built, judge_type}
use Rattle.mm_unit_typing.specs.JudgeUnit.{ordinary, may_be_parameter, judge_param, judge_params}
use Rattle.mm_check_function.specs.Params.{added}

-- with types before them
abbrev pub after : List Ty → Checked (List Ty) → Checked (List Ty)
after front check = check >>= λ ts. Ok (front ++ ts)

after-none : (check : Checked (List Ty)) → after [] check ≡ check
after-none (Ok ts) = refl
after-none (Err f) = refl

after-one : (front : List Ty) (t : Ty) (check : Checked (List Ty)) → after front (check >>= λ ts. Ok (t ∷ ts)) ≡ after (front ++ t ∷ []) check
after-one front t (Ok ts) = ap (λ us. Ok us) (sym (append_assoc front (t ∷ []) ts))
after-one front t (Err f) = refl

-- the type that a typed parameter has is the one that its name says
named_as : (x : TypeName) (t : Ty) → judge_type x ≡ Ok t → type_named x ≡ t
named_as x t e = by (scalar_of x.kind) e where
  by : (o : Option Ty) → built x.place o ≡ Ok t → Rattle.mm_unit_typing.specs.Scopes.type_or_void o ≡ t
  by None e = absurd (cc)
  by (Some u) e = cc

pub param_type : (vs : List Var) (q : Param) (t : Ty) → judge_param vs q ≡ Ok t → type_named q.type_name ≡ t
unfolding judge_param
param_type vs q t e = by_virtual (ordinary q.virtual_at) e where
  by_rest : (u : Ty) (r : Checked (Unit {0})) → (r >>= λ w. Ok u) ≡ Ok t → u ≡ t
  by_rest u (Ok w) e = cc
  by_rest u (Err f) e = absurd (cc)

  by_type : (r : Checked Ty) → judge_type q.type_name ≡ r → (r >>= λ u. may_be_parameter vs u q.mark q.type_name q.name >>= λ w. Ok u) ≡ Ok t → type_named q.type_name ≡ t
  by_type (Ok u) n e = named_as q.type_name u n ∙ by_rest u (may_be_parameter vs u q.mark q.type_name q.name) e
  by_type (Err f) n e = absurd (cc)

  by_virtual : (r : Checked (Unit {0})) → (r >>= λ u. judge_type q.type_name >>= λ v. may_be_parameter vs v q.mark q.type_name q.name >>= λ w. Ok v) ≡ Ok t → type_named q.type_name ≡ t
  by_virtual (Ok u) e = by_type (judge_type q.type_name) refl e
  by_virtual (Err f) e = absurd (cc)

added_is : (front more : List Ty) (check : Checked Ty) → added front check ≡ Ok more → (t : Ty) × (check ≡ Ok t) × (more ≡ front ++ t ∷ [])
added_is front more (Ok t) e = (t, refl, cc)
added_is front more (Err f) e = absurd (cc)

added_fails : (front : List Ty) (f : Fault) (check : Checked Ty) → added front check ≡ Err f → check ≡ Err f
added_fails front f (Ok t) e = absurd (cc)
added_fails front f (Err g) e = cc

pub record ParamsSoFar (old : Environment) (qs : List Param) (i : ℕ) (env : Environment) (types : List Ty) : Type 0 where
  pub whole : after types (judge_params (length types) env.vars (drop i qs)) ≡ judge_params 0 old.vars qs
  pub vars : env.vars ++ parameters_from (length types) (drop i qs) ≡ old.vars ++ parameters_from 0 qs
  pub keeps : env ≡ inside old env.vars

pub params_start : (old : Environment) (qs : List Param) → ParamsSoFar old qs 0 old []
params_start old qs = record { whole = after-none _; vars = refl; keeps = refl }

module _ (old : Environment) (qs : List Param) (i : ℕ) (env : Environment) (types : List Ty) (q : Param) (is : q ≡ get_or qs i q) (low : i < length qs) (h : ParamsSoFar old qs i env types) where
  next : drop i qs ≡ q ∷ drop (i + 1) qs
  next = drop_more qs i q low ∙ ap (λ y. y ∷ drop (i + 1) qs) (sym is)

  next_one : (env' : Environment) (t : Ty) (more : List Ty) → env' ≡ inside env (env.vars ++ parameter (length types) q) → judge_param env.vars q ≡ Ok t → more ≡ types ++ t ∷ [] → ParamsSoFar old qs (i + 1) env' more
  unfolding judge_params
  next_one env' t more e found m = rw (e, m) (record {
    whole = rw length-append (sym (after-one types t _) ∙ rw (next, found) at h.whole);
    vars = rw length-append (append_assoc env.vars (parameter (length types) q) _ ∙ rw next at h.vars);
    keeps = ap (λ e. inside e (env.vars ++ parameter (length types) q)) h.keeps;
  })

  pub params_next : (env' : Environment) (more : List Ty) → env' ≡ inside env (env.vars ++ parameter (length types) q) → added types (judge_param env.vars q) ≡ Ok more → ParamsSoFar old qs (i + 1) env' more
  params_next env' more e found = let a = added_is types more (judge_param env.vars q) found in next_one env' a.0 more e a.1 a.2

  params_fail : (f : Fault) → judge_param env.vars q ≡ Err f → judge_params 0 old.vars qs ≡ Err f
  unfolding judge_params
  params_fail f found = sym (rw (next, found) at h.whole)

  pub params_fail_as : (end : CheckEnd) → Fails end (added types (judge_param env.vars q)) → Fails end (judge_params 0 old.vars qs)
  params_fail_as ends.NoMemory f = tt
  params_fail_as (ends.Fault code place text) f = params_fail (at code place text) (added_fails types _ (judge_param env.vars q) f)

module _ (old : Environment) (qs : List Param) (i : ℕ) (env : Environment) (types : List Ty) (past : length qs ≤ i) (h : ParamsSoFar old qs i env types) where
  pub params_end : judge_params 0 old.vars qs ≡ Ok types
  unfolding judge_params
  params_end = sym (rw (drop_all i qs past) at h.whole) ∙ ap (λ s. Ok s) (append-nil types)

  pub params_vars : env ≡ inside old (old.vars ++ parameters_from 0 qs)
  params_vars = h.keeps ∙ ap (λ vs. inside old vs) (sym (append-nil env.vars) ∙ rw (drop_all i qs past) at h.vars)
