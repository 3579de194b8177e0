-- What the loop over arguments keeps: the check of what is left completes the whole.
use Rattle.std.proofs.Common.{◌≡◌, ℕ, ◌+◌, ◌<◌, ◌≤◌, List, [], ◌∷◌, ◌++◌, length, get_or, drop, take, map, ◌-◌, refl, sym, ap, ap₂, ◌∙◌, arith, append_assoc, append-nil}
use Rattle.std.specs.Prelude.{Ok, Err}
use Rattle.std.proofs.lemmas.List.{length-map, length-take, length-append, map-append, take_all, drop_more, drop_all, take_more}
use Rattle.mm_classes.specs.declared.class.Ty.{Ty}
use Rattle.mm_core.specs.Tree as k
use Rattle.mm_core.specs.declared.tree.CoreExpr.{CoreExpr}
use Rattle.mm_core.specs.View.{expr_view as core_view}
use Rattle.mm_syntax.specs.declared.expr.Expr.{Expr}
use Rattle.mm_syntax.specs.View.{expr_view, exprs_view}
use Rattle.mm_checks.specs.declared.CheckEnd.{CheckEnd}
use Rattle.mm_checks.specs.declared.CheckEnd.TheVariants as ends
use Rattle.mm_checks.specs.Checks.{Fault, Checked, ◌>>=◌, Fails}
use Rattle.mm_scopes.specs.Environment.{Environment}
use Rattle.mm_typing.specs.declared.typed.TypedExpr.{TypedExpr}
use Rattle.mm_typing.specs.Typed.{Typed, typed_view, typeds_view}
use Rattle.mm_typing.specs.Conversions.{converted, converted_all}
use Rattle.mm_typing.specs.Judge.{judge, judge_all}

-- with some values in front
abbrev pub after : List Typed → Checked (List Typed) → Checked (List Typed)
after front check = check >>= λ more. Ok (front ++ more)

after-none : (check : Checked (List Typed)) → after [] check ≡ check
after-none (Ok x) = refl
after-none (Err f) = refl

after-one : (front : List Typed) (x : Typed) (check : Checked (List Typed)) → after front (check >>= λ xs. Ok (x ∷ xs)) ≡ after (front ++ x ∷ []) check
after-one front x (Ok xs) = ap Ok (sym (append_assoc front (x ∷ []) xs))
after-one front x (Err f) = refl

pub record SoFar (env : Environment) (es : List Expr) (i : ℕ) (front : List Typed) : Type 0 where
  pub whole : after front (judge_all env (exprs_view (drop i es))) ≡ judge_all env (exprs_view es)

pub all_start : (env : Environment) (es : List Expr) → SoFar env es 0 []
all_start env es = record { whole = after-none (judge_all env (exprs_view es)) }

module _ (env : Environment) (es : List Expr) (i : ℕ) (front : List Typed) (e : Expr) (is : e ≡ get_or es i e) (low : i < length es) (h : SoFar env es i front) where
  next : drop i es ≡ e ∷ drop (i + 1) es
  next = drop_more es i e low ∙ ap (λ x. x ∷ drop (i + 1) es) (sym is)

  pub all_next : (x : Typed) → judge env (expr_view e) ≡ Ok x → SoFar env es (i + 1) (front ++ x ∷ [])
  all_next x found = record { whole = sym (after-one front x (judge_all env (exprs_view (drop (i + 1) es)))) ∙ rw (next, found) at h.whole }

  pub all_fails : (f : Fault) → judge env (expr_view e) ≡ Err f → judge_all env (exprs_view es) ≡ Err f
  all_fails f found = sym (rw (next, found) at h.whole)

  pub fails_as : (end : CheckEnd) → Fails end (judge env (expr_view e)) → Fails end (judge_all env (exprs_view es))
  fails_as ends.NoMemory f = tt
  fails_as (ends.Fault code place text) f = all_fails _ f

pub all_end : (env : Environment) (es : List Expr) (i : ℕ) (front : List Typed) → length es ≤ i → SoFar env es i front → judge_all env (exprs_view es) ≡ Ok front
all_end env es i front past h = sym (rw (drop_all i es past) at h.whole) ∙ ap Ok (append-nil front)

-- one more argument
converted-push : (ps : List Ty) (xs : List Typed) (p : Ty) (x : Typed) → length xs ≡ length ps → converted_all (ps ++ p ∷ []) (xs ++ x ∷ []) ≡ converted_all ps xs ++ converted p x ∷ []
converted-push [] [] p x e = refl
converted-push [] (y ∷ xs) p x e = absurd (omega arith)
converted-push (q ∷ ps) [] p x e = absurd (omega arith)
converted-push (q ∷ ps) (y ∷ xs) p x e = ap (λ z. converted q y ∷ z) (converted-push ps xs p x (omega arith))

-- the last argument and the last parameter
pub converted_more : (ps : List Ty) (args front : List TypedExpr) (x : TypedExpr) (cores pushed : List CoreExpr) (c : CoreExpr) (p : Ty) → 1 ≤ length ps → length args ≡ length ps → args ≡ front ++ x ∷ []
    → p ≡ get_or ps (length ps - 1) p
    → ◌≡◌ {A = Checked (List k.Expr)} (Ok (converted_all (take (length ps - 1) ps) (typeds_view front))) (Ok (map core_view cores))
    → ◌≡◌ {A = Checked k.Expr} (Ok (converted p (typed_view x))) (Ok (core_view c)) → pushed ≡ cores ++ c ∷ []
    → ◌≡◌ {A = Checked (List k.Expr)} (Ok (converted_all ps (typeds_view args))) (Ok (map core_view pushed))
converted_more ps args front x cores pushed c p some len e pe rest last pp =
    let n = length ps - 1 in
    let low : n < length ps = omega arith in
    let cut : ps ≡ take n ps ++ p ∷ [] = sym (take_all (n + 1) ps (omega arith)) ∙ take_more ps n p low ∙ ap (λ q. take n ps ++ q ∷ []) (sym pe) in
    let front-len : length (typeds_view front) ≡ length (take n ps) = simp (length-map, length-take) (let h = simp length-append at (sym (ap length e)) in omega (arith, h)) in
    let rest' : converted_all (take n ps) (typeds_view front) ≡ map core_view cores = cc in
    let last' : converted p (typed_view x) ≡ core_view c = cc in
    rw (e, pp) (ap (λ q. Ok (converted_all q (typeds_view (front ++ x ∷ [])))) cut ∙ ap Ok (ap (converted_all (take n ps ++ p ∷ [])) (map-append typed_view front (x ∷ [])) ∙ converted-push (take n ps) (typeds_view front) p (typed_view x) front-len ∙ ap₂ (λ a b. a ++ b ∷ []) rest' last' ∙ sym (map-append core_view cores (c ∷ []))))
