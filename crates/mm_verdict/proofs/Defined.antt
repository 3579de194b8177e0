-- What lacks nothing calls only what is defined.
use Rattle.std.proofs.Common.{◌≡◌, ◌⊎◌, ℕ, zero, suc, ◌+◌, Bool, true, false, IsTrue, List, [], ◌∷◌, ◌++◌, Option, Some, None, refl, sym, subst, inl, inr, arith}
use Rattle.std.specs.Prelude.{not, ◌&&◌, ◌||◌, slice_get, if◌then◌else◌}
use Rattle.mm_classes.specs.Lists.{Has, first, later, has}
use Rattle.mm_classes.proofs.Lists.{Has-left, Has-right, Has-flat_map, has-Has}
use Rattle.mm_core.specs.Tree.{Expr, int, unsigned, bool, null, local, set_local, field, set_field, not_null, move, convert, binary, negation, both, either, choose, call, virtual_call, open_call, builtin, new, step_local, step_field, compound, Exprs, no_exprs, expr_and, Stmt, block, run, if_else, while_do, do_while, for_do, break, continue, return_nothing, return, make, Stmts, no_stmts, stmt_and, Function, Program}
use Rattle.mm_core.specs.Heads.{is_open}
use Rattle.mm_typing_valid.specs.Called.{CallsOnly, AllCallOnly, StmtCallsOnly, StmtsCallOnly, IsDefinedAt, CalledAreDefined}
use Rattle.mm_complete.specs.Callees.{callees, all_callees, stmt_callees, stmts_callees, body_callees, called_by}
use Rattle.mm_complete.specs.Complete.{is_lacking, lacking_from, lacking}

-- ---- bodies

module _ (P : ℕ → Type 0) where
  -- P holds of each of these
  abbrev Each : List ℕ → Type 0
  Each ns = (n : ℕ) → Has ns n → P n

  left : (xs ys : List ℕ) → Each (xs ++ ys) → Each xs
  left xs ys h n i = h n (Has-left xs ys i)

  right : (xs ys : List ℕ) → Each (xs ++ ys) → Each ys
  right xs ys h n i = h n (Has-right xs ys i)

  mutual
    expr : (e : Expr) → Each (callees e) → CallsOnly P e
    expr (int z) h = tt
    expr (unsigned n) h = tt
    expr (bool b) h = tt
    expr (null c) h = tt
    expr (local x) h = tt
    expr (set_local x e) h = expr e h
    expr (field n e) h = expr e h
    expr (set_field n e d) h = (expr e (left (callees e) (callees d) h), expr d (right (callees e) (callees d) h))
    expr (not_null e) h = expr e h
    expr (move c n e) h = expr e h
    expr (convert t e) h = expr e h
    expr (binary op d e) h = (expr d (left (callees d) (callees e) h), expr e (right (callees d) (callees e) h))
    expr (negation e) h = expr e h
    expr (both d e) h = (expr d (left (callees d) (callees e) h), expr e (right (callees d) (callees e) h))
    expr (either d e) h = (expr d (left (callees d) (callees e) h), expr e (right (callees d) (callees e) h))
    expr (choose c d e) h =
        let r = right (callees c) (callees d ++ callees e) h in
        (expr c (left (callees c) (callees d ++ callees e) h), expr d (left (callees d) (callees e) r), expr e (right (callees d) (callees e) r))
    expr (call n es) h = (h n (first refl), exprs es (λ m i. h m (later i)))
    expr (virtual_call m e es) h = (expr e (left (callees e) (all_callees es) h), exprs es (right (callees e) (all_callees es) h))
    expr (open_call n es) h = (h n (first refl), exprs es (λ m i. h m (later i)))
    expr (builtin b es) h = exprs es h
    expr (new c) h = tt
    expr (step_local x c) h = tt
    expr (step_field n c e) h = expr e h
    expr (compound op n e d) h = (expr e (left (callees e) (callees d) h), expr d (right (callees e) (callees d) h))

    exprs : (es : Exprs) → Each (all_callees es) → AllCallOnly P es
    exprs no_exprs h = tt
    exprs (expr_and e es) h = (expr e (left (callees e) (all_callees es) h), exprs es (right (callees e) (all_callees es) h))

  mutual
    stmt : (s : Stmt) → Each (stmt_callees s) → StmtCallsOnly P s
    stmt (block ss) h = stmts ss h
    stmt (run e) h = expr e h
    stmt (if_else e ss ts) h =
        let r = right (callees e) (stmts_callees ss ++ stmts_callees ts) h in
        (expr e (left (callees e) (stmts_callees ss ++ stmts_callees ts) h), stmts ss (left (stmts_callees ss) (stmts_callees ts) r), stmts ts (right (stmts_callees ss) (stmts_callees ts) r))
    stmt (while_do e ss) h = (expr e (left (callees e) (stmts_callees ss) h), stmts ss (right (callees e) (stmts_callees ss) h))
    stmt (do_while ss e) h = (stmts ss (left (stmts_callees ss) (callees e) h), expr e (right (stmts_callees ss) (callees e) h))
    stmt (for_do e s ss) h =
        let r = right (callees e) (stmt_callees s ++ stmts_callees ss) h in
        (expr e (left (callees e) (stmt_callees s ++ stmts_callees ss) h), stmt s (left (stmt_callees s) (stmts_callees ss) r), stmts ss (right (stmt_callees s) (stmts_callees ss) r))
    stmt break h = tt
    stmt continue h = tt
    stmt return_nothing h = tt
    stmt (return e) h = expr e h
    stmt (make x) h = tt

    stmts : (ss : Stmts) → Each (stmts_callees ss) → StmtsCallOnly P ss
    stmts no_stmts h = tt
    stmts (stmt_and s ss) h = (stmt s (left (stmt_callees s) (stmts_callees ss) h), stmts ss (right (stmt_callees s) (stmts_callees ss) h))

-- ---- what isn't lacking

neither : (b : Bool) (f : Function) (o : Option Function) → (if b then Some f else o) ≡ None → (b ≡ false) × (o ≡ None)
neither true f o h = absurd (let x : ⊥ = cc in x)
neither false f o h = (refl, h)

same : (f g : Function) → Some g ≡ Some f → g ≡ f
same f g e = cc

not_lacking : (ns : List ℕ) (n : ℕ) (fs : List Function) → lacking_from ns n fs ≡ None → (k : ℕ) (f : Function) → slice_get fs k ≡ Some f → is_lacking ns (n + k) f ≡ false
not_lacking ns n [] h k f at = absurd (let x : ⊥ = cc in x)
not_lacking ns n (g ∷ fs) h zero f at =
    let a = neither (is_lacking ns n g) g (lacking_from ns (n + 1) fs) h in
    let m : n ≡ n + 0 = omega arith in
    subst (λ j. is_lacking ns j f ≡ false) m (subst (λ (x : Function). is_lacking ns n x ≡ false) (same f g at) a.0)
not_lacking ns n (g ∷ fs) h (suc k) f at =
    let a = neither (is_lacking ns n g) g (lacking_from ns (n + 1) fs) h in
    let m : n + 1 + k ≡ n + suc k = omega arith in
    subst (λ j. is_lacking ns j f ≡ false) m (not_lacking ns (n + 1) fs a.1 k f at)

defined : (d o h : Bool) → (not d && (o || h)) ≡ false → (o ≡ true) ⊎ (h ≡ true) → IsTrue d
defined true o h e w = refl
defined false true h e w = absurd (let x : ⊥ = cc in x)
defined false false true e w = absurd (let x : ⊥ = cc in x)
defined false false false e (inl w) = absurd (let x : ⊥ = cc in x)
defined false false false e (inr w) = absurd (let x : ⊥ = cc in x)

pub called_are_defined : (p : Program) → lacking p.functions ≡ None → CalledAreDefined p
called_are_defined p whole f b there is =
    let ns = called_by p.functions in
    stmt (IsDefinedAt p) b (λ n i g at.
    let j : Has (body_callees f.body) n = subst (λ o. Has (body_callees o) n) (sym is) i in
    let k : Has ns n = Has-flat_map (λ (x : Function). body_callees x.body) p.functions f there j in
    let m : 0 + n ≡ n = omega arith in
    let l : is_lacking ns n g ≡ false = subst (λ j. is_lacking ns j g ≡ false) m (not_lacking ns 0 p.functions whole n g at) in
    defined g.defined (is_open g) (has ns n) l (inr (has-Has ns n k)))
