-- A program is one with other numbers whose numbers are the same: a relation of runs of one program.
use Rattle.std.proofs.Common.{◌≡◌, ℕ, List, [], ◌∷◌, refl, ap, ap₂}
use Rattle.std.specs.Prelude.{Result, Ok, Err}
use Rattle.mm_base.specs.declared.num.Trap.{Trap}
use Rattle.mm_core.specs.Tree.{Expr, int, unsigned, bool, null, local, set_local, field, set_field, not_null, move, convert, binary, negation, both, either, choose, call, virtual_call, open_call, builtin, new, step_local, step_field, compound, Exprs, no_exprs, expr_and, Stmt, block, run, if_else, while_do, do_while, for_do, break, continue, return_nothing, return, make, Stmts, no_stmts, stmt_and}
use Rattle.mm_core.specs.State.{Value}
use Rattle.mm_core.specs.Meaning.{Flow, Next, Broke, Continued, Returned}
use Rattle.mm_core.specs.Renaming.{renamed, all_renamed, renamed_stmt, renamed_stmts}
use Rattle.mm_core.proofs.Related.{Kind, one, many, flow, Given, All2, none, one_and, Flows, next, broke, continued, returned, Rel, Both, given, stopped}

-- ---- no number changes

abbrev pub same : ℕ → ℕ
same n = n

mutual
  pub renamed_same : (e : Expr) → renamed same same e ≡ e
  renamed_same (int z) = refl
  renamed_same (unsigned n) = refl
  renamed_same (bool b) = refl
  renamed_same (null c) = refl
  renamed_same (local x) = refl
  renamed_same (set_local x e) = ap (λ e'. set_local x e') (renamed_same e)
  renamed_same (field k e) = ap (λ e'. field k e') (renamed_same e)
  renamed_same (set_field k e d) = ap₂ (λ e' d'. set_field k e' d') (renamed_same e) (renamed_same d)
  renamed_same (not_null e) = ap (λ e'. not_null e') (renamed_same e)
  renamed_same (move c n e) = ap (λ e'. move c n e') (renamed_same e)
  renamed_same (convert t e) = ap (λ e'. convert t e') (renamed_same e)
  renamed_same (binary op d e) = ap₂ (λ d' e'. binary op d' e') (renamed_same d) (renamed_same e)
  renamed_same (negation e) = ap (λ e'. negation e') (renamed_same e)
  renamed_same (both d e) = ap₂ (λ d' e'. both d' e') (renamed_same d) (renamed_same e)
  renamed_same (either d e) = ap₂ (λ d' e'. either d' e') (renamed_same d) (renamed_same e)
  renamed_same (choose c d e) = rw (renamed_same c, renamed_same d, renamed_same e) refl
  renamed_same (call k es) = ap (λ es'. call k es') (all_same es)
  renamed_same (virtual_call m e es) = ap₂ (λ e' es'. virtual_call m e' es') (renamed_same e) (all_same es)
  renamed_same (open_call k es) = ap (λ es'. open_call k es') (all_same es)
  renamed_same (builtin b es) = ap (λ es'. builtin b es') (all_same es)
  renamed_same (new c) = refl
  renamed_same (step_local x c) = refl
  renamed_same (step_field k c e) = ap (λ e'. step_field k c e') (renamed_same e)
  renamed_same (compound op k e d) = ap₂ (λ e' d'. compound op k e' d') (renamed_same e) (renamed_same d)

  pub all_same : (es : Exprs) → all_renamed same same es ≡ es
  all_same no_exprs = refl
  all_same (expr_and e es) = ap₂ (λ e' es'. expr_and e' es') (renamed_same e) (all_same es)

mutual
  pub stmt_same : (st : Stmt) → renamed_stmt same same st ≡ st
  stmt_same (block ss) = ap (λ ss'. block ss') (stmts_same ss)
  stmt_same (run e) = ap (λ e'. run e') (renamed_same e)
  stmt_same (if_else e ss ts) = rw (renamed_same e, stmts_same ss, stmts_same ts) refl
  stmt_same (while_do e ss) = ap₂ (λ e' ss'. while_do e' ss') (renamed_same e) (stmts_same ss)
  stmt_same (do_while ss e) = ap₂ (λ ss' e'. do_while ss' e') (stmts_same ss) (renamed_same e)
  stmt_same (for_do e st ss) = rw (renamed_same e, stmt_same st, stmts_same ss) refl
  stmt_same break = refl
  stmt_same continue = refl
  stmt_same return_nothing = refl
  stmt_same (return e) = ap (λ e'. return e') (renamed_same e)
  stmt_same (make x) = refl

  pub stmts_same : (ss : Stmts) → renamed_stmts same same ss ≡ ss
  stmts_same no_stmts = refl
  stmts_same (stmt_and st ss) = ap₂ (λ st' ss'. stmt_and st' ss') (stmt_same st) (stmts_same ss)

-- ---- what is given is equal

abbrev pub Equal : Value → Value → Type 0
Equal v w = v ≡ w

pub all_equal : {vs ws : List Value} → All2 Equal vs ws → vs ≡ ws
all_equal none = refl
all_equal (one_and h hs) = ap₂ (λ v vs. v ∷ vs) h (all_equal hs)

flows_equal : {a b : Flow} → Flows Equal a b → a ≡ b
flows_equal next = refl
flows_equal broke = refl
flows_equal continued = refl
flows_equal (returned e) = ap Returned e

pub rel_equal : (k : Kind) (a b : Given k) → Rel Equal k a b → a ≡ b
rel_equal one a b h = h
rel_equal many a b h = all_equal h
rel_equal flow a b h = flows_equal h

all_self : (vs : List Value) → All2 Equal vs vs
all_self [] = none
all_self (v ∷ vs) = one_and refl (all_self vs)

flow_self : (f : Flow) → Flows Equal f f
flow_self Next = next
flow_self Broke = broke
flow_self Continued = continued
flow_self (Returned v) = returned refl

pub rel_self : (k : Kind) (a : Given k) → Rel Equal k a a
rel_self one a = refl
rel_self many a = all_self a
rel_self flow a = flow_self a

pub both_self : (r : Result Value Trap) → Both Equal r r
both_self (Ok v) = given refl
both_self (Err t) = stopped t
