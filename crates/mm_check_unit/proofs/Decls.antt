-- What the loop over declarations keeps.
use Rattle.std.proofs.Common.{◌≡◌, ℕ, ◌+◌, ◌<◌, ◌≤◌, List, ◌∷◌, length, get_or, drop, map, refl, sym, ap, ◌∙◌}
use Rattle.std.specs.Prelude.{Ok, Err}
use Rattle.std.proofs.lemmas.List.{drop_more, drop_all}
use Rattle.mm_core.specs.Tree as k
use Rattle.mm_syntax.specs.declared.decl.Decl.{Decl}
use Rattle.mm_syntax.specs.View.{decl_view}
use Rattle.mm_checks.specs.declared.CheckEnd.{CheckEnd}
use Rattle.mm_checks.specs.declared.CheckEnd.TheVariants as ends
use Rattle.mm_checks.specs.Checks.{Fault, at, Fails}
use Rattle.mm_scopes.specs.Environment.{Environment}
use Rattle.mm_unit_typing.specs.Functions.{seen}
use Rattle.mm_unit_typing.specs.JudgeUnit.{judge_decl, judge_decls}

-- the check of what is left completes the whole
pub record DeclsSoFar (before : List k.Function) (ds : List Decl) (i : ℕ) (env : Environment) (fs : List k.Function) : Type 0 where
  pub whole : judge_decls fs (map decl_view (drop i ds)) ≡ judge_decls before (map decl_view ds)
  pub sees : env ≡ seen fs

pub decls_start : (before : List k.Function) (ds : List Decl) (env : Environment) → env ≡ seen before → DeclsSoFar before ds 0 env before
decls_start before ds env e = record { whole = refl; sees = e }

module _ (before : List k.Function) (ds : List Decl) (i : ℕ) (env : Environment) (fs : List k.Function) (d : Decl) (is : d ≡ get_or ds i d) (low : i < length ds) (h : DeclsSoFar before ds i env fs) where
  next : drop i ds ≡ d ∷ drop (i + 1) ds
  next = drop_more ds i d low ∙ ap (λ y. y ∷ drop (i + 1) ds) (sym is)

  pub decls_next : (env' : Environment) (more : List k.Function) → judge_decl fs (decl_view d) ≡ Ok more → env' ≡ seen more → DeclsSoFar before ds (i + 1) env' more
  unfolding judge_decls
  decls_next env' more found e = record { whole = rw (next, found) at h.whole; sees = e }

  decls_fail : (f : Fault) → judge_decl fs (decl_view d) ≡ Err f → judge_decls before (map decl_view ds) ≡ Err f
  unfolding judge_decls
  decls_fail f found = sym (rw (next, found) at h.whole)

  pub decls_fail_as : (end : CheckEnd) → Fails end (judge_decl fs (decl_view d)) → Fails end (judge_decls before (map decl_view ds))
  decls_fail_as ends.NoMemory f = tt
  decls_fail_as (ends.Fault code place text) f = decls_fail (at code place text) f

pub decls_end : (before : List k.Function) (ds : List Decl) (i : ℕ) (env : Environment) (fs : List k.Function) → length ds ≤ i → DeclsSoFar before ds i env fs → judge_decls before (map decl_view ds) ≡ Ok fs
unfolding judge_decls
decls_end before ds i env fs past h = sym (rw (drop_all i ds past) at h.whole)
