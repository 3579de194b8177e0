use Rattle.std.proofs.Common.{ℕ, ◌≡◌, List, [], ◌∷◌, ◌++◌, length, get_or, sym, subst, arith, length-append, ap}
use Rattle.std.specs.Prelude.{Option, None}
use Rattle.mm_classes.specs.declared.class.Access.{Access}
use Rattle.mm_paths.proofs.Steps.{none_more}
use Rattle.mm_paths.proofs.reach.no_access.Goals as goal

pub loop-k-preserved : goal.loop-k-preserved
loop-k-preserved c = record {
  low = omega arith;
  long = let e = ap length c.in_ok-push.ensures.items in let l = length-append c.loop-k.all.items (None ∷ []) in let k = c.loop-k.invariant.long in omega arith;
  none = subst (λ (xs : List (Option Access)). (i : ℕ) → get_or xs i None ≡ None) (sym c.in_ok-push.ensures.items) (none_more c.loop-k.all.items c.loop-k.invariant.none);
}
