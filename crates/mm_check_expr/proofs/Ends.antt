-- How checks of a few demands end.
use Rattle.std.proofs.Common.{◌≡◌, ℕ, Bool, true, false, refl, ap}
use Rattle.std.specs.Prelude.{Ok, Err}
use Rattle.mm_checks.specs.declared.CheckEnd.{CheckEnd}
use Rattle.mm_checks.specs.declared.CheckEnd.TheVariants as ends
use Rattle.mm_checks.specs.Checks.{Fault, Checked, ◌>>=◌, demand, Fails}
use Rattle.mm_check_expr.specs.Demands.{both_demanded, place_demanded}

module _ {Y : Type 0} (b : Bool) (f : Fault) where
  -- a number and a test
  pub place_fails : (r : Checked ℕ) (next : ℕ → Y) (end : CheckEnd) → Fails end (place_demanded r b f) → Fails end (r >>= λ l. demand b f >>= λ u. Ok (next l))
  place_fails r next ends.NoMemory h = tt
  place_fails (Err g) next (ends.Fault code place text) h = cc
  place_fails (Ok l) next (ends.Fault code place text) h = one b h where
    one : (b : Bool) → (demand b f >>= λ u. Ok l) ≡ Err (record { code = code; place = place; text = text }) → (demand b f >>= λ u. Ok (next l)) ≡ Err (record { code = code; place = place; text = text })
    one true h = cc
    one false h = cc

  pub place_holds : (r : Checked ℕ) (next : ℕ → Y) (l : ℕ) → place_demanded r b f ≡ Ok l → (r >>= λ l. demand b f >>= λ u. Ok (next l)) ≡ Ok (next l)
  place_holds (Err g) next l h = cc
  place_holds (Ok k) next l h = one b h where
    one : (b : Bool) → (demand b f >>= λ u. Ok k) ≡ Ok l → (demand b f >>= λ u. Ok (next k)) ≡ Ok (next l)
    one true h = let same : k ≡ l = cc in ap (λ m. Ok (next m)) same
    one false h = cc

  -- two tests
  pub both_fail : (c : Bool) (g : Fault) (v : Y) (end : CheckEnd) → Fails end (both_demanded b f c g) → Fails end (demand b f >>= λ u. demand c g >>= λ w. Ok v)
  both_fail c g v ends.NoMemory h = tt
  both_fail c g v (ends.Fault code place text) h = one b c h where
    one : (b c : Bool) → (demand b f >>= λ u. demand c g) ≡ Err (record { code = code; place = place; text = text }) → (demand b f >>= λ u. demand c g >>= λ w. Ok v) ≡ Err (record { code = code; place = place; text = text })
    one true true h = cc
    one true false h = cc
    one false c h = cc

  pub both_hold : (c : Bool) (g : Fault) (v : Y) → both_demanded b f c g ≡ Ok tt → (demand b f >>= λ u. demand c g >>= λ w. Ok v) ≡ Ok v
  both_hold c g v h = one b c h where
    one : (b c : Bool) → (demand b f >>= λ u. demand c g) ≡ Ok tt → (demand b f >>= λ u. demand c g >>= λ w. Ok v) ≡ Ok v
    one true true h = refl
    one true false h = cc
    one false c h = cc
