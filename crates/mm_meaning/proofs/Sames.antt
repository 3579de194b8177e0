-- How runs that do the same up to a clock are put together.
use Rattle.std.specs.Prelude.{Bool, true, false, if◌then◌else◌}
use Rattle.std.proofs.Common.{◌≡◌, ℕ, zero, suc, ◌≤◌, List, [], ◌++◌, refl, sym, ap, ◌∙◌, append_assoc, arith}
use Rattle.std.proofs.lemmas.List.{append-nil}
use Rattle.mm_meaning.specs.Run.{Run, Gives, Stops, From, then, ◌>>=◌, pure, stop, step, within}
use Rattle.mm_meaning.specs.Same.{Leaves, Same, IsFront}

module _ {Stop S A : Type 0} where
  pub leaves_less : (k k' : ℕ) (r : Run Stop S A) → k ≤ k' → Leaves k r → Leaves k' r
  leaves_less k k' (Gives a s k1) le h = omega arith
  leaves_less k k' (Stops t s) le h = tt

module _ {Stop S A B : Type 0} where
  pub same_from : (c k : ℕ) (x y : Run Stop S A) (f g : A → From Stop S B) → k ≤ c → x ≡ y → Leaves k x → ((a : A) → Same c (f a) (g a)) → ((then) x f ≡ (then) y g) × Leaves k ((then) x f)
  same_from c k (Gives a s k1) y f g le e lv h = let r = (h a).by s k1 (omega arith) in (r.0 ∙ ap (λ y. (then) y g) e, leaves_less k1 k (f a s k1) lv r.1)
  same_from c k (Stops t s) y f g le e lv h = (ap (λ y. (then) y g) e, tt)

  pub same_then : {c : ℕ} {m n : From Stop S A} {f g : A → From Stop S B} → Same c m n → ((a : A) → Same c (f a) (g a)) → Same c (m >>= f) (n >>= g)
  same_then {c} {m} {n} {f} {g} h i = record { by = λ s k le. let r = h.by s k le in same_from c k (m s k) (n s k) f g le r.0 r.1 i }

module _ {Stop S A : Type 0} where
  pub same_pure : {c : ℕ} (a : A) → Same {Stop = Stop} {S = S} c (pure a) (pure a)
  same_pure a = record { by = λ s k le. (refl, omega arith) }

  pub same_stop : {c : ℕ} (t : Stop) → Same {S = S} {A = A} c (stop t) (stop t)
  same_stop t = record { by = λ s k le. (refl, tt) }

  pub same_if : {c : ℕ} (b : Bool) {m n m' n' : From Stop S A} → Same c m n → Same c m' n' → Same c (if b then m else m') (if b then n else n')
  same_if true h i = h
  same_if false h i = i

  pub step_same : (c : ℕ) (spent : Stop) (m n : From Stop S A) (s : S) (k : ℕ) → k ≤ suc c → Same c m n → (step spent m s k ≡ step spent n s k) × Leaves k (step spent m s k)
  step_same c spent m n s zero le h = (refl, tt)
  step_same c spent m n s (suc k) le h = let r = h.by s k (omega arith) in (r.0, leaves_less k (suc k) (m s k) (omega arith) r.1)

  pub same_step : {c : ℕ} {spent : Stop} {m n : From Stop S A} → Same c m n → Same (suc c) (step spent m) (step spent n)
  same_step {c} {spent} {m} {n} h = record { by = λ s k le. step_same c spent m n s k le h }

  pub same_less : {c c' : ℕ} {m n : From Stop S A} → c' ≤ c → Same c m n → Same c' m n
  same_less le h = record { by = λ s k le'. h.by s k (omega arith) }

-- a run within a part of a state
module _ {Stop S T A : Type 0} where
  pub within_same : (put : T → S) (k : ℕ) (x y : Run Stop T A) → x ≡ y → Leaves k x → (within put x ≡ within put y) × Leaves k (within put x)
  within_same put k (Gives a t k1) y e lv = (ap (within put) e, lv)
  within_same put k (Stops x t) y e lv = (ap (within put) e, tt)

module _ {X : Type 0} where
  pub front_itself : (xs : List X) → IsFront xs xs
  front_itself xs = ([], sym (append-nil xs))

  pub front_through : (xs ys zs : List X) → IsFront xs ys → IsFront ys zs → IsFront xs zs
  front_through xs ys zs f g = (f.0 ++ g.0, g.1 ∙ ap (λ l. l ++ g.0) f.1 ∙ append_assoc xs f.0 g.0)
