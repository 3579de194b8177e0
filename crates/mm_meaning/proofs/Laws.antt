-- Laws of runs.
use Rattle.std.proofs.Common.{◌≡◌, refl}
use Rattle.mm_meaning.specs.Run.{Run, Gives, Stops, From, then, pure}

module _ {Stop S A : Type 0} where
  -- a result at once changes nothing before it
  pub then_pure : (x : Run Stop S A) → then x pure ≡ x
  then_pure (Gives a s k) = refl
  then_pure (Stops t s) = refl

module _ {Stop S A B D : Type 0} where
  -- two pieces after a run are one piece
  pub then_then : (x : Run Stop S A) (f : A → From Stop S B) (g : B → From Stop S D) → then (then x f) g ≡ then x (λ a s k. then (f a s k) g)
  then_then (Gives a s k) f g = refl
  then_then (Stops t s) f g = refl
