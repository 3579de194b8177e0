-- Subobjects that contain all others with a property. Own.
use Rattle.std.specs.Prelude.{◌≡◌, ℕ, ◌<◌, List}
use Rattle.mm_classes.specs.Classes.{Class}
use Rattle.mm_classes.specs.Subobjects.{IsWithin}
use Rattle.mm_classes.specs.Questions.{node}

-- the m-th subobject contains all of the first n that have the property
abbrev pub ContainsAll : List Class → ℕ → (ℕ → Type 0) → ℕ → ℕ → Type 0
ContainsAll g c P m n = (k : ℕ) → k < n → P k → IsWithin g (node g c k) (node g c m)

-- b has the property, and where one of the first n that have it contains all of these, it is b
pub record IsBest (g : List Class) (c : ℕ) (P : ℕ → Type 0) (b n : ℕ) : Type 0 where
  pub below : b < n
  pub fits : P b
  pub only : (m : ℕ) → m < n → P m → ContainsAll g c P m n → m ≡ b
