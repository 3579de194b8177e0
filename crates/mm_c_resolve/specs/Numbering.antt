-- What a numbering stands for.
use Rattle.std.specs.Prelude.{◌≡◌, ℕ, List, length, map}
use Rattle.std.specs.Borrow.{Bor}
use Rattle.std.specs.Option.{unwrap_or}
use Rattle.std.specs.Str.{bytes_eq}
use Rattle.std.specs.HashMap.{get_by}
use Rattle.mm_c_places.specs.Places.{index_of}
use Rattle.mm_c_resolve.specs.declared.numbers.Numbering.{Numbering}

-- the number of a name
abbrev pub at_name : Numbering → List ℕ → ℕ
at_name n x = unwrap_or (get_by (λ (k : Bor (List ℕ)). bytes_eq x k.now) n.first) n.count

abbrev pub texts : List (Bor (List ℕ)) → List (List ℕ)
texts = map (λ (k : Bor (List ℕ)). k.now)

-- Each name has the place of the first that is the same in the list, and every other the list's length.
pub record AreNumbered (n : Numbering) (names : List (List ℕ)) : Type 0 where
  pub by : (x : List ℕ) → at_name n x ≡ index_of names x
  pub count : n.count ≡ length names
