-- Ways through the bases of a new class, and the places that they lead to. Own.
use Rattle.std.specs.Prelude.{◌≡◌, ℕ, ◌+◌, ◌-◌, ◌<◌, ◌≤◌, ◌⊎◌, List, [], ◌∷◌, length, get_or, take, Option, None, Some}
use Rattle.mm_classes.specs.declared.class.Access.{Access}
use Rattle.mm_classes.specs.declared.class.Access.TheVariants.{Public}
use Rattle.mm_classes.specs.declared.class.Base.{Base}
use Rattle.mm_classes.specs.Lists.{Has}
use Rattle.mm_classes.specs.Classes.{Class}
use Rattle.mm_classes.specs.Subobjects.{Path, chains, compose}
use Rattle.mm_classes.specs.Questions.{node}
use Rattle.mm_classes.specs.Access.{link_of, AreLinks, composed_links, access_along, IsGreatestOf}
use Rattle.mm_classes.specs.Adding.{new_subobjects}
use Rattle.mm_paths.specs.Stored.{IsStart}

-- y is the access of a public member along a chain from c to q of which the first link is one of bs
abbrev pub WaysBy : List Class → ℕ → List Base → Path → Option Access → Type 0
WaysBy g c bs q y = (b : Base) × (rest : List Base) × Has bs b × AreLinks g b.class rest
    × (composed_links c (b ∷ rest) ≡ q) × (access_along (b ∷ rest) (Some Public) ≡ y)

-- the same, of which the first link is b, and the rest leads to one of the first m subobjects of its class
abbrev pub WaysIn : List Class → ℕ → Base → ℕ → Path → Option Access → Type 0
WaysIn g c b m q y = (rest : List Base) × (k : ℕ) × (k < m) × AreLinks g b.class rest
    × (composed_links b.class rest ≡ node g b.class k) × (compose (link_of c b) (node g b.class k) ≡ q)
    × (access_along (b ∷ rest) (Some Public) ≡ y)

-- each entry is the greatest access along the chains of which the first link is one of the first n bases
abbrev pub AreGreatest : List Class → ℕ → List Base → ℕ → List (Option Access) → Type 0
AreGreatest g c bs n xs = (i : ℕ) → i < length (new_subobjects g c bs)
    → IsGreatestOf (WaysBy g c (take n bs) (get_or (new_subobjects g c bs) i [])) (get_or xs i None)

-- the same, with those through b that lead to one of the first m subobjects of its class
abbrev pub AreGreatestWith : List Class → ℕ → List Base → ℕ → Base → ℕ → List (Option Access) → Type 0
AreGreatestWith g c bs n b m xs = (i : ℕ) → i < length (new_subobjects g c bs)
    → IsGreatestOf (λ y. WaysBy g c (take n bs) (get_or (new_subobjects g c bs) i []) y ⊎ WaysIn g c b m (get_or (new_subobjects g c bs) i []) y) (get_or xs i None)

-- the m-th subobject of part begins at a virtual base of it: that is one of `shared`, and each start is a number of a node
pub record AreStarts (g : List Class) (part m : ℕ) (shared starts : List ℕ) : Type 0 where
  pub long : length starts ≡ length shared
  pub low : (j : ℕ) → get_or starts j 0 ≤ 256
  pub has : length (chains g (length g) part) ≤ m → Has shared (get_or (node g part m) 0 0)

-- r is the number of the m-th subobject of part, in a class in which part itself is the node `at`
pub record IsPlaced (g : List Class) (part at m : ℕ) (shared starts : List ℕ) (r : ℕ) : Type 0 where
  pub on : m < length (chains g (length g) part) → r ≡ at + m
  pub anew : length (chains g (length g) part) ≤ m → (s : ℕ) × (j : ℕ) × IsStart g part (get_or (node g part m) 0 0) s × (s ≤ m)
      × (j < length shared) × (get_or shared j 0 ≡ get_or (node g part m) 0 0) × (r ≡ get_or starts j 0 + (m - s))
