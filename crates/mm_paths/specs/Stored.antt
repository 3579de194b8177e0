-- What a graph keeps of its classes.
use Rattle.std.specs.Prelude.{◌≡◌, ℕ, ◌+◌, ◌<◌, ◌≤◌, ◌^◌, true, List, [], ◌∷◌, map, length, get_or, Option, None}
use Rattle.std.specs.Bool.{Decides}
use Rattle.mm_classes.specs.declared.class.Access.{Access}
use Rattle.mm_classes.specs.declared.class.Access.TheVariants.{Public}
use Rattle.mm_classes.specs.declared.class.Base.{Base}
use Rattle.mm_classes.specs.declared.class.Member.{Member}
use Rattle.mm_classes.specs.Access.{IsAccess}
use Rattle.mm_classes.specs.Adding.{added, new_virtual_bases, new_chains, new_subobjects, new_depth, IsNewPolymorphic}
use Rattle.mm_classes.specs.Classes.{Class, class_at, members_of, IsClassList, depth_of, IsPolymorphic, field_count}
use Rattle.mm_classes.specs.Questions.{node, start_of}
use Rattle.mm_classes.specs.Subobjects.{Path, chains, subobjects_of, virtual_bases}
use Rattle.mm_paths.specs.declared.entry.Parts.{Parts}
use Rattle.mm_paths.specs.declared.entry.Node.{Node}
use Rattle.mm_paths.specs.Names.{AreNamed}

-- the paths of nodes
abbrev pub paths_in : List Node → List Path
paths_in ns = map (λ (n : Node). n.path.items) ns

-- where each of some blocks begins, the first at n
abbrev pub starts_from : (ℕ → List Path) → ℕ → List ℕ → List ℕ
starts_from f n [] = []
starts_from f n (v ∷ vs) = n ∷ starts_from f (n + length (f v)) vs

-- where the subobjects of each virtual base of d begin
abbrev pub starts_of : List Class → ℕ → List ℕ
starts_of g d = starts_from (chains g (length g)) (length (chains g (length g) d)) (virtual_bases g d)

-- the same of a class that is added
abbrev pub new_starts : List Class → ℕ → List Base → List ℕ
new_starts g c bs = starts_from (chains g (length g)) (length (new_chains g c bs)) (new_virtual_bases g bs)

-- the access of each subobject of c, for a public member
pub record HaveAccess (g : List Class) (c : ℕ) (xs : List (Option Access)) : Type 0 where
  pub long : length xs ≡ length (subobjects_of g c)
  pub each : (n : ℕ) → n < length (subobjects_of g c) → IsAccess g c (node g c n) Public (get_or xs n None)

-- these are the parts of the complete class c
pub record ArePartsOf (g : List Class) (c : ℕ) (p : Parts) : Type 0 where
  pub nodes : paths_in p.nodes.items ≡ subobjects_of g c
  pub few : length p.nodes.items ≤ 256
  pub own : p.own ≡ length (chains g (length g) c)
  pub shared : p.shared.items ≡ virtual_bases g c
  pub starts : p.starts.items ≡ starts_of g c
  pub access : HaveAccess g c p.access.items
  pub depth : p.depth ≡ depth_of g c
  pub polymorphic : Decides p.polymorphic (IsPolymorphic g c)
  pub fields : field_count (members_of g c) ≤ 2 ^ 19
  pub named : AreNamed p.named.first p.named.next.items (members_of g c)

-- each complete class has its parts
pub record IsStored (g : List Class) (ps : List Parts) : Type 0 where
  pub valid : IsClassList g
  pub few : length g < 2 ^ 32
  pub long : length ps ≡ length g
  pub each : (c : ℕ) (d : Parts) → (class_at g c).complete ≡ true → ArePartsOf g c (get_or ps c d)

-- the parts that are made for a class with these bases and members
pub record AreNewParts (g : List Class) (c : ℕ) (bs : List Base) (ms : List Member) (p : Parts) : Type 0 where
  pub nodes : paths_in p.nodes.items ≡ new_subobjects g c bs
  pub few : length p.nodes.items ≤ 256
  pub own : p.own ≡ length (new_chains g c bs)
  pub shared : p.shared.items ≡ new_virtual_bases g bs
  pub starts : p.starts.items ≡ new_starts g c bs
  pub access : HaveAccess (added g c bs []) c p.access.items
  pub depth : p.depth ≡ new_depth g bs
  pub polymorphic : Decides p.polymorphic (IsNewPolymorphic g bs ms)
  pub fields : field_count ms ≤ 2 ^ 19
  pub named : AreNamed p.named.first p.named.next.items ms

-- r is the number of the first subobject of c that begins with its virtual base v
abbrev pub IsStart : List Class → ℕ → ℕ → ℕ → Type 0
IsStart g c v r = (j : ℕ) × (j < length (virtual_bases g c)) × (get_or (virtual_bases g c) j 0 ≡ v) × (r ≡ start_of g c j)
