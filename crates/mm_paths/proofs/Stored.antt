-- What is kept of a class is what the class list says.
use Rattle.std.proofs.Common.{◌≡◌, ℕ, zero, suc, ◌<◌, ◌≤◌, List, [], ◌∷◌, length, get_or, take, map, refl, sym, subst, ap, ◌∙◌, arith, length-append}
use Rattle.std.proofs.lemmas.List.{length-map, take-map, take_at, get_or-map}
use Rattle.std.specs.Prelude.{true, false}
use Rattle.std.specs.List.{flat_map}
use Rattle.mm_classes.specs.Classes.{Class, class_at, IsClassList, IsComplete}
use Rattle.mm_classes.specs.Subobjects.{Path, chains, subobjects_of, virtual_bases}
use Rattle.mm_classes.specs.Questions.{node, IsNode}
use Rattle.mm_paths.specs.declared.entry.Parts.{Parts}
use Rattle.mm_paths.specs.declared.entry.Node.{Node}
use Rattle.mm_paths.specs.Stored.{paths_in, ArePartsOf, IsStored}

-- the parts that stand at a class
pub parts_at : (g : List Class) (ps : List Parts) (c : ℕ) (x : Parts) → x ≡ get_or ps c x → IsStored g ps → IsComplete g c → ArePartsOf g c x
parts_at g ps c x ex s k = subst (ArePartsOf g c) (sym ex) (s.each c x k.1)

pub node_is : (ns : List Node) (n : ℕ) (d : Node) (ps : List Path) → paths_in ns ≡ ps → n < length ps → (get_or ns n d).path.items ≡ get_or ps n []
node_is ns n d ps e h =
    let l : n < length ns = omega (arith, length-map ns (λ (x : Node). x.path.items), ap length e) in
    sym (get_or-map (λ (x : Node). x.path.items) ns n d [] l) ∙ ap (λ (x : List Path). get_or x n []) e

module _ (g : List Class) (c : ℕ) (p : Parts) (a : ArePartsOf g c p) where
  pub count_is : length p.nodes.items ≡ length (subobjects_of g c)
  count_is = sym (length-map p.nodes.items (λ (x : Node). x.path.items)) ∙ ap length a.nodes

  pub few_at : length (subobjects_of g c) ≤ 256
  few_at = let f = a.few in let n = count_is in omega arith

  pub path_is : (n : ℕ) (y : Node) → y ≡ get_or p.nodes.items n y → IsNode g c n → y.path.items ≡ node g c n
  path_is n y ey l = ap (λ (z : Node). z.path.items) ey ∙ node_is p.nodes.items n y (subobjects_of g c) a.nodes l

  pub own_nodes : paths_in (take p.own p.nodes.items) ≡ chains g (length g) c
  own_nodes = sym (take-map (λ (y : Node). y.path.items) p.own p.nodes.items)
      ∙ (ap (take p.own) a.nodes ∙ take_at (chains g (length g) c) _ p.own (sym a.own))

  pub own_few : length (chains g (length g) c) ≤ length (subobjects_of g c)
  own_few = let l = length-append (chains g (length g) c) (flat_map (chains g (length g)) (virtual_bases g c)) in omega arith

  pub own_below : p.own ≤ length p.nodes.items
  own_below = let o = a.own in let n = count_is in let l = own_few in omega arith

differ : false ≡ true → ⊥
differ e = cc

pub none_stored : IsClassList [] → IsStored [] []
none_stored ok = record { valid = ok; few = omega arith; long = refl; each = λ c d k. absurd (differ k) }
