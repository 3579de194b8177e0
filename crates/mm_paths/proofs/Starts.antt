-- Where the subobjects of each virtual base begin.
use Rattle.std.proofs.Common.{◌≡◌, ℕ, zero, suc, ◌+◌, ◌-◌, ◌<◌, ◌≤◌, List, [], ◌∷◌, ◌++◌, length, get_or, take, drop, refl, sym, subst, ap, ap₂, ◌∙◌, inl, inr, arith, length-append}
use Rattle.std.specs.Prelude.{true, ◌⊎◌}
use Rattle.std.specs.List.{flat_map}
use Rattle.std.proofs.lemmas.Grind.{flat_map-append}
use Rattle.std.proofs.lemmas.List.{length-map, get_or_past, take-append-drop}
use Rattle.mm_classes.specs.Lists.{Has, first, later}
use Rattle.mm_classes.specs.Classes.{Class, class_at, IsClassList}
use Rattle.mm_classes.specs.Subobjects.{Path, chains, subobjects_of, virtual_bases, end_of, compose}
use Rattle.mm_classes.specs.Questions.{node, IsNode, start_of}
use Rattle.mm_classes.proofs.Growing.{virtual_bases-kept, chains-all_kept, virtual_bases_complete}
use Rattle.mm_classes.proofs.Places.{place_on, place_anew, head_virtual}
use Rattle.mm_paths.specs.declared.entry.Node.{Node}
use Rattle.mm_paths.specs.declared.entry.Parts.{Parts}
use Rattle.mm_paths.specs.Stored.{paths_in, starts_from, starts_of, ArePartsOf, IsStart}
use Rattle.mm_paths.proofs.Building.{take_at_more}

pub low_or : (m n : ℕ) → (m < n) ⊎ (n ≤ m)
low_or m n = grind arith

pub starts-same : (f h : ℕ → List Path) (n : ℕ) (vs : List ℕ) → ((v : ℕ) → Has vs v → f v ≡ h v) → starts_from f n vs ≡ starts_from h n vs
starts-same f h n [] e = refl
starts-same f h n (v ∷ vs) e = ap (λ z. n ∷ z) (starts-same f h (n + length (f v)) vs (λ w k. e w (later k)) ∙ ap (λ (z : List Path). starts_from h (n + length z) vs) (e v (first refl)))

pub starts-long : (f : ℕ → List Path) (n : ℕ) (vs : List ℕ) → length (starts_from f n vs) ≡ length vs
starts-long f n [] = refl
starts-long f n (v ∷ vs) = ap suc (starts-long f (n + length (f v)) vs)

pub starts-at : (f : ℕ → List Path) (n : ℕ) (vs : List ℕ) (j : ℕ) → j < length vs → get_or (starts_from f n vs) j 0 ≡ n + length (flat_map f (take j vs))
starts-at f n [] j l = absurd (omega arith)
starts-at f n (v ∷ vs) zero l = omega arith
starts-at f n (v ∷ vs) (suc j) l =
    let i = starts-at f (n + length (f v)) vs j (omega arith) in
    let k = length-append (f v) (flat_map f (take j vs)) in omega arith

starts-end : (f : ℕ → List Path) (n : ℕ) (vs : List ℕ) (v : ℕ) → starts_from f n (vs ++ v ∷ []) ≡ starts_from f n vs ++ (n + length (flat_map f vs)) ∷ []
starts-end f n [] v = ap (λ k. k ∷ []) (let z : n ≡ n + length (flat_map f []) = omega arith in z)
starts-end f n (w ∷ vs) v = ap (λ z. n ∷ z) (starts-end f (n + length (f w)) vs v
    ∙ ap (λ k. starts_from f (n + length (f w)) vs ++ k ∷ []) (let k = length-append (f w) (flat_map f vs) in let z : n + length (f w) + length (flat_map f vs) ≡ n + length (flat_map f (w ∷ vs)) = omega arith in z))

-- one more start
pub starts-more : (f : ℕ → List Path) (olds ns : List Node) (vs : List ℕ) (i x : ℕ) (starts next : List ℕ) → x ≡ get_or vs i x → i < length vs
    → paths_in ns ≡ paths_in olds ++ flat_map f (take i vs) → starts ≡ starts_from f (length olds) (take i vs) → next ≡ starts ++ length ns ∷ [] → next ≡ starts_from f (length olds) (take (i + 1) vs)
starts-more f olds ns vs i x starts next ex l e s n =
    let p = length-map ns (λ (y : Node). y.path.items) in
    let q = length-map olds (λ (y : Node). y.path.items) in
    let a = ap length e in
    let t = length-append (paths_in olds) (flat_map f (take i vs)) in
    let k : length ns ≡ length olds + length (flat_map f (take i vs)) = omega (arith, p, q, a, t) in
    n ∙ (ap₂ (λ y z. y ++ z ∷ []) s k ∙ (sym (starts-end f (length olds) (take i vs) x) ∙ ap (starts_from f (length olds)) (sym (take_at_more vs i x ex l))))

pub starts-kept : (g g' : List Class) (ok : IsClassList g) → length g ≤ length g' → ((x : ℕ) → (class_at g x).complete ≡ true → class_at g' x ≡ class_at g x)
    → (x : ℕ) → (class_at g x).complete ≡ true → starts_of g' x ≡ starts_of g x
starts-kept g g' ok longer same x k =
    ap₂ (λ (n : ℕ) (vs : List ℕ). starts_from (chains g' (length g')) n vs) (ap length (chains-all_kept g g' ok longer same x k)) (virtual_bases-kept g g' ok longer same x k)
    ∙ starts-same (chains g' (length g')) (chains g (length g)) (length (chains g (length g) x)) (virtual_bases g x) (λ v h. chains-all_kept g g' ok longer same v (virtual_bases_complete g ok x v h))

-- each start is a number of a node, or the number past the last
pub starts-low : (g : List Class) (d j : ℕ) → length (subobjects_of g d) ≤ 256 → get_or (starts_of g d) j 0 ≤ 256
starts-low g d j few = elim (low_or j (length (virtual_bases g d))) [
  | inl l ↦ (
      let f = chains g (length g) in
      let vs = virtual_bases g d in
      let s : get_or (starts_of g d) j 0 ≡ length (f d) + length (flat_map f (take j vs)) = starts-at f (length (f d)) vs j l in
      let e : length (flat_map f vs) ≡ length (flat_map f (take j vs)) + length (flat_map f (drop j vs)) =
      ap (λ z. length (flat_map f z)) (sym (take-append-drop j vs)) ∙ (ap length (flat_map-append f (take j vs) (drop j vs)) ∙ length-append (flat_map f (take j vs)) (flat_map f (drop j vs))) in
      let a : length (subobjects_of g d) ≡ length (f d) + length (flat_map f vs) = length-append (f d) (flat_map f vs) in omega arith)
  | inr l ↦ (
      let k = starts-long (chains g (length g)) (length (chains g (length g) d)) (virtual_bases g d) in
      let e : get_or (starts_of g d) j 0 ≡ 0 = get_or_past (starts_of g d) j 0 (omega arith) in omega arith)
]

pub start_is : (g : List Class) (c v r : ℕ) (p : Parts) (shared starts : List ℕ) → ArePartsOf g c p → shared ≡ p.shared.items → starts ≡ p.starts.items
    → (k : ℕ) × (k < length shared) × (get_or shared k 0 ≡ v) × (r ≡ get_or starts k 0) → IsStart g c v r
start_is g c v r p shared starts a es et h =
    let vs : shared ≡ virtual_bases g c = es ∙ a.shared in
    let ss : starts ≡ starts_of g c = et ∙ a.starts in
    let l : h.0 < length (virtual_bases g c) = (let z = h.1 in let y = ap length vs in omega arith) in (
      h.0,
      l,
      ap (λ z. get_or z h.0 0) (sym vs) ∙ h.2,
      h.3 ∙ (ap (λ z. get_or z h.0 0) ss ∙ starts-at (chains g (length g)) (length (chains g (length g) c)) (virtual_bases g c) h.0 l),
    )

pub has_shared : (g : List Class) (c v : ℕ) (p : Parts) (shared : List ℕ) → ArePartsOf g c p → shared ≡ p.shared.items → Has (virtual_bases g c) v → Has shared v
has_shared g c v p shared a e h = subst (λ (z : List ℕ). Has z v) (sym (e ∙ a.shared)) h

pub as_long_as : (g : List Class) (c : ℕ) (p : Parts) (shared starts : List ℕ) → ArePartsOf g c p → shared ≡ p.shared.items → starts ≡ p.starts.items → length starts ≡ length shared
as_long_as g c p shared starts a es et =
    ap length (et ∙ a.starts) ∙ (starts-long (chains g (length g)) (length (chains g (length g) c)) (virtual_bases g c) ∙ sym (ap length (es ∙ a.shared)))

-- the number of a composition
module _ (g : List Class) (ok : IsClassList g) (d n m c : ℕ) (hn : IsNode g d n) (hm : IsNode g (end_of (node g d n)) m) (ec : c ≡ end_of (node g d n)) where
  pub composed_on : (own : ℕ) → own ≡ length (chains g (length g) c) → m < own
      → IsNode g d (n + m) × (node g d (n + m) ≡ compose (node g d n) (node g (end_of (node g d n)) m))
  composed_on own e l = place_on g ok d n m hn (let z = ap (λ x. length (chains g (length g) x)) ec in omega arith)

  pub head_in : (own v : ℕ) (path : List ℕ) → own ≡ length (chains g (length g) c) → own ≤ m → path ≡ node g c m → v ≡ get_or path 0 v
      → Has (virtual_bases g c) v × Has (virtual_bases g d) v
  head_in own v path e l p f =
      let r = head_virtual g ok d n m v hn hm (let z = ap (λ x. length (chains g (length g) x)) ec in omega arith) (f ∙ ap (λ z. get_or z 0 v) (p ∙ ap (λ x. node g x m) ec)) in
      (subst (λ x. Has (virtual_bases g x) v) (sym ec) r.0, r.1)

  pub composed_anew : (own v r s : ℕ) (path : List ℕ) → own ≡ length (chains g (length g) c) → own ≤ m → path ≡ node g c m → v ≡ get_or path 0 v → IsStart g c v r → IsStart g d v s
      → (r ≤ m) × IsNode g d (s + (m - r)) × (node g d (s + (m - r)) ≡ compose (node g d n) (node g (end_of (node g d n)) m))
  composed_anew own v r s path e l p f a b =
      let a' = subst (λ x. IsStart g x v r) ec a in
      let k = place_anew g ok d n m a'.0 b.0 v hn hm (let z = ap (λ x. length (chains g (length g) x)) ec in omega arith) (f ∙ ap (λ z. get_or z 0 v) (p ∙ ap (λ x. node g x m) ec)) a'.1 a'.2 b.1 b.2 in
      let i : start_of g d b.0 + (m - start_of g (end_of (node g d n)) a'.0) ≡ s + (m - r) = (let y = a'.3 in let z = b.3 in ap₂ (λ p q. p + (m - q)) (sym z) (sym y)) in
      ((let y = a'.3 in let z = k.0 in omega arith), subst (λ x. IsNode g d x) i k.1, ap (node g d) (sym i) ∙ k.2)
