-- The steps of the loops that find the access of a new class's subobjects.
use Rattle.std.proofs.Common.{◌≡◌, ℕ, zero, suc, ◌+◌, ◌<◌, ◌≤◌, List, [], ◌∷◌, ◌++◌, length, get_or, set, take, refl, sym, subst, ap, ap₂, ◌∙◌, arith}
use Rattle.std.specs.Prelude.{true, false, Option, None, Some}
use Rattle.std.proofs.lemmas.List.{length-map}
use Rattle.mm_classes.specs.declared.class.Access.{Access}
use Rattle.mm_classes.specs.declared.class.Base.{Base}
use Rattle.mm_classes.specs.Lists.{Has}
use Rattle.mm_classes.specs.Classes.{Class, IsClassList}
use Rattle.mm_classes.specs.Subobjects.{Path, subobjects_of, compose}
use Rattle.mm_classes.specs.Access.{passed, greater, link_of}
use Rattle.mm_classes.specs.Questions.{node, IsNode}
use Rattle.mm_classes.specs.Adding.{CanAdd, new_virtual_bases, new_subobjects}
use Rattle.mm_paths.specs.declared.entry.Node.{Node}
use Rattle.mm_paths.specs.Ends.{base_at}
use Rattle.mm_paths.specs.Stored.{paths_in, HaveAccess, new_starts}
use Rattle.mm_paths.specs.Reach.{AreGreatest, AreGreatestWith, AreStarts, IsPlaced}
use Rattle.mm_paths.proofs.Building.{has_here}
use Rattle.mm_paths.proofs.Looking.{base_same}
use Rattle.mm_paths.proofs.Raising.{starts_fit, placed_node, with_none, raised, with_all}

pub same_entry : (xs : List (Option Access)) (i : ℕ) (d e : Option Access) → i < length xs → get_or xs i d ≡ get_or xs i e
same_entry [] i d e l = absurd (omega arith)
same_entry (x ∷ xs) zero d e l = refl
same_entry (x ∷ xs) (suc i) d e l = same_entry xs i d e (omega arith)

-- one more without access
pub none_more : (xs : List (Option Access)) → ((i : ℕ) → get_or xs i None ≡ None) → (i : ℕ) → get_or (xs ++ None ∷ []) i None ≡ None
none_more [] h zero = refl
none_more [] h (suc i) = refl
none_more (x ∷ xs) h zero = h 0
none_more (x ∷ xs) h (suc i) = none_more xs (λ k. h (suc k)) i

pub few_new : (ns : List Node) (ps : List Path) → paths_in ns ≡ ps → length ns ≤ 256 → length ps ≤ 256
few_new ns ps e l = let a = length-map ns (λ (x : Node). x.path.items) in let b = ap length e in omega arith

-- the n-th base of a class that is completed, and the access of the subobjects of its class
module _ (g : List Class) (ok : IsClassList g) (c : ℕ) (bs : List Base) (new : CanAdd g c bs []) (n at : ℕ) (b : Base) (eb : b ≡ get_or bs n b) (l : n < length bs)
    (here : at < length (new_subobjects g c bs)) (link : get_or (new_subobjects g c bs) at [] ≡ link_of c (base_at bs n)) (ns : List Node) (en : paths_in ns ≡ new_subobjects g c bs) (few : length ns ≤ 256)
    (shared starts : List ℕ) (es : shared ≡ new_virtual_bases g bs) (et : starts ≡ new_starts g c bs) (accs : List (Option Access)) (ha : HaveAccess g b.class accs) where
  has_b : Has bs b
  has_b = has_here bs n b eb l

  link_b : get_or (new_subobjects g c bs) at [] ≡ link_of c b
  link_b = link ∙ sym (ap (link_of c) (eb ∙ base_same bs n b l))

  in_b : (k : ℕ) → k < length accs → IsNode g b.class k
  in_b k h = let e = ha.long in omega arith

  pub step_starts : (k : ℕ) → k < length accs → AreStarts g b.class k shared starts
  step_starts k h = starts_fit g ok c bs new b at has_b here link_b k shared starts (in_b k h) (few_new ns (new_subobjects g c bs) en few) es et

  step_place : (k r : ℕ) → k < length accs → IsPlaced g b.class at k shared starts r
      → (r < length (new_subobjects g c bs)) × (get_or (new_subobjects g c bs) r [] ≡ compose (link_of c b) (node g b.class k))
  step_place k r h p = placed_node g ok c bs new b at has_b here link_b k r shared starts (in_b k h) p es et

  pub step_inside : (k r : ℕ) → k < length accs → IsPlaced g b.class at k shared starts r → r < length (new_subobjects g c bs)
  step_inside k r h p = (step_place k r h p).0

  pub step_more : (k r : ℕ) (xs : List (Option Access)) (a p z : Option Access) → k < length accs → IsPlaced g b.class at k shared starts r → length xs ≡ length (new_subobjects g c bs)
      → a ≡ get_or xs r a → p ≡ passed b.access (get_or accs k None) → z ≡ greater a p → AreGreatestWith g c bs n b k xs → AreGreatestWith g c bs n b (k + 1) (set xs r z)
  step_more k r xs a p z h q long ea ep ez before =
      let i = step_inside k r h q in
      raised g ok c bs new n b k r (get_or accs k None) xs long i (step_place k r h q).1 (ha.each k (in_b k h)) before z
      (ez ∙ ap₂ greater (ea ∙ same_entry xs r a None (omega arith)) ep)

  pub step_none : (xs : List (Option Access)) → AreGreatest g c bs n xs → AreGreatestWith g c bs n b 0 xs
  step_none xs h = with_none g ok c bs new n b xs h

  pub step_all : (k : ℕ) (xs : List (Option Access)) → k ≤ length accs → length accs ≤ k → AreGreatestWith g c bs n b k xs → AreGreatest g c bs (n + 1) xs
  step_all k xs lo hi h = with_all g ok c bs new n b k xs eb l (let e = ha.long in omega arith) h
