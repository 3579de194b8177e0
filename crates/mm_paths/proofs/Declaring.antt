-- A graph with one more name keeps its invariant.
use Rattle.std.proofs.Common.{◌≡◌, ℕ, ◌-◌, ◌<◌, ◌≤◌, ◌^◌, List, [], ◌∷◌, ◌++◌, length, get_or, sym, subst, ap, ◌∙◌, arith, length-append}
use Rattle.std.specs.Prelude.{true, false, cond, nat_lt}
use Rattle.std.proofs.lemmas.Bool.Decides.{nat_tests}
use Rattle.std.proofs.lemmas.List.{get_or_append_left, get_or-map, length-map}
use Rattle.mm_classes.specs.Lists.{Has}
use Rattle.mm_classes.specs.Classes.{Class, class_at, names_in, unknown, IsClassList}
use Rattle.mm_classes.specs.Adding.{fresh, IsNamed, declared}
use Rattle.mm_classes.proofs.Declaring.{declared-valid, declared-same, declared-longer, same_complete}
use Rattle.mm_classes.proofs.Answering.{complete_below, place_from_Has}
use Rattle.mm_paths.specs.declared.entry.Parts.{Parts}
use Rattle.mm_paths.specs.Stored.{ArePartsOf, IsStored}
use Rattle.mm_paths.proofs.Keeping.{parts_kept}

below_is : (c m : ℕ) → c < m → nat_lt c m ≡ true
below_is c m l = grind (arith, nat_tests)

above_is : (c m : ℕ) → m ≤ c → nat_lt c m ≡ false
above_is c m l = grind (arith, nat_tests)

declared_old : (c : ℕ) (g : List Class) (n : List ℕ) → c < length g → declared c g n ≡ g
declared_old c g n l = ap (λ b. cond b g (g ++ fresh n ∷ [])) (below_is c (length g) l)

declared_new : (c : ℕ) (g : List Class) (n : List ℕ) → c ≡ length g → declared c g n ≡ g ++ fresh n ∷ []
declared_new c g n e = ap (λ b. cond b g (g ++ fresh n ∷ [])) (above_is c (length g) (omega arith))

unnamed : (g : List Class) (n : List ℕ) (c : ℕ) → IsNamed c g n → c ≡ length g → Has (names_in g) n → ⊥
unnamed g n c h e k =
    let r = place_from_Has (names_in g) [] k in
    let m = length-map g (λ (x : Class). x.name) in
    let z = r.1 in
    h.1 r.0 (omega arith) (sym (get_or-map (λ (x : Class). x.name) g r.0 unknown [] (omega arith)) ∙ r.2)

module _ (g : List Class) (ps : List Parts) (s : IsStored g ps) (n : List ℕ) (p : Parts) where
  each_old : (x : ℕ) (d : Parts) → (class_at (g ++ fresh n ∷ []) x).complete ≡ true → ArePartsOf (g ++ fresh n ∷ []) x (get_or (ps ++ p ∷ []) x d)
  each_old x d k =
      let k' : (class_at g x).complete ≡ true = sym (same_complete g n x) ∙ k in
      let l = complete_below g x k' in
      let o : get_or (ps ++ p ∷ []) x d ≡ get_or ps x d = get_or_append_left ps (p ∷ []) d x (let z = s.long in omega arith) in
      subst (ArePartsOf (g ++ fresh n ∷ []) x) (sym o)
      (parts_kept g (g ++ fresh n ∷ []) s.valid (declared-longer g n) (λ y h. declared-same g n y h) x (get_or ps x d) k' (s.each x d k'))

  pub declared_stored : (c : ℕ) → length g < 2 ^ 32 - 1 → IsNamed c g n → c ≡ length ps → IsStored (declared c g n) (ps ++ p ∷ [])
  declared_stored c few h e =
      let ce : c ≡ length g = e ∙ s.long in
      subst (λ z. IsStored z (ps ++ p ∷ [])) (sym (declared_new c g n ce)) record {
        valid = declared-valid g n s.valid (unnamed g n c h ce);
        few = let a = length-append g (fresh n ∷ []) in omega arith;
        long = let a = length-append g (fresh n ∷ []) in let b = length-append ps (p ∷ []) in let z = s.long in omega arith;
        each = each_old;
      }

  pub declared_kept : (c : ℕ) → IsNamed c g n → (c ≡ length ps → ⊥) → IsStored (declared c g n) ps
  declared_kept c h ne = subst (λ z. IsStored z ps) (sym (declared_old c g n (let z = s.long in let l = h.0 in let other : c ≡ length g → ⊥ = (λ e. ne (e ∙ sym z)) in below c (length g) l other))) s where
    below : (a b : ℕ) → a ≤ b → (a ≡ b → ⊥) → a < b
    below a b l ne = grind arith
