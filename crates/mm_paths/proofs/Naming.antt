-- The members by their names, found from the last to the first.
use Rattle.std.proofs.Common.{◌≡◌, ◌≢◌, ℕ, ◌+◌, ◌<◌, ◌≤◌, List, [], length, get_or, set, map, refl, sym, subst, ap, ◌∙◌, inl, inr, arith, length-set}
use Rattle.std.specs.Prelude.{true, false, cond, ◌⊎◌, Option, None, Some, String, string_bytes}
use Rattle.std.specs.Str.{bytes_eq}
use Rattle.std.specs.String.{string_eq}
use Rattle.std.specs.HashMap.{HashMap, UpdatesBy, get_by_text}
use Rattle.std.proofs.lemmas.Map.Text.{hash_map_updates_text}
use Rattle.std.proofs.lemmas.Slice.Eq.{bytes_eq-Decides}
use Rattle.std.proofs.lemmas.Bool.Decides.{eqb_tells}
use Rattle.std.proofs.lemmas.List.{get_or-set_same, get_or-set_other, get_or-map}
use Rattle.mm_classes.specs.declared.class.Member.{Member}
use Rattle.mm_classes.specs.Classes.{member_name, IsNextNamed}

first_or : (i j : ℕ) → i ≤ j → (j ≡ i) ⊎ (i + 1 ≤ j)
first_or i j l = grind arith

-- from a member of another name on
next_else : (x : Option ℕ) (ms : List Member) (cs : List ℕ) (i : ℕ) → member_name ms i ≢ cs → IsNextNamed x ms cs (i + 1) → IsNextNamed x ms cs i
next_else None ms cs i ne h = λ j l k e. elim (first_or i j l) [ inl s ↦ ne (ap (member_name ms) (sym s) ∙ e) | inr m ↦ h j m k e ]
next_else (Some n) ms cs i ne h = (
  (let z = h.0 in omega arith),
  h.1,
  h.2,
  λ j l k e. elim (first_or i j l) [ inl s ↦ ne (ap (member_name ms) (sym s) ∙ e) | inr m ↦ h.3 j m k e ],
)

next_here : (ms : List Member) (i : ℕ) → i < length ms → IsNextNamed (Some i) ms (member_name ms i) i
next_here ms i l = (omega arith, l, refl, λ j a b. absurd (omega arith))

pub member_is : (ms : List Member) (i : ℕ) (x : Member) (name : List ℕ) → x ≡ get_or ms i x → i < length ms → name ≡ x.name → name ≡ member_name ms i
member_is ms i x name ex l e = e ∙ (ap (λ (m : Member). m.name) ex ∙ sym (get_or-map (λ (m : Member). m.name) ms i x [] l))

-- one more member, in front
module _ {A S : Type 0} (ms : List Member) (k i : ℕ) (first new : HashMap (String A) ℕ S) (name : List ℕ) (ek : i + 1 ≡ k) (en : name ≡ member_name ms i) (l : i < length ms)
    (up : UpdatesBy string_eq (λ x. bytes_eq name (string_bytes x)) first new (Some i)) (before : (cs : List ℕ) → IsNextNamed (get_by_text first cs) ms cs k) where
  pub start_more : (cs : List ℕ) → IsNextNamed (get_by_text new cs) ms cs i
  start_more cs =
      let u = hash_map_updates_text name first new (Some i) up cs in
      let d = bytes_eq-Decides name cs in
      elim (bytes_eq name cs) as (λ b. bytes_eq name cs ≡ b → IsNextNamed (get_by_text new cs) ms cs i) [
        | true ↦ λ t. (
            let same : member_name ms i ≡ cs = sym en ∙ d.0 t in
            let e : get_by_text new cs ≡ Some i = u ∙ ap (λ b. cond b (Some i) (get_by_text first cs)) t in
            subst (λ x. IsNextNamed x ms cs i) (sym e) (subst (λ z. IsNextNamed (Some i) ms z i) same (next_here ms i l)))
        | false ↦ λ t. (
            let e : get_by_text new cs ≡ get_by_text first cs = u ∙ ap (λ b. cond b (Some i) (get_by_text first cs)) t in
            let ne : member_name ms i ≢ cs = (λ s. let z : false ≡ true = sym t ∙ d.1 (en ∙ s) in cc) in
            subst (λ x. IsNextNamed x ms cs i) (sym e) (next_else (get_by_text first cs) ms cs i ne (subst (IsNextNamed (get_by_text first cs) ms cs) (sym ek) (before cs))))
      ] refl

  pub next_more : (next : List (Option ℕ)) (x : Option ℕ) → x ≡ get_by_text first name → length next ≡ length ms
      → ((j : ℕ) → k ≤ j → j < length ms → IsNextNamed (get_or next j None) ms (member_name ms j) (j + 1))
      → (j : ℕ) → i ≤ j → j < length ms → IsNextNamed (get_or (set next i x) j None) ms (member_name ms j) (j + 1)
  next_more next x ex long h j lo hi = elim (eqb_tells j i) [
    | inl e ↦ (
        let at : get_or (set next i x) i None ≡ get_by_text first (member_name ms i) = get_or-set_same next i x None (omega arith) ∙ (ex ∙ ap (get_by_text first) en) in
        subst (λ z. IsNextNamed (get_or (set next i x) z None) ms (member_name ms z) (z + 1)) (sym e.1)
        (subst (λ z. IsNextNamed z ms (member_name ms i) (i + 1)) (sym at)
        (subst (IsNextNamed (get_by_text first (member_name ms i)) ms (member_name ms i)) (sym ek) (before (member_name ms i)))))
    | inr e ↦ (let n = e.1 in subst (λ z. IsNextNamed z ms (member_name ms j) (j + 1)) (sym (get_or-set_other next i j x None n))
        (h j (apart i j k lo n ek) hi))
  ] where
    apart : (i j k : ℕ) → i ≤ j → j ≢ i → i + 1 ≡ k → k ≤ j
    apart i j k a b c = grind arith
