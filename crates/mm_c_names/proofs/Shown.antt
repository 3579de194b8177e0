-- One local more, and one less.
use Rattle.std.specs.Prelude.{Bool, true, false, cond, unwrap_or, slice_get}
use Rattle.std.specs.Borrow.{Bor}
use Rattle.std.specs.Str.{bytes_eq}
use Rattle.std.specs.HashMap as hash
use Rattle.std.proofs.lemmas.Map.Text.{hash_map_updates_str}
use Rattle.std.proofs.lemmas.Slice.Eq.{bytes_eq-Decides}
use Rattle.std.proofs.lemmas.List.{drop_more, reverse-append}
use Rattle.std.proofs.Common.{◌≡◌, ℕ, zero, suc, ◌+◌, ◌<◌, ◌≤◌, List, [], ◌∷◌, ◌++◌, Option, Some, None, ◌-◌, length, drop, take, get_or, reverse, refl, sym, ap, ◌∙◌, arith}
use Rattle.indexmap.specs.IndexMap.{IndexMap}
use Rattle.mm_c.specs.declared.tree.CKind.{CKind}
use Rattle.mm_c.specs.declared.tree.CLocal.{CLocal}
use Rattle.mm_c.specs.WellFormed.{kind_in}
use Rattle.mm_c_names.specs.declared.scope.Shown as held
use Rattle.mm_c_names.specs.Scopes.{locals_in, AreShown, IsScope}
use Rattle.mm_c_names.specs.Tables.{at}

abbrev Changed : {S : Type 0} → List ℕ → Option CKind → (old new : IndexMap (Bor (List ℕ)) (Option CKind) S) → Type 0
Changed n k old new = hash.UpdatesBy (λ (x y : Bor (List ℕ)). bytes_eq x.now y.now) (λ (k : Bor (List ℕ)). bytes_eq n k.now) old new (Some k)

last_first : (ss : List held.Shown) (s : held.Shown) → reverse (ss ++ s ∷ []) ≡ s ∷ reverse ss
last_first ss s = reverse-append ss (s ∷ [])

pub shown_first : (old new : List held.Shown) (s : held.Shown) → new ≡ old ++ s ∷ [] → locals_in (reverse new) ≡ s.local.now ∷ locals_in (reverse old)
shown_first old new s e = ap (λ x. locals_in (reverse x)) e ∙ ap locals_in (last_first old s)

kind_at : (l : CLocal) (ls : List CLocal) (x : List ℕ) (b : Bool) → bytes_eq l.name x ≡ b → kind_in (l ∷ ls) x ≡ elim b as (λ z. Option CKind) [ true ↦ Some l.kind | false ↦ kind_in ls x ]
kind_at l ls x b e = ap (λ c. elim c as (λ z. Option CKind) [ true ↦ Some l.kind | false ↦ kind_in ls x ]) e

module _ {S : Type 0} (kinds after : IndexMap (Bor (List ℕ)) (Option CKind) S) (s : held.Shown) (n : List ℕ) (named : n ≡ s.local.now.name) where
  more : (ss : List held.Shown) → s.without ≡ kind_in (locals_in ss) s.local.now.name → Changed n (Some s.local.now.kind) kinds after → IsScope ss kinds → IsScope (s ∷ ss) after
  more ss w up h = record { outer = (w, h.outer); kind = kind } where
    kind : (x : List ℕ) → unwrap_or (at after x) None ≡ kind_in (locals_in (s ∷ ss)) x
    kind x =
        ap (λ o. unwrap_or o None) (hash_map_updates_str n kinds after _ up x)
        ∙ ap (λ y. unwrap_or (cond (bytes_eq y x) (Some (Some s.local.now.kind)) (at kinds x)) None) named
        ∙ go (bytes_eq s.local.now.name x)
        ∙ sym (kind_at s.local.now (locals_in ss) x (bytes_eq s.local.now.name x) refl)
      where
        go : (b : Bool) → unwrap_or (cond b (Some (Some s.local.now.kind)) (at kinds x)) None ≡ elim b as (λ z. Option CKind) [ true ↦ Some s.local.now.kind | false ↦ kind_in (locals_in ss) x ]
        go true = refl
        go false = h.kind x

  less : (ss : List held.Shown) → Changed n s.without kinds after → IsScope (s ∷ ss) kinds → IsScope ss after
  less ss up h = record { outer = h.outer.1; kind = kind } where
    kind : (x : List ℕ) → unwrap_or (at after x) None ≡ kind_in (locals_in ss) x
    kind x =
        ap (λ o. unwrap_or o None) (hash_map_updates_str n kinds after _ up x)
        ∙ ap (λ y. unwrap_or (cond (bytes_eq y x) (Some s.without) (at kinds x)) None) named
        ∙ go (bytes_eq s.local.now.name x) refl
      where
        go : (b : Bool) → bytes_eq s.local.now.name x ≡ b → unwrap_or (cond b (Some s.without) (at kinds x)) None ≡ kind_in (locals_in ss) x
        go true e = h.outer.0 ∙ ap (kind_in (locals_in ss)) ((bytes_eq-Decides s.local.now.name x).0 e)
        go false e = h.kind x ∙ kind_at s.local.now (locals_in ss) x false e

  pub scope_more : (old new : List held.Shown) → new ≡ old ++ s ∷ [] → s.without ≡ kind_in (locals_in (reverse old)) s.local.now.name → Changed n (Some s.local.now.kind) kinds after → IsScope (reverse old) kinds → IsScope (reverse new) after
  scope_more old new e w up h = rw e (rw (last_first old s) (more (reverse old) w up h))

  pub scope_less : (old new : List held.Shown) → old ≡ new ++ s ∷ [] → Changed n s.without kinds after → IsScope (reverse old) kinds → IsScope (reverse new) after
  scope_less old new e up h = less (reverse new) up (rw (sym (last_first new s)) (rw (sym e) h))

pub shown-more : (ls : List CLocal) (seen : List CLocal) (i : ℕ) (d : CLocal) → i < length ls → d ≡ get_or ls i d → d ∷ (drop (i + 1) ls ++ seen) ≡ drop i ls ++ seen
shown-more ls seen i d l at = sym (ap (λ x. x ++ seen) (drop_more ls i d l) ∙ ap (λ x. x ∷ (drop (i + 1) ls ++ seen)) (sym at))

-- a list and its last element
at_last : (ss : List held.Shown) (k : ℕ) (s : held.Shown) → length ss ≡ suc k → Some s ≡ slice_get ss k → ss ≡ take k ss ++ s ∷ []
at_last [] k s l e = absurd (cc)
at_last (x ∷ []) zero s l e = ap (λ y. y ∷ []) (let z : x ≡ s = cc in z)
at_last (x ∷ []) (suc k) s l e = absurd (cc)
at_last (x ∷ y ∷ ss) zero s l e = absurd (omega arith)
at_last (x ∷ y ∷ ss) (suc k) s l e = ap (λ z. x ∷ z) (at_last (y ∷ ss) k s (omega arith) e)

pub last_split : (ss rest : List held.Shown) (n : ℕ) (s : held.Shown) → n ≡ length ss → Some s ≡ slice_get ss (length ss - 1) → rest ≡ take (n - 1) ss → ss ≡ rest ++ s ∷ []
last_split [] rest n s l e r = absurd (cc)
last_split (x ∷ ss) rest n s l e r =
    let k : length (x ∷ ss) - 1 ≡ length ss = omega arith in
    let m : n - 1 ≡ length ss = omega arith in
    at_last (x ∷ ss) (length ss) s refl (e ∙ ap (slice_get (x ∷ ss)) k) ∙ ap (λ y. y ++ s ∷ []) (sym (r ∙ ap (λ j. take j (x ∷ ss)) m))

-- the kind of a name
pub kind_found : {S : Type 0} (kinds : IndexMap (Bor (List ℕ)) (Option CKind) S) (ss : List held.Shown) (ls : List CLocal) (x y : List ℕ) (k : Option CKind) → IsScope ss kinds → locals_in ss ≡ ls → x ≡ y → Some k ≡ at kinds x → k ≡ kind_in ls y
kind_found kinds ss ls x y k h e f g = ap (λ o. unwrap_or o None) g ∙ h.kind x ∙ (λ j. kind_in (e j) (f j))

-- one less
pub drop_one : (ls : List CLocal) (i : ℕ) → drop 1 (drop i ls) ≡ drop (i + 1) ls
drop_one [] zero = refl
drop_one [] (suc i) = let e : suc (suc i) ≡ suc i + 1 = omega arith in ap (λ j. drop j []) e
drop_one (l ∷ ls) zero = refl
drop_one (l ∷ ls) (suc i) = drop_one ls i ∙ (let e : suc (i + 1) ≡ suc i + 1 = omega arith in ap (λ j. drop j (l ∷ ls)) e)
