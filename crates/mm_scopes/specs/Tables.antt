-- The tables by which names are found. Own.
use Rattle.std.specs.Prelude.{◌≡◌, ℕ, suc, Bool, true, nat_lt, List, [], ◌∷◌, ◌++◌, length, take, get_or, slice_get, Option, Some, None, unwrap_or, if◌then◌else◌, String, Vec}
use Rattle.std.specs.Str.{bytes_eq}
use Rattle.indexmap.specs.IndexMap.{IndexMap, get_by_text}
use Rattle.mm_scopes.specs.declared.head.Var.{Var}
use Rattle.mm_scopes.specs.declared.head.FnHead.{FnHead}

-- ---- variables

-- the place of the innermost variable of the name
abbrev pub place_or : Option ℕ → Option ℕ → Option ℕ
place_or (Some k) other = Some (suc k)
place_or None other = other

abbrev pub place_of : List Var → List ℕ → Option ℕ
place_of [] x = None
place_of (v ∷ vs) x = place_or (place_of vs x) (if bytes_eq v.name x then Some 0 else None)

-- the place is none, or before n
abbrev pub is_before : ℕ → Option ℕ → Bool
is_before n None = true
is_before n (Some k) = nat_lt k n

-- `innermost` has the place of the innermost variable of each name, and `hidden` of each variable the place of the one that
-- it hides
pub record Ties {A S : Type 0} (vs : List Var) (hidden : List (Option ℕ)) (innermost : IndexMap (String A) (Option ℕ) S) : Type 0 where
  pub long : length hidden ≡ length vs
  pub inside : (x : List ℕ) → unwrap_or (get_by_text innermost x) None ≡ place_of vs x
  pub outside : (k : ℕ) (v : Var) → slice_get vs k ≡ Some v → get_or hidden k None ≡ place_of (take k vs) v.name

-- ---- functions

-- the places of the functions of the name, where the list begins at n
abbrev pub places_from : ℕ → List FnHead → List ℕ → List ℕ
places_from n [] x = []
places_from n (f ∷ fs) x = if bytes_eq f.name x then n ∷ places_from (suc n) fs x else places_from (suc n) fs x

abbrev pub places_of : List FnHead → List ℕ → List ℕ
places_of fs x = places_from 0 fs x

abbrev pub listed : {B : Type 0} → Option (Vec ℕ B) → List ℕ
listed None = []
listed (Some places) = places.items

-- `places` has the places of the functions of each name
pub record AreListed {A B S : Type 0} (fs : List FnHead) (places : IndexMap (String A) (Vec ℕ B) S) : Type 0 where
  pub each : (x : List ℕ) → listed (get_by_text places x) ≡ places_of fs x

-- every name has the same places
abbrev pub AreSame : {A B S : Type 0} → (old new : IndexMap (String A) (Vec ℕ B) S) → Type 0
AreSame old new = (x : List ℕ) → listed (get_by_text new x) ≡ listed (get_by_text old x)

-- this name has one more place, behind the others, and each other name has the same
abbrev pub IsOneMore : {A B S : Type 0} → IndexMap (String A) (Vec ℕ B) S → List ℕ → ℕ → IndexMap (String A) (Vec ℕ B) S → Type 0
IsOneMore old name place new = (x : List ℕ) → listed (get_by_text new x) ≡
    (if bytes_eq name x then listed (get_by_text old name) ++ place ∷ [] else listed (get_by_text old x))
