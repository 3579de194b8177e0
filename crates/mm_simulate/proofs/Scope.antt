-- What a function declares: each name with its kind, and no name twice.
use Rattle.std.proofs.Common.{◌≡◌, ◌≢◌, ℕ, zero, suc, ◌+◌, ◌<◌, ◌≤◌, List, [], ◌∷◌, ◌++◌, map, length, refl, sym, ap, ap₂, ◌∙◌, subst, arith, inl, inr}
use Rattle.std.specs.Prelude.{Bool, true, false, not, ◌⊎◌, nat_eq, Option, Some, None, if◌then◌else◌}
use Rattle.std.specs.Str.{bytes_eq}
use Rattle.std.proofs.lemmas.Bool.{eqb-true, eq-eqb}
use Rattle.std.proofs.lemmas.Slice.Eq.{bytes_eq-Decides}
use Rattle.mm_classes.specs.declared.class.Ty.{Ty}
use Rattle.mm_classes.specs.Lists.{Has, first, later, Distinct}
use Rattle.mm_core.specs.Heads.{type_at}
use Rattle.mm_c.specs.declared.tree.CKind.{CKind}
use Rattle.mm_c.specs.declared.tree.CKind.TheVariants.{Int, Unsigned, Long, Pointer}
use Rattle.mm_c.specs.declared.tree.CLocal.{CLocal}
use Rattle.mm_c.specs.WellFormed.{kind_in, is_in, is_name, locals_fit}
use Rattle.mm_c.proofs.Bools.{both}
use Rattle.mm_agree.specs.Agree.{kind_of}
use Rattle.mm_simulate.specs.Names.{letter, Place, local, temporary, named}
use Rattle.mm_simulate.specs.Lowered.{v_, locals_from, temporary_local, temporaries}
use Rattle.mm_simulate.proofs.Names.{same, one_name, is_false, apart}
use Rattle.mm_simulate.proofs.Defined.{has_either}
use Rattle.mm_simulate.proofs.Mentions.{OneKind}

-- ---- one name, one place

-- the kind that a letter tells
of_letter : ℕ → CKind
of_letter n = if nat_eq n 105 then Int else (if nat_eq n 117 then Unsigned else (if nat_eq n 108 then Long else Pointer))

letter_of : (k : CKind) → of_letter (letter k) ≡ k
unfolding of_letter
letter_of Int = refl
letter_of Unsigned = refl
letter_of Long = refl
letter_of Pointer = refl

one_letter : (k j : CKind) → letter k ≡ letter j → k ≡ j
one_letter k j e = sym (letter_of k) ∙ ap of_letter e ∙ letter_of j

one_place : (p q : Place) → same p q ≡ true → p ≡ q
one_place (local x) (local y) e = ap local (eqb-true x y e)
one_place (local x) (temporary k t) e = cc
one_place (temporary k t) (local y) e = cc
one_place (temporary k t) (temporary j s) e = at (nat_eq (letter k) (letter j)) refl e
  where
    at : (b : Bool) → nat_eq (letter k) (letter j) ≡ b → (if b then nat_eq t s else false) ≡ true → temporary k t ≡ temporary j s
    at true e f = ap₂ temporary (one_letter k j (eqb-true (letter k) (letter j) e)) (eqb-true t s f)
    at false e f = cc

pub named_once : (p q : Place) → named p ≡ named q → p ≡ q
named_once p q e = one_place p q (one_name p q e)

-- ---- kinds in a scope

abbrev pub place_kind : List Ty → Place → CKind
place_kind types (local x) = kind_of (type_at types x)
place_kind types (temporary k t) = k

pub record IsPlaced (types : List Ty) (e : CLocal) : Type 0 where
  pub place : Place
  pub name : e.name ≡ named place
  pub kind : e.kind ≡ place_kind types place

pub record IsThere (ls : List CLocal) (x : List ℕ) : Type 0 where
  pub entry : CLocal
  pub has : Has ls entry
  pub name : entry.name ≡ x

pub found : (types : List Ty) (ls : List CLocal) (p : Place) → ((e : CLocal) → Has ls e → IsPlaced types e) → IsThere ls (named p) → kind_in ls (named p) ≡ Some (place_kind types p)
found types [] p h t = absurd (elim t.has [ ])
found types (e ∷ ls) p h t = at (bytes_eq e.name (named p)) refl (λ u. found types ls p (λ d k. h d (later k)) u)
  where
    here : (d : CLocal) → Has (e ∷ ls) d → d.name ≡ named p → bytes_eq e.name (named p) ≡ false → IsThere ls (named p)
    here d (first q) n off = let z = (bytes_eq-Decides e.name (named p)).1 (ap (λ (y : CLocal). y.name) q ∙ n) in let y : true ≡ false = sym z ∙ off in cc
    here d (later k) n off = record { entry = d; has = k; name = n }

    at : (b : Bool) → bytes_eq e.name (named p) ≡ b → (IsThere ls (named p) → kind_in ls (named p) ≡ Some (place_kind types p)) → elim b as (λ (z : Bool). Option CKind) [ true ↦ Some e.kind | false ↦ kind_in ls (named p) ] ≡ Some (place_kind types p)
    at true is ih = let d = h e (first refl) in ap Some (d.kind ∙ ap (place_kind types) (named_once d.place p (sym d.name ∙ (bytes_eq-Decides e.name (named p)).0 is)))
    at false is ih = ih (here t.entry t.has t.name is)

-- what has a kind is there, and what is there has one
pub entry_of : (ls : List CLocal) (x : List ℕ) (k : CKind) → kind_in ls x ≡ Some k → IsThere ls x
entry_of [] x k e = cc
entry_of (l ∷ ls) x k e = at (bytes_eq l.name x) refl e (entry_of ls x k)
  where
    at : (b : Bool) → bytes_eq l.name x ≡ b → elim b as (λ (z : Bool). Option CKind) [ true ↦ Some l.kind | false ↦ kind_in ls x ] ≡ Some k → (kind_in ls x ≡ Some k → IsThere ls x) → IsThere (l ∷ ls) x
    at true is f ih = record { entry = l; has = first refl; name = (bytes_eq-Decides l.name x).0 is }
    at false is f ih = let t = ih f in record { entry = t.entry; has = later t.has; name = t.name }

pub is_known : (ls : List CLocal) (e : CLocal) (x : List ℕ) → Has ls e → e.name ≡ x → kind_in ls x ≢ None
is_known [] e x h n = absurd (elim h [ ])
is_known (l ∷ ls) e x h n = at (bytes_eq l.name x) refl h (λ k. is_known ls e x k n)
  where
    at : (b : Bool) → bytes_eq l.name x ≡ b → Has (l ∷ ls) e → (Has ls e → kind_in ls x ≢ None) → elim b as (λ (z : Bool). Option CKind) [ true ↦ Some l.kind | false ↦ kind_in ls x ] ≢ None
    at true is k ih = λ q. cc
    at false is (first q) ih = let z = (bytes_eq-Decides l.name x).1 (ap (λ (y : CLocal). y.name) q ∙ n) in let y : true ≡ false = sym z ∙ is in cc
    at false is (later k) ih = ih k

kind_first : (xs ys : List CLocal) (x : List ℕ) (k : CKind) → kind_in xs x ≡ Some k → kind_in (xs ++ ys) x ≡ Some k
kind_first [] ys x k e = cc
kind_first (l ∷ xs) ys x k e = at (bytes_eq l.name x) e (kind_first xs ys x k)
  where
    at : (b : Bool) → elim b as (λ (z : Bool). Option CKind) [ true ↦ Some l.kind | false ↦ kind_in xs x ] ≡ Some k → (kind_in xs x ≡ Some k → kind_in (xs ++ ys) x ≡ Some k) → elim b as (λ (z : Bool). Option CKind) [ true ↦ Some l.kind | false ↦ kind_in (xs ++ ys) x ] ≡ Some k
    at true f ih = f
    at false f ih = ih f

kind_second : (xs ys : List CLocal) (x : List ℕ) → kind_in xs x ≡ None → kind_in (xs ++ ys) x ≡ kind_in ys x
kind_second [] ys x e = refl
kind_second (l ∷ xs) ys x e = at (bytes_eq l.name x) e (kind_second xs ys x)
  where
    at : (b : Bool) → elim b as (λ (z : Bool). Option CKind) [ true ↦ Some l.kind | false ↦ kind_in xs x ] ≡ None → (kind_in xs x ≡ None → kind_in (xs ++ ys) x ≡ kind_in ys x) → elim b as (λ (z : Bool). Option CKind) [ true ↦ Some l.kind | false ↦ kind_in (xs ++ ys) x ] ≡ kind_in ys x
    at true f ih = cc
    at false f ih = ih f

-- ---- maps

pub has_map : {X Y : Type 0} (f : X → Y) (xs : List X) (x : X) → Has xs x → Has (map f xs) (f x)
has_map f [] x h = absurd (elim h [ ])
has_map f (y ∷ xs) x (first e) = first (ap f e)
has_map f (y ∷ xs) x (later h) = later (has_map f xs x h)

pub has_mapped : {X Y : Type 0} (f : X → Y) (xs : List X) (y : Y) → Has (map f xs) y → (x : X) × Has xs x × (f x ≡ y)
has_mapped f [] y h = absurd (elim h [ ])
has_mapped f (x ∷ xs) y (first e) = (x, first refl, e)
has_mapped f (x ∷ xs) y (later h) = let r = has_mapped f xs y h in (r.0, later r.1, r.2)

-- ---- locals and temporaries

pub local_placed : (types : List Ty) (x : ℕ) (ts : List Ty) (e : CLocal) → ((i : ℕ) → i < length ts → type_at types (x + i) ≡ type_at ts i) → Has (locals_from x ts) e → IsPlaced types e
local_placed types x [] e h k = absurd (elim k [ ])
local_placed types x (t ∷ ts) e h (first q) = subst (λ (z : CLocal). IsPlaced types z) q (record { place = local x; name = refl; kind = ap kind_of (sym (h 0 (omega arith)) ∙ ap (type_at types) (let z : x + 0 ≡ x = omega arith in z)) })
local_placed types x (t ∷ ts) e h (later k) = local_placed types (suc x) ts e (λ i low. ap (type_at types) (let z : suc x + i ≡ x + suc i = omega arith in z) ∙ h (suc i) (omega arith)) k

pub local_there : (x : ℕ) (ts : List Ty) (i : ℕ) → i < length ts → IsThere (locals_from x ts) (v_ (x + i))
local_there x [] i low = absurd (let z : ⊥ = omega arith in z)
local_there x (t ∷ ts) zero low = record { entry = record { kind = kind_of t; name = v_ x }; has = first refl; name = ap v_ (let z : x ≡ x + 0 = omega arith in z) }
local_there x (t ∷ ts) (suc i) low = let r = local_there (suc x) ts i (omega arith) in record { entry = r.entry; has = later r.has; name = r.name ∙ ap v_ (let z : suc x + i ≡ x + suc i = omega arith in z) }

pub temporary_placed : (types : List Ty) (ds : List (CKind × ℕ)) (e : CLocal) → Has (map temporary_local ds) e → IsPlaced types e
temporary_placed types ds e h = let r = has_mapped temporary_local ds e h in subst (λ (z : CLocal). IsPlaced types z) r.2 (record { place = temporary r.0.0 r.0.1; name = refl; kind = refl })

pub temporary_there : (ds : List (CKind × ℕ)) (k : CKind) (t : ℕ) → Has ds (k, t) → IsThere (map temporary_local ds) (named (temporary k t))
temporary_there ds k t h = record { entry = temporary_local (k, t); has = has_map temporary_local ds (k, t) h; name = refl }

pub all_ints : (n t : ℕ) → t < n → Has (temporaries n) (Int, t)
all_ints zero t low = absurd (let z : ⊥ = omega arith in z)
all_ints (suc n) t low = at (nat_eq n t) refl (all_ints n t)
  where
    at : (b : Bool) → nat_eq n t ≡ b → (t < n → Has (temporaries n) (Int, t)) → Has (temporaries (suc n)) (Int, t)
    at true e ih = first (ap (λ m. (Int, m)) (eqb-true n t e))
    at false e ih = let ne : n ≢ t = (λ q. let z = eq-eqb n t q in let y : true ≡ false = sym z ∙ e in cc) in later (later (later (ih (omega arith))))

pub all_words : (n t : ℕ) → t < n → Has (temporaries n) (Unsigned, t)
all_words zero t low = absurd (let z : ⊥ = omega arith in z)
all_words (suc n) t low = at (nat_eq n t) refl (all_words n t)
  where
    at : (b : Bool) → nat_eq n t ≡ b → (t < n → Has (temporaries n) (Unsigned, t)) → Has (temporaries (suc n)) (Unsigned, t)
    at true e ih = later (first (ap (λ m. (Unsigned, m)) (eqb-true n t e)))
    at false e ih = let ne : n ≢ t = (λ q. let z = eq-eqb n t q in let y : true ≡ false = sym z ∙ e in cc) in later (later (later (ih (omega arith))))

pub all_pointers : (n t : ℕ) → t < n → Has (temporaries n) (Pointer, t)
all_pointers zero t low = absurd (let z : ⊥ = omega arith in z)
all_pointers (suc n) t low = at (nat_eq n t) refl (all_pointers n t)
  where
    at : (b : Bool) → nat_eq n t ≡ b → (t < n → Has (temporaries n) (Pointer, t)) → Has (temporaries (suc n)) (Pointer, t)
    at true e ih = later (later (first (ap (λ m. (Pointer, m)) (eqb-true n t e))))
    at false e ih = let ne : n ≢ t = (λ q. let z = eq-eqb n t q in let y : true ≡ false = sym z ∙ e in cc) in later (later (later (ih (omega arith))))

-- more temporaries change nothing for code that mentions none of them
pub one_kind : (scope : List CLocal) (ds es : List (CKind × ℕ)) (names : List (List ℕ)) → ((d : CKind × ℕ) → Has ds d → Has scope (temporary_local d)) → ((k : CKind) (t : ℕ) → Has names (named (temporary k t)) → Has ds (k, t)) → OneKind scope (scope ++ map temporary_local es) names
one_kind scope ds es names declared mentioned x h = at (kind_in scope x) refl
  where
    none : kind_in scope x ≡ None → (o : Option CKind) → kind_in (map temporary_local es) x ≡ o → o ≡ None
    none e None f = refl
    none e (Some k) f =
        let t = entry_of (map temporary_local es) x k f in
        let r = has_mapped temporary_local es t.entry t.has in
        let is : named (temporary r.0.0 r.0.1) ≡ x = ap (λ (z : CLocal). z.name) r.2 ∙ t.name in
        absurd (is_known scope (temporary_local r.0) x (declared r.0 (mentioned r.0.0 r.0.1 (subst (Has names) (sym is) h))) is e)

    at : (o : Option CKind) → kind_in scope x ≡ o → kind_in scope x ≡ kind_in (scope ++ map temporary_local es) x
    at (Some k) e = e ∙ sym (kind_first scope (map temporary_local es) x k e)
    at None e = e ∙ sym (kind_second scope (map temporary_local es) x e ∙ none e (kind_in (map temporary_local es) x) refl)

-- ---- no name twice

abbrev pub NamesApart : List CLocal → Type 0
NamesApart [] = Unit {0}
NamesApart (e ∷ es) = ((d : CLocal) → Has es d → bytes_eq e.name d.name ≡ false) × NamesApart es

not_in : (x : List ℕ) (es : List CLocal) → ((d : CLocal) → Has es d → bytes_eq x d.name ≡ false) → is_in (map (λ (d : CLocal). d.name) es) x ≡ false
not_in x [] h = refl
not_in x (e ∷ es) h = rw (h e (first refl)) (not_in x es (λ d k. h d (later k)))

pub all_fit_locals : (globals : List (List ℕ)) (es : List CLocal) → ((e : CLocal) → Has es e → (is_name e.name ≡ true) × (is_in globals e.name ≡ false)) → NamesApart es → locals_fit globals es ≡ true
all_fit_locals globals [] h a = refl
all_fit_locals globals (e ∷ es) h a =
    let f = h e (first refl) in
    both _ _ (both _ _ (both _ _ f.0 (ap not f.1)) (ap not (not_in e.name es a.0))) (all_fit_locals globals es (λ d k. h d (later k)) a.1)

name_apart : (p q : Place) → p ≢ q → bytes_eq (named p) (named q) ≡ false
name_apart p q ne = is_false (bytes_eq (named p) (named q)) (λ e. ne (named_once p q ((bytes_eq-Decides (named p) (named q)).0 e)))

local_number : (x : ℕ) (ts : List Ty) (e : CLocal) → Has (locals_from x ts) e → (y : ℕ) × (x ≤ y) × (e.name ≡ v_ y)
local_number x [] e h = absurd (elim h [ ])
local_number x (t ∷ ts) e (first q) = (x, omega arith, sym (ap (λ (z : CLocal). z.name) q))
local_number x (t ∷ ts) e (later h) = let r = local_number (suc x) ts e h in let le = r.1 in (r.0, omega arith, r.2)

pub locals_apart : (x : ℕ) (ts : List Ty) (rest : List CLocal) → NamesApart rest → ((d : CLocal) → Has rest d → (y : ℕ) → bytes_eq (v_ y) d.name ≡ false) → NamesApart (locals_from x ts ++ rest)
locals_apart x [] rest a h = a
locals_apart x (t ∷ ts) rest a h = (λ d k. at d (has_either (locals_from (suc x) ts) rest d k), locals_apart (suc x) ts rest a h)
  where
    at : (d : CLocal) → Has (locals_from (suc x) ts) d ⊎ Has rest d → bytes_eq (v_ x) d.name ≡ false
    at d (inl k) = let r = local_number (suc x) ts d k in let le = r.1 in subst (λ n. bytes_eq (v_ x) n ≡ false) (sym r.2) (apart (local x) (local r.0) (is_false (nat_eq x r.0) (λ e. let q = eqb-true x r.0 e in let z : ⊥ = omega arith in z)))
    at d (inr k) = h d k x

pub temporaries_apart : (ds : List (CKind × ℕ)) → Distinct ds → NamesApart (map temporary_local ds)
temporaries_apart [] h = tt
temporaries_apart (d ∷ ds) h = (λ e k. (let r = has_mapped temporary_local ds e k in subst (λ (z : CLocal). bytes_eq (named (temporary d.0 d.1)) z.name ≡ false) r.2 (name_apart (temporary d.0 d.1) (temporary r.0.0 r.0.1) (λ q. h.0 (subst (Has ds) (sym (pair q)) r.1)))), temporaries_apart ds h.1)
  where
    parts : Place → CKind × ℕ
    parts (local x) = (Int, x)
    parts (temporary k t) = (k, t)

    pair : {a b : CKind × ℕ} → temporary a.0 a.1 ≡ temporary b.0 b.1 → a ≡ b
    pair q = ap parts q

pub no_local : (ds : List (CKind × ℕ)) (d : CLocal) → Has (map temporary_local ds) d → (y : ℕ) → bytes_eq (v_ y) d.name ≡ false
no_local ds d h y = let r = has_mapped temporary_local ds d h in subst (λ (z : CLocal). bytes_eq (v_ y) z.name ≡ false) r.2 (apart (local y) (temporary r.0.0 r.0.1) refl)

pub locals_append : (x : ℕ) (ts us : List Ty) → locals_from x (ts ++ us) ≡ locals_from x ts ++ locals_from (x + length ts) us
locals_append x [] us = ap (λ y. locals_from y us) (let z : x ≡ x + 0 = omega arith in z)
locals_append x (t ∷ ts) us = ap (λ ls. record { kind = kind_of t; name = v_ x } ∷ ls) (locals_append (suc x) ts us ∙ ap (λ y. locals_from (suc x) ts ++ locals_from y us) (let z : suc x + length ts ≡ x + suc (length ts) = omega arith in z))
