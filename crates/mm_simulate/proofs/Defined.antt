-- The functions of a program that have bodies: each stands once among those that are written, `main` first.
use Rattle.std.proofs.Common.{◌≡◌, ◌≢◌, ℕ, zero, suc, ◌+◌, ◌<◌, List, [], ◌∷◌, ◌++◌, refl, sym, ap, ◌∙◌, subst, arith}
use Rattle.std.specs.Prelude.{Bool, true, false, nat_eq, Option, Some, None, slice_get, ◌⊎◌}
use Rattle.std.proofs.Common.{inl, inr}
use Rattle.std.proofs.lemmas.Bool.{eqb-true, eq-eqb}
use Rattle.mm_classes.specs.Lists.{Has, first, later}
use Rattle.mm_core.specs.Tree.{Stmt, Function, Program}
use Rattle.mm_core.specs.Run.{number_of_main}
use Rattle.mm_simulate.specs.Lowered.{Defined, with_body, others_from, entry_at, entry, others}

abbrev pub defined_as : ℕ → Function → Stmt → Defined
defined_as n f b = record { number = n; function = f; body = b }

-- it stands at its number, with its body
pub record IsAt (fs : List Function) (j : ℕ) (d : Defined) : Type 0 where
  pub there : slice_get fs j ≡ Some d.function
  pub has_body : d.function.body ≡ Some d.body

-- all have numbers of their own
abbrev pub Apart : List Defined → Type 0
Apart [] = Unit {0}
Apart (d ∷ ds) = ((e : Defined) → Has ds e → d.number ≢ e.number) × Apart ds

pub has_left : {X : Type 0} (xs ys : List X) (x : X) → Has xs x → Has (xs ++ ys) x
has_left [] ys x h = elim h [ ]
has_left (z ∷ xs) ys x (first e) = first e
has_left (z ∷ xs) ys x (later h) = later (has_left xs ys x h)

pub has_right : {X : Type 0} (xs ys : List X) (x : X) → Has ys x → Has (xs ++ ys) x
has_right [] ys x h = h
has_right (z ∷ xs) ys x h = later (has_right xs ys x h)

pub has_either : {X : Type 0} (xs ys : List X) (x : X) → Has (xs ++ ys) x → Has xs x ⊎ Has ys x
has_either [] ys x h = inr h
has_either (z ∷ xs) ys x (first e) = inl (first e)
has_either (z ∷ xs) ys x (later h) = elim (has_either xs ys x h) [ inl a ↦ inl (later a) | inr b ↦ inr b ]

module _ (m : ℕ) where
  pub record IsOther (fs : List Function) (n : ℕ) (d : Defined) : Type 0 where
    pub place : ℕ
    pub number : d.number ≡ n + place
    pub at : IsAt fs place d
    pub other : nat_eq d.number m ≡ false

  one_more : (g : Function) (fs : List Function) (n : ℕ) (d : Defined) → IsOther fs (suc n) d → IsOther (g ∷ fs) n d
  one_more g fs n d h = record { place = suc h.place; number = h.number ∙ (let z : suc n + h.place ≡ n + suc h.place = omega arith in z); at = record { there = h.at.there; has_body = h.at.has_body }; other = h.other }

  with_sound : (g : Function) (o : Option Stmt) (fs : List Function) (n : ℕ) (more : List Defined) (d : Defined) → g.body ≡ o → nat_eq n m ≡ false → ((e : Defined) → Has more e → IsOther fs (suc n) e) → Has (with_body n g o more) d → IsOther (g ∷ fs) n d
  with_sound g None fs n more d is e ih h = one_more g fs n d (ih d h)
  with_sound g (Some b) fs n more d is e ih (first q) = subst (λ (x : Defined). IsOther (g ∷ fs) n x) q (record { place = 0; number = let z : n ≡ n + 0 = omega arith in z; at = record { there = refl; has_body = is }; other = e })
  with_sound g (Some b) fs n more d is e ih (later h) = one_more g fs n d (ih d h)

  sound_at : (g : Function) (fs : List Function) (n : ℕ) (d : Defined) (b : Bool) → nat_eq n m ≡ b → ((e : Defined) → Has (others_from m (suc n) fs) e → IsOther fs (suc n) e) → Has (elim b [ true ↦ others_from m (suc n) fs | false ↦ with_body n g g.body (others_from m (suc n) fs) ]) d → IsOther (g ∷ fs) n d
  sound_at g fs n d true e ih h = one_more g fs n d (ih d h)
  sound_at g fs n d false e ih h = with_sound g g.body fs n (others_from m (suc n) fs) d refl e ih h

  pub others_sound : (fs : List Function) (n : ℕ) (d : Defined) → Has (others_from m n fs) d → IsOther fs n d
  others_sound [] n d h = elim h [ ]
  others_sound (g ∷ fs) n d h = sound_at g fs n d (nat_eq n m) refl (others_sound fs (suc n)) h

  -- ---- each with a body stands there

  with_there : (f : Function) (n : ℕ) (b : Stmt) (o : Option Stmt) (more : List Defined) → f.body ≡ o → f.body ≡ Some b → Has (with_body n f o more) (defined_as n f b)
  with_there f n b None more e h = let z : None ≡ Some b = sym e ∙ h in cc
  with_there f n b (Some c) more e h = first (let z : Some c ≡ Some b = sym e ∙ h in let y : c ≡ b = cc in ap (defined_as n f) y)

  with_later : (f : Function) (n : ℕ) (o : Option Stmt) (more : List Defined) (d : Defined) → Has more d → Has (with_body n f o more) d
  with_later f n None more d h = h
  with_later f n (Some b) more d h = later h

  at_head : (g : Function) (fs : List Function) (n : ℕ) (b : Stmt) (t : Bool) → nat_eq n m ≡ t → t ≡ false → g.body ≡ Some b → Has (elim t [ true ↦ others_from m (suc n) fs | false ↦ with_body n g g.body (others_from m (suc n) fs) ]) (defined_as n g b)
  at_head g fs n b true e off h = cc
  at_head g fs n b false e off h = with_there g n b g.body (others_from m (suc n) fs) refl h

  past_head : (g : Function) (fs : List Function) (n : ℕ) (d : Defined) (t : Bool) → Has (others_from m (suc n) fs) d → Has (elim t [ true ↦ others_from m (suc n) fs | false ↦ with_body n g g.body (others_from m (suc n) fs) ]) d
  past_head g fs n d true h = h
  past_head g fs n d false h = with_later g n g.body (others_from m (suc n) fs) d h

  pub others_complete : (fs : List Function) (n j i : ℕ) (f : Function) (b : Stmt) → slice_get fs j ≡ Some f → f.body ≡ Some b → i ≡ n + j → nat_eq i m ≡ false → Has (others_from m n fs) (defined_as i f b)
  others_complete [] n j i f b e h is off = cc
  others_complete (g ∷ fs) n zero i f b e h is off =
      let same : g ≡ f = cc in
      let at : i ≡ n = omega arith in
      subst (λ z. Has (others_from m n (g ∷ fs)) (defined_as z f b)) (sym at) (subst (λ z. Has (others_from m n (g ∷ fs)) (defined_as n z b)) same (at_head g fs n b (nat_eq n m) refl (ap (λ z. nat_eq z m) (sym at) ∙ off) (ap (λ (z : Function). z.body) same ∙ h)))
  others_complete (g ∷ fs) n (suc j) i f b e h is off = past_head g fs n (defined_as i f b) (nat_eq n m) (others_complete fs (suc n) j i f b e h (omega arith) off)

  -- ---- with its own number

  with_apart : (f : Function) (n : ℕ) (o : Option Stmt) (more : List Defined) → Apart more → ((e : Defined) → Has more e → n < e.number) → Apart (with_body n f o more)
  with_apart f n None more h low = h
  with_apart f n (Some b) more h low = (λ e k q. (let l = low e k in let z : ⊥ = omega (arith, l, q) in z), h)

  at_apart : (g : Function) (fs : List Function) (n : ℕ) (t : Bool) → Apart (others_from m (suc n) fs) → Apart (elim t [ true ↦ others_from m (suc n) fs | false ↦ with_body n g g.body (others_from m (suc n) fs) ])
  at_apart g fs n true h = h
  at_apart g fs n false h = with_apart g n g.body (others_from m (suc n) fs) h (λ e k. let s = others_sound fs (suc n) e k in omega (arith, s.number))

  pub others_apart : (fs : List Function) (n : ℕ) → Apart (others_from m n fs)
  others_apart [] n = tt
  others_apart (g ∷ fs) n = at_apart g fs n (nat_eq n m) (others_apart fs (suc n))

-- ---- `main`

pub entry_sound : (fs : List Function) (m : ℕ) (d : Defined) → Has (entry_at m (slice_get fs m)) d → (d.number ≡ m) × IsAt fs m d
entry_sound fs m d h = at (slice_get fs m) refl h
  where
    body_at : (f : Function) (o : Option Stmt) → slice_get fs m ≡ Some f → f.body ≡ o → Has (with_body m f o []) d → (d.number ≡ m) × IsAt fs m d
    body_at f None e k h = elim h [ ]
    body_at f (Some b) e k (first q) = subst (λ (x : Defined). (x.number ≡ m) × IsAt fs m x) q (refl, record { there = e; has_body = k })
    body_at f (Some b) e k (later h) = elim h [ ]

    at : (o : Option Function) → slice_get fs m ≡ o → Has (entry_at m o) d → (d.number ≡ m) × IsAt fs m d
    at None e h = elim h [ ]
    at (Some f) e h = body_at f f.body e refl h

pub entry_is : (fs : List Function) (m : ℕ) (f : Function) (b : Stmt) → slice_get fs m ≡ Some f → f.body ≡ Some b → entry_at m (slice_get fs m) ≡ defined_as m f b ∷ []
entry_is fs m f b e h = ap (entry_at m) e ∙ ap (λ o. with_body m f o []) h

module _ (p : Program) where
  abbrev m : ℕ
  m = number_of_main p.functions

  pub sound : (d : Defined) → Has (entry p ++ others p) d → IsAt p.functions d.number d
  sound d h = elim (has_either (entry p) (others p) d h) [
    | inl k ↦ (let s = entry_sound p.functions (number_of_main p.functions) d k in subst (λ j. IsAt p.functions j d) (sym s.0) s.1)
    | inr k ↦ (let s = others_sound (number_of_main p.functions) p.functions 0 d k in subst (λ j. IsAt p.functions j d) (sym (s.number ∙ (let z : 0 + s.place ≡ s.place = omega arith in z))) s.at)
  ]

  pub complete : (i : ℕ) (f : Function) (b : Stmt) → slice_get p.functions i ≡ Some f → f.body ≡ Some b → Has (entry p ++ others p) (defined_as i f b)
  complete i f b e h = at (nat_eq i (number_of_main p.functions)) refl
    where
      at : (t : Bool) → nat_eq i (number_of_main p.functions) ≡ t → Has (entry p ++ others p) (defined_as i f b)
      at true k = let q = eqb-true i (number_of_main p.functions) k in has_left (entry p) (others p) (defined_as i f b) (subst (λ j. Has (entry_at j (slice_get p.functions j)) (defined_as i f b)) q (subst (λ ds. Has ds (defined_as i f b)) (sym (entry_is p.functions i f b e h)) (first refl)))
      at false k = has_right (entry p) (others p) (defined_as i f b) (others_complete (number_of_main p.functions) p.functions 0 i i f b e h (omega arith) k)

  apart_append : (xs ys : List Defined) → Apart xs → Apart ys → ((d e : Defined) → Has xs d → Has ys e → d.number ≢ e.number) → Apart (xs ++ ys)
  apart_append [] ys h k f = k
  apart_append (x ∷ xs) ys h k f = (λ e t. elim (has_either xs ys e t) [ inl a ↦ h.0 e a | inr b ↦ f x e (first refl) b ], apart_append xs ys h.1 k (λ d e a b. f d e (later a) b))

  entry_apart : (o : Option Function) → Apart (entry_at (number_of_main p.functions) o)
  entry_apart None = tt
  entry_apart (Some f) = at f.body
    where
      at : (o : Option Stmt) → Apart (with_body (number_of_main p.functions) f o [])
      at None = tt
      at (Some b) = (λ e h. elim h [ ], tt)

  no_other : (i : ℕ) → nat_eq i (number_of_main p.functions) ≡ false → i ≢ number_of_main p.functions
  no_other i e q = let z = eq-eqb i (number_of_main p.functions) q in let y : true ≡ false = sym z ∙ e in cc

  pub all_apart : Apart (entry p ++ others p)
  all_apart = apart_append (entry p) (others p) (entry_apart (slice_get p.functions (number_of_main p.functions))) (others_apart (number_of_main p.functions) p.functions 0) (λ d e a b q. no_other e.number (others_sound (number_of_main p.functions) p.functions 0 e b).other (sym q ∙ (entry_sound p.functions (number_of_main p.functions) d a).0))
