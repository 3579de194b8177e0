-- The choice as a function is the choice as a relation, and there is one.
use Rattle.std.proofs.Common.{◌≡◌, ◌≢◌, ℕ, zero, suc, ◌+◌, ◌<◌, Bool, true, false, not, ◌&&◌, ◌||◌, nat_eq, List, [], ◌∷◌, Option, Some, None, refl, sym, ap, subst, get_or, drop, length, map, ◌∙◌, arith}
use Rattle.std.specs.Prelude.{slice_get, unwrap_or, cond}
use Rattle.std.proofs.lemmas.Bool.Decides.{nat_tests}
use Rattle.std.proofs.lemmas.Option.{unwrap_or-slice_get}
use Rattle.std.proofs.lemmas.List.{drop_more, get_or-map, length-map}
use Rattle.std.proofs.Math.Bool.{and_assoc}
use Rattle.mm_classes.specs.declared.class.Ty.{Ty}
use Rattle.mm_classes.specs.Classes.{Class}
use Rattle.mm_overload.specs.declared.conv.Arg.{Arg}
use Rattle.mm_overload.specs.declared.choice.Best.{Best}
use Rattle.mm_overload.specs.declared.choice.Best.TheVariants as best
use Rattle.mm_overload.specs.Choice.{viable, better_function, IsBest, IsChoice, OneChoice, params_at, meets, champion, beats_all, choice_if, choice_by, best_of}
use Rattle.mm_overload.proofs.Functions.{better_function-decides, asym, one_better}

module _ (g : List Class) (args : List Arg) (all : List (List Ty)) where
  keeps : (w i : ℕ) (q : List Ty) → (viable g args q ≡ true
      → better_function g args q (params_at all w) ≡ false)
      → meets g args all (Some w) i q ≡ Some w
  keeps w i q h = kept (viable g args q) (better_function g args q (params_at all w)) h where
    kept : (b c : Bool) → (b ≡ true → c ≡ false) → cond (b && c) (Some i) (Some w) ≡ Some w
    kept true true h = absurd (let e : true ≡ false = h refl in cc)
    kept true false h = refl
    kept false c h = refl

  stays : (w i : ℕ) (qs : List (List Ty)) → ((j : ℕ) (q : List Ty) → slice_get qs j ≡ Some q
      → viable g args q ≡ true → better_function g args q (params_at all w) ≡ false)
      → champion g args all (Some w) i qs ≡ Some w
  stays w i [] h = refl
  stays w i (q ∷ qs) h = rw (keeps w i q (h 0 q refl)) (stays w (suc i) qs (λ j q' e. h (suc j) q'
      e))

  abbrev pub Beaten : List Ty → Option ℕ → Type 0
  Beaten p None = Unit {0}
  Beaten p (Some w) = better_function g args p (params_at all w) ≡ true

  -- the list from i on
  abbrev pub Tail : ℕ → List (List Ty) → Type 0
  Tail i qs = (j : ℕ) (q : List Ty) → slice_get qs j ≡ Some q → params_at all (i + j) ≡ q

  tail_next : (i : ℕ) (q : List Ty) (qs : List (List Ty)) → Tail i (q ∷ qs) → Tail (suc i) qs
  tail_next i q qs h j r e = let one : suc i + j ≡ i + suc j = omega arith in ap (params_at all)
      one ∙ h (suc j) r e

  takes : (p : List Ty) (held : Option ℕ) (i : ℕ) → viable g args p ≡ true → Beaten p held
      → meets g args all held i p ≡ Some i
  takes p None i v b = rw v refl
  takes p (Some w) i v b = rw (v, b) refl

  keeps_beaten : (p q : List Ty) (held : Option ℕ) (i : ℕ) → Beaten p held
      → params_at all i ≡ q → (viable g args q ≡ true → better_function g args p q ≡ true)
      → Beaten p (meets g args all held i q)
  keeps_beaten p q None i b e h = one (viable g args q) h where
    one : (v : Bool) → (v ≡ true → better_function g args p q ≡ true)
        → Beaten p (cond v (Some i) None)
    one true h = rw e (h refl)
    one false h = tt
  keeps_beaten p q (Some w) i b e h = one (viable g args q) (better_function g args q (params_at
      all w)) h where
        one : (v c : Bool) → (v ≡ true → better_function g args p q ≡ true)
            → Beaten p (cond (v && c) (Some i) (Some w))
        one true true h = rw e (h refl)
        one true false h = b
        one false c h = b

  -- who beats all others is the champion
  reaches : (p : List Ty) (k i : ℕ) (held : Option ℕ) (qs : List (List Ty)) → Tail i qs
      → slice_get qs k ≡ Some p → viable g args p ≡ true → Beaten p held
      → ((j : ℕ) (q : List Ty) → slice_get qs j ≡ Some q → (j ≡ k → ⊥) → viable g args q ≡ true
      → better_function g args p q ≡ true) → champion g args all held i qs ≡ Some (i + k)
  reaches p k i held [] t e v b h = cc
  reaches p zero i held (q ∷ qs) t e v b h =
      let q-is : q ≡ p = cc in
      let at : params_at all i ≡ p = ap (params_at all) (let z : i ≡ i + 0 = omega arith in z)
      ∙ t 0 p e in
      let none : i + 0 ≡ i = omega arith in
      rw (q-is, takes p held i v b, none)
      (stays i (suc i) qs (λ j r is w. rw at (asym g args p r (h (suc j) r is (λ z. cc) w))))
  reaches p (suc k) i held (q ∷ qs) t e v b h =
      let at : params_at all i ≡ q = ap (params_at all) (let z : i ≡ i + 0 = omega arith in z)
      ∙ t 0 q refl in
      let one : suc i + k ≡ i + suc k = omega arith in
      reaches p k (suc i) (meets g args all held i q) qs (tail_next i q qs t) e v (keeps_beaten p
      q held i b at (h 0 q refl (λ z. cc))) (λ j r is ne. h (suc j) r is (λ z. ne (cc)))
      ∙ ap Some one

  -- a champion is viable and stands in the list
  abbrev pub Fine : Option ℕ → Type 0
  Fine None = Unit {0}
  Fine (Some w) = (slice_get all w ≡ Some (params_at all w))
      × (viable g args (params_at all w) ≡ true)

  abbrev pub InTail : ℕ → List (List Ty) → Type 0
  InTail i qs = (j : ℕ) (q : List Ty) → slice_get qs j ≡ Some q → slice_get all (i + j) ≡ Some q

  in_next : (i : ℕ) (q : List Ty) (qs : List (List Ty)) → InTail i (q ∷ qs) → InTail (suc i) qs
  in_next i q qs h j r e = let one : suc i + j ≡ i + suc j = omega arith in ap (slice_get all) one
      ∙ h (suc j) r e

  fine_meets : (held : Option ℕ) (i : ℕ) (q : List Ty) → slice_get all i ≡ Some q → Fine held
      → Fine (meets g args all held i q)
  fine_meets None i q e f = one (viable g args q) refl where
    one : (v : Bool) → viable g args q ≡ v → Fine (cond v (Some i) None)
    one true is = rw e (refl, is)
    one false is = tt
  fine_meets (Some w) i q e f = one (viable g args q) (better_function g args q (params_at all w))
      refl where
        one : (v c : Bool) → viable g args q ≡ v → Fine (cond (v && c) (Some i) (Some w))
        one true true is = rw e (refl, is)
        one true false is = f
        one false c is = f

  fine_champion : (held : Option ℕ) (i : ℕ) (qs : List (List Ty)) → InTail i qs → Fine held
      → Fine (champion g args all held i qs)
  fine_champion held i [] t f = f
  fine_champion held i (q ∷ qs) t f =
      let at : slice_get all i ≡ Some q = ap (slice_get all) (let z : i ≡ i + 0 = omega arith in
      z) ∙ t 0 q refl in
      fine_champion (meets g args all held i q) (suc i) qs (in_next i q qs t) (fine_meets held i q
      at f)

  -- no champion: none is viable
  stays_some : (w i : ℕ) (qs : List (List Ty)) → champion g args all (Some w) i qs ≡ None → ⊥
  stays_some w i [] e = cc
  stays_some w i (q ∷ qs) e = one (viable g args q && better_function g args q (params_at all w))
      (stays_some i (suc i) qs) (stays_some w (suc i) qs) e where
        one : (b : Bool) → (champion g args all (Some i) (suc i) qs ≡ None → ⊥)
            → (champion g args all (Some w) (suc i) qs ≡ None → ⊥)
            → champion g args all (cond b (Some i) (Some w)) (suc i) qs ≡ None → ⊥
        one true f g e = f e
        one false f g e = g e

  nobody : (i : ℕ) (qs : List (List Ty)) → champion g args all None i qs ≡ None
      → (j : ℕ) (q : List Ty) → slice_get qs j ≡ Some q → viable g args q ≡ true → ⊥
  nobody i [] e j q is v = cc
  nobody i (r ∷ qs) e zero q is v =
      let same : r ≡ q = cc in
      stays_some i (suc i) qs (rw (same, v) at e)
  nobody i (r ∷ qs) e (suc j) q is v = one (viable g args r) (λ e. nobody (suc i) qs e j q is v) e
    where
      one : (b : Bool) → (champion g args all None (suc i) qs ≡ None → ⊥)
          → champion g args all (cond b (Some i) None) (suc i) qs ≡ None → ⊥
      one true g e = stays_some i (suc i) qs e
      one false g e = g e

  -- what beating all means
  beats_each : (w : ℕ) (params : List Ty) (i : ℕ) (qs : List (List Ty))
      → beats_all g args w params i qs ≡ true → (j : ℕ) (q : List Ty) → slice_get qs j ≡ Some q
      → (i + j ≡ w → ⊥) → viable g args q ≡ true → better_function g args params q ≡ true
  beats_each w params i [] e j q is ne v = cc
  beats_each w params i (r ∷ qs) e zero q is ne v =
      let same : r ≡ q = cc in
      let ne' : i ≢ w = omega arith in
      one (nat_eq i w) (viable g args q) (better_function g args params q) _ (grind (
        arith,
        nat_tests,
      )) v (rw same at e) where
        one : (a b c d : Bool) → a ≡ false → b ≡ true → (((a || not b) || c) && d) ≡ true
            → c ≡ true
        one true b c d x y z = cc
        one false false c d x y z = cc
        one false true true d x y z = refl
        one false true false d x y z = cc
  beats_each w params i (r ∷ qs) e (suc j) q is ne v =
      let one : suc i + j ≡ i + suc j = omega arith in
      beats_each w params (suc i) qs (last _ _ e) j q is (λ z. ne (sym one ∙ z)) v where
        last : (a b : Bool) → (a && b) ≡ true → b ≡ true
        last true b e = e
        last false b e = cc

  each_beats : (w : ℕ) (params : List Ty) (i : ℕ) (qs : List (List Ty))
      → ((j : ℕ) (q : List Ty) → slice_get qs j ≡ Some q → (i + j ≡ w → ⊥)
      → viable g args q ≡ true → better_function g args params q ≡ true)
      → beats_all g args w params i qs ≡ true
  each_beats w params i [] h = refl
  each_beats w params i (q ∷ qs) h = rw (each_beats w params (suc i) qs (λ j r is ne. h (suc j) r
      is (λ z. ne ((let one : suc i + j ≡ i + suc j = omega arith in one)
      ∙ z)))) (one (nat_eq i w) (viable g args q) _ (λ x. h 0 q refl (λ z. absurd (grind (
        arith,
        nat_tests,
      ))))) where
        one : (a b c : Bool) → (a ≡ false → b ≡ true → c ≡ true) → (((a || not b) || c) && true) ≡ true
        one true b c h = refl
        one false false c h = refl
        one false true true h = refl
        one false true false h = h refl refl

  beats_by : {i : ℕ} (won : IsBest g args all i) (j : ℕ) (other : List Ty)
      → slice_get all j ≡ Some other → (j ≡ i → ⊥) → viable g args other ≡ true
      → better_function g args won.params other ≡ true
  beats_by won j other at ne v = (better_function-decides g args won.params other).1 (won.beats j
      other at ne v)

  -- the function gives the choice
  pub best_is_choice : IsChoice g args all (best_of g args all)
  unfolding best_of
  best_is_choice = chosen (champion g args all None 0 all) refl where
    winner : (w : ℕ) → champion g args all None 0 all ≡ Some w → (b : Bool)
        → beats_all g args w (params_at all w) 0 all ≡ b → IsChoice g args all (choice_if b w)
    winner w e true is =
        let fine : Fine (Some w) = subst (λ x. Fine x) e (fine_champion None 0 all (λ j q at. ap
        (slice_get all) (let z : 0 + j ≡ j = omega arith in z) ∙ at) tt) in
        record {
          params = params_at all w;
          is = fine.0;
          fits = fine.1;
          beats = λ j other at ne v. (better_function-decides g args (params_at all w) other).0
              (beats_each w (params_at all w) 0 all is j other at (λ z. ne ((let y : j ≡ 0 + j =
              omega arith in y) ∙ z)) v);
        }
    winner w e false is =
        let fine : Fine (Some w) = subst (λ x. Fine x) e (fine_champion None 0 all (λ j q at. ap
        (slice_get all) (let z : 0 + j ≡ j = omega arith in z) ∙ at) tt) in (
          λ none. none w (params_at all w) fine.0 fine.1,
          λ i won.
              let tail : Tail 0 all = λ j q at. ap (params_at all) (let z : 0 + j ≡ j = omega
              arith in z) ∙ ap (λ o. unwrap_or o []) at in
              let reached = reaches won.params i 0 None all tail won.is won.fits tt (beats_by won)
              in
              let raw : w ≡ 0 + i = cc in
              let same : w ≡ i = omega arith in
              let params : params_at all w ≡ won.params = ap (params_at all) same
              ∙ ap (λ o. unwrap_or o []) won.is in
              let all_beaten = each_beats w (params_at all w) 0 all (λ j q at ne v. rw params
              (beats_by won j q at (λ z. ne (omega arith)) v)) in
              cc,
        )

    chosen : (c : Option ℕ) → champion g args all None 0 all ≡ c
        → IsChoice g args all (choice_by g args all c)
    chosen None e = λ j q is v. nobody 0 all e j q is v
    chosen (Some w) e = winner w e (beats_all g args w (params_at all w) 0 all) refl

pub one_choice_only : OneChoice
one_choice_only g args all (best.One i) (best.One j) x y = same_best (nat_eq i j) refl where
  same_best : (b : Bool) → nat_eq i j ≡ b → best.One i ≡ best.One j
  same_best true e = ap best.One (grind (arith, nat_tests))
  same_best false e =
      let ne : i ≢ j = grind (arith, nat_tests) in
      absurd (one_better g args x.params y.params (x.beats j y.params y.is (λ z. ne (sym z))
      y.fits) (y.beats i x.params x.is ne x.fits))
one_choice_only g args all (best.One i) best.None x y = absurd (y i x.params x.is x.fits)
one_choice_only g args all (best.One i) best.Several x y = absurd (y.1 i x)
one_choice_only g args all best.None (best.One i) x y = absurd (x i y.params y.is y.fits)
one_choice_only g args all best.None best.None x y = refl
one_choice_only g args all best.None best.Several x y = absurd (y.0 x)
one_choice_only g args all best.Several (best.One i) x y = absurd (x.1 i y)
one_choice_only g args all best.Several best.None x y = absurd (x.0 y)
one_choice_only g args all best.Several best.Several x y = refl

module _ (g : List Class) (args : List Arg) (all : List (List Ty)) where
  -- a choice is the function's
  pub choice-is : (b : Best) → b ≡ best_of g args all → IsChoice g args all b
  choice-is b e = subst (λ x. IsChoice g args all x) (sym e) (best_is_choice g args all)

  pub best-of-None : champion g args all None 0 all ≡ None → best_of g args all ≡ best.None
  unfolding best_of
  best-of-None e = ap (choice_by g args all) e

  pub best-of-Some : (w : ℕ) (params : List Ty) → params_at all w ≡ params
      → champion g args all None 0 all ≡ Some w → best_of g args all ≡ choice_if (beats_all g args
      w params 0 all) w
  unfolding best_of
  best-of-Some w params is e = ap (choice_by g args all) e
      ∙ ap (λ p. choice_if (beats_all g args w p 0 all) w) is

  next_at : (i : ℕ) → i < length all → drop i all ≡ params_at all i ∷ drop (i + 1) all
  next_at i low = drop_more all i [] low ∙ ap (λ x. x
      ∷ drop (i + 1) all) (sym (unwrap_or-slice_get all i []))

  -- one more candidate has met the champion
  pub champion-more : (held : Option ℕ) (i : ℕ) (before : Option ℕ) → i < length all
      → champion g args all held i (drop i all) ≡ before
      → champion g args all (meets g args all held i (params_at all i)) (i + 1) (drop (i + 1) all)
      ≡ before
  champion-more held i before low h =
      let one : i + 1 ≡ suc i = omega arith in
      rw one (rw (next_at i low, one) at h)

  -- one more candidate is asked
  pub beats_all-more : (w : ℕ) (params : List Ty) (won before : Bool) (i : ℕ) → i < length all
      → (won && beats_all g args w params i (drop i all)) ≡ before
      → ((won && ((nat_eq i w || not (viable g args (params_at all i))) || better_function g args
      params (params_at all i))) && beats_all g args w params (i + 1) (drop (i + 1) all)) ≡ before
  beats_all-more w params won before i low h =
      let one : i + 1 ≡ suc i = omega arith in
      rw one (and_assoc won _ _ ∙ rw (next_at i low, one) at h)

-- the types of the parameters, from a list of lent lists
pub params-map : {X : Type 0} (f : X → List Ty) (xs : List X) (i : ℕ) (x : X)
    → x ≡ get_or xs i x → i < length xs → params_at (map f xs) i ≡ f x
params-map f xs i x is low = unwrap_or-slice_get (map f xs) i [] ∙ get_or-map f xs i x [] low
    ∙ ap f (sym is)

pub low-map : {X : Type 0} (f : X → List Ty) (xs : List X) (i : ℕ) → i < length xs
    → i < length (map f xs)
low-map f xs i low = let e : length (map f xs) ≡ length xs = length-map xs f in omega arith
