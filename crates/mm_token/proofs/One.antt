-- A text has one reading.
use Rattle.std.proofs.Common.{◌≡◌, ℕ, Bool, true, false, List, [], ◌∷◌, inl, inr, refl, sym, ◌∙◌, ap, subst, Option, Some, None}
use Rattle.mm_base.specs.declared.place.Place.{Place}
use Rattle.mm_token.specs.declared.piece.Shape.{Shape}
use Rattle.mm_token.specs.declared.piece.Shape.TheVariants as shape
use Rattle.mm_token.specs.declared.token.TokenEnd.{TokenEnd}
use Rattle.mm_token.specs.declared.token.TokenEnd.TheVariants.{Fault}
use Rattle.mm_token.specs.Characters.{place_after}
use Rattle.mm_token.specs.Words.{included_name}
use Rattle.mm_token.specs.Pieces.{IsLongest}
use Rattle.mm_token.specs.Cut.{Piece, text_of, fresh_after, fresh_behind, IsGood, IsCut, code_of}
use Rattle.mm_token.specs.Tokens.{State, was_included, encoded, file_named, Includes, Puts, PutsAll, PutsText, StopsHere, StopsText}
use Rattle.mm_token.proofs.Reading.{place_after-append}
use Rattle.mm_token.proofs.Unique.{one_longest, empty_or_longest}
use Rattle.mm_token.proofs.Troubles.{fault_once, fault_or_good, fault_or_include, no_fault_at_end}

-- how a reading ends: with a state, or with a refusal
data Outcome : Type 0 where
  went : State → Outcome
  ended : TokenEnd → Outcome

some_same : {A : Type 0} (o : Option A) (x y : A) → o ≡ Some x → o ≡ Some y → x ≡ y
some_same o x y e i = let f : Some x ≡ Some y = sym e ∙ i in cc

module _ (File : List ℕ → State → State → Type 0) (Refused : List ℕ → Place → State → TokenEnd → Type 0) (name : List ℕ)
    (file_once : (n : List ℕ) (s t u : State) → File n s t → File n s u → t ≡ u)
    (refused_once : (n : List ℕ) (at : Place) (s : State) (d e : TokenEnd) → Refused n at s d → Refused n at s e → d ≡ e)
    (not_both : (n : List ℕ) (at : Place) (s t : State) (e : TokenEnd) → File n s t → Refused n at s e → ⊥) where
  includes_once : (o : Option (List ℕ)) (s t u : State) → Includes File o s t → Includes File o s u → t ≡ u
  includes_once None s t u h i = h ∙ sym i
  includes_once (Some n) s t u h i = by (was_included s n) h i
    where
      by : (b : Bool) → (elim b as (λ _. Type 0) [ true ↦ t ≡ s | false ↦ File n s t ]) → (elim b as (λ _. Type 0) [ true ↦ u ≡ s | false ↦ File n s u ]) → t ≡ u
      by true h i = h ∙ sym i
      by false h i = file_once n s t u h i

  puts_once : (kind : Shape) (text : List ℕ) (at : Place) (s t u : State) → Puts File kind text at s t → Puts File kind text at s u → t ≡ u
  puts_once shape.Blank text at s t u h i = h ∙ sym i
  puts_once shape.Line text at s t u h i = h ∙ sym i
  puts_once shape.Block text at s t u h i = h ∙ sym i
  puts_once shape.Open text at s t u h i = absurd h
  puts_once shape.Word text at s t u h i = h ∙ sym i
  puts_once shape.Number text at s t u h i = h ∙ sym i
  puts_once shape.Mark text at s t u h i = h ∙ sym i
  puts_once shape.Directive text at s t u h i = includes_once (file_named text) s t u h i

  Ends : Bool → List ℕ → Place → State → Outcome → Type 0
  Ends fresh rest at s (went t) = (rest ≡ []) × (t ≡ s)
  Ends fresh rest at s (ended e) = StopsHere Refused name fresh rest at s e

  named : (line inner : List ℕ) → file_named line ≡ Some inner → (cs : List ℕ) × (included_name line ≡ Some cs)
  named line inner e = by (included_name line) refl e
    where
      by : (o : Option (List ℕ)) → included_name line ≡ o → encoded o ≡ Some inner → (cs : List ℕ) × (included_name line ≡ Some cs)
      by None i e = absurd (cc)
      by (Some cs) i e = (cs, i)

  stops_at_end : (fresh : Bool) (at : Place) (s : State) (e : TokenEnd) → StopsHere Refused name fresh [] at s e → ⊥
  stops_at_end fresh at s e (inl h) = no_fault_at_end fresh at h.0 h.1 h.2
  stops_at_end fresh at s e (inr h) = empty_or_longest fresh shape.Directive h.0 h.1 h.3

  stops_once : (fresh : Bool) (rest : List ℕ) (at : Place) (s : State) (d e : TokenEnd) → StopsHere Refused name fresh rest at s d → StopsHere Refused name fresh rest at s e → d ≡ e
  stops_once fresh rest at s d e (inl h) (inl i) =
      let f = fault_once fresh rest at h.0 i.0 h.1 i.1 h.2 i.2 in
      h.3 ∙ (ap (λ w. Fault (code_of w) h.1 name) f.0 ∙ (ap (λ p. Fault (code_of i.0) p name) f.1 ∙ sym i.3))
  stops_once fresh rest at s d e (inl h) (inr i) = let n = named i.0 i.2 i.4 in absurd (fault_or_include fresh rest at h.0 h.1 i.0 i.1 n.0 h.2 i.3 n.1)
  stops_once fresh rest at s d e (inr h) (inl i) = let n = named h.0 h.2 h.4 in absurd (fault_or_include fresh rest at i.0 i.1 h.0 h.1 n.0 i.2 h.3 n.1)
  stops_once fresh rest at s d e (inr h) (inr i) =
      let q = one_longest fresh rest shape.Directive h.0 h.1 shape.Directive i.0 i.1 h.3 i.3 in
      let n : h.2 ≡ i.2 = some_same (file_named i.0) h.2 i.2 (subst (λ l. file_named l ≡ Some h.2) q.piece_is h.4) i.4 in
      refused_once i.2 at s d e (subst (λ x. Refused x at s d) n h.6) i.6

  ends_once : (fresh : Bool) (rest : List ℕ) (at : Place) (s : State) (o p : Outcome) → Ends fresh rest at s o → Ends fresh rest at s p → o ≡ p
  unfolding Ends
  ends_once fresh rest at s (went t) (went u) h i = ap went (h.1 ∙ sym i.1)
  ends_once fresh rest at s (went t) (ended e) h i = absurd (stops_at_end fresh at s e (subst (λ r. StopsHere Refused name fresh r at s e) h.0 i))
  ends_once fresh rest at s (ended e) (went t) h i = absurd (stops_at_end fresh at s e (subst (λ r. StopsHere Refused name fresh r at s e) i.0 h))
  ends_once fresh rest at s (ended d) (ended e) h i = ap ended (stops_once fresh rest at s d e h i)

  -- an end where a good piece goes on
  end_or_piece : (fresh : Bool) (text : List ℕ) (at : Place) (s mid : State) (o : Outcome) (kind : Shape) (piece after : List ℕ) →
      Ends fresh text at s o → IsLongest fresh text kind piece after → IsGood kind piece → Puts File kind piece at s mid → ⊥
  unfolding Ends
  end_or_piece fresh text at s mid (went t) kind piece after h l g p = empty_or_longest fresh kind piece after (subst (λ x. IsLongest fresh x kind piece after) h.0 l)
  end_or_piece fresh text at s mid (ended e) kind piece after (inl h) l g p = fault_or_good fresh text at h.0 h.1 kind piece after h.2 l g
  end_or_piece fresh text at s mid (ended e) kind piece after (inr h) l g p =
      let q = one_longest fresh text kind piece after shape.Directive h.0 h.1 l h.3 in
      let d : Puts File shape.Directive h.0 at s mid = subst (λ x. Puts File shape.Directive x at s mid) q.piece_is (subst (λ k. Puts File k piece at s mid) q.kind_is p) in
      let i : Includes File (Some h.2) s mid = subst (λ o. Includes File o s mid) h.4 d in
      not_both h.2 at s mid e (by (was_included s h.2) h.5 i) h.6
    where
      by : (b : Bool) → b ≡ false → (elim b as (λ _. Type 0) [ true ↦ mid ≡ s | false ↦ File h.2 s mid ]) → File h.2 s mid
      by true e i = absurd (cc)
      by false e i = i

  -- a text that ends so, from here
  record Comes (fresh : Bool) (text : List ℕ) (ps : List Piece) (at : Place) (s : State) (o : Outcome) : Type 0 where
    rest : List ℕ
    mid : State
    cut : IsCut fresh text ps rest
    puts : PutsAll File ps at s mid
    ends : Ends (fresh_behind fresh ps) rest (place_after at (text_of ps)) mid o

  -- behind a first piece
  tail : (fresh : Bool) (text : List ℕ) (p : Piece) (ps : List Piece) (at : Place) (s : State) (o : Outcome) (c : Comes fresh text (p ∷ ps) at s o) →
      Comes (fresh_after fresh p.kind p.text) c.cut.0 ps (place_after at p.text) c.puts.0 o
  tail fresh text p ps at s o c =
      record {
        rest = c.rest;
        mid = c.mid;
        cut = c.cut.3;
        puts = c.puts.2;
        ends = subst (λ a. Ends (fresh_behind (fresh_after fresh p.kind p.text) ps) c.rest a c.mid o) (place_after-append at p.text (text_of ps)) c.ends;
      }

  here : (fresh : Bool) (text : List ℕ) (at : Place) (s : State) (o : Outcome) → Comes fresh text [] at s o → Ends fresh text at s o
  here fresh text at s o c = subst (λ t. Ends fresh text at t o) c.puts (subst (λ r. Ends fresh r at c.mid o) (sym c.cut) c.ends)

  comes_once : (ps qs : List Piece) (fresh : Bool) (text : List ℕ) (at : Place) (s : State) (o p : Outcome) → Comes fresh text ps at s o → Comes fresh text qs at s p → o ≡ p
  comes_once [] [] fresh text at s o p c d = ends_once fresh text at s o p (here fresh text at s o c) (here fresh text at s p d)
  comes_once [] (y ∷ qs) fresh text at s o p c d = absurd (end_or_piece fresh text at s d.puts.0 o y.kind y.text d.cut.0 (here fresh text at s o c) d.cut.1 d.cut.2 d.puts.1)
  comes_once (x ∷ ps) [] fresh text at s o p c d = absurd (end_or_piece fresh text at s c.puts.0 p x.kind x.text c.cut.0 (here fresh text at s p d) c.cut.1 c.cut.2 c.puts.1)
  comes_once (x ∷ ps) (y ∷ qs) fresh text at s o p c d =
      let q = one_longest fresh text x.kind x.text c.cut.0 y.kind y.text d.cut.0 c.cut.1 d.cut.1 in
      let dp : Puts File x.kind x.text at s d.puts.0 =
      subst (λ k. Puts File k x.text at s d.puts.0) (sym q.kind_is) (subst (λ z. Puts File y.kind z at s d.puts.0) (sym q.piece_is) d.puts.1) in
      let m : c.puts.0 ≡ d.puts.0 = puts_once x.kind x.text at s c.puts.0 d.puts.0 c.puts.1 dp in
      let e : Comes (fresh_after fresh x.kind x.text) c.cut.0 qs (place_after at x.text) c.puts.0 p =
      subst (λ t. Comes (fresh_after fresh x.kind x.text) c.cut.0 qs (place_after at x.text) t p) (sym m)
      (subst (λ r. Comes (fresh_after fresh x.kind x.text) r qs (place_after at x.text) d.puts.0 p) (sym q.rest_is)
      (subst (λ k. Comes (fresh_after fresh k x.text) d.cut.0 qs (place_after at x.text) d.puts.0 p) (sym q.kind_is)
      (subst (λ z. Comes (fresh_after fresh y.kind z) d.cut.0 qs (place_after at z) d.puts.0 p) (sym q.piece_is) (tail fresh text y qs at s p d)))) in
      comes_once ps qs (fresh_after fresh x.kind x.text) c.cut.0 (place_after at x.text) c.puts.0 o p (tail fresh text x ps at s o c) e

  text_comes : (text : List ℕ) (at : Place) (s t : State) (h : PutsText File text at s t) → Comes true text h.0 at s (went t)
  unfolding Ends
  text_comes text at s t h = record { rest = []; mid = t; cut = h.1; puts = h.2; ends = (refl, refl) }

  stop_comes : (text : List ℕ) (at : Place) (s : State) (e : TokenEnd) (h : StopsText File Refused name text at s e) → Comes true text h.0 at s (ended e)
  unfolding Ends
  stop_comes text at s e h = record { rest = h.1; mid = h.2; cut = h.3; puts = h.4; ends = h.5 }

  pub text_once : (text : List ℕ) (at : Place) (s t u : State) → PutsText File text at s t → PutsText File text at s u → t ≡ u
  text_once text at s t u h i = let e = comes_once h.0 i.0 true text at s (went t) (went u) (text_comes text at s t h) (text_comes text at s u i) in cc

  pub stop_once : (text : List ℕ) (at : Place) (s : State) (d e : TokenEnd) → StopsText File Refused name text at s d → StopsText File Refused name text at s e → d ≡ e
  stop_once text at s d e h i = let f = comes_once h.0 i.0 true text at s (ended d) (ended e) (stop_comes text at s d h) (stop_comes text at s e i) in cc

  pub text_or_stop : (text : List ℕ) (at : Place) (s t : State) (e : TokenEnd) → PutsText File text at s t → StopsText File Refused name text at s e → ⊥
  text_or_stop text at s t e h i = let f = comes_once h.0 i.0 true text at s (went t) (ended e) (text_comes text at s t h) (stop_comes text at s e i) in absurd (cc)
