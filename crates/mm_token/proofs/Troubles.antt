-- What is wrong with a text is one thing, at one place.
use Rattle.std.proofs.Common.{◌≡◌, ℕ, Bool, true, false, not, ◌||◌, IsTrue, List, [], ◌∷◌, ◌++◌, inl, inr, refl, arith, sym, ◌∙◌, ap, subst, Option, Some, None}
use Rattle.std.specs.Prelude.{is_some}
use lib.Utf8.{scalar as is_character}
use Rattle.mm_base.specs.declared.place.Place.{Place}
use Rattle.mm_token.specs.declared.piece.Shape.{Shape}
use Rattle.mm_token.specs.declared.piece.Shape.TheVariants as shape
use Rattle.mm_token.specs.declared.words.Wrong.{Wrong}
use Rattle.mm_token.specs.declared.words.Wrong.TheVariants as wrong
use Rattle.mm_token.specs.Characters.{is_text, place_after}
use Rattle.mm_token.specs.Words.{is_number, is_in_range, is_directive, is_pragma_once, included_name}
use Rattle.mm_token.specs.Pieces.{IsLongest}
use Rattle.mm_token.specs.Cut.{IsGood, IsSpoiledAt, IsTrouble, IsStuck, IsFault}
use Rattle.mm_token.proofs.Longest.{all_at}
use Rattle.mm_token.proofs.Unique.{Fronts, same, longer, shorter, fronts, one_longest, none_or_longest, empty_or_longest}

not_true : (b : Bool) → IsTrue b → IsTrue (not b) → ⊥
not_true true h i = absurd (cc)
not_true false h i = absurd (cc)

-- ---- spoiled comments

whole_or_spoiled : (cs front : List ℕ) (c : ℕ) (more : List ℕ) → cs ≡ front ++ c ∷ more → is_character c ≡ false → IsTrue (is_text cs) → ⊥
whole_or_spoiled cs front c more e n h = let y = all_at true is_character front c more (subst (λ x. IsTrue (is_text x)) e h) in absurd (cc)

spoiled_once : (cs : List ℕ) (at p q : Place) → IsSpoiledAt cs at p → IsSpoiledAt cs at q → p ≡ q
spoiled_once cs at p q h i = by (fronts h.0 (h.1 ∷ h.2) i.0 (i.1 ∷ i.2) (sym h.3 ∙ i.3))
  where
    by : Fronts h.0 (h.1 ∷ h.2) i.0 (i.1 ∷ i.2) → p ≡ q
    by (same e r) = h.6 ∙ (ap (place_after at) e ∙ sym i.6)
    by (longer c more e r) = let f : h.1 ≡ c = cc in absurd (whole_or_spoiled i.0 h.0 h.1 more (subst (λ x. i.0 ≡ h.0 ++ x ∷ more) (sym f) e) h.5 i.4)
    by (shorter c more e r) = let f : i.1 ≡ c = cc in absurd (whole_or_spoiled h.0 i.0 i.1 more (subst (λ x. h.0 ≡ i.0 ++ x ∷ more) (sym f) e) i.5 h.4)

-- ---- one kind of trouble for each shape

open_is : (cs : List ℕ) (at : Place) (w : Wrong) (p : Place) → IsTrouble shape.Open cs at w p → (w ≡ wrong.Unclosed) × (p ≡ at)
open_is cs at wrong.NoToken p h = absurd h
open_is cs at wrong.Unclosed p h = (refl, h)
open_is cs at wrong.Range p h = absurd h
open_is cs at wrong.Directive p h = absurd h

line_is : (cs : List ℕ) (at : Place) (w : Wrong) (p : Place) → IsTrouble shape.Line cs at w p → (w ≡ wrong.NoToken) × IsSpoiledAt cs at p
line_is cs at wrong.NoToken p h = (refl, h)
line_is cs at wrong.Unclosed p h = absurd h
line_is cs at wrong.Range p h = absurd h
line_is cs at wrong.Directive p h = absurd h

block_is : (cs : List ℕ) (at : Place) (w : Wrong) (p : Place) → IsTrouble shape.Block cs at w p → (w ≡ wrong.NoToken) × IsSpoiledAt cs at p
block_is cs at wrong.NoToken p h = (refl, h)
block_is cs at wrong.Unclosed p h = absurd h
block_is cs at wrong.Range p h = absurd h
block_is cs at wrong.Directive p h = absurd h

number_wrong : Bool → Wrong
number_wrong true = wrong.Range
number_wrong false = wrong.NoToken

false_of : (b : Bool) → IsTrue (not b) → b ≡ false
false_of true h = absurd (cc)
false_of false h = refl

-- a number is wrong, and in one way
number_is : (cs : List ℕ) (at : Place) (w : Wrong) (p : Place) → IsTrouble shape.Number cs at w p → (w ≡ number_wrong (is_number cs)) × (p ≡ at) × (IsTrue (is_number cs) → IsTrue (is_in_range cs) → ⊥)
unfolding number_wrong
number_is cs at wrong.NoToken p h = let e : is_number cs ≡ false = false_of (is_number cs) h.0 in (ap number_wrong (sym e), h.1, λ a b. not_true (is_number cs) a h.0)
number_is cs at wrong.Unclosed p h = absurd h
number_is cs at wrong.Range p h = (ap number_wrong (sym h.0), h.2, λ a b. not_true (is_in_range cs) b h.1)
number_is cs at wrong.Directive p h = absurd h

directive_is : (cs : List ℕ) (at : Place) (w : Wrong) (p : Place) → IsTrouble shape.Directive cs at w p → (w ≡ wrong.Directive) × (p ≡ at) × IsTrue (not (is_directive cs))
directive_is cs at wrong.NoToken p h = absurd h
directive_is cs at wrong.Unclosed p h = absurd h
directive_is cs at wrong.Range p h = absurd h
directive_is cs at wrong.Directive p h = (refl, h.1, h.0)

no_blank : (cs : List ℕ) (at : Place) (w : Wrong) (p : Place) → IsTrouble shape.Blank cs at w p → ⊥
no_blank cs at wrong.NoToken p h = h
no_blank cs at wrong.Unclosed p h = h
no_blank cs at wrong.Range p h = h
no_blank cs at wrong.Directive p h = h

no_word : (cs : List ℕ) (at : Place) (w : Wrong) (p : Place) → IsTrouble shape.Word cs at w p → ⊥
no_word cs at wrong.NoToken p h = h
no_word cs at wrong.Unclosed p h = h
no_word cs at wrong.Range p h = h
no_word cs at wrong.Directive p h = h

no_mark : (cs : List ℕ) (at : Place) (w : Wrong) (p : Place) → IsTrouble shape.Mark cs at w p → ⊥
no_mark cs at wrong.NoToken p h = h
no_mark cs at wrong.Unclosed p h = h
no_mark cs at wrong.Range p h = h
no_mark cs at wrong.Directive p h = h

trouble_once : (kind : Shape) (cs : List ℕ) (at : Place) (v w : Wrong) (p q : Place) → IsTrouble kind cs at v p → IsTrouble kind cs at w q → (v ≡ w) × (p ≡ q)
trouble_once shape.Open cs at v w p q h i = let a = open_is cs at v p h in let b = open_is cs at w q i in (a.0 ∙ sym b.0, a.1 ∙ sym b.1)
trouble_once shape.Line cs at v w p q h i = let a = line_is cs at v p h in let b = line_is cs at w q i in (a.0 ∙ sym b.0, spoiled_once cs at p q a.1 b.1)
trouble_once shape.Block cs at v w p q h i = let a = block_is cs at v p h in let b = block_is cs at w q i in (a.0 ∙ sym b.0, spoiled_once cs at p q a.1 b.1)
trouble_once shape.Number cs at v w p q h i = let a = number_is cs at v p h in let b = number_is cs at w q i in (a.0 ∙ sym b.0, a.1 ∙ sym b.1)
trouble_once shape.Directive cs at v w p q h i = let a = directive_is cs at v p h in let b = directive_is cs at w q i in (a.0 ∙ sym b.0, a.1 ∙ sym b.1)
trouble_once shape.Blank cs at v w p q h i = absurd (no_blank cs at v p h)
trouble_once shape.Word cs at v w p q h i = absurd (no_word cs at v p h)
trouble_once shape.Mark cs at v w p q h i = absurd (no_mark cs at v p h)

pub good_or_trouble : (kind : Shape) (cs : List ℕ) (at : Place) (w : Wrong) (p : Place) → IsGood kind cs → IsTrouble kind cs at w p → ⊥
good_or_trouble shape.Open cs at w p g h = g
good_or_trouble shape.Line cs at w p g h = let a = (line_is cs at w p h).1 in whole_or_spoiled cs a.0 a.1 a.2 a.3 a.5 g
good_or_trouble shape.Block cs at w p g h = let a = (block_is cs at w p h).1 in whole_or_spoiled cs a.0 a.1 a.2 a.3 a.5 g
good_or_trouble shape.Number cs at w p g h = (number_is cs at w p h).2 g.0 g.1
good_or_trouble shape.Directive cs at w p g h = not_true (is_directive cs) g (directive_is cs at w p h).2
good_or_trouble shape.Blank cs at w p g h = no_blank cs at w p h
good_or_trouble shape.Word cs at w p g h = no_word cs at w p h
good_or_trouble shape.Mark cs at w p g h = no_mark cs at w p h

pub include_or_trouble : (cs name : List ℕ) (at : Place) (w : Wrong) (p : Place) → included_name cs ≡ Some name → IsTrouble shape.Directive cs at w p → ⊥
include_or_trouble cs name at w p e h = not_true (is_directive cs) (known (included_name cs) (is_pragma_once cs) e) (directive_is cs at w p h).2
  where
    known : (o : Option (List ℕ)) (b : Bool) → o ≡ Some name → IsTrue (is_some o || b)
    known None b e = absurd (cc)
    known (Some x) b e = refl

-- ---- faults

stuck_is : (fresh : Bool) (text : List ℕ) (at : Place) (w : Wrong) (p : Place) → IsStuck fresh text at w p → (w ≡ wrong.NoToken) × IsStuck fresh text at wrong.NoToken p
stuck_is fresh text at wrong.NoToken p h = (refl, h)
stuck_is fresh text at wrong.Unclosed p h = absurd h
stuck_is fresh text at wrong.Range p h = absurd h
stuck_is fresh text at wrong.Directive p h = absurd h

pub fault_once : (fresh : Bool) (text : List ℕ) (at : Place) (v w : Wrong) (p q : Place) → IsFault fresh text at v p → IsFault fresh text at w q → (v ≡ w) × (p ≡ q)
fault_once fresh text at v w p q (inl h) (inl i) = let a = stuck_is fresh text at v p h in let b = stuck_is fresh text at w q i in (a.0 ∙ sym b.0, a.1.2 ∙ sym b.1.2)
fault_once fresh text at v w p q (inl h) (inr i) = let a = stuck_is fresh text at v p h in absurd (none_or_longest fresh text i.0 i.1 i.2 a.1.1 i.3)
fault_once fresh text at v w p q (inr h) (inl i) = let b = stuck_is fresh text at w q i in absurd (none_or_longest fresh text h.0 h.1 h.2 b.1.1 h.3)
fault_once fresh text at v w p q (inr h) (inr i) =
    let s = one_longest fresh text h.0 h.1 h.2 i.0 i.1 i.2 h.3 i.3 in
    trouble_once i.0 i.1 at v w p q (subst (λ x. IsTrouble i.0 x at v p) s.piece_is (subst (λ k. IsTrouble k h.1 at v p) s.kind_is h.4)) i.4

pub fault_or_good : (fresh : Bool) (text : List ℕ) (at : Place) (w : Wrong) (p : Place) (kind : Shape) (piece rest : List ℕ) → IsFault fresh text at w p → IsLongest fresh text kind piece rest → IsGood kind piece → ⊥
fault_or_good fresh text at w p kind piece rest (inl h) l g = none_or_longest fresh text kind piece rest (stuck_is fresh text at w p h).1.1 l
fault_or_good fresh text at w p kind piece rest (inr h) l g =
    let s = one_longest fresh text h.0 h.1 h.2 kind piece rest h.3 l in
    good_or_trouble kind piece at w p g (subst (λ x. IsTrouble kind x at w p) s.piece_is (subst (λ k. IsTrouble k h.1 at w p) s.kind_is h.4))

pub fault_or_include : (fresh : Bool) (text : List ℕ) (at : Place) (w : Wrong) (p : Place) (line rest name : List ℕ) → IsFault fresh text at w p → IsLongest fresh text shape.Directive line rest → included_name line ≡ Some name → ⊥
fault_or_include fresh text at w p line rest name (inl h) l e = none_or_longest fresh text shape.Directive line rest (stuck_is fresh text at w p h).1.1 l
fault_or_include fresh text at w p line rest name (inr h) l e =
    let s = one_longest fresh text h.0 h.1 h.2 shape.Directive line rest h.3 l in
    include_or_trouble line name at w p e (subst (λ x. IsTrouble shape.Directive x at w p) s.piece_is (subst (λ k. IsTrouble k h.1 at w p) s.kind_is h.4))

pub no_fault_at_end : (fresh : Bool) (at : Place) (w : Wrong) (p : Place) → IsFault fresh [] at w p → ⊥
no_fault_at_end fresh at w p (inl h) = let a = (stuck_is fresh [] at w p h).1.0 in absurd (omega arith)
no_fault_at_end fresh at w p (inr h) = empty_or_longest fresh h.0 h.1 h.2 h.3
