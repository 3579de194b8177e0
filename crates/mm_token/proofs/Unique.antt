-- A text is cut in one way.
use Rattle.std.proofs.Common.{◌≡◌, ℕ, Bool, true, false, not, ◌&&◌, ◌==◌, if◌then◌else◌, IsTrue, List, [], ◌∷◌, ◌++◌, inl, inr, refl, arith, sym, ◌∙◌, ap, subst}
use Rattle.mm_token.specs.declared.piece.Sort.{Sort}
use Rattle.mm_token.specs.declared.piece.Sort.TheVariants as sort_is
use Rattle.mm_token.specs.declared.piece.Shape.{Shape}
use Rattle.mm_token.specs.declared.piece.Shape.TheVariants as shape
use Rattle.mm_token.specs.Characters.{sort_of, is_pair}
use Rattle.mm_token.specs.Pieces.{is_open, is_closed, ends_not, IsPiece, IsLongest, HasNone}
use Rattle.mm_token.proofs.Lemmas.{and_right}
use Rattle.mm_token.proofs.Longest.{no_empty, is_slash}

-- ---- the shape of a piece is told by its text

slash_shape : List ℕ → Shape
slash_shape [] = shape.Mark
slash_shape (d ∷ r) = if d == 47 then shape.Line else (if d == 42 then (if is_open r then shape.Open else shape.Block) else shape.Mark)

shape_by : Sort → List ℕ → Shape
shape_by sort_is.Blank r = shape.Blank
shape_by sort_is.Slash r = slash_shape r
shape_by sort_is.Punctuation r = shape.Mark
shape_by sort_is.Digit r = shape.Number
shape_by sort_is.Letter r = shape.Word
shape_by sort_is.Hash r = shape.Directive
shape_by sort_is.Other r = shape.Mark

pub shape_of : List ℕ → Shape
shape_of [] = shape.Mark
shape_of (c ∷ r) = shape_by (sort_of c) r

closed_not_open : (a : List ℕ) → IsTrue (is_closed a) → is_open a ≡ false
closed_not_open [] h = absurd (cc)
closed_not_open (x ∷ []) h = absurd (cc)
closed_not_open (x ∷ y ∷ []) h = by (x == 42 && y == 47) h
  where
    by : (b : Bool) → IsTrue b → (not b && true) ≡ false
    by true h = refl
    by false h = absurd (cc)
closed_not_open (x ∷ y ∷ z ∷ a) h = by (ends_not x y) (closed_not_open (y ∷ z ∷ a) (and_right (ends_not x y) (is_closed (y ∷ z ∷ a)) h))
  where
    by : (b : Bool) → is_open (y ∷ z ∷ a) ≡ false → (b && is_open (y ∷ z ∷ a)) ≡ false
    by true e = e
    by false e = refl

second_of_pair : (c d : ℕ) → sort_of c ≡ sort_is.Slash → IsTrue (is_pair c d) → slash_shape (d ∷ []) ≡ shape.Mark
unfolding slash_shape
second_of_pair c d s h =
    let e : c ≡ 47 = is_slash true c s in
    let p : IsTrue (is_pair 47 d) = subst (λ x. IsTrue (is_pair x d)) e h in
    equals d (pair_with_slash d p)
  where
    pair_with_slash : (d : ℕ) → IsTrue (is_pair 47 d) → d ≡ 61
    pair_with_slash d p = grind (arith, p)

    equals : (d : ℕ) → d ≡ 61 → slash_shape (d ∷ []) ≡ shape.Mark
    equals d i = rw i refl

pub shape_is : (fresh : Bool) (kind : Shape) (cs rest : List ℕ) → IsPiece fresh kind cs rest → kind ≡ shape_of cs
unfolding shape_of shape_by slash_shape
shape_is fresh shape.Blank [] rest h = absurd h
shape_is fresh shape.Blank (c ∷ r) rest h = sym (ap (λ s. shape_by s r) h.0)
shape_is fresh shape.Line [] rest h = absurd h
shape_is fresh shape.Line (c ∷ []) rest h = absurd h
shape_is fresh shape.Line (c ∷ d ∷ r) rest h = rw (h.0, h.1) refl
shape_is fresh shape.Block [] rest h = absurd h
shape_is fresh shape.Block (c ∷ []) rest h = absurd h
shape_is fresh shape.Block (c ∷ d ∷ r) rest h = rw (h.0, h.1, closed_not_open r h.2) refl
shape_is fresh shape.Open [] rest h = absurd h
shape_is fresh shape.Open (c ∷ []) rest h = absurd h
shape_is fresh shape.Open (c ∷ d ∷ r) rest h = rw (h.0, h.1, h.2) refl
shape_is fresh shape.Word [] rest h = absurd h
shape_is fresh shape.Word (c ∷ r) rest h = sym (ap (λ s. shape_by s r) h.0)
shape_is fresh shape.Number [] rest h = absurd h
shape_is fresh shape.Number (c ∷ r) rest h = sym (ap (λ s. shape_by s r) h.0)
shape_is fresh shape.Directive [] rest h = absurd h
shape_is fresh shape.Directive (c ∷ r) rest h = sym (ap (λ s. shape_by s r) h.1)
shape_is fresh shape.Mark [] rest h = refl
shape_is fresh shape.Mark (c ∷ []) rest h = elim h [ inl e ↦ sym (ap (λ s. shape_by s []) e) | inr e ↦ sym (ap (λ s. shape_by s []) e.0) ]
shape_is fresh shape.Mark (c ∷ d ∷ []) rest h = elim h.0 [ inl e ↦ sym (ap (λ s. shape_by s (d ∷ [])) e ∙ second_of_pair c d e h.1) | inr e ↦ sym (ap (λ s. shape_by s (d ∷ [])) e) ]
shape_is fresh shape.Mark (c ∷ d ∷ e ∷ r) rest h = absurd h

-- ---- two fronts of a text

-- One of two fronts is the other with more behind it, or they are the same.
pub data Fronts (p r q s : List ℕ) : Type 0 where
  same : p ≡ q → r ≡ s → Fronts p r q s
  longer : (c : ℕ) (more : List ℕ) → q ≡ p ++ c ∷ more → r ≡ (c ∷ more) ++ s → Fronts p r q s
  shorter : (c : ℕ) (more : List ℕ) → p ≡ q ++ c ∷ more → s ≡ (c ∷ more) ++ r → Fronts p r q s

behind : (x : ℕ) (p r q s : List ℕ) → Fronts p r q s → Fronts (x ∷ p) r (x ∷ q) s
behind x p r q s (same e i) = same (ap (λ t. x ∷ t) e) i
behind x p r q s (longer c more e i) = longer c more (ap (λ t. x ∷ t) e) i
behind x p r q s (shorter c more e i) = shorter c more (ap (λ t. x ∷ t) e) i

pub fronts : (p r q s : List ℕ) → p ++ r ≡ q ++ s → Fronts p r q s
fronts [] r [] s e = same refl e
fronts [] r (y ∷ q) s e = longer y q refl e
fronts (x ∷ p) r [] s e = shorter x p refl (sym e)
fronts (x ∷ p) r (y ∷ q) s e =
    let first : x ≡ y = cc in
    let rest : p ++ r ≡ q ++ s = cc in
    subst (λ z. Fronts (x ∷ p) r (z ∷ q) s) first (behind x p r q s (fronts p r q s rest))

pub record SamePiece (kind : Shape) (piece rest : List ℕ) (kind' : Shape) (piece' rest' : List ℕ) : Type 0 where
  pub kind_is : kind ≡ kind'
  pub piece_is : piece ≡ piece'
  pub rest_is : rest ≡ rest'

pub one_longest : (fresh : Bool) (text : List ℕ) (kind : Shape) (piece rest : List ℕ) (kind' : Shape) (piece' rest' : List ℕ) →
    IsLongest fresh text kind piece rest → IsLongest fresh text kind' piece' rest' → SamePiece kind piece rest kind' piece' rest'
one_longest fresh text kind piece rest kind' piece' rest' l m = by (fronts piece rest piece' rest' (sym l.cut ∙ m.cut))
  where
    by : Fronts piece rest piece' rest' → SamePiece kind piece rest kind' piece' rest'
    by (same e i) = record { kind_is = shape_is fresh kind piece rest l.is_piece ∙ (ap shape_of e ∙ sym (shape_is fresh kind' piece' rest' m.is_piece)); piece_is = e; rest_is = i }
    by (longer c more e i) = absurd (l.longest kind' c more rest' i (subst (λ x. IsPiece fresh kind' x rest') e m.is_piece))
    by (shorter c more e i) = absurd (m.longest kind c more rest i (subst (λ x. IsPiece fresh kind x rest) e l.is_piece))

-- a text that begins with a longest piece isn't one that begins with none, nor empty
pub none_or_longest : (fresh : Bool) (text : List ℕ) (kind : Shape) (piece rest : List ℕ) → HasNone fresh text → IsLongest fresh text kind piece rest → ⊥
none_or_longest fresh text kind piece rest n l = n kind piece rest l.cut l.is_piece

pub empty_or_longest : (fresh : Bool) (kind : Shape) (piece rest : List ℕ) → IsLongest fresh [] kind piece rest → ⊥
empty_or_longest fresh kind [] rest l = no_empty fresh kind rest l.is_piece
empty_or_longest fresh kind (x ∷ piece) rest l = let e = l.cut in absurd (cc)
