-- The pieces of a text so far, and what they put.
use Rattle.std.proofs.Common.{◌≡◌, ℕ, ◌≤◌, ◌+◌, ◌*◌, List, [], ◌∷◌, ◌++◌, length, refl, ap, sym, ◌∙◌, arith, append_assoc, append-nil, length-append, subst, if◌then◌else◌, Bool, true, false, ◌==◌}
use Rattle.std.specs.Char.{len_utf8}
use Rattle.std.proofs.lemmas.Str.{len_utf8_bounds}
use Rattle.mm_base.specs.declared.place.Place.{Place}
use Rattle.mm_token.specs.declared.piece.Shape.{Shape}
use Rattle.mm_token.specs.Characters.{place_after}
use Rattle.mm_token.specs.Cut.{Piece, IsCut, IsTaken, text_of, fresh_after, fresh_behind}
use Rattle.mm_token.specs.Tokens.{State, Puts, PutsAll}

pub record SoFar (File : List ℕ → State → State → Type 0) (text rest : List ℕ) (start at : Place) (fresh : Bool) (s t : State) : Type 0 where
  pub pieces : List Piece
  pub cut : (more : List Piece) (end : List ℕ) → IsCut fresh rest more end → IsCut true text (pieces ++ more) end
  pub at_is : at ≡ place_after start (text_of pieces)
  pub fresh_is : fresh ≡ fresh_behind true pieces
  pub puts : PutsAll File pieces start s t

-- how far a place can be
pub record Bounds (text rest : List ℕ) (start at : Place) : Type 0 where
  pub line : at.line + length rest ≤ start.line + length text
  pub col : at.col + 4 * length rest ≤ start.col + 4 * length text

pub begun : (File : List ℕ → State → State → Type 0) (text : List ℕ) (start : Place) (s : State) → SoFar File text text start start true s s
begun File text start s = record { pieces = []; cut = λ more end h. h; at_is = refl; fresh_is = refl; puts = refl }

pub text_of-append : (ps qs : List Piece) → text_of (ps ++ qs) ≡ text_of ps ++ text_of qs
text_of-append [] qs = refl
text_of-append (p ∷ ps) qs = ap (λ t. p.text ++ t) (text_of-append ps qs) ∙ sym (append_assoc p.text (text_of ps) (text_of qs))

pub place_after-append : (at : Place) (a b : List ℕ) → place_after at (a ++ b) ≡ place_after (place_after at a) b
place_after-append at [] b = refl
place_after-append at (c ∷ a) b = place_after-append (if c == 10 then record { file = at.file; line = at.line + 1; col = 1 } else record { file = at.file; line = at.line; col = at.col + len_utf8 c }) a b

fresh_behind-append : (fresh : Bool) (ps qs : List Piece) → fresh_behind fresh (ps ++ qs) ≡ fresh_behind (fresh_behind fresh ps) qs
fresh_behind-append fresh [] qs = refl
fresh_behind-append fresh (p ∷ ps) qs = fresh_behind-append (fresh_after fresh p.kind p.text) ps qs

text_of_one : (p : Piece) → text_of (p ∷ []) ≡ p.text
text_of_one p = append-nil p.text

place_one : (start : Place) (ps : List Piece) (p : Piece) → place_after start (text_of (ps ++ p ∷ [])) ≡ place_after (place_after start (text_of ps)) p.text
place_one start ps p = ap (place_after start) (text_of-append ps (p ∷ []) ∙ ap (λ u. text_of ps ++ u) (text_of_one p)) ∙ place_after-append start (text_of ps) p.text

puts_last : (File : List ℕ → State → State → Type 0) (ps : List Piece) (p : Piece) (at : Place) (s mid t : State) →
    PutsAll File ps at s mid → Puts File p.kind p.text (place_after at (text_of ps)) mid t → PutsAll File (ps ++ p ∷ []) at s t
puts_last File [] p at s mid t h q = (t, subst (λ m. Puts File p.kind p.text at m t) h q, refl)
puts_last File (x ∷ ps) p at s mid t h q =
    (h.0, h.1, puts_last File ps p (place_after at x.text) h.0 mid t h.2 (subst (λ a. Puts File p.kind p.text a mid t) (place_after-append at x.text (text_of ps)) q))

-- one more piece
pub one_more : (File : List ℕ → State → State → Type 0) (text rest : List ℕ) (start at : Place) (fresh : Bool) (s mid t : State) →
    (kind : Shape) (piece : List ℕ) (place : Place) (fresh' : Bool) (after : List ℕ) (next : Place) →
    SoFar File text rest start at fresh s mid → IsTaken fresh rest at kind piece place fresh' after next → Puts File kind piece place mid t →
    SoFar File text after start next fresh' s t
one_more File text rest start at fresh s mid t kind piece place fresh' after next so taken puts =
    let p : Piece = record { kind = kind; text = piece } in
    let cut : (more : List Piece) (end : List ℕ) → IsCut fresh' after more end → IsCut true text ((so.pieces ++ p ∷ []) ++ more) end =
    λ more end h. subst (λ ps. IsCut true text ps end) (sym (append_assoc so.pieces (p ∷ []) more))
    (so.cut (p ∷ more) end (after, taken.is_longest, taken.is_good, subst (λ f. IsCut f after more end) taken.then_fresh h)) in
    record {
      pieces = so.pieces ++ p ∷ [];
      cut = cut;
      at_is = taken.then_place ∙ (ap (λ q. place_after q piece) so.at_is ∙ sym (place_one start so.pieces p));
      fresh_is = taken.then_fresh ∙ (ap (λ f. fresh_after f kind piece) so.fresh_is ∙ sym (fresh_behind-append true so.pieces (p ∷ [])));
      puts = puts_last File so.pieces p start s mid t so.puts (subst (λ q. Puts File kind piece q mid t) (taken.at_place ∙ so.at_is) puts);
    }

-- ---- places

next_place : Place → ℕ → Bool → Place
next_place at c b = if b then record { file = at.file; line = at.line + 1; col = 1 } else record { file = at.file; line = at.line; col = at.col + len_utf8 c }

line_step : (at : Place) (c : ℕ) (b : Bool) → (next_place at c b).line ≤ at.line + 1
unfolding next_place
line_step at c true = omega arith
line_step at c false = omega arith

col_step : (at : Place) (c : ℕ) (b : Bool) → (next_place at c b).col ≤ at.col + 4
unfolding next_place
col_step at c true = omega arith
col_step at c false = let w = (len_utf8_bounds c).1 in omega arith

line_bound : (at : Place) (a : List ℕ) → (place_after at a).line ≤ at.line + length a
unfolding next_place
line_bound at [] = omega arith
line_bound at (c ∷ a) = let h = line_bound (next_place at c (c == 10)) a in let w = line_step at c (c == 10) in omega arith

col_bound : (at : Place) (a : List ℕ) → (place_after at a).col ≤ at.col + 4 * length a
unfolding next_place
col_bound at [] = omega arith
col_bound at (c ∷ a) = let h = col_bound (next_place at c (c == 10)) a in let w = col_step at c (c == 10) in omega arith

pub taken_length : (fresh : Bool) (rest : List ℕ) (at : Place) (kind : Shape) (piece : List ℕ) (place : Place) (fresh' : Bool) (after : List ℕ) (next : Place) →
    IsTaken fresh rest at kind piece place fresh' after next → length rest ≡ length piece + length after
taken_length fresh rest at kind piece place fresh' after next taken = ap length taken.is_longest.cut ∙ length-append piece after

pub bounds_more : (text rest : List ℕ) (start at : Place) (fresh : Bool) (kind : Shape) (piece : List ℕ) (place : Place) (fresh' : Bool) (after : List ℕ) (next : Place) →
    Bounds text rest start at → IsTaken fresh rest at kind piece place fresh' after next → Bounds text after start next
bounds_more text rest start at fresh kind piece place fresh' after next b taken =
    let len = taken_length fresh rest at kind piece place fresh' after next taken in
    let l : next.line ≤ at.line + length piece = subst (λ (q : Place). q.line ≤ at.line + length piece) (sym taken.then_place) (line_bound at piece) in
    let k : next.col ≤ at.col + 4 * length piece = subst (λ (q : Place). q.col ≤ at.col + 4 * length piece) (sym taken.then_place) (col_bound at piece) in
    record { line = omega (arith, b.line); col = omega (arith, b.col) }
