-- What a cursor stands before.
use Rattle.std.specs.Prelude.{Bool, true, false}
use Rattle.std.proofs.Common.{◌≡◌, ℕ, suc, zero, ◌<◌, ◌≤◌, ◌-◌, List, [], ◌∷◌, ◌+◌, length, get_or, take, drop, refl, sym, ap, ◌∙◌, arith, subst, Some, None}
use Rattle.std.proofs.lemmas.List.{take-append-drop, take_all, length-drop}
use Rattle.mm_grammar.specs.Grammar.{has}
use Rattle.mm_c.specs.Tokens.{Token, is_white, classes, class_in, class_of, past, cut, in_front, tokens_from, end_from}
use Rattle.mm_c.specs.Tokens as tokens
use Rattle.mm_c.proofs.Lexing as lexing
use Rattle.mm_c_text.specs.Places.{at}
use Rattle.mm_c_text.specs.Scan.{Dark}
use Rattle.mm_c_text.specs.Classes.{number_of}
use Rattle.mm_c_text.specs.Cursor.{class_at, left_of, IsNext, Eats, Sees, token_of}
use Rattle.mm_c_text.specs.declared.cursor.Lexeme.{Lexeme}
use Rattle.mm_c_text.proofs.Firsts.{first_token}

pub white_at : (here : tokens.Place) (bytes : List ℕ) (i : ℕ) → i < length bytes → is_white (get_or bytes i 0) ≡ true → tokens_from (past here (get_or bytes i 0)) (drop (i + 1) bytes) ≡ tokens_from here (drop i bytes)
white_at here [] i l h = absurd (omega arith)
white_at here (b ∷ bs) zero l h = sym (lexing.white_step here b bs h)
white_at here (b ∷ bs) (suc i) l h =
    let e : suc i + 1 ≡ suc (i + 1) = omega arith in
    subst (λ (n : ℕ). tokens_from (past here (get_or bs i 0)) (drop n (b ∷ bs)) ≡ tokens_from here (drop i bs)) (sym e) (white_at here bs i (omega arith) h)

pub dark_end : (bytes : List ℕ) (i : ℕ) → length bytes ≤ i → Dark (drop i bytes)
dark_end [] zero h = tt
dark_end [] (suc i) h = tt
dark_end (b ∷ bs) zero h = absurd (omega arith)
dark_end (b ∷ bs) (suc i) h = dark_end bs i (omega arith)

pub dark_at : (bytes : List ℕ) (i : ℕ) → i < length bytes → is_white (get_or bytes i 0) ≡ false → Dark (drop i bytes)
dark_at [] i l h = absurd (omega arith)
dark_at (b ∷ bs) zero l h = h
dark_at (b ∷ bs) (suc i) l h = dark_at bs i (omega arith) h

pub class_none : (text : List ℕ) → length text ≡ 0 → class_at text ≡ 100
class_none [] h = refl
class_none (b ∷ bs) h = absurd (omega arith)

pub class_some : (text : List ℕ) → 0 < length text → class_at text ≡ class_in classes text
class_some [] h = absurd (omega arith)
class_some (b ∷ bs) h = refl

pub left_none : (text : List ℕ) (here after : tokens.Place) (rest : List ℕ) → length text ≡ 0 → (text ≡ [] → rest ≡ []) → left_of text here after rest ≡ []
unfolding cut
left_none [] here after rest h e = ap (λ l. tokens_from after l) (e refl)
left_none (b ∷ bs) here after rest h e = absurd (omega arith)

pub left_some : (text : List ℕ) (here after : tokens.Place) (rest : List ℕ) → 0 < length text → left_of text here after rest ≡ record { text = text; place = here } ∷ tokens_from after rest
left_some [] here after rest h = absurd (omega arith)
left_some (b ∷ bs) here after rest h = refl

-- the tokens of bytes, cut behind the first
pub left_is : (here : tokens.Place) (bytes : List ℕ) (n : ℕ) → n ≤ length bytes → IsNext n bytes → left_of (take n bytes) here (end_from here (take n bytes)) (drop n bytes) ≡ tokens_from here bytes
left_is here [] n l f = go n
  where
    go : (m : ℕ) → left_of (take m []) here (end_from here (take m [])) (drop m []) ≡ tokens_from here []
    go zero = refl
    go (suc m) = refl
left_is here (b ∷ bs) zero l f = let p = f.0 in absurd (omega arith)
left_is here (b ∷ bs) (suc n) l f =
    sym (first_token here (b ∷ take n bs) (drop n bs) f.1) ∙ ap (λ x. tokens_from here (b ∷ x)) (take-append-drop n bs)

pub ended_is : (bytes : List ℕ) (n : ℕ) → IsNext n bytes → take n bytes ≡ [] → drop n bytes ≡ []
ended_is [] zero f e = refl
ended_is [] (suc n) f e = refl
ended_is (b ∷ bs) zero f e = let p = f.0 in absurd (omega arith)
ended_is (b ∷ bs) (suc n) f e = absurd (cc)

-- ---- taken or not

pub eats_none_end : (cs : List ℕ) (ts : List Token) → ts ≡ [] → Eats cs ts None ts
eats_none_end cs ts e = (refl, λ k r h i. let n = sym e ∙ h in absurd (cc))

pub eats_none_other : (cs : List ℕ) (text : List ℕ) (here after : tokens.Place) (rest : List ℕ) → 0 < length text → has (class_at text) cs ≡ false → Eats cs (left_of text here after rest) None (left_of text here after rest)
eats_none_other cs text here after rest l h = (
  refl,
  λ k r e i.
      let same : record { text = text; place = here } ∷ tokens_from after rest ≡ k ∷ r = sym (left_some text here after rest l) ∙ e in
      let head : k.text ≡ text = ap (λ x. x.text) (first_is same) in
      let c = ap (λ x. has (class_in classes x) cs) head ∙ (ap (λ x. has x cs) (sym (class_some text l)) ∙ h) in
      absurd (let j = i in cc),
)
  where
    first_is : {x y : Token} {xs ys : List Token} → x ∷ xs ≡ y ∷ ys → y ≡ x
    first_is e = cc

pub eats_some : (cs : List ℕ) (x : Lexeme) (here after : tokens.Place) (rest : List ℕ) → here ≡ (token_of x).place → 0 < length x.text.now → number_of x.class ≡ class_at x.text.now → has (number_of x.class) cs ≡ true →
    Eats cs (left_of x.text.now here after rest) (Some x) (tokens_from after rest)
eats_some cs x here after rest e l k h = (
  left_some x.text.now here after rest l ∙ ap (λ p. record { text = x.text.now; place = p } ∷ tokens_from after rest) e,
  ap (λ c. has c cs) (sym (k ∙ class_some x.text.now l)) ∙ h,
  k ∙ class_some x.text.now l,
)

-- what is left of bytes behind the first of them
pub rest_is : (bytes : List ℕ) (n : ℕ) → take (length bytes - n) (drop n bytes) ≡ drop n bytes
rest_is bytes n = take_all (length bytes - n) (drop n bytes) (let e = length-drop n bytes in omega arith)

pub sees_end : (cs : List ℕ) (ts : List Token) (b : Bool) → b ≡ false → ts ≡ [] → Sees cs ts b
sees_end cs ts b n e = record { yes = λ y. let f = sym y ∙ n in absurd (cc); no = λ _. (eats_none_end cs ts e).1 }

pub sees_next : (cs : List ℕ) (x : Lexeme) (here after : tokens.Place) (rest : List ℕ) (b : Bool) → here ≡ at x.place → 0 < length x.text.now → number_of x.class ≡ class_at x.text.now → b ≡ has (number_of x.class) cs → Sees cs (left_of x.text.now here after rest) b
sees_next cs x here after rest b p l k h = record {
  yes = λ y. let e = eats_some cs x here after rest p l k (sym h ∙ y) in (token_of x, tokens_from after rest, e.0, e.1);
  no = λ n. (eats_none_other cs x.text.now here after rest l (ap (λ c. has c cs) (sym k) ∙ (sym h ∙ n))).1;
}
