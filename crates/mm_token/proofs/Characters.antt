-- The characters of bytes are no more than the bytes, and what is made of characters.
use Rattle.std.proofs.Common.{◌≡◌, ℕ, suc, zero, ◌≤◌, ◌+◌, ◌-◌, Bool, true, false, IsTrue, ◌&&◌, ◌||◌, List, [], ◌∷◌, length, take, drop, refl, sym, arith, length-append, length-drop, length-take, subst, Option, Some, None, inl, inr, ◌*◌}
use Rattle.std.specs.Str.{chars, chars_after, continuation_len, lead_bits}
use Rattle.std.specs.Prelude.{nat_lt, codes, position, ◌==◌, if◌then◌else◌, ◌⊎◌}
use Rattle.std.specs.Str.Lossy.{utf8_valid_len}
use Rattle.std.specs.List.{list_all}
use Rattle.std.proofs.lemmas.Str.{utf8_valid_len_le}
use lib.Utf8.{low_scalar, scalar as is_character}
use Rattle.unicode_ident.specs.Ident.{is_xid_continue}
use Rattle.mm_token.specs.declared.piece.Sort.{Sort}
use Rattle.mm_token.specs.declared.piece.Sort.TheVariants as sort_is
use Rattle.mm_token.specs.declared.piece.Shape.{Shape}
use Rattle.mm_token.specs.declared.piece.Shape.TheVariants as shape
use Rattle.mm_token.specs.Characters.{characters_of, spoiled, is_text, is_blank, is_pair, sort_of, sort_of_character, continues}
use Rattle.mm_token.specs.Words.{past_blanks, past_word, ends_line, named_up_to, named_by, quoted, included_name}
use Rattle.mm_token.specs.Pieces.{IsPiece}
use Rattle.mm_token.specs.Clauses.{IsText}
use Rattle.mm_token.proofs.Lemmas.{both, and_left, and_right}

spoiled_length : (bs : List ℕ) → length (spoiled bs) ≡ length bs
spoiled_length [] = refl
spoiled_length (b ∷ bs) = refl

after_short : (n c : ℕ) (bs : List ℕ) → length (chars_after n c bs) ≤ suc (length bs)
after_short zero c [] = omega arith
after_short zero c (b ∷ bs) = let h = after_short (continuation_len b) (lead_bits b) bs in omega arith
after_short (suc n) c [] = omega arith
after_short (suc n) c (b ∷ bs) = let h = after_short n (c * 64 + (b - 128)) bs in omega arith

chars_short : (bs : List ℕ) → length (chars bs) ≤ length bs
unfolding chars
chars_short [] = omega arith
chars_short (b ∷ bs) = after_short (continuation_len b) (lead_bits b) bs

pub characters-short : (bytes : List ℕ) → length (characters_of bytes) ≤ length bytes
unfolding characters_of
characters-short bytes =
    let n = utf8_valid_len bytes in
    let l = utf8_valid_len_le bytes in
    let h = chars_short (take n bytes) in
    omega (arith, h, length-append (chars (take n bytes)) (spoiled (drop n bytes)), spoiled_length (drop n bytes), length-drop n bytes, length-take n bytes)

-- ---- names and tokens are characters

all_drop : (p : ℕ → Bool) (n : ℕ) (cs : List ℕ) → IsTrue (list_all p cs) → IsTrue (list_all p (drop n cs))
all_drop p zero cs h = h
all_drop p (suc n) [] h = h
all_drop p (suc n) (c ∷ cs) h = all_drop p n cs (and_right (p c) (list_all p cs) h)

all_take : (p : ℕ → Bool) (n : ℕ) (cs : List ℕ) → IsTrue (list_all p cs) → IsTrue (list_all p (take n cs))
all_take p zero cs h = refl
all_take p (suc n) [] h = h
all_take p (suc n) (c ∷ cs) h = both (p c) (list_all p (take n cs)) (and_left (p c) (list_all p cs) h) (all_take p n cs (and_right (p c) (list_all p cs) h))

all_past_blanks : (p : ℕ → Bool) (cs : List ℕ) → IsTrue (list_all p cs) → IsTrue (list_all p (past_blanks cs))
all_past_blanks p [] h = h
all_past_blanks p (c ∷ cs) h = by (is_blank c) (all_past_blanks p cs (and_right (p c) (list_all p cs) h))
  where
    by : (b : Bool) → IsTrue (list_all p (past_blanks cs)) → IsTrue (list_all p (if b then past_blanks cs else c ∷ cs))
    by true r = r
    by false r = h

all_past_word : (p : ℕ → Bool) (ws cs r : List ℕ) → past_word ws cs ≡ Some r → IsTrue (list_all p cs) → IsTrue (list_all p r)
all_past_word p [] cs r e h = let s : cs ≡ r = cc in subst (λ x. IsTrue (list_all p x)) s h
all_past_word p (w ∷ ws) [] r e h = absurd (cc)
all_past_word p (w ∷ ws) (c ∷ cs) r e h = by (w == c) (λ i. all_past_word p ws cs r i (and_right (p c) (list_all p cs) h)) e
  where
    by : (b : Bool) → (past_word ws cs ≡ Some r → IsTrue (list_all p r)) → (if b then past_word ws cs else None) ≡ Some r → IsTrue (list_all p r)
    by true f e = f e
    by false f e = absurd (cc)

all_named_up_to : (p : ℕ → Bool) (o : Option ℕ) (cs name : List ℕ) → named_up_to o cs ≡ Some name → IsTrue (list_all p cs) → IsTrue (list_all p name)
all_named_up_to p None cs name e h = absurd (cc)
all_named_up_to p (Some n) cs name e h = by (nat_lt 0 n && ends_line (drop (n + 1) cs)) e
  where
    by : (b : Bool) → (if b then Some (take n cs) else None) ≡ Some name → IsTrue (list_all p name)
    by true e = let s : take n cs ≡ name = cc in subst (λ x. IsTrue (list_all p x)) s (all_take p n cs h)
    by false e = absurd (cc)

all_named_by : (p : ℕ → Bool) (o : Option (List ℕ)) (name : List ℕ) → ((r : List ℕ) → o ≡ Some r → IsTrue (list_all p r)) → named_by o ≡ Some name → IsTrue (list_all p name)
all_named_by p None name h e = absurd (cc)
all_named_by p (Some cs) name h e = all_named_up_to p (position (λ c. c == 34) cs) cs name e (h cs refl)

all_quoted : (p : ℕ → Bool) (o : Option (List ℕ)) (name : List ℕ) → ((r : List ℕ) → o ≡ Some r → IsTrue (list_all p r)) → quoted o ≡ Some name → IsTrue (list_all p name)
all_quoted p None name h e = absurd (cc)
all_quoted p (Some cs) name h e =
    all_named_by p (past_word (34 ∷ []) (past_blanks cs)) name (λ r i. all_past_word p (34 ∷ []) (past_blanks cs) r i (all_past_blanks p cs (h cs refl))) e

pub name_is_text : (line name : List ℕ) → included_name line ≡ Some name → IsTrue (is_text name)
unfolding included_name
name_is_text line name e = by (is_text line) refl e
  where
    by : (b : Bool) → is_text line ≡ b → (if b then quoted (past_word (codes "include") (past_blanks (drop 1 line))) else None) ≡ Some name → IsTrue (is_text name)
    by true h e =
        all_quoted is_character (past_word (codes "include") (past_blanks (drop 1 line))) name
        (λ r i. all_past_word is_character (codes "include") (past_blanks (drop 1 line)) r i (all_past_blanks is_character (drop 1 line) (all_drop is_character 1 line h))) e
    by false h e = absurd (cc)

pub sort_is_character : (c : ℕ) (s : Sort) → sort_of c ≡ s → (s ≡ sort_is.Other → ⊥) → is_character c ≡ true
sort_is_character c s e n = by (is_character c) e
  where
    by : (b : Bool) → (if b then sort_of_character c else sort_is.Other) ≡ s → b ≡ true
    by true e = refl
    by false e = absurd (n (sym e))

all_weaker : (p q : ℕ → Bool) → ((c : ℕ) → IsTrue (p c && q c) → IsTrue (p c)) → (cs : List ℕ) → IsTrue (list_all (λ c. p c && q c) cs) → IsTrue (list_all p cs)
all_weaker p q f [] h = refl
all_weaker p q f (c ∷ cs) h = both (p c) (list_all p cs) (f c (and_left (p c && q c) (list_all (λ c. p c && q c) cs) h)) (all_weaker p q f cs (and_right (p c && q c) (list_all (λ c. p c && q c) cs) h))

continued : (cs : List ℕ) → IsTrue (list_all continues cs) → IsTrue (is_text cs)
continued cs h = all_weaker is_character (λ c. c == 95 || is_xid_continue c) (λ c i. and_left (is_character c) (c == 95 || is_xid_continue c) i) cs h

-- the second of a pair: below 128
pair_second : (c d : ℕ) → IsTrue (is_pair c d) → is_character d ≡ true
pair_second c d h = low_scalar d (grind (arith, h))

-- one character of a mark, and two
head_is_character : (c : ℕ) → (sort_of c ≡ sort_is.Slash) ⊎ (sort_of c ≡ sort_is.Punctuation) → is_character c ≡ true
head_is_character c (inl e) = sort_is_character c sort_is.Slash e (λ h. absurd (cc))
head_is_character c (inr e) = sort_is_character c sort_is.Punctuation e (λ h. absurd (cc))

pub token_is_text : (fresh : Bool) (kind : Shape) (cs rest : List ℕ) → IsPiece fresh kind cs rest → IsText kind cs
token_is_text fresh shape.Blank cs rest h = tt
token_is_text fresh shape.Line cs rest h = tt
token_is_text fresh shape.Block cs rest h = tt
token_is_text fresh shape.Open cs rest h = tt
token_is_text fresh shape.Directive cs rest h = tt
token_is_text fresh shape.Word [] rest h = absurd h
token_is_text fresh shape.Word (c ∷ cs) rest h = both (is_character c) (is_text cs) (sort_is_character c sort_is.Letter h.0 (λ e. absurd (cc))) (continued cs h.1)
token_is_text fresh shape.Number [] rest h = absurd h
token_is_text fresh shape.Number (c ∷ cs) rest h = both (is_character c) (is_text cs) (sort_is_character c sort_is.Digit h.0 (λ e. absurd (cc))) (continued cs h.1)
token_is_text fresh shape.Mark [] rest h = absurd h
token_is_text fresh shape.Mark (c ∷ []) rest h = both (is_character c) true (head_is_character c (elim h [ inl a ↦ inl a | inr b ↦ inr b.0 ])) refl
token_is_text fresh shape.Mark (c ∷ d ∷ []) rest h = both (is_character c) (is_character d && true) (head_is_character c h.0) (both (is_character d) true (pair_second c d h.1) refl)
token_is_text fresh shape.Mark (c ∷ d ∷ e ∷ cs) rest h = absurd h
