-- Words and marks are tokens.
use Rattle.std.specs.Prelude.{Bool, true, false, not, ◌&&◌, ◌||◌, ◌==◌, cond}
use Rattle.std.specs.List.{list_all, prefix_len}
use Rattle.std.proofs.Common.{◌≡◌, ℕ, suc, ◌<◌, ◌+◌, List, [], ◌∷◌, ◌++◌, length, get_or, take, drop, refl, sym, ap, ◌∙◌, arith, subst, append-nil}
use Rattle.mm_grammar.proofs.Lists.{same}
use Rattle.mm_c.specs.Tokens.{Place, is_white, is_word_byte, takes_equals, joins, cut, tokens_from, end_from}
use Rattle.mm_c.specs.Lexing.{joins_on, is_token}
use Rattle.mm_c.proofs.Lexing.{token_step, token_end}
use Rattle.mm_c_text.specs.Scan.{Dark, Ends, IsFirst}

abbrev w : ℕ → Bool
w = is_word_byte

or_case : {P : Type 0} (a b : Bool) → (a || b) ≡ true → (a ≡ true → P) → (b ≡ true → P) → P
or_case true b h f g = f refl
or_case false b h f g = g h

mark_not_word : (a : ℕ) → takes_equals a ≡ true → w a ≡ false
mark_not_word a h = or_case ((a == 60) || (a == 62) || (a == 61)) (a == 33) h
    (λ h1. or_case ((a == 60) || (a == 62)) (a == 61) h1 (λ h2. or_case (a == 60) (a == 62) h2 (here 60 refl) (here 62 refl)) (here 61 refl)) (here 33 refl)
  where
    here : (n : ℕ) → w n ≡ false → (a == n) ≡ true → w a ≡ false
    here n k e = ap w (same a n e) ∙ k

no_mark : (a : ℕ) → w a ≡ true → takes_equals a ≡ false
no_mark a h = go (takes_equals a) refl
  where
    go : (b : Bool) → takes_equals a ≡ b → takes_equals a ≡ false
    go true e = let n = mark_not_word a e in absurd (cc)
    go false e = e

joins_words : (a : ℕ) (ps : List ℕ) (b : ℕ) → w a ≡ true → w b ≡ true → joins (a ∷ ps) b ≡ true
joins_words a [] b h i = ap (λ (x : Bool). (x && w b) || (takes_equals a && (b == 61))) h ∙ ap (λ (x : Bool). x || (takes_equals a && (b == 61))) i
joins_words a (c ∷ ps) b h i = ap (λ (x : Bool). x && w b) h ∙ i

joins_not : (a : ℕ) (ps : List ℕ) (b : ℕ) → w a ≡ true → w b ≡ false → joins (a ∷ ps) b ≡ false
joins_not a [] b h i = ap (λ (x : Bool). (x && w b) || (takes_equals a && (b == 61))) h ∙ ap (λ (x : Bool). x || (takes_equals a && (b == 61))) i ∙ ap (λ (x : Bool). x && (b == 61)) (no_mark a h)
joins_not a (c ∷ ps) b h i = ap (λ (x : Bool). x && w b) h ∙ i

and_left : (a b : Bool) → (a && b) ≡ true → a ≡ true
and_left true b h = refl
and_left false b h = h

and_right : (a b : Bool) → (a && b) ≡ true → b ≡ true
and_right true b h = h
and_right false b h = absurd (cc)

joins_on_words : (a : ℕ) (ps bs : List ℕ) → w a ≡ true → list_all w bs ≡ true → joins_on (a ∷ ps) bs ≡ true
joins_on_words a ps [] h i = refl
joins_on_words a ps (b ∷ bs) h i =
    ap (λ (x : Bool). x && joins_on (a ∷ (ps ++ b ∷ [])) bs) (joins_words a ps b h (and_left (w b) (list_all w bs) i))
    ∙ joins_on_words a (ps ++ b ∷ []) bs h (and_right (w b) (list_all w bs) i)

-- ---- words

one_more : (n : ℕ) → suc n ≡ 1 + n
one_more n = omega arith

front_words : (xs : List ℕ) → list_all w (take (prefix_len w xs) xs) ≡ true
front_words [] = refl
front_words (x ∷ xs) = go (front_words xs) (w x) refl
  where
    go : list_all w (take (prefix_len w xs) xs) ≡ true → (b : Bool) → w x ≡ b → list_all w (take (cond (w x) (1 + prefix_len w xs) 0) (x ∷ xs)) ≡ true
    go m true e =
        subst (λ (b : Bool). list_all w (take (cond b (1 + prefix_len w xs) 0) (x ∷ xs)) ≡ true) (sym e)
        (subst (λ (n : ℕ). list_all w (take n (x ∷ xs)) ≡ true) (one_more (prefix_len w xs)) (ap (λ (b : Bool). b && list_all w (take (prefix_len w xs) xs)) e ∙ m))
    go m false e = subst (λ (b : Bool). list_all w (take (cond b (1 + prefix_len w xs) 0) (x ∷ xs)) ≡ true) (sym e) refl

word_ends : (a : ℕ) (ps xs : List ℕ) → w a ≡ true → Ends (a ∷ ps) (drop (prefix_len w xs) xs)
word_ends a ps [] h = tt
word_ends a ps (x ∷ xs) h = go (word_ends a ps xs h) (w x) refl
  where
    go : Ends (a ∷ ps) (drop (prefix_len w xs) xs) → (b : Bool) → w x ≡ b → Ends (a ∷ ps) (drop (cond (w x) (1 + prefix_len w xs) 0) (x ∷ xs))
    go m true e =
        subst (λ (b : Bool). Ends (a ∷ ps) (drop (cond b (1 + prefix_len w xs) 0) (x ∷ xs))) (sym e)
        (subst (λ (n : ℕ). Ends (a ∷ ps) (drop n (x ∷ xs))) (one_more (prefix_len w xs)) m)
    go m false e = subst (λ (b : Bool). Ends (a ∷ ps) (drop (cond b (1 + prefix_len w xs) 0) (x ∷ xs))) (sym e) (joins_not a ps x h e)

dark_token : (a : ℕ) (t : List ℕ) → is_white a ≡ false → joins_on (a ∷ []) t ≡ true → is_token (a ∷ t) ≡ true
dark_token a t d h = ap (λ (x : Bool). not x && joins_on (a ∷ []) t) d ∙ h

pub word_first : (text : List ℕ) → 0 < length text → Dark text → w (get_or text 0 0) ≡ true → IsFirst (take (prefix_len w text) text) (drop (prefix_len w text) text)
word_first [] l d h = absurd (omega arith)
word_first (a ∷ xs) l d h = subst (λ (n : ℕ). IsFirst (take n (a ∷ xs)) (drop n (a ∷ xs))) (one_more (prefix_len w xs) ∙ sym (ap (λ (b : Bool). cond b (1 + prefix_len w xs) 0) h)) (record {
  token = dark_token a (take (prefix_len w xs) xs) d (joins_on_words a [] (take (prefix_len w xs) xs) h (front_words xs));
  ends = word_ends a (take (prefix_len w xs) xs) xs h;
})

pub word_some : (text : List ℕ) → 0 < length text → w (get_or text 0 0) ≡ true → 0 < prefix_len w text
word_some [] l h = absurd (omega arith)
word_some (a ∷ xs) l h = subst (λ (n : ℕ). 0 < n) (sym (ap (λ (b : Bool). cond b (1 + prefix_len w xs) 0) h)) (omega arith)

-- ---- marks

pub two_first : (text : List ℕ) → 1 < length text → Dark text → takes_equals (get_or text 0 0) ≡ true → get_or text 1 0 ≡ 61 → IsFirst (take 2 text) (drop 2 text)
two_first [] l d h e = absurd (omega arith)
two_first (a ∷ []) l d h e = absurd (omega arith)
two_first (a ∷ b ∷ xs) l d h e = record {
  token = dark_token a (b ∷ []) d (ap (λ (x : Bool). ((w a && w b) || (x && (b == 61))) && true) h ∙ ap (λ (n : ℕ). ((w a && w n) || (n == 61)) && true) e ∙ ap (λ (x : Bool). ((x && w 61) || true) && true) (mark_not_word a h));
  ends = go xs;
}
  where
    go : (ys : List ℕ) → Ends (a ∷ b ∷ []) ys
    go [] = tt
    go (y ∷ ys) = ap (λ (x : Bool). x && w y) (mark_not_word a h)

-- no byte of a word, and no first of two
pub one_first : (text : List ℕ) → 0 < length text → Dark text → w (get_or text 0 0) ≡ false → (1 < length text → takes_equals (get_or text 0 0) ≡ true → get_or text 1 0 ≡ 61 → ⊥) → IsFirst (take 1 text) (drop 1 text)
one_first [] l d h e = absurd (omega arith)
one_first (a ∷ xs) l d h e = record { token = dark_token a [] d refl; ends = go xs refl }
  where
    go : (ys : List ℕ) → xs ≡ ys → Ends (a ∷ []) ys
    go [] k = tt
    go (y ∷ ys) k = ap (λ (x : Bool). (x && w y) || (takes_equals a && (y == 61))) h ∙ pair (takes_equals a) (y == 61) refl refl
      where
        pair : (b c : Bool) → takes_equals a ≡ b → (y == 61) ≡ c → (takes_equals a && (y == 61)) ≡ false
        pair false c p q = ap (λ (x : Bool). x && (y == 61)) p
        pair true false p q = ap (λ (x : Bool). x && (y == 61)) p ∙ q
        pair true true p q = absurd (e (subst (λ (zs : List ℕ). 1 < length (a ∷ zs)) (sym k) (omega arith)) p (subst (λ (zs : List ℕ). get_or (a ∷ zs) 1 0 ≡ 61) (sym k) (same y 61 q)))

-- ---- the tokens of what begins so

pub first_token : (here : Place) (t rest : List ℕ) → IsFirst t rest → tokens_from here (t ++ rest) ≡ record { text = t; place = here } ∷ tokens_from (end_from here t) rest
unfolding cut
first_token here t [] f = ap (λ l. tokens_from here l) (append-nil t) ∙ token_end here t f.token
first_token here t (b ∷ rest) f = token_step here t b rest f.token f.ends
