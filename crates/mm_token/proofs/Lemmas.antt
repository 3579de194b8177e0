-- Runs and ends of comments, by the places in a list.
use Rattle.std.proofs.Common.{◌≡◌, ◌≢◌, ℕ, suc, zero, ◌<◌, ◌≤◌, ◌+◌, ◌==◌, drop, drop-cons, add-one, length-drop, None, Bool, true, false, ◌&&◌, IsTrue, not, ◌++◌, List, [], ◌∷◌, length, get_or, take, refl, arith, sym, ◌∙◌, ap, subst}
use Rattle.std.specs.List.{list_all}
use Rattle.std.proofs.lemmas.List.{nil_from_length, take_all, take-append-drop}
use Rattle.mm_token.specs.Runs.{IsRunOf}
use Rattle.std.specs.Int.{IsInRange}
use Rattle.mm_token.specs.Characters.{is_digit}
use Rattle.mm_token.specs.Words.{past_word}
use Rattle.mm_token.specs.Pieces.{is_open, is_closed, ends_not}

pub both : (a b : Bool) → IsTrue a → IsTrue b → IsTrue (a && b)
both true true x y = y
both true false x y = y
both false b x y = x

pub and_left : (a b : Bool) → IsTrue (a && b) → IsTrue a
and_left true b h = refl
and_left false b h = h

pub and_right : (a b : Bool) → IsTrue (a && b) → IsTrue b
and_right true b h = h
and_right false b h = absurd (cc)

pub open_from : (text : List ℕ) → ((k : ℕ) → suc k < length text → IsTrue (ends_not (get_or text k 0) (get_or text (suc k) 0))) → IsTrue (is_open text)
open_from [] h = refl
open_from (c ∷ []) h = refl
open_from (c ∷ d ∷ r) h = both (ends_not c d) (is_open (d ∷ r)) (h 0 (omega arith)) (open_from (d ∷ r) (λ k l. h (suc k) (omega arith)))

pub closed_from : (n : ℕ) (text : List ℕ) → suc n < length text → ((k : ℕ) → k < n → IsTrue (ends_not (get_or text k 0) (get_or text (suc k) 0))) →
    get_or text n 0 ≡ 42 → get_or text (suc n) 0 ≡ 47 → IsTrue (is_closed (take (suc (suc n)) text))
closed_from n [] l h e f = absurd (omega arith)
closed_from n (c ∷ []) l h e f = absurd (omega arith)
closed_from zero (c ∷ d ∷ r) l h e f = rw (e, f) refl
closed_from (suc n) (c ∷ d ∷ []) l h e f = absurd (omega arith)
closed_from (suc n) (c ∷ d ∷ x ∷ r) l h e f = both (ends_not c d) (is_closed (d ∷ x ∷ take n r)) (h 0 (omega arith)) (closed_from n (d ∷ x ∷ r) (omega arith) (λ k m. h (suc k) (omega arith)) e f)

pub closed_at : (n : ℕ) (text : List ℕ) → n + 1 < length text → ((k : ℕ) → k < n → IsTrue (ends_not (get_or text k 0) (get_or text (suc k) 0))) →
    get_or text n 0 ≡ 42 → get_or text (n + 1) 0 ≡ 47 → IsTrue (is_closed (take (n + 2) text))
closed_at n text l h e f =
    let one : n + 1 ≡ suc n = omega arith in
    let two : n + 2 ≡ suc (suc n) = omega arith in
    let m : suc n < length text = omega arith in
    let next : get_or text (suc n) 0 ≡ 47 = ap (λ i. get_or text i 0) (sym one) ∙ f in
    subst (λ i. IsTrue (is_closed (take i text))) (sym two) (closed_from n text m h e next)

-- ---- all of a list

pub all_of_take : (p : ℕ → Bool) (r : List ℕ) (n : ℕ) → n ≤ length r → ((i : ℕ) → i < n → IsTrue (p (get_or r i 0))) → IsTrue (list_all p (take n r))
all_of_take p r zero l h = refl
all_of_take p [] (suc n) l h = absurd (omega arith)
all_of_take p (x ∷ r) (suc n) l h = both (p x) (list_all p (take n r)) (h 0 (omega arith)) (all_of_take p r n (omega arith) (λ i m. h (suc i) (omega arith)))

pub all_index : (p : ℕ → Bool) (xs : List ℕ) (i : ℕ) → IsTrue (list_all p xs) → i < length xs → IsTrue (p (get_or xs i 0))
all_index p [] i h l = absurd (omega arith)
all_index p (x ∷ xs) zero h l = and_left (p x) (list_all p xs) h
all_index p (x ∷ xs) (suc i) h l = all_index p xs i (and_right (p x) (list_all p xs) h) (omega arith)

pub digit_range : (c : ℕ) → IsTrue (is_digit c) → IsInRange 48 57 c
digit_range c h = grind (arith, h)

-- ---- words

pub word_short : (ws cs : List ℕ) (i n : ℕ) → i < length ws → length cs ≤ n → past_word (drop i ws) (drop n cs) ≡ None
word_short ws cs i n l m = let e : drop n cs ≡ [] = nil_from_length (drop n cs) (omega (arith, length-drop n cs)) in rw (drop-cons ws i 0, e) refl

pub word_other : (ws cs : List ℕ) (i n : ℕ) → i < length ws → n < length cs → get_or cs n 0 ≢ get_or ws i 0 → past_word (drop i ws) (drop n cs) ≡ None
word_other ws cs i n l m h = rw (drop-cons ws i 0, drop-cons cs n 0) (other (get_or ws i 0) (get_or cs n 0) h)
  where
    other : (w c : ℕ) → c ≢ w → past_word (w ∷ drop (suc i) ws) (c ∷ drop (suc n) cs) ≡ None
    other w c h = let e : (w == c) ≡ false = grind (arith, h) in rw e refl

pub word_more : (ws cs : List ℕ) (i n : ℕ) → i < length ws → n < length cs → get_or cs n 0 ≡ get_or ws i 0 → past_word (drop (i + 1) ws) (drop (n + 1) cs) ≡ past_word (drop i ws) (drop n cs)
word_more ws cs i n l m h = rw (add-one, add-one, drop-cons ws i 0, drop-cons cs n 0) (same (get_or ws i 0) (get_or cs n 0) h)
  where
    same : (w c : ℕ) → c ≡ w → past_word (drop (suc i) ws) (drop (suc n) cs) ≡ past_word (w ∷ drop (suc i) ws) (c ∷ drop (suc n) cs)
    same w c h = let e : (w == c) ≡ true = grind (arith, h) in rw e refl

-- ---- runs of characters

pub run_whole : (p : ℕ → Bool) (text : List ℕ) (n : ℕ) → IsRunOf p text n → n ≡ length text → IsTrue (list_all p text)
run_whole p text n run e = subst (λ cs. IsTrue (list_all p cs)) (take_all n text (omega arith)) (all_of_take p text n run.within run.passes)

pub run_split : (text : List ℕ) (n : ℕ) → n < length text → text ≡ take n text ++ get_or text n 0 ∷ drop (suc n) text
run_split text n l = sym (take-append-drop n text) ∙ ap (λ r. take n text ++ r) (drop-cons text n 0 l)

pub run_stops : (p : ℕ → Bool) (text : List ℕ) (n : ℕ) → IsRunOf p text n → n < length text → p (get_or text n 0) ≡ false
run_stops p text n run l = false_of (p (get_or text n 0)) (run.stops l)
  where
    false_of : (b : Bool) → IsTrue (not b) → b ≡ false
    false_of true h = absurd (cc)
    false_of false h = refl
