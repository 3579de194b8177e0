-- The forms of directives.
use Rattle.std.proofs.Common.{◌≡◌, ℕ, suc, ◌<◌, ◌+◌, Bool, true, false, not, ◌&&◌, ◌==◌, if◌then◌else◌, IsTrue, List, [], ◌∷◌, ◌++◌, length, take, drop, get_or, refl, arith, sym, ◌∙◌, ap, subst, Option, Some, None, append-nil, length-append, add-one, length-drop, length-take}
use Rattle.std.specs.Prelude.{codes, nat_lt, position}
use Rattle.std.specs.List.{list_all, position_or_len}
use Rattle.std.specs.Str.{IsUtf8, chars}
use Rattle.std.specs.Str.Lossy.{utf8_valid_len}
use Rattle.std.proofs.lemmas.List.{take_all, nil_from_length}
use Rattle.std.proofs.lemmas.List.Quantifiers.{position-Some}
use Rattle.std.proofs.lemmas.Str.{utf8_valid_len-IsUtf8}
use Rattle.mm_token.specs.Characters.{characters_of, spoiled, is_text, is_blank}
use Rattle.mm_token.specs.Words.{past_blanks, past_word, ends_line, named_up_to, named_by, quoted, included_name, is_once_behind, is_once, is_pragma_once}
use Rattle.mm_token.specs.Forms.{AllBlank, IsInclude, IsPragma}
use Rattle.mm_token.proofs.Lemmas.{both, and_left, and_right, all_of_take, run_split}

-- ---- white space

blanks : List ℕ → List ℕ
blanks [] = []
blanks (c ∷ cs) = if is_blank c then c ∷ blanks cs else []

blanks_split : (cs : List ℕ) → (cs ≡ blanks cs ++ past_blanks cs) × AllBlank (blanks cs)
unfolding blanks
blanks_split [] = (refl, refl)
blanks_split (c ∷ cs) = by (is_blank c) refl (blanks_split cs)
  where
    by : (b : Bool) → is_blank c ≡ b → (cs ≡ blanks cs ++ past_blanks cs) × AllBlank (blanks cs) →
        (c ∷ cs ≡ (if b then c ∷ blanks cs else []) ++ (if b then past_blanks cs else c ∷ cs)) × AllBlank (if b then c ∷ blanks cs else [])
    by true e h = (ap (λ r. c ∷ r) h.0, both (is_blank c) (list_all is_blank (blanks cs)) e h.1)
    by false e h = (refl, refl)

past_append : (a r : List ℕ) → AllBlank a → past_blanks (a ++ r) ≡ past_blanks r
past_append [] r h = refl
past_append (c ∷ a) r h = let e : is_blank c ≡ true = and_left (is_blank c) (list_all is_blank a) h in rw e (past_append a r (and_right (is_blank c) (list_all is_blank a) h))

past_stop : (c : ℕ) (r : List ℕ) → is_blank c ≡ false → past_blanks (c ∷ r) ≡ c ∷ r
past_stop c r e = rw e refl

-- ---- words

word_append : (ws cs : List ℕ) → past_word ws (ws ++ cs) ≡ Some cs
word_append [] cs = refl
word_append (w ∷ ws) cs = let e : (w == w) ≡ true = grind arith in rw e (word_append ws cs)

word_is : (ws cs r : List ℕ) → past_word ws cs ≡ Some r → cs ≡ ws ++ r
word_is [] cs r e = let f : cs ≡ r = cc in f
word_is (w ∷ ws) [] r e = absurd (cc)
word_is (w ∷ ws) (c ∷ cs) r e = by (w == c) refl (word_is ws cs r) e
  where
    by : (b : Bool) → (w == c) ≡ b → (past_word ws cs ≡ Some r → cs ≡ ws ++ r) → (if b then past_word ws cs else None) ≡ Some r → c ∷ cs ≡ w ∷ (ws ++ r)
    by true i f e = let s : c ≡ w = grind (arith, i) in let t : cs ≡ ws ++ r = f e in cc
    by false i f e = absurd (cc)

-- ---- the name

abbrev is_quote : ℕ → Bool
is_quote c = c == 34

len_is : (name tail : List ℕ) → IsTrue (list_all (λ c. not (c == 34)) name) → position_or_len is_quote (name ++ 34 ∷ tail) ≡ length name
len_is [] tail h = refl
len_is (c ∷ name) tail h =
    let e : not (c == 34) ≡ true = and_left (not (c == 34)) (list_all (λ c. not (c == 34)) name) h in
    let f = len_is name tail (and_right (not (c == 34)) (list_all (λ c. not (c == 34)) name) h) in
    rw e (omega (arith, f))

quote_at : (name tail : List ℕ) → IsTrue (list_all (λ c. not (c == 34)) name) → position is_quote (name ++ 34 ∷ tail) ≡ Some (length name)
quote_at name tail h =
    let e = len_is name tail h in
    let l : length name < length (name ++ 34 ∷ tail) = omega (arith, length-append name (34 ∷ tail)) in
    let t : nat_lt (length name) (length (name ++ 34 ∷ tail)) ≡ true = grind (arith, l) in
    rw (e, t) refl

take_front : (a b : List ℕ) → take (length a) (a ++ b) ≡ a
take_front [] b = refl
take_front (x ∷ a) b = ap (λ r. x ∷ r) (take_front a b)

drop_front : (a b : List ℕ) (x : ℕ) → drop (length a + 1) (a ++ x ∷ b) ≡ b
drop_front a b x = rw add-one (by a)
  where
    by : (a : List ℕ) → drop (suc (length a)) (a ++ x ∷ b) ≡ b
    by [] = refl
    by (y ∷ a) = by a

named_is : (name tail : List ℕ) → 0 < length name → IsTrue (list_all (λ c. not (c == 34)) name) → IsTrue (ends_line tail) → named_by (Some (name ++ 34 ∷ tail)) ≡ Some name
named_is name tail s q e =
    let i = quote_at name tail q in
    let l : nat_lt 0 (length name) ≡ true = grind (arith, s) in
    let d = drop_front name tail 34 in
    let t = take_front name (34 ∷ tail) in
    rw (i, d, e, l, t) refl

pub record Named (cs name : List ℕ) : Type 0 where
  pub behind : List ℕ
  pub is_all : cs ≡ name ++ 34 ∷ behind
  pub some : 0 < length name
  pub no_quote : IsTrue (list_all (λ c. not (c == 34)) name)
  pub ends : IsTrue (ends_line behind)

named_of : (cs name : List ℕ) → named_by (Some cs) ≡ Some name → Named cs name
named_of cs name e = by (position is_quote cs) refl e
  where
    here : (n : ℕ) → position is_quote cs ≡ Some n → take n cs ≡ name → IsTrue (nat_lt 0 n) → IsTrue (ends_line (drop (n + 1) cs)) → Named cs name
    here n i t s d =
        let p = position-Some is_quote cs n 0 i in
        let q : get_or cs n 0 ≡ 34 = let j = p.1 in grind (arith, j) in
        let z : cs ≡ take n cs ++ 34 ∷ drop (n + 1) cs = rw add-one (run_split cs n p.0 ∙ ap (λ x. take n cs ++ x ∷ drop (suc n) cs) q) in
        let lt : 0 < n = grind (arith, s) in
        let len : 0 < length (take n cs) = omega (arith, length-take n cs, p.0) in
        let none : IsTrue (list_all (λ c. not (c == 34)) (take n cs)) =
        all_of_take (λ c. not (c == 34)) cs n (omega (arith, p.0)) (λ k l. ap not (p.2 k l)) in
        subst (Named cs) t (record { behind = drop (n + 1) cs; is_all = z; some = len; no_quote = none; ends = d })

    inner : (n : ℕ) → position is_quote cs ≡ Some n → (b : Bool) → (nat_lt 0 n && ends_line (drop (n + 1) cs)) ≡ b → (if b then Some (take n cs) else None) ≡ Some name → Named cs name
    inner n i true j e = let t : take n cs ≡ name = cc in here n i t (and_left (nat_lt 0 n) (ends_line (drop (n + 1) cs)) j) (and_right (nat_lt 0 n) (ends_line (drop (n + 1) cs)) j)
    inner n i false j e = absurd (cc)

    by : (o : Option ℕ) → position is_quote cs ≡ o → named_up_to o cs ≡ Some name → Named cs name
    by None i e = absurd (cc)
    by (Some n) i e = inner n i (nat_lt 0 n && ends_line (drop (n + 1) cs)) refl e

-- ---- the two directives

pub include : (rest name : List ℕ) → included_name (35 ∷ rest) ≡ Some name → IsInclude (35 ∷ rest) name
unfolding included_name
include rest name e = by (is_text (35 ∷ rest)) refl e
  where
    last : IsTrue (is_text (35 ∷ rest)) → (r : List ℕ) → past_word (codes "include") (past_blanks rest) ≡ Some r → (s : List ℕ) → past_word (34 ∷ []) (past_blanks r) ≡ Some s → named_by (Some s) ≡ Some name → IsInclude (35 ∷ rest) name
    last t r i s j e =
        let n = named_of s name e in
        let a : rest ≡ blanks rest ++ (codes "include" ++ r) = (blanks_split rest).0 ∙ ap (λ x. blanks rest ++ x) (word_is (codes "include") (past_blanks rest) r i) in
        let b : r ≡ blanks r ++ 34 ∷ (name ++ 34 ∷ n.behind) = (blanks_split r).0 ∙ ap (λ x. blanks r ++ x) (word_is (34 ∷ []) (past_blanks r) s j ∙ ap (λ x. 34 ∷ x) n.is_all) in
        record {
          before = blanks rest;
          between = blanks r;
          behind = n.behind;
          is_line = ap (λ x. 35 ∷ x) (a ∙ ap (λ x. blanks rest ++ (codes "include" ++ x)) b);
          text = t;
          before_blank = (blanks_split rest).1;
          between_blank = (blanks_split r).1;
          some = n.some;
          no_quote = n.no_quote;
          behind_blank = n.ends;
        }

    quote : IsTrue (is_text (35 ∷ rest)) → (r : List ℕ) → past_word (codes "include") (past_blanks rest) ≡ Some r → (o : Option (List ℕ)) → past_word (34 ∷ []) (past_blanks r) ≡ o → named_by o ≡ Some name → IsInclude (35 ∷ rest) name
    quote t r i None j e = absurd (cc)
    quote t r i (Some s) j e = last t r i s j e

    word : IsTrue (is_text (35 ∷ rest)) → (o : Option (List ℕ)) → past_word (codes "include") (past_blanks rest) ≡ o → quoted o ≡ Some name → IsInclude (35 ∷ rest) name
    word t None i e = absurd (cc)
    word t (Some r) i e = quote t r i (past_word (34 ∷ []) (past_blanks r)) refl e

    by : (b : Bool) → is_text (35 ∷ rest) ≡ b → (if b then quoted (past_word (codes "include") (past_blanks rest)) else None) ≡ Some name → IsInclude (35 ∷ rest) name
    by true t e = word t (past_word (codes "include") (past_blanks rest)) refl e
    by false t e = absurd (cc)

pub included : (line name : List ℕ) → IsInclude line name → included_name line ≡ Some name
unfolding included_name
included line name i =
    let tail : List ℕ = name ++ 34 ∷ i.behind in
    let r : List ℕ = i.between ++ 34 ∷ tail in
    let e : past_blanks (drop 1 line) ≡ codes "include" ++ r =
    ap (λ x. past_blanks (drop 1 x)) i.is_line ∙ past_append i.before (codes "include" ++ r) i.before_blank in
    let f : past_word (codes "include") (past_blanks (drop 1 line)) ≡ Some r = ap (past_word (codes "include")) e ∙ word_append (codes "include") r in
    let g : quoted (Some r) ≡ Some name = ap (λ x. named_by (past_word (34 ∷ []) x)) (past_append i.between (34 ∷ tail) i.between_blank) ∙ named_is name i.behind i.some i.no_quote i.behind_blank in
    rw i.text (ap quoted f ∙ g)

pub utf8 : (bytes : List ℕ) → IsUtf8 bytes → characters_of bytes ≡ chars bytes
unfolding characters_of
utf8 bytes u =
    let n = utf8_valid_len-IsUtf8 bytes u in
    let t : take (utf8_valid_len bytes) bytes ≡ bytes = take_all (utf8_valid_len bytes) bytes (omega arith) in
    let d : drop (utf8_valid_len bytes) bytes ≡ [] = nil_from_length (drop (utf8_valid_len bytes) bytes) (omega (arith, length-drop (utf8_valid_len bytes) bytes)) in
    ap (λ x. chars x ++ spoiled (drop (utf8_valid_len bytes) bytes)) t ∙ (ap (λ x. chars bytes ++ spoiled x) d ∙ append-nil (chars bytes))

pub pragma : (rest : List ℕ) → IsTrue (is_pragma_once (35 ∷ rest)) → IsPragma (35 ∷ rest)
unfolding is_pragma_once
pragma rest h =
    word (and_left (is_text (35 ∷ rest)) (is_once (past_word (codes "pragma") (past_blanks rest))) h) (past_word (codes "pragma") (past_blanks rest)) refl
    (and_right (is_text (35 ∷ rest)) (is_once (past_word (codes "pragma") (past_blanks rest))) h)
  where
    last : IsTrue (is_text (35 ∷ rest)) → (c : ℕ) (r : List ℕ) → past_word (codes "pragma") (past_blanks rest) ≡ Some (c ∷ r) → IsTrue (is_blank c) → (o : Option (List ℕ)) → past_word (codes "once") (past_blanks r) ≡ o → IsTrue (is_once_behind o) → IsPragma (35 ∷ rest)
    last t c r i b None j h = absurd (cc)
    last t c r i b (Some s) j h =
        let a : rest ≡ blanks rest ++ (codes "pragma" ++ (c ∷ r)) = (blanks_split rest).0 ∙ ap (λ x. blanks rest ++ x) (word_is (codes "pragma") (past_blanks rest) (c ∷ r) i) in
        let d : r ≡ blanks r ++ (codes "once" ++ s) = (blanks_split r).0 ∙ ap (λ x. blanks r ++ x) (word_is (codes "once") (past_blanks r) s j) in
        record {
          before = blanks rest;
          between = c ∷ blanks r;
          behind = s;
          is_line = ap (λ x. 35 ∷ x) (a ∙ ap (λ x. blanks rest ++ (codes "pragma" ++ (c ∷ x))) d);
          text = t;
          before_blank = (blanks_split rest).1;
          some = omega arith;
          between_blank = both (is_blank c) (list_all is_blank (blanks r)) b (blanks_split r).1;
          behind_blank = h;
        }

    word : IsTrue (is_text (35 ∷ rest)) → (o : Option (List ℕ)) → past_word (codes "pragma") (past_blanks rest) ≡ o → IsTrue (is_once o) → IsPragma (35 ∷ rest)
    word t None i h = absurd (cc)
    word t (Some []) i h = absurd (cc)
    word t (Some (c ∷ r)) i h =
        last t c r i (and_left (is_blank c) (is_once_behind (past_word (codes "once") (past_blanks r))) h) (past_word (codes "once") (past_blanks r)) refl
        (and_right (is_blank c) (is_once_behind (past_word (codes "once") (past_blanks r))) h)

pub once : (line : List ℕ) → IsPragma line → IsTrue (is_pragma_once line)
unfolding is_pragma_once
once line i = both (is_text line) (is_once (past_word (codes "pragma") (past_blanks (drop 1 line)))) i.text (by i.between i.some i.between_blank i.is_line)
  where
    by : (between : List ℕ) → 0 < length between → AllBlank between → line ≡ 35 ∷ (i.before ++ (codes "pragma" ++ (between ++ (codes "once" ++ i.behind)))) →
        IsTrue (is_once (past_word (codes "pragma") (past_blanks (drop 1 line))))
    by [] l b e = absurd (omega arith)
    by (c ∷ cs) l b e =
        let r : List ℕ = c ∷ (cs ++ (codes "once" ++ i.behind)) in
        let f : past_blanks (drop 1 line) ≡ codes "pragma" ++ r = ap (λ x. past_blanks (drop 1 x)) e ∙ past_append i.before (codes "pragma" ++ r) i.before_blank in
        let g : past_word (codes "pragma") (past_blanks (drop 1 line)) ≡ Some r = ap (past_word (codes "pragma")) f ∙ word_append (codes "pragma") r in
        let h : past_word (codes "once") (past_blanks (cs ++ (codes "once" ++ i.behind))) ≡ Some i.behind =
        ap (past_word (codes "once")) (past_append cs (codes "once" ++ i.behind) (and_right (is_blank c) (list_all is_blank cs) b)) ∙ word_append (codes "once") i.behind in
        let k : IsTrue (is_blank c && is_once_behind (past_word (codes "once") (past_blanks (cs ++ (codes "once" ++ i.behind))))) =
        both (is_blank c) (is_once_behind (past_word (codes "once") (past_blanks (cs ++ (codes "once" ++ i.behind))))) (and_left (is_blank c) (list_all is_blank cs) b)
        (subst (λ o. IsTrue (is_once_behind o)) (sym h) i.behind_blank) in
        subst (λ o. IsTrue (is_once o)) (sym g) k
