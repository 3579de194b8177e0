-- Why a piece is the longest: its first character says which kinds there may be.
use Rattle.std.proofs.Common.{◌≡◌, ◌≢◌, ℕ, suc, zero, ◌<◌, ◌≤◌, Bool, true, false, ◌||◌, not, ◌==◌, if◌then◌else◌, IsTrue, List, [], ◌∷◌, ◌++◌, ◌⊎◌, inl, inr, length, get_or, take, drop, refl, arith, sym, ◌∙◌, ap, subst}
use Rattle.std.proofs.lemmas.List.{take-append-drop, append-nil}
use Rattle.std.specs.List.{list_all}
use Rattle.unicode_ident.specs.Ident.{is_xid_start}
use Rattle.mm_token.specs.declared.piece.Sort.{Sort}
use Rattle.mm_token.specs.declared.piece.Sort.TheVariants as sort_is
use Rattle.mm_token.specs.declared.piece.Shape.{Shape}
use Rattle.mm_token.specs.declared.piece.Shape.TheVariants as shape
use Rattle.mm_token.specs.Characters.{sort_of, is_blank, is_punctuation, is_digit, continues, is_pair, begins_pair}
use Rattle.mm_token.specs.Pieces.{is_open, is_closed, ends_not, goes_on_line, quoted_after, is_on_line, IsPiece, IsMark, IsLongest, HasNone, Begins}
use Rattle.mm_token.specs.Runs.{behind_line, IsRunOf, BeginsComment, IsHead, MayBeMark, BeginsWith}
use lib.Utf8.{scalar as is_character}
use Rattle.mm_token.proofs.Lemmas.{both, and_left, and_right, all_of_take}

abbrev Fits : Shape → Sort → Type 0
Fits shape.Blank s = s ≡ sort_is.Blank
Fits shape.Line s = s ≡ sort_is.Slash
Fits shape.Block s = s ≡ sort_is.Slash
Fits shape.Open s = s ≡ sort_is.Slash
Fits shape.Word s = s ≡ sort_is.Letter
Fits shape.Number s = s ≡ sort_is.Digit
Fits shape.Directive s = s ≡ sort_is.Hash
Fits shape.Mark s = (s ≡ sort_is.Slash) ⊎ (s ≡ sort_is.Punctuation)

slash_sort : (c : ℕ) → c ≡ 47 → sort_of c ≡ sort_is.Slash
slash_sort c e = rw e refl

-- a line that is cut where its directive ends
pub record LineCut (quoted : Bool) (r rest : List ℕ) : Type 0 where
  pub piece : List ℕ
  pub cut : r ≡ piece ++ rest
  pub on_line : IsTrue (is_on_line quoted piece rest)
  pub longest : (d : ℕ) (more tail : List ℕ) → rest ≡ (d ∷ more) ++ tail → IsTrue (is_on_line quoted (piece ++ d ∷ more) tail) → ⊥

line_cut : (quoted : Bool) (r : List ℕ) → LineCut quoted r (behind_line quoted r)
line_cut quoted [] = record { piece = []; cut = refl; on_line = refl; longest = λ d more tail e h. absurd (cc) }
line_cut quoted (c ∷ r) = by (goes_on_line quoted (c ∷ r)) refl (line_cut (quoted_after quoted c) r)
  where
    by : (b : Bool) → goes_on_line quoted (c ∷ r) ≡ b → LineCut (quoted_after quoted c) r (behind_line (quoted_after quoted c) r) →
        LineCut quoted (c ∷ r) (if b then behind_line (quoted_after quoted c) r else c ∷ r)
    by true e k = record {
      piece = c ∷ k.piece;
      cut = ap (λ x. c ∷ x) k.cut;
      on_line = both (goes_on_line quoted (c ∷ (k.piece ++ behind_line (quoted_after quoted c) r))) (is_on_line (quoted_after quoted c) k.piece (behind_line (quoted_after quoted c) r))
          (subst (λ x. goes_on_line quoted (c ∷ x) ≡ true) k.cut e) k.on_line;
      longest = λ d more tail i h. k.longest d more tail i
          (and_right (goes_on_line quoted (c ∷ ((k.piece ++ d ∷ more) ++ tail))) (is_on_line (quoted_after quoted c) (k.piece ++ d ∷ more) tail) h);
    }
    by false e k = record {
      piece = [];
      cut = refl;
      on_line = refl;
      longest = λ d more tail i h.
          let g : goes_on_line quoted (c ∷ r) ≡ true = subst (λ x. goes_on_line quoted x ≡ true) (sym i)
          (and_left (goes_on_line quoted (d ∷ (more ++ tail))) (is_on_line (quoted_after quoted d) more tail) h) in
          absurd (cc);
    }

module _ (fr : Bool) where
  kind_sort : (kind : Shape) (c : ℕ) (r rest : List ℕ) → IsPiece fr kind (c ∷ r) rest → Fits kind (sort_of c)
  kind_sort shape.Blank c r rest h = h.0
  kind_sort shape.Line c [] rest h = absurd h
  kind_sort shape.Line c (d ∷ r) rest h = slash_sort c h.0
  kind_sort shape.Block c [] rest h = absurd h
  kind_sort shape.Block c (d ∷ r) rest h = slash_sort c h.0
  kind_sort shape.Open c [] rest h = absurd h
  kind_sort shape.Open c (d ∷ r) rest h = slash_sort c h.0
  kind_sort shape.Word c r rest h = h.0
  kind_sort shape.Number c r rest h = h.0
  kind_sort shape.Directive c r rest h = h.1
  kind_sort shape.Mark c [] rest h = elim h [ inl a ↦ inl a | inr b ↦ inr b.0 ]
  kind_sort shape.Mark c (d ∷ []) rest h = h.0
  kind_sort shape.Mark c (d ∷ e ∷ r) rest h = absurd h

  -- ---- runs

  pub all_at : (p : ℕ → Bool) (a : List ℕ) (d : ℕ) (m : List ℕ) → IsTrue (list_all p (a ++ d ∷ m)) → IsTrue (p d)
  all_at p [] d m h = and_left (p d) (list_all p m) h
  all_at p (x ∷ a) d m h = all_at p a d m (and_right (p x) (list_all p (a ++ d ∷ m)) h)

  -- what stands after the first n
  next_at : (r : List ℕ) (n d : ℕ) (m : List ℕ) → n ≤ length r → drop n r ≡ d ∷ m → (n < length r) × (get_or r n 0 ≡ d)
  next_at [] zero d m l e = absurd (cc)
  next_at [] (suc n) d m l e = absurd (omega arith)
  next_at (x ∷ r) zero d m l e = (omega arith, cc)
  next_at (x ∷ r) (suc n) d m l e = let h = next_at r n d m (omega arith) e in (omega arith, h.1)

  no_more : (p : ℕ → Bool) (r : List ℕ) (n d : ℕ) (m tail : List ℕ) → IsRunOf p r n → drop n r ≡ (d ∷ m) ++ tail → IsTrue (list_all p (take n r ++ d ∷ m)) → ⊥
  no_more p r n d m tail run e h =
      let at = next_at r n d (m ++ tail) run.within e in
      let yes : p d ≡ true = all_at p (take n r) d m h in
      let no : not (p d) ≡ true = subst (λ x. not (p x) ≡ true) at.1 (run.stops at.0) in
      grind (arith, yes, no)

  pub word : (c : ℕ) (r : List ℕ) (n : ℕ) → sort_of c ≡ sort_is.Letter → IsRunOf continues r n → IsLongest fr (c ∷ r) shape.Word (c ∷ take n r) (drop n r)
  word c r n s run = record {
    cut = ap (λ t. c ∷ t) (sym (take-append-drop n r));
    is_piece = (s, all_of_take continues r n run.within run.passes);
    longest = λ other d more tail e h. other_word other d more tail e h;
  } where
    other_word : (other : Shape) (d : ℕ) (more tail : List ℕ) → drop n r ≡ (d ∷ more) ++ tail → IsPiece fr other (c ∷ (take n r ++ d ∷ more)) tail → ⊥
    other_word shape.Blank d more tail e h = let f = kind_sort shape.Blank c (take n r ++ d ∷ more) tail h in absurd (cc)
    other_word shape.Line d more tail e h = let f = kind_sort shape.Line c (take n r ++ d ∷ more) tail h in absurd (cc)
    other_word shape.Block d more tail e h = let f = kind_sort shape.Block c (take n r ++ d ∷ more) tail h in absurd (cc)
    other_word shape.Open d more tail e h = let f = kind_sort shape.Open c (take n r ++ d ∷ more) tail h in absurd (cc)
    other_word shape.Word d more tail e h = no_more continues r n d more tail run e h.1
    other_word shape.Number d more tail e h = let f = kind_sort shape.Number c (take n r ++ d ∷ more) tail h in absurd (cc)
    other_word shape.Directive d more tail e h = let f = kind_sort shape.Directive c (take n r ++ d ∷ more) tail h in absurd (cc)
    other_word shape.Mark d more tail e h = elim (kind_sort shape.Mark c (take n r ++ d ∷ more) tail h) [ inl f ↦ absurd (cc) | inr f ↦ absurd (cc) ]

  pub number : (c : ℕ) (r : List ℕ) (n : ℕ) → sort_of c ≡ sort_is.Digit → IsRunOf continues r n → IsLongest fr (c ∷ r) shape.Number (c ∷ take n r) (drop n r)
  number c r n s run = record {
    cut = ap (λ t. c ∷ t) (sym (take-append-drop n r));
    is_piece = (s, all_of_take continues r n run.within run.passes);
    longest = λ other d more tail e h. others other d more tail e h;
  } where
    others : (other : Shape) (d : ℕ) (more tail : List ℕ) → drop n r ≡ (d ∷ more) ++ tail → IsPiece fr other (c ∷ (take n r ++ d ∷ more)) tail → ⊥
    others shape.Blank d more tail e h = let f = kind_sort shape.Blank c (take n r ++ d ∷ more) tail h in absurd (cc)
    others shape.Line d more tail e h = let f = kind_sort shape.Line c (take n r ++ d ∷ more) tail h in absurd (cc)
    others shape.Block d more tail e h = let f = kind_sort shape.Block c (take n r ++ d ∷ more) tail h in absurd (cc)
    others shape.Open d more tail e h = let f = kind_sort shape.Open c (take n r ++ d ∷ more) tail h in absurd (cc)
    others shape.Word d more tail e h = let f = kind_sort shape.Word c (take n r ++ d ∷ more) tail h in absurd (cc)
    others shape.Number d more tail e h = no_more continues r n d more tail run e h.1
    others shape.Directive d more tail e h = let f = kind_sort shape.Directive c (take n r ++ d ∷ more) tail h in absurd (cc)
    others shape.Mark d more tail e h = elim (kind_sort shape.Mark c (take n r ++ d ∷ more) tail h) [ inl f ↦ absurd (cc) | inr f ↦ absurd (cc) ]

  pub blank : (c : ℕ) (r : List ℕ) → sort_of c ≡ sort_is.Blank → IsLongest fr (c ∷ r) shape.Blank (c ∷ []) r
  blank c r s = record {
    cut = refl;
    is_piece = (s, refl);
    longest = λ other d more tail e h. others other d more tail h;
  } where
    others : (other : Shape) (d : ℕ) (more tail : List ℕ) → IsPiece fr other (c ∷ d ∷ more) tail → ⊥
    others shape.Blank d more tail h = absurd (cc)
    others shape.Line d more tail h = let f = kind_sort shape.Line c (d ∷ more) tail h in absurd (cc)
    others shape.Block d more tail h = let f = kind_sort shape.Block c (d ∷ more) tail h in absurd (cc)
    others shape.Open d more tail h = let f = kind_sort shape.Open c (d ∷ more) tail h in absurd (cc)
    others shape.Word d more tail h = let f = kind_sort shape.Word c (d ∷ more) tail h in absurd (cc)
    others shape.Number d more tail h = let f = kind_sort shape.Number c (d ∷ more) tail h in absurd (cc)
    others shape.Directive d more tail h = let f = kind_sort shape.Directive c (d ∷ more) tail h in absurd (cc)
    others shape.Mark d more tail h = elim (kind_sort shape.Mark c (d ∷ more) tail h) [ inl f ↦ absurd (cc) | inr f ↦ absurd (cc) ]

  pub directive : (c : ℕ) (r rest : List ℕ) → sort_of c ≡ sort_is.Hash → fr ≡ true → (l : LineCut false r rest) → IsLongest fr (c ∷ r) shape.Directive (c ∷ l.piece) rest
  directive c r rest s f l = record {
    cut = ap (λ t. c ∷ t) l.cut;
    is_piece = (f, s, l.on_line);
    longest = λ other d more tail e h. others other d more tail e h;
  } where
    others : (other : Shape) (d : ℕ) (more tail : List ℕ) → rest ≡ (d ∷ more) ++ tail → IsPiece fr other (c ∷ (l.piece ++ d ∷ more)) tail → ⊥
    others shape.Blank d more tail e h = let f = kind_sort shape.Blank c (l.piece ++ d ∷ more) tail h in absurd (cc)
    others shape.Line d more tail e h = let f = kind_sort shape.Line c (l.piece ++ d ∷ more) tail h in absurd (cc)
    others shape.Block d more tail e h = let f = kind_sort shape.Block c (l.piece ++ d ∷ more) tail h in absurd (cc)
    others shape.Open d more tail e h = let f = kind_sort shape.Open c (l.piece ++ d ∷ more) tail h in absurd (cc)
    others shape.Word d more tail e h = let f = kind_sort shape.Word c (l.piece ++ d ∷ more) tail h in absurd (cc)
    others shape.Number d more tail e h = let f = kind_sort shape.Number c (l.piece ++ d ∷ more) tail h in absurd (cc)
    others shape.Directive d more tail e h = l.longest d more tail e h.2
    others shape.Mark d more tail e h = elim (kind_sort shape.Mark c (l.piece ++ d ∷ more) tail h) [ inl f ↦ absurd (cc) | inr f ↦ absurd (cc) ]

  -- ---- comments

  no_mark : (c d : ℕ) (a : List ℕ) (e : ℕ) (m : List ℕ) → IsMark (c ∷ d ∷ (a ++ e ∷ m)) → ⊥
  no_mark c d [] e m h = h
  no_mark c d (x ∷ a) e m h = h

  -- a piece that begins with a slash and has a second character

  last_sorts : (p d x l : Bool) → (if p then sort_is.Punctuation else (if d then sort_is.Digit else (if x then sort_is.Hash else (if l then sort_is.Letter else sort_is.Other)))) ≡ sort_is.Slash → ⊥
  last_sorts true d x l h = absurd (cc)
  last_sorts false true x l h = absurd (cc)
  last_sorts false false true l h = absurd (cc)
  last_sorts false false false true h = absurd (cc)
  last_sorts false false false false h = absurd (cc)

  sort_slash : (v a b : Bool) (rest : Sort) → (rest ≡ sort_is.Slash → ⊥) → (if v then (if a then sort_is.Blank else (if b then sort_is.Slash else rest)) else sort_is.Other) ≡ sort_is.Slash → b ≡ true
  sort_slash false a b rest n h = absurd (cc)
  sort_slash true true b rest n h = absurd (cc)
  sort_slash true false true rest n h = refl
  sort_slash true false false rest n h = absurd (n h)

  pub is_slash : (c : ℕ) → sort_of c ≡ sort_is.Slash → c ≡ 47
  is_slash c h = let e : (c == 47) ≡ true = sort_slash (is_character c) (is_blank c) (c == 47) _ (last_sorts (is_punctuation c) (is_digit c) (c == 35) (c == 95 || is_xid_start c)) h in grind (arith, e)

  slash_kinds : (P : Type 0) (other : Shape) (d : ℕ) (r tail : List ℕ) → IsPiece fr other (47 ∷ d ∷ r) tail →
      (d ≡ 47 → IsTrue (list_all (λ e. not (e == 10)) r) → P) → (d ≡ 42 → IsTrue (is_closed r) → P) → (d ≡ 42 → IsTrue (is_open r) → P) → (IsMark (47 ∷ d ∷ r) → P) → P
  slash_kinds P shape.Blank d r tail h l b o m = let f = kind_sort shape.Blank 47 (d ∷ r) tail h in absurd (cc)
  slash_kinds P shape.Line d r tail h l b o m = l h.1 h.2
  slash_kinds P shape.Block d r tail h l b o m = b h.1 h.2
  slash_kinds P shape.Open d r tail h l b o m = o h.1 h.2
  slash_kinds P shape.Word d r tail h l b o m = let f = kind_sort shape.Word 47 (d ∷ r) tail h in absurd (cc)
  slash_kinds P shape.Number d r tail h l b o m = let f = kind_sort shape.Number 47 (d ∷ r) tail h in absurd (cc)
  slash_kinds P shape.Directive d r tail h l b o m = let f = kind_sort shape.Directive 47 (d ∷ r) tail h in absurd (cc)
  slash_kinds P shape.Mark d r tail h l b o m = m h

  pub line : (r : List ℕ) (n : ℕ) → IsRunOf (λ c. not (c == 10)) r n → IsLongest fr (47 ∷ 47 ∷ r) shape.Line (47 ∷ 47 ∷ take n r) (drop n r)
  line r n run = record {
    cut = ap (λ t. 47 ∷ 47 ∷ t) (sym (take-append-drop n r));
    is_piece = (refl, refl, all_of_take (λ c. not (c == 10)) r n run.within run.passes);
    longest = λ other d more tail e h. slash_kinds ⊥ other 47 (take n r ++ d ∷ more) tail h
        (λ a all. no_more (λ c. not (c == 10)) r n d more tail run e all) (λ a b. absurd (cc)) (λ a b. absurd (cc)) (λ m. no_mark 47 47 (take n r) d more m);
  }

  closed_once : (a : List ℕ) (e : ℕ) (m : List ℕ) → IsTrue (is_closed a) → IsTrue (is_closed (a ++ e ∷ m)) → ⊥
  closed_once [] e m h i = absurd (cc)
  closed_once (x ∷ []) e m h i = absurd (cc)
  closed_once (x ∷ y ∷ []) e m h i = let j = and_left (ends_not x y) (is_closed (y ∷ e ∷ m)) i in grind (arith, h, j)
  closed_once (x ∷ y ∷ z ∷ a) e m h i = closed_once (y ∷ z ∷ a) e m (and_right (ends_not x y) (is_closed (y ∷ z ∷ a)) h) (and_right (ends_not x y) (is_closed (y ∷ z ∷ (a ++ e ∷ m))) i)

  closed_not_open : (a : List ℕ) (e : ℕ) (m : List ℕ) → IsTrue (is_closed a) → IsTrue (is_open (a ++ e ∷ m)) → ⊥
  closed_not_open [] e m h i = absurd (cc)
  closed_not_open (x ∷ []) e m h i = absurd (cc)
  closed_not_open (x ∷ y ∷ []) e m h i = let j = and_left (ends_not x y) (is_open (y ∷ e ∷ m)) i in grind (arith, h, j)
  closed_not_open (x ∷ y ∷ z ∷ a) e m h i = closed_not_open (y ∷ z ∷ a) e m (and_right (ends_not x y) (is_closed (y ∷ z ∷ a)) h) (and_right (ends_not x y) (is_open (y ∷ z ∷ (a ++ e ∷ m))) i)

  pub block : (r : List ℕ) (n : ℕ) → IsTrue (is_closed (take n r)) → IsLongest fr (47 ∷ 42 ∷ r) shape.Block (47 ∷ 42 ∷ take n r) (drop n r)
  block r n closed = record {
    cut = ap (λ t. 47 ∷ 42 ∷ t) (sym (take-append-drop n r));
    is_piece = (refl, refl, closed);
    longest = λ other d more tail e h. slash_kinds ⊥ other 42 (take n r ++ d ∷ more) tail h
        (λ a b. absurd (cc)) (λ a b. closed_once (take n r) d more closed b) (λ a b. closed_not_open (take n r) d more closed b) (λ m. no_mark 47 42 (take n r) d more m);
  }

  pub unclosed : (r : List ℕ) → IsTrue (is_open r) → IsLongest fr (47 ∷ 42 ∷ r) shape.Open (47 ∷ 42 ∷ r) []
  unclosed r o = record {
    cut = sym (append-nil (47 ∷ 42 ∷ r));
    is_piece = (refl, refl, o);
    longest = λ other d more tail e h. absurd (cc);
  }

  -- ---- marks

  only_mark : (P : Type 0) (other : Shape) (c d : ℕ) (r m tail : List ℕ) → IsHead c → ¬ (BeginsComment (c ∷ d ∷ r)) → IsPiece fr other (c ∷ d ∷ m) tail → (IsMark (c ∷ d ∷ m) → P) → P
  only_mark P shape.Blank c d r m tail s n h f = let g = kind_sort shape.Blank c (d ∷ m) tail h in elim s [ inl a ↦ absurd (cc) | inr a ↦ absurd (cc) ]
  only_mark P shape.Line c d r m tail s n h f = absurd (n (h.0, inl h.1))
  only_mark P shape.Block c d r m tail s n h f = absurd (n (h.0, inr h.1))
  only_mark P shape.Open c d r m tail s n h f = absurd (n (h.0, inr h.1))
  only_mark P shape.Word c d r m tail s n h f = let g = kind_sort shape.Word c (d ∷ m) tail h in elim s [ inl a ↦ absurd (cc) | inr a ↦ absurd (cc) ]
  only_mark P shape.Number c d r m tail s n h f = let g = kind_sort shape.Number c (d ∷ m) tail h in elim s [ inl a ↦ absurd (cc) | inr a ↦ absurd (cc) ]
  only_mark P shape.Directive c d r m tail s n h f = let g = kind_sort shape.Directive c (d ∷ m) tail h in elim s [ inl a ↦ absurd (cc) | inr a ↦ absurd (cc) ]
  only_mark P shape.Mark c d r m tail s n h f = f h

  pub pair : (c d : ℕ) (r : List ℕ) → IsHead c → ¬ (BeginsComment (c ∷ d ∷ r)) → IsTrue (is_pair c d) → IsLongest fr (c ∷ d ∷ r) shape.Mark (c ∷ d ∷ []) r
  pair c d r s n p = record {
    cut = refl;
    is_piece = (s, p);
    longest = λ other e more tail i h. only_mark ⊥ other c d r (e ∷ more) tail s n h (λ m. m);
  }

  abbrev pub NoPair : ℕ → List ℕ → Type 0
  NoPair c [] = Unit {0}
  NoPair c (d ∷ r) = IsTrue (is_pair c d) → ⊥

  pub single : (c : ℕ) (r : List ℕ) → IsHead c → ¬ (BeginsComment (c ∷ r)) → NoPair c r → c ≢ 124 → IsLongest fr (c ∷ r) shape.Mark (c ∷ []) r
  single c r s n p b = record {
    cut = refl;
    is_piece = elim s [ inl a ↦ inl a | inr a ↦ inr (a, b) ];
    longest = λ other d more tail e h. longer r n p other d more tail e h;
  } where
    longer : (r : List ℕ) → ¬ (BeginsComment (c ∷ r)) → NoPair c r → (other : Shape) (d : ℕ) (more tail : List ℕ) → r ≡ (d ∷ more) ++ tail → IsPiece fr other (c ∷ d ∷ more) tail → ⊥
    longer [] n p other d more tail e h = absurd (cc)
    longer (x ∷ r) n p other d more tail e h =
        let same : x ≡ d = cc in
        only_mark ⊥ other c d r more tail s (subst (λ y. ¬ (BeginsComment (c ∷ y ∷ r))) same n) h (λ m. pairs more m (subst (λ y. IsTrue (is_pair c y) → ⊥) same p))
      where
        pairs : (more : List ℕ) → IsMark (c ∷ d ∷ more) → (IsTrue (is_pair c d) → ⊥) → ⊥
        pairs [] m p = p m.1
        pairs (y ∷ more) m p = m

  pub no_empty : (kind : Shape) (tail : List ℕ) → IsPiece fr kind [] tail → ⊥
  no_empty shape.Blank tail h = h
  no_empty shape.Line tail h = h
  no_empty shape.Block tail h = h
  no_empty shape.Open tail h = h
  no_empty shape.Word tail h = h
  no_empty shape.Number tail h = h
  no_empty shape.Directive tail h = h
  no_empty shape.Mark tail h = h

  none_by : (c : ℕ) (r : List ℕ) → ((kind : Shape) (more tail : List ℕ) → r ≡ more ++ tail → IsPiece fr kind (c ∷ more) tail → ⊥) → HasNone fr (c ∷ r)
  none_by c r f kind [] tail e h = no_empty kind tail h
  none_by c r f kind (x ∷ piece) tail e h =
      let same : c ≡ x = cc in
      let rest : r ≡ piece ++ tail = cc in
      f kind piece tail rest (subst (λ y. IsPiece fr kind (y ∷ piece) tail) (sym same) h)

  pub other : (c : ℕ) (r : List ℕ) → sort_of c ≡ sort_is.Other → HasNone fr (c ∷ r)
  other c r s = none_by c r by
    where
      by : (kind : Shape) (more tail : List ℕ) → r ≡ more ++ tail → IsPiece fr kind (c ∷ more) tail → ⊥
      by shape.Blank more tail e h = let f = kind_sort shape.Blank c more tail h in absurd (cc)
      by shape.Line more tail e h = let f = kind_sort shape.Line c more tail h in absurd (cc)
      by shape.Block more tail e h = let f = kind_sort shape.Block c more tail h in absurd (cc)
      by shape.Open more tail e h = let f = kind_sort shape.Open c more tail h in absurd (cc)
      by shape.Word more tail e h = let f = kind_sort shape.Word c more tail h in absurd (cc)
      by shape.Number more tail e h = let f = kind_sort shape.Number c more tail h in absurd (cc)
      by shape.Directive more tail e h = let f = kind_sort shape.Directive c more tail h in absurd (cc)
      by shape.Mark more tail e h = elim (kind_sort shape.Mark c more tail h) [ inl f ↦ absurd (cc) | inr f ↦ absurd (cc) ]

  pub stray : (c : ℕ) (r : List ℕ) → sort_of c ≡ sort_is.Hash → fr ≡ false → HasNone fr (c ∷ r)
  stray c r s f = none_by c r by
    where
      by : (kind : Shape) (more tail : List ℕ) → r ≡ more ++ tail → IsPiece fr kind (c ∷ more) tail → ⊥
      by shape.Blank more tail e h = let f = kind_sort shape.Blank c more tail h in absurd (cc)
      by shape.Line more tail e h = let f = kind_sort shape.Line c more tail h in absurd (cc)
      by shape.Block more tail e h = let f = kind_sort shape.Block c more tail h in absurd (cc)
      by shape.Open more tail e h = let f = kind_sort shape.Open c more tail h in absurd (cc)
      by shape.Word more tail e h = let f = kind_sort shape.Word c more tail h in absurd (cc)
      by shape.Number more tail e h = let f = kind_sort shape.Number c more tail h in absurd (cc)
      by shape.Directive more tail e h = let i = h.0 in absurd (cc)
      by shape.Mark more tail e h = elim (kind_sort shape.Mark c more tail h) [ inl f ↦ absurd (cc) | inr f ↦ absurd (cc) ]

  bar_sort : (c : ℕ) → c ≡ 124 → sort_of c ≡ sort_is.Punctuation
  bar_sort c e = rw e refl

  only_marks : (c : ℕ) (r : List ℕ) → sort_of c ≡ sort_is.Punctuation → ((more tail : List ℕ) → r ≡ more ++ tail → IsMark (c ∷ more) → ⊥) → HasNone fr (c ∷ r)
  only_marks c r s marks = none_by c r by
    where
      by : (kind : Shape) (more tail : List ℕ) → r ≡ more ++ tail → IsPiece fr kind (c ∷ more) tail → ⊥
      by shape.Blank more tail e h = let f = kind_sort shape.Blank c more tail h in absurd (cc)
      by shape.Line more tail e h = let f = kind_sort shape.Line c more tail h in absurd (cc)
      by shape.Block more tail e h = let f = kind_sort shape.Block c more tail h in absurd (cc)
      by shape.Open more tail e h = let f = kind_sort shape.Open c more tail h in absurd (cc)
      by shape.Word more tail e h = let f = kind_sort shape.Word c more tail h in absurd (cc)
      by shape.Number more tail e h = let f = kind_sort shape.Number c more tail h in absurd (cc)
      by shape.Directive more tail e h = let f = kind_sort shape.Directive c more tail h in absurd (cc)
      by shape.Mark more tail e h = marks more tail e h

  no_bar : (c : ℕ) → sort_of c ≡ sort_is.Punctuation → c ≡ 124 → (r more tail : List ℕ) → NoPair c r → r ≡ more ++ tail → IsMark (c ∷ more) → ⊥
  no_bar c s i r [] tail p e h = elim h [ inl f ↦ slash_not_punctuation _ f s | inr f ↦ f.1 i ]
    where
      slash_not_punctuation : (x : Sort) → x ≡ sort_is.Slash → x ≡ sort_is.Punctuation → ⊥
      slash_not_punctuation x a b = absurd (cc)
  no_bar c s i [] (d ∷ []) tail p e h = absurd (cc)
  no_bar c s i (x ∷ r) (d ∷ []) tail p e h = let same : d ≡ x = cc in p (subst (λ y. IsTrue (is_pair c y)) same h.1)
  no_bar c s i r (d ∷ z ∷ more) tail p e h = h

  pub bar : (c : ℕ) (r : List ℕ) → c ≡ 124 → NoPair c r → HasNone fr (c ∷ r)
  bar c r i p = only_marks c r (bar_sort c i) (λ more tail e h. no_bar c (bar_sort c i) i r more tail p e h)

  -- ---- the same of a text whose first character is read by its place

  module _ (text : List ℕ) (x : ℕ) (n : ℕ) where
    pub word_at : 0 < length text → x ≡ get_or text 0 0 → sort_of x ≡ sort_is.Letter → IsRunOf continues (drop 1 text) n → Begins fr text shape.Word (drop n (drop 1 text))
    word_at l e s run = go text l e run
      where
        go : (text : List ℕ) → 0 < length text → x ≡ get_or text 0 0 → IsRunOf continues (drop 1 text) n → Begins fr text shape.Word (drop n (drop 1 text))
        go [] l e run = absurd (omega arith)
        go (c ∷ r) l e run = (c ∷ take n r, omega arith, word c r n (subst (λ y. sort_of y ≡ sort_is.Letter) e s) run)

    pub number_at : 0 < length text → x ≡ get_or text 0 0 → sort_of x ≡ sort_is.Digit → IsRunOf continues (drop 1 text) n → Begins fr text shape.Number (drop n (drop 1 text))
    number_at l e s run = go text l e run
      where
        go : (text : List ℕ) → 0 < length text → x ≡ get_or text 0 0 → IsRunOf continues (drop 1 text) n → Begins fr text shape.Number (drop n (drop 1 text))
        go [] l e run = absurd (omega arith)
        go (c ∷ r) l e run = (c ∷ take n r, omega arith, number c r n (subst (λ y. sort_of y ≡ sort_is.Digit) e s) run)

  pub blank_at : (text : List ℕ) (x : ℕ) → 0 < length text → x ≡ get_or text 0 0 → sort_of x ≡ sort_is.Blank → Begins fr text shape.Blank (drop 1 text)
  blank_at [] x l e s = absurd (omega arith)
  blank_at (c ∷ r) x l e s = (c ∷ [], omega arith, blank c r (subst (λ y. sort_of y ≡ sort_is.Blank) e s))

  pub directive_at : (text rest : List ℕ) (x : ℕ) → 0 < length text → x ≡ get_or text 0 0 → sort_of x ≡ sort_is.Hash → fr ≡ true → rest ≡ behind_line false (drop 1 text) → Begins fr text shape.Directive rest
  directive_at [] rest x l e s f b = absurd (omega arith)
  directive_at (c ∷ r) rest x l e s f b =
      let k = subst (LineCut false r) (sym b) (line_cut false r) in
      (c ∷ k.piece, omega arith, directive c r rest (subst (λ y. sort_of y ≡ sort_is.Hash) e s) f k)

  pub stray_at : (text : List ℕ) (x : ℕ) → 0 < length text → x ≡ get_or text 0 0 → sort_of x ≡ sort_is.Hash → fr ≡ false → HasNone fr text
  stray_at [] x l e s f = absurd (omega arith)
  stray_at (c ∷ r) x l e s f = stray c r (subst (λ y. sort_of y ≡ sort_is.Hash) e s) f

  pub other_at : (text : List ℕ) (x : ℕ) → 0 < length text → x ≡ get_or text 0 0 → sort_of x ≡ sort_is.Other → HasNone fr text
  other_at [] x l e s = absurd (omega arith)
  other_at (c ∷ r) x l e s = other c r (subst (λ y. sort_of y ≡ sort_is.Other) e s)

  pub begins_at : (text : List ℕ) (x : ℕ) (s : Sort) → 0 < length text → x ≡ get_or text 0 0 → sort_of x ≡ s → BeginsWith text s
  begins_at [] x s l e h = absurd (omega arith)
  begins_at (c ∷ r) x s l e h = subst (λ y. sort_of y ≡ s) e h

  pub no_text : HasNone fr []
  no_text kind [] tail e h = no_empty kind tail h
  no_text kind (x ∷ piece) tail e h = absurd (cc)

  pub punctuation_mark : (text : List ℕ) → BeginsWith text sort_is.Punctuation → MayBeMark text
  punctuation_mark [] h = absurd h
  punctuation_mark (c ∷ []) h = (inr h, λ b. b)
  punctuation_mark (c ∷ d ∷ r) h = (inr h, λ b. let s = slash_sort c b.0 in absurd (cc))

  pub pair_here : (text : List ℕ) (x y : ℕ) → 1 < length text → x ≡ get_or text 0 0 → y ≡ get_or text 1 0 → begins_pair text ≡ is_pair x y
  pair_here [] x y l e f = absurd (omega arith)
  pair_here (c ∷ []) x y l e f = absurd (omega arith)
  pair_here (c ∷ d ∷ r) x y l e f = cc

  pub no_pair_here : (text : List ℕ) → length text ≤ 1 → begins_pair text ≡ false
  no_pair_here [] l = refl
  no_pair_here (c ∷ []) l = refl
  no_pair_here (c ∷ d ∷ r) l = absurd (omega arith)

  pub mark_pair : (text : List ℕ) → MayBeMark text → begins_pair text ≡ true → Begins fr text shape.Mark (drop 2 text)
  mark_pair [] m h = absurd m
  mark_pair (c ∷ []) m h = absurd (cc)
  mark_pair (c ∷ d ∷ r) m h = (c ∷ d ∷ [], omega arith, pair c d r m.0 m.1 h)

  not_pair : (c : ℕ) (r : List ℕ) → begins_pair (c ∷ r) ≡ false → NoPair c r
  not_pair c [] h = tt
  not_pair c (d ∷ r) h = λ p. absurd (cc)

  pub mark_bar : (text : List ℕ) (x : ℕ) → MayBeMark text → begins_pair text ≡ false → x ≡ get_or text 0 0 → x ≡ 124 → HasNone fr text
  mark_bar [] x m h e i = absurd m
  mark_bar (c ∷ r) x m h e i = bar c r (let f : c ≡ 124 = cc in f) (not_pair c r h)

  pub mark_single : (text : List ℕ) (x : ℕ) → MayBeMark text → begins_pair text ≡ false → x ≡ get_or text 0 0 → x ≢ 124 → Begins fr text shape.Mark (drop 1 text)
  mark_single [] x m h e i = absurd m
  mark_single (c ∷ r) x m h e i = (c ∷ [], omega arith, single c r m.0 m.1 (not_pair c r h) (λ f. i (e ∙ f)))

  pub slash_mark : (text : List ℕ) → BeginsWith text sort_is.Slash → (1 < length text → (get_or text 1 0 ≢ 47) × (get_or text 1 0 ≢ 42)) → MayBeMark text
  slash_mark [] h n = absurd h
  slash_mark (c ∷ []) h n = (inl h, λ b. b)
  slash_mark (c ∷ d ∷ r) h n = let m = n (omega arith) in (inl h, λ b. elim b.1 [ inl e ↦ m.0 e | inr e ↦ m.1 e ])

  pub line_at : (text : List ℕ) (y n : ℕ) → BeginsWith text sort_is.Slash → 1 < length text → y ≡ get_or text 1 0 → y ≡ 47 → IsRunOf (λ c. not (c == 10)) (drop 2 text) n → Begins fr text shape.Line (drop n (drop 2 text))
  line_at [] y n h l e i run = absurd h
  line_at (c ∷ []) y n h l e i run = absurd (omega arith)
  line_at (c ∷ d ∷ r) y n h l e i run =
      let f : c ≡ 47 = is_slash c h in
      let g : d ≡ 47 = cc in
      (c ∷ d ∷ take n r, omega arith, rw (f, g) (line r n run))

  pub block_at : (text : List ℕ) (y n : ℕ) → BeginsWith text sort_is.Slash → 1 < length text → y ≡ get_or text 1 0 → y ≡ 42 → IsTrue (is_closed (take n (drop 2 text))) → Begins fr text shape.Block (drop n (drop 2 text))
  block_at [] y n h l e i run = absurd h
  block_at (c ∷ []) y n h l e i run = absurd (omega arith)
  block_at (c ∷ d ∷ r) y n h l e i run =
      let f : c ≡ 47 = is_slash c h in
      let g : d ≡ 42 = cc in
      (c ∷ d ∷ take n r, omega arith, rw (f, g) (block r n run))

  pub open_at : (text : List ℕ) (y : ℕ) → BeginsWith text sort_is.Slash → 1 < length text → y ≡ get_or text 1 0 → y ≡ 42 → IsTrue (is_open (drop 2 text)) → Begins fr text shape.Open []
  open_at [] y h l e i run = absurd h
  open_at (c ∷ []) y h l e i run = absurd (omega arith)
  open_at (c ∷ d ∷ r) y h l e i run =
      let f : c ≡ 47 = is_slash c h in
      let g : d ≡ 42 = cc in
      (c ∷ d ∷ r, omega arith, rw (f, g) (unclosed r run))
