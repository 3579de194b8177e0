-- A loop over a part: what is read so far, whatever the rest of it will be.
use Rattle.std.proofs.Common.{◌≡◌, ◌<◌, List, [], ◌∷◌, length, subst, inr, Some, None}
use Rattle.mm_grammar.specs.Grammar.{nothing, seq, many, give, opt, Language, PartOf, Begins, Avoids, Reads, Fails}
use Rattle.mm_grammar.specs.Ahead.{Claims, Good, Fit, first_of}
use Rattle.mm_grammar.proofs.Reading.{many_none, many_more, many_fail_now, many_fail_later, seq_ok, seq_fail_first, seq_fail_second, map_ok, map_fail, alt_first_ok, alt_first_fail, alt_second_ok, nothing_ok}

-- What reads, or fails to read, the rest as so many of q reads, or fails to read, the whole from the start.
module _ (L : Language) where
  pub record SoFar {V B : Type 0} (whole : PartOf L V) (q : PartOf L B) (finish : List B → V) (start rest : List L.Token) : Type 0 where
    pub reads : (xs : List B) (r : List L.Token) → Reads L (many q) rest xs r → Reads L whole start (finish xs) r
    pub fails : (r : List L.Token) → Fails L (many q) rest r → Fails L whole start r

module _ (L : Language) (C : Claims L) (fit : Fit L C) where
  -- f (p q*), after p
  pub begun : {A B V : Type 0} → (f : A × List B → V) (p : PartOf L A) (q : PartOf L B) → Good L C (seq p (many q)) → (start rest : List L.Token) (v : A) →
      Reads L p start v rest → SoFar L (give f (seq p (many q))) q (λ xs. f (v, xs)) start rest
  begun f p q g start rest v a = record {
    reads = λ xs r b. map_ok L C fit f (seq p (many q)) start r (v, xs) (seq_ok L C fit p (many q) g start rest r v xs a b);
    fails = λ r b. map_fail L C fit f (seq p (many q)) start r (seq_fail_second L C fit p (many q) g start rest r v a b);
  }

  pub not_begun : {A B V : Type 0} → (f : A × List B → V) (p : PartOf L A) (q : PartOf L B) → Good L C (seq p (many q)) → (start rest : List L.Token) →
      Fails L p start rest → Fails L (give f (seq p (many q))) start rest
  not_begun f p q g start rest a = map_fail L C fit f (seq p (many q)) start rest (seq_fail_first L C fit p (many q) g start rest a)

  pub once_more : {V B : Type 0} → (whole : PartOf L V) (q : PartOf L B) (finish next : List B → V) → Good L C (many q) → (start rest r : List L.Token) (b : B) →
      SoFar L whole q finish start rest → Reads L q rest b r → ((xs : List B) → finish (b ∷ xs) ≡ next xs) → SoFar L whole q next start r
  once_more whole q finish next g start rest r b s a e = record {
    reads = λ xs end h. subst (λ v. Reads L whole start v end) (e xs) (s.reads (b ∷ xs) end (many_more L C fit q g rest r end b xs a h));
    fails = λ end h. s.fails end (many_fail_later L C fit q g rest r end b a h);
  }

  pub ended_here : {V B : Type 0} → (whole : PartOf L V) (q : PartOf L B) (finish : List B → V) → Good L C (many q) → (start rest : List L.Token) →
      SoFar L whole q finish start rest → Avoids L (first_of L C q) rest → Reads L whole start (finish []) rest
  ended_here whole q finish g start rest s av = s.reads [] rest (many_none L C fit q g rest av)

  pub failed_inside : {V B : Type 0} → (whole : PartOf L V) (q : PartOf L B) (finish : List B → V) → Good L C (many q) → (start rest r : List L.Token) → length r < length rest →
      SoFar L whole q finish start rest → Fails L q rest r → Fails L whole start r
  failed_inside whole q finish g start rest r n s a = s.fails r (many_fail_now L C fit q g rest r n a)

  -- ---- a part at most once

  pub opt_some : {A : Type 0} → (p : PartOf L A) → Good L C (opt p) → (ts r : List L.Token) (v : A) → Begins L (first_of L C p) ts → Reads L p ts v r → Reads L (opt p) ts (Some v) r
  opt_some p g ts r v b a = alt_first_ok L C fit (give (λ v. Some v) p) (give (λ u. None) nothing) g ts r (Some v) b (map_ok L C fit (λ v. Some v) p ts r v a)

  pub opt_none : {A : Type 0} → (p : PartOf L A) → Good L C (opt p) → (ts : List L.Token) → Avoids L (first_of L C p) ts → Reads L (opt p) ts None ts
  opt_none p g ts av = alt_second_ok L C fit (give (λ v. Some v) p) (give (λ u. None) nothing) g ts ts None av (map_ok L C fit (λ u. None) nothing ts ts tt (nothing_ok L C fit ts tt))

  pub opt_fail : {A : Type 0} → (p : PartOf L A) → Good L C (opt p) → (ts r : List L.Token) → Begins L (first_of L C p) ts → length r < length ts → Fails L p ts r → Fails L (opt p) ts r
  opt_fail p g ts r b n a = alt_first_fail L C fit (give (λ v. Some v) p) (give (λ u. None) nothing) g ts r b (inr n) (map_fail L C fit (λ v. Some v) p ts r a)
