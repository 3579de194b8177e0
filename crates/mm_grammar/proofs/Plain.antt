-- Parts without tails: what is computed of them is all.
use Rattle.std.proofs.Common.{ℕ, Bool, ◌&&◌, IsTrue, List}
use Rattle.mm_grammar.specs.Grammar.{one, name, nothing, seq, alt, fork, many, tailed, kept, give, Language, PartOf, has}
use Rattle.mm_grammar.specs.Ahead.{Claims, plain, within, first_of, more_of, is_good, Sealed, Good, Follows, has_no_tail, fits, Fit}
use Rattle.mm_grammar.proofs.Lists.{and_left, and_right, has-within}
use Rattle.mm_grammar.proofs.Laws.{follows_more}

module _ (L : Language) (C : Claims L) where
  pub plain_sealed : {A : Type 0} → (p : PartOf L A) → IsTrue (has_no_tail L C p) → Sealed L C p
  plain_sealed (one cs) h = tt
  plain_sealed (name x) h = tt
  plain_sealed nothing h = tt
  plain_sealed (seq p q) h = (plain_sealed p (and_left (has_no_tail L C p) (has_no_tail L C q) h), plain_sealed q (and_right (has_no_tail L C p) (has_no_tail L C q) h))
  plain_sealed (alt p q) h = (plain_sealed p (and_left (has_no_tail L C p) (has_no_tail L C q) h), plain_sealed q (and_right (has_no_tail L C p) (has_no_tail L C q) h))
  plain_sealed (fork p q) h = (plain_sealed p (and_left (has_no_tail L C p) (has_no_tail L C q) h), plain_sealed q (and_right (has_no_tail L C p) (has_no_tail L C q) h))
  plain_sealed (many p) h = plain_sealed p h
  plain_sealed (tailed p closed q) h = absurd (cc)
  plain_sealed (kept p) h = plain_sealed p h
  plain_sealed (give f p) h = plain_sealed p h

  pub plain_good : {A : Type 0} → (p : PartOf L A) → IsTrue (is_good L C p && has_no_tail L C p) → Good L C p
  plain_good p h = (and_left (is_good L C p) (has_no_tail L C p) h, plain_sealed p (and_right (is_good L C p) (has_no_tail L C p) h))

  -- what follows a text of a rule is in the claim on all values
  pub plain_after : (x : L.Name) → IsTrue (fits L C x) → (v : L.Value x) (k : ℕ) → Follows L C (L.rule x) v k → IsTrue (has k (C.more x))
  plain_after x h v k f =
      has-within k (more_of L C (L.rule x)) (C.more x)
      (and_left (within (more_of L C (L.rule x)) (C.more x)) _ (and_right (within (first_of L C (L.rule x)) (C.first x)) _ (and_right (is_good L C (L.rule x)) _ h)))
      (follows_more L C (L.rule x) v k f)

-- A language without forks and tails fits where what is computed of each rule says so.
pub plain_fit : (L : Language) (first more : L.Name → List ℕ) (empty : L.Name → Bool) → ((x : L.Name) → IsTrue (fits L (plain L first more empty) x && has_no_tail L (plain L first more empty) (L.rule x))) → Fit L (plain L first more empty)
plain_fit L first more empty h = record {
  fits_each = λ x. and_left (fits L (plain L first more empty) x) _ (h x);
  sealed = λ x. plain_sealed L (plain L first more empty) (L.rule x) (and_right (fits L (plain L first more empty) x) _ (h x));
  after = λ x v k f. plain_after L (plain L first more empty) x (and_left (fits L (plain L first more empty) x) _ (h x)) v k f;
}
