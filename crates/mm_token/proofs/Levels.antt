-- A file has one reading, at each depth.
use Rattle.std.proofs.Common.{◌≡◌, ℕ, zero, suc, ◌<◌, ◌≤◌, ◌+◌, List, [], length, inl, inr, arith, sym, ◌∙◌, ap, subst, Some, None}
use Rattle.mm_base.specs.Outside.{Contents}
use Rattle.mm_base.specs.declared.place.Place.{Place}
use Rattle.mm_token.specs.declared.token.Tokens.{Tokens}
use Rattle.mm_token.specs.declared.token.TokenEnd.{TokenEnd}
use Rattle.mm_token.specs.declared.token.TokenEnd.TheVariants.{Absent, Failed, TooLong, Fault, NoMemory}
use Rattle.mm_token.specs.Characters.{characters_of, place_after}
use Rattle.mm_base.specs.declared.code.TheConstants.Code.{L6}
use Rattle.mm_base.specs.declared.limits.TheConstants.{MAX_UNIT_BYTES}
use Rattle.mm_token.specs.Tokens.{State, with_file, file_start, Fits, KeepsOut, PutsText, PutsFile, StopsText, Refuses, Stopped, nothing_read, unit_start, depth_limit, Reads, IsRefused}
use Rattle.mm_token.specs.OneReading.{IsByContents, SameTokens}
use Rattle.mm_token.proofs.One.{text_once, stop_once, text_or_stop}

module _ (h : Contents) where
  one_bytes : (name a b : List ℕ) → h name ≡ Some a → h name ≡ Some b → a ≡ b
  one_bytes name a b e i = let f : Some a ≡ Some b = sym e ∙ i in cc

  -- why a file is kept out
  data Kept (name from : List ℕ) (at : Place) (s : State) (e : TokenEnd) : Type 0 where
    lacking : h name ≡ None → e ≡ Absent name at → Kept name from at s e
    long : (bytes : List ℕ) → h name ≡ Some bytes → MAX_UNIT_BYTES < length bytes → e ≡ TooLong name → Kept name from at s e
    past : (bytes : List ℕ) → h name ≡ Some bytes → length bytes ≤ MAX_UNIT_BYTES → MAX_UNIT_BYTES < s.bytes + length bytes → e ≡ Fault (L6) at from → Kept name from at s e

  kept_by : (name from : List ℕ) (at : Place) (s : State) (e : TokenEnd) → IsByContents e → KeepsOut (Some h) name from at s e → Kept name from at s e
  kept_by name from at s (Absent n p) told k = lacking k.0 (ap (λ x. Absent x p) k.1 ∙ ap (Absent name) k.2)
  kept_by name from at s (TooLong n) told k = long k.0.0 k.0.1 k.0.2 (ap TooLong k.1)
  kept_by name from at s (Fault c p n) told k = past k.0 k.1 k.2 k.3 (ap (λ x. Fault x p n) k.4 ∙ (ap (λ x. Fault (L6) x n) k.5 ∙ ap (Fault (L6) at) k.6))
  kept_by name from at s (Failed n) told k = absurd told
  kept_by name from at s NoMemory told k = absurd told

  kept_once : (name from : List ℕ) (at : Place) (s : State) (d e : TokenEnd) → Kept name from at s d → Kept name from at s e → d ≡ e
  kept_once name from at s d e (lacking a i) (lacking b j) = i ∙ sym j
  kept_once name from at s d e (lacking a i) (long y b m j) = absurd (cc)
  kept_once name from at s d e (lacking a i) (past y b m n j) = absurd (cc)
  kept_once name from at s d e (long x a l i) (lacking b j) = absurd (cc)
  kept_once name from at s d e (long x a l i) (long y b m j) = i ∙ sym j
  kept_once name from at s d e (long x a l i) (past y b m n j) = let q : length x ≡ length y = ap length (one_bytes name x y a b) in absurd (omega arith)
  kept_once name from at s d e (past x a l k i) (lacking b j) = absurd (cc)
  kept_once name from at s d e (past x a l k i) (long y b m j) = let q : length x ≡ length y = ap length (one_bytes name x y a b) in absurd (omega arith)
  kept_once name from at s d e (past x a l k i) (past y b m n j) = i ∙ sym j

  kept_or_fits : (name from : List ℕ) (at : Place) (s : State) (e : TokenEnd) (bytes : List ℕ) → Kept name from at s e → Fits (Some h) name bytes s → ⊥
  kept_or_fits name from at s e bytes (lacking a i) f = let b : h name ≡ Some bytes = f.0 in absurd (cc)
  kept_or_fits name from at s e bytes (long x a l i) f = let q : length x ≡ length bytes = ap length (one_bytes name x bytes a f.0) in absurd (omega (arith, f.1))
  kept_or_fits name from at s e bytes (past x a l k i) f = let q : length x ≡ length bytes = ap length (one_bytes name x bytes a f.0) in absurd (omega (arith, f.2))

  -- a refusal by contents
  Told : ℕ → List ℕ → List ℕ → Place → State → TokenEnd → Type 0
  Told n from name at s e = IsByContents e × Refuses (Some h) n from name at s e

  record IsLevel (n : ℕ) : Type 0 where
    file_once : (name : List ℕ) (s t u : State) → PutsFile (Some h) n name s t → PutsFile (Some h) n name s u → t ≡ u
    refused_once : (from name : List ℕ) (at : Place) (s : State) (d e : TokenEnd) → Told n from name at s d → Told n from name at s e → d ≡ e
    not_both : (from name : List ℕ) (at : Place) (s t : State) (e : TokenEnd) → PutsFile (Some h) n name s t → Told n from name at s e → ⊥

  -- a text below
  module _ (n : ℕ) (below : IsLevel n) (name : List ℕ) where
    told : (text : List ℕ) (at : Place) (s : State) (e : TokenEnd) → IsByContents e → StopsText (PutsFile (Some h) n) (Refuses (Some h) n name) name text at s e → StopsText (PutsFile (Some h) n) (Told n name) name text at s e
    unfolding Told
    told text at s e c t = (t.0, t.1, t.2, t.3, t.4, elim t.5 [ inl f ↦ inl f | inr f ↦ inr (f.0, f.1, f.2, f.3, f.4, f.5, (c, f.6)) ])

    whole_once : (text : List ℕ) (at : Place) (s t u : State) → PutsText (PutsFile (Some h) n) text at s t → PutsText (PutsFile (Some h) n) text at s u → t ≡ u
    whole_once = text_once (PutsFile (Some h) n) (Told n name) name below.file_once (below.refused_once name) (below.not_both name)

    stopped_once : (text : List ℕ) (at : Place) (s : State) (d e : TokenEnd) → IsByContents d → IsByContents e →
        StopsText (PutsFile (Some h) n) (Refuses (Some h) n name) name text at s d → StopsText (PutsFile (Some h) n) (Refuses (Some h) n name) name text at s e → d ≡ e
    stopped_once text at s d e a b x y = stop_once (PutsFile (Some h) n) (Told n name) name below.file_once (below.refused_once name) (below.not_both name) text at s d e (told text at s d a x) (told text at s e b y)

    whole_or_stopped : (text : List ℕ) (at : Place) (s t : State) (e : TokenEnd) → IsByContents e → PutsText (PutsFile (Some h) n) text at s t → StopsText (PutsFile (Some h) n) (Refuses (Some h) n name) name text at s e → ⊥
    whole_or_stopped text at s t e c x y = text_or_stop (PutsFile (Some h) n) (Told n name) name below.file_once (below.refused_once name) (below.not_both name) text at s t e x (told text at s e c y)

  next : (n : ℕ) → IsLevel n → IsLevel (suc n)
  unfolding Told
  next n below = record {
    file_once = λ name s t u a b.
        let q = one_bytes name b.0 a.0 b.1.0 a.1.0 in
        whole_once n below name (characters_of a.0) (file_start s) (with_file s name (length a.0)) t u a.2
        (subst (λ x. PutsText (PutsFile (Some h) n) (characters_of x) (file_start s) (with_file s name (length x)) u) q b.2);
    refused_once = λ from name at s d e a b. elim a.1 [
      | inl k ↦ elim b.1 [
        | inl l ↦ kept_once name from at s d e (kept_by name from at s d a.0 k) (kept_by name from at s e b.0 l)
        | inr j ↦ absurd (kept_or_fits name from at s d j.0 (kept_by name from at s d a.0 k) j.1)
      ]
      | inr i ↦ elim b.1 [
        | inl l ↦ absurd (kept_or_fits name from at s e i.0 (kept_by name from at s e b.0 l) i.1)
        | inr j ↦ let q = one_bytes name j.0 i.0 j.1.0 i.1.0 in
            stopped_once n below name (characters_of i.0) (file_start s) (with_file s name (length i.0)) d e a.0 b.0 i.2
            (subst (λ x. StopsText (PutsFile (Some h) n) (Refuses (Some h) n name) name (characters_of x) (file_start s) (with_file s name (length x)) e) q j.2)
      ]
    ];
    not_both = λ from name at s t e a b. elim b.1 [
      | inl k ↦ kept_or_fits name from at s e a.0 (kept_by name from at s e b.0 k) a.1
      | inr j ↦ let q = one_bytes name j.0 a.0 j.1.0 a.1.0 in
          whole_or_stopped n below name (characters_of a.0) (file_start s) (with_file s name (length a.0)) t e b.0 a.2
          (subst (λ x. StopsText (PutsFile (Some h) n) (Refuses (Some h) n name) name (characters_of x) (file_start s) (with_file s name (length x)) e) q j.2)
    ];
  }

  level : (n : ℕ) → IsLevel n
  unfolding Told
  level zero = record {
    file_once = λ name s t u a b. absurd a;
    refused_once = λ from name at s d e a b. a.1 ∙ sym b.1;
    not_both = λ from name at s t e a b. a;
  }
  level (suc n) = next n (level n)

  by_contents : (e : TokenEnd) (P : Type 0) → IsByContents e → Stopped e P → P
  by_contents (Absent n p) P c h = h
  by_contents (Failed n) P c h = h
  by_contents (TooLong n) P c h = h
  by_contents (Fault c p n) P d h = h
  by_contents NoMemory P c h = absurd c

  -- a unit is a file that no file includes
  unit_puts : (unit : List ℕ) (t : Tokens) (x : Reads (Some h) unit t) → PutsFile (Some h) depth_limit unit nothing_read x.1
  unit_puts unit t x = (x.0, x.2, x.3)

  pub tokens_once : (unit : List ℕ) (t u : Tokens) → Reads (Some h) unit t → Reads (Some h) unit u → SameTokens t u
  tokens_once unit t u x y =
      let s : x.1 ≡ y.1 = (level depth_limit).file_once unit nothing_read x.1 y.1 (unit_puts unit t x) (unit_puts unit u y) in
      let b : x.0 ≡ y.0 = one_bytes unit x.0 y.0 x.2.0 y.2.0 in
      record {
        files = x.4 ∙ (ap (λ (w : State). w.files) s ∙ sym y.4);
        list = x.5 ∙ (ap (λ (w : State). w.tokens) s ∙ sym y.5);
        bytes = x.6 ∙ (ap (λ (w : State). w.bytes) s ∙ sym y.6);
        end = x.7 ∙ (ap (λ c. place_after unit_start (characters_of c)) b ∙ sym y.7);
      }

  pub fault_once : (unit : List ℕ) (d e : TokenEnd) → IsByContents d → IsByContents e → IsRefused (Some h) unit d → IsRefused (Some h) unit e → d ≡ e
  unfolding Told
  fault_once unit d e c k x y = (level depth_limit).refused_once [] unit unit_start nothing_read d e (c, by_contents d _ c x) (k, by_contents e _ k y)

  pub never_both : (unit : List ℕ) (t : Tokens) (e : TokenEnd) → IsByContents e → Reads (Some h) unit t → IsRefused (Some h) unit e → ⊥
  unfolding Told
  never_both unit t e c x y = (level depth_limit).not_both [] unit unit_start nothing_read x.1 e (unit_puts unit t x) (c, by_contents e _ c y)
