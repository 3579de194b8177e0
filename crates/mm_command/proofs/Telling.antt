-- What words tell, one after another.
use Rattle.std.proofs.Common.{◌≡◌, ℕ, ◌+◌, ◌<◌, Bool, true, false, List, [], ◌∷◌, ◌++◌, length, take, drop, get_or, map, leb, length-drop, Option, Some, None, refl, sym, ap, ap₂, ◌∙◌, append_assoc, append-nil, arith}
use Rattle.mm_command.specs.declared.words.Told.{Told}
use Rattle.std.specs.Prelude.{◌-◌, min, String, string_bytes}
use Rattle.std.proofs.lemmas.Bool.{leb-true, leb-false}
use Rattle.std.proofs.lemmas.List.{drop_all, take_all, drop_more}
use Rattle.mm_command.specs.declared.words.WordKind.{WordKind}
use Rattle.mm_command.specs.declared.words.WordKind.TheVariants as word
use Rattle.mm_command.specs.declared.words.Next.TheVariants as next
use Rattle.mm_command.specs.Command.{told, nothing_told, onto, kind_of, plain_word, value, bound_of, goes_on}

abbrev both : List (List ℕ) → List (Option ℕ) → Option Told
both p s = Some (record { plain = p; steps = s })

pub plain_onto : (t : Told) (w : List ℕ) (u : Option Told) → onto (record { plain = t.plain ++ w ∷ []; steps = t.steps }) u ≡ onto t (onto (plain_word w) u)
plain_onto t w None = refl
plain_onto t w (Some u) = ap (λ p. both p (t.steps ++ u.steps)) (append_assoc t.plain (w ∷ []) u.plain)

pub value_onto : (t : Told) (w : List ℕ) (u : Option Told) → onto (record { plain = t.plain; steps = t.steps ++ bound_of w ∷ [] }) u ≡ onto t (onto (value w) u)
value_onto t w None = refl
value_onto t w (Some u) = ap (λ s. both (t.plain ++ u.plain) s) (append_assoc t.steps (bound_of w ∷ []) u.steps)

pub onto_nothing : (u : Option Told) → onto nothing_told u ≡ u
onto_nothing None = refl
onto_nothing (Some u) = refl

pub onto_end : (t : Told) → onto t (Some nothing_told) ≡ Some t
onto_end t = ap₂ both (append-nil t.plain) (append-nil t.steps)

-- what a word of this kind tells, and those behind it
abbrev by_kind : Bool → List ℕ → List (List ℕ) → WordKind → Option Told
by_kind b w ws k = elim k [
  | word.Dashes ↦ told b next.Plain ws
  | word.Steps ↦ told b next.Value ws
  | word.StepsEqual ↦ onto (value (drop 8 w)) (told b next.Word ws)
  | word.Unknown ↦ None
  | word.Plain ↦ onto (plain_word w) (told b next.Word ws)
]

pub step_equal : (b : Bool) (t : Told) (w : List ℕ) (ws : List (List ℕ)) → kind_of b w ≡ word.StepsEqual → goes_on b t (Some next.Word) (w ∷ ws) ≡ onto t (onto (value (drop 8 w)) (told b next.Word ws))
step_equal b t w ws e = ap (λ k. onto t (by_kind b w ws k)) e

-- the first 8 bytes are dropped, or as many as there are
dropped : (w : List ℕ) (m : ℕ) → m ≡ min (length w) 8 → (b : Bool) → leb (length w) 8 ≡ b → drop m w ≡ drop 8 w
dropped w m e true h = drop_all m w (omega (arith, leb-true (length w) 8 h)) ∙ sym (drop_all 8 w (leb-true (length w) 8 h))
dropped w m e false h = let s : m ≡ 8 = omega (arith, leb-false (length w) 8 h) in ap (λ n. drop n w) s

pub rest_of : (w : List ℕ) (m : ℕ) → m ≡ min (length w) 8 → take (length w - m) (drop m w) ≡ drop 8 w
rest_of w m e = take_all (length w - m) (drop m w) (omega (arith, length-drop m w)) ∙ dropped w m e (leb (length w) 8) refl

-- the words from a place on
pub words_from : {A : Type 0} (xs : List (String A)) (i : ℕ) (x : String A) → i < length xs → x ≡ get_or xs i x → map string_bytes (drop i xs) ≡ string_bytes x ∷ map string_bytes (drop (i + 1) xs)
words_from xs i x h e = ap (map string_bytes) (drop_more xs i x h ∙ ap (λ y. y ∷ drop (i + 1) xs) (sym e))
