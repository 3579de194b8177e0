-- From readings of the tokens up to the first one past the limit to longest fronts of all of them.
use Rattle.std.proofs.Common.{◌≡◌, ℕ, suc, ◌+◌, ◌-◌, ◌≤◌, ◌<◌, List, [], ◌∷◌, ◌++◌, ◌⊎◌, inl, inr, length, drop, take, refl, ap, sym, ◌∙◌, subst, arith, append_assoc, Ok, Err}
use Rattle.std.proofs.lemmas.List.{length-append, length-drop, append-nil, take-append-drop}
use Rattle.mm_grammar.specs.Grammar.{name, Front, Reads, Fails, Stuck, RuleSpells, RuleFront}
use Rattle.mm_grammar.proofs.Lists.{equal, later, earlier, cuts}
use Rattle.mm_grammar.proofs.Laws.{spell_front}
use Rattle.mm_grammar.proofs.Closed.{lawful}
use Rattle.mm_grammar.proofs.Reading.{one_value}
use Rattle.mm_base.specs.declared.code.Code.{Code}
use Rattle.mm_base.specs.declared.place.Place.{Place}
use Rattle.mm_token.specs.declared.token.Token.{Token}
use Rattle.mm_syntax.specs.declared.expr.Expr.{Expr}
use Rattle.mm_syntax.specs.declared.part.Begun.{Begun}
use Rattle.mm_syntax.specs.Rules.{units, expr}
use Rattle.mm_syntax.proofs.Claims.{ahead}
use Rattle.mm_syntax.proofs.Fitting.{fit}
use Rattle.mm_cursor.specs.declared.Stop.{Stop}
use Rattle.mm_cursor.specs.declared.Stop.TheVariants as stop
use Rattle.mm_cursor.specs.Cursor.{Answers}
use Rattle.mm_cursor.proofs.Steps.{good}
use Rattle.mm_parse_expr.specs.Longest.{IsLongestFront, IsExpr, IsNotExpr, IsTooLong, IsPlaceAt, ParsesFrom, OneTree, place_of}
use Rattle.mm_base.specs.declared.code.TheConstants.Code.{Y1, Y2}

is_longest : (ts used rest : List Token) → ts ≡ used ++ rest → Front units (name expr) used → Stuck units (name expr) used rest → IsLongestFront ts used rest
is_longest ts used rest cut front stuck = record {
  cut = cut;
  is_front = front;
  longest = λ other more f e. elim (cuts other more used rest (sym e ∙ cut)) [
    | equal i j ↦ (let l = ap length i in omega (arith, l))
    | later y z i j ↦ absurd (stuck y (z ++ more) z j (subst (λ w. Front units (name expr) w) i f))
    | earlier y z i j ↦ (let l = ap length i in let m = length-append other (y ∷ z) in omega (arith, l, m))
  ];
}

whole_front : (used : List Token) (tree : Begun) → IsExpr used tree → Front units (name expr) used
whole_front used tree s = spell_front units ahead (RuleSpells units) (RuleFront units) (lawful units ahead fit) (name expr) used tree s

-- ---- the tokens that are read, and more

-- nothing was left out, or something is left that stands before it
abbrev Kept : List Token → List Token → Type 0
Kept rest more = (more ≡ []) ⊎ ((k : Token) × (r : List Token) × (rest ≡ k ∷ r))

stuck_before : (used rest more : List Token) → Kept rest more → Stuck units (name expr) used rest → Stuck units (name expr) used (rest ++ more)
stuck_before used rest more kept stuck k r tail e f = elim kept [
  | inl i ↦ stuck k r tail (sym (append-nil rest) ∙ (ap (λ w. rest ++ w) (sym i) ∙ e)) f
  | inr i ↦
      let start = i.2 in
      let same : i.0 ≡ k = (let e' : (i.0 ∷ i.1) ++ more ≡ k ∷ r = subst (λ w. w ++ more ≡ k ∷ r) start e in cc) in
      stuck k i.1 tail (start ∙ ap (λ w. w ∷ i.1) same) f
]

cut_before : (ts read more used rest : List Token) → ts ≡ read ++ more → read ≡ used ++ rest → ts ≡ used ++ (rest ++ more)
cut_before ts read more used rest e c = e ∙ (ap (λ w. w ++ more) c ∙ append_assoc used rest more)

pub longest_of : (ts read more used rest : List Token) → ts ≡ read ++ more → read ≡ used ++ rest → Kept rest more → Front units (name expr) used → Stuck units (name expr) used rest → IsLongestFront ts used (rest ++ more)
longest_of ts read more used rest e c kept front stuck = is_longest ts used (rest ++ more) (cut_before ts read more used rest e c) front (stuck_before used rest more kept stuck)

pub one_tree : OneTree
one_tree ts a b s t = one_value units ahead fit (name expr) (good (name expr) refl) ts a b s t

-- ---- at the first token past the limit

no_more : (ts : List Token) (n : ℕ) → length ts ≤ n → drop (suc n) ts ≡ []
no_more ts n h = go (drop (suc n) ts) (let l = length-drop (suc n) ts in omega (arith, l, h))
  where
    go : (xs : List Token) → length xs ≡ 0 → xs ≡ []
    go [] e = refl
    go (x ∷ xs) e = absurd (omega (arith, e))

kept_of : (ts : List Token) (n : ℕ) (rest : List Token) → (length ts ≤ n) ⊎ (0 < length rest) → Kept rest (drop (suc n) ts)
kept_of ts n rest (inl h) = inl (no_more ts n h)
kept_of ts n [] (inr h) = absurd (omega (arith, h))
kept_of ts n (k ∷ r) (inr h) = inr (k, r, refl)

cut_of : (ts : List Token) (n : ℕ) → ts ≡ take (suc n) ts ++ drop (suc n) ts
cut_of ts n = sym (take-append-drop (suc n) ts)

read_length : (ts : List Token) (n : ℕ) → length (take (suc n) ts) ≡ length ts - (length ts - suc n)
read_length ts n =
    let l = ap length (cut_of ts n) in
    let m = length-append (take (suc n) ts) (drop (suc n) ts) in
    let d = length-drop (suc n) ts in
    omega (arith, l, m, d)

used_length : (read used rest : List Token) → read ≡ used ++ rest → length read ≡ length used + length rest
used_length read used rest c = ap length c ∙ length-append used rest

place_kept : (rest more : List Token) (end : Place) → Kept rest more → place_of rest end ≡ place_of (rest ++ more) end
place_kept rest more end (inl e) = sym (ap (λ w. place_of w end) (ap (λ w. rest ++ w) e ∙ append-nil rest))
place_kept [] more end (inr h) = absurd (let e = h.2 in cc)
place_kept (k ∷ r) more end (inr h) = refl

one_more : (rest more : List Token) → length (take 1 (rest ++ more)) ≤ 1
one_more rest more = go (rest ++ more)
  where
    go : (xs : List Token) → length (take 1 xs) ≤ 1
    go [] = omega arith
    go (x ∷ xs) = omega arith

pub parsed : (ts : List Token) (n : ℕ) (end : Place) (at : ℕ) (rest : List Token) (tree : Begun) (v : Expr × ℕ) → (length ts ≤ n) ⊎ (0 < length rest) → Reads units (name expr) (take (suc n) ts) tree rest → v.0 ≡ tree.tree → v.1 ≡ at + (length (take (suc n) ts) - length rest) → ParsesFrom ts n end at (Ok v)
parsed ts n end at rest tree v h a e i =
    let l = used_length (take (suc n) ts) a.used rest a.cut in
    let m = read_length ts n in (
      a.used,
      rest ++ drop (suc n) ts,
      tree.start,
      longest_of ts (take (suc n) ts) (drop (suc n) ts) a.used rest (cut_of ts n) a.cut (kept_of ts n rest h) (whole_front a.used tree a.spelled) a.stuck,
      subst (λ x. IsExpr a.used (record { tree = x; start = tree.start })) (sym e) a.spelled,
      elim h [ inl j ↦ omega (arith, l, m, j) | inr j ↦ omega (arith, l, m, j) ],
      omega (arith, i, l),
    )

pub not_parsed : (ts : List Token) (n : ℕ) (end : Place) (rest : List Token) (code : Code) (place : Place) → (length ts ≤ n) ⊎ (1 < length rest) → Fails units (name expr) (take (suc n) ts) rest → code ≡ Y1 → place ≡ place_of rest end → IsNotExpr ts n end code place
not_parsed ts n end rest code place h a e i =
    let more = drop (suc n) ts in
    let l = used_length (take (suc n) ts) a.used rest a.cut in
    let m = read_length ts n in
    let kept = kept_of ts n rest (elim h [ inl j ↦ inl j | inr j ↦ inr (omega (arith, j)) ]) in
    let whole = longest_of ts (take (suc n) ts) more a.used rest (cut_of ts n) a.cut kept a.front a.stuck in
    let w = used_length ts a.used (rest ++ more) whole.cut in
    let o = one_more rest more in (
      a.used,
      rest ++ more,
      whole,
      a.not_spelled,
      elim h [ inl j ↦ (let t = at_most (rest ++ more) in omega (arith, w, j, t)) | inr j ↦ omega (arith, l, m, j, o) ],
      e,
      i ∙ place_kept rest more end kept,
    )
  where
    at_most : (xs : List Token) → length (take 1 xs) ≤ length xs
    at_most [] = omega arith
    at_most (x ∷ xs) = omega arith

pub too_long : (ts : List Token) (n : ℕ) (rest used : List Token) (code : Code) (place : Place) → n < length ts → length rest ≡ 0 → take (suc n) ts ≡ used ++ rest → Front units (name expr) used → code ≡ Y2 → IsPlaceAt ts n place → IsTooLong ts n code place
too_long ts n rest used code place h z c f e i =
    let l = used_length (take (suc n) ts) used rest c in
    let m = read_length ts n in
    (e, i, inl (used, rest ++ drop (suc n) ts, cut_before ts (take (suc n) ts) (drop (suc n) ts) used rest (cut_of ts n) c, f, omega (arith, l, m, z, h)))

pub too_long_tree : (ts : List Token) (n : ℕ) (rest : List Token) (tree : Begun) (code : Code) (place : Place) → n < length ts → length rest ≡ 0 → Reads units (name expr) (take (suc n) ts) tree rest → code ≡ Y2 → IsPlaceAt ts n place → IsTooLong ts n code place
too_long_tree ts n rest tree code place h z a e i = too_long ts n rest a.used code place h z a.cut (whole_front a.used tree a.spelled) e i

pub too_long_fault : (ts : List Token) (n : ℕ) (rest : List Token) (code : Code) (place : Place) → n < length ts → length rest ≤ 1 → Fails units (name expr) (take (suc n) ts) rest → code ≡ Y2 → IsPlaceAt ts n place → IsTooLong ts n code place
too_long_fault ts n [] code place h z a e i = too_long ts n [] a.used code place h refl a.cut a.front e i
too_long_fault ts n (t ∷ []) code place h z a e i =
    let l = used_length (take (suc n) ts) a.used (t ∷ []) a.cut in
    let m = read_length ts n in (
      e,
      i,
      inr (
        a.used,
        (t ∷ []) ++ drop (suc n) ts,
        longest_of ts (take (suc n) ts) (drop (suc n) ts) a.used (t ∷ []) (cut_of ts n) a.cut (kept_of ts n (t ∷ []) (inr (omega arith))) a.front a.stuck,
        a.not_spelled,
        omega (arith, l, m, h),
      ),
    )
too_long_fault ts n (t ∷ u ∷ r) code place h z a e i = absurd (omega (arith, z))

-- ---- of a cursor over the tokens up to the first one past the limit

read_is : (ts read cursor : List Token) (n : ℕ) → cursor ≡ read → read ≡ take (n + 1) ts → cursor ≡ take (suc n) ts
read_is ts read cursor n e f = let one : n + 1 ≡ suc n = omega arith in e ∙ (f ∙ ap (λ m. take m ts) one)

faulty : (ts rest : List Token) (e : Stop) → e ≡ stop.Fault → Answers (name expr) ts (Err e) rest → Fails units (name expr) ts rest
faulty ts rest e h a = subst (λ x. Answers (name expr) ts (Err x) rest) h a

pub answer_long_tree : (ts read cursor rest left : List Token) (n : ℕ) (tree : Begun) (place : Place) → cursor ≡ read → read ≡ take (n + 1) ts → left ≡ rest → n < length ts → length left ≡ 0 → Reads units (name expr) cursor tree rest → IsPlaceAt ts n place → IsTooLong ts n Y2 place
answer_long_tree ts read cursor rest left n tree place e f g h z a p =
    let l = ap length g in
    too_long_tree ts n rest tree Y2 place h (omega (arith, l, z)) (subst (λ w. Reads units (name expr) w tree rest) (read_is ts read cursor n e f) a) refl p

pub answer_long_fault : (ts read cursor rest left : List Token) (n : ℕ) (s : Stop) (place : Place) → cursor ≡ read → read ≡ take (n + 1) ts → left ≡ rest → n < length ts → length left ≤ 1 → s ≡ stop.Fault → Answers (name expr) cursor (Err s) rest → IsPlaceAt ts n place → IsTooLong ts n Y2 place
answer_long_fault ts read cursor rest left n s place e f g h z i a p =
    let l = ap length g in
    too_long_fault ts n rest Y2 place h (omega (arith, l, z)) (subst (λ w. Fails units (name expr) w rest) (read_is ts read cursor n e f) (faulty cursor rest s i a)) refl p

pub answer_tree : (ts read cursor rest left : List Token) (n at : ℕ) (end : Place) (tree inner : Begun) → cursor ≡ read → read ≡ take (n + 1) ts → left ≡ rest → (length ts ≤ n) ⊎ (0 < length left) → Reads units (name expr) cursor tree rest → inner ≡ tree →
    ParsesFrom ts n end at (Ok (inner.tree, at + (length read - length left)))
answer_tree ts read cursor rest left n at end tree inner e f g h a i =
    let l = ap length g in
    let m = ap length (sym e ∙ read_is ts read cursor n e f) in
    parsed ts n end at rest tree (inner.tree, at + (length read - length left)) (elim h [ inl j ↦ inl j | inr j ↦ inr (omega (arith, l, j)) ])
    (subst (λ w. Reads units (name expr) w tree rest) (read_is ts read cursor n e f) a) (ap (λ w. w.tree) i) (omega (arith, l, m))

pub answer_fault : (ts read cursor rest left : List Token) (n : ℕ) (end : Place) (s : Stop) (place : Place) → cursor ≡ read → read ≡ take (n + 1) ts → left ≡ rest → (length ts ≤ n) ⊎ (1 < length left) → s ≡ stop.Fault → Answers (name expr) cursor (Err s) rest → place ≡ place_of left end → IsNotExpr ts n end Y1 place
answer_fault ts read cursor rest left n end s place e f g h i a p =
    let l = ap length g in
    not_parsed ts n end rest Y1 place (elim h [ inl j ↦ inl j | inr j ↦ inr (omega (arith, l, j)) ])
    (subst (λ w. Fails units (name expr) w rest) (read_is ts read cursor n e f) (faulty cursor rest s i a)) refl (p ∙ ap (λ w. place_of w end) g)
