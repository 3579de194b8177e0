-- From readings of the tokens up to the first one past the limit to units and their first faults.
use Rattle.std.proofs.Common.{◌≡◌, ℕ, zero, suc, ◌+◌, ◌-◌, ◌^◌, ◌<◌, ◌≤◌, Bool, true, false, List, [], ◌∷◌, ◌++◌, inl, inr, length, take, drop, slice_index_or, refl, ap, sym, ◌∙◌, subst, arith, append_assoc, drop-cons, length-take-le, ◌==◌, Err}
use Rattle.std.proofs.lemmas.List.{append-nil, length-append, take_more, take_at, take-append-drop}
use Rattle.mm_grammar.specs.Grammar.{name, Spells, Stuck, Reads, Fails}
use Rattle.mm_grammar.proofs.Lists.{same}
use Rattle.mm_base.specs.declared.place.Place.{Place}
use Rattle.mm_token.specs.declared.token.Token.{Token}
use Rattle.mm_token.specs.declared.token.Tokens.{Tokens}
use Rattle.mm_syntax.specs.declared.decl.Decl.{Decl}
use Rattle.mm_syntax.specs.declared.decl.Unit.{Unit as UnitTree}
use Rattle.mm_syntax.specs.Rules.{units, unit}
use Rattle.mm_cursor.specs.declared.Stop.{Stop}
use Rattle.mm_cursor.specs.declared.Stop.TheVariants as stop
use Rattle.mm_cursor.specs.Cursor.{Answers}
use Rattle.mm_base.specs.declared.code.TheConstants.Code.{Y1, Y2}
use Rattle.mm_parse_unit.specs.Units.{nesting, IsFront, KeepsCount, IsUnit, IsSyntaxFault, IsTreeOf}
use Rattle.mm_parse_unit.specs.Reading.{unlimited, IsFirstPast, IsReading, IsNoText, StopsBefore, GoesOn, unit_of}
use Rattle.mm_parse_unit.proofs.Elsewhere.{whole}
use Rattle.mm_parse_unit.proofs.OneAnswer.{keeps_front}
use Rattle.mm_parse_unit.proofs.Shallow.{as_many}

-- ---- a list at an index

cut_at : (ts : List Token) (at : ℕ) (t : Token) → at < length ts → ts ≡ take at ts ++ slice_index_or ts at t ∷ drop (suc at) ts
cut_at ts at t w = sym (take-append-drop at ts) ∙ ap (λ u. take at ts ++ u) (drop-cons ts at t w)

one_more : (ts : List Token) (at : ℕ) (t : Token) → at < length ts → take (suc at) ts ≡ take at ts ++ slice_index_or ts at t ∷ []
one_more ts at t w = let e : at + 1 ≡ suc at = omega arith in sym (ap (λ n. take n ts) e) ∙ take_more ts at t w

front_is : (ts a b : List Token) (n : ℕ) → ts ≡ a ++ b → length a ≡ n → take n ts ≡ a
front_is ts a b n e l = ap (take n) e ∙ take_at a b n l

-- ---- a fault at a token, of which it is known if a unit without a limit on nesting goes on with it

pub too_deep : (ts : List Token) (at : ℕ) (t : Token) (end : Place) → at < length ts → StopsBefore ts at → GoesOn (take (at + 1) ts) true → IsSyntaxFault ts end Y2 (slice_index_or ts at t).place
too_deep ts at t end w s h =
    let e : take (at + 1) ts ≡ take at ts ++ slice_index_or ts at t ∷ [] = take_more ts at t w in
    inr (record {
      front = take at ts;
      token = slice_index_or ts at t;
      rest = drop (suc at) ts;
      cut = cut_at ts at t w;
      is_front = s.is_front;
      counted = keeps_front (take at ts) (slice_index_or ts at t ∷ []) (subst (λ u. KeepsCount u) (one_more ts at t w) s.counted);
      past = inr (record { goes_on = (unlimited, subst (λ u. IsFront unlimited u) e h); too_deep = λ f. s.stuck (subst (λ u. IsFront nesting u) (sym (one_more ts at t w)) f) });
      code_is = refl;
      place_is = refl;
    })

pub no_unit_at : (ts : List Token) (at : ℕ) (t : Token) (end : Place) → length ts ≤ 2 ^ 20 → at < length ts → StopsBefore ts at → GoesOn (take (at + 1) ts) false → IsSyntaxFault ts end Y1 (slice_index_or ts at t).place
no_unit_at ts at t end short w s h =
    let e : take (at + 1) ts ≡ take at ts ++ slice_index_or ts at t ∷ [] = take_more ts at t w in
    inl (record {
      front = take at ts;
      rest = slice_index_or ts at t ∷ drop (suc at) ts;
      cut = cut_at ts at t w;
      is_front = s.is_front;
      counted = subst (λ u. KeepsCount u) (one_more ts at t w) s.counted;
      ends = λ n f. h (as_many n unlimited (take (at + 1) ts) (omega (arith, short, w, length-take-le (at + 1) ts (omega (arith, w)))) (subst (λ u. IsFront n u) (sym e) f));
      code_is = refl;
      place_is = refl;
    })

-- ---- whether the reading of a list stops before its end

all_read : (n : ℕ) (ts used rest : List Token) → ts ≡ used ++ rest → IsFront n used → rest ≡ [] → IsFront n ts
all_read n ts used rest cut f e = subst (λ u. IsFront n u) (sym (cut ∙ (ap (λ u. used ++ u) e ∙ append-nil used))) f

not_all_read : (n : ℕ) (ts used rest : List Token) → ts ≡ used ++ rest → Stuck units (name (unit n)) used rest → 0 < length rest → IsFront n ts → ⊥
not_all_read n ts used [] cut s l f = absurd (omega (arith, l))
not_all_read n ts used (k ∷ rest) cut s l f = s k rest rest refl (subst (λ u. IsFront n u) cut f)

empty_list : (xs : List Token) → length xs ≡ 0 → xs ≡ []
empty_list [] e = refl
empty_list (x ∷ xs) e = absurd (omega (arith, e))

positive : (n : ℕ) → (n == 0) ≡ false → 0 < n
positive zero e = absurd (cc)
positive (suc n) e = omega arith

goes_on : (ts used rest : List Token) (n : ℕ) → n ≡ length rest → ts ≡ used ++ rest → IsFront unlimited used → Stuck units (name (unit unlimited)) used rest → GoesOn ts (n == 0)
goes_on ts used rest n l cut f s = go (n == 0) refl
  where
    go : (b : Bool) → (n == 0) ≡ b → GoesOn ts b
    go true e = all_read unlimited ts used rest cut f (empty_list rest (sym l ∙ same n 0 e))
    go false e = let some = positive n e in not_all_read unlimited ts used rest cut s (omega (arith, l, some))

pub goes_on_tree : (ts cursor left rest : List Token) (v : List Decl) → cursor ≡ ts → left ≡ rest → Reads units (name (unit unlimited)) cursor v rest → GoesOn ts (length left == 0)
goes_on_tree ts cursor left rest v e i a = goes_on ts a.used rest (length left) (ap length i) (sym e ∙ a.cut) (whole (name (unit unlimited)) a.used v a.spelled) a.stuck

faulty : (n : ℕ) (ts rest : List Token) (e : Stop) → e ≡ stop.Fault → Answers (name (unit n)) ts (Err e) rest → Fails units (name (unit n)) ts rest
faulty n ts rest e h a = subst (λ x. Answers (name (unit n)) ts (Err x) rest) h a

pub goes_on_fault : (ts cursor left rest : List Token) (s : Stop) → s ≡ stop.Fault → cursor ≡ ts → left ≡ rest → Answers (name (unit unlimited)) cursor (Err s) rest → GoesOn ts (length left == 0)
goes_on_fault ts cursor left rest s h e i b = let a = faulty unlimited cursor rest s h b in goes_on ts a.used rest (length left) (ap length i) (sym e ∙ a.cut) a.front a.stuck

-- ---- the first fault, after a reading of the tokens within the limit on their count

pub left_within : (ts : List Token) (at left : ℕ) → IsFirstPast ts at → IsReading (take at ts) left → left ≤ at
left_within ts at left p r =
    let l = length-take-le at ts p.within in
    let m = ap length r.cut in
    let o = length-append r.front r.rest in
    let i = r.left_is in
    omega (arith, l, m, o, i)

front_length : (ts : List Token) (at left : ℕ) → IsFirstPast ts at → (r : IsReading (take at ts) left) → length r.front ≡ at - left
front_length ts at left p r =
    let l = length-take-le at ts p.within in
    let m = ap length r.cut in
    let o = length-append r.front r.rest in
    let i = r.left_is in
    omega (arith, l, m, o, i)

stops_at : (ts front rest : List Token) (at n : ℕ) → take at ts ≡ front ++ rest → length front ≡ n → 0 < length rest → IsFront nesting front → Stuck units (name (unit nesting)) front rest → KeepsCount (take at ts) → StopsBefore ts n
stops_at ts front [] at n cut l m f s h = absurd (omega (arith, m))
stops_at ts front (k ∷ rest) at n cut l m f s h =
    let all : ts ≡ (front ++ k ∷ rest) ++ drop at ts = sym (take-append-drop at ts) ∙ ap (λ u. u ++ drop at ts) cut in
    let short : ts ≡ front ++ ((k ∷ rest) ++ drop at ts) = all ∙ append_assoc front (k ∷ rest) (drop at ts) in
    let long : ts ≡ (front ++ k ∷ []) ++ (rest ++ drop at ts) = short ∙ sym (append_assoc front (k ∷ []) (rest ++ drop at ts)) in
    let one = length-append front (k ∷ []) in
    let a : take n ts ≡ front = front_is ts front ((k ∷ rest) ++ drop at ts) n short l in
    let b : take (suc n) ts ≡ front ++ k ∷ [] = front_is ts (front ++ k ∷ []) (rest ++ drop at ts) (suc n) long (omega (arith, one, l)) in
    record {
      is_front = subst (λ u. IsFront nesting u) (sym a) f;
      stuck = λ g. s k rest [] refl (subst (λ u. IsFront nesting u) b g);
      counted = subst (λ u. KeepsCount u) (sym b) (keeps_front (front ++ k ∷ []) rest (subst (λ u. KeepsCount u) (cut ∙ sym (append_assoc front (k ∷ []) rest)) h));
    }

pub stops_before : (ts : List Token) (at left : ℕ) → IsFirstPast ts at → IsReading (take at ts) left → 0 < left → StopsBefore ts (at - left)
stops_before ts at left p r l = let i = r.left_is in stops_at ts r.front r.rest at (at - left) r.cut (front_length ts at left p r) (omega (arith, l, i)) r.is_front r.stuck p.counted

all_front : (ts : List Token) (left : ℕ) → IsReading ts left → left ≡ 0 → IsFront nesting ts
all_front ts left r l = let i = r.left_is in all_read nesting ts r.front r.rest r.cut r.is_front (empty_list r.rest (omega (arith, l, i)))

pub count_fault : (ts : List Token) (end : Place) (at left : ℕ) (t : Token) → IsFirstPast ts at → IsReading (take at ts) left → left ≡ 0 → at < length ts → IsSyntaxFault ts end Y2 (slice_index_or ts at t).place
count_fault ts end at left t p r l w = inr (record {
  front = take at ts;
  token = slice_index_or ts at t;
  rest = drop (suc at) ts;
  cut = cut_at ts at t w;
  is_front = all_front (take at ts) left r l;
  counted = p.counted;
  past = inl (p.past w);
  code_is = refl;
  place_is = refl;
})

all_taken : (ts : List Token) (at : ℕ) → length ts ≤ at → take at ts ≡ ts
all_taken [] zero l = refl
all_taken [] (suc at) l = refl
all_taken (x ∷ ts) zero l = absurd (omega (arith, l))
all_taken (x ∷ ts) (suc at) l = ap (λ u. x ∷ u) (all_taken ts at (omega (arith, l)))

pub end_fault : (ts : List Token) (end : Place) (at left : ℕ) → IsFirstPast ts at → IsReading (take at ts) left → (left ≡ 0 → at ≡ length ts → IsNoText ts) → left ≡ 0 → length ts ≤ at → IsSyntaxFault ts end Y1 end
end_fault ts end at left p r none l w =
    let all = all_taken ts at w in
    let within = p.within in
    inl (record {
      front = ts;
      rest = [];
      cut = sym (append-nil ts);
      is_front = subst (λ u. IsFront nesting u) all (all_front (take at ts) left r l);
      counted = subst (λ u. KeepsCount u) (all ∙ sym (append-nil ts)) p.counted;
      ends = none l (omega (arith, w, within));
      code_is = refl;
      place_is = refl;
    })

-- ---- the whole

pub reading_of_tree : (ts read cursor rest left : List Token) (at : ℕ) (v : List Decl) → cursor ≡ read → read ≡ take at ts → left ≡ rest → Reads units (name (unit nesting)) cursor v rest → IsReading (take at ts) (length left)
reading_of_tree ts read cursor rest left at v e f i a =
    record { front = a.used; rest = rest; cut = sym (e ∙ f) ∙ a.cut; is_front = whole (name (unit nesting)) a.used v a.spelled; stuck = a.stuck; left_is = ap length i }

pub reading_of_fault : (ts read cursor rest left : List Token) (at : ℕ) (s : Stop) → s ≡ stop.Fault → cursor ≡ read → read ≡ take at ts → left ≡ rest → Answers (name (unit nesting)) cursor (Err s) rest → IsReading (take at ts) (length left)
reading_of_fault ts read cursor rest left at s h e f i b =
    let a = faulty nesting cursor rest s h b in
    record { front = a.used; rest = rest; cut = sym (e ∙ f) ∙ a.cut; is_front = a.front; stuck = a.stuck; left_is = ap length i }

used_is : (ts read cursor used rest left : List Token) (at : ℕ) → cursor ≡ read → read ≡ take at ts → left ≡ rest → cursor ≡ used ++ rest → length left ≡ 0 → at ≡ length ts → used ≡ ts
used_is ts read cursor used rest left at e f i cut l w =
    let none : rest ≡ [] = empty_list rest (sym (ap length i) ∙ l) in
    sym (append-nil used) ∙ (sym (ap (λ u. used ++ u) none) ∙ (sym cut ∙ (e ∙ (f ∙ all_taken ts at (omega (arith, w))))))

pub no_text : (ts read cursor rest left : List Token) (at : ℕ) (s : Stop) → s ≡ stop.Fault → cursor ≡ read → read ≡ take at ts → left ≡ rest → Answers (name (unit nesting)) cursor (Err s) rest → length left ≡ 0 → at ≡ length ts → IsNoText ts
no_text ts read cursor rest left at s h e f i b l w decls spelled =
    let a = faulty nesting cursor rest s h b in
    a.not_spelled decls (subst (λ u. Spells units (name (unit nesting)) u decls) (sym (used_is ts read cursor a.used rest left at e f i a.cut l w)) spelled)

is_unit : (ts read cursor rest left : List Token) (at : ℕ) (v : List Decl) → IsFirstPast ts at → cursor ≡ read → read ≡ take at ts → left ≡ rest → Reads units (name (unit nesting)) cursor v rest → length left ≡ 0 → at ≡ length ts → IsUnit ts v
is_unit ts read cursor rest left at v p e f i a l w = record {
  spelled = subst (λ u. Spells units (name (unit nesting)) u v) (used_is ts read cursor a.used rest left at e f i a.cut l w) a.spelled;
  counted = subst (λ u. KeepsCount u) (all_taken ts at (omega (arith, w))) p.counted;
}

pub is_tree : (tokens : Tokens) (ts read cursor rest left : List Token) (at : ℕ) (v : List Decl) (tree : UnitTree) → ts ≡ tokens.list → tree ≡ unit_of tokens v → IsFirstPast ts at → cursor ≡ read → read ≡ take at ts → left ≡ rest → Reads units (name (unit nesting)) cursor v rest → length left ≡ 0 → at ≡ length ts → IsTreeOf tokens tree
is_tree tokens ts read cursor rest left at v tree same is p e f i a l w =
    subst (λ u. IsTreeOf tokens u) (sym is) (record { is_unit = subst (λ u. IsUnit u v) same (is_unit ts read cursor rest left at v p e f i a l w); place_is = refl; files_are = refl; bytes_are = refl })
