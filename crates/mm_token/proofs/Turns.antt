-- One lemma for each way that a reading goes on or ends.
use Rattle.std.proofs.Common.{◌≡◌, ℕ, zero, suc, ◌≤◌, ◌<◌, ◌+◌, ◌-◌, ◌⊎◌, inl, inr, Bool, true, false, List, [], ◌∷◌, ◌++◌, length, refl, ap, sym, ◌∙◌, arith, subst, Option, Some, None}
use Rattle.std.specs.Prelude.{Result, Ok, Err, IsErrAnd, MatchResult, MatchOption}
use Rattle.std.proofs.lemmas.Result.{err_from_is_err_and}
use Rattle.std.proofs.lemmas.List.{append-nil, length-append}
use Rattle.mm_base.specs.Outside.{Contents, FilesSeen, Rose, RoseBy}
use Rattle.mm_base.specs.declared.limits.TheConstants.{MAX_UNIT_BYTES, MAX_INCLUDE_DEPTH}
use Rattle.mm_base.specs.declared.place.Place.{Place}
use Rattle.mm_base.specs.declared.code.Code.{Code}
use Rattle.mm_token.specs.declared.piece.Shape.{Shape}
use Rattle.mm_token.specs.declared.words.Wrong.{Wrong}
use Rattle.mm_token.specs.declared.unit.Unit.{Unit as Reader}
use Rattle.mm_token.specs.declared.token.TokenEnd.{TokenEnd}
use Rattle.mm_token.specs.declared.token.TokenEnd.TheVariants.{Absent, Failed, TooLong, Fault, NoMemory}
use Rattle.mm_token.specs.Characters.{characters_of, place_after}
use Rattle.mm_token.specs.Pieces.{IsLongest}
use Rattle.mm_token.specs.Cut.{Piece, text_of, fresh_after, fresh_behind, IsCut, IsFault, code_of}
use Rattle.mm_token.specs.Tokens.{State, with_file, file_start, was_included, Fits, KeepsOut, Includes, Puts, PutsText, PutsFile, StopsHere, StopsText, Refuses, Stopped, nothing_read, unit_start, depth_limit, IsRefused}
use Rattle.mm_token.specs.Causes.{HasCause, AreKept}
use Rattle.mm_token.specs.Unit.{state_of, Grows, HasRoom, weight}
use Rattle.mm_token.specs.Clauses.{Ended, Went, IncludesFile, RefusesFile, RefusesPiece, PutsWhole, StopsWhole, PutsBytes, StopsBytes}
use Rattle.mm_token.proofs.Reading.{SoFar}
use Rattle.mm_token.proofs.Characters.{characters-short}

-- ---- ends

stopped_map : (e : TokenEnd) (P Q : Type 0) → (P → Q) → Stopped e P → Stopped e Q
stopped_map (Absent n p) P Q f h = f h
stopped_map (Failed n) P Q f h = f h
stopped_map (TooLong n) P Q f h = f h
stopped_map (Fault c p n) P Q f h = f h
stopped_map NoMemory P Q f h = tt

rose_later : (n before mid now : ℕ) → before ≤ mid → RoseBy n mid now → RoseBy n before now
rose_later n before mid now l h = omega (arith, h)

pub cause_later : (x y z : FilesSeen) (e : TokenEnd) → AreKept x y → HasCause e y z → HasCause e x z
cause_later x y z e k h = by e h
  where
    absent : (held : Option Contents) → MatchOption held (Rose y.faults z.faults) (λ _. Unit {0}) → MatchOption held (Rose x.faults z.faults) (λ _. Unit {0})
    absent None h = rose_later 1 x.faults y.faults z.faults k.later h
    absent (Some c) h = tt

    long : (held : Option Contents) → MatchOption held (RoseBy (MAX_UNIT_BYTES + 1) y.drawn z.drawn) (λ _. Unit {0}) → MatchOption held (RoseBy (MAX_UNIT_BYTES + 1) x.drawn z.drawn) (λ _. Unit {0})
    long None h = rose_later (MAX_UNIT_BYTES + 1) x.drawn y.drawn z.drawn k.more h
    long (Some c) h = tt

    by : (e : TokenEnd) → HasCause e y z → HasCause e x z
    by (Absent n p) h = absent x.held (subst (λ o. MatchOption o (Rose y.faults z.faults) (λ _. Unit {0})) k.same h)
    by (Failed n) h = rose_later 1 x.faults y.faults z.faults k.later h
    by (TooLong n) h = long x.held (subst (λ o. MatchOption o (RoseBy (MAX_UNIT_BYTES + 1) y.drawn z.drawn) (λ _. Unit {0})) k.same h)
    by (Fault c p n) h = tt
    by NoMemory h = tt

pub ended_map : (P Q : Type 0) (e : TokenEnd) (x z : FilesSeen) → (P → Q) → Ended P e x z → Ended Q e x z
ended_map P Q e x z g h = record { why = stopped_map e P Q g h.why; cause = h.cause }

-- at the exit of a `?`
pub failed : {A : Type 0} → (r : Result A TokenEnd) (e : TokenEnd) (P : A → Type 0) (Q : TokenEnd → Type 0) → IsErrAnd r (λ y. y ≡ e) → Q e → MatchResult r P Q
failed r e P Q is h =
    let x = err_from_is_err_and r is in
    subst (λ w. MatchResult w P Q) (sym (x.1 ∙ ap (λ y. Err y) x.2)) h

-- an end after files were read before
pub ended_later : (P : Option Contents → Type 0) (e : TokenEnd) (x y z : FilesSeen) → AreKept x y → Ended (P y.held) e y z → Ended (P x.held) e x z
ended_later P e x y z k h = record { why = subst (λ o. Stopped e (P o)) k.same h.why; cause = cause_later x y z e k h.cause }

-- ---- an include

abbrev Inside : Option Contents → ℕ → List ℕ → State → TokenEnd → Type 0
Inside held n name s e = (bytes : List ℕ) × Fits held name bytes s × StopsText (PutsFile held n) (Refuses held n name) name (characters_of bytes) (file_start s) (with_file s name (length bytes)) e

refuses_by : (held : Option Contents) (n : ℕ) (from name : List ℕ) (at : Place) (s : State) (e : TokenEnd) → 0 < n → KeepsOut held name from at s e ⊎ Inside held (n - 1) name s e → Refuses held n from name at s e
refuses_by held zero from name at s e l h = absurd (omega arith)
refuses_by held (suc m) from name at s e l h = let i : suc m - 1 ≡ m = omega arith in subst (λ k. KeepsOut held name from at s e ⊎ Inside held k name s e) i h

puts_by : (held : Option Contents) (n : ℕ) (name : List ℕ) (s t : State) → 0 < n →
    (bytes : List ℕ) × Fits held name bytes s × PutsText (PutsFile held (n - 1)) (characters_of bytes) (file_start s) (with_file s name (length bytes)) t → PutsFile held n name s t
puts_by held zero name s t l h = absurd (omega arith)
puts_by held (suc m) name s t l h = let i : suc m - 1 ≡ m = omega arith in
    subst (λ k. (bytes : List ℕ) × Fits held name bytes s × PutsText (PutsFile held k) (characters_of bytes) (file_start s) (with_file s name (length bytes)) t) i h

includes_by : (File : List ℕ → State → State → Type 0) (name : List ℕ) (s t : State) → was_included s name ≡ false → File name s t → Includes File (Some name) s t
includes_by File name s t e h = subst (λ b. elim b as (λ _. Type 0) [ true ↦ t ≡ s | false ↦ File name s t ]) (sym e) h

pub kept_out : (x z : FilesSeen) (n : ℕ) (from name : List ℕ) (at : Place) (s : State) (e : TokenEnd) → 0 < n → was_included s name ≡ false →
    Ended (KeepsOut x.held name from at s e) e x z → Ended (RefusesFile x.held n from name at s e) e x z
kept_out x z n from name at s e l w h = ended_map _ (RefusesFile x.held n from name at s e) e x z (λ k. (w, refuses_by x.held n from name at s e l (inl k))) h

pub stopped_inside : (x y z : FilesSeen) (n : ℕ) (from name bytes : List ℕ) (at : Place) (s : State) (e : TokenEnd) → 0 < n → was_included s name ≡ false →
    Fits x.held name bytes s → AreKept x y → (read : List ℕ) → read ≡ bytes → Ended (StopsBytes y.held (n - 1) name read s e) e y z → Ended (RefusesFile x.held n from name at s e) e x z
stopped_inside x y z n from name bytes at s e l w fits k read i h =
    ended_map (StopsBytes x.held (n - 1) name bytes s e) (RefusesFile x.held n from name at s e) e x z
    (λ t. (w, refuses_by x.held n from name at s e l (inr (bytes, fits, t))))
    (ended_later (λ o. StopsBytes o (n - 1) name bytes s e) e x y z k (subst (λ b. Ended (StopsBytes y.held (n - 1) name b s e) e y z) i h))

pub went_inside : (held held' : Option Contents) (n : ℕ) (name bytes : List ℕ) (s : State) (u : Reader) (end : Place) → held' ≡ held → 0 < n → was_included s name ≡ false →
    Fits held name bytes s → (read : List ℕ) → read ≡ bytes → Went s u 1 (PutsBytes held' (n - 1) name read s end) → Went s u 1 (IncludesFile held n name s)
went_inside held held' n name bytes s u end same l w fits read i h =
    record {
      puts = includes_by (PutsFile held n) name s (state_of u) w (puts_by held n name s (state_of u) l (bytes, fits, (subst (λ x. PutsBytes x (n - 1) name bytes s end (state_of u)) same (subst (λ b. PutsBytes held' (n - 1) name b s end (state_of u)) i h.puts)).0.0));
      agrees = h.agrees;
      grows = h.grows;
    }

-- ---- a file of bytes

pub file_room : (s : State) (name bytes : List ℕ) → HasRoom s 1 → s.bytes + length bytes ≤ MAX_UNIT_BYTES → HasRoom (with_file s name (length bytes)) (length (characters_of bytes))
file_room s name bytes r l =
    let c = characters-short bytes in
    record { counted = simp length-append (omega (arith, r.counted)); limited = l }

pub text_room : (s v : State) (name bytes text : List ℕ) → v ≡ with_file s name (length bytes) → text ≡ characters_of bytes → HasRoom s 1 → s.bytes + length bytes ≤ MAX_UNIT_BYTES → HasRoom v (length text)
text_room s v name bytes text e i r l = subst (λ w. HasRoom w (length text)) (sym e) (subst (λ cs. HasRoom (with_file s name (length bytes)) (length cs)) (sym i) (file_room s name bytes r l))

pub text_short : (s : State) (bytes text : List ℕ) → text ≡ characters_of bytes → s.bytes + length bytes ≤ MAX_UNIT_BYTES → length text ≤ MAX_UNIT_BYTES
text_short s bytes text i l = let c = characters-short bytes in let e : length text ≡ length (characters_of bytes) = ap length i in omega arith

module _ (held : Option Contents) (n : ℕ) (name bytes : List ℕ) (s : State) (u : Reader) (text : List ℕ) (start : Place) (v : State)
    (is_begun : v ≡ with_file s name (length bytes)) (is_chars : text ≡ characters_of bytes) (is_start : start ≡ file_start s) where
  went_bytes : (end : Place) → Went v u (length text) (PutsWhole held n text start v end) → Went s u 1 (PutsBytes held n name bytes s end)
  went_bytes end h =
      let p : PutsWhole held n (characters_of bytes) (file_start s) (with_file s name (length bytes)) end (state_of u) =
      subst (λ w. PutsWhole held n (characters_of bytes) (file_start s) w end (state_of u)) is_begun
      (subst (λ a. PutsWhole held n (characters_of bytes) a v end (state_of u)) is_start (subst (λ cs. PutsWhole held n cs start v end (state_of u)) is_chars h.puts)) in
      let c = characters-short bytes in
      let g : Grows (with_file s name (length bytes)) (state_of u) (length (characters_of bytes)) =
      subst (λ w. Grows w (state_of u) (length (characters_of bytes))) is_begun (subst (λ cs. Grows v (state_of u) (length cs)) is_chars h.grows) in
      let k = simp length-append at g.counted in
      let j = simp length-append at g.files in
      record { puts = (p, omega (arith, j)); agrees = h.agrees; grows = record { counted = omega (arith, k); files = omega (arith, j); limited = h.grows.limited } }

  ended_bytes : (e : TokenEnd) (x z : FilesSeen) → Ended (StopsWhole held n name text start v e) e x z → Ended (StopsBytes held n name bytes s e) e x z
  ended_bytes e x z h =
      subst (λ w. Ended (StopsWhole held n name (characters_of bytes) (file_start s) w e) e x z) is_begun
      (subst (λ a. Ended (StopsWhole held n name (characters_of bytes) a v e) e x z) is_start
      (subst (λ cs. Ended (StopsWhole held n name cs start v e) e x z) is_chars h))

  pub of_bytes : (r : Result Place TokenEnd) (x z : FilesSeen) →
      MatchResult r (λ end. Went v u (length text) (PutsWhole held n text start v end)) (λ e. Ended (StopsWhole held n name text start v e) e x z) →
      MatchResult r (λ end. Went s u 1 (PutsBytes held n name bytes s end)) (λ e. Ended (StopsBytes held n name bytes s e) e x z)
  of_bytes (Ok end) x z h = went_bytes end h
  of_bytes (Err e) x z h = ended_bytes e x z h

-- ---- a text

module _ (x : FilesSeen) (n : ℕ) (name text rest : List ℕ) (start at : Place) (fresh : Bool) (s mid : State) (so : SoFar (PutsFile x.held n) text rest start at fresh s mid) where
  cut_here : IsCut true text so.pieces rest
  cut_here = subst (λ ps. IsCut true text ps rest) (append-nil so.pieces) (so.cut [] rest refl)

  stops : (e : TokenEnd) → StopsHere (Refuses x.held n name) name fresh rest at mid e → StopsWhole x.held n name text start s e
  stops e h = (
    so.pieces,
    rest,
    mid,
    cut_here,
    so.puts,
    subst (λ a. StopsHere (Refuses x.held n name) name (fresh_behind true so.pieces) rest a mid e) so.at_is
        (subst (λ b. StopsHere (Refuses x.held n name) name b rest at mid e) so.fresh_is h),
  )

  pub stops_fault : (w : Wrong) (place : Place) (code : Code) (own : List ℕ) (z : FilesSeen) → IsFault fresh rest at w place → code ≡ code_of w → own ≡ name →
      Ended (StopsWhole x.held n name text start s (Fault code place own)) (Fault code place own) x z
  stops_fault w place code own z h i j =
      record { why = stops (Fault code place own) (inl (w, place, h, ap (λ c. Fault c place own) i ∙ ap (λ o. Fault (code_of w) place o) j)); cause = tt }

  pub stops_piece : (y z : FilesSeen) (kind : Shape) (piece after : List ℕ) (place : Place) (e : TokenEnd) → AreKept x y →
      IsLongest fresh rest kind piece after → place ≡ at → Ended (RefusesPiece y.held n name kind piece place mid e) e y z →
      Ended (StopsWhole x.held n name text start s e) e x z
  stops_piece y z kind piece after place e k l p h =
      ended_map (RefusesPiece x.held n name kind piece place mid e) (StopsWhole x.held n name text start s e) e x z
      (λ r. stops e (inr (piece, after, r.0, subst (λ k. IsLongest fresh rest k piece after) r.1 l, r.2, r.3.0, subst (λ a. Refuses x.held n name r.0 a mid e) p r.3.1)))
      (ended_later (λ o. RefusesPiece o n name kind piece place mid e) e x y z k h)

  pub whole : rest ≡ [] → PutsWhole x.held n text start s at mid
  whole e =
      let cut : IsCut true text so.pieces [] = subst (λ r. IsCut true text so.pieces r) e cut_here in
      let same : text_of so.pieces ≡ text = text_of_cut true text so.pieces cut in
      ((so.pieces, cut, so.puts), so.at_is ∙ ap (place_after start) same)
    where
      text_of_cut : (fresh : Bool) (text : List ℕ) (ps : List Piece) → IsCut fresh text ps [] → text_of ps ≡ text
      text_of_cut fresh text [] h = sym h
      text_of_cut fresh text (p ∷ ps) h = ap (λ r. p.text ++ r) (text_of_cut (fresh_after fresh p.kind p.text) h.0 ps h.3) ∙ sym h.1.cut

-- ---- a piece

pub kept_then : (x y z : FilesSeen) → AreKept x y → AreKept y z → AreKept x z
kept_then x y z k l = record { same = l.same ∙ k.same; later = omega (arith, k.later, l.later); more = omega (arith, k.more, l.more) }

pub puts_at : (held held' : Option Contents) (n : ℕ) (kind : Shape) (piece : List ℕ) (place : Place) (s t : State) → held' ≡ held → Puts (PutsFile held' n) kind piece place s t → Puts (PutsFile held n) kind piece place s t
puts_at held held' n kind piece place s t e h = subst (λ x. Puts (PutsFile x n) kind piece place s t) e h

pub piece_room : (s t : State) (text rest piece after : List ℕ) → HasRoom s (length text) → weight t + s.bytes + length rest ≤ weight s + t.bytes + length text → t.bytes ≤ MAX_UNIT_BYTES →
    length rest ≡ length piece + length after → HasRoom t (length piece)
piece_room s t text rest piece after r c l e = record { counted = omega (arith, r.counted); limited = l }

pub piece_count : (s t v : State) (text rest piece after : List ℕ) → weight t + s.bytes + length rest ≤ weight s + t.bytes + length text → length rest ≡ length piece + length after → Grows t v (length piece) →
    weight v + s.bytes + length after ≤ weight s + v.bytes + length text
piece_count s t v text rest piece after c e g = omega (arith, g.counted)

-- ---- a unit

pub expanded : (held held' : Option Contents) (unit bytes read : List ℕ) (v u : Reader) (end : Place) → held' ≡ held → state_of v ≡ nothing_read →
    Fits held unit bytes (state_of v) → read ≡ bytes → Went (state_of v) u 1 (PutsBytes held' MAX_INCLUDE_DEPTH unit read (state_of v) end) →
    (b : List ℕ) × (s : State) × Fits held unit b nothing_read
    × PutsText (PutsFile held MAX_INCLUDE_DEPTH) (characters_of b) unit_start (with_file nothing_read unit (length b)) s
    × (u.files ≡ s.files) × (u.list ≡ s.tokens) × (u.bytes ≡ s.bytes) × (end ≡ place_after unit_start (characters_of b))
expanded held held' unit bytes read v u end same none fits i h =
    let p : PutsBytes held MAX_INCLUDE_DEPTH unit bytes nothing_read end (state_of u) =
    subst (λ w. PutsBytes held MAX_INCLUDE_DEPTH unit bytes w end (state_of u)) none
    (subst (λ b. PutsBytes held MAX_INCLUDE_DEPTH unit b (state_of v) end (state_of u)) i (subst (λ x. PutsBytes x MAX_INCLUDE_DEPTH unit read (state_of v) end (state_of u)) same h.puts)) in
    (bytes, state_of u, subst (λ w. Fits held unit bytes w) none fits, p.0.0, refl, refl, refl, p.0.1)

pub refused : (x y z : FilesSeen) (unit bytes read : List ℕ) (v : Reader) (e : TokenEnd) → state_of v ≡ nothing_read →
    Fits x.held unit bytes (state_of v) → AreKept x y → read ≡ bytes → Ended (StopsBytes y.held MAX_INCLUDE_DEPTH unit read (state_of v) e) e y z → IsRefused x.held unit e
refused x y z unit bytes read v e none fits k i h =
    let w = ended_later (λ o. StopsBytes o MAX_INCLUDE_DEPTH unit read (state_of v) e) e x y z k h in
    stopped_map e (StopsBytes x.held MAX_INCLUDE_DEPTH unit read (state_of v) e) (Refuses x.held depth_limit [] unit unit_start nothing_read e)
    (λ t. inr (
      bytes,
      subst (λ w. Fits x.held unit bytes w) none fits,
      subst (λ w. StopsBytes x.held MAX_INCLUDE_DEPTH unit bytes w e) none (subst (λ b. StopsBytes x.held MAX_INCLUDE_DEPTH unit b (state_of v) e) i t),
    )) w.why

-- what a finished reading counts
pub counted : (v u : Reader) → state_of v ≡ nothing_read → Grows (state_of v) (state_of u) 1 → length v.files < length u.files →
    (length u.list ≤ u.bytes) × (1 ≤ length u.files) × (length u.files ≤ u.bytes + 1) × (u.bytes ≤ MAX_UNIT_BYTES)
counted v u none g l =
    let h : Grows nothing_read (state_of u) 1 = subst (λ w. Grows w (state_of u) 1) none g in
    (omega (arith, h.counted), omega arith, omega (arith, h.counted), h.limited)
