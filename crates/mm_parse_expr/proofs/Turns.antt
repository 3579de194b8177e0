-- The turns of each reader of expressions, over plain lists of tokens.
use Rattle.std.proofs.Common.{◌≡◌, ℕ, zero, suc, ◌+◌, ◌-◌, ◌<◌, ◌≤◌, IsTrue, List, map, length, refl, ap, sym, subst, arith, None}
use Rattle.mm_grammar.specs.Grammar.{seq, many, give, Reads, Fails, has}
use Rattle.mm_grammar.specs.Ahead.{first_of}
use Rattle.mm_grammar.proofs.Loops.{SoFar, once_more, ended_here, failed_inside}
use Rattle.mm_token.specs.declared.token.Token.{Token}
use Rattle.mm_syntax.specs.declared.symbol.Symbol.{Symbol}
use Rattle.mm_syntax.specs.declared.part.Begun.{Begun}
use Rattle.mm_syntax.specs.Symbols.{symbol_of, number_of}
use Rattle.mm_syntax.specs.Built as b
use Rattle.mm_syntax.specs.Rules.{P, units, token, or, and, eq, rel, add, mul, chain, link}
use Rattle.mm_syntax.proofs.Claims.{ahead}
use Rattle.mm_syntax.proofs.Fitting.{fit}
use Rattle.mm_cursor.specs.Cursor.{Eats}
use Rattle.mm_cursor.proofs.Steps.{Took, is_plain, good, ok_is, ate, taken_shorter, pair, first_fails, second_fails, gives, gives_not, named, named_not, ungive, ungive_not}
use Rattle.mm_parse_expr.specs.Parts.{part_at, operators_at}

-- ---- one operator and its right operand after another

module _ (p : P Begun) (ops : List Symbol) (left : Begun) (gm : IsTrue (is_plain (many (link p ops)))) (gl : IsTrue (is_plain (link p ops))) (fl : first_of units ahead (link p ops) ≡ map number_of ops) where
  abbrev chained : P Begun
  chained = give (b.joined left) (many (link p ops))

  links_start : (ts : List Token) → SoFar units chained (link p ops) (b.joined left) ts ts
  links_start ts = record { reads = λ xs r a. gives (b.joined left) (many (link p ops)) ts r xs a; fails = λ r a. gives_not (b.joined left) (many (link p ops)) ts r a }

  links_step : (ts rest us r : List Token) (so_far right next : Begun) (op : Token) → SoFar units chained (link p ops) (b.joined so_far) ts rest → Took ops rest op us → Reads units p us right r → next ≡ b.operated so_far op right →
      SoFar units chained (link p ops) (b.joined next) ts r
  links_step ts rest us r so_far right next op s h a n =
      once_more units ahead fit chained (link p ops) (b.joined so_far) (b.joined next) (good (many (link p ops)) gm) ts rest r (op, right) s
      (pair (token ops) p gl rest us r op right (ate ops rest us op h) a) (λ xs. ap (λ l. b.joined l xs) (sym n))

  links_end : (ts rest us : List Token) (so_far : Begun) → SoFar units chained (link p ops) (b.joined so_far) ts rest → Eats ops rest None us → Reads units chained ts so_far us
  links_end ts rest us so_far s h =
      subst (λ w. Reads units chained ts so_far w) (sym h.0)
      (ended_here units ahead fit chained (link p ops) (b.joined so_far) (good (many (link p ops)) gm) ts rest s (λ x r i j. h.1 x r i (subst (λ cs. IsTrue (has (number_of (symbol_of x)) cs)) fl j)))

  links_fail : (ts rest us r : List Token) (so_far : Begun) (op : Token) → SoFar units chained (link p ops) (b.joined so_far) ts rest → Took ops rest op us → length r ≤ length us → Fails units p us r → Fails units chained ts r
  links_fail ts rest us r so_far op s h n a =
      failed_inside units ahead fit chained (link p ops) (b.joined so_far) (good (many (link p ops)) gm) ts rest r (taken_shorter ops rest us r op h n) s (second_fails (token ops) p gl rest us r op (ate ops rest us op h) a)

-- the level's chain, of what stands to the left of its first operator and what follows
module _ (p : P Begun) (ops : List Symbol) (g : IsTrue (is_plain (seq p (many (link p ops))))) where
  chain_reads : (ts r1 r : List Token) (left v : Begun) → Reads units p ts left r1 → Reads units (give (b.joined left) (many (link p ops))) r1 v r → Reads units (chain p ops) ts v r
  chain_reads ts r1 r left v a c =
      let w = ungive (b.joined left) (many (link p ops)) r1 r v c in
      ok_is (chain p ops) ts r v (b.joined left w.0) w.1 (gives (λ x. b.joined x.0 x.1) (seq p (many (link p ops))) ts r (left, w.0) (pair p (many (link p ops)) g ts r1 r left w.0 a w.2))

  chain_no_left : (ts r : List Token) → Fails units p ts r → Fails units (chain p ops) ts r
  chain_no_left ts r a = gives_not (λ x. b.joined x.0 x.1) (seq p (many (link p ops))) ts r (first_fails p (many (link p ops)) g ts r a)

  chain_no_right : (ts r1 r : List Token) (left : Begun) → Reads units p ts left r1 → Fails units (give (b.joined left) (many (link p ops))) r1 r → Fails units (chain p ops) ts r
  chain_no_right ts r1 r left a c = gives_not (λ x. b.joined x.0 x.1) (seq p (many (link p ops))) ts r (second_fails p (many (link p ops)) g ts r1 r left a (ungive_not (b.joined left) (many (link p ops)) r1 r c))

-- ---- the levels

level_of : (n : ℕ) → n < 6 → (P : ℕ → Type 0) → P 0 → P 1 → P 2 → P 3 → P 4 → P 5 → P n
level_of zero h P a c d e f g = a
level_of (suc zero) h P a c d e f g = c
level_of (suc (suc zero)) h P a c d e f g = d
level_of (suc (suc (suc zero))) h P a c d e f g = e
level_of (suc (suc (suc (suc zero)))) h P a c d e f g = f
level_of (suc (suc (suc (suc (suc zero))))) h P a c d e f g = g
level_of (suc (suc (suc (suc (suc (suc n)))))) h P a c d e f g = absurd (omega arith)

abbrev next : ℕ → P Begun
next n = part_at (n + 1)

abbrev row : ℕ → P (Token × Begun)
row n = link (next n) (operators_at n)

links_good : (n : ℕ) → n < 6 → IsTrue (is_plain (many (row n)))
links_good n h = level_of n h (λ m. IsTrue (is_plain (many (row m)))) refl refl refl refl refl refl

link_good : (n : ℕ) → n < 6 → IsTrue (is_plain (row n))
link_good n h = level_of n h (λ m. IsTrue (is_plain (row m))) refl refl refl refl refl refl

link_first : (n : ℕ) → n < 6 → first_of units ahead (row n) ≡ map number_of (operators_at n)
link_first n h = level_of n h (λ m. first_of units ahead (row m) ≡ map number_of (operators_at m)) refl refl refl refl refl refl

chain_good : (n : ℕ) → n < 6 → IsTrue (is_plain (seq (next n) (many (row n))))
chain_good n h = level_of n h (λ m. IsTrue (is_plain (seq (next m) (many (row m))))) refl refl refl refl refl refl

chain_at : (n : ℕ) → n < 6 → (ts r : List Token) (v : Begun) → Reads units (chain (next n) (operators_at n)) ts v r → Reads units (part_at n) ts v r
chain_at n h ts r v a = level_of n h (λ m. Reads units (chain (next m) (operators_at m)) ts v r → Reads units (part_at m) ts v r)
    (named or ts r v) (named and ts r v) (named eq ts r v) (named rel ts r v) (named add ts r v) (named mul ts r v) a

chain_not_at : (n : ℕ) → n < 6 → (ts r : List Token) → Fails units (chain (next n) (operators_at n)) ts r → Fails units (part_at n) ts r
chain_not_at n h ts r a = level_of n h (λ m. Fails units (chain (next m) (operators_at m)) ts r → Fails units (part_at m) ts r)
    (named_not or ts r) (named_not and ts r) (named_not eq ts r) (named_not rel ts r) (named_not add ts r) (named_not mul ts r) a

-- a fault at one level is one at each that binds less
pub falls : (d n : ℕ) → n + d ≤ 6 → (ts r : List Token) → Fails units (part_at (n + d)) ts r → Fails units (part_at n) ts r
falls zero n h ts r a = let e : n + 0 ≡ n = omega arith in subst (λ m. Fails units (part_at m) ts r) e a
falls (suc d) n h ts r a =
    let e : n + suc d ≡ (n + 1) + d = omega arith in
    let i = falls d (n + 1) (omega arith) ts r (subst (λ m. Fails units (part_at m) ts r) e a) in
    chain_not_at n (omega arith) ts r (chain_no_left (next n) (operators_at n) (chain_good n (omega arith)) ts r i)

pub falls_to : (n m : ℕ) → n ≤ m → m ≤ 6 → (ts r : List Token) → Fails units (part_at m) ts r → Fails units (part_at n) ts r
falls_to n m h i ts r a = let e : m ≡ n + (m - n) = omega arith in falls (m - n) n (omega arith) ts r (subst (λ x. Fails units (part_at x) ts r) e a)

pub level_reads : (n : ℕ) → n < 6 → (ts r1 r : List Token) (left v : Begun) → Reads units (part_at (n + 1)) ts left r1 → Reads units (give (b.joined left) (many (link (part_at (n + 1)) (operators_at n)))) r1 v r → Reads units (part_at n) ts v r
level_reads n h ts r1 r left v a c = chain_at n h ts r v (chain_reads (next n) (operators_at n) (chain_good n h) ts r1 r left v a c)

pub level_fails : (n : ℕ) → n < 6 → (ts r1 r : List Token) (left : Begun) → Reads units (part_at (n + 1)) ts left r1 → Fails units (give (b.joined left) (many (link (part_at (n + 1)) (operators_at n)))) r1 r → Fails units (part_at n) ts r
level_fails n h ts r1 r left a c = chain_not_at n h ts r (chain_no_right (next n) (operators_at n) (chain_good n h) ts r1 r left a c)

-- the operators of a level that are read so far
abbrev pub LinksSoFar : ℕ → Begun → Begun → List Token → List Token → Type 0
LinksSoFar n left so_far ts rest = SoFar units (give (b.joined left) (many (link (part_at (n + 1)) (operators_at n)))) (link (part_at (n + 1)) (operators_at n)) (b.joined so_far) ts rest

pub at_start : (n : ℕ) (left : Begun) → n < 6 → (ts : List Token) → LinksSoFar n left left ts ts
at_start n left h ts = links_start (next n) (operators_at n) left (links_good n h) (link_good n h) (link_first n h) ts

pub at_step : (n : ℕ) (left : Begun) → n < 6 → (ts rest us r : List Token) (so_far right v : Begun) (op : Token) → LinksSoFar n left so_far ts rest → Took (operators_at n) rest op us → Reads units (part_at (n + 1)) us right r → v ≡ b.operated so_far op right → LinksSoFar n left v ts r
at_step n left h ts rest us r so_far right v op s e a i = links_step (next n) (operators_at n) left (links_good n h) (link_good n h) (link_first n h) ts rest us r so_far right v op s e a i

pub at_end : (n : ℕ) (left : Begun) → n < 6 → (ts rest us : List Token) (so_far : Begun) → LinksSoFar n left so_far ts rest → Eats (operators_at n) rest None us → Reads units (give (b.joined left) (many (link (part_at (n + 1)) (operators_at n)))) ts so_far us
at_end n left h ts rest us so_far s e = links_end (next n) (operators_at n) left (links_good n h) (link_good n h) (link_first n h) ts rest us so_far s e

pub at_fault : (n : ℕ) (left : Begun) → n < 6 → (ts rest us r : List Token) (so_far : Begun) (op : Token) → LinksSoFar n left so_far ts rest → Took (operators_at n) rest op us → length r ≤ length us → Fails units (part_at (n + 1)) us r → Fails units (give (b.joined left) (many (link (part_at (n + 1)) (operators_at n)))) ts r
at_fault n left h ts rest us r so_far op s e i a = links_fail (next n) (operators_at n) left (links_good n h) (link_good n h) (link_first n h) ts rest us r so_far op s e i a

-- ---- one level after another, from the tightest on

lower : (at : ℕ) → 0 < at → (at - 1) + 1 ≡ at
lower at h = omega (arith, h)

pub step_reads : (at : ℕ) → 0 < at → at ≤ 6 → (ts r1 r : List Token) (left v : Begun) → Reads units (part_at at) ts left r1 → Reads units (give (b.joined left) (many (link (part_at ((at - 1) + 1)) (operators_at (at - 1))))) r1 v r → Reads units (part_at (at - 1)) ts v r
step_reads at p h ts r1 r left v a c = level_reads (at - 1) (omega (arith, p, h)) ts r1 r left v (subst (λ m. Reads units (part_at m) ts left r1) (sym (lower at p)) a) c

pub step_fails : (level at : ℕ) → level < at → at ≤ 6 → (ts r1 r : List Token) (left : Begun) → Reads units (part_at at) ts left r1 → Fails units (give (b.joined left) (many (link (part_at ((at - 1) + 1)) (operators_at (at - 1))))) r1 r → Fails units (part_at level) ts r
step_fails level at p h ts r1 r left a c =
    let q : 0 < at = omega (arith, p) in
    falls_to level (at - 1) (omega (arith, p)) (omega (arith, h)) ts r
    (level_fails (at - 1) (omega (arith, q, h)) ts r1 r left (subst (λ m. Reads units (part_at m) ts left r1) (sym (lower at q)) a) c)

pub at_level : (level at : ℕ) → at ≤ level → level ≤ at → (ts r : List Token) (v : Begun) → Reads units (part_at at) ts v r → Reads units (part_at level) ts v r
at_level level at h i ts r v a = let e : at ≡ level = omega (arith, h, i) in subst (λ m. Reads units (part_at m) ts v r) e a

-- ---- the same symbols by another name

pub took_as : (symbols others : List Symbol) (ts us : List Token) (x : Token) → symbols ≡ others → Took symbols ts x us → Took others ts x us
took_as symbols others ts us x e h = subst (λ s. Took s ts x us) e h

pub none_as : (symbols others : List Symbol) (ts us : List Token) → symbols ≡ others → Eats symbols ts None us → Eats others ts None us
none_as symbols others ts us e h = subst (λ s. Eats s ts None us) e h
