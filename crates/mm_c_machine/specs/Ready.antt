-- Each place that is named lies in its frame; and how much is left to do before the next step.
use Rattle.std.specs.Prelude.{ℕ, ◌+◌, Bool, true, false, List, [], ◌∷◌, length}
use Rattle.mm_c_placed.specs.Tree.{Stmt, locals, assign, store, run, if_else, forever, break, continue, leave, return, Code, done, do_then, Function, Program}
use Rattle.mm_c_placed.specs.Ready.{IsIn, IsInResult}
use Rattle.mm_c_machine.specs.State.{Piece, rest, loop, ret, At, code, leaves, no_way, Core}

abbrev pub IsInAt : ℕ → At → Type 0
IsInAt n (code c) = IsIn n c
IsInAt n (leaves f) = Unit {0}
IsInAt n no_way = Unit {0}

abbrev pub AreReady : ℕ → List Piece → Type 0
AreReady n [] = Unit {0}
AreReady n (rest c ∷ ps) = IsIn n c × AreReady n ps
AreReady n (loop c ∷ ps) = IsIn n c × AreReady n ps
AreReady n (ret x l c ∷ ps) = IsInResult (length l.values) x × IsIn (length l.values) c × AreReady (length l.values) ps

pub record IsReadyCore (s : Core) : Type 0 where
  pub here : IsInAt (length s.level.values) s.at
  pub after : AreReady (length s.level.values) s.pieces

-- What is left to do within a step. A loop and the call of a function that isn't inline take one, so what is behind
-- them doesn't count; b is a bound on what the body of an inline function does.
abbrev mutual
  pub size_of : ℕ → Stmt → ℕ
  size_of b (locals xs) = 1
  size_of b (assign x r) = 1
  size_of b (store c p a) = 1
  size_of b (run x f as_) = 3 + b
  size_of b (if_else a c d) = 4 + size b c + size b d
  size_of b (forever c) = 1
  size_of b break = 1
  size_of b continue = 1
  size_of b leave = 1
  size_of b (return a) = 1

  pub size : ℕ → Code → ℕ
  size b done = 0
  size b (do_then s more) = size_of b s + size b more

-- An inline function enters no other.
abbrev pub sum_sizes : List Function → ℕ
sum_sizes [] = 0
sum_sizes (f ∷ fs) = size 0 f.body + sum_sizes fs

abbrev pub most_in : Program → Bool → ℕ
most_in p true = 0
most_in p false = sum_sizes p.functions

abbrev pub weight_at : ℕ → At → ℕ
weight_at b (code c) = size b c
weight_at b (leaves f) = 0
weight_at b no_way = 0

abbrev pub weight_after : Program → Bool → List Piece → ℕ
weight_after p i [] = 0
weight_after p i (rest c ∷ ps) = 2 + size (most_in p i) c + weight_after p i ps
weight_after p i (loop c ∷ ps) = 1 + weight_after p i ps
weight_after p i (ret x l c ∷ ps) = 2 + size (most_in p l.is_inline) c + weight_after p l.is_inline ps

abbrev pub weight : Program → Core → ℕ
weight p s = weight_at (most_in p s.level.is_inline) s.at + weight_after p s.level.is_inline s.pieces
