-- Depth and turns past the clock change nothing, so that a run takes its steps one by one. (Own.)
use Rattle.std.specs.Prelude.{◌≡◌, ℕ, suc, Bool, List, []}
use Rattle.mm_meaning.specs.Run.{then}
use Rattle.mm_c.specs.declared.value.CValue.{CValue}
use Rattle.mm_c.specs.CMeaning.{State}
use Rattle.mm_c_placed.specs.declared.tree.Callee.TheVariants as callee_is
use Rattle.mm_c_placed.specs.Tree.{Code, forever, Function, Program}
use Rattle.mm_c_placed.specs.Meaning.{Store, around_all, around_in, all_calls, now, enter, flow_of, flows_of, next_turn, run_of}

-- Calls as deep as the clock allows: a call is a step, and then the body among such calls.
abbrev pub CallsStep : Type 0
CallsStep = (p : Program) (f : Function) (vs : List CValue) (w : State) (k : ℕ) → now p f vs w (suc k) ≡ enter (around_all p (now p)) f vs w k

-- A loop is a step, its block, and the loop again, in inline functions and in others.
abbrev pub LoopsStep : Type 0
LoopsStep = (p : Program) (is_inline : Bool) (b : Code) (s : Store) (k : ℕ) →
    flow_of (around_in p (now p) is_inline) (forever b) s (suc k)
    ≡ (then) (flows_of (around_in p (now p) is_inline) b s k) (λ flow. next_turn flow (flow_of (around_in p (now p) is_inline) (forever b)))

-- The run of a program is that among calls as deep as the clock allows.
abbrev pub RunsAsDeep : Type 0
RunsAsDeep = (p : Program) (w : State) (n : ℕ) → run_of p n w ≡ all_calls p (now p) (callee_is.Function p.main) [] w n
