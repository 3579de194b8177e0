-- A run that came to its end stays as it is at higher bounds, and one that goes on has put a front of what is put later. (Own.)
use Rattle.std.specs.Prelude.{◌≡◌, ◌⊎◌, ℕ, suc, ℤ, List}
use Rattle.mm_meaning.specs.Run.{then}
use Rattle.mm_meaning.specs.Same.{IsFront}
use Rattle.mm_c.specs.declared.value.CValue.{CValue}
use Rattle.mm_c.specs.Tree.{Block, forever, Function, Program}
use Rattle.mm_c.specs.CMeaning.{State, Store, around_all, now, enter, flow_of, flow_in, next_turn}
use Rattle.mm_c.specs.CRun.{Outcome, GoesOn, c_run}

-- nothing that was put is taken back
pub record Before (s t : State) : Type 0 where
  pub put : IsFront s.world.put t.world.put

-- a run, and the one with one step more in the bound
abbrev pub SettlesAt : Outcome → Outcome → Type 0
SettlesAt o o' = (o' ≡ o) ⊎ ((o.finish ≡ GoesOn) × IsFront o.put o'.put)

abbrev pub Settles : Type 0
Settles = (p : Program) (input : List ℤ) (n : ℕ) → SettlesAt (c_run p input n) (c_run p input (suc n))

-- Calls as deep as the clock allows: a call is a step, and then the body among such calls.
abbrev pub CallsStep : Type 0
CallsStep = (p : Program) (f : Function) (vs : List CValue) (w : State) (k : ℕ) → now p f vs w (suc k) ≡ enter (around_all p (now p)) f vs w k

-- A loop is a step, its block, and the loop again.
abbrev pub LoopsStep : Type 0
LoopsStep = (p : Program) (b : Block) (s : Store) (k : ℕ) →
    flow_of (around_all p (now p)) (forever b) s (suc k)
    ≡ (then) (flow_in (around_all p (now p)) b s k) (λ flow. next_turn flow (flow_of (around_all p (now p)) (forever b)))
