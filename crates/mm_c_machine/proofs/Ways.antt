-- Many moves, and many steps.
use Rattle.std.proofs.Common.{◌≡◌, ℕ, suc, List, subst, refl, sym, ◌∙◌}
use Rattle.mm_base.specs.World.{World}
use Rattle.mm_c.specs.Memory as c
use Rattle.mm_c.specs.CMeaning.{Spent}
use Rattle.mm_c_placed.specs.Tree.{Program}
use Rattle.mm_c_memory.specs.declared.memory.Memory.{Memory}
use Rattle.mm_c_memory.specs.Held.{Holds}
use Rattle.mm_c_machine.specs.Answers.{state}
use Rattle.mm_c_machine.specs.State.{Core}
use Rattle.mm_c_machine.specs.Ready.{IsReadyCore}
use Rattle.mm_c_machine.specs.declared.machine.Ending.{Ending}
use Rattle.mm_c_machine.specs.Goes.{means, Grows, GoesFurther, Steps, Ends, HasEnd, HasStop}
use Rattle.mm_c_machine.proofs.Moves.{as_before}
use Rattle.mm_c_machine.proofs.Growth.{grows_more}

-- moves without a step
pub record Way (p : Program) (s : Core) (m : List c.Block) (w : World) (s' : Core) (held : Memory) (w' : World) : Type 0 where
  pub to : List c.Block
  pub holds : Holds to held
  pub same : (k : ℕ) → means p s (state m w) k ≡ means p s' (state to w') k

-- what is kept while no step is taken
pub record OnWay (p : Program) (s : Core) (held0 : Memory) (w : World) (s' : Core) (held : Memory) (w' : World) : Type 0 where
  pub way : (m : List c.Block) → Holds m held0 → Way p s m w s' held w'
  pub some : (m : List c.Block) × Holds m held
  pub ready : IsReadyCore s'
  pub grows : Grows w w'

pub way_start : (p : Program) (s : Core) (held : Memory) (w : World) → IsReadyCore s → (m : List c.Block) × Holds m held → OnWay p s held w s held w
way_start p s held w h some = record { way = λ m holds. record { to = m; holds = holds; same = λ k. refl }; some = some; ready = h; grows = as_before w }

pub way_more : (p : Program) (s s1 s2 : Core) (held held1 held2 : Memory) (w w1 w2 : World) → OnWay p s held w s1 held1 w1 → ((m : List c.Block) → Holds m held1 → GoesFurther p s1 m w1 s2 held2 w2) → OnWay p s held w s2 held2 w2
way_more p s s1 s2 held held1 held2 w w1 w2 h g =
    let here = g h.some.0 h.some.1 in
    record {
      way = λ m holds. (let a = h.way m holds in let b = g a.to a.holds in record { to = b.to; holds = b.holds; same = λ k. a.same k ∙ b.same k });
      some = (here.to, here.holds);
      ready = here.ready;
      grows = grows_more w w1 w2 h.grows here.grows;
    }

pub way_steps : (p : Program) (s s1 s2 : Core) (held held1 held2 : Memory) (w w1 w2 : World) → OnWay p s held w s1 held1 w1 → ((m : List c.Block) → Holds m held1 → Steps p s1 m w1 s2 held2 w2) → (m : List c.Block) → Holds m held → Steps p s m w s2 held2 w2
way_steps p s s1 s2 held held1 held2 w w1 w2 h g m holds =
    let a = h.way m holds in
    let b = g a.to a.holds in
    record { to = b.to; holds = b.holds; same = λ k. a.same (suc k) ∙ b.same k; spent = subst (HasStop Spent w2) (sym (a.same 0)) b.spent; ready = b.ready; grows = grows_more w w1 w2 h.grows b.grows }

pub way_ends : (p : Program) (e : Ending) (s s1 : Core) (held held1 : Memory) (w w1 w2 : World) → OnWay p s held w s1 held1 w1 → ((m : List c.Block) → Holds m held1 → Ends p e s1 m w1 w2) → (m : List c.Block) → Holds m held → Ends p e s m w w2
way_ends p e s s1 held held1 w w1 w2 h g m holds =
    let a = h.way m holds in
    let b = g a.to a.holds in
    record { same = λ k. subst (HasEnd e w2) (sym (a.same k)) (b.same k); grows = grows_more w w1 w2 h.grows b.grows }

-- what grew on the way, where memory was refused
pub way_refused : (p : Program) (s s1 : Core) (held held1 : Memory) (w w1 w2 : World) → OnWay p s held w s1 held1 w1 → w2 ≡ w1 → Grows w w2
way_refused p s s1 held held1 w w1 w2 h e = subst (Grows w) (sym e) h.grows
