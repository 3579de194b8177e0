-- Moves without a step, one after another.
use Rattle.std.proofs.Common.{◌≡◌, ℕ, zero, suc, List, [], ◌∷◌, ◌++◌, length, take, get_or, Result, Ok, Err, refl, sym, ap, subst, ◌∙◌, arith}
use Rattle.std.specs.Prelude.{IfOk}
use Rattle.std.specs.declared.alloc.AllocError.{AllocError}
use Rattle.mm_base.specs.World.{World, world_of}
use Rattle.mm_c.specs.Memory as c
use Rattle.mm_c.specs.CMeaning.{Spent}
use Rattle.mm_c_placed.specs.Tree.{Program}
use Rattle.mm_c_memory.specs.declared.memory.Memory.{Memory}
use Rattle.mm_c_memory.specs.Held.{Holds}
use Rattle.mm_c_machine.specs.State.{Core}
use Rattle.mm_c_machine.specs.Ready.{IsReadyCore}
use Rattle.mm_c_machine.specs.declared.machine.Went.{Went}
use Rattle.mm_c_machine.specs.declared.machine.Went.TheVariants as went
use Rattle.mm_c_machine.specs.Goes.{GoesFurther, Goes, HasEnd, HasStop, Walks}

-- what is kept between the moves
pub record OnWalk (p : Program) (s : Core) (held0 : Memory) (s' : Core) (held : Memory) : Type 0 where
  pub walks : (m : List c.Block) (w : World) → Holds m held0 → Walks p s m w s' held
  pub some : (m : List c.Block) × Holds m held
  pub ready : IsReadyCore s'

pub walk_start : (p : Program) (s : Core) (held : Memory) → IsReadyCore s → (m : List c.Block) × Holds m held → OnWalk p s held s held
walk_start p s held h some = record {
  walks = λ m w holds. record { to = m; holds = holds; same = λ k. refl; less = omega arith; ready = h };
  some = some;
  ready = h;
}

pub walk_more : (p : Program) (s s1 s2 : Core) (held held1 held2 : Memory) → OnWalk p s held s1 held1 → ((m : List c.Block) (w : World) → Holds m held1 → GoesFurther p s1 m w s2 held2 w) → OnWalk p s held s2 held2
walk_more p s s1 s2 held held1 held2 h g =
    let here = g h.some.0 (world_of []) h.some.1 in
    record {
      walks = λ m w holds.
          (let a = h.walks m w holds in
          let b = g a.to w a.holds in
          record { to = b.to; holds = b.holds; same = λ k. a.same k ∙ b.same k; less = let x = a.less in let y = b.less in omega (arith, x, y); ready = b.ready });
      some = (here.to, here.holds);
      ready = here.ready;
    }

-- where no move was made, all is as before
pub walk_end : (p : Program) (s s1 s2 : Core) (held held1 held2 : Memory) → OnWalk p s held s1 held1 → s2 ≡ s1 → held2 ≡ held1 → (m : List c.Block) (w : World) → Holds m held → Walks p s m w s2 held2
walk_end p s s1 s2 held held1 held2 h e kept m w holds =
    subst (λ q. Walks p s m w q held2) (sym e) (subst (λ q. Walks p s m w s1 q) (sym kept) (h.walks m w holds))

walk_goes : (p : Program) (went : Went) (s s1 s2 : Core) (m : List c.Block) (held held1 held2 : Memory) (w w2 : World) → Walks p s m w s1 held1 → ((m : List c.Block) → Holds m held1 → Goes p went s1 m w s2 held2 w2) → Goes p went s m w s2 held2 w2
walk_goes p went.On s s1 s2 m held held1 held2 w w2 a g =
    let b = g a.to a.holds in
    record { to = b.to; holds = b.holds; same = λ k. a.same k ∙ b.same k; less = let x = a.less in let y = b.less in omega (arith, x, y); ready = b.ready; grows = b.grows }
walk_goes p went.Stepped s s1 s2 m held held1 held2 w w2 a g =
    let b = g a.to a.holds in
    record { to = b.to; holds = b.holds; same = λ k. a.same (suc k) ∙ b.same k; spent = subst (HasStop Spent w2) (sym (a.same 0)) b.spent; ready = b.ready; grows = b.grows }
walk_goes p (went.Over e) s s1 s2 m held held1 held2 w w2 a g =
    let b = g a.to a.holds in
    record { same = λ k. subst (HasEnd e w2) (sym (a.same k)) (b.same k); grows = b.grows }

-- the moves, and one behind them
pub walked : (p : Program) (s s1 s2 : Core) (held held1 held2 : Memory) (w w2 : World) (result : Result Went AllocError) → ((m : List c.Block) (w : World) → Holds m held → Walks p s m w s1 held1) →
    IfOk result (λ went. (m : List c.Block) → Holds m held1 → Goes p went s1 m w s2 held2 w2) → IfOk result (λ went. (m : List c.Block) → Holds m held → Goes p went s m w s2 held2 w2)
walked p s s1 s2 held held1 held2 w w2 (Ok went) a g = λ m holds. walk_goes p went s s1 s2 m held held1 held2 w w2 (a m w holds) g
walked p s s1 s2 held held1 held2 w w2 (Err e) a g = tt

-- ---- the stack

-- all of a list, by its last item
pub last_split : {A : Type 0} (xs : List A) (n : ℕ) (x : A) → length xs ≡ suc n → x ≡ get_or xs n x → xs ≡ take n xs ++ x ∷ []
last_split [] n x e is = cc
last_split (y ∷ []) zero x e is = ap (λ q. q ∷ []) (sym is)
last_split (y ∷ z ∷ xs) zero x e is = absurd (let b : ⊥ = omega (arith, e) in b)
last_split (y ∷ xs) (suc n) x e is = ap (λ q. y ∷ q) (last_split xs n x (omega (arith, e)) is)
