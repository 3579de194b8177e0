-- What was put stays, whatever is called.
use Rattle.std.proofs.Common.{◌≡◌, ℕ, zero, suc, List, [], ◌∷◌, ◌++◌, Option, Some, None, refl, sym, ap, ◌∙◌, subst, append_assoc}
use Rattle.std.specs.Prelude.{ℤ, pos, negsuc, Bool, true, false, if◌then◌else◌, slice_get, ◌&&◌, nat_lt}
use Rattle.std.proofs.lemmas.List.{append-nil}
use Rattle.mm_base.specs.World.{World, call_builtin, got}
use Rattle.mm_base.specs.declared.world.Builtin.{Builtin}
use Rattle.mm_base.specs.declared.world.Builtin.TheVariants.{Put, Get, More}
use Rattle.mm_meaning.specs.Run.{Run, Gives, Stops, stop}
use Rattle.mm_c.specs.declared.value.CValue.{CValue}
use Rattle.mm_c.specs.declared.value.CValue.TheVariants.{Int, Unsigned, Long, Null, At}
use Rattle.mm_c.specs.Memory as c
use Rattle.mm_c.specs.CMeaning.{Stop, State, Trapped, stuck, Given, asks, traps, allocates, given_call, ask, answered, trap, allocate, ints_in}
use Rattle.mm_c_machine.specs.Answers.{state}
use Rattle.mm_c_machine.specs.Goes.{Grows}
use Rattle.mm_c_machine.proofs.Moves.{as_before}

pub grows_more : (a b d : World) → Grows a b → Grows b d → Grows a d
grows_more a b d g h = record {
  input = h.input ∙ g.input;
  put = (g.put.0 ++ h.put.0, h.put.1 ∙ ap (λ q. q ++ h.put.0) g.put.1 ∙ append_assoc a.put g.put.0 h.put.0);
}

-- the world of a run that gives something
abbrev world_in : Run Stop State (Option CValue) → World → World
world_in (Gives v s k) w = s.world
world_in (Stops t s) w = w

grows_got : (w : World) (o : Option ℤ) (m : List c.Block) (k : ℕ) → Grows w (world_in (answered (got w o) (state m w) k) w)
grows_got w None m k = as_before w
grows_got w (Some n) m k = record { input = refl; put = ([], sym (append-nil w.put)) }

grows_ask : (b : Builtin) (zs : List ℤ) (m : List c.Block) (w : World) (k : ℕ) → Grows w (world_in (answered (call_builtin b zs w) (state m w) k) w)
grows_ask Put [] m w k = as_before w
grows_ask Put (n ∷ ns) m w k = record { input = refl; put = (n ∷ [], refl) }
grows_ask Get ns m w k = grows_got w (slice_get w.input w.taken) m k
grows_ask More ns m w k = as_before w

grows_trap : (b : Bool) (n : ℕ) (m : List c.Block) (w : World) (k : ℕ) → Grows w (world_in ((if b then stop (Trapped n) else stuck) (state m w) k) w)
grows_trap true n m w k = as_before w
grows_trap false n m w k = as_before w

grows_trapped : (o : Option (List ℤ)) (m : List c.Block) (w : World) (k : ℕ) → Grows w (world_in (trap o (state m w) k) w)
grows_trapped None m w k = as_before w
grows_trapped (Some []) m w k = as_before w
grows_trapped (Some (pos n ∷ [])) m w k = grows_trap (nat_lt 0 n && nat_lt n 256) n m w k
grows_trapped (Some (negsuc n ∷ [])) m w k = as_before w
grows_trapped (Some (pos n ∷ y ∷ ys)) m w k = as_before w
grows_trapped (Some (negsuc n ∷ y ∷ ys)) m w k = as_before w

grows_new : (vs : List CValue) (m : List c.Block) (w : World) (k : ℕ) → Grows w (world_in (allocate vs (state m w) k) w)
grows_new [] m w k = as_before w
grows_new (Unsigned zero ∷ []) m w k = as_before w
grows_new (Unsigned (suc n) ∷ []) m w k = as_before w
grows_new (Int z ∷ []) m w k = as_before w
grows_new (Long z ∷ []) m w k = as_before w
grows_new (Null ∷ []) m w k = as_before w
grows_new (At b o ∷ []) m w k = as_before w
grows_new (Unsigned zero ∷ v ∷ vs) m w k = as_before w
grows_new (Unsigned (suc n) ∷ v ∷ vs) m w k = as_before w
grows_new (Int z ∷ v ∷ vs) m w k = as_before w
grows_new (Long z ∷ v ∷ vs) m w k = as_before w
grows_new (Null ∷ v ∷ vs) m w k = as_before w
grows_new (At b o ∷ v ∷ vs) m w k = as_before w

grows_asked : (b : Builtin) (o : Option (List ℤ)) (m : List c.Block) (w : World) (k : ℕ) → Grows w (world_in (ask b o (state m w) k) w)
grows_asked b None m w k = as_before w
grows_asked b (Some zs) m w k = grows_ask b zs m w k

grows_in : (g : Given) (vs : List CValue) (m : List c.Block) (w : World) (k : ℕ) → Grows w (world_in (given_call g vs (state m w) k) w)
grows_in (asks b) vs m w k = grows_asked b (ints_in vs) m w k
grows_in traps vs m w k = grows_trapped (ints_in vs) m w k
grows_in allocates vs m w k = grows_new vs m w k

pub given_grows : (g : Given) (vs : List CValue) (m m' : List c.Block) (w w' : World) (v : Option CValue) (k : ℕ) → given_call g vs (state m w) k ≡ Gives v (state m' w') k → Grows w w'
given_grows g vs m m' w w' v k e = subst (λ r. Grows w (world_in r w)) e (grows_in g vs m w k)
