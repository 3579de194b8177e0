-- A move, by the statement or the way on that stands first.
use Rattle.std.proofs.Math.Seq.{take-length}
use Rattle.std.proofs.Common.{◌≡◌, ◌-◌, ◌<◌, ◌≤◌, List, [], ◌∷◌, length, get_or, take, drop, ap₂, Result, Ok, Err, refl, sym, ap, ◌∙◌, subst, arith}
use Rattle.std.specs.Prelude.{IfOk}
use Rattle.std.specs.declared.alloc.AllocError.{AllocError}
use Rattle.mm_base.specs.World.{World}
use Rattle.mm_c.specs.Memory as c
use Rattle.mm_c.specs.CMeaning.{Stuck, Next}
use Rattle.mm_c_placed.specs.declared.tree.Local.{Local}
use Rattle.mm_c_placed.specs.declared.tree.PlacedStmt.{PlacedStmt}
use Rattle.mm_c_placed.specs.Tree.{Stmt, locals, forever, Code, done, do_then, Program}
use Rattle.mm_c_placed.specs.View.{stmt_view, code_view}
use Rattle.mm_c_memory.specs.declared.memory.Memory.{Memory}
use Rattle.mm_c_memory.specs.Held.{Holds}
use Rattle.mm_c_machine.specs.Answers.{state}
use Rattle.mm_c_machine.specs.Frames.{with_zeros}
use Rattle.mm_c_machine.specs.State.{Level, Piece, rest, loop, At, code, leaves, Core, with_at, with_piece, with_level, with_values, at_view, store_of}
use Rattle.mm_c_machine.specs.Ready.{IsReadyCore}
use Rattle.mm_c_machine.specs.Goes.{GoesFurther, Ends, Goes}
use Rattle.mm_c_machine.specs.Goes as goes
use Rattle.mm_c_machine.specs.declared.machine.Here.{Here}
use Rattle.mm_c_machine.specs.declared.machine.Here.TheVariants as here
use Rattle.mm_c_machine.specs.declared.machine.Went.{Went}
use Rattle.mm_c_machine.specs.declared.machine.Went.TheVariants as went
use Rattle.mm_c_machine.specs.declared.machine.Ending.TheVariants as ending
use Rattle.mm_c_machine.proofs.Moves.{core, as_before, follows_stops, locals_go, loop_goes}

module _ (p : Program) (s : Core) (m : List c.Block) (w : World) (st : Stmt) (more : Code) where
  abbrev first : Core
  first = with_at s (code (do_then st more))

  pub cleared_at : (xs : List Local) (s' : Core) (held held' : Memory) → st ≡ locals xs → s' ≡ with_at (with_level s (with_values s.level (with_zeros xs s.level.values))) (code more) → Holds m held → held' ≡ held → IsReadyCore first → GoesFurther p first m w s' held' w
  cleared_at xs s' held held' e to holds kept h =
      subst (λ q. GoesFurther p first m w q held' w) (sym to)
      (subst (λ q. GoesFurther p (with_at s (code (do_then q more))) m w (with_at (with_level s (with_values s.level (with_zeros xs s.level.values))) (code more)) held' w) (sym e)
      (locals_go p s.level s.pieces m w xs more held' (subst (Holds m) (sym kept) holds) (subst (λ q. IsReadyCore (with_at s (code (do_then q more)))) e h)))

  pub begun_at : (b : Code) (s' : Core) (held held' : Memory) → st ≡ forever b → s' ≡ with_at (with_piece (with_piece s (rest more)) (loop b)) (code b) → Holds m held → held' ≡ held → IsReadyCore first → goes.Steps p first m w s' held' w
  begun_at b s' held held' e to holds kept h =
      subst (λ q. goes.Steps p first m w q held' w) (sym to)
      (subst (λ q. goes.Steps p (with_at s (code (do_then q more))) m w (with_at (with_piece (with_piece s (rest more)) (loop b)) (code b)) held' w) (sym e)
      (loop_goes p s.level s.pieces m w b more held' (subst (Holds m) (sym kept) holds) (subst (λ q. IsReadyCore (with_at s (code (do_then q more)))) e h)))

-- ---- the end of code

done_goes : (p : Program) (went : Went) (l : Level) (ps : List Piece) (m : List c.Block) (w : World) (s' : Core) (held : Memory) (w' : World) → Goes p went (core (leaves Next) l ps) m w s' held w' → Goes p went (core (code done) l ps) m w s' held w'
done_goes p went.On l ps m w s' held w' h = record { to = h.to; holds = h.holds; same = h.same; less = h.less; ready = h.ready; grows = h.grows }
done_goes p went.Stepped l ps m w s' held w' h = record { to = h.to; holds = h.holds; same = h.same; spent = h.spent; ready = h.ready; grows = h.grows }
done_goes p (went.Over (ending.Returned v)) l ps m w s' held w' h = record { same = h.same; grows = h.grows }
done_goes p (went.Over (ending.Trapped t)) l ps m w s' held w' h = record { same = h.same; grows = h.grows }
done_goes p (went.Over ending.Stuck) l ps m w s' held w' h = record { same = h.same; grows = h.grows }

pub nothing : (ss : List PlacedStmt) → length ss < 1 → code (code_view ss) ≡ code done
nothing [] short = refl
nothing (s ∷ ss) short = absurd (let x : ⊥ = omega arith in x)

-- the first statement of some code, and those behind it
pub front_of : (ss : List PlacedStmt) (s : PlacedStmt) → 1 ≤ length ss → s ≡ get_or ss 0 s → code_view ss ≡ do_then (stmt_view s) (code_view (take (length ss - 1) (drop 1 ss)))
front_of [] s some is = absurd (let x : ⊥ = omega (arith, some) in x)
front_of (x ∷ ss) s some is =
    let n : length ss ≡ length (x ∷ ss) - 1 = omega arith in
    ap₂ (λ q r. do_then (stmt_view q) (code_view r)) (sym is) (sym (take-length ss) ∙ ap (λ n. take n ss) n)

pub done_arrives : (p : Program) (a : At) (l : Level) (ps : List Piece) (held held' : Memory) (w : World) (s' : Core) (result : Result Went AllocError) → a ≡ code done →
    IfOk result (λ went. (q : Program) (m : List c.Block) (u : World) → Holds m held → Goes q went (core (leaves Next) l ps) m u s' held' u) → IfOk result (λ went. (m : List c.Block) → Holds m held → Goes p went (core a l ps) m w s' held' w)
done_arrives p a l ps held held' w s' (Ok went) e is = λ m holds. subst (λ q. Goes p went (core q l ps) m w s' held' w) (sym e) (done_goes p went l ps m w s' held' w (is p m w holds))
done_arrives p a l ps held held' w s' (Err x) e is = tt

pub stuck_here : (p : Program) (h : Here) (l : Level) (ps : List Piece) (m : List c.Block) (w : World) → h ≡ here.Stuck → Ends p ending.Stuck (core (at_view h) l ps) m w w
stuck_here p h l ps m w e = subst (λ q. Ends p ending.Stuck (core (at_view q) l ps) m w w) (sym e) (record { same = λ k. (m, follows_stops p l.result l.is_inline ps Stuck (store_of l (state m w))); grows = as_before w })
