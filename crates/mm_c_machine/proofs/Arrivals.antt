-- What a piece of the stack does with how the code before it went on.
use Rattle.std.proofs.Common.{◌≡◌, ◌≢◌, Bool, true, false, List, [], ◌∷◌, Option, Some, None, refl, sym, ap, ap₂, ◌∙◌, subst, ◌⊎◌, inl, inr, arith}
use Rattle.mm_base.specs.World.{World}
use Rattle.mm_meaning.specs.Run.{Run, then}
use Rattle.mm_c.specs.declared.value.CValue.{CValue}
use Rattle.mm_c.specs.Memory as c
use Rattle.mm_c.specs.CMeaning.{Stop, Stuck, State, or_stuck, left_by, fitted_in, Flow, Next, Broke, Returned}
use Rattle.mm_c_placed.specs.declared.tree.Local.{Local}
use Rattle.mm_c.specs.declared.value.CCell.{CCell}
use Rattle.mm_c_placed.specs.declared.tree.Address.{Address}
use Rattle.mm_c_placed.specs.declared.tree.Operand.{Operand}
use Rattle.mm_c_placed.specs.Tree.{Code, do_then, store, Program}
use Rattle.mm_c_placed.specs.Meaning.{start, operand_of, receive, flows_of}
use Rattle.mm_c_memory.specs.declared.memory.Memory.{Memory}
use Rattle.mm_c_memory.specs.Held.{Holds, Stores}
use Rattle.mm_c_machine.specs.Answers.{state}
use Rattle.mm_c_machine.specs.State.{Level, Piece, rest, loop, ret, At, code, leaves, Core, with_at, flow_view, store_of}
use Rattle.mm_c_machine.specs.Ready.{IsReadyCore}
use Rattle.mm_c_machine.specs.Goes.{follows, means, around, back, HasStop, GoesFurther, Ends, Received}
use Rattle.mm_c_machine.specs.Goes as goes
use Rattle.mm_c_machine.specs.declared.machine.Ending.TheVariants as ending
use Rattle.mm_c_machine.specs.declared.machine.Flow as m_
use Rattle.mm_c_machine.specs.declared.machine.Flow.TheVariants as flow
use Rattle.mm_c_machine.proofs.Moves.{core, as_before, turn_goes, again_goes, follows_stops, receive_same, receive_ready, receive_weight, receive_stuck, store_goes, store_stuck}

module _ (p : Program) (l : Level) (m : List c.Block) (w : World) where
  -- the bottom of the stack
  pub bottom_returns : (f : Flow) (v : Option CValue) → left_by l.result f ≡ or_stuck (Some v) → Ends p (ending.Returned v) (core (leaves f) l []) m w w
  bottom_returns f v e = record { same = λ k. (m, (k, ap (λ q. q (state m w) k) e)); grows = as_before w }

  pub bottom_stuck : (f : Flow) → left_by l.result f ≡ or_stuck None → Ends p ending.Stuck (core (leaves f) l []) m w w
  bottom_stuck f e = record { same = λ k. (m, ap (λ q. q (state m w) k) e); grows = as_before w }

  module _ (ps : List Piece) (held : Memory) (holds : Holds m held) where
    pub rest_goes : (d : Code) → IsReadyCore (core (leaves Next) l (rest d ∷ ps)) → GoesFurther p (core (leaves Next) l (rest d ∷ ps)) m w (core (code d) l ps) held w
    rest_goes d h = record { to = m; holds = holds; same = λ k. refl; less = omega arith; ready = record { here = h.after.0; after = h.after.1 }; grows = as_before w }

    pub rest_left : (f : m_.Flow) (d : Code) → f ≢ flow.Next → IsReadyCore (core (leaves (flow_view f)) l (rest d ∷ ps)) → GoesFurther p (core (leaves (flow_view f)) l (rest d ∷ ps)) m w (core (leaves (flow_view f)) l ps) held w
    rest_left flow.Next d n h = absurd (n refl)
    rest_left flow.Broke d n h = record { to = m; holds = holds; same = λ k. refl; less = omega arith; ready = record { here = tt; after = h.after.1 }; grows = as_before w }
    rest_left flow.Continued d n h = record { to = m; holds = holds; same = λ k. refl; less = omega arith; ready = record { here = tt; after = h.after.1 }; grows = as_before w }
    rest_left (flow.Returned v) d n h = record { to = m; holds = holds; same = λ k. refl; less = omega arith; ready = record { here = tt; after = h.after.1 }; grows = as_before w }

    pub loop_broken : (d : Code) → IsReadyCore (core (leaves Broke) l (loop d ∷ ps)) → GoesFurther p (core (leaves Broke) l (loop d ∷ ps)) m w (core (leaves Next) l ps) held w
    loop_broken d h = record { to = m; holds = holds; same = λ k. refl; less = omega arith; ready = record { here = tt; after = h.after.1 }; grows = as_before w }

    pub loop_returns : (v : Option CValue) (d : Code) → IsReadyCore (core (leaves (Returned v)) l (loop d ∷ ps)) → GoesFurther p (core (leaves (Returned v)) l (loop d ∷ ps)) m w (core (leaves (Returned v)) l ps) held w
    loop_returns v d h = record { to = m; holds = holds; same = λ k. refl; less = omega arith; ready = record { here = tt; after = h.after.1 }; grows = as_before w }

    pub loop_again : (f : m_.Flow) (d : Code) → (f ≡ flow.Next) ⊎ (f ≡ flow.Continued) → IsReadyCore (core (leaves (flow_view f)) l (loop d ∷ ps)) → goes.Steps p (core (leaves (flow_view f)) l (loop d ∷ ps)) m w (core (code d) l (loop d ∷ ps)) held w
    loop_again f d (inl e) h = subst (λ q. goes.Steps p (core (leaves (flow_view q)) l (loop d ∷ ps)) m w (core (code d) l (loop d ∷ ps)) held w) (sym e) (turn_goes p l ps m w d held holds (subst (λ q. IsReadyCore (core (leaves (flow_view q)) l (loop d ∷ ps))) e h))
    loop_again f d (inr e) h = subst (λ q. goes.Steps p (core (leaves (flow_view q)) l (loop d ∷ ps)) m w (core (code d) l (loop d ∷ ps)) held w) (sym e) (again_goes p l ps m w d held holds (subst (λ q. IsReadyCore (core (leaves (flow_view q)) l (loop d ∷ ps))) e h))

  -- ---- a function that was called is left

  module _ (ps : List Piece) (f : Flow) (x : Option Local) (g : Level) (d : Code) where
    abbrev at : Core
    at = core (leaves f) l (ret x g d ∷ ps)

    abbrev after : Run Stop State (Option CValue) → Run Stop State (Option CValue)
    after q = follows p g.result g.is_inline ps ((then) ((then) (back g q) (receive x)) (λ u. flows_of (around p g.is_inline) d))

    pub back_goes : (v : Option CValue) (a : At) (held : Memory) (s' : Core) → left_by l.result f ≡ or_stuck (Some v) → Holds m held → IsReadyCore at → Received true x v (core a g ps) d s' → GoesFurther p at m w s' held w
    back_goes v a held s' e holds h got = record {
      to = m;
      holds = holds;
      same = λ k. ap (λ q. after (q (state m w) k)) e ∙ receive_same p g ps a x v d s' got h.after.0 (state m w) k;
      less = let n = receive_weight p g ps a x v d s' got in omega (arith, n);
      ready = receive_ready p g ps a x v d s' got h.after.1 h.after.2;
      grows = as_before w;
    }

    pub back_stuck : left_by l.result f ≡ or_stuck None → Ends p ending.Stuck at m w w
    back_stuck e = record { same = λ k. (m, ap (λ q. after (q (state m w) k)) e ∙ follows_stops p g.result g.is_inline ps Stuck (store_of g (state m w))); grows = as_before w }

    pub back_lost : (v : Option CValue) (a : At) (s' : Core) → left_by l.result f ≡ or_stuck (Some v) → Received false x v (core a g ps) d s' → Ends p ending.Stuck at m w w
    back_lost v a s' e lost = record {
      same = λ k. (
        m,
        ap (λ q. after (q (state m w) k)) e
            ∙ ap (λ q. follows p g.result g.is_inline ps ((then) q (λ u. flows_of (around p g.is_inline) d))) (receive_stuck p g ps a x v d s' lost (store_of g (state m w)) k)
            ∙ follows_stops p g.result g.is_inline ps Stuck (store_of g (state m w)),
      );
      grows = as_before w;
    }

    pub back_goes_at : (v : Option CValue) (a : At) (held held' : Memory) (s0 s' : Core) (b : Bool) → left_by l.result f ≡ or_stuck (Some v) → Holds m held → held' ≡ held → IsReadyCore at → s0 ≡ core a g ps → Received b x v s0 d s' → b ≡ true → GoesFurther p at m w s' held' w
    back_goes_at v a held held' s0 s' b e holds kept h same got is_so =
        back_goes v a held' s' e (subst (Holds m) (sym kept) holds) h (subst (λ s. Received true x v s d s') same (subst (λ b. Received b x v s0 d s') is_so got))

    pub back_lost_at : (v : Option CValue) (a : At) (s0 s' : Core) (b : Bool) → left_by l.result f ≡ or_stuck (Some v) → s0 ≡ core a g ps → Received b x v s0 d s' → b ≡ false → Ends p ending.Stuck at m w w
    back_lost_at v a s0 s' b e same got is_so = back_lost v a s' e (subst (λ s. Received false x v s d s') same (subst (λ b. Received b x v s0 d s') is_so got))

  pub bottom_returns_at : (f : Flow) (v : Option CValue) (ps : List Piece) → ps ≡ [] → left_by l.result f ≡ or_stuck (Some v) → Ends p (ending.Returned v) (core (leaves f) l ps) m w w
  bottom_returns_at f v ps none e = subst (λ q. Ends p (ending.Returned v) (core (leaves f) l q) m w w) (sym none) (bottom_returns f v e)

  pub bottom_stuck_at : (f : Flow) (ps : List Piece) → ps ≡ [] → left_by l.result f ≡ or_stuck None → Ends p ending.Stuck (core (leaves f) l ps) m w w
  bottom_stuck_at f ps none e = subst (λ q. Ends p ending.Stuck (core (leaves f) l q) m w w) (sym none) (bottom_stuck f e)

  pub loop_again_at : (held : Memory) (f : m_.Flow) (q : List Piece) (d : Code) (ps : List Piece) (s' : Core) → Holds m held → (f ≡ flow.Next) ⊎ (f ≡ flow.Continued) → q ≡ loop d ∷ ps → s' ≡ core (code d) l (loop d ∷ ps) → IsReadyCore (core (leaves (flow_view f)) l q) → goes.Steps p (core (leaves (flow_view f)) l q) m w s' held w
  loop_again_at held f q d ps s' holds e is to h =
      subst (λ s. goes.Steps p (core (leaves (flow_view f)) l q) m w s held w) (sym to)
      (subst (λ q. goes.Steps p (core (leaves (flow_view f)) l q) m w (core (code d) l (loop d ∷ ps)) held w) (sym is)
      (loop_again ps held holds f d e (subst (λ q. IsReadyCore (core (leaves (flow_view f)) l q)) is h)))

stored_some : (o : Option (List c.Block)) (held : Memory) → Stores true o held → (m : List c.Block) × ((o ≡ Some m) × Holds m held)
stored_some None held h = absurd h
stored_some (Some m) held h = (m, (refl, h))

stored_none : (o : Option (List c.Block)) (held : Memory) → Stores false o held → o ≡ None
stored_none None held h = refl
stored_none (Some m) held h = absurd h

module _ (p : Program) (s : Core) (m : List c.Block) (w : World) (kind : CCell) (a : Address) (v : Operand) (more : Code) where
  abbrev storing : Core
  storing = with_at s (code (do_then (store kind a v) more))

  pub store_then : (pointer value : CValue) (held : Memory) (b : Bool) → IsReadyCore storing → pointer ≡ start s.level.values a.pointer → value ≡ fitted_in kind (operand_of (start s.level.values) v) → Stores b (c.store m kind pointer a.offset value) held → b ≡ true → GoesFurther p storing m w (with_at s (code more)) held w
  store_then pointer value held b h e g is yes_ =
      let r = stored_some (c.store m kind pointer a.offset value) held (subst (λ b. Stores b (c.store m kind pointer a.offset value) held) yes_ is) in
      store_goes p s.level s.pieces m w kind a v more r.0 held r.1.1 h (ap₂ (λ q u. c.store m kind q a.offset u) (sym e) (sym g) ∙ r.1.0)

  pub store_else : (pointer value : CValue) (held : Memory) (b : Bool) → pointer ≡ start s.level.values a.pointer → value ≡ fitted_in kind (operand_of (start s.level.values) v) → Stores b (c.store m kind pointer a.offset value) held → b ≡ false → Ends p ending.Stuck storing m w w
  store_else pointer value held b e g is no_ =
      let r = stored_none (c.store m kind pointer a.offset value) held (subst (λ b. Stores b (c.store m kind pointer a.offset value) held) no_ is) in
      store_stuck p s.level s.pieces m w kind a v more (ap₂ (λ q u. c.store m kind q a.offset u) (sym e) (sym g) ∙ r)
