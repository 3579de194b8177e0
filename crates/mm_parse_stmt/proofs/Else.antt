-- After a statement that isn't closed, `else` goes on.
use Rattle.std.proofs.Common.{◌≡◌, ℕ, zero, suc, Bool, true, false, IsTrue, List, [], ◌∷◌, ◌++◌, inl, inr, map, refl, ap, sym, ◌∙◌, Option, Some, None, append_assoc, rules}
use Rattle.mm_base.specs.declared.place.Place.{Place}
use Rattle.mm_grammar.specs.Grammar.{name, seq, Reads, Spells, Front, RuleSpells, Tail, spells_in, spells_at, has}
use Rattle.mm_grammar.proofs.Deep.{spells_along}
use Rattle.mm_grammar.proofs.Closed.{fold_front}
use Rattle.mm_token.specs.declared.token.Token.{Token}
use Rattle.mm_syntax.specs.declared.symbol.Symbol.TheVariants as k
use Rattle.mm_syntax.specs.declared.part.Begun.{Begun}
use Rattle.mm_syntax.specs.declared.stmt.Stmt.{Stmt}
use Rattle.mm_syntax.specs.declared.stmt.StmtKind.TheVariants as s
use Rattle.mm_syntax.specs.declared.stmt.Variables.{Variables}
use Rattle.mm_syntax.specs.Symbols.{symbol_of, number_of}
use Rattle.mm_syntax.specs.BuiltStatements as bs
use Rattle.mm_syntax.specs.Rules.{P, units, token, stmt, enclosed, branches, otherwise, maybe_expr, for_start, if_stmt, while_stmt, for_stmt, ◌▸◌}
use Rattle.mm_syntax.specs.Rules as rules_of
use Rattle.mm_syntax.proofs.Views.{tree_rules}
use Rattle.mm_syntax.proofs.Nearest.{closed_else, closed_while, closed_for}
use Rattle.mm_cursor.proofs.Steps.{Took}

-- ---- the statements that are closed

closed_block : (brace : Token) (stmts : List Stmt) → bs.is_closed (bs.block brace stmts) ≡ true
closed_block brace stmts = search (rules, tree_rules)

closed_run : (v : Begun) → bs.is_closed (bs.run v) ≡ true
closed_run v = search (rules, tree_rules)

closed_declared : (v : Variables) → bs.is_closed (bs.declared v) ≡ true
closed_declared v = search (rules, tree_rules)

closed_empty : (place : Place) → bs.is_closed (bs.statement s.Empty place) ≡ true
closed_empty place = search (rules, tree_rules)

closed_break : (place : Place) → bs.is_closed (bs.statement s.Break place) ≡ true
closed_break place = search (rules, tree_rules)

closed_continue : (place : Place) → bs.is_closed (bs.statement s.Continue place) ≡ true
closed_continue place = search (rules, tree_rules)

closed_return : (word : Token) (value : Option Begun) → bs.is_closed (bs.returned word value) ≡ true
closed_return word None = search (rules, tree_rules)
closed_return word (Some v) = search (rules, tree_rules)

closed_do : (word : Token) (body : Stmt) (condition : Begun) → bs.is_closed (bs.done_while word body condition) ≡ true
closed_do word body condition = search (rules, tree_rules)

-- a statement that is closed isn't open
not_open : {C : Type 0} → (v w : Stmt) → v ≡ w → bs.is_closed w ≡ true → bs.is_closed v ≡ false → C
not_open v w e c o = absurd (let f : bs.is_closed v ≡ bs.is_closed w = ap bs.is_closed e in cc)

-- the last part of one that is open
last_open : (v w body : Stmt) → v ≡ w → bs.is_closed w ≡ bs.is_closed body → bs.is_closed v ≡ false → bs.is_closed body ≡ false
last_open v w body e c o = sym c ∙ (sym (ap bs.is_closed e) ∙ o)

-- ---- with a token of `else` after them

module _ (x : Token) (is_else : IsTrue (has (number_of (symbol_of x)) (map number_of (k.Else ∷ [])))) where
  module _ (m : ℕ) where
    lift : {A : Type 0} → (p : P A) (u : List Token) (v : A) → spells_in units (spells_at units m) p u v → Spells units p u v
    lift p u v h = spells_along units (spells_at units m) (RuleSpells units) (λ y us w i. (m, i)) p u v h

    after_first : {A B : Type 0} → (p : P A) (q : P B) (u a b : List Token) (v : A) → u ≡ a ++ b → spells_in units (spells_at units m) p a v → Front units q (b ++ x ∷ []) → Front units (seq p q) (u ++ x ∷ [])
    after_first p q u a b v cut h f = inr (a, (b ++ x ∷ []), v, (ap (λ w. w ++ x ∷ []) cut ∙ append_assoc a b (x ∷ [])), lift p a v h, f)

    module _ (n : ℕ) (deeper : (u : List Token) (v : Stmt) → spells_at units m (stmt n) u v → bs.is_closed v ≡ false → Front units (name (stmt n)) (u ++ x ∷ [])) where
      while_goes : (u : List Token) (v : Stmt) → spells_in units (spells_at units m) (while_stmt n) u v → bs.is_closed v ≡ false → Front units (while_stmt n) (u ++ x ∷ [])
      while_goes u v h o =
          let w = h.0 in
          let body = h.2.4 in
          after_first (token (k.While ∷ [])) (seq enclosed (name (stmt n))) u h.2.0 h.2.1 w.0 h.2.2 h.2.3
          (after_first enclosed (name (stmt n)) h.2.1 body.0 body.1 w.1.0 body.2 body.3
          (deeper body.1 w.1.1 body.4 (last_open v _ w.1.1 h.1 (closed_while w.0 w.1.0 w.1.1) o)))

      for_goes : (u : List Token) (v : Stmt) → spells_in units (spells_at units m) (for_stmt n) u v → bs.is_closed v ≡ false → Front units (for_stmt n) (u ++ x ∷ [])
      for_goes u v h o =
          let w = h.0 in
          let a = h.2.4 in
          let c = a.4 in
          let d = c.4 in
          after_first (token (k.For ∷ [])) (seq (token (k.Open ∷ []) ▸ for_start) (seq (maybe_expr k.Semicolon) (seq (maybe_expr k.Close) (name (stmt n))))) u h.2.0 h.2.1 w.0 h.2.2 h.2.3
          (after_first (token (k.Open ∷ []) ▸ for_start) (seq (maybe_expr k.Semicolon) (seq (maybe_expr k.Close) (name (stmt n)))) h.2.1 a.0 a.1 w.1.0 a.2 a.3
          (after_first (maybe_expr k.Semicolon) (seq (maybe_expr k.Close) (name (stmt n))) a.1 c.0 c.1 w.1.1.0 c.2 c.3
          (after_first (maybe_expr k.Close) (name (stmt n)) c.1 d.0 d.1 w.1.1.1.0 d.2 d.3
          (deeper d.1 w.1.1.1.1 d.4 (last_open v _ w.1.1.1.1 h.1 (closed_for w.0 w.1.0 w.1.1.0 w.1.1.1.0 w.1.1.1.1) o)))))

      -- a body that stands alone: where it is closed, `else` begins the tail, and else it goes on in the body
      body_goes : (u : List Token) (body : Stmt) (b : Bool) → bs.is_closed body ≡ b → spells_at units m (stmt n) u body → Front units (branches n) (u ++ x ∷ [])
      body_goes u body true c h = inr (u, (x ∷ []), body, refl, lift (name (stmt n)) u body h, c, inl (inr (x, refl, is_else)))
      body_goes u body false c h = inl (deeper u body h c)

      branches_go : (word : Token) (condition : Begun) (u : List Token) (body : Stmt) (other : Option Stmt) → Tail (spells_in units (spells_at units m) (name (stmt n))) bs.is_closed (spells_in units (spells_at units m) (otherwise n)) u body other →
          bs.is_closed (bs.branched word condition body other) ≡ false → Front units (branches n) (u ++ x ∷ [])
      branches_go word condition u body None h o = body_goes u body (bs.is_closed body) refl h
      branches_go word condition u body (Some other) h o =
          let w = h.5.0 in
          let e = h.5.2 in
          inr (
            h.0,
            (h.1 ++ x ∷ []),
            body,
            (ap (λ y. y ++ x ∷ []) h.2 ∙ append_assoc h.0 h.1 (x ∷ [])),
            lift (name (stmt n)) h.0 body h.3,
            h.4,
            after_first (token (k.Else ∷ [])) (name (stmt n)) h.1 e.0 e.1 w.0 e.2 e.3
                (deeper e.1 w.1 e.4 (sym (ap bs.is_closed h.5.1) ∙ (sym (closed_else word condition body other) ∙ o))),
          )

      if_goes : (u : List Token) (v : Stmt) → spells_in units (spells_at units m) (if_stmt n) u v → bs.is_closed v ≡ false → Front units (if_stmt n) (u ++ x ∷ [])
      if_goes u v h o =
          let w = h.0 in
          let a = h.2.4 in
          after_first (token (k.If ∷ [])) (seq enclosed (branches n)) u h.2.0 h.2.1 w.0 h.2.2 h.2.3
          (after_first enclosed (branches n) h.2.1 a.0 a.1 w.1.0 a.2 a.3
          (branches_go w.0 w.1.0 a.1 w.1.1.0 w.1.1.1 a.4 (sym (ap bs.is_closed h.1) ∙ o)))

  block_closed : {C : Type 0} → (m n : ℕ) (u : List Token) (v : Stmt) → spells_at units m (rules_of.block n) u v → bs.is_closed v ≡ false → C
  block_closed zero n u v h o = absurd h
  block_closed (suc m) n u v h o = not_open v _ h.1 (closed_block h.0.0 h.0.1) o

  goes_on : (m n : ℕ) (u : List Token) (v : Stmt) → spells_at units m (stmt n) u v → bs.is_closed v ≡ false → Front units (name (stmt n)) (u ++ x ∷ [])
  goes_on zero n u v h o = absurd h
  goes_on (suc m) zero u v h o = absurd (let i = h.2.1 in cc)
  goes_on (suc m) (suc n) u v h o = fold_front units (stmt (suc n)) (u ++ x ∷ []) (elim h [
    | inl a ↦ block_closed m n u v a o
    | inr h1 ↦ elim h1 [
      | inl a ↦ not_open v _ a.1 (closed_empty a.0.place) o
      | inr h2 ↦ elim h2 [
        | inl a ↦ elim a [ inl c ↦ not_open v _ c.1 (closed_run c.0) o | inr c ↦ not_open v _ c.1 (closed_declared c.0) o ]
        | inr h3 ↦ elim h3 [
          | inl a ↦ inr (inr (inr (inl (if_goes m n (λ us w i c. goes_on m n us w i c) u v a o))))
          | inr h4 ↦ elim h4 [
            | inl a ↦ inr (inr (inr (inr (inl (while_goes m n (λ us w i c. goes_on m n us w i c) u v a o)))))
            | inr h5 ↦ elim h5 [
              | inl a ↦ not_open v _ a.1 (closed_do a.0.0 a.0.1.0 a.0.1.1) o
              | inr h6 ↦ elim h6 [
                | inl a ↦ inr (inr (inr (inr (inr (inr (inl (for_goes m n (λ us w i c. goes_on m n us w i c) u v a o)))))))
                | inr h7 ↦ elim h7 [
                  | inl a ↦ not_open v _ a.1 (closed_break a.0.place) o
                  | inr h8 ↦ elim h8 [
                    | inl a ↦ not_open v _ a.1 (closed_continue a.0.place) o
                    | inr a ↦ not_open v _ a.1 (closed_return a.0.0 a.0.1) o
                  ]
                ]
              ]
            ]
          ]
        ]
      ]
    ]
  ])

-- What was read up to an `else` is closed.
pub closed_before : (n : ℕ) (ts r us : List Token) (v : Stmt) (x : Token) → Reads units (name (stmt n)) ts v r → Took (k.Else ∷ []) r x us → IsTrue (bs.is_closed v)
closed_before n ts r us v x a h = at (bs.is_closed v) refl
  where
    at : (b : Bool) → bs.is_closed v ≡ b → IsTrue (bs.is_closed v)
    at true e = e
    at false e = absurd (a.stuck x us [] h.0 (goes_on x h.1 a.spelled.0 n a.used v a.spelled.1 e))
