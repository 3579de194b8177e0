-- A front of a unit has no more statements one inside the other than it has tokens.
use Rattle.std.proofs.Common.{◌≡◌, ℕ, zero, suc, ◌+◌, ◌≤◌, Bool, List, [], ◌∷◌, ◌++◌, map, Option, Some, None, inl, inr, length, refl, sym, ap, arith, subst}
use Rattle.std.proofs.lemmas.List.{length-append}
use Rattle.mm_grammar.specs.Grammar.{one, name, nothing, seq, alt, fork, many, tailed, kept, give, Language, PartOf, Each, Tail, Front, spells_in, front_in, spells_at, front_at}
use Rattle.mm_grammar.proofs.Deep.{spells_along, front_along, front_at_nil}
use Rattle.mm_token.specs.declared.token.Token.{Token}
use Rattle.mm_syntax.specs.declared.symbol.Symbol.TheVariants as s
use Rattle.mm_syntax.specs.declared.part.Begun.{Begun}
use Rattle.mm_syntax.specs.declared.stmt.Stmt.{Stmt}
use Rattle.mm_syntax.specs.declared.stmt.ForStart.{ForStart}
use Rattle.mm_syntax.specs.Symbols.{number_of}
use Rattle.mm_syntax.specs.Rules.{Rule, unit, decl, item, block, stmt, Value, P, rule_of, units, token, enclosed, branches, for_start, maybe_expr, if_stmt, while_stmt, do_stmt, for_stmt, ◌▸◌, ◌◂◌}

-- ---- a part, by what holds of its names on lists that are no longer

left_short : {T : Type 0} (n : ℕ) (ts a b : List T) → ts ≡ a ++ b → length ts ≤ n → length a ≤ n
left_short n ts a b e l = omega (arith, l, ap length e, length-append a b)

right_short : {T : Type 0} (n : ℕ) (ts a b : List T) → ts ≡ a ++ b → length ts ≤ n → length b ≤ n
right_short n ts a b e l = omega (arith, l, ap length e, length-append a b)

each_short : {T A : Type 0} (n : ℕ) (P Q : List T → A → Type 0) → ((ts : List T) (v : A) → length ts ≤ n → P ts v → Q ts v) → (ts : List T) (vs : List A) → length ts ≤ n → Each P ts vs → Each Q ts vs
each_short n P Q f ts [] l h = h
each_short n P Q f ts (v ∷ vs) l h = (h.0, h.1, h.2, f h.0 v (left_short n ts h.0 h.1 h.2 l) h.3, each_short n P Q f h.1 vs (right_short n ts h.0 h.1 h.2 l) h.4)

tail_short : {T A B : Type 0} (n : ℕ) (P P' : List T → A → Type 0) (closed : A → Bool) (Q Q' : List T → B → Type 0) → ((ts : List T) (v : A) → length ts ≤ n → P ts v → P' ts v) → ((ts : List T) (v : B) → length ts ≤ n → Q ts v → Q' ts v) →
    (ts : List T) (v : A) (w : Option B) → length ts ≤ n → Tail P closed Q ts v w → Tail P' closed Q' ts v w
tail_short n P P' closed Q Q' f g ts v None l h = f ts v l h
tail_short n P P' closed Q Q' f g ts v (Some w) l h = (h.0, h.1, h.2, f h.0 v (left_short n ts h.0 h.1 h.2 l) h.3, h.4, g h.1 w (right_short n ts h.0 h.1 h.2 l) h.5)

module _ (L : Language) (n : ℕ) (R S : (x : L.Name) → List L.Token → L.Value x → Type 0) (f : (x : L.Name) (ts : List L.Token) (v : L.Value x) → length ts ≤ n → R x ts v → S x ts v) where
  spells_short : {A : Type 0} → (p : PartOf L A) (ts : List L.Token) (v : A) → length ts ≤ n → spells_in L R p ts v → spells_in L S p ts v
  spells_short (one cs) ts v l h = h
  spells_short (name x) ts v l h = f x ts v l h
  spells_short nothing ts v l h = h
  spells_short (seq p q) ts v l h = (h.0, h.1, h.2, spells_short p h.0 v.0 (left_short n ts h.0 h.1 h.2 l) h.3, spells_short q h.1 v.1 (right_short n ts h.0 h.1 h.2 l) h.4)
  spells_short (alt p q) ts v l h = elim h [ inl i ↦ inl (spells_short p ts v l i) | inr i ↦ inr (spells_short q ts v l i) ]
  spells_short (fork p q) ts v l h = elim h [ inl i ↦ inl (spells_short p ts v l i) | inr i ↦ inr (spells_short q ts v l i) ]
  spells_short (tailed p closed q) ts v l h = tail_short n (spells_in L R p) (spells_in L S p) closed (spells_in L R q) (spells_in L S q) (λ us w m i. spells_short p us w m i) (λ us w m i. spells_short q us w m i) ts v.0 v.1 l h
  spells_short (many p) ts vs l h = each_short n (spells_in L R p) (spells_in L S p) (λ us v m i. spells_short p us v m i) ts vs l h
  spells_short (kept p) ts v l h = (h.0, spells_short p ts v.1 l h.1)
  spells_short (give g p) ts v l h = (h.0, h.1, spells_short p ts h.0 l h.2)

  module _ (F G : (x : L.Name) → List L.Token → Type 0) (g : (x : L.Name) (ts : List L.Token) → length ts ≤ n → F x ts → G x ts) where
    front_short : {A : Type 0} → (p : PartOf L A) (ts : List L.Token) → length ts ≤ n → front_in L R F p ts → front_in L S G p ts
    front_short (one cs) ts l h = h
    front_short (name x) ts l h = g x ts l h
    front_short nothing ts l h = h
    front_short (seq p q) ts l h = elim h [
      | inl i ↦ inl (front_short p ts l i)
      | inr i ↦ inr (i.0, i.1, i.2, i.3, spells_short p i.0 i.2 (left_short n ts i.0 i.1 i.3 l) i.4, front_short q i.1 (right_short n ts i.0 i.1 i.3 l) i.5)
    ]
    front_short (alt p q) ts l h = elim h [ inl i ↦ inl (front_short p ts l i) | inr i ↦ inr (front_short q ts l i) ]
    front_short (fork p q) ts l h = elim h [ inl i ↦ inl (front_short p ts l i) | inr i ↦ inr (front_short q ts l i) ]
    front_short (tailed p closed q) ts l h = elim h [
      | inl i ↦ inl (front_short p ts l i)
      | inr i ↦ inr (i.0, i.1, i.2, i.3, spells_short p i.0 i.2 (left_short n ts i.0 i.1 i.3 l) i.4, i.5, front_short q i.1 (right_short n ts i.0 i.1 i.3 l) i.6)
    ]
    front_short (many p) ts l h =
        (h.0, h.1, h.2, h.3, each_short n (spells_in L R p) (spells_in L S p) (λ us v m i. spells_short p us v m i) h.0 h.2 (left_short n ts h.0 h.1 h.3 l) h.4, front_short p h.1 (right_short n ts h.0 h.1 h.3 l) h.5)
    front_short (kept p) ts l h = front_short p ts l h
    front_short (give k p) ts l h = front_short p ts l h

-- ---- the rules, in each limit on nesting that is no less than the tokens

abbrev Texts : Type 1
Texts = (x : Rule) → List Token → Value x → Type 0

abbrev Fronts : Type 1
Fronts = (x : Rule) → List Token → Type 0

abbrev loose_texts : Texts → Texts
loose_texts R (unit n) ts v = (k : ℕ) → length ts ≤ k → R (unit k) ts v
loose_texts R (decl n) ts v = (k : ℕ) → length ts ≤ k → R (decl k) ts v
loose_texts R (item n) ts v = (k : ℕ) → length ts ≤ k → R (item k) ts v
loose_texts R (block n) ts v = (k : ℕ) → length ts ≤ k → R (block k) ts v
loose_texts R (stmt n) ts v = (k : ℕ) → length ts ≤ k → R (stmt (suc k)) ts v
loose_texts R x ts v = R x ts v

abbrev loose_fronts : Fronts → Fronts
loose_fronts F (unit n) ts = (k : ℕ) → length ts ≤ k → F (unit k) ts
loose_fronts F (decl n) ts = (k : ℕ) → length ts ≤ k → F (decl k) ts
loose_fronts F (item n) ts = (k : ℕ) → length ts ≤ k → F (item k) ts
loose_fronts F (block n) ts = (k : ℕ) → length ts ≤ k → F (block k) ts
loose_fronts F (stmt n) ts = (k : ℕ) → length ts ≤ k → F (stmt (suc k)) ts
loose_fronts F x ts = F x ts

-- in this limit
abbrev texts_in : ℕ → Texts → Texts
texts_in k R (unit n) ts v = R (unit k) ts v
texts_in k R (decl n) ts v = R (decl k) ts v
texts_in k R (item n) ts v = R (item k) ts v
texts_in k R (block n) ts v = R (block k) ts v
texts_in k R (stmt n) ts v = R (stmt (suc k)) ts v
texts_in k R x ts v = R x ts v

abbrev fronts_in : ℕ → Fronts → Fronts
fronts_in k F (unit n) ts = F (unit k) ts
fronts_in k F (decl n) ts = F (decl k) ts
fronts_in k F (item n) ts = F (item k) ts
fronts_in k F (block n) ts = F (block k) ts
fronts_in k F (stmt n) ts = F (stmt (suc k)) ts
fronts_in k F x ts = F x ts

text_in : (k : ℕ) (R : Texts) (x : Rule) (ts : List Token) (v : Value x) → length ts ≤ k → loose_texts R x ts v → texts_in k R x ts v
text_in k R (unit n) ts v l h = h k l
text_in k R (decl n) ts v l h = h k l
text_in k R (item n) ts v l h = h k l
text_in k R (block n) ts v l h = h k l
text_in k R (stmt n) ts v l h = h k l
text_in k R _ ts v l h = h

front_of : (k : ℕ) (F : Fronts) (x : Rule) (ts : List Token) → length ts ≤ k → loose_fronts F x ts → fronts_in k F x ts
front_of k F (unit n) ts l h = h k l
front_of k F (decl n) ts l h = h k l
front_of k F (item n) ts l h = h k l
front_of k F (block n) ts l h = h k l
front_of k F (stmt n) ts l h = h k l
front_of k F _ ts l h = h

-- behind a token there are fewer
fewer : (k : ℕ) (ts a b : List Token) (t : Token) → ts ≡ a ++ b → a ≡ t ∷ [] → length ts ≤ suc k → length b ≤ k
fewer k ts a b t cut e l = omega (arith, l, ap length cut, length-append a b, ap length e)

none_behind : (ts a b : List Token) (t : Token) → ts ≡ a ++ b → a ≡ t ∷ [] → length ts ≤ 0 → ⊥
none_behind ts a b t cut e l = omega (arith, l, ap length cut, length-append a b, ap length e)

module _ (R : Texts) (F : Fronts) where
  -- a text that begins with a token, of whose rest the limit is one less
  after_token : {B C : Type 0} → (cs : List ℕ) (q : P B) (ts : List Token) (v : Token × B) (k : ℕ) → length ts ≤ k → spells_in units (loose_texts R) (seq (one cs) q) ts v →
      ((j : ℕ) → k ≡ suc j → spells_in units (texts_in j R) (seq (one cs) q) ts v → C) → C
  after_token cs q ts v zero l h c = absurd (none_behind ts h.0 h.1 v.0 h.2 h.3.0 l)
  after_token cs q ts v (suc j) l h c = c j refl (h.0, h.1, h.2, h.3, spells_short units j (loose_texts R) (texts_in j R) (text_in j R) q h.1 v.1 (fewer j ts h.0 h.1 v.0 h.2 h.3.0 l) h.4)

  -- a front that is such a token at most, or goes on behind it
  after_front : {B C : Type 0} → (cs : List ℕ) (q : P B) (ts : List Token) (k : ℕ) → length ts ≤ k → front_in units (loose_texts R) (loose_fronts F) (seq (one cs) q) ts →
      (front_in units R F (one cs) ts → C) → ((j : ℕ) → k ≡ suc j → front_in units (texts_in j R) (fronts_in j F) (seq (one cs) q) ts → C) → C
  after_front cs q ts zero l h first c = elim h [ inl i ↦ first i | inr i ↦ absurd (none_behind ts i.0 i.1 i.2 i.3 i.4.0 l) ]
  after_front cs q ts (suc j) l h first c = elim h [
    | inl i ↦ first i
    | inr i ↦ c j refl (inr (i.0, i.1, i.2, i.3, i.4, front_short units j (loose_texts R) (texts_in j R) (text_in j R) (loose_fronts F) (fronts_in j F) (front_of j F) q i.1 (fewer j ts i.0 i.1 i.2 i.3 i.4.0 l) i.5))
  ]

  block_text : (n : ℕ) (ts : List Token) (v : Stmt) (k : ℕ) → length ts ≤ k → spells_in units (loose_texts R) (rule_of (block n)) ts v → spells_in units R (rule_of (block k)) ts v
  block_text n ts v k l g =
      after_token (map number_of (s.OpenBrace ∷ [])) (many (name (stmt n)) ◂ token (s.CloseBrace ∷ [])) ts g.0 k l g.2
      (λ j e h. subst (λ i. spells_in units R (rule_of (block i)) ts v) (sym e) (g.0, g.1, h))

  block_front : (n : ℕ) (ts : List Token) (k : ℕ) → length ts ≤ k → front_in units (loose_texts R) (loose_fronts F) (rule_of (block n)) ts → front_in units R F (rule_of (block k)) ts
  block_front n ts k l g =
      after_front (map number_of (s.OpenBrace ∷ [])) (many (name (stmt n)) ◂ token (s.CloseBrace ∷ [])) ts k l g (λ i. inl i)
      (λ j e h. subst (λ i. front_in units R F (rule_of (block i)) ts) (sym e) h)

  if_text : (n : ℕ) (ts : List Token) (v : Stmt) (k : ℕ) → length ts ≤ k → spells_in units (loose_texts R) (if_stmt n) ts v → spells_in units R (if_stmt k) ts v
  if_text n ts v k l g =
      after_token (map number_of (s.If ∷ [])) (seq enclosed (branches n)) ts g.0 k l g.2 (λ j e h. subst (λ i. spells_in units R (if_stmt i) ts v) (sym e) (g.0, g.1, h))

  if_front : (n : ℕ) (ts : List Token) (k : ℕ) → length ts ≤ k → front_in units (loose_texts R) (loose_fronts F) (if_stmt n) ts → front_in units R F (if_stmt k) ts
  if_front n ts k l g = after_front (map number_of (s.If ∷ [])) (seq enclosed (branches n)) ts k l g (λ i. inl i) (λ j e h. subst (λ i. front_in units R F (if_stmt i) ts) (sym e) h)

  while_text : (n : ℕ) (ts : List Token) (v : Stmt) (k : ℕ) → length ts ≤ k → spells_in units (loose_texts R) (while_stmt n) ts v → spells_in units R (while_stmt k) ts v
  while_text n ts v k l g =
      after_token (map number_of (s.While ∷ [])) (seq enclosed (name (stmt n))) ts g.0 k l g.2 (λ j e h. subst (λ i. spells_in units R (while_stmt i) ts v) (sym e) (g.0, g.1, h))

  while_front : (n : ℕ) (ts : List Token) (k : ℕ) → length ts ≤ k → front_in units (loose_texts R) (loose_fronts F) (while_stmt n) ts → front_in units R F (while_stmt k) ts
  while_front n ts k l g = after_front (map number_of (s.While ∷ [])) (seq enclosed (name (stmt n))) ts k l g (λ i. inl i) (λ j e h. subst (λ i. front_in units R F (while_stmt i) ts) (sym e) h)

  abbrev do_rest : ℕ → P (Stmt × Begun)
  do_rest n = seq (name (stmt n)) (token (s.While ∷ []) ▸ enclosed ◂ token (s.Semicolon ∷ []))

  do_text : (n : ℕ) (ts : List Token) (v : Stmt) (k : ℕ) → length ts ≤ k → spells_in units (loose_texts R) (do_stmt n) ts v → spells_in units R (do_stmt k) ts v
  do_text n ts v k l g = after_token (map number_of (s.Do ∷ [])) (do_rest n) ts g.0 k l g.2 (λ j e h. subst (λ i. spells_in units R (do_stmt i) ts v) (sym e) (g.0, g.1, h))

  do_front : (n : ℕ) (ts : List Token) (k : ℕ) → length ts ≤ k → front_in units (loose_texts R) (loose_fronts F) (do_stmt n) ts → front_in units R F (do_stmt k) ts
  do_front n ts k l g = after_front (map number_of (s.Do ∷ [])) (do_rest n) ts k l g (λ i. inl i) (λ j e h. subst (λ i. front_in units R F (do_stmt i) ts) (sym e) h)

  abbrev for_rest : ℕ → P (ForStart × (Option Begun × (Option Begun × Stmt)))
  for_rest n = seq (token (s.Open ∷ []) ▸ for_start) (seq (maybe_expr s.Semicolon) (seq (maybe_expr s.Close) (name (stmt n))))

  for_text : (n : ℕ) (ts : List Token) (v : Stmt) (k : ℕ) → length ts ≤ k → spells_in units (loose_texts R) (for_stmt n) ts v → spells_in units R (for_stmt k) ts v
  for_text n ts v k l g = after_token (map number_of (s.For ∷ [])) (for_rest n) ts g.0 k l g.2 (λ j e h. subst (λ i. spells_in units R (for_stmt i) ts v) (sym e) (g.0, g.1, h))

  for_front : (n : ℕ) (ts : List Token) (k : ℕ) → length ts ≤ k → front_in units (loose_texts R) (loose_fronts F) (for_stmt n) ts → front_in units R F (for_stmt k) ts
  for_front n ts k l g = after_front (map number_of (s.For ∷ [])) (for_rest n) ts k l g (λ i. inl i) (λ j e h. subst (λ i. front_in units R F (for_stmt i) ts) (sym e) h)

  stmt_text : (n : ℕ) (ts : List Token) (v : Stmt) (k : ℕ) → length ts ≤ k → spells_in units (loose_texts R) (rule_of (stmt (suc n))) ts v → spells_in units R (rule_of (stmt (suc k))) ts v
  stmt_text n ts v k l (inl b) = inl (b k l)
  stmt_text n ts v k l (inr (inl e)) = inr (inl e)
  stmt_text n ts v k l (inr (inr (inl e))) = inr (inr (inl e))
  stmt_text n ts v k l (inr (inr (inr (inl i)))) = inr (inr (inr (inl (if_text n ts v k l i))))
  stmt_text n ts v k l (inr (inr (inr (inr (inl i))))) = inr (inr (inr (inr (inl (while_text n ts v k l i)))))
  stmt_text n ts v k l (inr (inr (inr (inr (inr (inl i)))))) = inr (inr (inr (inr (inr (inl (do_text n ts v k l i))))))
  stmt_text n ts v k l (inr (inr (inr (inr (inr (inr (inl i))))))) = inr (inr (inr (inr (inr (inr (inl (for_text n ts v k l i)))))))
  stmt_text n ts v k l (inr (inr (inr (inr (inr (inr (inr i))))))) = inr (inr (inr (inr (inr (inr (inr i))))))

  stmt_front : (n : ℕ) (ts : List Token) (k : ℕ) → length ts ≤ k → front_in units (loose_texts R) (loose_fronts F) (rule_of (stmt (suc n))) ts → front_in units R F (rule_of (stmt (suc k))) ts
  stmt_front n ts k l (inl b) = inl (b k l)
  stmt_front n ts k l (inr (inl e)) = inr (inl e)
  stmt_front n ts k l (inr (inr (inl e))) = inr (inr (inl e))
  stmt_front n ts k l (inr (inr (inr (inl i)))) = inr (inr (inr (inl (if_front n ts k l i))))
  stmt_front n ts k l (inr (inr (inr (inr (inl i))))) = inr (inr (inr (inr (inl (while_front n ts k l i)))))
  stmt_front n ts k l (inr (inr (inr (inr (inr (inl i)))))) = inr (inr (inr (inr (inr (inl (do_front n ts k l i))))))
  stmt_front n ts k l (inr (inr (inr (inr (inr (inr (inl i))))))) = inr (inr (inr (inr (inr (inr (inl (for_front n ts k l i)))))))
  stmt_front n ts k l (inr (inr (inr (inr (inr (inr (inr i))))))) = inr (inr (inr (inr (inr (inr (inr i))))))

-- ---- derivations

text_step : (m : ℕ) (x : Rule) (ts : List Token) (v : Value x) → spells_in units (loose_texts (spells_at units m)) (rule_of x) ts v → spells_at units (suc m) x ts v → loose_texts (spells_at units (suc m)) x ts v
text_step m (unit n) ts v g h = λ k l. spells_short units k (loose_texts (spells_at units m)) (texts_in k (spells_at units m)) (text_in k (spells_at units m)) (rule_of (unit n)) ts v l g
text_step m (decl n) ts v g h = λ k l. spells_short units k (loose_texts (spells_at units m)) (texts_in k (spells_at units m)) (text_in k (spells_at units m)) (rule_of (decl n)) ts v l g
text_step m (item n) ts v g h = λ k l. spells_short units k (loose_texts (spells_at units m)) (texts_in k (spells_at units m)) (text_in k (spells_at units m)) (rule_of (item n)) ts v l g
text_step m (block n) ts v g h = λ k l. block_text (spells_at units m) (front_at units m) n ts v k l g
text_step m (stmt zero) ts v g h = absurd (let no = h.2.1 in cc)
text_step m (stmt (suc n)) ts v g h = λ k l. stmt_text (spells_at units m) (front_at units m) n ts v k l g
text_step m _ ts v g h = h

texts_loose : (m : ℕ) (x : Rule) (ts : List Token) (v : Value x) → spells_at units m x ts v → loose_texts (spells_at units m) x ts v
texts_loose zero x ts v h = absurd h
texts_loose (suc m) x ts v h = text_step m x ts v (spells_along units (spells_at units m) (loose_texts (spells_at units m)) (texts_loose m) (rule_of x) ts v h) h

front_step : (m : ℕ) (x : Rule) (ts : List Token) → front_in units (loose_texts (spells_at units m)) (loose_fronts (front_at units m)) (rule_of x) ts → front_at units (suc m) x ts → loose_fronts (front_at units (suc m)) x ts
front_step m (unit n) ts g h = λ k l. front_short units k (loose_texts (spells_at units m)) (texts_in k (spells_at units m)) (text_in k (spells_at units m)) (loose_fronts (front_at units m)) (fronts_in k (front_at units m)) (front_of k (front_at units m)) (rule_of (unit n)) ts l g
front_step m (decl n) ts g h = λ k l. front_short units k (loose_texts (spells_at units m)) (texts_in k (spells_at units m)) (text_in k (spells_at units m)) (loose_fronts (front_at units m)) (fronts_in k (front_at units m)) (front_of k (front_at units m)) (rule_of (decl n)) ts l g
front_step m (item n) ts g h = λ k l. front_short units k (loose_texts (spells_at units m)) (texts_in k (spells_at units m)) (text_in k (spells_at units m)) (loose_fronts (front_at units m)) (fronts_in k (front_at units m)) (front_of k (front_at units m)) (rule_of (item n)) ts l g
front_step m (block n) ts g h = λ k l. block_front (spells_at units m) (front_at units m) n ts k l g
front_step m (stmt zero) ts g h = λ k l. elim h [
  | inl i ↦ subst (λ w. front_at units (suc m) (stmt (suc k)) w) (sym i) (front_at_nil units (suc m) (stmt (suc k)))
  | inr i ↦ absurd (let no = i.2 in cc)
]
front_step m (stmt (suc n)) ts g h = λ k l. stmt_front (spells_at units m) (front_at units m) n ts k l g
front_step m _ ts g h = h

-- what is a front at depth 0 is nothing, which is a front of each rule
nothing_loose : (x : Rule) (ts : List Token) → ts ≡ [] → loose_fronts (front_at units zero) x ts
nothing_loose (unit n) ts e = λ k l. e
nothing_loose (decl n) ts e = λ k l. e
nothing_loose (item n) ts e = λ k l. e
nothing_loose (block n) ts e = λ k l. e
nothing_loose (stmt n) ts e = λ k l. e
nothing_loose _ ts e = e

fronts_loose : (m : ℕ) (x : Rule) (ts : List Token) → front_at units m x ts → loose_fronts (front_at units m) x ts
fronts_loose zero x ts h = nothing_loose x ts h
fronts_loose (suc m) x ts h =
    front_step m x ts (front_along units (spells_at units m) (loose_texts (spells_at units m)) (texts_loose m) (front_at units m) (loose_fronts (front_at units m)) (fronts_loose m) (rule_of x) ts h) h

-- A front of a unit is one where as many statements may stand one inside the other as it has tokens.
pub as_many : (n k : ℕ) (ts : List Token) → length ts ≤ k → Front units (name (unit n)) ts → Front units (name (unit k)) ts
as_many n k ts l h = (h.0, fronts_loose h.0 (unit n) ts h.1 k l)
