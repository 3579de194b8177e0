-- A tree of the grammar has as many places as items and statements, which is how many may break a rule.
use Rattle.std.specs.Prelude.{Bool, true, false, not, ◌&&◌, map, flat_map}
use Rattle.std.specs.List.{list_any}
use Rattle.std.proofs.Common.{◌≡◌, ℕ, zero, suc, ◌+◌, List, [], ◌∷◌, ◌⊎◌, Option, Some, None, length, refl, sym, ap, ◌∙◌, subst, arith, inl, inr, length-append}
use Rattle.mm_grammar.specs.Grammar.{name, nothing, seq, alt, many, give, Each, spells_in, spells_at}
use Rattle.mm_c.specs.declared.tree.CKind.{CKind}
use Rattle.mm_c.specs.declared.tree.CLocal.{CLocal}
use Rattle.mm_c.specs.declared.tree.CAtom.{CAtom}
use Rattle.mm_c.specs.declared.tree.CLinkage.TheVariants as linkage_is
use Rattle.mm_c.specs.Tree.{Stmt, assign, store, run, if_only, if_else, forever, break, continue, leave, return, Block, block, Code, done, do_then, code_of, Item, typedef, array, proto, function, Program}
use Rattle.mm_c.specs.Tokens.{Token, Place, tokens_of, first_place}
use Rattle.mm_c.specs.Grammar as g
use Rattle.mm_c.specs.Grammar.{P, Placed, Name, Value, rule_of, texts, at, around, w, ◌▸◌, ◌◂◌, branched, proto_or, program_of, block_of, returned}
use Rattle.mm_c.specs.WellFormed.{Table, Here, stmt_breaks, block_breaks, code_breaks, seeing, inner_breaks, items_break, with_item, breaks, globals_of, prelude, has_main, is_true, first_broken}
use Rattle.mm_c.specs.Spelling.{Parses, SpellsProgram, BreaksRule}

abbrev mutual
  stmt_count : Stmt → ℕ
  stmt_count (if_only a b) = suc (block_count b)
  stmt_count (if_else a b c) = suc (block_count b + block_count c)
  stmt_count (forever b) = suc (block_count b)
  stmt_count _ = 1

  block_count : Block → ℕ
  block_count (block xs code) = code_count code

  code_count : Code → ℕ
  code_count done = 0
  code_count (do_then s more) = stmt_count s + code_count more

abbrev item_count : Item → ℕ
item_count (function f) = suc (block_count f.body)
item_count _ = 1

abbrev items_count : List Item → ℕ
items_count [] = 0
items_count (i ∷ is) = item_count i + items_count is

mutual
  stmt_counts : (h : Here) (s : Stmt) → length (stmt_breaks h s) ≡ stmt_count s
  stmt_counts h (assign x r) = refl
  stmt_counts h (store c p a) = refl
  stmt_counts h (run c) = refl
  stmt_counts h (if_only a b) = ap suc (block_counts h b)
  stmt_counts h (if_else a b c) = ap suc (length-append (block_breaks h b) (block_breaks h c) ∙ (λ i. block_counts h b i + block_counts h c i))
  stmt_counts h (forever b) = ap suc (block_counts (record h { in_loop = true }) b)
  stmt_counts h break = refl
  stmt_counts h continue = refl
  stmt_counts h leave = refl
  stmt_counts h (return a) = refl

  block_counts : (h : Here) (b : Block) → length (block_breaks h b) ≡ block_count b
  block_counts h (block xs code) = code_counts (seeing h xs) code

  code_counts : (h : Here) (c : Code) → length (code_breaks h c) ≡ code_count c
  code_counts h done = refl
  code_counts h (do_then s more) = length-append (stmt_breaks h s) (code_breaks h more) ∙ (λ i. stmt_counts h s i + code_counts h more i)

inner_counts : (tb : Table) (i : Item) → suc (length (inner_breaks tb i)) ≡ item_count i
inner_counts tb (typedef d) = refl
inner_counts tb (array a) = refl
inner_counts tb (proto p) = refl
inner_counts tb (function f) = ap suc (block_counts _ f.body)

items_counts : (tb : Table) (gs : List (List ℕ)) (is : List Item) → length (items_break tb gs is) ≡ items_count is
items_counts tb gs [] = refl
items_counts tb gs (i ∷ is) =
    let e = length-append (inner_breaks (with_item tb i) i) (items_break (with_item tb i) gs is) in
    let f = inner_counts (with_item tb i) i in
    let k = items_counts (with_item tb i) gs is in
    omega (arith, e, f, k)

-- ---- the places of what the grammar gives

abbrev Counted : (x : Name) → Value x → Type 0
Counted g.program v = length v.places ≡ items_count v.tree.items
Counted g.item v = length v.places ≡ item_count v.tree
Counted g.right v = Unit {0}
Counted g.atoms v = Unit {0}
Counted (g.block d) v = length v.places ≡ block_count v.tree
Counted (g.stmt d) v = length v.places ≡ stmt_count v.tree

abbrev AllOf : {A : Type 0} → (A → Type 0) → List A → Type 0
AllOf Q [] = Unit {0}
AllOf Q (v ∷ vs) = Q v × AllOf Q vs

module _ (R : (x : Name) → List Token → Value x → Type 0) (counted : (x : Name) (us : List Token) (v : Value x) → R x us v → Counted x v) where
  record Gives {A : Type 0} (p : P A) (Q : A → Type 0) : Type 0 where
    by : (us : List Token) (v : A) → spells_in texts R p us v → Q v

  any : {A : Type 0} (p : P A) → Gives p (λ v. Unit {0})
  any p = record { by = λ us v h. tt }

  ruled : (x : Name) → Gives (name x) (Counted x)
  ruled x = record { by = counted x }

  module _ {A B : Type 0} where
    paired : {p : P A} {q : P B} {Q : A → Type 0} {S : B → Type 0} → Gives p Q → Gives q S → Gives (seq p q) (λ v. Q v.0 × S v.1)
    paired h k = record { by = λ us v s. (h.by s.0 v.0 s.3, k.by s.1 v.1 s.4) }

    given : {p : P A} {Q : A → Type 0} {S : B → Type 0} (f : A → B) → ((v : A) → Q v → S (f v)) → Gives p Q → Gives (give f p) S
    given {S = S} f i h = record { by = λ us v s. subst S (sym s.1) (i s.0 (h.by us s.0 s.2)) }

  either : {A : Type 0} {p q : P A} {Q : A → Type 0} → Gives p Q → Gives q Q → Gives (alt p q) Q
  either h k = record { by = λ us v s. elim s [ inl i ↦ h.by us v i | inr i ↦ k.by us v i ] }

  each : {A : Type 0} (p : P A) (Q : A → Type 0) → Gives p Q → (us : List Token) (vs : List A) → Each (spells_in texts R p) us vs → AllOf Q vs
  each p Q h us [] s = tt
  each p Q h us (v ∷ vs) s = (h.by s.0 v s.3, each p Q h s.1 vs s.4)

  several : {A : Type 0} {p : P A} {Q : A → Type 0} → Gives p Q → Gives (many p) (AllOf Q)
  several {p = p} {Q = Q} h = record { by = each p Q h }

  module _ {A B : Type 0} where
    first : {p : P A} {q : P B} {Q : A → Type 0} → Gives p Q → Gives (p ◂ q) Q
    first {Q = Q} h = record { by = λ us v s. subst Q (sym s.1) (h.by s.2.0 s.0.0 s.2.3) }

    second : {p : P A} {q : P B} {Q : B → Type 0} → Gives q Q → Gives (p ▸ q) Q
    second {Q = Q} h = record { by = λ us v s. subst Q (sym s.1) (h.by s.2.1 s.0.1 s.2.4) }

  -- what a name is followed by gives one statement
  abbrev One : (List ℕ → Stmt) → Type 0
  One f = (x : List ℕ) → stmt_count (f x) ≡ 1

  after_counts : Gives g.after_first One
  after_counts = either (given _ (λ v q x. refl) (any (w 28 ▸ name g.right))) (either (given _ (λ v q x. refl) (any g.arguments)) (given _ (λ v q x. refl) (any (w 24 ▸ seq (g.ident ◂ w 25) g.arguments))))

  simple_counts : Gives g.simple_stmt (λ v. length v.places ≡ stmt_count v.tree)
  simple_counts = given (λ (v : Token × (List ℕ → Stmt)). at (v.1 v.0.text) v.0.place) (λ v q. sym (q.1 v.0.text)) (paired (any _) (first after_counts))

  abbrev Maybe : Option (Placed Block) → Type 0
  Maybe None = Unit {0}
  Maybe (Some v) = length v.places ≡ block_count v.tree

  branched_counts : (x : Token) (a : CAtom) (b : Placed Block) (o : Option (Placed Block)) → length b.places ≡ block_count b.tree → Maybe o → length (branched x a b o).places ≡ stmt_count (branched x a b o).tree
  branched_counts x a b None h k = ap suc h
  branched_counts x a b (Some c) h k = ap suc (length-append b.places c.places ∙ (λ i. h i + k i))

  if_counts : (d : ℕ) → Gives (g.if_stmt d) (λ v. length v.places ≡ stmt_count v.tree)
  if_counts d = given (λ (v : Token × (CAtom × (Placed Block × Option (Placed Block)))). branched v.0 v.1.0 v.1.1.0 v.1.1.1) (λ v q. branched_counts v.0 v.1.0 v.1.1.0 v.1.1.1 q.1.1.0 q.1.1.1)
      (paired (any _) (paired (any _) (paired (ruled (g.block d)) (either (given (λ (v : Placed Block). Some v) (λ v q. q) (second (ruled (g.block d)))) (given (λ u. None) (λ v q. tt) (any nothing))))))

  while_counts : (d : ℕ) → Gives (g.while_stmt d) (λ v. length v.places ≡ stmt_count v.tree)
  while_counts d = given (λ (v : Token × Placed Block). around (forever v.1.tree) v.0.place v.1.places) (λ v q. ap suc q.1) (paired (any _) (second (second (second (ruled (g.block d))))))

  return_counts : Gives g.return_stmt (λ v. length v.places ≡ stmt_count v.tree)
  return_counts = given (λ (v : Token × Option CAtom). at (returned v.1) v.0.place) (λ v q. go v.1) (any _)
    where
      go : (o : Option CAtom) → 1 ≡ stmt_count (returned o)
      go None = refl
      go (Some a) = refl

  stmt_rule : (d : ℕ) → Gives (rule_of (g.stmt d)) (λ v. length v.places ≡ stmt_count v.tree)
  stmt_rule d = either simple_counts (either (given _ (λ v q. refl) (any _)) (either (if_counts d) (either (while_counts d)
      (either (given (λ (x : Token). at break x.place) (λ v q. refl) (any _)) (either (given (λ (x : Token). at continue x.place) (λ v q. refl) (any _)) return_counts)))))

  stmts_counts : (ss : List (Placed Stmt)) → AllOf (λ v. length v.places ≡ stmt_count v.tree) ss → length (flat_map (λ (s : Placed Stmt). s.places) ss) ≡ code_count (code_of (map (λ (s : Placed Stmt). s.tree) ss))
  stmts_counts [] h = refl
  stmts_counts (s ∷ ss) h = length-append s.places (flat_map (λ (s : Placed Stmt). s.places) ss) ∙ (λ i. h.0 i + stmts_counts ss h.1 i)

  block_rule : (d : ℕ) → Gives (rule_of (g.block d)) (λ v. length v.places ≡ block_count v.tree)
  block_rule zero = given (λ (x : Token). g.no_block) (λ v q. refl) (any _)
  block_rule (suc d) = given (λ (v : List CLocal × List (Placed Stmt)). block_of v.0 v.1) (λ v q. stmts_counts v.1 q.1) (second (paired (any _) (first (several (ruled (g.stmt d))))))

  abbrev Items : (Place → Placed Item) → Type 0
  Items f = (p : Place) → length (f p).places ≡ item_count (f p).tree

  made_counts : (p : Place) (i : Option Token) (r : Option CKind) (h : List ℕ × List CLocal) (o : Option (Placed Block)) → Maybe o → length (proto_or p i r h o).places ≡ item_count (proto_or p i r h o).tree
  made_counts p i r h None k = refl
  made_counts p i r h (Some b) k = ap suc k

  array_counts : Gives g.array_rule (λ v. 1 ≡ item_count v)
  array_counts = given _ (λ v q. refl) (any _)

  typedef_counts : Gives g.typedef_rule (λ v. 1 ≡ item_count v)
  typedef_counts = given _ (λ v q. refl) (any _)

  static_counts : Gives g.after_static Items
  static_counts = either (given {B = Place → Placed Item} (λ (a : Item) (p : Place). at a p) (λ v q p. q) (second array_counts))
      (given {B = Place → Placed Item} (λ (v : Option Token × (Option CKind × ((List ℕ × List CLocal) × Option (Placed Block)))) (p : Place). proto_or p v.0 v.1.0 v.1.1.0 v.1.1.1) (λ v q p. made_counts p v.0 v.1.0 v.1.1.0 v.1.1.1 q.1.1.1)
      (paired (any _) (paired (any _) (paired (any _) (either (given (λ (x : Token). None) (λ v q. tt) (any (w 26))) (given (λ (b : Placed Block). Some b) (λ v q. q) (ruled (g.block 4096))))))))

  item_rule : Gives (rule_of g.item) (λ v. length v.places ≡ item_count v.tree)
  item_rule = either (given (λ (v : Token × Item). at v.1 v.0.place) (λ v q. q.1) (paired (any _) typedef_counts)) (either (given (λ (v : Token × (Place → Placed Item)). v.1 v.0.place) (λ v q. q.1 v.0.place) (paired (any _) static_counts))
      (given (λ (v : (Option CKind × Place) × ((List ℕ × List CLocal) × Placed Block)). around (g.function_of linkage_is.Public v.0.0 v.1.0 v.1.1.tree) v.0.1 v.1.1.places) (λ v q. ap suc q.1.1) (paired (any _) (paired (any _) (ruled (g.block 4096))))))

  items_places : (xs : List (Placed Item)) → AllOf (λ v. length v.places ≡ item_count v.tree) xs → length (flat_map (λ (x : Placed Item). x.places) xs) ≡ items_count (map (λ (x : Placed Item). x.tree) xs)
  items_places [] h = refl
  items_places (x ∷ xs) h = length-append x.places (flat_map (λ (x : Placed Item). x.places) xs) ∙ (λ i. h.0 i + items_places xs h.1 i)

  rules : (x : Name) → Gives (rule_of x) (Counted x)
  rules g.program = given program_of (λ v q. items_places v q) (second (several (ruled g.item)))
  rules g.item = item_rule
  rules g.right = any _
  rules g.atoms = any _
  rules (g.block d) = block_rule d
  rules (g.stmt d) = stmt_rule d

counted_at : (n : ℕ) (x : Name) (us : List Token) (v : Value x) → spells_at texts n x us v → Counted x v
counted_at zero x us v h = absurd h
counted_at (suc n) x us v h = (rules (spells_at texts n) (counted_at n) x).by us v h

-- as many places as truth values
pub places_match : (text : List ℕ) (p : Program) (places : List Place) → Parses text p places → length (breaks p) ≡ length places
places_match text p places h = items_counts prelude (globals_of p) p.items ∙ sym (counted_at h.0 g.program (tokens_of text) (record { tree = p; places = places }) h.1)

-- the first place where one is true is there
first_is : (bs : List Bool) (ps : List Place) → length bs ≡ length ps → list_any is_true bs ≡ true → (p : Place) × (first_broken bs ps ≡ Some p)
first_is [] ps e h = absurd (cc)
first_is (b ∷ bs) [] e h = absurd (omega (arith, e))
first_is (true ∷ bs) (p ∷ ps) e h = (p, refl)
first_is (false ∷ bs) (p ∷ ps) e h = first_is bs ps (omega (arith, e)) h

-- A text of the grammar spells its tree, or breaks a rule somewhere.
pub read_or_refused : (text : List ℕ) (p : Program) (places : List Place) → Parses text p places → SpellsProgram text p ⊎ ((place : Place) × BreaksRule text place)
read_or_refused text p places h = go (list_any is_true (breaks p)) (has_main p) refl refl
  where
    go : (a b : Bool) → list_any is_true (breaks p) ≡ a → has_main p ≡ b → SpellsProgram text p ⊎ ((place : Place) × BreaksRule text place)
    go true b e f = let r = first_is (breaks p) places (places_match text p places h) e in inr (r.0, (p, places, h, inl r.1))
    go false true e f = inl (record { places = places; parses = h; well_formed = (λ i. not (e i) && f i) })
    go false false e f = inr (first_place, (p, places, h, inr (e, f, refl)))
