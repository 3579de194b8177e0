-- How runs that agree go on. No node is named here.
use Rattle.std.proofs.Common.{◌≡◌, ℕ, List, [], refl, sym, subst, ap, ◌∙◌}
use Rattle.std.specs.Prelude.{Bool, true, false, Option, Some}
use Rattle.mm_meaning.specs.Run as runs
use Rattle.mm_meaning.specs.Run.{Run, Gives, Stops, From, then}
use Rattle.mm_core.specs.State as source
use Rattle.mm_core.specs.State.{Store}
use Rattle.mm_core.specs.Keeps.{On}
use Rattle.mm_c.specs.declared.value.CValue.{CValue}
use Rattle.mm_c.specs.declared.value.CValue.TheVariants as holds
use Rattle.mm_c.specs.declared.tree.CAtom.{CAtom}
use Rattle.mm_c.specs.declared.tree.CAtom.TheVariants.{Name}
use Rattle.mm_c.specs.declared.tree.CExpr.{CExpr}
use Rattle.mm_c.specs.declared.tree.CExpr.TheVariants.{Atom, Binary}
use Rattle.mm_c.specs.declared.tree.COperator.{COperator}
use Rattle.mm_c.specs.CMeaning as c
use Rattle.mm_c.specs.CMeaning.{Around, Flow, Next, Broke, Continued, Returned, unless_left, flow_of, flow_in, flows_of, with_name}
use Rattle.mm_c.specs.Tree as tree
use Rattle.mm_c.specs.Tree.{Block, Code, done, do_then, ◌⨾◌, just}
use Rattle.mm_agree.specs.Agree.{Agree, both_give, both_stop}

module _ {S A T B A' B' : Type 0} where
  pub agree_then : {Ends : S → T → Type 0} {Post : A → S → B → T → Type 0} {Post' : A' → S → B' → T → Type 0} {x : Run source.Stop S A} {y : Run c.Stop T B} {f : A → From source.Stop S A'} {g : B → From c.Stop T B'} → Agree Ends Post x y → ((a : A) (s : S) (b : B) (t : T) (k : ℕ) → Post a s b t → Agree Ends Post' (f a s k) (g b t k)) → Agree Ends Post' (then x f) (then y g)
  agree_then (both_give p) h = h _ _ _ _ _ p
  agree_then (both_stop e) h = both_stop e

module _ {S A T B : Type 0} where
  pub agree_weaken : {Ends : S → T → Type 0} {Post Post' : A → S → B → T → Type 0} {x : Run source.Stop S A} {y : Run c.Stop T B} → Agree Ends Post x y → ((a : A) (s : S) (b : B) (t : T) → Post a s b t → Post' a s b t) → Agree Ends Post' x y
  agree_weaken (both_give p) h = both_give (h _ _ _ _ p)
  agree_weaken (both_stop e) h = both_stop e

  -- what is known of the source's run alone
  pub agree_on : {Ends : S → T → Type 0} {Post : A → S → B → T → Type 0} {x : Run source.Stop S A} {y : Run c.Stop T B} (P : A → S → Type 0) → Agree Ends Post x y → On P x → Agree Ends (λ a s b t. Post a s b t × P a s) x y
  agree_on P (both_give p) h = both_give (p, h)
  agree_on P (both_stop e) h = both_stop e

module _ {S A T B A' : Type 0} where
  pub agree_map : {Ends : S → T → Type 0} {Post : A → S → B → T → Type 0} {Post' : A' → S → B → T → Type 0} {x : Run source.Stop S A} {y : Run c.Stop T B} (f : A → A') → Agree Ends Post x y → ((a : A) (s : S) (b : B) (t : T) → Post a s b t → Post' (f a) s b t) → Agree Ends Post' (then x (λ a. runs.pure (f a))) y
  agree_map f (both_give p) h = both_give (h _ _ _ _ p)
  agree_map f (both_stop e) h = both_stop e

-- ---- code

module _ (around : Around) where
  after_one : (more ys : Code) (r : Run c.Stop c.Store Flow) → ((t : c.Store) (k : ℕ) → flows_of around (more ⨾ ys) t k ≡ then (flows_of around more t k) (λ flow. unless_left flow (flows_of around ys))) → then r (λ flow. unless_left flow (flows_of around (more ⨾ ys))) ≡ then (then r (λ flow. unless_left flow (flows_of around more))) (λ flow. unless_left flow (flows_of around ys))
  after_one more ys (Gives Next t k) h = h t k
  after_one more ys (Gives Broke t k) h = refl
  after_one more ys (Gives Continued t k) h = refl
  after_one more ys (Gives (Returned v) t k) h = refl
  after_one more ys (Stops n t) h = refl

  pub flows-⨾ : (xs ys : Code) (t : c.Store) (k : ℕ) → flows_of around (xs ⨾ ys) t k ≡ then (flows_of around xs t k) (λ flow. unless_left flow (flows_of around ys))
  flows-⨾ done ys t k = refl
  flows-⨾ (do_then x more) ys t k = after_one more ys (flow_of around x t k) (flows-⨾ more ys)

  -- nothing follows
  pub then_done : (r : Run c.Stop c.Store Flow) → then r (λ flow. unless_left flow (flows_of around done)) ≡ r
  then_done (Gives Next t k) = refl
  then_done (Gives Broke t k) = refl
  then_done (Gives Continued t k) = refl
  then_done (Gives (Returned v) t k) = refl
  then_done (Stops n t) = refl

-- one world
abbrev pub SameWorld : Store → c.Store → Type 0
SameWorld s t = s.state.world ≡ t.state.world

-- code that goes on, and agrees
abbrev pub AgreeOn : {A : Type 0} → (A → Store → c.Store → Type 0) → Run source.Stop Store A → Run c.Stop c.Store Flow → Type 0
AgreeOn P = Agree SameWorld (λ a s flow t. (flow ≡ Next) × P a s t)

-- one code or the other
abbrev pub either_code : Bool → Code → Code → Code
either_code true p q = p
either_code false p q = q

-- a block without locals of its own
abbrev pub block_of : Code → Block
block_of code = tree.block [] code

module _ {A B : Type 0} (around : Around) where
  goes_on : (ys : Code) (P : A → Store → c.Store → Type 0) (Post : B → Store → Flow → c.Store → Type 0) (f : A → source.From Store B) (a : A) (s : Store) (flow : Flow) (t : c.Store) (k : ℕ) → flow ≡ Next → P a s t → ((a : A) (s : Store) (t : c.Store) (k : ℕ) → P a s t → Agree SameWorld Post (f a s k) (flows_of around ys t k)) → Agree SameWorld Post (f a s k) (unless_left flow (flows_of around ys) t k)
  goes_on ys P Post f a s flow t k e p h = rw e (h a s t k p)

  -- what follows code that agrees
  pub after : (xs ys : Code) (P : A → Store → c.Store → Type 0) (Post : B → Store → Flow → c.Store → Type 0) (x : Run source.Stop Store A) (f : A → source.From Store B) (t : c.Store) (k : ℕ) → AgreeOn P x (flows_of around xs t k) → ((a : A) (s : Store) (t : c.Store) (k : ℕ) → P a s t → Agree SameWorld Post (f a s k) (flows_of around ys t k)) → Agree SameWorld Post (then x f) (flows_of around (xs ⨾ ys) t k)
  after xs ys P Post x f t k first h = rw (flows-⨾ around xs ys t k) (agree_then first (λ a s flow t k p. goes_on ys P Post f a s flow t k p.0 p.1 h))

-- ---- one statement at a time, with what it reads

module _ {A : Type 0} (around : Around) (Post : A → Store → Flow → c.Store → Type 0) (x : Run source.Stop Store A) (ys : Code) (t : c.Store) (k : ℕ) where
  -- a branch is code like any other
  pub in_block : (code : Code) → Agree SameWorld Post x (flows_of around (code ⨾ ys) t k) → Agree SameWorld Post x ((then) (flow_in around (block_of code) t k) (λ flow. unless_left flow (flows_of around ys)))
  in_block code h = subst (λ r. Agree SameWorld Post x r) (flows-⨾ around code ys t k) h

  choose_code : (b : Bool) (p q : Code) → Agree SameWorld Post x (flows_of around (either_code b p q ⨾ ys) t k) → Agree SameWorld Post x (then (c.if_zero (holds.Int (c.bit_of b)) (flow_in around (block_of q)) (flow_in around (block_of p)) t k) (λ flow. unless_left flow (flows_of around ys)))
  choose_code true p q h = in_block p h
  choose_code false p q h = in_block q h

  -- a name with the bit of a truth value decides
  pub if_step : (y : List ℕ) (b : Bool) (p q : Code) → t.names y ≡ holds.Int (c.bit_of b) → Agree SameWorld Post x (flows_of around (either_code b p q ⨾ ys) t k) → Agree SameWorld Post x (flows_of around (do_then (tree.if_else (Name y) (block_of p) (block_of q)) ys) t k)
  if_step y b p q e h = subst (λ v. Agree SameWorld Post x (then (c.if_zero v (flow_in around (block_of q)) (flow_in around (block_of p)) t k) (λ flow. unless_left flow (flows_of around ys)))) (sym e) (choose_code b p q h)

  only_code : (b : Bool) (p : Code) → Agree SameWorld Post x (flows_of around (either_code b p done ⨾ ys) t k) → Agree SameWorld Post x (then (c.if_zero (holds.Int (c.bit_of b)) (runs.pure Next) (flow_in around (block_of p)) t k) (λ flow. unless_left flow (flows_of around ys)))
  only_code true p h = in_block p h
  only_code false p h = h

  pub only_step : (y : List ℕ) (b : Bool) (p : Code) → t.names y ≡ holds.Int (c.bit_of b) → Agree SameWorld Post x (flows_of around (either_code b p done ⨾ ys) t k) → Agree SameWorld Post x (flows_of around (do_then (tree.if_only (Name y) (block_of p)) ys) t k)
  only_step y b p e h = subst (λ v. Agree SameWorld Post x (then (c.if_zero v (runs.pure Next) (flow_in around (block_of p)) t k) (λ flow. unless_left flow (flows_of around ys)))) (sym e) (only_code b p h)

module _ {A : Type 0} (around : Around) (Post : A → Store → Flow → c.Store → Type 0) (x : Run source.Stop Store A) (t : c.Store) (k : ℕ) where
  last_code : (p : Code) → Agree SameWorld Post x (flows_of around p t k) → Agree SameWorld Post x (flows_of around (p ⨾ done) t k)
  last_code p h = subst (λ r. Agree SameWorld Post x r) (sym (flows-⨾ around p done t k ∙ then_done around (flows_of around p t k))) h

  either_last : (b : Bool) (p q : Code) → Agree SameWorld Post x (flows_of around (either_code b p q) t k) → Agree SameWorld Post x (flows_of around (either_code b p q ⨾ done) t k)
  either_last b p q h = last_code (either_code b p q) h

  -- a choice with nothing behind it
  pub if_last : (y : List ℕ) (b : Bool) (p q : Code) → t.names y ≡ holds.Int (c.bit_of b) → Agree SameWorld Post x (flows_of around (either_code b p q) t k) → Agree SameWorld Post x (flows_of around (just (tree.if_else (Name y) (block_of p) (block_of q))) t k)
  if_last y b p q e h = if_step around Post x done t k y b p q e (either_last b p q h)

  pub only_last : (y : List ℕ) (b : Bool) (p : Code) → t.names y ≡ holds.Int (c.bit_of b) → Agree SameWorld Post x (flows_of around (either_code b p done) t k) → Agree SameWorld Post x (flows_of around (just (tree.if_only (Name y) (block_of p))) t k)
  only_last y b p e h = only_step around Post x done t k y b p e (either_last b p done h)

-- ---- code that goes on, run as an equation

pub record Ran (around : Around) (xs : Code) (u : c.Store) (k : ℕ) (u' : c.Store) : Type 0 where
  pub by : flows_of around xs u k ≡ Gives Next u' k

abbrev pub with_value : c.Store → List ℕ → CValue → c.Store
with_value u x v = record { names = with_name u.names x v; kinds = u.kinds; state = u.state }

module _ (around : Around) where
  pub ran_done : (u : c.Store) (k : ℕ) → Ran around done u k u
  ran_done u k = record { by = refl }

  pub ran_then : (xs ys : Code) (u : c.Store) (k : ℕ) {u1 u2 : c.Store} → Ran around xs u k u1 → Ran around ys u1 k u2 → Ran around (xs ⨾ ys) u k u2
  ran_then xs ys u k f g = record { by = flows-⨾ around xs ys u k ∙ ap (λ r. then r (λ flow. unless_left flow (flows_of around ys))) f.by ∙ g.by }

  pub agree_ran : {A : Type 0} (Post : A → Store → Flow → c.Store → Type 0) (x : Run source.Stop Store A) (xs ys : Code) (u : c.Store) (k : ℕ) {u1 : c.Store} → Ran around xs u k u1 → Agree SameWorld Post x (flows_of around ys u1 k) → Agree SameWorld Post x (flows_of around (xs ⨾ ys) u k)
  agree_ran Post x xs ys u k f h = subst (λ r. Agree SameWorld Post x r) (sym (flows-⨾ around xs ys u k ∙ ap (λ r. then r (λ flow. unless_left flow (flows_of around ys))) f.by)) h

  -- nothing follows
  pub gives_ran : {A : Type 0} (Post : A → Store → Flow → c.Store → Type 0) (x : Run source.Stop Store A) (xs : Code) (u : c.Store) (k : ℕ) {u1 : c.Store} → Ran around xs u k u1 → Agree SameWorld Post x (Gives Next u1 k) → Agree SameWorld Post x (flows_of around xs u k)
  gives_ran Post x xs u k f h = subst (λ r. Agree SameWorld Post x r) (sym f.by) h

  -- what the name receives stays as it is
  pub set_ran : (x : List ℕ) (r : CExpr) (v : CValue) (u : c.Store) (k : ℕ) → c.right_of around r u k ≡ Gives v u k → c.fitted (u.kinds x) v ≡ v → Ran around (just (tree.assign x r)) u k (with_value u x v)
  set_ran x r v u k e d = record { by = ap (λ y. then (then y (λ v. runs.◌>>=◌ (c.set_name x v) (λ z. runs.pure Next))) (λ flow. unless_left flow (flows_of around done))) e ∙ ap (λ w. Gives Next (with_value u x w) k) d }

  block_ran : (b : Bool) (p q : Code) (u : c.Store) (k : ℕ) {u' : c.Store} → Ran around (either_code b p q) u k u' → c.if_zero (holds.Int (c.bit_of b)) (flow_in around (block_of q)) (flow_in around (block_of p)) u k ≡ Gives Next u' k
  block_ran true p q u k h = h.by
  block_ran false p q u k h = h.by

  pub if_ran : (y : List ℕ) (b : Bool) (p q : Code) (u : c.Store) (k : ℕ) {u' : c.Store} → u.names y ≡ holds.Int (c.bit_of b) → Ran around (either_code b p q) u k u' → Ran around (just (tree.if_else (Name y) (block_of p) (block_of q))) u k u'
  if_ran y b p q u k e h = record { by = ap (λ v. then (c.if_zero v (flow_in around (block_of q)) (flow_in around (block_of p)) u k) (λ flow. unless_left flow (flows_of around done))) e ∙ ap (λ r. then r (λ flow. unless_left flow (flows_of around done))) (block_ran b p q u k h) }

  -- what stands behind a choice, as it goes on
  only_at : (b : Bool) (p : Code) (ys : Code) (u : c.Store) (k : ℕ) → then (c.if_zero (holds.Int (c.bit_of b)) (runs.pure Next) (flow_in around (block_of p)) u k) (λ flow. unless_left flow (flows_of around ys)) ≡ flows_of around (either_code b p done ⨾ ys) u k
  only_at true p ys u k = sym (flows-⨾ around p ys u k)
  only_at false p ys u k = refl

  pub only_is : (u : c.Store) (k : ℕ) (y : List ℕ) (b : Bool) (p ys : Code) → u.names y ≡ holds.Int (c.bit_of b) → flows_of around (do_then (tree.if_only (Name y) (block_of p)) ys) u k ≡ flows_of around (either_code b p done ⨾ ys) u k
  only_is u k y b p ys e = ap (λ v. then (c.if_zero v (runs.pure Next) (flow_in around (block_of p)) u k) (λ flow. unless_left flow (flows_of around ys))) e ∙ only_at b p ys u k

  only_block : (b : Bool) (p : Code) (u : c.Store) (k : ℕ) {u' : c.Store} → Ran around (either_code b p done) u k u' → c.if_zero (holds.Int (c.bit_of b)) (runs.pure Next) (flow_in around (block_of p)) u k ≡ Gives Next u' k
  only_block true p u k h = h.by
  only_block false p u k h = h.by

  pub only_ran : (y : List ℕ) (b : Bool) (p : Code) (u : c.Store) (k : ℕ) {u' : c.Store} → u.names y ≡ holds.Int (c.bit_of b) → Ran around (either_code b p done) u k u' → Ran around (just (tree.if_only (Name y) (block_of p))) u k u'
  only_ran y b p u k e h = record { by = ap (λ v. then (c.if_zero v (runs.pure Next) (flow_in around (block_of p)) u k) (λ flow. unless_left flow (flows_of around done))) e ∙ ap (λ r. then r (λ flow. unless_left flow (flows_of around done))) (only_block b p u k h) }

-- what a right side gives, from what its names hold
module _ (around : Around) (t : c.Store) (k : ℕ) where
  pub copy_gives : (a : CAtom) (v : CValue) → c.atom_of t.names a ≡ v → c.right_of around (Atom a) t k ≡ Gives v t k
  copy_gives a v e = ap (λ v. Gives v t k) e

  some_gives : (o : Option CValue) (v : CValue) → o ≡ Some v → c.or_stuck o t k ≡ Gives v t k
  some_gives o v e = ap (λ o. c.or_stuck o t k) e

  pub op_gives : (a b : CAtom) (o : COperator) (v w r : CValue) → c.atom_of t.names a ≡ v → c.atom_of t.names b ≡ w → c.operate t.state.memory o v w ≡ Some r → c.right_of around (Binary a o b) t k ≡ Gives r t k
  op_gives a b o v w r e e' h = some_gives _ r (rw (e, e') h)
