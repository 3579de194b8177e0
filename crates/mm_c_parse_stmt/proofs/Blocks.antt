-- The exits of the readers of blocks, and of the statements around them.
use Rattle.std.proofs.Common.{◌≡◌, ℕ, zero, suc, List, [], ◌∷◌, ◌++◌, refl, ap, sym, ◌∙◌, subst, Option, Some, None}
use Rattle.mm_grammar.specs.Grammar.{name, many, Avoids, Reads, Fails}
use Rattle.mm_c.specs.declared.tree.CAtom.{CAtom}
use Rattle.mm_c.specs.declared.tree.CLocal.{CLocal}
use Rattle.mm_c.specs.Tree as t
use Rattle.mm_c.specs.Tree.{Stmt, Block, Code}
use Rattle.mm_c.specs.Tokens.{Token, Place, class_of}
use Rattle.mm_c.specs.Grammar.{Placed, texts, local, block, store_stmt, if_stmt, while_stmt, branched, around, at}
use Rattle.mm_c_parse.specs.Steps.{Marks, Broken}
use Rattle.mm_c_parse.proofs.Steps.{none_took, rg, fg, rs, ff, fs, rn, fn_, mr, mf, mb, mw, mw_not, kr, kf, nr, rz, ug, uf}
use Rattle.mm_c_parse.proofs.Seen.{rl}
use Rattle.mm_c_parse_stmt.specs.Parts.{enclosed, if_end, while_end, store_end, stmts, chosen}
use Rattle.mm_c_parse_stmt.proofs.Gathers.{here}
use Rattle.mm_c_parse_stmt.proofs.Firsts.{first_read}

-- ---- block

pub block_none : {d : ℕ} {ts : List Token} → d ≡ 0 → Fails texts (name (block d)) ts ts
block_none {d} {ts} e = subst (λ (n : ℕ). Fails texts (name (block n)) ts ts) (sym e) (fn_ {x = block zero} (fg (none_took [] refl (λ k r e h. absurd (cc)))))

module _ {d n : ℕ} (e : suc d ≡ n) where
  pub block_no_brace : {ts r : List Token} → Broken (22 ∷ []) ts r → Fails texts (name (block n)) ts r
  block_no_brace {ts} {r} b = subst (λ (n : ℕ). Fails texts (name (block n)) ts r) e (fn_ {x = block (suc d)} (fg (mb (22 ∷ []) _ refl b)))

  pub block_no_locals : {ts us r : List Token} → Marks (22 ∷ []) ts us → Fails texts (many local) us r → Fails texts (name (block n)) ts r
  block_no_locals {ts} {us} {r} k a = subst (λ (n : ℕ). Fails texts (name (block n)) ts r) e (fn_ {x = block (suc d)} (fg (mf (22 ∷ []) refl k (ff refl a))))

  pub block_no_body : {ts us m r : List Token} {xs : List CLocal} → Marks (22 ∷ []) ts us → Reads texts (many local) us xs m → Fails texts (stmts d) m r → Fails texts (name (block n)) ts r
  block_no_body {ts} {us} {m} {r} k l a = subst (λ (n : ℕ). Fails texts (name (block n)) ts r) e (fn_ {x = block (suc d)} (fg (mf (22 ∷ []) refl k (fs refl l (fg (ff refl (uf a)))))))

  pub block_not_ended : {ts us m o r : List Token} {xs : List CLocal} {b : Placed Code} → Marks (22 ∷ []) ts us → Reads texts (many local) us xs m → Reads texts (stmts d) m b o → Broken (23 ∷ []) o r → Fails texts (name (block n)) ts r
  block_not_ended {ts} {us} {m} {o} {r} k l a b = let u = ug a in subst (λ (n : ℕ). Fails texts (name (block n)) ts r) e (fn_ {x = block (suc d)} (fg (mf (22 ∷ []) refl k (fs refl l (fg (fs refl u.2 (mw_not b)))))))

  pub block_reads : {ts us m o r : List Token} {xs : List CLocal} {c : Code} {ps : List Place} → Marks (22 ∷ []) ts us → Reads texts (many local) us xs m → Reads texts (stmts d) m (here c ps) o → Marks (23 ∷ []) o r → Reads texts (name (block n)) ts (here (t.block xs c) ps) r
  block_reads {ts} {us} {m} {o} {r} {xs} {c} {ps} k l a f =
      let u = ug a in
      subst (λ (n : ℕ). Reads texts (name (block n)) ts (here (t.block xs c) ps) r) e
      (rn {x = block (suc d)} (rg (mr (22 ∷ []) refl k (rs refl l (rl refl u.2 (mw f).1))) (ap (λ (q : Placed Code). here (t.block xs q.tree) q.places) u.1)))

-- ---- what follows `if` and `while`

pub if_no_test : {d : ℕ} {ts r : List Token} → Fails texts enclosed ts r → Fails texts (if_end d) ts r
if_no_test a = fg (ff refl a)

pub if_no_body : {d : ℕ} {ts m r : List Token} {a : CAtom} → Reads texts enclosed ts a m → Fails texts (name (block d)) m r → Fails texts (if_end d) ts r
if_no_body v b = fg (fs refl v (ff refl b))

pub if_no_other : {d : ℕ} {ts m o us r : List Token} {a : CAtom} {b : Placed Block} → Reads texts enclosed ts a m → Reads texts (name (block d)) m b o → Marks (51 ∷ []) o us → Fails texts (name (block d)) us r → Fails texts (if_end d) ts r
if_no_other v b k f = fg (fs refl v (fs refl b (kf refl refl k f (fg (mf (51 ∷ []) refl k f)))))

pub if_both : {d : ℕ} {ts m o us r : List Token} {a : CAtom} {b c : Placed Block} → Reads texts enclosed ts a m → Reads texts (name (block d)) m b o → Marks (51 ∷ []) o us → Reads texts (name (block d)) us c r → Reads texts (if_end d) ts (here (t.if_else a b.tree c.tree) (b.places ++ c.places)) r
if_both v b k f = rg (rs refl v (rs refl b (kr refl refl k (rg (mr (51 ∷ []) refl k f) refl)))) refl

pub if_alone : {d : ℕ} {ts m o r : List Token} {a : CAtom} {b : Placed Block} → Reads texts enclosed ts a m → Reads texts (name (block d)) m b o → r ≡ o → Avoids texts (51 ∷ []) o → Reads texts (if_end d) ts (here (t.if_only a b.tree) b.places) r
if_alone {d} {ts} {m} {o} {r} {a} {b} v f e n =
    subst (λ l. Reads texts (if_end d) ts (here (t.if_only a b.tree) b.places) l) (sym e)
    (rg (rs refl v (rs refl f (nr (51 ∷ []) refl refl refl n (rg rz refl)))) refl)

pub while_no_test : {d : ℕ} {ts r : List Token} → Broken (20 ∷ 12 ∷ 21 ∷ []) ts r → Fails texts (while_end d) ts r
while_no_test {d} b = fg (mb (20 ∷ 12 ∷ 21 ∷ []) (name (block d)) refl b)

pub while_no_body : {d : ℕ} {ts m r : List Token} → Marks (20 ∷ 12 ∷ 21 ∷ []) ts m → Fails texts (name (block d)) m r → Fails texts (while_end d) ts r
while_no_body k a = fg (mf (20 ∷ 12 ∷ 21 ∷ []) refl k a)

pub while_reads : {d : ℕ} {ts m r : List Token} {b : Placed Block} → Marks (20 ∷ 12 ∷ 21 ∷ []) ts m → Reads texts (name (block d)) m b r → Reads texts (while_end d) ts (here (t.forever b.tree) b.places) r
while_reads k a = rg (mr (20 ∷ 12 ∷ 21 ∷ []) refl k a) refl

-- ---- with the first token

abbrev put : Place → Placed Stmt → Placed Stmt
put p s = around s.tree p s.places

chosen_branched : (x : Token) (a : CAtom) (b : Placed Block) (o : Option (Placed Block)) → put x.place (chosen a b o) ≡ branched x a b o
chosen_branched x a b None = refl
chosen_branched x a b (Some c) = refl

module _ {x : Token} {ts us : List Token} (e : ts ≡ x ∷ us) where
  pub store_reads : {r : List Token} {v : Stmt} → class_of x ≡ 29 → Reads texts store_end us v r → Reads texts store_stmt ts (at v x.place) r
  store_reads k a = let u = ug a in rg (rs refl (first_read refl e k) u.2) (ap (λ (s : Stmt). at s x.place) u.1)

  pub store_not : {r : List Token} → class_of x ≡ 29 → Fails texts store_end us r → Fails texts store_stmt ts r
  store_not k a = fg (fs refl (first_read refl e k) (uf a))

  pub if_reads : {d : ℕ} {r : List Token} {v : Placed Stmt} → class_of x ≡ 50 → Reads texts (if_end d) us v r → Reads texts (if_stmt d) ts (put x.place v) r
  if_reads k a = let u = ug a in rg (rs refl (first_read refl e k) u.2) (ap (λ s. put x.place s) u.1 ∙ chosen_branched x u.0.0 u.0.1.0 u.0.1.1)

  pub if_not : {d : ℕ} {r : List Token} → class_of x ≡ 50 → Fails texts (if_end d) us r → Fails texts (if_stmt d) ts r
  if_not k a = fg (fs refl (first_read refl e k) (uf a))

  pub while_is_read : {d : ℕ} {r : List Token} {v : Placed Stmt} → class_of x ≡ 52 → Reads texts (while_end d) us v r → Reads texts (while_stmt d) ts (put x.place v) r
  while_is_read k a = let u = ug a in rg (rs refl (first_read refl e k) u.2) (ap (λ s. put x.place s) u.1)

  pub while_not : {d : ℕ} {r : List Token} → class_of x ≡ 52 → Fails texts (while_end d) us r → Fails texts (while_stmt d) ts r
  while_not k a = fg (fs refl (first_read refl e k) (uf a))
