-- What the views of trees in memory give, variant by variant.
use Rattle.std.proofs.Common.{◌≡◌, ℕ, List, [], ◌∷◌, ◌++◌, refl, sym, ap, ◌∙◌}
use Rattle.mm_c.specs.declared.value.CCell.{CCell}
use Rattle.mm_c.specs.declared.tree.CAtom.{CAtom}
use Rattle.mm_c.specs.declared.tree.CAddress.{CAddress}
use Rattle.mm_c.specs.declared.tree.CCall.{CCall}
use Rattle.mm_c.specs.declared.tree.CExpr.{CExpr}
use Rattle.mm_c.specs.declared.tree.CLocal.{CLocal}
use Rattle.mm_c.specs.declared.tree.CStmt.{CStmt, fold-roll-CStmt}
use Rattle.mm_c.specs.declared.tree.CStmt.TheVariants.{Assign, Store, Call, If, IfElse, While, Break, Continue, Return, ReturnValue, rolls-Assign, rolls-Store, rolls-Call, rolls-If, rolls-IfElse, rolls-While, rolls-Break, rolls-Continue, rolls-Return, rolls-ReturnValue}
use Rattle.mm_c.specs.declared.tree.CStmt.TheOpen as open_
use Rattle.mm_c.specs.declared.tree.CBlock.{CBlock, fold-roll-CBlock}
use Rattle.mm_c.specs.Tree as t
use Rattle.mm_c.specs.Tree.{Code, done, do_then, ◌⨾◌, just}
use Rattle.mm_c.specs.View.{stmt_step, block_step, stmt_view, block_view, code_view}

pub ⨾-assoc : (a b c : Code) → (a ⨾ b) ⨾ c ≡ a ⨾ (b ⨾ c)
⨾-assoc done b c = refl
⨾-assoc (do_then s a) b c = ap (do_then s) (⨾-assoc a b c)

pub ⨾-done : (a : Code) → a ⨾ done ≡ a
⨾-done done = refl
⨾-done (do_then s a) = ap (do_then s) (⨾-done a)

pub code_view-push : (ss : List CStmt) (s : CStmt) → code_view (ss ++ s ∷ []) ≡ code_view ss ⨾ just (stmt_view s)
code_view-push [] s = refl
code_view-push (x ∷ ss) s = ap (do_then (stmt_view x)) (code_view-push ss s)

pub view-Assign : (x : List ℕ) (r : CExpr) → stmt_view (Assign x r) ≡ t.assign x r
view-Assign x r = ap stmt_view (sym (rolls-Assign x r)) ∙ fold-roll-CStmt t.Stmt t.Block stmt_step block_step (open_.Assign x r)

pub view-Store : (c : CCell) (p : CAddress) (a : CAtom) → stmt_view (Store c p a) ≡ t.store c p a
view-Store c p a = ap stmt_view (sym (rolls-Store c p a)) ∙ fold-roll-CStmt t.Stmt t.Block stmt_step block_step (open_.Store c p a)

pub view-Call : (c : CCall) → stmt_view (Call c) ≡ t.run c
view-Call c = ap stmt_view (sym (rolls-Call c)) ∙ fold-roll-CStmt t.Stmt t.Block stmt_step block_step (open_.Call c)

pub view-If : (a : CAtom) (b : CBlock) → stmt_view (If a b) ≡ t.if_only a (block_view b)
view-If a b = ap stmt_view (sym (rolls-If a b)) ∙ fold-roll-CStmt t.Stmt t.Block stmt_step block_step (open_.If a b)

pub view-IfElse : (a : CAtom) (b c : CBlock) → stmt_view (IfElse a b c) ≡ t.if_else a (block_view b) (block_view c)
view-IfElse a b c = ap stmt_view (sym (rolls-IfElse a b c)) ∙ fold-roll-CStmt t.Stmt t.Block stmt_step block_step (open_.IfElse a b c)

pub view-While : (b : CBlock) → stmt_view (While b) ≡ t.forever (block_view b)
view-While b = ap stmt_view (sym (rolls-While b)) ∙ fold-roll-CStmt t.Stmt t.Block stmt_step block_step (open_.While b)

pub view-Break : stmt_view Break ≡ t.break
view-Break = ap stmt_view (sym rolls-Break) ∙ fold-roll-CStmt t.Stmt t.Block stmt_step block_step open_.Break

pub view-Continue : stmt_view Continue ≡ t.continue
view-Continue = ap stmt_view (sym rolls-Continue) ∙ fold-roll-CStmt t.Stmt t.Block stmt_step block_step open_.Continue

pub view-Return : stmt_view Return ≡ t.leave
view-Return = ap stmt_view (sym rolls-Return) ∙ fold-roll-CStmt t.Stmt t.Block stmt_step block_step open_.Return

pub view-ReturnValue : (a : CAtom) → stmt_view (ReturnValue a) ≡ t.return a
view-ReturnValue a = ap stmt_view (sym (rolls-ReturnValue a)) ∙ fold-roll-CStmt t.Stmt t.Block stmt_step block_step (open_.ReturnValue a)

pub view-block : (xs : List CLocal) (ss : List CStmt) → block_view (record { locals = xs; body = ss }) ≡ t.block xs (code_view ss)
view-block xs ss = fold-roll-CBlock t.Stmt t.Block stmt_step block_step (record { locals = xs; body = ss })

pub ruleset code_rules = (⨾-assoc, ⨾-done, code_view-push, view-Assign, view-Store, view-Call, view-If, view-IfElse, view-While, view-Break, view-Continue, view-Return, view-ReturnValue, view-block)
