-- What the view of trees in memory gives, variant by variant.
use Rattle.std.proofs.Common.{◌≡◌, List, [], ◌∷◌, ◌++◌, Option, refl, sym, ap, ◌∙◌}
use Rattle.mm_c.specs.declared.value.CCell.{CCell}
use Rattle.mm_c_placed.specs.declared.tree.Operand.{Operand}
use Rattle.mm_c_placed.specs.declared.tree.Address.{Address}
use Rattle.mm_c_placed.specs.declared.tree.Right.{Right}
use Rattle.mm_c_placed.specs.declared.tree.Target.{Target}
use Rattle.mm_c_placed.specs.declared.tree.Local.{Local}
use Rattle.mm_c_placed.specs.declared.tree.PlacedStmt.{PlacedStmt, fold-roll-PlacedStmt}
use Rattle.mm_c_placed.specs.declared.tree.PlacedStmt.TheVariants.{Locals, Assign, Store, Call, If, While, Break, Continue, Return, ReturnValue, rolls-Locals, rolls-Assign, rolls-Store, rolls-Call, rolls-If, rolls-While, rolls-Break, rolls-Continue, rolls-Return, rolls-ReturnValue}
use Rattle.mm_c_placed.specs.declared.tree.PlacedStmt.TheOpen as open_
use Rattle.mm_c_placed.specs.Tree as t
use Rattle.mm_c_placed.specs.Tree.{Code, done, do_then, ◌⨾◌, just}
use Rattle.mm_c_placed.specs.View.{stmt_step, stmt_view, code_view}

pub ⨾-assoc : (a b c : Code) → (a ⨾ b) ⨾ c ≡ a ⨾ (b ⨾ c)
⨾-assoc done b c = refl
⨾-assoc (do_then s a) b c = ap (do_then s) (⨾-assoc a b c)

pub ⨾-done : (a : Code) → a ⨾ done ≡ a
⨾-done done = refl
⨾-done (do_then s a) = ap (do_then s) (⨾-done a)

pub code_view-push : (ss : List PlacedStmt) (s : PlacedStmt) → code_view (ss ++ s ∷ []) ≡ code_view ss ⨾ just (stmt_view s)
code_view-push [] s = refl
code_view-push (x ∷ ss) s = ap (do_then (stmt_view x)) (code_view-push ss s)

pub view-Locals : (xs : List Local) → stmt_view (Locals xs) ≡ t.locals xs
view-Locals xs = ap stmt_view (sym (rolls-Locals xs)) ∙ fold-roll-PlacedStmt t.Stmt stmt_step (open_.Locals xs)

pub view-Assign : (x : Local) (r : Right) → stmt_view (Assign x r) ≡ t.assign x r
view-Assign x r = ap stmt_view (sym (rolls-Assign x r)) ∙ fold-roll-PlacedStmt t.Stmt stmt_step (open_.Assign x r)

pub view-Store : (c : CCell) (p : Address) (a : Operand) → stmt_view (Store c p a) ≡ t.store c p a
view-Store c p a = ap stmt_view (sym (rolls-Store c p a)) ∙ fold-roll-PlacedStmt t.Stmt stmt_step (open_.Store c p a)

pub view-Call : (x : Option Local) (f : Target) (as_ : List Operand) → stmt_view (Call x f as_) ≡ t.run x f as_
view-Call x f as_ = ap stmt_view (sym (rolls-Call x f as_)) ∙ fold-roll-PlacedStmt t.Stmt stmt_step (open_.Call x f as_)

pub view-If : (a : Operand) (b c : List PlacedStmt) → stmt_view (If a b c) ≡ t.if_else a (code_view b) (code_view c)
view-If a b c = ap stmt_view (sym (rolls-If a b c)) ∙ fold-roll-PlacedStmt t.Stmt stmt_step (open_.If a b c)

pub view-While : (b : List PlacedStmt) → stmt_view (While b) ≡ t.forever (code_view b)
view-While b = ap stmt_view (sym (rolls-While b)) ∙ fold-roll-PlacedStmt t.Stmt stmt_step (open_.While b)

pub view-Break : stmt_view Break ≡ t.break
view-Break = ap stmt_view (sym rolls-Break) ∙ fold-roll-PlacedStmt t.Stmt stmt_step open_.Break

pub view-Continue : stmt_view Continue ≡ t.continue
view-Continue = ap stmt_view (sym rolls-Continue) ∙ fold-roll-PlacedStmt t.Stmt stmt_step open_.Continue

pub view-Return : stmt_view Return ≡ t.leave
view-Return = ap stmt_view (sym rolls-Return) ∙ fold-roll-PlacedStmt t.Stmt stmt_step open_.Return

pub view-ReturnValue : (a : Operand) → stmt_view (ReturnValue a) ≡ t.return a
view-ReturnValue a = ap stmt_view (sym (rolls-ReturnValue a)) ∙ fold-roll-PlacedStmt t.Stmt stmt_step (open_.ReturnValue a)

pub ruleset placed_rules = (⨾-assoc, ⨾-done, code_view-push, view-Locals, view-Assign, view-Store, view-Call, view-If, view-While, view-Break, view-Continue, view-Return, view-ReturnValue)
