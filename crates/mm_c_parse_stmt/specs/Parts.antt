-- The parts of the grammar of statements that functions of their own read. Own.
use Rattle.std.specs.Prelude.{ℕ, List, [], ◌∷◌, ◌++◌, map, flat_map, Option, Some, None}
use Rattle.mm_grammar.specs.Grammar.{give, name, seq, many, opt}
use Rattle.mm_c.specs.declared.tree.CKind.{CKind}
use Rattle.mm_c.specs.declared.tree.CAtom.{CAtom}
use Rattle.mm_c.specs.declared.tree.CCall.{CCall}
use Rattle.mm_c.specs.declared.tree.CCall.TheVariants as call_is
use Rattle.mm_c.specs.declared.tree.CLocal.{CLocal}
use Rattle.mm_c.specs.Tokens.{names}
use Rattle.mm_c.specs.Tree as t
use Rattle.mm_c.specs.Tree.{Stmt, Block, Code}
use Rattle.mm_c.specs.Grammar.{P, Placed, at, w, ident, atom, address, arguments, after_first, store_cell, returned, block, stmt, return_stmt, ◌▸◌, ◌◂◌, ◌∣◌}

-- the classes of tokens that locals begin with, and statements
abbrev pub kinds : List ℕ
kinds = 45 ∷ 46 ∷ 47 ∷ 48 ∷ []

abbrev pub stmt_firsts : List ℕ
stmt_firsts = names ++ 29 ∷ 50 ∷ 52 ∷ 53 ∷ 54 ∷ 55 ∷ []

-- the tree of a part that has no places
abbrev pub bare : {A : Type 0} → A → Placed A
bare v = record { tree = v; places = [] }

-- what follows the tokens of a kind, whose zero is of this class
abbrev pub local_end : CKind → ℕ → P CLocal
local_end k z = give (λ x. record { kind = k; name = x }) (ident ◂ w 28 ◂ w z ◂ w 26)

-- what follows this name and `[`, in a statement
abbrev pub element_end : List ℕ → P CCall
element_end x = give (λ v. call_is.Element x v.0 v.1) (seq (ident ◂ w 25) arguments)

-- what follows the name that a statement begins with, and the `;`
abbrev pub simple_end : List ℕ → P Stmt
simple_end x = give (λ f. f x) (after_first ◂ w 26)

abbrev pub after_first_of : List ℕ → P Stmt
after_first_of x = give (λ f. f x) after_first

-- what follows the `*` of a store
abbrev pub store_end : P Stmt
store_end = give (λ v. t.store v.0 v.1.0 v.1.1) (w 20 ▸ seq store_cell (seq address (w 28 ▸ atom ◂ w 26)))

-- an operand in parentheses
abbrev pub enclosed : P CAtom
enclosed = w 20 ▸ atom ◂ w 21

abbrev pub chosen : CAtom → Placed Block → Option (Placed Block) → Placed Stmt
chosen a b None = record { tree = t.if_only a b.tree; places = b.places }
chosen a b (Some c) = record { tree = t.if_else a b.tree c.tree; places = b.places ++ c.places }

-- what follows `if`
abbrev pub if_end : ℕ → P (Placed Stmt)
if_end d = give (λ v. chosen v.0 v.1.0 v.1.1) (seq enclosed (seq (name (block d)) (opt (w 51 ▸ name (block d)))))

-- what follows `while`
abbrev pub while_end : ℕ → P (Placed Stmt)
while_end d = give (λ v. record { tree = t.forever v.tree; places = v.places }) (w 20 ▸ w 12 ▸ w 21 ▸ name (block d))

-- what follows `return`
abbrev pub return_end : P Stmt
return_end = give returned (opt atom ◂ w 26)

-- a `break`, a `continue` or a `return`
abbrev pub jump : P (Placed Stmt)
jump = give (λ x. at t.break x.place) (w 53 ◂ w 26) ∣ give (λ x. at t.continue x.place) (w 54 ◂ w 26) ∣ return_stmt

abbrev pub code_in : List (Placed Stmt) → Placed Code
code_in ss = record { tree = t.code_of (map (λ (s : Placed Stmt). s.tree) ss); places = flat_map (λ (s : Placed Stmt). s.places) ss }

-- the statements of a block
abbrev pub stmts : ℕ → P (Placed Code)
stmts d = give code_in (many (name (stmt d)))
