-- The parts of the grammar that functions of their own read. Own.
use Rattle.std.specs.Prelude.{ℕ, List, [], ◌∷◌}
use Rattle.mm_grammar.specs.Grammar.{give, name, opt, seq}
use Rattle.mm_c.specs.declared.tree.CAtom.{CAtom}
use Rattle.mm_c.specs.declared.tree.CAtom.TheVariants as atom_is
use Rattle.mm_c.specs.declared.tree.CAddress.{CAddress}
use Rattle.mm_c.specs.declared.tree.CExpr.{CExpr}
use Rattle.mm_c.specs.declared.tree.COperator.{COperator}
use Rattle.mm_c.specs.declared.tree.COperator.TheVariants as by
use Rattle.mm_c.specs.Grammar.{P, atoms, w, ident, number, tag, arguments, called_or, operated, indexed, after_name, ◌◂◌, ◌▸◌}
use Rattle.mm_c_text.specs.declared.class.Class.{Class}
use Rattle.mm_c_text.specs.declared.class.Class.TheVariants as class

-- the classes of operators
abbrev pub signs : List ℕ
signs = 29 ∷ 30 ∷ 31 ∷ 32 ∷ 33 ∷ 34 ∷ 35 ∷ 36 ∷ 37 ∷ 38 ∷ 39 ∷ []

abbrev pub operator_of : Class → COperator
operator_of class.Star = by.Multiply
operator_of class.Plus = by.Add
operator_of class.Minus = by.Subtract
operator_of class.Slash = by.Divide
operator_of class.Percent = by.Remainder
operator_of class.Less = by.Less
operator_of class.Greater = by.Greater
operator_of class.LessEqual = by.LessEqual
operator_of class.GreaterEqual = by.GreaterEqual
operator_of class.EqualEqual = by.Equal
operator_of _ = by.NotEqual

-- arguments behind their `(`
abbrev pub arguments_end : P (List CAtom)
arguments_end = name atoms ◂ w 21

-- what may follow this operand
abbrev pub operated_of : CAtom → P CExpr
operated_of a = give (λ f. f a) operated

-- what may follow this name and `[`
abbrev pub indexed_of : List ℕ → P CExpr
indexed_of x = give (λ f. f x) indexed

-- what may follow this name
abbrev pub after_name_of : List ℕ → P CExpr
after_name_of x = give (λ f. f x) after_name

-- a tag, closed
abbrev pub closed_tag : P CAddress
closed_tag = tag ◂ w 25

-- what may follow this array and this index in brackets
abbrev pub index_end : List ℕ → List ℕ → P CExpr
index_end x i = give (λ o. called_or i o x) (opt arguments)

-- the name that is converted, behind the type and `)`
abbrev pub closed_name : P (List ℕ)
closed_name = w 21 ▸ ident

-- a number behind a `-`, and what follows it
abbrev pub negated : P CExpr
negated = give (λ v. v.1 (atom_is.Negative v.0)) (seq number operated)
