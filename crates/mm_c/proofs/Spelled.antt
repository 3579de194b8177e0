-- What is written of a tree of the grammar is a text of the grammar, with this tree.
use Rattle.std.specs.Prelude.{Bool, true, false, ◌&&◌, map}
use Rattle.std.proofs.Common.{◌≡◌, ℕ, zero, suc, List, [], ◌∷◌, ◌++◌, Option, Some, None, refl, ap, ◌∙◌, codes, append-nil}
use Rattle.mm_grammar.specs.Grammar.{name, many, give, opt, has}
use Rattle.mm_c.specs.declared.value.CCell.{CCell}
use Rattle.mm_c.specs.declared.value.CCell.TheVariants as cell
use Rattle.mm_c.specs.declared.tree.CKind.{CKind}
use Rattle.mm_c.specs.declared.tree.CKind.TheVariants as kind_is
use Rattle.mm_c.specs.declared.tree.CNumber.{CNumber}
use Rattle.mm_c.specs.declared.tree.CAtom.{CAtom}
use Rattle.mm_c.specs.declared.tree.CAtom.TheVariants as atom_is
use Rattle.mm_c.specs.declared.tree.COperator.{COperator}
use Rattle.mm_c.specs.declared.tree.COperator.TheVariants as by
use Rattle.mm_c.specs.declared.tree.CAddress.{CAddress}
use Rattle.mm_c.specs.declared.tree.CIndex.TheVariants as index_is
use Rattle.mm_c.specs.declared.tree.CCall.TheVariants as call_is
use Rattle.mm_c.specs.declared.tree.CExpr.{CExpr}
use Rattle.mm_c.specs.declared.tree.CExpr.TheVariants as expr
use Rattle.mm_c.specs.declared.tree.CLocal.{CLocal}
use Rattle.mm_c.specs.declared.tree.CLinkage.{CLinkage}
use Rattle.mm_c.specs.declared.tree.CLinkage.TheVariants as linkage_is
use Rattle.mm_c.specs.declared.tree.CElement.{CElement}
use Rattle.mm_c.specs.declared.tree.CElement.TheVariants as element_is
use Rattle.mm_c.specs.declared.tree.CTypedef.{CTypedef}
use Rattle.mm_c.specs.declared.tree.CArray.{CArray}
use Rattle.mm_c.specs.Tree as t
use Rattle.mm_c.specs.Tree.{Stmt, Block, Code, done, do_then, Function, Item, Program}
use Rattle.mm_c.specs.Tokens.{Token, Place, classes, class_in, names, numbers, number_in, is_number}
use Rattle.mm_c.specs.WellFormed.{is_name, list_every}
use Rattle.mm_c.specs.Grammar.{P, Placed, program, item, right, atoms, block, stmt, w, ◌▸◌, ◌◂◌, as_, ◌∣◌, listed, ident, number, pointer, kind_at, kind, result_at, result, kinds, named, params, local_of, local, least, atom, op, load_cell, unsigned_or, store_cell, address, tag, arguments, operated, called_or, indexed, after_name, after_open, right_rule, at, around, after_first, branched, returned, block_of, element, array_rule, head, function_of, is_there, proto_or, after_static, typedef_rule, prelude, program_of}
use Rattle.mm_c.specs.Printing.{number_text, kind_tokens, result_tokens, param_tokens, or_void, joined, local_tokens, least_tokens, atom_tokens, operator_token, cell_tokens, address_tokens, place_tokens, arguments_tokens, right_tokens, condition_tokens, stmt_tokens, block_tokens, code_tokens, head_tokens, element_tokens, array_type, proto_tokens, function_tokens, item_tokens, prelude_tokens, program_tokens, atom_ok, address_ok, is_loaded, right_ok, local_ok, stmt_ok, block_ok, code_ok, element_ok, functions_ok, is_some_list, item_ok, program_ok}
use Rattle.mm_c.proofs.Bools.{and_left, and_right}
use Rattle.mm_c.proofs.Numerals.{number_back, number_class}
use Rattle.mm_c.proofs.Writes.{Writes, EachIs, w_one, w_none, w_seq, w_give, w_after, w_before, w_as, w_left, w_right, w_more, w_some, w_nothing, w_name, w_many, w_many_none, w_many_more, w_words, w_listed, each_same}

lit : (c : ℕ) (x : List ℕ) → has (class_in classes x) (c ∷ []) ≡ true → Writes (w c) (x ∷ []) (λ v. v.text ≡ x)
lit c x h = w_one (c ∷ []) x h

ident_w : (x : List ℕ) → is_name x ≡ true → Writes ident (x ∷ []) (λ v. v ≡ x)
ident_w x h = w_give (λ (v : Token). v.text) (λ v q. q) (w_one names x h)

number_w : (n : CNumber) → is_number n ≡ true → Writes number (number_text n ∷ []) (λ v. v ≡ n)
number_w n h = w_give (λ (v : Token). number_in v.text) (λ v q. ap number_in q ∙ number_back n h) (w_one numbers (number_text n) (number_class n h))

pointer_w : Writes pointer (codes "char" ∷ codes "*" ∷ []) (λ v. v.text ≡ codes "char")
pointer_w = w_before (lit 48 (codes "char") refl) (lit 29 (codes "*") refl)

kind_at_w : (k : CKind) → Writes kind_at (kind_tokens k) (λ v. v.0 ≡ k)
kind_at_w kind_is.Int = w_left (w_give (λ (x : Token). (kind_is.Int, x.place)) (λ v q. refl) (lit 45 (codes "int") refl))
kind_at_w kind_is.Unsigned = w_right (w_left (w_give (λ (x : Token). (kind_is.Unsigned, x.place)) (λ v q. refl) (lit 46 (codes "unsigned") refl)))
kind_at_w kind_is.Long = w_right (w_right (w_left (w_give (λ (x : Token). (kind_is.Long, x.place)) (λ v q. refl) (lit 47 (codes "long") refl))))
kind_at_w kind_is.Pointer = w_right (w_right (w_right (w_give (λ (x : Token). (kind_is.Pointer, x.place)) (λ v q. refl) pointer_w)))

kind_w : (k : CKind) → Writes kind (kind_tokens k) (λ v. v ≡ k)
kind_w k = w_give (λ (v : CKind × Place). v.0) (λ v q. q) (kind_at_w k)

result_at_w : (r : Option CKind) → Writes result_at (result_tokens r) (λ v. v.0 ≡ r)
result_at_w None = w_left (w_give (λ (x : Token). (None, x.place)) (λ v q. refl) (lit 44 (codes "void") refl))
result_at_w (Some k) = w_right (w_give (λ (v : CKind × Place). (Some v.0, v.1)) (λ v q. ap (λ z. Some z) q) (kind_at_w k))

result_w : (r : Option CKind) → Writes result (result_tokens r) (λ v. v ≡ r)
result_w r = w_give (λ (v : Option CKind × Place). v.0) (λ v q. q) (result_at_w r)

named_w : (l : CLocal) → local_ok l ≡ true → Writes named (param_tokens l) (λ v. v ≡ l)
named_w l h = w_give (λ (v : CKind × List ℕ). record { kind = v.0; name = v.1 }) (λ v q i. record { kind = q.0 i; name = q.1 i }) (w_seq (kind_w l.kind) (ident_w l.name h))

params_w : (ls : List CLocal) → list_every local_ok ls ≡ true → Writes params (or_void param_tokens ls) (λ v. v ≡ ls)
params_w [] h = w_left (w_as [] (lit 44 (codes "void") refl))
params_w (l ∷ ls) h = w_right (w_listed named param_tokens local_ok named_w l ls h)

any_kind : CKind → Bool
any_kind k = true

all_kinds : (ks : List CKind) → list_every any_kind ks ≡ true
unfolding any_kind
all_kinds [] = refl
all_kinds (k ∷ ks) = all_kinds ks

kinds_w : (ks : List CKind) → Writes kinds (or_void kind_tokens ks) (λ v. v ≡ ks)
kinds_w [] = w_left (w_as [] (lit 44 (codes "void") refl))
kinds_w (k ∷ ks) = w_right (w_listed kind kind_tokens any_kind (λ x h. kind_w x) k ks (all_kinds (k ∷ ks)))

zeroed_w : {A : Type 0} (p : P A) (a : List (List ℕ)) {Q : A → Type 0} (k : CKind) (x z : List ℕ) (c : ℕ) → has (class_in classes z) (c ∷ []) ≡ true → is_name x ≡ true → Writes p a Q →
    Writes (local_of k p c) (a ++ x ∷ codes "=" ∷ z ∷ codes ";" ∷ []) (λ v. v ≡ record { kind = k; name = x })
zeroed_w p a k x z c hz h hp = w_give (λ (y : List ℕ). record { kind = k; name = y }) (λ v q i. record { kind = k; name = q i }) (w_after hp (w_before (w_before (w_before (ident_w x h) (lit 28 (codes "=") refl)) (lit c z hz)) (lit 26 (codes ";") refl)))

local_k : (k : CKind) (x : List ℕ) → is_name x ≡ true → Writes local (local_tokens (record { kind = k; name = x })) (λ v. v ≡ record { kind = k; name = x })
local_k kind_is.Int x h = w_left (zeroed_w (w 45) (codes "int" ∷ []) kind_is.Int x (codes "0") 10 refl h (lit 45 (codes "int") refl))
local_k kind_is.Unsigned x h = w_right (w_left (zeroed_w (w 46) (codes "unsigned" ∷ []) kind_is.Unsigned x (codes "0u") 11 refl h (lit 46 (codes "unsigned") refl)))
local_k kind_is.Long x h = w_right (w_right (w_left (zeroed_w (w 47) (codes "long" ∷ []) kind_is.Long x (codes "0") 10 refl h (lit 47 (codes "long") refl))))
local_k kind_is.Pointer x h = w_right (w_right (w_right (zeroed_w pointer (codes "char" ∷ codes "*" ∷ []) kind_is.Pointer x (codes "0") 10 refl h pointer_w)))

local_w : (l : CLocal) → local_ok l ≡ true → Writes local (local_tokens l) (λ v. v ≡ l)
local_w l h = local_k l.kind l.name h

least_w : Writes least least_tokens (λ v. v.text ≡ codes ")")
least_w = w_after (lit 31 (codes "-") refl) (w_after (lit 13 (codes "2147483647") refl) (w_after (lit 31 (codes "-") refl) (w_after (lit 12 (codes "1") refl) (lit 21 (codes ")") refl))))

atom_w : (a : CAtom) → atom_ok a ≡ true → Writes atom (atom_tokens a) (λ v. v ≡ a)
atom_w (atom_is.Name x) h = w_left (w_give (λ (v : List ℕ). atom_is.Name v) (λ v q. ap (λ (z : List ℕ). atom_is.Name z) q) (ident_w x h))
atom_w (atom_is.Number n) h = w_right (w_left (w_give (λ (v : CNumber). atom_is.Number v) (λ v q. ap (λ (z : CNumber). atom_is.Number z) q) (number_w n h)))
atom_w (atom_is.Negative n) h = w_right (w_right (w_left (w_give (λ (v : CNumber). atom_is.Negative v) (λ v q. ap (λ (z : CNumber). atom_is.Negative z) q) (w_after (lit 31 (codes "-") refl) (number_w n h)))))
atom_w atom_is.Least h = w_right (w_right (w_right (w_as atom_is.Least (w_after (lit 20 (codes "(") refl) least_w))))

op_w : (o : COperator) → Writes op (operator_token o ∷ []) (λ v. v ≡ o)
op_w by.Multiply = w_left (w_as by.Multiply (lit 29 (codes "*") refl))
op_w by.Add = w_right (w_left (w_as by.Add (lit 30 (codes "+") refl)))
op_w by.Subtract = w_right (w_right (w_left (w_as by.Subtract (lit 31 (codes "-") refl))))
op_w by.Divide = w_right (w_right (w_right (w_left (w_as by.Divide (lit 32 (codes "/") refl)))))
op_w by.Remainder = w_right (w_right (w_right (w_right (w_left (w_as by.Remainder (lit 33 (codes "%") refl))))))
op_w by.Less = w_right (w_right (w_right (w_right (w_right (w_left (w_as by.Less (lit 34 (codes "<") refl)))))))
op_w by.Greater = w_right (w_right (w_right (w_right (w_right (w_right (w_left (w_as by.Greater (lit 35 (codes ">") refl))))))))
op_w by.LessEqual = w_right (w_right (w_right (w_right (w_right (w_right (w_right (w_left (w_as by.LessEqual (lit 36 (codes "<=") refl)))))))))
op_w by.GreaterEqual = w_right (w_right (w_right (w_right (w_right (w_right (w_right (w_right (w_left (w_as by.GreaterEqual (lit 37 (codes ">=") refl))))))))))
op_w by.Equal = w_right (w_right (w_right (w_right (w_right (w_right (w_right (w_right (w_right (w_left (w_as by.Equal (lit 38 (codes "==") refl)))))))))))
op_w by.NotEqual = w_right (w_right (w_right (w_right (w_right (w_right (w_right (w_right (w_right (w_right (w_as by.NotEqual (lit 39 (codes "!=") refl)))))))))))

load_cell_w : (c : CCell) → is_loaded c ≡ true → Writes load_cell (cell_tokens c) (λ v. v ≡ c)
load_cell_w cell.Int h = w_left (w_as cell.Int (lit 45 (codes "int") refl))
load_cell_w cell.Unsigned h = w_right (w_left (w_as cell.Unsigned (lit 46 (codes "unsigned") refl)))
load_cell_w cell.Short h = absurd (cc)
load_cell_w cell.Pointer h = w_right (w_right (w_as cell.Pointer pointer_w))

store_cell_w : (c : CCell) → Writes store_cell (cell_tokens c) (λ v. v ≡ c)
store_cell_w cell.Int = w_left (w_as cell.Int (lit 45 (codes "int") refl))
store_cell_w cell.Unsigned = w_right (w_left (w_give unsigned_or (λ v q. q) (w_after (lit 46 (codes "unsigned") refl) (w_nothing {R = λ o. unsigned_or o ≡ cell.Unsigned} refl))))
store_cell_w cell.Short = w_right (w_left (w_give unsigned_or (λ v q. q) (w_after (lit 46 (codes "unsigned") refl) (w_some {R = λ o. unsigned_or o ≡ cell.Short} (λ v q. refl) (lit 49 (codes "short") refl)))))
store_cell_w cell.Pointer = w_right (w_right (w_as cell.Pointer pointer_w))

address_w : (p : CAddress) → address_ok p ≡ true → Writes address (address_tokens p) (λ v. v ≡ p)
address_w p h = w_give (λ (v : List ℕ × CNumber). record { pointer = v.0; offset = v.1 }) (λ v q i. record { pointer = q.0 i; offset = q.1 i })
    (w_after (lit 29 (codes "*") refl) (w_after (lit 21 (codes ")") refl) (w_after (lit 20 (codes "(") refl) (w_seq (ident_w p.pointer (and_left (is_name p.pointer) (is_number p.offset) h)) (w_after (lit 30 (codes "+") refl) (w_before (number_w p.offset (and_right (is_name p.pointer) (is_number p.offset) h)) (lit 21 (codes ")") refl)))))))

tag_w : (p : CAddress) → address_ok p ≡ true → Writes tag (place_tokens cell.Short p) (λ v. v ≡ p)
tag_w p h = w_after (lit 29 (codes "*") refl) (w_after (lit 20 (codes "(") refl) (w_after (lit 46 (codes "unsigned") refl) (w_after (lit 49 (codes "short") refl) (address_w p h))))

atoms_w : (ys : List CAtom) → list_every atom_ok ys ≡ true → Writes (name atoms) (joined atom_tokens ys) (λ v. v ≡ ys)
atoms_w [] h = w_name atoms (w_right (w_as [] w_none))
atoms_w (a ∷ ys) h = w_name atoms (w_left (w_listed atom atom_tokens atom_ok atom_w a ys h))

arguments_w : (ys : List CAtom) → list_every atom_ok ys ≡ true → Writes arguments (arguments_tokens ys) (λ v. v ≡ ys)
arguments_w ys h = w_after (lit 20 (codes "(") refl) (w_before (atoms_w ys h) (lit 21 (codes ")") refl))

-- ---- right sides

operated_none : Writes operated [] (λ v. v ≡ (λ a. expr.Atom a))
operated_none = w_right (w_as (λ a. expr.Atom a) w_none)

operated_by : (o : COperator) (b : CAtom) → atom_ok b ≡ true → Writes operated (operator_token o ∷ atom_tokens b) (λ v. v ≡ (λ a. expr.Binary a o b))
operated_by o b h = w_left (w_give {B = CAtom → CExpr} (λ (v : COperator × CAtom) (a : CAtom). expr.Binary a v.0 v.1) (λ v q i a. expr.Binary a (q.0 i) (q.1 i)) (w_seq (op_w o) (atom_w b h)))

-- a right side that begins with a name, and what follows the name
named_right : (x : List ℕ) → is_name x ≡ true → (ws : List (List ℕ)) (f : List ℕ → CExpr) → Writes after_name ws (λ v. v ≡ f) → Writes right_rule (x ∷ ws) (λ v. v ≡ f x)
named_right x h ws f k = w_left (w_give (λ (v : List ℕ × (List ℕ → CExpr)). v.1 v.0) (λ v q i. q.1 i (q.0 i)) (w_seq (ident_w x h) k))

number_right : (n : CNumber) → is_number n ≡ true → (ws : List (List ℕ)) (f : CAtom → CExpr) → Writes operated ws (λ v. v ≡ f) → Writes right_rule (number_text n ∷ ws) (λ v. v ≡ f (atom_is.Number n))
number_right n h ws f k = w_right (w_left (w_give (λ (v : CNumber × (CAtom → CExpr)). v.1 (atom_is.Number v.0)) (λ v q i. q.1 i (atom_is.Number (q.0 i))) (w_seq (number_w n h) k)))

negative_right : (n : CNumber) → is_number n ≡ true → (ws : List (List ℕ)) (f : CAtom → CExpr) → Writes operated ws (λ v. v ≡ f) → Writes right_rule (codes "-" ∷ number_text n ∷ ws) (λ v. v ≡ f (atom_is.Negative n))
negative_right n h ws f k = w_right (w_right (w_left (w_give (λ (v : CNumber × (CAtom → CExpr)). v.1 (atom_is.Negative v.0)) (λ v q i. q.1 i (atom_is.Negative (q.0 i))) (w_after (lit 31 (codes "-") refl) (w_seq (number_w n h) k)))))

open_right : (ws : List (List ℕ)) (r : CExpr) → Writes after_open ws (λ v. v ≡ r) → Writes right_rule (codes "(" ∷ ws) (λ v. v ≡ r)
open_right ws r k = w_right (w_right (w_right (w_left (w_after (lit 20 (codes "(") refl) k))))

least_right : (ws : List (List ℕ)) (f : CAtom → CExpr) → Writes operated ws (λ v. v ≡ f) → Writes right_rule (codes "(" ∷ (least_tokens ++ ws)) (λ v. v ≡ f atom_is.Least)
least_right ws f k = open_right (least_tokens ++ ws) (f atom_is.Least) (w_right (w_right (w_give (λ (g : CAtom → CExpr). g atom_is.Least) (λ v q i. q i atom_is.Least) (w_after least_w k))))

indexed_right : (x : List ℕ) → is_name x ≡ true → (ws : List (List ℕ)) (f : List ℕ → CExpr) → Writes indexed ws (λ v. v ≡ f) → Writes right_rule (x ∷ codes "[" ∷ ws) (λ v. v ≡ f x)
indexed_right x h ws f k = named_right x h (codes "[" ∷ ws) f (w_right (w_right (w_left (w_after (lit 24 (codes "[") refl) k))))

right_w : (r : CExpr) → right_ok r ≡ true → Writes right_rule (right_tokens r) (λ v. v ≡ r)
right_w (expr.Atom (atom_is.Name x)) h = named_right x h [] (λ y. expr.Atom (atom_is.Name y)) (w_right (w_right (w_right (w_as (λ y. expr.Atom (atom_is.Name y)) w_none))))
right_w (expr.Atom (atom_is.Number n)) h = number_right n h [] (λ a. expr.Atom a) operated_none
right_w (expr.Atom (atom_is.Negative n)) h = negative_right n h [] (λ a. expr.Atom a) operated_none
right_w (expr.Atom atom_is.Least) h = least_right [] (λ a. expr.Atom a) operated_none
right_w (expr.Binary (atom_is.Name x) o b) h = named_right x (and_left (is_name x) (atom_ok b) h) (operator_token o ∷ atom_tokens b) (λ y. expr.Binary (atom_is.Name y) o b)
    (w_left (w_give {B = List ℕ → CExpr} (λ (v : COperator × CAtom) (y : List ℕ). expr.Binary (atom_is.Name y) v.0 v.1) (λ v q i y. expr.Binary (atom_is.Name y) (q.0 i) (q.1 i)) (w_seq (op_w o) (atom_w b (and_right (is_name x) (atom_ok b) h)))))
right_w (expr.Binary (atom_is.Number n) o b) h = number_right n (and_left (is_number n) (atom_ok b) h) (operator_token o ∷ atom_tokens b) (λ a. expr.Binary a o b) (operated_by o b (and_right (is_number n) (atom_ok b) h))
right_w (expr.Binary (atom_is.Negative n) o b) h = negative_right n (and_left (is_number n) (atom_ok b) h) (operator_token o ∷ atom_tokens b) (λ a. expr.Binary a o b) (operated_by o b (and_right (is_number n) (atom_ok b) h))
right_w (expr.Binary atom_is.Least o b) h = least_right (operator_token o ∷ atom_tokens b) (λ a. expr.Binary a o b) (operated_by o b h)
right_w (expr.ToInt x) h = open_right (codes "int" ∷ codes ")" ∷ x ∷ []) (expr.ToInt x) (w_left (w_give (λ (v : List ℕ). expr.ToInt v) (λ v q. ap (λ (z : List ℕ). expr.ToInt z) q) (w_after (lit 45 (codes "int") refl) (w_after (lit 21 (codes ")") refl) (ident_w x h)))))
right_w (expr.ToUnsigned x) h = open_right (codes "unsigned" ∷ codes ")" ∷ x ∷ []) (expr.ToUnsigned x) (w_right (w_left (w_give (λ (v : List ℕ). expr.ToUnsigned v) (λ v q. ap (λ (z : List ℕ). expr.ToUnsigned z) q) (w_after (lit 46 (codes "unsigned") refl) (w_after (lit 21 (codes ")") refl) (ident_w x h))))))
right_w (expr.Load c p) h = w_right (w_right (w_right (w_right (w_give (λ (v : CCell × CAddress). expr.Load v.0 v.1) (λ v q i. expr.Load (q.0 i) (q.1 i)) (w_after (lit 29 (codes "*") refl) (w_after (lit 20 (codes "(") refl) (w_seq (load_cell_w c (and_left (is_loaded c) (address_ok p) h)) (address_w p (and_right (is_loaded c) (address_ok p) h)))))))))
right_w (expr.Index a (index_is.Name x)) h = indexed_right a (and_left (is_name a) (is_name x) h) (x ∷ codes "]" ∷ []) (λ y. expr.Index y (index_is.Name x))
    (w_left (w_give {B = List ℕ → CExpr} (λ (v : List ℕ × Option (List CAtom)). called_or v.0 v.1) (λ v q i. called_or (q.0 i) (q.1 i)) (w_seq (w_before (ident_w x (and_right (is_name a) (is_name x) h)) (lit 25 (codes "]") refl)) (w_nothing {R = λ o. o ≡ None} refl))))
right_w (expr.Index a (index_is.Tag p)) h = indexed_right a (and_left (is_name a) (address_ok p) h) (place_tokens cell.Short p ++ codes "]" ∷ []) (λ y. expr.Index y (index_is.Tag p))
    (w_right (w_give {B = List ℕ → CExpr} (λ (v : CAddress) (y : List ℕ). expr.Index y (index_is.Tag v)) (λ v q i y. expr.Index y (index_is.Tag (q i))) (w_before (tag_w p (and_right (is_name a) (address_ok p) h)) (lit 25 (codes "]") refl))))
right_w (expr.Call (call_is.Named f ys)) h = named_right f (and_left (is_name f) (list_every atom_ok ys) h) (arguments_tokens ys) (λ y. expr.Call (call_is.Named y ys))
    (w_right (w_left (w_give {B = List ℕ → CExpr} (λ (v : List CAtom) (y : List ℕ). expr.Call (call_is.Named y v)) (λ v q i y. expr.Call (call_is.Named y (q i))) (arguments_w ys (and_right (is_name f) (list_every atom_ok ys) h)))))
right_w (expr.Call (call_is.Element a x ys)) h =
    let k = and_right (is_name a) (is_name x && list_every atom_ok ys) h in
    indexed_right a (and_left (is_name a) (is_name x && list_every atom_ok ys) h) (x ∷ codes "]" ∷ arguments_tokens ys) (λ y. expr.Call (call_is.Element y x ys))
    (w_left (w_give {B = List ℕ → CExpr} (λ (v : List ℕ × Option (List CAtom)). called_or v.0 v.1) (λ v q i. called_or (q.0 i) (q.1 i)) (w_seq (w_before (ident_w x (and_left (is_name x) (list_every atom_ok ys) k)) (lit 25 (codes "]") refl)) (w_some {R = λ o. o ≡ Some ys} (λ v q. ap (λ z. Some z) q) (arguments_w ys (and_right (is_name x) (list_every atom_ok ys) k))))))

-- ---- statements

-- a statement that begins with a name, and what follows the name
first_w : (d : ℕ) (x : List ℕ) → is_name x ≡ true → (ws : List (List ℕ)) (f : List ℕ → Stmt) → Writes after_first ws (λ v. v ≡ f) → Writes (name (stmt d)) (x ∷ (ws ++ codes ";" ∷ [])) (λ v. v.tree ≡ f x)
first_w d x h ws f k = w_name (stmt d) (w_left (w_give (λ (v : Token × (List ℕ → Stmt)). at (v.1 v.0.text) v.0.place) (λ v q i. q.1 i (q.0 i)) (w_seq (w_one names x h) (w_before k (lit 26 (codes ";") refl)))))

condition_w : (a : CAtom) → atom_ok a ≡ true → Writes (w 20 ▸ atom ◂ w 21) (condition_tokens a) (λ v. v ≡ a)
condition_w a h = w_after (lit 20 (codes "(") refl) (w_before (atom_w a h) (lit 21 (codes ")") refl))

-- the second block of an `if`
abbrev is_else : Block → Option (Placed Block) → Type 0
is_else c None = ⊥
is_else c (Some v) = v.tree ≡ c

branched_none : (x : Token) (u : CAtom) (v : Placed Block) (o : Option (Placed Block)) (a : CAtom) (b : Block) → u ≡ a → v.tree ≡ b → o ≡ None → (branched x u v o).tree ≡ t.if_only a b
branched_none x u v o a b e f g = ap (λ z. (branched x u v z).tree) g ∙ (λ i. t.if_only (e i) (f i))

branched_some : (x : Token) (u : CAtom) (v : Placed Block) (o : Option (Placed Block)) (a : CAtom) (b c : Block) → u ≡ a → v.tree ≡ b → is_else c o → (branched x u v o).tree ≡ t.if_else a b c
branched_some x u v None a b c e f g = absurd g
branched_some x u v (Some z) a b c e f g = λ i. t.if_else (e i) (f i) (g i)

-- an `if`, by its condition, its block and what follows it
if_w : (d : ℕ) (s : Stmt) (R : Option (Placed Block) → Type 0) (a : CAtom) (b : Block) (rest : List (List ℕ)) →
    ((v : Token × (CAtom × (Placed Block × Option (Placed Block)))) → (v.0.text ≡ codes "if") × ((v.1.0 ≡ a) × ((v.1.1.0.tree ≡ b) × R v.1.1.1)) → (branched v.0 v.1.0 v.1.1.0 v.1.1.1).tree ≡ s) →
    atom_ok a ≡ true → Writes (name (block d)) (block_tokens b) (λ v. v.tree ≡ b) → Writes (opt (w 51 ▸ name (block d))) rest R →
    Writes (name (stmt d)) (codes "if" ∷ (condition_tokens a ++ (block_tokens b ++ rest))) (λ v. v.tree ≡ s)
if_w d s R a b rest i h kb kr = w_name (stmt d) (w_right (w_right (w_left (w_give (λ (v : Token × (CAtom × (Placed Block × Option (Placed Block)))). branched v.0 v.1.0 v.1.1.0 v.1.1.1) i (w_seq (lit 50 (codes "if") refl) (w_seq (condition_w a h) (w_seq kb kr)))))))

mutual
  stmt_w : (s : Stmt) (d : ℕ) → stmt_ok s d ≡ true → Writes (name (stmt d)) (stmt_tokens s) (λ v. v.tree ≡ s)
  stmt_w (t.assign x r) d h = first_w d x (and_left (is_name x) (right_ok r) h) (codes "=" ∷ right_tokens r) (λ y. t.assign y r)
      (w_left (w_give {B = List ℕ → Stmt} (λ (v : CExpr) (y : List ℕ). t.assign y v) (λ v q i y. t.assign y (q i)) (w_after (lit 28 (codes "=") refl) (w_name right (right_w r (and_right (is_name x) (right_ok r) h))))))
  stmt_w (t.store c p a) d h = w_name (stmt d) (w_right (w_left (w_give (λ (v : Token × (CCell × (CAddress × CAtom))). at (t.store v.1.0 v.1.1.0 v.1.1.1) v.0.place) (λ v q i. t.store (q.1.0 i) (q.1.1.0 i) (q.1.1.1 i))
      (w_seq (lit 29 (codes "*") refl) (w_after (lit 20 (codes "(") refl) (w_seq (store_cell_w c) (w_seq (address_w p (and_left (address_ok p) (atom_ok a) h)) (w_after (lit 28 (codes "=") refl) (w_before (atom_w a (and_right (address_ok p) (atom_ok a) h)) (lit 26 (codes ";") refl))))))))))
  stmt_w (t.run (call_is.Named f ys)) d h = first_w d f (and_left (is_name f) (list_every atom_ok ys) h) (arguments_tokens ys) (λ y. t.run (call_is.Named y ys))
      (w_right (w_left (w_give {B = List ℕ → Stmt} (λ (v : List CAtom) (y : List ℕ). t.run (call_is.Named y v)) (λ v q i y. t.run (call_is.Named y (q i))) (arguments_w ys (and_right (is_name f) (list_every atom_ok ys) h)))))
  stmt_w (t.run (call_is.Element a x ys)) d h =
      let k = and_right (is_name a) (is_name x && list_every atom_ok ys) h in
      first_w d a (and_left (is_name a) (is_name x && list_every atom_ok ys) h) (codes "[" ∷ x ∷ codes "]" ∷ arguments_tokens ys) (λ y. t.run (call_is.Element y x ys))
      (w_right (w_right (w_give {B = List ℕ → Stmt} (λ (v : List ℕ × List CAtom) (y : List ℕ). t.run (call_is.Element y v.0 v.1)) (λ v q i y. t.run (call_is.Element y (q.0 i) (q.1 i))) (w_after (lit 24 (codes "[") refl) (w_seq (w_before (ident_w x (and_left (is_name x) (list_every atom_ok ys) k)) (lit 25 (codes "]") refl)) (arguments_w ys (and_right (is_name x) (list_every atom_ok ys) k)))))))
  stmt_w (t.if_only a b) d h = w_words (ap (λ z. codes "if" ∷ (condition_tokens a ++ z)) (append-nil (block_tokens b)))
      (if_w d (t.if_only a b) (λ o. o ≡ None) a b [] (λ v q. branched_none v.0 v.1.0 v.1.1.0 v.1.1.1 a b q.1.0 q.1.1.0 q.1.1.1) (and_left (atom_ok a) (block_ok b d) h) (block_w b d (and_right (atom_ok a) (block_ok b d) h)) (w_nothing refl))
  stmt_w (t.if_else a b c) d h =
      let k = and_right (atom_ok a) (block_ok b d && block_ok c d) h in
      if_w d (t.if_else a b c) (is_else c) a b (codes "else" ∷ block_tokens c) (λ v q. branched_some v.0 v.1.0 v.1.1.0 v.1.1.1 a b c q.1.0 q.1.1.0 q.1.1.1) (and_left (atom_ok a) (block_ok b d && block_ok c d) h) (block_w b d (and_left (block_ok b d) (block_ok c d) k)) (w_some (λ v q. q) (w_after (lit 51 (codes "else") refl) (block_w c d (and_right (block_ok b d) (block_ok c d) k))))
  stmt_w (t.forever b) d h = w_name (stmt d) (w_right (w_right (w_right (w_left (w_give (λ (v : Token × Placed Block). around (t.forever v.1.tree) v.0.place v.1.places) (λ v q. ap t.forever q.1) (w_seq (lit 52 (codes "while") refl) (w_after (lit 20 (codes "(") refl) (w_after (lit 12 (codes "1") refl) (w_after (lit 21 (codes ")") refl) (block_w b d h))))))))))
  stmt_w t.break d h = w_name (stmt d) (w_right (w_right (w_right (w_right (w_left (w_give (λ (x : Token). at t.break x.place) (λ v q. refl) (w_before (lit 53 (codes "break") refl) (lit 26 (codes ";") refl))))))))
  stmt_w t.continue d h = w_name (stmt d) (w_right (w_right (w_right (w_right (w_right (w_left (w_give (λ (x : Token). at t.continue x.place) (λ v q. refl) (w_before (lit 54 (codes "continue") refl) (lit 26 (codes ";") refl)))))))))
  stmt_w t.leave d h = w_name (stmt d) (w_right (w_right (w_right (w_right (w_right (w_right (w_give (λ (v : Token × Option CAtom). at (returned v.1) v.0.place) (λ v q. ap returned q.1) (w_seq (lit 55 (codes "return") refl) (w_before (w_nothing {R = λ o. o ≡ None} refl) (lit 26 (codes ";") refl))))))))))
  stmt_w (t.return a) d h = w_name (stmt d) (w_right (w_right (w_right (w_right (w_right (w_right (w_give (λ (v : Token × Option CAtom). at (returned v.1) v.0.place) (λ v q. ap returned q.1) (w_seq (lit 55 (codes "return") refl) (w_before (w_some {R = λ o. o ≡ Some a} (λ v q. ap (λ z. Some z) q) (atom_w a h)) (lit 26 (codes ";") refl))))))))))

  block_w : (b : Block) (d : ℕ) → block_ok b d ≡ true → Writes (name (block d)) (block_tokens b) (λ v. v.tree ≡ b)
  block_w (t.block xs code) zero h = absurd (cc)
  block_w (t.block xs code) (suc d) h =
      w_name (block (suc d)) (w_give (λ (v : List CLocal × List (Placed Stmt)). block_of v.0 v.1) (λ v q. let e = each_same xs v.0 q.0 in λ i. t.block (e i) (q.1 i))
      (w_after (lit 22 (codes "{") refl) (w_seq (w_many local local_tokens local_ok (λ x v. v ≡ x) local_w xs (and_left (list_every local_ok xs) (code_ok code d) h)) (w_before (code_w code d (and_right (list_every local_ok xs) (code_ok code d) h)) (lit 23 (codes "}") refl)))))

  code_w : (c : Code) (d : ℕ) → code_ok c d ≡ true → Writes (many (name (stmt d))) (code_tokens c) (λ vs. t.code_of (map (λ (s : Placed Stmt). s.tree) vs) ≡ c)
  code_w done d h = w_many_none refl
  code_w (do_then s more) d h = w_many_more (λ v vs q r i. do_then (q i) (r i)) (stmt_w s d (and_left (stmt_ok s d) (code_ok more d) h)) (code_w more d (and_right (stmt_ok s d) (code_ok more d) h))

-- ---- items

element_w : (e : CElement) → element_ok e ≡ true → Writes element (element_tokens e) (λ v. v ≡ e)
element_w (element_is.Name x) h = w_left (w_give (λ (v : List ℕ). element_is.Name v) (λ v q. ap (λ (z : List ℕ). element_is.Name z) q) (ident_w x h))
element_w (element_is.Number n) h = w_right (w_left (w_give (λ (v : CNumber). element_is.Number v) (λ v q. ap (λ (z : CNumber). element_is.Number z) q) (number_w n h)))
element_w (element_is.Negative n) h = w_right (w_right (w_give (λ (v : CNumber). element_is.Negative v) (λ v q. ap (λ (z : CNumber). element_is.Negative z) q) (w_after (lit 31 (codes "-") refl) (number_w n h))))

elements_w : (es : List CElement) → is_some_list es ≡ true → list_every element_ok es ≡ true → Writes (listed element) (joined element_tokens es) (λ v. v ≡ es)
elements_w [] s h = absurd (cc)
elements_w (e ∷ es) s h = w_listed element element_tokens element_ok element_w e es h

array_type_w : (f : Option (List ℕ)) → functions_ok f ≡ true → Writes (as_ None (w 47) ∣ give (λ x. Some x) ident) (array_type f ∷ []) (λ v. v ≡ f)
array_type_w None h = w_left (w_as None (lit 47 (codes "long") refl))
array_type_w (Some x) h = w_right (w_give (λ (v : List ℕ). Some v) (λ v q. ap (λ z. Some z) q) (ident_w x h))

head_w : (f : List ℕ) (ls : List CLocal) → is_name f ≡ true → list_every local_ok ls ≡ true → Writes head (head_tokens f ls) (λ v. v ≡ (f, ls))
head_w f ls h k = w_more (λ v q i. (q.0 i, q.1 i)) (w_seq (ident_w f h) (w_after (lit 20 (codes "(") refl) (w_before (params_w ls k) (lit 21 (codes ")") refl))))

static_w : (ws : List (List ℕ)) (x : Item) → Writes after_static ws (λ f. (p : Place) → (f p).tree ≡ x) → Writes (name item) (codes "static" ∷ ws) (λ v. v.tree ≡ x)
static_w ws x k = w_name item (w_right (w_left (w_give (λ (v : Token × (Place → Placed Item)). v.1 v.0.place) (λ v q. q.1 v.0.place) (w_seq (lit 41 (codes "static") refl) k))))

-- what is behind the head of a static function, and what it makes
abbrev is_end : Bool → Option Block → Option CKind → List ℕ × List CLocal → Item
is_end true None r h = t.proto (record { is_inline = true; result = r; name = h.0; params = h.1 })
is_end false None r h = t.proto (record { is_inline = false; result = r; name = h.0; params = h.1 })
is_end true (Some b) r h = function_of linkage_is.StaticInline r h b
is_end false (Some b) r h = function_of linkage_is.Static r h b

abbrev inline_is : Bool → Option Token → Type 0
inline_is b o = is_there o ≡ b

abbrev block_is : Option Block → Option (Placed Block) → Type 0
block_is None None = Unit {0}
block_is None (Some v) = ⊥
block_is (Some b) None = ⊥
block_is (Some b) (Some v) = v.tree ≡ b

made_w : (p : Place) (j : Bool) (o : Option Block) (r : Option CKind) (h : List ℕ × List CLocal) (x : Option Token) (r' : Option CKind) (h' : List ℕ × List CLocal) (y : Option (Placed Block)) → inline_is j x → r' ≡ r → h' ≡ h → block_is o y → (proto_or p x r' h' y).tree ≡ is_end j o r h
made_w p true None r h (Some x) r' h' None e f g k = λ i. t.proto (record { is_inline = true; result = f i; name = (g i).0; params = (g i).1 })
made_w p false None r h None r' h' None e f g k = λ i. t.proto (record { is_inline = false; result = f i; name = (g i).0; params = (g i).1 })
made_w p true (Some b) r h (Some x) r' h' (Some v) e f g k = λ i. function_of linkage_is.StaticInline (f i) (g i) (k i)
made_w p false (Some b) r h None r' h' (Some v) e f g k = λ i. function_of linkage_is.Static (f i) (g i) (k i)
made_w p true o r h None r' h' y e f g k = absurd (cc)
made_w p false o r h (Some x) r' h' y e f g k = absurd (cc)
made_w p j None r h x r' h' (Some v) e f g k = absurd k
made_w p j (Some b) r h x r' h' None e f g k = absurd k

made : (j : Bool) (o : Option Block) (r : Option CKind) (f : List ℕ) (ls : List CLocal) (ws end : List (List ℕ)) → is_name f ≡ true → list_every local_ok ls ≡ true → Writes (opt (w 43)) ws (inline_is j) → Writes (as_ None (w 26) ∣ give (λ b. Some b) (name (block 4096))) end (block_is o) →
    Writes (name item) (codes "static" ∷ (ws ++ (result_tokens r ++ (head_tokens f ls ++ end)))) (λ v. v.tree ≡ is_end j o r (f, ls))
made j o r f ls ws end h k i e = static_w (ws ++ (result_tokens r ++ (head_tokens f ls ++ end))) (is_end j o r (f, ls))
    (w_right (w_give {B = Place → Placed Item} (λ (v : Option Token × (Option CKind × ((List ℕ × List CLocal) × Option (Placed Block)))) (p : Place). proto_or p v.0 v.1.0 v.1.1.0 v.1.1.1)
    (λ v q p. made_w p j o r (f, ls) v.0 v.1.0 v.1.1.0 v.1.1.1 q.0 q.1.0 q.1.1.0 q.1.1.1) (w_seq i (w_seq (result_w r) (w_seq (head_w f ls h k) e)))))

no_inline : Writes (opt (w 43)) [] (inline_is false)
no_inline = w_nothing refl

with_inline : Writes (opt (w 43)) (codes "inline" ∷ []) (inline_is true)
with_inline = w_some (λ v q. refl) (lit 43 (codes "inline") refl)

no_block_w : Writes (as_ None (w 26) ∣ give (λ b. Some b) (name (block 4096))) (codes ";" ∷ []) (block_is None)
no_block_w = w_left (w_give (λ (x : Token). None) (λ v q. tt) (lit 26 (codes ";") refl))

body_w : (b : Block) → block_ok b 4096 ≡ true → Writes (as_ None (w 26) ∣ give (λ b. Some b) (name (block 4096))) (block_tokens b) (block_is (Some b))
body_w b h = w_right (w_give (λ (v : Placed Block). Some v) (λ v q. q) (block_w b 4096 h))

proto_w : (j : Bool) (r : Option CKind) (f : List ℕ) (ls : List CLocal) → is_name f ≡ true → list_every local_ok ls ≡ true → Writes (name item) (proto_tokens (record { is_inline = j; result = r; name = f; params = ls })) (λ v. v.tree ≡ t.proto (record { is_inline = j; result = r; name = f; params = ls }))
proto_w true r f ls h k = made true None r f ls (codes "inline" ∷ []) (codes ";" ∷ []) h k with_inline no_block_w
proto_w false r f ls h k = made false None r f ls [] (codes ";" ∷ []) h k no_inline no_block_w

function_w : (l : CLinkage) (r : Option CKind) (f : List ℕ) (ls : List CLocal) (b : Block) → is_name f ≡ true → list_every local_ok ls ≡ true → block_ok b 4096 ≡ true →
    Writes (name item) (function_tokens (record { linkage = l; result = r; name = f; params = ls; body = b })) (λ v. v.tree ≡ function_of l r (f, ls) b)
function_w linkage_is.Public r f ls b h k m = w_name item (w_right (w_right (w_give (λ (v : (Option CKind × Place) × ((List ℕ × List CLocal) × Placed Block)). around (function_of linkage_is.Public v.0.0 v.1.0 v.1.1.tree) v.0.1 v.1.1.places) (λ v q i. function_of linkage_is.Public (q.0 i) (q.1.0 i) (q.1.1 i))
    (w_seq (result_at_w r) (w_seq (head_w f ls h k) (block_w b 4096 m))))))
function_w linkage_is.Static r f ls b h k m = made false (Some b) r f ls [] (block_tokens b) h k no_inline (body_w b m)
function_w linkage_is.StaticInline r f ls b h k m = made true (Some b) r f ls (codes "inline" ∷ []) (block_tokens b) h k with_inline (body_w b m)

typedef_w : (d : CTypedef) → is_name d.name ≡ true → Writes typedef_rule (result_tokens d.result ++ codes "(" ∷ codes "*" ∷ d.name ∷ codes ")" ∷ codes "(" ∷ (or_void kind_tokens d.kinds ++ codes ")" ∷ codes ";" ∷ [])) (λ v. v ≡ t.typedef d)
typedef_w d h =
    (w_give (λ (v : Option CKind × (List ℕ × List CKind)). t.typedef (record { result = v.0; name = v.1.0; kinds = v.1.1 })) (λ v q i. t.typedef (record { result = q.0 i; name = q.1.0 i; kinds = q.1.1 i }))
    (w_seq (result_w d.result) (w_after (lit 20 (codes "(") refl) (w_after (lit 29 (codes "*") refl) (w_seq (w_before (ident_w d.name h) (lit 21 (codes ")") refl)) (w_after (lit 20 (codes "(") refl) (w_before (kinds_w d.kinds) (w_before (lit 21 (codes ")") refl) (lit 26 (codes ";") refl)))))))))

array_w : (a : CArray) → item_ok (t.array a) ≡ true → Writes array_rule (array_type a.functions ∷ a.name ∷ codes "[" ∷ number_text a.length ∷ codes "]" ∷ codes "=" ∷ codes "{" ∷ (joined element_tokens a.elements ++ codes "}" ∷ codes ";" ∷ [])) (λ v. v ≡ t.array a)
array_w a h =
    let h1 = and_right (functions_ok a.functions) (is_name a.name && (is_number a.length && (is_some_list a.elements && list_every element_ok a.elements))) h in
    let h2 = and_right (is_name a.name) (is_number a.length && (is_some_list a.elements && list_every element_ok a.elements)) h1 in
    let h3 = and_right (is_number a.length) (is_some_list a.elements && list_every element_ok a.elements) h2 in
    (w_give (λ (v : Option (List ℕ) × (List ℕ × (CNumber × List CElement))). t.array (record { functions = v.0; name = v.1.0; length = v.1.1.0; elements = v.1.1.1 })) (λ v q i. t.array (record { functions = q.0 i; name = q.1.0 i; length = q.1.1.0 i; elements = q.1.1.1 i }))
    (w_seq (array_type_w a.functions (and_left (functions_ok a.functions) (is_name a.name && (is_number a.length && (is_some_list a.elements && list_every element_ok a.elements))) h))
    (w_seq (ident_w a.name (and_left (is_name a.name) (is_number a.length && (is_some_list a.elements && list_every element_ok a.elements)) h1))
    (w_seq (w_after (lit 24 (codes "[") refl) (w_before (number_w a.length (and_left (is_number a.length) (is_some_list a.elements && list_every element_ok a.elements) h2)) (lit 25 (codes "]") refl)))
    (w_after (lit 28 (codes "=") refl) (w_after (lit 22 (codes "{") refl) (w_before (elements_w a.elements (and_left (is_some_list a.elements) (list_every element_ok a.elements) h3) (and_right (is_some_list a.elements) (list_every element_ok a.elements) h3)) (w_before (lit 23 (codes "}") refl) (lit 26 (codes ";") refl)))))))))

item_w : (x : Item) → item_ok x ≡ true → Writes (name item) (item_tokens x) (λ v. v.tree ≡ x)
item_w (t.typedef d) h = w_name item (w_left (w_give (λ (v : Token × Item). at v.1 v.0.place) (λ v q. q.1) (w_seq (lit 40 (codes "typedef") refl) (typedef_w d h))))
item_w (t.array a) h = static_w _ (t.array a) (w_left (w_give {B = Place → Placed Item} (λ (v : Item) (p : Place). at v p) (λ v q p. q) (w_after (lit 42 (codes "const") refl) (array_w a h))))
item_w (t.proto p) h = proto_w p.is_inline p.result p.name p.params (and_left (is_name p.name) (list_every local_ok p.params) h) (and_right (is_name p.name) (list_every local_ok p.params) h)
item_w (t.function f) h =
    let k = and_right (is_name f.name) (list_every local_ok f.params && block_ok f.body 4096) h in
    function_w f.linkage f.result f.name f.params f.body (and_left (is_name f.name) (list_every local_ok f.params && block_ok f.body 4096) h) (and_left (list_every local_ok f.params) (block_ok f.body 4096) k) (and_right (list_every local_ok f.params) (block_ok f.body 4096) k)

-- ---- programs

prelude_w : Writes prelude prelude_tokens (λ v. v.text ≡ codes ";")
prelude_w = w_after (lit 56 (codes "extern") refl) (w_after (lit 44 (codes "void") refl) (w_after (lit 1 (codes "mm_put") refl) (w_after (lit 20 (codes "(") refl) (w_after (lit 45 (codes "int") refl) (w_after (lit 21 (codes ")") refl) (w_after (lit 26 (codes ";") refl) (w_after (lit 56 (codes "extern") refl) (w_after (lit 45 (codes "int") refl) (w_after (lit 2 (codes "mm_get") refl) (w_after (lit 20 (codes "(") refl) (w_after (lit 44 (codes "void") refl) (w_after (lit 21 (codes ")") refl) (w_after (lit 26 (codes ";") refl) (w_after (lit 56 (codes "extern") refl) (w_after (lit 45 (codes "int") refl) (w_after (lit 3 (codes "mm_more") refl) (w_after (lit 20 (codes "(") refl) (w_after (lit 44 (codes "void") refl) (w_after (lit 21 (codes ")") refl) (w_after (lit 26 (codes ";") refl) (w_after (lit 56 (codes "extern") refl) (w_after (lit 44 (codes "void") refl) (w_after (lit 4 (codes "mm_trap") refl) (w_after (lit 20 (codes "(") refl) (w_after (lit 45 (codes "int") refl) (w_after (lit 21 (codes ")") refl) (w_after (lit 26 (codes ";") refl) (w_after (lit 56 (codes "extern") refl) (w_after (lit 48 (codes "char") refl) (w_after (lit 29 (codes "*") refl) (w_after (lit 5 (codes "mm_new") refl) (w_after (lit 20 (codes "(") refl) (w_after (lit 46 (codes "unsigned") refl) (w_after (lit 21 (codes ")") refl) (lit 26 (codes ";") refl)))))))))))))))))))))))))))))))))))

trees_same : (xs : List Item) (vs : List (Placed Item)) → EachIs (λ x (v : Placed Item). v.tree ≡ x) xs vs → map (λ (v : Placed Item). v.tree) vs ≡ xs
trees_same [] [] h = refl
trees_same [] (v ∷ vs) h = absurd h
trees_same (x ∷ xs) [] h = absurd h
trees_same (x ∷ xs) (v ∷ vs) h = let r = trees_same xs vs h.1 in λ i. h.0 i ∷ r i

pub program_w : (p : Program) → program_ok p ≡ true → Writes (name program) (program_tokens p) (λ v. v.tree ≡ p)
program_w p h = w_name program (w_give program_of (λ v q. let e = trees_same p.items v q in λ i. record { items = e i })
    (w_after prelude_w (w_many (name item) item_tokens item_ok (λ x v. v.tree ≡ x) item_w p.items h)))
