-- In a program with places each place is one of its function's slots.
use Rattle.std.specs.Prelude.{Bool, true, false, ◌||◌, Option, Some, None, is_some, All}
use Rattle.std.specs.Str.{bytes_eq}
use Rattle.std.proofs.Common.{◌≡◌, ℕ, zero, suc, ◌<◌, List, [], ◌∷◌, ◌++◌, length, map, refl, sym, ap, ◌∙◌, arith}
use Rattle.std.proofs.lemmas.List.Elements.{All-nil, All-cons}
use Rattle.mm_c.specs.declared.tree.CAtom.{CAtom}
use Rattle.mm_c.specs.declared.tree.CAtom.TheVariants.{Name, Number, Negative, Least}
use Rattle.mm_c.specs.declared.tree.CIndex.{CIndex}
use Rattle.mm_c.specs.declared.tree.CIndex.TheVariants as index_is
use Rattle.mm_c.specs.declared.tree.CCall.{CCall}
use Rattle.mm_c.specs.declared.tree.CCall.TheVariants.{Named, Element}
use Rattle.mm_c.specs.declared.tree.CExpr.{CExpr}
use Rattle.mm_c.specs.declared.tree.CExpr.TheVariants.{Atom, Binary, ToInt, ToUnsigned, Load, Index, Call}
use Rattle.mm_c.specs.declared.tree.CLocal.{CLocal}
use Rattle.mm_c.specs.Tree.{Stmt, assign, store, run, if_only, if_else, forever, break, continue, leave, return, Block, block, Code, done, do_then, Function, Item, typedef, array, proto, function, Program}
use Rattle.mm_c.specs.WellFormed.{kind_in, well_formed}
use Rattle.mm_c_placed.specs.declared.tree.Local.{Local}
use Rattle.mm_c_placed.specs.Ready.{IsInOperand, IsInIndex, IsInResult, IsInStmt, IsIn, IsReadyFunction, IsReady}
use Rattle.mm_c_places.specs.Locals.{all_locals}
use Rattle.mm_c_places.specs.Places.{place_of, places, numbers}
use Rattle.mm_c_places.specs.Placed.{operand, operands, index, own_local, local_of, call, assigned, placed_stmt, placed_block, placed_code, placed_function, placed_functions, placed}
use Rattle.mm_c_places.specs.Seen.{Sees, Agree, SeesAtom, SeesAtoms, SeesIndex, SeesCall, SeesRight, SeesStmt, SeesBlock, SeesCode, SeesFunction, SeesItems}
use Rattle.mm_c_places.proofs.Nears.{bytes_is, sees-cons, sees-append}
use Rattle.mm_c_places.proofs.Whole.{well_formed_sees}

place_within : (all : List CLocal) (x : List ℕ) → Sees all x → place_of all x < length all
place_within [] x h = absurd (cc)
place_within (l ∷ ls) x h = go (bytes_eq l.name x) (sym (sees-cons l ls x) ∙ h) (place_within ls x)
  where
    go : (b : Bool) → (b || is_some (kind_in ls x)) ≡ true → (is_some (kind_in ls x) ≡ true → place_of ls x < length ls) → elim b as (λ z. ℕ) [ true ↦ zero | false ↦ suc (place_of ls x) ] < suc (length ls)
    go true e ih = omega arith
    go false e ih = let lt = ih e in omega arith

-- what is seen of a scope is seen among all
record Within (all scope : List CLocal) : Type 0 where
  by : (x : List ℕ) → Sees scope x → Sees all x

module _ (all : List CLocal) where
  agree_sees : (xs : List CLocal) (x : List ℕ) → Agree all xs → Sees xs x → Sees all x
  agree_sees [] x g h = absurd (cc)
  agree_sees (l ∷ xs) x g h = go (bytes_eq l.name x) refl (agree_sees xs x g.1) (sym (sees-cons l xs x) ∙ h)
    where
      go : (b : Bool) → bytes_eq l.name x ≡ b → (Sees xs x → Sees all x) → (b || is_some (kind_in xs x)) ≡ true → Sees all x
      go true e r h = ap (λ z. is_some (kind_in all z)) (sym (bytes_is l.name x e)) ∙ ap is_some g.0
      go false e r h = r h

  within_block : (xs scope : List CLocal) → Agree all xs → Within all scope → Within all (xs ++ scope)
  within_block xs scope g w = record { by = λ x h. go x (is_some (kind_in xs x)) refl (sym (sees-append xs scope x) ∙ h) }
    where
      go : (x : List ℕ) (b : Bool) → is_some (kind_in xs x) ≡ b → (b || is_some (kind_in scope x)) ≡ true → Sees all x
      go x true e h = agree_sees xs x g e
      go x false e h = w.by x h

  at_place : (scope : List CLocal) → Within all scope → (x : List ℕ) → Sees scope x → place_of all x < length all
  at_place scope w x h = place_within all x (w.by x h)

  module _ (scope : List CLocal) (w : Within all scope) where
    operand_in : (a : CAtom) → SeesAtom scope a → IsInOperand (length all) (operand (places all) a)
    operand_in (Name x) h = at_place scope w x h
    operand_in (Number n) h = tt
    operand_in (Negative n) h = tt
    operand_in Least h = tt

    operands_in : (as_ : List CAtom) → SeesAtoms scope as_ → All (IsInOperand (length all)) (operands (places all) as_)
    operands_in [] h = All-nil (IsInOperand (length all))
    operands_in (a ∷ as_) h = All-cons (IsInOperand (length all)) (operand (places all) a) (operands (places all) as_) (operand_in a h.0) (operands_in as_ h.1)

    index_in : (i : CIndex) → SeesIndex scope i → IsInIndex (length all) (index (places all) i)
    index_in (index_is.Name x) h = at_place scope w x h
    index_in (index_is.Tag p) h = at_place scope w p.pointer h

    call_in : (items : List Item) (x : Option Local) (d : CCall) → IsInResult (length all) x → SeesCall scope d → IsInStmt (length all) (call (numbers items) (places all) x d)
    call_in items x (Named f as_) r h = (r, tt, operands_in as_ h)
    call_in items x (Element a y as_) r h = (r, at_place scope w y h.0, operands_in as_ h.1)

    assigned_in : (items : List Item) (x : List ℕ) (r : CExpr) → Sees scope x → SeesRight scope r → IsInStmt (length all) (assigned (numbers items) (places all) (local_of (places all) x) r)
    assigned_in items x (Atom a) h g = (at_place scope w x h, operand_in a g)
    assigned_in items x (Binary a o b) h g = (at_place scope w x h, (operand_in a g.0, operand_in b g.1))
    assigned_in items x (ToInt y) h g = (at_place scope w x h, at_place scope w y g)
    assigned_in items x (ToUnsigned y) h g = (at_place scope w x h, at_place scope w y g)
    assigned_in items x (Load d p) h g = (at_place scope w x h, at_place scope w p.pointer g)
    assigned_in items x (Index a i) h g = (at_place scope w x h, index_in i g)
    assigned_in items x (Call d) h g = call_in items (Some (local_of (places all) x)) d (at_place scope w x h) g

  locals_in : (xs : List CLocal) → Agree all xs → All (λ (x : Local). x.place < length all) (map (own_local (places all)) xs)
  locals_in [] g = All-nil (λ (x : Local). x.place < length all)
  locals_in (l ∷ xs) g = All-cons (λ (x : Local). x.place < length all) (own_local (places all) l) (map (own_local (places all)) xs) (place_within all l.name (ap is_some g.0)) (locals_in xs g.1)

  module _ (items : List Item) where
    mutual
      stmt_in : (scope : List CLocal) → Within all scope → (s : Stmt) → SeesStmt all scope s → IsInStmt (length all) (placed_stmt (numbers items) (places all) s)
      stmt_in scope w (assign x r) h = assigned_in scope w items x r h.0 h.1
      stmt_in scope w (store d p a) h = (at_place scope w p.pointer h.0, operand_in scope w a h.1)
      stmt_in scope w (run d) h = call_in scope w items None d tt h
      stmt_in scope w (if_only a b) h = (operand_in scope w a h.0, block_in scope w b h.1, tt)
      stmt_in scope w (if_else a b d) h = (operand_in scope w a h.0, block_in scope w b h.1, block_in scope w d h.2)
      stmt_in scope w (forever b) h = block_in scope w b h
      stmt_in scope w break h = tt
      stmt_in scope w continue h = tt
      stmt_in scope w leave h = tt
      stmt_in scope w (return a) h = operand_in scope w a h

      block_in : (scope : List CLocal) → Within all scope → (b : Block) → SeesBlock all scope b → IsIn (length all) (placed_block (numbers items) (places all) b)
      block_in scope w (block [] code) h = code_in scope w code h.1
      block_in scope w (block (x ∷ xs) code) h = (locals_in (x ∷ xs) h.0, code_in (x ∷ xs ++ scope) (within_block (x ∷ xs) scope h.0 w) code h.1)

      code_in : (scope : List CLocal) → Within all scope → (d : Code) → SeesCode all scope d → IsIn (length all) (placed_code (numbers items) (places all) d)
      code_in scope w done h = tt
      code_in scope w (do_then s more) h = (stmt_in scope w s h.0, code_in scope w more h.1)

function_in : (items : List Item) (f : Function) → SeesFunction f → IsReadyFunction (placed_function (numbers items) f)
function_in items f h = block_in (all_locals f) items f.params (record { by = λ x g. agree_sees (all_locals f) f.params x h.params g }) f.body h.body

functions_in : (items more : List Item) → SeesItems more → All IsReadyFunction (placed_functions (numbers items) more)
functions_in items [] h = All-nil IsReadyFunction
functions_in items (typedef d ∷ more) h = functions_in items more h
functions_in items (array a ∷ more) h = functions_in items more h.1
functions_in items (proto p ∷ more) h = functions_in items more h
functions_in items (function f ∷ more) h = All-cons IsReadyFunction (placed_function (numbers items) f) (placed_functions (numbers items) more) (function_in items f h.0) (functions_in items more h.1)

pub placed_ready : (p : Program) → well_formed p ≡ true → IsReady (placed p)
placed_ready p e = record { functions = functions_in p.items p.items (well_formed_sees p e) }
