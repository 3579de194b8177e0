-- The arguments of functions, without classes.
use Rattle.std.proofs.Common.{◌≡◌, ◌≤◌, ℕ, List, [], ◌∷◌, ◌++◌, length, drop, refl, sym, ap, ◌∙◌, subst, arith}
use Rattle.std.specs.Prelude.{Bool, true, false, if◌then◌else◌}
use Rattle.mm_classes.specs.declared.class.Ty.{Ty}
use Rattle.mm_core.specs.Tree.{Stmt, Function}
use Rattle.mm_core.specs.Heads.{argument_types, local_types, types_of_params, owner_of, this_of}
use Rattle.mm_core.specs.Heads.{is_main}
use Rattle.mm_core.specs.declared.tree.CoreFn.{CoreFn}
use Rattle.mm_c.specs.declared.tree.CLocal.{CLocal}
use Rattle.mm_c.specs.Tree as c
use Rattle.mm_c.specs.Tree.{◌⨾◌}
use Rattle.mm_simulate.specs.Lowered.{locals_from, lowered_stmt, name_of, ending}
use Rattle.mm_lower_trees.specs.Scopes.{around_of, no_layout, program_of}
use Rattle.mm_lower.specs.Needed.{needed}
use Rattle.mm_lower.specs.Written.{code_of, block_of}

pub args_plain : (f : Function) → types_of_params f.params ≡ argument_types [] f
args_plain f = at f.member
  where
    at : (b : Bool) → types_of_params f.params ≡ (if b then this_of (owner_of [] f) else []) ++ types_of_params f.params
    at true = refl
    at false = refl

pub drop_behind : {X : Type 0} (xs ys : List X) → drop (length xs) (xs ++ ys) ≡ ys
drop_behind [] ys = refl
drop_behind (x ∷ xs) ys = drop_behind xs ys

within : {X : Type 0} (xs ys : List X) → length xs ≤ length (xs ++ ys)
within [] ys = omega arith
within (x ∷ xs) ys = let h = within xs ys in omega (arith, h)

pub arguments_within : (f : Function) (types : List Ty) (n : ℕ) → types ≡ local_types [] f → n ≡ length (argument_types [] f) → n ≤ length types
arguments_within f types n e h = subst (λ ts. n ≤ length ts) (sym e) (subst (λ m. m ≤ length (local_types [] f)) (sym h) (within (argument_types [] f) f.locals))

pub variables_are : (f : Function) (types : List Ty) (n : ℕ) → types ≡ local_types [] f → n ≡ length (argument_types [] f) → locals_from n (drop n types) ≡ locals_from (length (argument_types [] f)) f.locals
variables_are f types n e h =
    ap (λ ts. locals_from n (drop n ts)) e
    ∙ ap (λ m. locals_from m (drop m (local_types [] f))) h
    ∙ ap (locals_from (length (argument_types [] f))) (drop_behind (argument_types [] f) f.locals)

-- the block of a function
pub block_done : (fs : List CoreFn) (f : Function) (b : Stmt) (v : c.Block) (types : List Ty) (n : ℕ) (ls : List CLocal) (code : c.Code) → types ≡ local_types [] f → n ≡ length (argument_types [] f) → ls ≡ locals_from (length (argument_types [] f)) f.locals → code ≡ lowered_stmt (around_of fs types n) no_layout (name_of (program_of fs)) 0 b → v ≡ c.block (ls ++ needed code) (code ⨾ ending f.result (is_main f)) → v ≡ block_of (program_of fs) f b
block_done fs f b v types n ls code types_is n_is ls_is code_is v_is =
    let whole : code ≡ code_of (program_of fs) f b = code_is ∙ ap (λ ts. lowered_stmt (around_of fs ts n) no_layout (name_of (program_of fs)) 0 b) types_is ∙ ap (λ m. lowered_stmt (around_of fs (local_types [] f) m) no_layout (name_of (program_of fs)) 0 b) n_is in
    v_is ∙ ap (λ l. c.block (l ++ needed code) (code ⨾ ending f.result (is_main f))) ls_is ∙ ap (λ k. c.block (locals_from (length (argument_types [] f)) f.locals ++ needed k) (k ⨾ ending f.result (is_main f))) whole
