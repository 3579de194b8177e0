-- The functions of a program, one after another.
use Rattle.std.proofs.Common.{◌≡◌, ℕ, suc, ◌+◌, ◌<◌, ◌≤◌, List, [], ◌∷◌, ◌++◌, length, get_or, drop, map, refl, sym, ap, ◌∙◌, subst, arith, append_assoc}
use Rattle.std.specs.Prelude.{Bool, true, false, nat_eq, Option, Some, None, slice_get, option_map}
use Rattle.std.proofs.Math.Seq.{drop-cons}
use Rattle.std.proofs.lemmas.List.{append-nil, drop_all}
use Rattle.std.proofs.lemmas.Option.{slice_get-map, slice_get_read}
use Rattle.mm_core.specs.declared.tree.CoreFn.{CoreFn}
use Rattle.mm_core.specs.declared.tree.CoreStmt.{CoreStmt}
use Rattle.mm_core.specs.Tree.{Stmt, Function}
use Rattle.mm_core.specs.Run.{number_of_main}
use Rattle.mm_core.specs.View.{function_view, body_view, stmt_view}
use Rattle.mm_c.specs.Tree as c
use Rattle.mm_simulate.specs.Lowered.{Defined, with_body, others_from, others, entry_at, entry}
use Rattle.mm_lower_trees.specs.Scopes.{program_of}
use Rattle.mm_lower.specs.Written.{IsWritable, AreWritable, other_at}

abbrev pub defined_in : ℕ → CoreFn → CoreStmt → Defined
defined_in n f b = record { number = n; function = function_view f; body = stmt_view b }

module _ (g : Defined → c.Item) (fs : List CoreFn) (old : List c.Item) where
  abbrev m : ℕ
  m = number_of_main (map function_view fs)

  -- the first i are done
  pub record SoFar (i number : ℕ) (items : List c.Item) : Type 0 where
    pub at : number ≡ i
    pub all : items ++ map g (others_from m i (map function_view (drop i fs))) ≡ old ++ map g (others (program_of fs))

  pub start : SoFar 0 0 old
  start = record { at = refl; all = refl }

  pub end : (i number : ℕ) (items : List c.Item) → length fs ≤ i → SoFar i number items → items ≡ old ++ map g (others (program_of fs))
  end i number items past so = sym (append-nil items) ∙ (ap (λ l. items ++ map g (others_from m i (map function_view l))) (sym (drop_all i fs past)) ∙ so.all)

  module _ (i number : ℕ) (f : CoreFn) (items : List c.Item) (is : f ≡ get_or fs i f) (low : i < length fs) (so : SoFar i number items) where
    split : drop i fs ≡ f ∷ drop (suc i) fs
    split = drop-cons fs i f low ∙ ap (λ x. x ∷ drop (suc i) fs) (sym is)

    abbrev rest : List Defined
    rest = others_from m (suc i) (map function_view (drop (suc i) fs))

    next_by : (items' : List c.Item) (ds : List Defined) → others_from m i (map function_view (f ∷ drop (suc i) fs)) ≡ ds → items' ++ map g rest ≡ items ++ map g ds → SoFar (i + 1) (number + 1) items'
    next_by items' ds e h =
        let one : suc i ≡ i + 1 = omega arith in
        subst (λ n. SoFar n (number + 1) items') one (record {
          at = let z = so.at in omega (arith, z);
          all = h ∙ (ap (λ l. items ++ map g l) (sym e) ∙ (ap (λ l. items ++ map g (others_from m i (map function_view l))) (sym split) ∙ so.all));
        })

    with_rest : (n : ℕ) (h : Function) (o : Option Stmt) (ds : List Defined) → with_body n h o ds ≡ with_body n h o [] ++ ds
    with_rest n h None ds = refl
    with_rest n h (Some b) ds = refl

    other_rest : others_from m i (map function_view (f ∷ drop (suc i) fs)) ≡ other_at (program_of fs) i (function_view f) ++ rest
    other_rest = by (nat_eq i m)
      where
        by : (b : Bool) → elim b as (λ (z : Bool). List Defined) [ true ↦ rest | false ↦ with_body i (function_view f) (body_view f.body) rest ] ≡ elim b as (λ (z : Bool). List Defined) [ true ↦ [] | false ↦ with_body i (function_view f) (body_view f.body) [] ] ++ rest
        by true = refl
        by false = with_rest i (function_view f) (body_view f.body) rest

    map_two : (xs ys : List Defined) → map g (xs ++ ys) ≡ map g xs ++ map g ys
    map_two [] ys = refl
    map_two (x ∷ xs) ys = ap (λ l. g x ∷ l) (map_two xs ys)

    pub next : (items' : List c.Item) → items' ≡ items ++ map g (other_at (program_of fs) number (function_view f)) → SoFar (i + 1) (number + 1) items'
    next items' more = next_by items' (other_at (program_of fs) i (function_view f) ++ rest) other_rest
        (ap (λ l. l ++ map g rest) (more ∙ ap (λ n. items ++ map g (other_at (program_of fs) n (function_view f))) so.at)
        ∙ append_assoc items (map g (other_at (program_of fs) i (function_view f))) (map g rest)
        ∙ ap (λ l. items ++ l) (sym (map_two (other_at (program_of fs) i (function_view f)) rest)))

    pub there : slice_get fs number ≡ Some f
    there = subst (λ n. slice_get fs n ≡ Some f) (sym so.at) (slice_get_read fs (length fs) i f refl low is)

pub item_at : (fs : List CoreFn) (i : ℕ) (f : CoreFn) → i < length fs → f ≡ get_or fs i f → slice_get fs i ≡ Some f
item_at fs i f low is = slice_get_read fs (length fs) i f refl low is

-- ---- `main`

module _ (fs : List CoreFn) where
  abbrev at_main : ℕ
  at_main = number_of_main (map function_view fs)

  pub viewed_at : (i : ℕ) (f : CoreFn) → slice_get fs i ≡ Some f → slice_get (map function_view fs) i ≡ Some (function_view f)
  viewed_at i f e = slice_get-map function_view fs i ∙ ap (option_map function_view) e

  pub entry_is : (g : Defined → c.Item) (old items : List c.Item) (i : ℕ) (f : CoreFn) → i ≡ at_main → slice_get fs i ≡ Some f → items ≡ old ++ map g (with_body i (function_view f) (body_view f.body) []) → items ≡ old ++ map g (entry (program_of fs))
  entry_is g old items i f same e more = more ∙ ap (λ ds. old ++ map g ds) (ap (λ n. with_body n (function_view f) (body_view f.body) []) same ∙ sym (ap (entry_at at_main) (subst (λ n. slice_get (map function_view fs) n ≡ Some (function_view f)) same (viewed_at i f e))))

  -- what is written of a function of the program
  pub writable_at : (i : ℕ) (f : CoreFn) (b : CoreStmt) → AreWritable (program_of fs) → slice_get fs i ≡ Some f → f.body ≡ Some b → IsWritable (program_of fs) (function_view f) (stmt_view b)
  writable_at i f b all e h = all i (function_view f) (stmt_view b) (viewed_at i f e) (ap body_view h)
