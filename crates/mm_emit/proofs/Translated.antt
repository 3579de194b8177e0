-- What is written of a program is its lowered program.
use Rattle.std.proofs.Common.{◌≡◌, ◌<◌, ℕ, zero, suc, List, [], ◌∷◌, ◌++◌, length, map, refl, sym, ap, ◌∙◌, subst, append_assoc}
use Rattle.std.specs.Prelude.{true, nat_eq, Option, Some, None, slice_get, if◌then◌else◌}
use Rattle.mm_classes.specs.Lists.{Has, first, later}
use Rattle.mm_core.specs.declared.tree.CoreFn.{CoreFn}
use Rattle.mm_core.specs.Tree.{Stmt, Function, Program}
use Rattle.mm_core.specs.Heads.{is_main, argument_types}
use Rattle.mm_core.specs.Run.{number_of_main}
use Rattle.mm_core.specs.View.{function_view}
use Rattle.mm_c.specs.declared.tree.CKind.{CKind}
use Rattle.mm_c.specs.declared.tree.CLinkage.TheVariants.{Public, Static}
use Rattle.mm_c.specs.declared.tree.CLocal.{CLocal}
use Rattle.mm_c.specs.declared.tree.CItem.{CItem}
use Rattle.mm_c.specs.Tree as c
use Rattle.mm_c.specs.Tree.{◌⨾◌}
use Rattle.mm_c.specs.View.{item_view, program_view}
use Rattle.mm_c.specs.WellFormed.{well_formed}
use Rattle.mm_agree.specs.Translates.{Translates}
use Rattle.mm_simulate.specs.Lowered.{Defined, entry, others, name_of, kind_of_result, locals_from, ending, temporary_local, lowered_program}
use Rattle.mm_simulate.specs.Lowered as lowered
use Rattle.mm_simulate.specs.Temporaries.{AreTemporaries}
use Rattle.mm_simulate.specs.Simulates.{IsScalar, IsShallow, DeclareTheirs}
use Rattle.mm_simulate.proofs.Defined.{IsAt, sound}
use Rattle.mm_simulate.proofs.Plain.{trees}
use Rattle.mm_simulate.proofs.Scalar.{simulates}
use Rattle.mm_lower_trees.specs.Scopes.{no_layout, program_of}
use Rattle.mm_lower.specs.Written.{FewTemporaries, AreWritable, IsLoweredTo, code_of, function_of, item_of, head_of, written}
use Rattle.mm_lower.proofs.Declared.{found_in, are_needed}

at_number : (fs : List Function) (i : ℕ) (f : Function) → slice_get fs i ≡ Some f → Has fs f
at_number [] i f e = cc
at_number (g ∷ fs) zero f e = first (let k : g ≡ f = cc in k)
at_number (g ∷ fs) (suc i) f e = later (at_number fs i f e)

pub writable : (p : Program) → IsScalar p → FewTemporaries p → AreWritable p
writable p scalar few i f b e h = (trees p scalar.classes (λ j g k. scalar.merged.valid.functions g (at_number p.functions j g k)) i f b e h, few i f b e h)

map_same : {X Y : Type 0} (f g : X → Y) (xs : List X) → ((x : X) → Has xs x → f x ≡ g x) → map f xs ≡ map g xs
map_same f g [] h = refl
map_same f g (x ∷ xs) h = ap (λ y. y ∷ map f xs) (h x (first refl)) ∙ ap (λ l. g x ∷ l) (map_same f g xs (λ y m. h y (later m)))

map_both : {X Y : Type 0} (f : X → Y) (xs ys : List X) → map f (xs ++ ys) ≡ map f xs ++ map f ys
map_both f [] ys = refl
map_both f (x ∷ xs) ys = ap (λ l. f x ∷ l) (map_both f xs ys)

abbrev of_items : List c.Item → c.Program
of_items is = record { items = is }

module _ (p : Program) where
  abbrev temps_body : Function → Option Stmt → List (CKind × ℕ)
  temps_body f None = []
  temps_body f (Some b) = (found_in (code_of p f b)).temps

  abbrev temps_at : Option Function → List (CKind × ℕ)
  temps_at None = []
  temps_at (Some f) = temps_body f f.body

  abbrev temps : ℕ → List (CKind × ℕ)
  temps i = temps_at (slice_get p.functions i)

  temps_is : (i : ℕ) (f : Function) (b : Stmt) → slice_get p.functions i ≡ Some f → f.body ≡ Some b → temps i ≡ (found_in (code_of p f b)).temps
  temps_is i f b e h = ap temps_at e ∙ ap (temps_body f) h

  theirs : DeclareTheirs p no_layout temps
  theirs i f b e h = subst (λ ts. AreTemporaries (code_of p f b) ts) (sym (temps_is i f b e h)) (are_needed (code_of p f b))

  abbrev with_locals : Defined → List CLocal → c.Function
  with_locals d ls = record {
    linkage = if nat_eq d.number (number_of_main p.functions) then Public else Static;
    result = kind_of_result d.function.result;
    name = name_of p d.number;
    params = locals_from 0 (argument_types p.classes d.function);
    body = c.block (locals_from (length (argument_types p.classes d.function)) d.function.locals ++ ls) (code_of p d.function d.body ⨾ ending d.function.result (is_main d.function));
  }

  function_is : (d : Defined) → IsAt p.functions d.number d → lowered.fn_of p no_layout temps d ≡ function_of p d
  function_is d at = ap (with_locals d) (ap (map temporary_local) (temps_is d.number d.function d.body at.there at.has_body) ∙ sym (found_in (code_of p d.function d.body)).same)

  lowered_is : lowered_program p no_layout temps ≡ written p
  lowered_is = ap (λ is. of_items (map (head_of p) (others p) ++ is)) (map_same (lowered.item_of p no_layout temps) (item_of p) (entry p ++ others p) (λ d h. ap c.function (function_is d (sound p d h))) ∙ map_both (item_of p) (entry p) (others p))

  module _ (q : c.Program) (is : q ≡ written p) where
    same : q ≡ lowered_program p no_layout temps
    same = is ∙ sym lowered_is

    pub is_lowered : IsLoweredTo p q
    is_lowered = (temps, same, theirs)

    pub does_translate : IsScalar p → Translates p q
    does_translate scalar = subst (λ r. Translates p r) (sym same) (simulates.translates p no_layout temps scalar)

    pub is_well_formed : IsScalar p → IsShallow p → well_formed q ≡ true
    is_well_formed scalar shallow = ap well_formed same ∙ simulates.well_formed p no_layout temps scalar shallow theirs

-- the items, piece by piece
pub all_items : (p : Program) (a b d e : List CItem) → a ≡ [] → map item_view b ≡ map item_view a ++ map (head_of p) (others p) → map item_view d ≡ map item_view b ++ map (item_of p) (entry p) → map item_view e ≡ map item_view d ++ map (item_of p) (others p) → program_view (record { items = e }) ≡ written p
all_items p a b d e none heads main rest =
    let H = map (head_of p) (others p) in
    let E = map (item_of p) (entry p) in
    let O = map (item_of p) (others p) in
    ap of_items (rest ∙ ap (λ l. l ++ O) (main ∙ ap (λ l. l ++ E) (heads ∙ ap (λ l. map item_view l ++ H) none)) ∙ append_assoc H E O)

pub main_inside : (fs : List CoreFn) (m : ℕ) → IsScalar (program_of fs) → m ≡ number_of_main (map function_view fs) → m < length fs
main_inside fs m scalar e = subst (λ k. k < length fs) (sym e) (subst (λ n. number_of_main (map function_view fs) < n) (mapped fs) scalar.merged.main)
  where
    mapped : (gs : List CoreFn) → length (map function_view gs) ≡ length gs
    mapped [] = refl
    mapped (g ∷ gs) = ap suc (mapped gs)
