-- What is written of a function keeps what the function does.
use Rattle.std.proofs.Common.{◌≡◌, ℕ, List, ◌++◌, length, refl, sym, ap, ◌∙◌, subst}
use Rattle.std.specs.Prelude.{Bool, nat_eq, if◌then◌else◌}
use Rattle.mm_core.specs.Tree.{Program}
use Rattle.mm_core.specs.Heads.{is_main, argument_types}
use Rattle.mm_core.specs.Run.{number_of_main}
use Rattle.mm_core.specs.ValidProgram.{around}
use Rattle.mm_c.specs.declared.tree.CKind.{CKind}
use Rattle.mm_c.specs.declared.tree.CLinkage.TheVariants.{Public, Static}
use Rattle.mm_c.specs.declared.tree.CLocal.{CLocal}
use Rattle.mm_c.specs.Tree as c
use Rattle.mm_c.specs.Tree.{◌⨾◌}
use Rattle.mm_simulate.specs.Lowered.{Defined, name_of, kind_of_result, locals_from, ending, is_defined, lowered_fn}
use Rattle.mm_simulate.specs.Simulates.{KeepsAt}
use Rattle.mm_simulate.proofs.Scalar.{keeps_law}
use Rattle.mm_lower_trees.specs.Scopes.{no_layout}
use Rattle.mm_lower.specs.Written.{code_of, function_of, KeepsAtAll}
use Rattle.mm_lower.proofs.Declared.{found_in}

module _ (p : Program) (d : Defined) where
  abbrev is_public : Bool
  is_public = nat_eq d.number (number_of_main p.functions)

  abbrev temps : List (CKind × ℕ)
  temps = (found_in (code_of p d.function d.body)).temps

  with_locals : List CLocal → c.Function
  with_locals ls = record {
    linkage = if is_public then Public else Static;
    result = kind_of_result d.function.result;
    name = name_of p d.number;
    params = locals_from 0 (argument_types p.classes d.function);
    body = c.block (locals_from (length (argument_types p.classes d.function)) d.function.locals ++ ls)
        (code_of p d.function d.body ⨾ ending d.function.result (is_main d.function));
  }

  function_is : function_of p d ≡ lowered_fn (around is_defined p d.function) no_layout (name_of p) d.number is_public d.function d.body temps
  unfolding with_locals
  function_is = ap with_locals (found_in (code_of p d.function d.body)).same

  pub keeps_at_all : (F : c.Function) → F ≡ function_of p d → KeepsAtAll p d F
  keeps_at_all F is q named n scalar there has below =
      subst (λ f. KeepsAt p no_layout q n d.number d.function f) (sym (is ∙ function_is))
      (keeps_law.by p no_layout (name_of p) q named d.number d.function d.body is_public temps n scalar there has below)
