-- How large the bodies of a typed unit are.
use Rattle.std.proofs.Common.{◌≡◌, ℕ, ◌+◌, ◌≤◌, List, [], ◌∷◌, length, refl, sym, subst, inl, inr, arith}
use Rattle.std.specs.Prelude.{Some, None, drop}
use Rattle.mm_base.specs.declared.limits.TheConstants.{MAX_TOKEN_RUN, MAX_NESTING}
use Rattle.mm_classes.specs.Lists.{Has}
use Rattle.mm_core.specs.Tree as k
use Rattle.mm_core.specs.Units.{Checked}
use Rattle.mm_core.proofs.Entering.{slice-Has}
use Rattle.mm_syntax.specs.Tree as syntax
use Rattle.mm_syntax.specs.View.{unit_view}
use Rattle.mm_unit_typing.specs.Scopes.{parameters_from}
use Rattle.mm_unit_typing.specs.Made.{block_of}
use Rattle.mm_unit_typing.specs.Functions.{with_function, number_of, seen}
use Rattle.mm_unit_typing.specs.Units.{body_here, FunctionTypes, DeclsType}
use Rattle.mm_typing_valid.proofs.Functions.{from_body, from_declared}
use Rattle.mm_typing_bounds.specs.Sizes.{levels, FunctionIsSmall, DeclsAreSmall}
use Rattle.mm_typing_bounds.specs.Bounded.{StmtIsBounded, TypedUnitIsBounded, TypedUnitIsShallow}
use Rattle.mm_typing_bounds.proofs.Statements.{block_bounded, stmt_bounded}
use Rattle.mm_typing_bounds.proofs.Limits.{unit_is_small}

inside : {X : Type 0} {x y : X} → Some x ≡ Some y → x ≡ y
inside e = cc

module _ (n most : ℕ) where
  abbrev AllBodies : List k.Function → Type 0
  AllBodies fs = (f : k.Function) (b : k.Stmt) → Has fs f → f.body ≡ Some b → StmtIsBounded n (most + 1) b

  larger : (l : ℕ) (s : k.Stmt) → l ≤ most → StmtIsBounded n (l + 1) s → StmtIsBounded n (most + 1) s
  larger l s le h = record { deep = (let a = h.deep in omega arith); nested = (let a = h.nested in omega arith); few = (let a = h.few in omega arith) }

  function_bounded : (fs : List k.Function) (f : syntax.Function) (v : List k.Function) → FunctionIsSmall n most f → AllBodies fs → FunctionTypes fs f v → AllBodies v
  function_bounded fs (syntax.declaration p x) v r ok h = subst AllBodies h.2 (λ f b m e. elim (from_declared fs x.name h.0 f m) [
    | inl q ↦ ok f b q e
    | inr q ↦ absurd (let z : None ≡ Some b = subst (λ (g : k.Function). g.body ≡ Some b) (sym q) e in cc)
  ])
  function_bounded fs (syntax.definition p x body) v r ok h =
      let fs1 = with_function fs x.name h.0 in
      let locals = drop (length h.0.params) h.2.0.locals in
      let own = larger (levels body) (block_of h.2.0.tree) r.1 (block_bounded n (levels body) h.2.0.tree (stmt_bounded (seen fs1) n (body_here x h.0) (parameters_from 0 x.params.list) h.0.params body h.2.0 r.0 h.2.1)) in
      subst AllBodies h.2.2 (λ f b m e. elim (from_body fs1 (number_of fs1 x.name.text h.0.params) locals (block_of h.2.0.tree) f m) [
        | inl m1 ↦ elim (from_declared fs x.name h.0 f m1) [
          | inl m2 ↦ ok f b m2 e
          | inr m2 ↦ absurd (let z : None ≡ Some b = subst (λ (g : k.Function). g.body ≡ Some b) (sym m2) e in cc)
        ]
        | inr g ↦ (let z : Some (block_of h.2.0.tree) ≡ Some b = subst (λ (f : k.Function). f.body ≡ Some b) (sym g.2) e in subst (StmtIsBounded n (most + 1)) (inside z) own)
      ])
  function_bounded fs (syntax.member_definition p class x body) v r ok h = absurd h
  function_bounded fs (syntax.constructor_definition p class word params body) v r ok h = absurd h
  function_bounded fs (syntax.method p at x body) v r ok h = absurd h
  function_bounded fs (syntax.destructor p at word has) v r ok h = absurd h
  function_bounded fs (syntax.constructor p word params body) v r ok h = absurd h

  decls_bounded : (fs : List k.Function) (ds : List syntax.Decl) (v : List k.Function) → DeclsAreSmall n most ds → AllBodies fs → DeclsType fs ds v → AllBodies v
  decls_bounded fs [] v r ok h = subst AllBodies h ok
  decls_bounded fs (syntax.function_decl p x ∷ ds) v r ok h = decls_bounded h.0 ds v r.1 (function_bounded fs x h.0 r.0 ok h.1) h.2
  decls_bounded fs (syntax.class_decl p x ∷ ds) v r ok h = absurd h.1

pub typed_unit_is_bounded : TypedUnitIsBounded
typed_unit_is_bounded n most u c r h i f b at e =
    let all = subst (λ (d : Checked). AllBodies n most d.program.functions) h.2 (decls_bounded n most [] u.decls h.0 r (λ f b m e. elim m [ ]) h.1) in
    all f b (slice-Has c.program.functions i f at) e

pub typed_unit_is_shallow : TypedUnitIsShallow
typed_unit_is_shallow u c l h =
    let all = typed_unit_is_bounded MAX_TOKEN_RUN MAX_NESTING (unit_view u) c (unit_is_small u l) h in
    let run : MAX_TOKEN_RUN ≡ 1000 = refl in
    let most : MAX_NESTING ≡ 200 = refl in
    ((λ i f b at e. let n = (all i f b at e).nested in omega arith), (λ i f b at e. let n = (all i f b at e).few in omega arith))
