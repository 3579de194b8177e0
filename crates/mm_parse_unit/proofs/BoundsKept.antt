-- Each unit that was read keeps the bounds.
use Rattle.std.proofs.Common.{◌≡◌, zero, suc, ◌+◌, ◌≤◌, ◌^◌, List, length, flat_map, refl, sym, ap, subst, arith}
use Rattle.mm_token.specs.declared.token.Token.{Token}
use Rattle.mm_token.specs.declared.token.Tokens.{Tokens}
use Rattle.mm_grammar.specs.Grammar.{spells_in}
use Rattle.mm_syntax.specs.declared.decl.FnDecl.{FnDecl}
use Rattle.mm_syntax.specs.declared.decl.Decl.{Decl}
use Rattle.mm_syntax.specs.declared.decl.Unit.{Unit as UnitTree}
use Rattle.mm_syntax.specs.Limits.{exprs_of_stmt, depth_of, variables_of, fn_bodies, fn_inits, fn_params, decl_functions, decl_members, functions_of, bodies_of, exprs_of, names_of, IsWithinLimits}
use Rattle.mm_syntax.specs.Rules.{Rule, unit, decl, item, params, param, inits, init, block, stmt, var, declarator, type_name, args, expr, or, and, eq, rel, add, mul, unary, postfix, primary, Value, units, rule_of}
use Rattle.mm_parse_unit.specs.Units.{nesting, IsUnit, IsTreeOf}
use Rattle.mm_parse_unit.proofs.BoundsInduction.{by_rules}
use Rattle.mm_parse_unit.proofs.BoundsCount.{counted, counted_whole}
use Rattle.mm_parse_unit.proofs.BoundsWeights.{total, Every, Short, GoodStmt, fn_weight, GoodFn, decl_weight, GoodDecl, RuleCosts}
use Rattle.mm_parse_unit.proofs.BoundsLists.{every_all, every_append, every_flat, every_along, sum_total, total_flat, total_both, total_length}
use Rattle.mm_parse_unit.proofs.BoundsParts.{clean}
use Rattle.mm_parse_unit.proofs.BoundsExpr.{args_costs, expr_costs, or_costs, and_costs, eq_costs, rel_costs, add_costs, mul_costs, unary_costs, postfix_costs, primary_costs}
use Rattle.mm_parse_unit.proofs.BoundsStmt.{block_costs, none_costs, stmt_costs, var_costs, declarator_costs, type_costs}
use Rattle.mm_parse_unit.proofs.BoundsDecl.{unit_costs, decl_costs, item_costs, params_costs, param_costs, inits_costs, init_costs}

-- ---- rules

-- an expression within the count is short
expr_step : (ts : List Token) (v : Value expr) → spells_in units RuleCosts (rule_of expr) ts v → RuleCosts expr ts v
expr_step ts v h =
    let n = clean (rule_of expr) refl ts v h in
    let c = expr_costs.at ts v h in
    (λ e. n, (c.0, λ i. omega (arith, c.0, counted_whole ts i n)))

step : (x : Rule) (ts : List Token) (v : Value x) → spells_in units RuleCosts (rule_of x) ts v → RuleCosts x ts v
step (unit n) ts v h = (λ e. absurd (cc), (unit_costs n).at ts v h)
step (decl n) ts v h = (λ e. absurd (cc), (decl_costs n).at ts v h)
step (item n) ts v h = (λ e. absurd (cc), (item_costs n).at ts v h)
step params ts v h = (λ e. absurd (cc), params_costs.at ts v h)
step param ts v h = (λ e. absurd (cc), param_costs.at ts v h)
step inits ts v h = (λ e. absurd (cc), inits_costs.at ts v h)
step init ts v h = (λ e. absurd (cc), init_costs.at ts v h)
step (block n) ts v h = (λ e. absurd (cc), (block_costs n).at ts v h)
step (stmt zero) ts v h = (λ e. absurd (cc), none_costs.at ts v h)
step (stmt (suc n)) ts v h = (λ e. absurd (cc), (stmt_costs n).at ts v h)
step var ts v h = (λ e. absurd (cc), var_costs.at ts v h)
step declarator ts v h = (λ e. absurd (cc), declarator_costs.at ts v h)
step type_name ts v h = (λ e. absurd (cc), type_costs.at ts v h)
step args ts v h = (λ e. clean (rule_of args) refl ts v h, args_costs.at ts v h)
step expr ts v h = expr_step ts v h
step or ts v h = (λ e. clean (rule_of or) refl ts v h, or_costs.at ts v h)
step and ts v h = (λ e. clean (rule_of and) refl ts v h, and_costs.at ts v h)
step eq ts v h = (λ e. clean (rule_of eq) refl ts v h, eq_costs.at ts v h)
step rel ts v h = (λ e. clean (rule_of rel) refl ts v h, rel_costs.at ts v h)
step add ts v h = (λ e. clean (rule_of add) refl ts v h, add_costs.at ts v h)
step mul ts v h = (λ e. clean (rule_of mul) refl ts v h, mul_costs.at ts v h)
step unary ts v h = (λ e. clean (rule_of unary) refl ts v h, unary_costs.at ts v h)
step postfix ts v h = (λ e. clean (rule_of postfix) refl ts v h, postfix_costs.at ts v h)
step primary ts v h = (λ e. clean (rule_of primary) refl ts v h, primary_costs.at ts v h)

-- ---- units

unit_cost : (tokens : List Token) (decls : List Decl) → IsUnit tokens decls → (total decl_weight decls ≤ length tokens) × Every (GoodDecl nesting) decls
unit_cost tokens decls h =
    let q = by_rules RuleCosts step (unit nesting) tokens decls h.spelled in
    (q.1.0, q.1.1 (counted tokens h.counted))

functions_good : (tree : UnitTree) → Every (GoodDecl nesting) tree.decls → Every (GoodFn nesting) (functions_of tree)
functions_good tree h = every_flat (GoodFn nesting) (λ x. decl_functions x.kind) tree.decls h

bodies_good : (tree : UnitTree) → Every (GoodFn nesting) (functions_of tree) → Every (GoodStmt nesting) (bodies_of tree)
bodies_good tree h = every_flat (GoodStmt nesting) (λ x. fn_bodies x.kind) (functions_of tree) (every_along (GoodFn nesting) (λ x. Every (GoodStmt nesting) (fn_bodies x.kind)) (λ x i. i.1) (functions_of tree) h)

inits_good : (x : FnDecl) → GoodFn nesting x → Every Short (flat_map (λ y. y.arguments) (fn_inits x.kind))
inits_good x h = every_flat Short (λ y. y.arguments) (fn_inits x.kind) h.0

exprs_good : (tree : UnitTree) → Every (GoodFn nesting) (functions_of tree) → Every Short (exprs_of tree)
exprs_good tree h =
    every_append Short (flat_map (λ x. flat_map (λ y. y.arguments) (fn_inits x.kind)) (functions_of tree)) (flat_map exprs_of_stmt (bodies_of tree))
    (every_flat Short (λ x. flat_map (λ y. y.arguments) (fn_inits x.kind)) (functions_of tree) (every_along (GoodFn nesting) (λ x. Every Short (flat_map (λ y. y.arguments) (fn_inits x.kind))) inits_good (functions_of tree) h))
    (every_flat Short exprs_of_stmt (bodies_of tree) (every_along (GoodStmt nesting) (λ x. Every Short (exprs_of_stmt x)) (λ x i. i.0) (bodies_of tree) (bodies_good tree h)))

-- each name is counted at one declaration
names_are : (tree : UnitTree) → names_of tree ≡ total decl_weight tree.decls
names_are tree =
    let members = sum_total (λ x. decl_members x.kind) tree.decls in
    let parameters = sum_total (λ x. fn_params x.kind) (functions_of tree) in
    let variables = sum_total variables_of (bodies_of tree) in
    let in_bodies = total_flat variables_of (λ x. fn_bodies x.kind) (functions_of tree) in
    let in_functions = total_both (λ x. fn_params x.kind) (λ x. total variables_of (fn_bodies x.kind)) (functions_of tree) in
    let of_functions = total_flat fn_weight (λ x. decl_functions x.kind) tree.decls in
    let of_decls = total_both (λ x. decl_members x.kind) (λ x. total fn_weight (decl_functions x.kind)) tree.decls in
    let all = total_both (λ x. 1) (λ x. decl_members x.kind + total fn_weight (decl_functions x.kind)) tree.decls in
    let count = total_length tree.decls in
    omega (arith, members, parameters, variables, in_bodies, in_functions, of_functions, of_decls, all, count)

pub keeps : (tokens : Tokens) (tree : UnitTree) → IsTreeOf tokens tree → IsWithinLimits tree
keeps tokens tree h =
    let cost = unit_cost tokens.list tree.decls h.is_unit in
    let functions = functions_good tree cost.1 in
    record {
      expressions = every_all Short (exprs_of tree) (exprs_good tree functions);
      statements = every_all (λ x. depth_of x ≤ 200) (bodies_of tree) (every_along (GoodStmt nesting) (λ x. depth_of x ≤ 200) (λ x i. i.1) (bodies_of tree) (bodies_good tree functions));
      names = omega (arith, names_are tree, cost.0, tokens.few, tokens.limited);
      bytes = subst (λ n. n ≤ 2 ^ 20) (sym h.bytes_are) tokens.limited;
      some_file = subst (λ f. 1 ≤ length f) (sym h.files_are) tokens.some;
      few_files = omega (arith, ap length h.files_are, h.bytes_are, tokens.each);
    }
