-- The first tree of a form, part by part.
use Rattle.std.proofs.Common.{arith, ◌≡◌, ℕ, Bool, true, false, if◌then◌else◌, List, [], ◌∷◌, ◌++◌, Option, Some, refl, ap, sym, ◌∙◌, length, map, take, get_or, ◌<◌, ◌≤◌, ◌+◌}
use Rattle.std.specs.List.{flat_map}
use Rattle.std.specs.Option.{option_or}
use Rattle.std.proofs.lemmas.List.{map_more, take_more, append-nil}
use Rattle.std.proofs.lemmas.Grind.{flat_map-append}
use Rattle.mm_base.specs.declared.place.Place.{Place}
use Rattle.mm_syntax.specs.declared.form.Forms.{Forms as FormSet}
use Rattle.mm_syntax.specs.declared.form.Form.TheVariants.{Construct}
use Rattle.mm_syntax.specs.declared.expr.Expr.{Expr}
use Rattle.mm_syntax.specs.declared.stmt.Stmt.{Stmt}
use Rattle.mm_syntax.specs.Tree as t
use Rattle.mm_syntax.specs.View.{exprs_of, stmts_of, expr_view, exprs_view, stmt_view, stmts_view}
use Rattle.mm_syntax.specs.Forms.{Mark, first_of, is_among, expr_marks, exprs_marks, stmt_marks, stmts_marks, new_form}
use Rattle.mm_syntax.proofs.Views.{tree_rules}

first_at : (b : Bool) (place : Place) (xs ys zs : Option Place) → xs ≡ option_or ys zs →
    (if b then Some place else xs) ≡ option_or (if b then Some place else ys) zs
first_at true place xs ys zs h = refl
first_at false place xs ys zs h = h

pub first-append : (wanted : FormSet) (xs ys : List Mark) →
    first_of wanted (xs ++ ys) ≡ option_or (first_of wanted xs) (first_of wanted ys)
first-append wanted [] ys = refl
first-append wanted (x ∷ xs) ys = first_at (is_among wanted x.form) x.place (first_of wanted (xs ++ ys)) (first_of wanted xs) (first_of wanted ys) (first-append wanted xs ys)

-- ---- lists

pub exprs-listed : (xs : List t.Expr) → exprs_marks (exprs_of xs) ≡ flat_map expr_marks xs
exprs-listed [] = refl
exprs-listed (x ∷ xs) = ap (λ ys. expr_marks x ++ ys) (exprs-listed xs)

pub stmts-listed : (ss : List t.Stmt) → stmts_marks (stmts_of ss) ≡ flat_map stmt_marks ss
stmts-listed [] = refl
stmts-listed (s ∷ ss) = ap (λ ys. stmt_marks s ++ ys) (stmts-listed ss)

pub some_new : (xs : List Expr) → 1 ≤ length xs → Construct ≡ new_form (exprs_view xs)
some_new [] h = absurd (omega arith)
some_new (x ∷ xs) h = refl

pub ruleset walked_rules = (tree_rules, first-append)

-- with one tree more
more : {Y : Type 0} (f : Y → List Mark) (wanted : FormSet) (ys : List Y) (y : Y) →
    first_of wanted (flat_map f (ys ++ y ∷ [])) ≡ option_or (first_of wanted (flat_map f ys)) (first_of wanted (f y))
more f wanted ys y =
    ap (first_of wanted) (flat_map-append f ys (y ∷ []))
    ∙ (first-append wanted (flat_map f ys) (f y ++ [])
    ∙ ap (λ zs. option_or (first_of wanted (flat_map f ys)) (first_of wanted zs)) (append-nil (f y)))

joined : (a b c d r : Option Place) → a ≡ c → b ≡ d → r ≡ option_or a b → r ≡ option_or c d
joined a b c d r h e g = g ∙ (ap (λ o. option_or o b) h ∙ ap (option_or c) e)

pub one_more : {X : Type 0} (f : X → List Mark) (wanted : FormSet) (list : List X) (i : ℕ) (x : X)
    (first next result : Option Place) → i < length list → x ≡ get_or list i x →
    first ≡ first_of wanted (flat_map f (take i list)) → next ≡ first_of wanted (f x) →
    result ≡ option_or first next → result ≡ first_of wanted (flat_map f (take (i + 1) list))
one_more f wanted list i x first next result lt is h e g =
    joined first next _ _ result h e g
    ∙ sym (ap (λ ys. first_of wanted (flat_map f ys)) (take_more list i x lt ∙ ap (λ y. take i list ++ y ∷ []) (sym is)) ∙ more f wanted (take i list) x)

-- the same of plain trees
pub view_more : {X Y : Type 0} (v : X → Y) (f : Y → List Mark) (wanted : FormSet)
    (list : List X) (i : ℕ) (x : X) (first next result : Option Place) →
    i < length list → x ≡ get_or list i x →
    first ≡ first_of wanted (flat_map f (map v (take i list))) →
    next ≡ first_of wanted (f (v x)) → result ≡ option_or first next →
    result ≡ first_of wanted (flat_map f (map v (take (i + 1) list)))
view_more v f wanted list i x first next result lt is h e g =
    joined first next _ _ result h e g
    ∙ sym (ap (λ ys. first_of wanted (flat_map f ys)) (map_more v list i x lt ∙ ap (λ y. map v (take i list) ++ v y ∷ []) (sym is)) ∙ more f wanted (map v (take i list)) (v x))

pub exprs_more : (wanted : FormSet) (list : List Expr) (i : ℕ) (x : Expr)
    (first next result : Option Place) → i < length list → x ≡ get_or list i x →
    first ≡ first_of wanted (exprs_marks (exprs_view (take i list))) →
    next ≡ first_of wanted (expr_marks (expr_view x)) → result ≡ option_or first next →
    result ≡ first_of wanted (exprs_marks (exprs_view (take (i + 1) list)))
exprs_more wanted list i x first next result lt is h e g =
    view_more expr_view expr_marks wanted list i x first next result lt is
    (h ∙ ap (first_of wanted) (exprs-listed (map expr_view (take i list)))) e g
    ∙ ap (first_of wanted) (sym (exprs-listed (map expr_view (take (i + 1) list))))

pub stmts_more : (wanted : FormSet) (list : List Stmt) (i : ℕ) (x : Stmt)
    (first next result : Option Place) → i < length list → x ≡ get_or list i x →
    first ≡ first_of wanted (stmts_marks (stmts_view (take i list))) →
    next ≡ first_of wanted (stmt_marks (stmt_view x)) → result ≡ option_or first next →
    result ≡ first_of wanted (stmts_marks (stmts_view (take (i + 1) list)))
stmts_more wanted list i x first next result lt is h e g =
    view_more stmt_view stmt_marks wanted list i x first next result lt is
    (h ∙ ap (first_of wanted) (stmts-listed (map stmt_view (take i list)))) e g
    ∙ ap (first_of wanted) (sym (stmts-listed (map stmt_view (take (i + 1) list))))
