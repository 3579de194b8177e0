-- Statements, one after another, and what they begin with.
use Rattle.std.specs.Prelude.{false, ◌==◌, flat_map}
use Rattle.std.proofs.Common.{◌≡◌, ℕ, IsTrue, List, [], ◌∷◌, ◌++◌, map, refl, ap, sym, ◌∙◌, append_assoc, inl, inr}
use Rattle.std.proofs.lemmas.List.{append-nil}
use Rattle.mm_grammar.specs.Grammar.{one, name, has, Front}
use Rattle.mm_grammar.specs.Ahead.{within}
use Rattle.mm_grammar.proofs.Lists.{or_cases, or_left, has-within}
use Rattle.mm_grammar.proofs.Closed.{fold_front}
use Rattle.mm_c.specs.declared.tree.CStmt.{CStmt}
use Rattle.mm_c.specs.Tree.{Stmt}
use Rattle.mm_c.specs.Tokens.{Token, Place, names, class_of}
use Rattle.mm_c.specs.Grammar.{Placed, texts, stmt}
use Rattle.mm_c.specs.View.{stmt_view}
use Rattle.mm_c_parse_stmt.specs.Parts.{stmt_firsts}
use Rattle.mm_c_parse_stmt.proofs.Gathers.{here}

abbrev pub trees : List (Placed Stmt) → List Stmt
trees ss = map (λ (s : Placed Stmt). s.tree) ss

abbrev pub places : List (Placed Stmt) → List Place
places ss = flat_map (λ (s : Placed Stmt). s.places) ss

trees_more : (done : List (Placed Stmt)) (b : Placed Stmt) → trees (done ++ b ∷ []) ≡ trees done ++ b.tree ∷ []
trees_more [] b = refl
trees_more (x ∷ done) b = ap (λ l. x.tree ∷ l) (trees_more done b)

views_more : (list : List CStmt) (x : CStmt) → map stmt_view (list ++ x ∷ []) ≡ map stmt_view list ++ stmt_view x ∷ []
views_more [] x = refl
views_more (y ∷ list) x = ap (λ l. stmt_view y ∷ l) (views_more list x)

places_more : (done : List (Placed Stmt)) (b : Placed Stmt) → places (done ++ b ∷ []) ≡ places done ++ b.places
places_more [] b = append-nil b.places
places_more (x ∷ done) b = ap (λ l. x.places ++ l) (places_more done b) ∙ sym (append_assoc x.places (places done) b.places)

-- one statement more
pub trees_step : (done : List (Placed Stmt)) (list longer : List CStmt) (x : CStmt) (ps : List Place) → trees done ≡ map stmt_view list → longer ≡ list ++ x ∷ [] → trees (done ++ here (stmt_view x) ps ∷ []) ≡ map stmt_view longer
trees_step done list longer x ps e l = trees_more done (here (stmt_view x) ps) ∙ (ap (λ s. s ++ stmt_view x ∷ []) e ∙ (sym (views_more list x) ∙ ap (λ s. map stmt_view s) (sym l)))

pub places_step : (done : List (Placed Stmt)) (before mid after : List Place) (v : Stmt) (ps : List Place) → mid ≡ before ++ places done → after ≡ mid ++ ps → after ≡ before ++ places (done ++ here v ps ∷ [])
places_step done before mid after v ps m a = a ∙ (ap (λ l. l ++ ps) m ∙ (append_assoc before (places done) ps ∙ ap (λ l. before ++ l) (sym (places_more done (here v ps)))))

-- ---- the first token

among : (c : ℕ) (cs : List ℕ) (k : Token) → IsTrue (within (c ∷ []) cs) → IsTrue (class_of k == c) → Front texts (one cs) (k ∷ [])
among c cs k w h = inr (k, refl, has-within (class_of k) (c ∷ []) cs w (or_left (class_of k == c) false h))

pub stmt_front : (d : ℕ) (k : Token) → IsTrue (has (class_of k) stmt_firsts) → Front texts (name (stmt d)) (k ∷ [])
stmt_front d k h = fold_front texts (stmt d) (k ∷ []) (first h)
  where
    named : (c : ℕ) → IsTrue (within (c ∷ []) names) → IsTrue (class_of k == c) → Front texts (texts.rule (stmt d)) (k ∷ [])
    named c w i = inl (inl (among c names k w i))

    later : IsTrue (has (class_of k) (29 ∷ 50 ∷ 52 ∷ 53 ∷ 54 ∷ 55 ∷ [])) → Front texts (texts.rule (stmt d)) (k ∷ [])
    later h = elim (or_cases _ _ h) [
      | inl i ↦ inr (inl (inl (among 29 (29 ∷ []) k refl i)))
      | inr h2 ↦ elim (or_cases _ _ h2) [
        | inl i ↦ inr (inr (inl (inl (among 50 (50 ∷ []) k refl i))))
        | inr h3 ↦ elim (or_cases _ _ h3) [
          | inl i ↦ inr (inr (inr (inl (inl (among 52 (52 ∷ []) k refl i)))))
          | inr h4 ↦ elim (or_cases _ _ h4) [
            | inl i ↦ inr (inr (inr (inr (inl (inl (among 53 (53 ∷ []) k refl i))))))
            | inr h5 ↦ elim (or_cases _ _ h5) [
              | inl i ↦ inr (inr (inr (inr (inr (inl (inl (among 54 (54 ∷ []) k refl i)))))))
              | inr h6 ↦ elim (or_cases _ _ h6) [ inl i ↦ inr (inr (inr (inr (inr (inr (inl (among 55 (55 ∷ []) k refl i))))))) | inr o ↦ absurd (cc) ]
            ]
          ]
        ]
      ]
    ]

    first : IsTrue (has (class_of k) stmt_firsts) → Front texts (texts.rule (stmt d)) (k ∷ [])
    first h = elim (or_cases _ _ h) [
      | inl i ↦ named 0 refl i
      | inr h2 ↦ elim (or_cases _ _ h2) [
        | inl i ↦ named 1 refl i
        | inr h3 ↦ elim (or_cases _ _ h3) [
          | inl i ↦ named 2 refl i
          | inr h4 ↦ elim (or_cases _ _ h4) [
            | inl i ↦ named 3 refl i
            | inr h5 ↦ elim (or_cases _ _ h5) [
              | inl i ↦ named 4 refl i
              | inr h6 ↦ elim (or_cases _ _ h6) [ inl i ↦ named 5 refl i | inr o ↦ later o ]
            ]
          ]
        ]
      ]
    ]
