-- The text of tokens, one part after another.
use Rattle.std.proofs.Common.{◌≡◌, ℕ, ◌+◌, ◌<◌, ◌^◌, List, [], ◌∷◌, ◌++◌, length, take, get_or, map, flat_map, refl, sym, ap, ◌∙◌, subst, append_assoc, append-nil}
use Rattle.std.proofs.lemmas.Grind.{flat_map-append}
use Rattle.std.proofs.lemmas.List.{take_more, map-append}
use Rattle.std.specs.Prelude.{true}
use Rattle.mm_c.specs.Tree.{Code, done, do_then, ◌⨾◌, just, Program}
use Rattle.mm_c.specs.View.{stmt_view, code_view, item_view}
use Rattle.mm_c.specs.WellFormed.{well_formed}
use Rattle.mm_c.specs.Spelling.{SpellsProgram}
use Rattle.mm_c.proofs.Printed.{written_is_spelled}
use Rattle.std.specs.Fmt.{decimal}
use Rattle.mm_c.specs.Printing.{Words, written, separator, text_of, number_text, suffix, next_of, stmt_tokens, code_tokens, item_tokens, prelude_tokens, program_tokens}
use Rattle.mm_c.specs.declared.tree.CItem.{CItem}
use Rattle.mm_c.specs.declared.tree.CNumber.{CNumber}
use Rattle.mm_c.specs.declared.tree.CStmt.{CStmt}
use Rattle.mm_c.proofs.Numerals.{number_separator}
use Rattle.mm_c.proofs.Views.{code_view-push, view-Assign, view-Store, view-Call, view-If, view-IfElse, view-While, view-Break, view-Continue, view-Return, view-ReturnValue, view-block}

pub text_of-append : (a b : List (List ℕ)) → text_of (a ++ b) ≡ text_of a ++ text_of b
text_of-append a b = flat_map-append written a b

pub code_tokens-⨾ : (a b : Code) → code_tokens (a ⨾ b) ≡ code_tokens a ++ code_tokens b
code_tokens-⨾ done b = refl
code_tokens-⨾ (do_then s a) b = ap (λ l. stmt_tokens s ++ l) (code_tokens-⨾ a b) ∙ sym (append_assoc (stmt_tokens s) (code_tokens a) (code_tokens b))

-- one statement more
pub code_tokens_more : (ss : List CStmt) (i : ℕ) (d : CStmt) → i < length ss → code_tokens (code_view (take (i + 1) ss)) ≡ code_tokens (code_view (take i ss)) ++ stmt_tokens (stmt_view (get_or ss i d))
code_tokens_more ss i d h =
    ap (λ l. code_tokens (code_view l)) (take_more ss i d h)
    ∙ ap code_tokens (code_view-push (take i ss) (get_or ss i d))
    ∙ code_tokens-⨾ (code_view (take i ss)) (just (stmt_view (get_or ss i d)))
    ∙ ap (λ l. code_tokens (code_view (take i ss)) ++ l) (append-nil (stmt_tokens (stmt_view (get_or ss i d))))

-- what was written of statements, and one more
pub wrote_code : (ss : List CStmt) (i : ℕ) (d : CStmt) (start old new : List ℕ) → i < length ss → d ≡ get_or ss i d → old ≡ start ++ text_of (code_tokens (code_view (take i ss))) → new ≡ old ++ text_of (stmt_tokens (stmt_view d)) → new ≡ start ++ text_of (code_tokens (code_view (take (i + 1) ss)))
wrote_code ss i d start old new h at before now =
    now ∙ ap (λ l. l ++ text_of (stmt_tokens (stmt_view d))) before
    ∙ append_assoc start (text_of (code_tokens (code_view (take i ss)))) (text_of (stmt_tokens (stmt_view d)))
    ∙ ap (λ x. start ++ (text_of (code_tokens (code_view (take i ss))) ++ text_of (stmt_tokens (stmt_view x)))) at
    ∙ ap (λ l. start ++ l) (sym (text_of-append (code_tokens (code_view (take i ss))) (stmt_tokens (stmt_view (get_or ss i d)))))
    ∙ ap (λ l. start ++ text_of l) (sym (code_tokens_more ss i d h))

module _ {A : Type 0} where
  -- one more of what is joined by commas
  pub joined_more : (f : A → Words) (xs : List A) (i : ℕ) (d : A) → i < length xs → flat_map (next_of f) (take (i + 1) xs) ≡ flat_map (next_of f) (take i xs) ++ next_of f (get_or xs i d)
  joined_more f xs i d h =
      ap (flat_map (next_of f)) (take_more xs i d h)
      ∙ flat_map-append (next_of f) (take i xs) (get_or xs i d ∷ [])
      ∙ ap (λ l. flat_map (next_of f) (take i xs) ++ l) (append-nil (next_of f (get_or xs i d)))

pub items_more : (is : List CItem) (i : ℕ) (d : CItem) → i < length is → flat_map item_tokens (map item_view (take (i + 1) is)) ≡ flat_map item_tokens (map item_view (take i is)) ++ item_tokens (item_view (get_or is i d))
items_more is i d h =
    ap (λ l. flat_map item_tokens (map item_view l)) (take_more is i d h)
    ∙ ap (flat_map item_tokens) (map-append item_view (take i is) (get_or is i d ∷ []))
    ∙ flat_map-append item_tokens (map item_view (take i is)) (item_view (get_or is i d) ∷ [])
    ∙ ap (λ l. flat_map item_tokens (map item_view (take i is)) ++ l) (append-nil (item_tokens (item_view (get_or is i d))))

-- the prelude, and then the items
pub after_prelude : (is : List CItem) (start old new : List ℕ) → old ≡ start ++ text_of prelude_tokens → new ≡ old ++ text_of (flat_map item_tokens (map item_view is)) → new ≡ start ++ text_of (prelude_tokens ++ flat_map item_tokens (map item_view is))
after_prelude is start old new before now =
    now ∙ ap (λ l. l ++ text_of (flat_map item_tokens (map item_view is))) before
    ∙ append_assoc start (text_of prelude_tokens) (text_of (flat_map item_tokens (map item_view is)))
    ∙ ap (λ l. start ++ l) (sym (text_of-append prelude_tokens (flat_map item_tokens (map item_view is))))

-- a text in the layout of a well-formed program spells it
pub spells_as : (text : List ℕ) (p : Program) → well_formed p ≡ true → text ≡ text_of (program_tokens p) → SpellsProgram text p
spells_as text p w e = subst (λ t. SpellsProgram t p) (sym e) (written_is_spelled p w)

pub number_end : (n : CNumber) → n.value < 2 ^ 32 → separator (number_text n) ≡ 32
number_end n h = number_separator n h

-- a number: its digits, its suffix and a blank
pub number_whole : (n : CNumber) (start a b z d s : List ℕ) → n.value < 2 ^ 32 → a ≡ start ++ d → d ≡ decimal n.value → b ≡ a ++ s → s ≡ suffix n.is_unsigned → z ≡ b ++ 32 ∷ [] → z ≡ start ++ written (number_text n)
number_whole n start a b z d s small e f g h k =
    k ∙ ap (λ l. l ++ 32 ∷ []) (g ∙ (λ i. e i ++ h i) ∙ (λ i. (start ++ f i) ++ suffix n.is_unsigned) ∙ append_assoc start (decimal n.value) (suffix n.is_unsigned))
    ∙ append_assoc start (number_text n) (32 ∷ []) ∙ ap (λ x. start ++ (number_text n ++ x ∷ [])) (sym (number_separator n small))

pub ruleset text_rules = (text_of-append, code_tokens_more, joined_more, items_more, number_end, view-Assign, view-Store, view-Call, view-If, view-IfElse, view-While, view-Break, view-Continue, view-Return, view-ReturnValue, view-block)
