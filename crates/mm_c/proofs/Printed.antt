-- What is written of a well-formed program spells it.
use Rattle.std.specs.Prelude.{true, map}
use Rattle.std.proofs.Common.{◌≡◌, ℕ, List, [], ◌∷◌, refl, sym, ap, ◌∙◌, subst}
use Rattle.mm_grammar.specs.Grammar.{name, Spells}
use Rattle.mm_c.specs.Tree.{Program}
use Rattle.mm_c.specs.Tokens.{Place, first_place, tokens_of}
use Rattle.mm_c.specs.Grammar.{program, texts}
use Rattle.mm_c.specs.WellFormed.{list_every}
use Rattle.mm_c.specs.Spelling.{Parses}
use Rattle.mm_c.specs.Printing.{text_of, program_tokens, program_ok}
use Rattle.mm_c.specs.Lexing.{is_token}
use Rattle.mm_c.proofs.Writes.{Words, texts_in}
use Rattle.mm_c.specs.Laws.{WrittenIsSpelled}
use Rattle.mm_c.proofs.Words.{well_formed_ok}
use Rattle.mm_c.proofs.Spelled.{program_w}
use Rattle.mm_c.proofs.Written.{tokens_written, spelled_tokens}

-- ---- a tree of the grammar

placed_words : (ws : Words) → texts_in (map (λ (x : List ℕ). record { text = x; place = first_place }) ws) ≡ ws
placed_words [] = refl
placed_words (x ∷ ws) = ap (λ l. x ∷ l) (placed_words ws)

words_are_tokens : (p : Program) → program_ok p ≡ true → list_every is_token (program_tokens p) ≡ true
words_are_tokens p h =
    let us = map (λ (x : List ℕ). record { text = x; place = first_place }) (program_tokens p) in
    let e = placed_words (program_tokens p) in
    let r = (program_w p h).by us e in
    ap (list_every is_token) (sym e) ∙ spelled_tokens program us r.0 r.2

pub written_parses : (p : Program) → program_ok p ≡ true → (places : List Place) × Parses (text_of (program_tokens p)) p places
written_parses p h =
    let r = (program_w p h).by (tokens_of (text_of (program_tokens p))) (tokens_written (program_tokens p) (words_are_tokens p h)) in
    (r.0.places, subst (λ z. Spells texts (name program) (tokens_of (text_of (program_tokens p))) (record { tree = z; places = r.0.places })) r.1 r.2)

-- What is written of a well-formed program spells it.
pub written_is_spelled : WrittenIsSpelled
written_is_spelled p w = let r = written_parses p (well_formed_ok p w) in record { places = r.0; parses = r.1; well_formed = w }
