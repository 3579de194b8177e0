use Rattle.std.proofs.Common.{◌∷◌, [], ◌++◌, refl, sym, ap, ◌∙◌}
use Rattle.std.proofs.lemmas.List.{append-nil}
use Rattle.mm_grammar.specs.Grammar.{name}
use Rattle.mm_c.specs.Grammar.{item}
use Rattle.mm_c.specs.View.{item_view}
use Rattle.mm_c_parse.proofs.Steps.{rg, fg, rs, fs, rn, fn_, tr, tf, nr, nf}
use Rattle.mm_c_parse_stmt.proofs.Gathers.{goes_on, goes_plain}
use Rattle.mm_c_parse_item.proofs.Items.{is_in, first_read, static_read, static_not}
use Rattle.mm_c_parse_item.proofs.item.item.Goals as goal

pub returns-then-branch : goal.returns-then-branch
returns-then-branch c =
    let b = c.in_ok-begin.ensures.passed c.if-branch.true in
    goes_plain item_view (name item) _ (b.0.place ∷ []) b.3 c.typedef.ensures
    (λ v a. rn {x = item} (tr (40 ∷ []) refl refl b.1 (is_in b.0 refl b.2) (rg (rs refl (first_read refl b.1 b.2) a) refl)))
    (λ a. fn_ {x = item} (tf (40 ∷ []) refl refl b.1 (is_in b.0 refl b.2) a (fg (fs refl (first_read refl b.1 b.2) a))))

pub returns-then-branch-2 : goal.returns-then-branch-2
returns-then-branch-2 c =
    let n = c.in_ok-begin.ensures.none c.if-branch.false in
    let b = c.in_ok-begin-2.ensures.passed c.if-branch-2.true in
    goes_on (name item) (b.0.place ∷ []) (b.3 ∙ ap (λ l. l ++ b.0.place ∷ []) n.1) c.static_end.ensures
    (λ v ps a. rn {x = item} (nr (40 ∷ []) refl refl n.0 n.2 (tr (41 ∷ []) refl refl b.1 (is_in b.0 refl b.2) (static_read b.1 b.2 a))))
    (λ a. fn_ {x = item} (nf (40 ∷ []) refl refl refl n.0 n.2 (tf (41 ∷ []) refl refl b.1 (is_in b.0 refl b.2) a (static_not b.1 b.2 a))))

pub returns : goal.returns
returns c =
    let n = c.in_ok-begin.ensures.none c.if-branch.false in
    let m = c.in_ok-begin-2.ensures.none c.if-branch-2.false in
    goes_on (name item) [] (m.1 ∙ (n.1 ∙ sym (append-nil _))) c.public_function.ensures
    (λ v ps a. rn {x = item} (nr (40 ∷ []) refl refl n.0 n.2 (nr (41 ∷ []) refl refl m.0 m.2 a)))
    (λ a. fn_ {x = item} (nf (40 ∷ []) refl refl refl n.0 n.2 (nf (41 ∷ []) refl refl refl m.0 m.2 a)))
