use Rattle.std.proofs.Common.{◌∷◌, [], Bool, refl, sym, ap, ◌∙◌}
use Rattle.std.proofs.lemmas.List.{append-nil}
use Rattle.mm_c.specs.View.{item_view}
use Rattle.mm_c_parse.proofs.Steps.{ok, no_, rg, fg, rs, ff, fs, mr, mf, kr, kf, nr, nf, ug, uf}
use Rattle.mm_c_parse_stmt.proofs.Gathers.{lacks, goes_on, goes_plain}
use Rattle.mm_c_parse_item.specs.Parts.{static_end, unplaced}
use Rattle.mm_c_parse_item.specs.Seen.{head_of}
use Rattle.mm_c_parse_item.proofs.Items.{inline_read}
use Rattle.mm_c_parse_item.proofs.item.static_end.Goals as goal

pub returns-then-skip : goal.returns-then-skip
returns-then-skip c =
    let k = c.skip.ensures.passed c.if-skip.true in
    goes_plain item_view static_end _ [] (sym (append-nil _)) c.array.ensures
    (λ v a. kr refl refl k (rg (mr (42 ∷ []) refl k a) refl))
    (λ a. kf refl refl k a (fg (mf (42 ∷ []) refl k a)))

pub returns-in_err-kind : goal.returns-in_err-kind
returns-in_err-kind c =
    let n = c.skip.ensures.none c.if-skip.false in
    let i = inline_read _ c.skip-is_inline.ensures in
    lacks item_view _ c.from_residual.ensures.1 (λ e. nf (42 ∷ []) refl refl refl n.0 n.1 (fg (fs refl i.2 (ff refl (no_ c.in_err-kind.ensures e)))))

pub returns-in_err-head : goal.returns-in_err-head
returns-in_err-head c =
    let n = c.skip.ensures.none c.if-skip.false in
    let i = inline_read _ c.skip-is_inline.ensures in
    lacks item_view _ c.from_residual-in_err-head.ensures.1 (λ e. nf (42 ∷ []) refl refl refl n.0 n.1 (fg (fs refl i.2 (fs refl (ok c.in_ok-kind.ensures) (ff refl (no_ c.in_err-head.ensures e))))))

pub returns : goal.returns
returns c =
    let n = c.skip.ensures.none c.if-skip.false in
    let i = inline_read _ c.skip-is_inline.ensures in
    goes_on static_end [] (sym (append-nil _)) c.after_head.ensures
    (λ v ps a. let u = ug a in nr (42 ∷ []) refl refl n.0 n.1 (rg (rs refl i.2 (rs refl (ok c.in_ok-kind.ensures) (rs refl (ok c.in_ok-head.ensures) u.2))) (u.1 ∙ ap (λ (x : Bool). unplaced x c.in_ok-kind.kind (head_of c.in_ok-head.head) u.0) (sym i.1))))
    (λ a. nf (42 ∷ []) refl refl refl n.0 n.1 (fg (fs refl i.2 (fs refl (ok c.in_ok-kind.ensures) (fs refl (ok c.in_ok-head.ensures) (uf a))))))
