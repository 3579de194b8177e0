use Rattle.std.proofs.Common.{◌∷◌, [], ◌++◌, refl, ap, ◌∙◌}
use Rattle.mm_c.specs.Tree as t
use Rattle.mm_c.specs.View.{stmt_view}
use Rattle.mm_c.proofs.Views.{view-Break, view-Continue}
use Rattle.mm_c_parse.proofs.Steps.{passed_, broken_, none_took, fg, ff, nr, nf}
use Rattle.mm_c_parse_stmt.specs.Parts.{jump}
use Rattle.mm_c_parse_stmt.proofs.Gathers.{gives, lacks, lacks_itself, goes_plain}
use Rattle.mm_c_parse_stmt.proofs.Returns.{break_not, break_reads, continue_not, continue_reads, return_reads, return_not}
use Rattle.mm_c_parse_stmt.proofs.simple.jump.Goals as goal

pub returns-in_err-marks : goal.returns-in_err-marks
returns-in_err-marks c =
    let b = c.in_ok-begin.ensures.passed c.if-branch.true in
    lacks stmt_view _ c.from_residual-in_err-marks.ensures.1 (λ e. break_not b.1 b.2 (broken_ c.in_err-marks.ensures))

pub returns-then-branch : goal.returns-then-branch
returns-then-branch c =
    let b = c.in_ok-begin.ensures.passed c.if-branch.true in
    gives stmt_view t.break (b.0.place ∷ []) (ap stmt_view c.in_ok-new.ensures ∙ view-Break) b.3 (break_reads b.1 b.2 (passed_ c.in_ok-marks.ensures))

pub returns-in_err-marks-2 : goal.returns-in_err-marks-2
returns-in_err-marks-2 c =
    let n = c.in_ok-begin.ensures.none c.if-branch.false in
    let b = c.in_ok-begin-2.ensures.passed c.if-branch-2.true in
    lacks stmt_view _ c.from_residual-in_err-marks-2.ensures.1 (λ e. nf (53 ∷ []) refl refl refl n.0 n.2 (continue_not b.1 b.2 (broken_ c.in_err-marks-2.ensures)))

pub returns-then-branch-2 : goal.returns-then-branch-2
returns-then-branch-2 c =
    let n = c.in_ok-begin.ensures.none c.if-branch.false in
    let b = c.in_ok-begin-2.ensures.passed c.if-branch-2.true in
    gives stmt_view t.continue (b.0.place ∷ []) (ap stmt_view c.in_ok-new-2.ensures ∙ view-Continue) (b.3 ∙ ap (λ l. l ++ b.0.place ∷ []) n.1)
    (nr (53 ∷ []) refl refl n.0 n.2 (continue_reads b.1 b.2 (passed_ c.in_ok-marks-2.ensures)))

pub returns-then-branch-3 : goal.returns-then-branch-3
returns-then-branch-3 c =
    let n = c.in_ok-begin.ensures.none c.if-branch.false in
    let m = c.in_ok-begin-2.ensures.none c.if-branch-2.false in
    let b = c.in_ok-begin-3.ensures.passed c.if-branch-3.true in
    goes_plain stmt_view jump _ (b.0.place ∷ []) (b.3 ∙ ap (λ l. l ++ b.0.place ∷ []) (m.1 ∙ n.1)) c.return_end.ensures
    (λ v a. nr (53 ∷ []) refl refl n.0 n.2 (nr (54 ∷ []) refl refl m.0 m.2 (return_reads b.1 b.2 a)))
    (λ a. nf (53 ∷ []) refl refl refl n.0 n.2 (nf (54 ∷ []) refl refl refl m.0 m.2 (return_not b.1 b.2 a)))

pub returns : goal.returns
returns c =
    let n = c.in_ok-begin.ensures.none c.if-branch.false in
    let m = c.in_ok-begin-2.ensures.none c.if-branch-2.false in
    let l = c.in_ok-begin-3.ensures.none c.if-branch-3.false in
    lacks_itself stmt_view (nf (53 ∷ []) refl refl refl n.0 n.2 (nf (54 ∷ []) refl refl refl m.0 m.2 (fg (ff refl (none_took (55 ∷ []) l.0 l.2)))))
