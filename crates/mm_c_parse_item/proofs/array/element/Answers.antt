use Rattle.std.proofs.Common.{◌∷◌, [], refl}
use Rattle.mm_c.specs.Tokens.{names, numbers}
use Rattle.mm_c_parse.proofs.Steps.{yes_, bad, ok, no_, passed_, broken_, took, rg, fg, mr, mf, mb, tr, nr, nf}
use Rattle.mm_c_parse_item.proofs.array.element.Goals as goal

pub returns-in-Some : goal.returns-in-Some
returns-in-Some c = let k = c.in-Some.ensures in yes_ (tr names refl refl k.0 k.1 (rg (rg (took names k.0 k.1) c.in_ok-text_of.ensures) refl))

pub returns-in-Some-eat_number : goal.returns-in-Some-eat_number
returns-in-Some-eat_number c =
    let n = c.in_default.ensures in
    let k = c.in-Some-eat_number.ensures in
    yes_ (nr names refl refl n.0 n.1 (tr numbers refl refl k.0 k.1 (rg (rg (took numbers k.0 k.1) c.value_of.ensures) refl)))

pub returns-in_err-marks : goal.returns-in_err-marks
returns-in_err-marks c =
    let n = c.in_default.ensures in
    let m = c.in_default-eat_number.ensures in
    bad c.from_residual-in_err-marks.ensures.1 (λ e. nf names refl refl refl n.0 n.1 (nf numbers refl refl refl m.0 m.1 (fg (mb (31 ∷ []) _ refl (broken_ c.in_err-marks.ensures)))))

pub returns-in_err-value : goal.returns-in_err-value
returns-in_err-value c =
    let n = c.in_default.ensures in
    let m = c.in_default-eat_number.ensures in
    bad c.from_residual-in_err-value.ensures.1 (λ e. nf names refl refl refl n.0 n.1 (nf numbers refl refl refl m.0 m.1 (fg (mf (31 ∷ []) refl (passed_ c.in_ok-marks.ensures) (no_ c.in_err-value.ensures e)))))

pub returns : goal.returns
returns c =
    let n = c.in_default.ensures in
    let m = c.in_default-eat_number.ensures in
    yes_ (nr names refl refl n.0 n.1 (nr numbers refl refl m.0 m.1 (rg (mr (31 ∷ []) refl (passed_ c.in_ok-marks.ensures) (ok c.in_ok-value.ensures)) refl)))
