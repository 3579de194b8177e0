use Rattle.std.proofs.Common.{◌∷◌, [], refl}
use Rattle.mm_c_parse.proofs.Steps.{yes_, fails_, passed_, broken_, took, none_took, rg, fg, ff, fs, mw, mw_not, tr, nr, nf}
use Rattle.mm_c_parse.proofs.Seen.{bad_seen, rl}
use Rattle.mm_c_parse_item.specs.Seen.{kind_place}
use Rattle.mm_c_parse_item.proofs.kind.kind_at.Goals as goal

pub returns-in-Some : goal.returns-in-Some
returns-in-Some c =
    let k = c.in-Some.ensures in
    yes_ (tr (45 ∷ []) refl refl k.0 k.1 (rg (took (45 ∷ []) k.0 k.1) refl))

pub returns-in-Some-eat : goal.returns-in-Some-eat
returns-in-Some-eat c =
    let n = c.in_default.ensures in
    let k = c.in-Some-eat.ensures in
    yes_ (nr (45 ∷ []) refl refl n.0 n.1 (tr (46 ∷ []) refl refl k.0 k.1 (rg (took (46 ∷ []) k.0 k.1) refl)))

pub returns-in-Some-eat-2 : goal.returns-in-Some-eat-2
returns-in-Some-eat-2 c =
    let n = c.in_default.ensures in
    let m = c.in_default-eat.ensures in
    let k = c.in-Some-eat-2.ensures in
    yes_ (nr (45 ∷ []) refl refl n.0 n.1 (nr (46 ∷ []) refl refl m.0 m.1 (tr (47 ∷ []) refl refl k.0 k.1 (rg (took (47 ∷ []) k.0 k.1) refl))))

pub returns-in_default-eat-3 : goal.returns-in_default-eat-3
returns-in_default-eat-3 c =
    let n = c.in_default.ensures in
    let m = c.in_default-eat.ensures in
    let l = c.in_default-eat-2.ensures in
    let k = c.in_default-eat-3.ensures in
    fails_ (nf (45 ∷ []) refl refl refl n.0 n.1 (nf (46 ∷ []) refl refl refl m.0 m.1 (nf (47 ∷ []) refl refl refl l.0 l.1 (fg (fg (ff refl (none_took (48 ∷ []) k.0 k.1)))))))

pub returns-in_err-marks : goal.returns-in_err-marks
returns-in_err-marks c =
    let n = c.in_default.ensures in
    let m = c.in_default-eat.ensures in
    let l = c.in_default-eat-2.ensures in
    let k = c.in-Some-eat-3.ensures in
    bad_seen kind_place _ c.from_residual.ensures.1 (λ e. nf (45 ∷ []) refl refl refl n.0 n.1 (nf (46 ∷ []) refl refl refl m.0 m.1 (nf (47 ∷ []) refl refl refl l.0 l.1 (fg (fg (fs refl (took (48 ∷ []) k.0 k.1) (mw_not (broken_ c.in_err-marks.ensures))))))))

pub returns : goal.returns
returns c =
    let n = c.in_default.ensures in
    let m = c.in_default-eat.ensures in
    let l = c.in_default-eat-2.ensures in
    let k = c.in-Some-eat-3.ensures in
    yes_ (nr (45 ∷ []) refl refl n.0 n.1 (nr (46 ∷ []) refl refl m.0 m.1 (nr (47 ∷ []) refl refl l.0 l.1 (rg (rl refl (took (48 ∷ []) k.0 k.1) (mw (passed_ c.in_ok-marks.ensures)).1) refl))))
