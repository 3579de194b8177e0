use Rattle.std.specs.Prelude.{◌&&◌}
use Rattle.std.proofs.Common.{◌+◌, drop, sym, ap, ◌∙◌, arith}
use Rattle.std.proofs.lemmas.Option.{slice_get_within}
use Rattle.mm_c.specs.WellFormed.{all_fit}
use Rattle.mm_c_names.specs.Entries.{params_view}
use Rattle.mm_c_rules.specs.Scopes.{here_view}
use Rattle.mm_c_rules.proofs.Arguments.{fit_more, fit_short}
use Rattle.mm_c_rules.proofs.operands.all_fit.Goals as goal

pub returns-in_default : goal.returns-in_default
returns-in_default c = sym (c.loop-i.invariant.same ∙ fit_short (here_view c.args.here.now) (params_view c.args.params.now) c.args.atoms.now c.loop-i.i (sym c.in_default.ensures) c.loop-i-test.true)

pub returns-then-not-fits : goal.returns-then-not-fits
returns-then-not-fits c =
    let h = here_view c.args.here.now in
    let ks = params_view c.args.params.now in
    let as_ = c.args.atoms.now in
    let i = c.loop-i.i in
    sym (c.loop-i.invariant.same ∙ fit_more h ks as_ i c.in-Some.kind c.index-atoms-i.result (sym c.in-Some.ensures) c.loop-i-test.true c.index-atoms-i.is
    ∙ ap (λ b. b && all_fit h (drop (i + 1) ks) (drop (i + 1) as_)) (sym c.if-not-fits.ensures))

pub loop-i-preserved : goal.loop-i-preserved
loop-i-preserved c =
    let h = here_view c.args.here.now in
    let ks = params_view c.args.params.now in
    let as_ = c.args.atoms.now in
    let i = c.loop-i.i in
    record {
      within = let z = slice_get_within ks i c.in-Some.kind (sym c.in-Some.ensures) in omega arith;
      same = c.loop-i.invariant.same ∙ fit_more h ks as_ i c.in-Some.kind c.index-atoms-i.result (sym c.in-Some.ensures) c.loop-i-test.true c.index-atoms-i.is
          ∙ ap (λ b. b && all_fit h (drop (i + 1) ks) (drop (i + 1) as_)) (sym c.if-not-fits.ensures);
    }
