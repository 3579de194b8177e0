use Rattle.mm_verdict.proofs.Steps.{content, scalar, shallow, few}
use Rattle.mm_verdict.proofs.unit.sound_unit.Goals as goal

pub returns-clause-content : goal.returns-clause-content
returns-clause-content g c =
    content c.args.unbuilt c.in_ok-tokens.tokens c.args.name.now (record { old = g.F.Files.seen c.args.files.now; new = g.F.Files.seen c.read.new.files })
    c.check_tokens.result c.in_ok-tokens.ensures.content c.check_tokens.ensures

pub returns-clause-scalar : goal.returns-clause-scalar
returns-clause-scalar g c = scalar c.args.unbuilt c.in_ok-tokens.tokens c.args.name.now c.check_tokens.result c.check_tokens.ensures

pub returns-clause-shallow : goal.returns-clause-shallow
returns-clause-shallow g c = shallow c.args.unbuilt c.in_ok-tokens.tokens c.args.name.now c.check_tokens.result c.check_tokens.ensures

pub returns-clause-few : goal.returns-clause-few
returns-clause-few g c = few c.args.unbuilt c.in_ok-tokens.tokens c.args.name.now c.check_tokens.result c.check_tokens.ensures
