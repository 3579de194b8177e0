use Rattle.mm_syntax.specs.Rules.{function_end}
use Rattle.mm_cursor.proofs.Steps.{tail}
use Rattle.mm_parse_function.specs.Parts.{plain_end, member_end}
use Rattle.mm_parse_function.proofs.FunctionExits.{end_plain, end_no_plain, end_member, end_no_member}
use Rattle.mm_parse_function.proofs.function.function_end.Goals as goal

pub returns-in-Some-clause-reads : goal.returns-in-Some-clause-reads
returns-in-Some-clause-reads c =
    tail (plain_end c.args.nesting c.in-Some.word.now) (function_end c.args.nesting) _ _ _ _ c.plain_end.ensures.reads (λ v a. end_plain c.args.nesting _ _ _ c.in-Some.word.now v c.in-Some.ensures a) (λ f. end_no_plain c.args.nesting _ _ _ c.in-Some.word.now c.in-Some.ensures c.plain_end.ensures.shorter f)

pub returns-clause-reads : goal.returns-clause-reads
returns-clause-reads c =
    tail (member_end c.args.nesting) (function_end c.args.nesting) _ _ _ _ c.member_end.ensures.reads (λ v a. end_member c.args.nesting _ _ _ v c.in_default.ensures a) (λ f. end_no_member c.args.nesting _ _ _ c.in_default.ensures f)
