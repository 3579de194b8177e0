use Rattle.mm_parse_function.proofs.ParamExits.{void_end_marked, void_end_named, void_end_none}
use Rattle.mm_parse_function.proofs.params.void_end.Goals as goal

pub returns-in-Some-clause-reads : goal.returns-in-Some-clause-reads
returns-in-Some-clause-reads c =
    void_end_marked _ _ _ _ _ _ c.in-Some.ensures c.eat-word.ensures c.in_ok-marked_end.ensures

pub returns-in_ok-param_end-in-Some-eat-clause-reads :
    goal.returns-in_ok-param_end-in-Some-eat-clause-reads
returns-in_ok-param_end-in-Some-eat-clause-reads c =
    void_end_named _ _ _ _ _ c.in_default.ensures c.in-Some-eat.ensures c.in_ok-param_end-in-Some-eat.ensures

pub returns-in-None-clause-reads : goal.returns-in-None-clause-reads
returns-in-None-clause-reads c =
    void_end_none _ _ _ c.in_default.ensures c.in-None.ensures
