use Rattle.std.proofs.Common.{refl}
use Rattle.mm_paths.proofs.Parting.{near_contains, far_tests}
use Rattle.mm_paths.proofs.graph.Graph.contains.Goals as goal

pub returns-in-Some : goal.returns-in-Some
returns-in-Some c = ((λ e. near_contains c.args.self.now c.own_count-own.ensures.valid c.args.d c.args.t c.args.s c.class_of-class.result c.own_count-own.result c.requires.whole c.requires.part c.class_of-class.ensures.class c.own_count-own.ensures.count c.in-Some._m c.in-Some.ensures), λ w. refl)

pub returns : goal.returns
returns c = far_tests c.args.self.now c.own_count-own.ensures.valid c.args.d c.args.t c.args.s c.class_of-class.result c.own_count-own.result c.requires.whole c.requires.part c.class_of-class.ensures.class c.own_count-own.ensures.count c.in_default.ensures c.index-path-0.result c.path.result.now c.virtual_bases.result.now c.among.result c.path.ensures.path c.index-path-0.is c.virtual_bases.ensures.order c.among.ensures
