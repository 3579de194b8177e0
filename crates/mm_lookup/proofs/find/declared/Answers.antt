use Rattle.std.proofs.Common.{◌≡◌, List, sym, subst}
use Rattle.std.specs.Prelude.{true, false, None, Some}
use Rattle.mm_classes.specs.declared.class.Member.{Member}
use Rattle.mm_classes.specs.Classes.{members_of, IsNextNamed}
use Rattle.mm_lookup.specs.Lookup.{IsFieldNamed, AreFunctions}
use Rattle.mm_lookup.proofs.Declaring.{Named, first_decides, field_at, all_functions}
use Rattle.mm_lookup.proofs.Finding.{only_one}
use Rattle.mm_lookup.proofs.find.declared.Goals as goal

pub returns-in_default : goal.returns-in_default
returns-in_default c = absurd (let z : false ≡ true = (first_decides None (members_of c.args.graph.now c.class_of-class.result) c.args.name.now c.in_default.ensures).1
    (subst (λ k. Named (members_of c.args.graph.now k) c.args.name.now) (sym c.class_of-class.ensures.class) c.requires.fits) in differ z) where
      differ : false ≡ true → ⊥
      differ z = cc

pub returns-then-is_a_field : goal.returns-then-is_a_field
returns-then-is_a_field c = (
  only_one c.args.graph.now c.requires.valid c.args.c c.args.name.now c.args.n c.requires.node c.requires.fits c.requires.all,
  subst (λ k. IsFieldNamed (members_of c.args.graph.now k) c.in-Some.k c.args.name.now) c.class_of-class.ensures.class
      (subst (λ (ms : List Member). IsFieldNamed ms c.in-Some.k c.args.name.now) c.members.ensures.members (field_at c.members.result.now c.in-Some.k c.args.name.now c.index-members-k.result c.is_a_field.result (subst (λ (ms : List Member). IsNextNamed (Some c.in-Some.k) ms c.args.name.now 0) (sym c.members.ensures.members) c.in-Some.ensures) c.index-members-k.is c.is_a_field.ensures c.if-is_a_field.true)),
)

pub returns : goal.returns
returns c = (
  only_one c.args.graph.now c.requires.valid c.args.c c.args.name.now c.args.n c.requires.node c.requires.fits c.requires.all,
  subst (λ k. AreFunctions (members_of c.args.graph.now k) c.args.name.now) c.class_of-class.ensures.class
      (subst (λ (ms : List Member). AreFunctions ms c.args.name.now) c.members.ensures.members (all_functions c.members.result.now c.in-Some.k c.args.name.now c.index-members-k.result c.is_a_field.result c.members.ensures.apart (subst (λ (ms : List Member). IsNextNamed (Some c.in-Some.k) ms c.args.name.now 0) (sym c.members.ensures.members) c.in-Some.ensures) c.index-members-k.is c.is_a_field.ensures c.if-is_a_field.false)),
)
