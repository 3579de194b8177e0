use Rattle.std.proofs.Common.{◌≡◌, ◌∙◌, List, length, take, refl, sym, ap, subst, arith, inl, inr}
use Rattle.std.specs.Prelude.{true, false}
use Rattle.std.proofs.lemmas.List.{length-map}
use Rattle.mm_classes.specs.declared.class.Base.{Base}
use Rattle.mm_classes.specs.Access.{link_of}
use Rattle.mm_paths.specs.declared.entry.Node.{Node}
use Rattle.mm_paths.specs.Reach.{AreGreatest}
use Rattle.mm_paths.proofs.Building.{known_at, has_here}
use Rattle.mm_paths.proofs.Looking.{base_same}
use Rattle.mm_paths.proofs.Steps.{few_new}
use Rattle.mm_paths.proofs.Starts.{starts-long}
use Rattle.mm_paths.proofs.Raising.{greatest_first, link_asked, link_here, plain_low, plain_next, starts_as_long, all_reached}
use Rattle.mm_paths.proofs.reach.new_access.Goals as goal

pub loop-n-init : goal.loop-n-init
loop-n-init c = record {
  low = omega arith;
  front = refl;
  long = let a = c.in_ok-all.ensures.count in let l = c.len.ensures in let e = length-map c.args.nodes.now.all.items (λ (x : Node). x.path.items) in let n = ap length c.requires.nodes in let v = c.args.nodes.now.all.ok.0 in omega arith;
  so_far = greatest_first c.args.graph.now c.requires.valid c.args.class c.args.bases.now c.requires.can c.in_ok-all.all.items c.in_ok-all.ensures.none;
}

pub link_place-at-requires-clause-has : goal.link_place-at-requires-clause-has
link_place-at-requires-clause-has c = link_asked c.args.graph.now c.requires.valid c.args.class c.args.bases.now c.requires.can c.index-bases-n.result c.args.nodes.now.shared.items
    (has_here c.args.bases.now c.loop-n.n c.index-bases-n.result c.index-bases-n.is c.loop-n-test.true) c.requires.shared

pub link_place-at-requires-clause-long : goal.link_place-at-requires-clause-long
link_place-at-requires-clause-long c = starts_as_long c.args.graph.now c.requires.valid c.args.class c.args.bases.now c.requires.can c.args.nodes.now.shared.items c.args.nodes.now.starts.items c.requires.shared c.requires.starts

pub raise_base-requires-clause-here : goal.raise_base-requires-clause-here
raise_base-requires-clause-here c = (link_here c.args.graph.now c.requires.valid c.args.class c.args.bases.now c.requires.can c.loop-n.n c.index-bases-n.result c.index-bases-n.is c.loop-n-test.true
    c.link_place-at.result c.loop-n.plain c.args.nodes.now.shared.items c.args.nodes.now.starts.items c.requires.shared c.requires.starts c.loop-n.invariant.front c.link_place-at.ensures.shared c.link_place-at.ensures.plain).0

pub raise_base-requires-clause-link : goal.raise_base-requires-clause-link
raise_base-requires-clause-link c = (link_here c.args.graph.now c.requires.valid c.args.class c.args.bases.now c.requires.can c.loop-n.n c.index-bases-n.result c.index-bases-n.is c.loop-n-test.true
    c.link_place-at.result c.loop-n.plain c.args.nodes.now.shared.items c.args.nodes.now.starts.items c.requires.shared c.requires.starts c.loop-n.invariant.front c.link_place-at.ensures.shared c.link_place-at.ensures.plain).1
    ∙ ap (link_of c.args.class) (c.index-bases-n.is ∙ base_same c.args.bases.now c.loop-n.n c.index-bases-n.result c.loop-n-test.true)

pub next_plain-plain-requires-clause-complete : goal.next_plain-plain-requires-clause-complete
next_plain-plain-requires-clause-complete c = known_at c.args.graph.now c.args.bases.now c.loop-n.n c.index-bases-n.result c.index-bases-n.is c.requires.can.known c.loop-n-test.true

pub next_plain-plain-requires-clause-low : goal.next_plain-plain-requires-clause-low
next_plain-plain-requires-clause-low c =
    let a = plain_low c.args.graph.now c.requires.valid c.args.class c.args.bases.now c.requires.can c.loop-n.n c.index-bases-n.result c.index-bases-n.is c.loop-n-test.true c.loop-n.plain c.loop-n.invariant.front in
    let b = few_new c.args.nodes.now.all.items _ c.requires.nodes c.requires.few in omega arith

pub loop-n-preserved : goal.loop-n-preserved
loop-n-preserved c = record {
  low = omega arith;
  front = plain_next c.args.graph.now c.requires.valid c.args.class c.args.bases.now c.requires.can c.loop-n.n c.index-bases-n.result c.index-bases-n.is c.loop-n-test.true c.loop-n.plain c.next_plain-plain.result c.loop-n.invariant.front c.next_plain-plain.ensures.shared c.next_plain-plain.ensures.plain;
  long = c.raise_base.ensures.long ∙ c.loop-n.invariant.long;
  so_far = c.raise_base.ensures.after;
}

pub returns : goal.returns
returns c = all_reached c.args.graph.now c.requires.valid c.args.class c.args.bases.now c.requires.can c.loop-n.all.items c.loop-n.invariant.long
    (subst (λ n. AreGreatest c.args.graph.now c.args.class c.args.bases.now n c.loop-n.all.items) (let a = c.loop-n.invariant.low in let b = c.loop-n-test.false in let e : c.loop-n.n ≡ length c.args.bases.now = omega arith in e) c.loop-n.invariant.so_far)
