use Rattle.std.proofs.Common.{◌≡◌, ◌+◌, ◌<◌, ◌≤◌, ◌++◌, ◌∷◌, [], List, arith, ap, ◌∙◌, sym, length, subst, suc}
use Rattle.std.proofs.lemmas.List.{length_push, length-map, map-append}
use Rattle.mm_classes.specs.Classes.{IsComplete}
use Rattle.mm_layout.specs.Cells.{tags_before, cells_of, pairs_before}
use Rattle.mm_layout.specs.Layouts.{nothing, IsObjectOf, test_of}
use Rattle.mm_layout.specs.Kept.{object_in, objects_in}
use Rattle.mm_layout.specs.declared.layout.Placed.{Placed}
use Rattle.mm_layout.proofs.Offsets.{lays_out, fills}
use Rattle.mm_layout.proofs.Sharing.{shares}
use Rattle.mm_layout.proofs.Numbering.{tags_within, tags_few, numbers}
use Rattle.mm_layout.proofs.Virtual.{pushed}
use Rattle.mm_layout.proofs.layout.get_layout.Goals as goal

more_objects : (xs ys : List Placed) (p : Placed) → ys ≡ xs ++ p ∷ [] → objects_in ys ≡ objects_in xs ++ object_in p ∷ []
more_objects xs ys p e = ap objects_in e ∙ map-append object_in xs (p ∷ [])

pub place_class-requires-clause-room : goal.place_class-requires-clause-room
place_class-requires-clause-room c =
    let tagged = test_of c.in_ok-sorts.sorts.tags.items in
    let low : c.loop-c.c < length c.args.graph.now = omega (arith, c.classes-count.ensures.count) in
    let r = tags_within c.args.graph.now (test_of c.in_ok-sorts.sorts.tags.items) c.loop-c.c (length c.args.graph.now) low in
    let f = tags_few c.args.graph.now (test_of c.in_ok-sorts.sorts.tags.items) (length c.args.graph.now) in
    let few = c.requires (test_of c.in_ok-sorts.sorts.tags.items) c.in_ok-sorts.ensures.tags.1 in
    omega (arith, r, f, few, c.loop-c.invariant.next_is)

pub loop-c-preserved : goal.loop-c-preserved
loop-c-preserved c =
    let long : length (objects_in c.loop-c.classes.items) ≡ c.loop-c.c = length-map c.loop-c.classes.items object_in ∙ c.loop-c.invariant.long in
    let more : c.loop-c.c + 1 ≡ suc c.loop-c.c = omega arith in
    record {
      low = omega arith;
      long = ap length c.in_ok-push.ensures.items ∙ length_push c.loop-c.classes.items c.in_ok-placed.placed ∙ ap (λ n. n + 1) c.loop-c.invariant.long;
      next_is = c.in_ok-placed.ensures.next ∙ (ap (λ z. z + cells_of c.args.graph.now (test_of c.in_ok-sorts.sorts.tags.items) c.loop-c.c) c.loop-c.invariant.next_is
          ∙ sym (ap (tags_before c.args.graph.now (test_of c.in_ok-sorts.sorts.tags.items)) more));
      objects = pushed (λ k o. IsComplete c.args.graph.now k → IsObjectOf c.args.graph.now (test_of c.in_ok-sorts.sorts.tags.items) k o)
          (objects_in c.loop-c.classes.items) (objects_in c.push.new.self.items) c.loop-c.c (object_in c.in_ok-placed.placed) nothing long c.loop-c.invariant.objects
          c.in_ok-placed.ensures.placed
          (more_objects c.loop-c.classes.items c.push.new.self.items c.in_ok-placed.placed c.in_ok-push.ensures.items);
    }

pub returns-clause-layout : goal.returns-clause-layout
returns-clause-layout c =
    let all : c.loop-c.c ≡ length c.args.graph.now = omega (arith, c.classes-count.ensures.count) in
    record {
      tagged = test_of c.in_ok-sorts.sorts.tags.items;
      tells = c.in_ok-sorts.ensures.tags.1;
      classes = length-map c.loop-c.classes.items object_in ∙ c.loop-c.invariant.long ∙ all;
      objects = λ d h. c.loop-c.invariant.objects d (subst (λ n. d < n) (sym all) h.0) h;
    }

pub returns-clause-regions : goal.returns-clause-regions
returns-clause-regions c = λ tagged d. lays_out c.args.graph.now tagged c.classes-count.ensures.valid d

pub returns-clause-fields : goal.returns-clause-fields
returns-clause-fields c = λ tagged k. fills c.args.graph.now tagged k

pub returns-clause-cells : goal.returns-clause-cells
returns-clause-cells c = λ tagged d tells k. shares c.args.graph.now c.classes-count.ensures.valid tagged tells (lays_out c.args.graph.now tagged c.classes-count.ensures.valid) d k

pub returns-clause-tags : goal.returns-clause-tags
returns-clause-tags c = λ tagged tells. numbers c.args.graph.now tagged c.classes-count.ensures.valid tells
    (λ d k. shares c.args.graph.now c.classes-count.ensures.valid tagged tells (lays_out c.args.graph.now tagged c.classes-count.ensures.valid) d k)
