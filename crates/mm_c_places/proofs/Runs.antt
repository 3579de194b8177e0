-- A program does with places what it does with names.
use Rattle.std.specs.Prelude.{Bool, true, false, ℤ, pos, negsuc, Option, Some, None, codes, if◌then◌else◌, slice_get}
use Rattle.std.specs.Option.{option_map}
use Rattle.std.specs.Str.{bytes_eq}
use Rattle.std.proofs.Common.{◌≡◌, ℕ, zero, suc, List, [], ◌∷◌, map, refl, sym, ap, ◌∙◌}
use Rattle.mm_meaning.specs.Run.{Run}
use Rattle.mm_c.specs.declared.value.CValue.{CValue}
use Rattle.mm_c.specs.declared.tree.CKind.{CKind}
use Rattle.mm_c.specs.declared.tree.CLocal.{CLocal}
use Rattle.mm_c.specs.declared.tree.CElement.{CElement}
use Rattle.mm_c.specs.declared.tree.CElement.TheVariants as element_is
use Rattle.mm_c.specs.Tree.{Function, Item, typedef, array, proto, function, Program}
use Rattle.mm_c.specs.WellFormed.{is_inline}
use Rattle.mm_c.specs.CMeaning.{Stop, Spent, State, Names, From, stuck, Flow, Given, asks, traps, allocates, given_call, prelude_callees, Callee, prelude, defined, no_names}
use Rattle.mm_c.specs.CMeaning as n
use Rattle.mm_c_placed.specs.Tree as t
use Rattle.mm_c_placed.specs.Meaning as c
use Rattle.mm_c_places.specs.Locals.{all_locals}
use Rattle.mm_c_places.specs.Places.{function_number, array_number, given_callee, callee_among, callee_at, numbers}
use Rattle.mm_c_places.specs.Placed.{placed_function, placed_element, placed_functions, placed_arrays, placed}
use Rattle.mm_c_places.specs.Seen.{SeesFunction, SeesElements, SeesItems}
use Rattle.mm_c_places.specs.Does.{Alike, both_give, both_stop, SameAround}
use Rattle.mm_c_places.proofs.Nears.{Entered, neither_enters, both_enter, enters}
use Rattle.mm_c_places.proofs.Do.{block_does, opposite_same, long_same}

-- ---- functions

end_same : (r : Option CKind) (all scope : List CLocal) {x : Run Stop n.Store Flow} {y : Run Stop c.Store Flow} → Alike all scope x y → n.end_of r x ≡ c.end_of r y
end_same r all scope (both_give near) = refl
end_same r all scope both_stop = refl

module _ (items : List Item) (m : n.Around) (m' : c.Around) (same : SameAround items m m') where
  body_same : (f : Function) (o : Option Names) (r : Option (List CValue)) (w : State) (k : ℕ) → SeesFunction f → Entered (all_locals f) f.params o r → n.body_of m f o w k ≡ c.body_of m' (placed_function (numbers items) f) r w k
  body_same f _ _ w k h neither_enters = refl
  body_same f _ _ w k h (both_enter near) = end_same f.result (all_locals f) f.params ((block_does items m m' same (all_locals f) f.params f.body h.body).by _ _ _ w k near)

  enter_same : (f : Function) (vs : List CValue) (w : State) (k : ℕ) → SeesFunction f → n.enter m f vs w k ≡ c.enter m' (placed_function (numbers items) f) vs w k
  enter_same f vs w k h = body_same f _ _ w k h (enters f.params _ vs h.differ h.params)

-- ---- what a name is

-- the function that a name is, and the one that its number is
data Found (items : List Item) : Option Callee → Option t.Function → Type 0 where
  nowhere : Found items None None
  there : (f : Function) → SeesFunction f → Found items (Some (defined f)) (Some (placed_function (numbers items) f))

found : (items more : List Item) (f : List ℕ) → SeesItems more → Found items (n.function_in more f) (slice_get (placed_functions (numbers items) more) (function_number more f))
found items [] f h = nowhere
found items (typedef d ∷ more) f h = found items more f h
found items (array a ∷ more) f h = found items more f h.1
found items (proto p ∷ more) f h = found items more f h
found items (function x ∷ more) f h = go (bytes_eq x.name f) (found items more f h.1)
  where
    go : (b : Bool) → Found items (n.function_in more f) (slice_get (placed_functions (numbers items) more) (function_number more f))
        → Found items (elim b as (λ z. Option Callee) [ true ↦ Some (defined x) | false ↦ n.function_in more f ]) (slice_get (placed_function (numbers items) x ∷ placed_functions (numbers items) more) (elim b as (λ z. ℕ) [ true ↦ zero | false ↦ suc (function_number more f) ]))
    go true r = there x h.0
    go false r = r

array_found : (items more : List Item) (a : List ℕ) → c.array_of (slice_get (placed_arrays (numbers items) more) (array_number more a)) ≡ map (placed_element (numbers items)) (n.array_in more a)
array_found items [] a = refl
array_found items (typedef d ∷ more) a = array_found items more a
array_found items (proto p ∷ more) a = array_found items more a
array_found items (function f ∷ more) a = array_found items more a
array_found items (array x ∷ more) a = go (bytes_eq x.name a) (array_found items more a)
  where
    go : (b : Bool) → c.array_of (slice_get (placed_arrays (numbers items) more) (array_number more a)) ≡ map (placed_element (numbers items)) (n.array_in more a)
        → c.array_of (slice_get (map (placed_element (numbers items)) x.elements ∷ placed_arrays (numbers items) more) (elim b as (λ z. ℕ) [ true ↦ zero | false ↦ suc (array_number more a) ])) ≡ map (placed_element (numbers items)) (elim b as (λ z. List CElement) [ true ↦ x.elements | false ↦ n.array_in more a ])
    go true r = refl
    go false r = r

elements_seen : (more : List Item) (a : List ℕ) → SeesItems more → SeesElements (n.array_in more a)
elements_seen [] a h = tt
elements_seen (typedef d ∷ more) a h = elements_seen more a h
elements_seen (proto p ∷ more) a h = elements_seen more a h
elements_seen (function f ∷ more) a h = elements_seen more a h.1
elements_seen (array x ∷ more) a h = go (bytes_eq x.name a) (elements_seen more a h.1)
  where
    go : (b : Bool) → SeesElements (n.array_in more a) → SeesElements (elim b as (λ z. List CElement) [ true ↦ x.elements | false ↦ n.array_in more a ])
    go true r = h.0
    go false r = r

function_same : (items : List Item) (es : List CElement) (i : ℕ) → option_map (callee_at (numbers items)) (n.function_of (slice_get es i)) ≡ c.function_of (slice_get (map (placed_element (numbers items)) es) i)
function_same items [] i = refl
function_same items (element_is.Name f ∷ es) zero = refl
function_same items (element_is.Number m ∷ es) zero = refl
function_same items (element_is.Negative m ∷ es) zero = refl
function_same items (e ∷ es) (suc i) = function_same items es i

number_same : (items : List Item) (es : List CElement) (i : ℕ) → SeesElements es → n.number_of (slice_get es i) ≡ c.number_of (slice_get (map (placed_element (numbers items)) es) i)
number_same items [] i h = refl
number_same items (element_is.Name f ∷ es) zero h = refl
number_same items (element_is.Number m ∷ es) zero h = ap Some (sym (long_same m.value h.0))
number_same items (element_is.Negative m ∷ es) zero h = ap Some (sym (opposite_same m.value h.0))
number_same items (e ∷ es) (suc i) h = number_same items es i h.1

-- ---- calls

module _ (p : Program) (seen : SeesItems p.items) where
  -- what is done at a function's entry, by name and by number
  record SameEntries (calls : Option Callee → List CValue → From State (Option CValue)) (enters_at : c.Steps) : Type 0 where
    none : (vs : List CValue) (w : State) (k : ℕ) → calls None vs w k ≡ stuck w k
    given : (g : Given) (vs : List CValue) (w : State) (k : ℕ) → calls (Some (prelude g)) vs w k ≡ given_call g vs w k
    at : (f : Function) (vs : List CValue) (w : State) (k : ℕ) → SeesFunction f → calls (Some (defined f)) vs w k ≡ enters_at (placed_function (numbers p.items) f) vs w k

  module _ (calls : Option Callee → List CValue → From State (Option CValue)) (enters_at : c.Steps) (same : SameEntries calls enters_at) where
    at_found : (o : Option Callee) (r : Option t.Function) (vs : List CValue) (w : State) (k : ℕ) → Found p.items o r → calls o vs w k ≡ c.at_function enters_at r vs w k
    at_found _ _ vs w k nowhere = same.none vs w k
    at_found _ _ vs w k (there f h) = same.at f vs w k h

    at_given : (g : Given) (vs : List CValue) (w : State) (k : ℕ) → calls (Some (prelude g)) vs w k ≡ c.calls_by (placed p) enters_at (given_callee g) vs w k
    at_given (asks b) vs w k = same.given (asks b) vs w k
    at_given traps vs w k = same.given traps vs w k
    at_given allocates vs w k = same.given allocates vs w k

    at_name : (gs : List (List ℕ × Given)) (f : List ℕ) (vs : List CValue) (w : State) (k : ℕ) → calls (n.callee_among gs p f) vs w k ≡ c.calls_by (placed p) enters_at (callee_among gs (numbers p.items) f) vs w k
    at_name [] f vs w k = at_found _ _ vs w k (found p.items p.items f seen)
    at_name (g ∷ gs) f vs w k = go (bytes_eq g.0 f) (at_name gs f vs w k)
      where
        go : (b : Bool) → calls (n.callee_among gs p f) vs w k ≡ c.calls_by (placed p) enters_at (callee_among gs (numbers p.items) f) vs w k
            → calls (elim b as (λ z. Option Callee) [ true ↦ Some (prelude g.1) | false ↦ n.callee_among gs p f ]) vs w k ≡ c.calls_by (placed p) enters_at (elim b [ true ↦ given_callee g.1 | false ↦ callee_among gs (numbers p.items) f ]) vs w k
        go true r = at_given g.1 vs w k
        go false r = r

  around_same : (calls : n.Calls) (calls' : c.Calls) → ((f : List ℕ) (vs : List CValue) (w : State) (k : ℕ) → calls f vs w k ≡ calls' (callee_at (numbers p.items) f) vs w k) → SameAround p.items (n.around_of p calls) (c.around_of (placed p) calls')
  around_same calls calls' h = record {
    call = h;
    functions = functions;
    numbers = numbers;
  }
    where
      functions : (a : List ℕ) (i : ℤ) → option_map (callee_at (numbers p.items)) (n.function_of (n.element_at (n.array_in p.items a) i)) ≡ c.function_of (c.element_at (placed p) (array_number p.items a) i)
      functions a (pos i) = function_same p.items (n.array_in p.items a) i ∙ ap (λ es. c.function_of (slice_get es i)) (sym (array_found p.items p.items a))
      functions a (negsuc i) = refl

      numbers : (a : List ℕ) (i : ℤ) → n.number_of (n.element_at (n.array_in p.items a) i) ≡ c.number_of (c.element_at (placed p) (array_number p.items a) i)
      numbers a (pos i) = number_same p.items (n.array_in p.items a) i (elements_seen p.items a seen) ∙ ap (λ es. c.number_of (slice_get es i)) (sym (array_found p.items p.items a))
      numbers a (negsuc i) = refl

  module _ (steps : n.Steps) (steps' : c.Steps) (same : (f : Function) (vs : List CValue) (w : State) (k : ℕ) → SeesFunction f → steps f vs w k ≡ steps' (placed_function (numbers p.items) f) vs w k) where
    plain_entries : SameEntries (n.plain_callee steps) (c.plain_entry steps')
    plain_entries = record {
      none = λ vs w k. refl;
      given = λ g vs w k. refl;
      at = λ f vs w k h. go f vs w k (is_inline f.linkage) (same f vs w k h);
    }
      where
        go : (f : Function) (vs : List CValue) (w : State) (k : ℕ) (b : Bool) → steps f vs w k ≡ steps' (placed_function (numbers p.items) f) vs w k → (if b then stuck else steps f vs) w k ≡ (if b then stuck else steps' (placed_function (numbers p.items) f) vs) w k
        go f vs w k true h = refl
        go f vs w k false h = h

    plain_same : SameAround p.items (n.around_of p (n.plain_calls p steps)) (c.around_of (placed p) (c.plain_calls (placed p) steps'))
    plain_same = around_same (n.plain_calls p steps) (c.plain_calls (placed p) steps') (at_name (n.plain_callee steps) (c.plain_entry steps') plain_entries prelude_callees)

    any_entries : SameEntries (n.any_callee p steps) (c.any_entry (placed p) steps')
    any_entries = record {
      none = λ vs w k. refl;
      given = λ g vs w k. refl;
      at = λ f vs w k h. go f vs w k (is_inline f.linkage) (same f vs w k h) h;
    }
      where
        go : (f : Function) (vs : List CValue) (w : State) (k : ℕ) (b : Bool) → steps f vs w k ≡ steps' (placed_function (numbers p.items) f) vs w k → SeesFunction f
            → (if b then n.enter (n.around_of p (n.plain_calls p steps)) f vs else steps f vs) w k ≡ (if b then c.enter (c.around_of (placed p) (c.plain_calls (placed p) steps')) (placed_function (numbers p.items) f) vs else steps' (placed_function (numbers p.items) f) vs) w k
        go f vs w k true e h = enter_same p.items _ _ plain_same f vs w k h
        go f vs w k false e h = e

    calls_same : (f : List ℕ) (vs : List CValue) (w : State) (k : ℕ) → n.all_calls p steps f vs w k ≡ c.all_calls (placed p) steps' (callee_at (numbers p.items) f) vs w k
    calls_same = at_name (n.any_callee p steps) (c.any_entry (placed p) steps') any_entries prelude_callees

    all_same : SameAround p.items (n.around_all p steps) (c.around_all (placed p) steps')
    all_same = around_same (n.all_calls p steps) (c.all_calls (placed p) steps') calls_same

  -- ---- runs

  steps_same : (i : ℕ) (f : Function) (vs : List CValue) (w : State) (k : ℕ) → SeesFunction f → n.steps_of p i f vs w k ≡ c.steps_of (placed p) i (placed_function (numbers p.items) f) vs w k
  steps_same zero f vs w k h = refl
  steps_same (suc i) f vs w zero h = refl
  steps_same (suc i) f vs w (suc k) h = enter_same p.items _ _ (all_same (n.steps_of p i) (c.steps_of (placed p) i) (steps_same i)) f vs w k h

  pub runs_same : (i : ℕ) (w : State) → n.named_call p i (codes "main") [] w i ≡ c.run_of (placed p) i w
  runs_same i w = calls_same (n.steps_of p i) (c.steps_of (placed p) i) (steps_same i) (codes "main") [] w i
