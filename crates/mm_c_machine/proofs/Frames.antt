-- Frames on one list of values.
use Rattle.std.proofs.Common.{◌≡◌, ℕ, zero, suc, ◌+◌, ◌<◌, ◌≤◌, List, [], ◌∷◌, ◌++◌, length, get_or, take, drop, set, replicate, map, All, refl, append_assoc, sym, ap, ap₂, subst, ◌∙◌, arith}
use Rattle.std.specs.Prelude.{if◌then◌else◌, nat_eq, pos}
use Rattle.std.proofs.lemmas.List.{get_or-drop, take-set-le, drop-set-add, get_or_default, drop-append-le, take_more, map-append, get_or-set_same, get_or-set_other, length-drop, length-append, length-set, length-map, take_all}
use Rattle.mm_c.specs.declared.value.CValue.{CValue}
use Rattle.mm_c.specs.declared.value.CValue.TheVariants.{Int}
use Rattle.mm_c.specs.declared.tree.CKind.{CKind}
use Rattle.mm_c.specs.CMeaning.{fitted, zero_of}
use Rattle.mm_c_placed.specs.declared.tree.Operand.{Operand}
use Rattle.mm_c_placed.specs.declared.tree.Operand.TheVariants.{Place, Value}
use Rattle.mm_c_placed.specs.declared.tree.Local.{Local}
use Rattle.mm_c_placed.specs.Meaning.{start, with_place, zeroed, operand_of}
use Rattle.mm_c_placed.specs.Ready.{IsInOperand, AreIn}
use Rattle.mm_c_machine.specs.Frames.{fitted_all, with_zeros}

abbrev pub nought : CValue
nought = Int (pos 0)

at_set : (vs : List CValue) (x : ℕ) (v : CValue) (y : ℕ) → x < length vs → get_or (set vs x v) y nought ≡ (if nat_eq y x then v else get_or vs y nought)
at_set vs x v y h = grind (arith, get_or-set_same, get_or-set_other)

-- a local is written
pub start-set : (vs : List CValue) (x : ℕ) (v : CValue) → x < length vs → start (set vs x v) ≡ with_place (start vs) x v
start-set vs x v h i y = at_set vs x v y h i

zeros_at : (n y : ℕ) → get_or (replicate n nought) y nought ≡ nought
zeros_at zero y = refl
zeros_at (suc n) zero = refl
zeros_at (suc n) (suc y) = zeros_at n y

more_at : (vs : List CValue) (n y : ℕ) → start (vs ++ replicate n nought) y ≡ start vs y
more_at [] n y = zeros_at n y
more_at (v ∷ vs) n zero = refl
more_at (v ∷ vs) n (suc y) = more_at vs n y

-- places that are no parameters begin as 0
pub start-zeros : (vs : List CValue) (n : ℕ) → start (vs ++ replicate n nought) ≡ start vs
start-zeros vs n i y = more_at vs n y i

-- locals are cleared
pub start-cleared : (xs : List Local) (vs : List CValue) → AreIn (length vs) xs → start (with_zeros xs vs) ≡ zeroed xs (start vs)
start-cleared [] vs h = refl
start-cleared (x ∷ xs) vs h =
    let first : x.place < length vs = h 0 x (omega arith) in
    let more : AreIn (length (set vs x.place (zero_of x.kind))) xs = λ k d lt. (let e = length-set vs x.place (zero_of x.kind) in let l = h (suc k) d (omega (arith, lt)) in omega (arith, e, l)) in
    start-cleared xs (set vs x.place (zero_of x.kind)) more ∙ ap (zeroed xs) (start-set vs x.place (zero_of x.kind) first)

pub length-cleared : (xs : List Local) (vs : List CValue) → length (with_zeros xs vs) ≡ length vs
length-cleared [] vs = refl
length-cleared (x ∷ xs) vs = length-cleared xs (set vs x.place (zero_of x.kind)) ∙ length-set vs x.place (zero_of x.kind)

cleared_more : (xs : List Local) (x : Local) (vs : List CValue) → with_zeros (xs ++ x ∷ []) vs ≡ set (with_zeros xs vs) x.place (zero_of x.kind)
cleared_more [] x vs = refl
cleared_more (y ∷ xs) x vs = cleared_more xs x (set vs y.place (zero_of y.kind))

-- the place of a local among the values
pub local_at : (values : List CValue) (base x : ℕ) (d : CValue) → base + x < length values → get_or values (base + x) d ≡ start (drop base values) x
local_at values base x d lt = get_or_default values (base + x) d nought lt ∙ sym (get_or-drop base values x nought)

start_front : (xs ys : List CValue) (x : ℕ) → x < length xs → start (xs ++ ys) x ≡ start xs x
start_front [] ys x h = absurd (let z : ⊥ = omega arith in z)
start_front (v ∷ xs) ys zero h = refl
start_front (v ∷ xs) ys (suc x) h = start_front xs ys x (omega arith)

-- what comes after the frame changes no local
pub operand_front : (base : ℕ) (xs ys : List CValue) (a : Operand) → IsInOperand (length (drop base xs)) a → operand_of (start (drop base (xs ++ ys))) a ≡ operand_of (start (drop base xs)) a
operand_front base xs ys (Value n) h = refl
operand_front base xs ys (Place x) h =
    let le : base ≤ length xs = let h1 = rw (length-drop base xs) at h in omega (arith, h1) in
    rw (drop-append-le base xs ys le) (start_front (drop base xs) ys x h)

pub operand_fits : (base : ℕ) (xs ys : List CValue) (a : Operand) → IsInOperand (length (drop base xs)) a → IsInOperand (length (drop base (xs ++ ys))) a
operand_fits base xs ys (Value n) h = tt
operand_fits base xs ys (Place x) h =
    let h1 = rw (length-drop base xs) at h in
    rw (length-drop base (xs ++ ys), length-append xs ys) (omega (arith, h1))

-- one argument more
pub arg_more : (base : ℕ) (old values new : List CValue) (args : List Operand) (i : ℕ) (v : CValue) (d : Operand) → i < length args → All (IsInOperand (length (drop base old))) args → values ≡ old ++ map (operand_of (start (drop base old))) (take i args) → v ≡ operand_of (start (drop base values)) (get_or args i d) → new ≡ values ++ v ∷ [] → new ≡ old ++ map (operand_of (start (drop base old))) (take (i + 1) args)
arg_more base old values new args i v d lt fits far here e =
    let f = operand_of (start (drop base old)) in
    let a = get_or args i d in
    let value : v ≡ f a = here ∙ ap (λ q. operand_of (start (drop base q)) a) far ∙ operand_front base old (map f (take i args)) a (fits i d lt) in
    e ∙ ap₂ (λ p q. p ++ q ∷ []) far value ∙ append_assoc old (map f (take i args)) (f a ∷ []) ∙ ap (λ q. old ++ q) (sym (map-append f (take i args) (a ∷ []))) ∙ ap (λ q. old ++ map f q) (sym (take_more args i d lt))

pub arg_fits : (base : ℕ) (old values more : List CValue) (args : List Operand) (i : ℕ) (d : Operand) → i < length args → All (IsInOperand (length (drop base old))) args → values ≡ old ++ more → IsInOperand (length (drop base values)) (get_or args i d)
arg_fits base old values more args i d lt fits far =
    subst (λ q. IsInOperand (length (drop base q)) (get_or args i d)) (sym far) (operand_fits base old more (get_or args i d) (fits i d lt))

fitted_at : (ks : List CKind) (vs : List CValue) (i : ℕ) (k : CKind) (v d : CValue) → i < length ks → i < length vs → get_or (fitted_all ks vs) i d ≡ fitted (get_or ks i k) (get_or vs i v)
fitted_at [] vs i k v d a b = absurd (let z : ⊥ = omega (arith, a) in z)
fitted_at (x ∷ ks) [] i k v d a b = absurd (let z : ⊥ = omega (arith, b) in z)
fitted_at (x ∷ ks) (y ∷ vs) zero k v d a b = refl
fitted_at (x ∷ ks) (y ∷ vs) (suc i) k v d a b = fitted_at ks vs i k v d (omega (arith, a)) (omega (arith, b))

pub fitted_length : (ks : List CKind) (vs : List CValue) → length vs ≡ length ks → length (fitted_all ks vs) ≡ length vs
fitted_length [] [] e = refl
fitted_length [] (v ∷ vs) e = absurd (let z : ⊥ = omega (arith, e) in z)
fitted_length (k ∷ ks) [] e = refl
fitted_length (k ∷ ks) (v ∷ vs) e = ap suc (fitted_length ks vs (omega (arith, e)))

map_at : (f : Operand → CValue) (args : List Operand) (i : ℕ) (d : Operand) (v : CValue) → i < length args → get_or (map f args) i v ≡ f (get_or args i d)
map_at f [] i d v lt = absurd (let z : ⊥ = omega (arith, lt) in z)
map_at f (a ∷ args) zero d v lt = refl
map_at f (a ∷ args) (suc i) d v lt = map_at f args i d v (omega (arith, lt))

-- one argument more, as its parameter receives it
pub given_more : (base : ℕ) (old values new : List CValue) (params : List CKind) (args : List Operand) (i : ℕ) (v x : CValue) (d : Operand) (k : CKind) → i < length args → length args ≡ length params → All (IsInOperand (length (drop base old))) args → values ≡ old ++ take i (fitted_all params (map (operand_of (start (drop base old))) args)) → v ≡ operand_of (start (drop base values)) (get_or args i d) → x ≡ fitted (get_or params i k) v → new ≡ values ++ x ∷ [] → new ≡ old ++ take (i + 1) (fitted_all params (map (operand_of (start (drop base old))) args))
given_more base old values new params args i v x d k lt many fits far here is e =
    let f = operand_of (start (drop base old)) in
    let a = get_or args i d in
    let all = fitted_all params (map f args) in
    let value : v ≡ f a = here ∙ ap (λ q. operand_of (start (drop base q)) a) far ∙ operand_front base old (take i all) a (fits i d lt) in
    let same : length (map f args) ≡ length params = length-map args f ∙ many in
    let short : i < length all = let l = fitted_length params (map f args) same in let m = length-map args f in omega (arith, l, m, lt) in
    let below : i < length params = omega (arith, many, lt) in
    let below' : i < length (map f args) = let m = length-map args f in omega (arith, m, lt) in
    let last : x ≡ get_or all i nought = is ∙ ap (fitted (get_or params i k)) (value ∙ sym (map_at f args i d nought lt)) ∙ sym (fitted_at params (map f args) i k nought nought below below') in
    e ∙ ap₂ (λ p q. p ++ q ∷ []) far last ∙ append_assoc old (take i all) (get_or all i nought ∷ []) ∙ ap (λ q. old ++ q) (sym (take_more all i nought short))

-- locals that are cleared, one by one
pub record IsClearing (base : ℕ) (old : List CValue) (xs : List Local) (values : List CValue) : Type 0 where
  pub frame : drop base values ≡ with_zeros xs (drop base old)
  pub below : take base values ≡ take base old

pub clearing_start : (base : ℕ) (old : List CValue) → IsClearing base old [] old
clearing_start base old = record { frame = refl; below = refl }

pub clearing_place : (base : ℕ) (old : List CValue) (all xs : List Local) (values : List CValue) (i : ℕ) (x : Local) → IsClearing base old xs values → AreIn (length (drop base old)) all → i < length all → x ≡ get_or all i x → base + x.place < length values
clearing_place base old all xs values i x h fits lt is =
    let l : x.place < length (drop base old) = subst (λ (q : Local). q.place < length (drop base old)) (sym is) (fits i x lt) in
    let n : length (drop base values) ≡ length (drop base old) = ap length h.frame ∙ length-cleared xs (drop base old) in
    let d = length-drop base values in
    omega (arith, l, n, d)

pub clearing_more : (base : ℕ) (old : List CValue) (all : List Local) (values : List CValue) (i : ℕ) (x : Local) (v : CValue) → IsClearing base old (take i all) values → i < length all → x ≡ get_or all i x → base + x.place < length values → v ≡ zero_of x.kind → IsClearing base old (take (i + 1) all) (set values (base + x.place) v)
clearing_more base old all values i x v h lt is far e =
    let t : take (i + 1) all ≡ take i all ++ x ∷ [] = take_more all i x lt ∙ ap (λ q. take i all ++ q ∷ []) (sym is) in
    record {
      frame = drop-set-add base values x.place v ∙ ap₂ (λ p q. set p x.place q) h.frame e ∙ sym (cleared_more (take i all) x (drop base old)) ∙ ap (λ q. with_zeros q (drop base old)) (sym t);
      below = take-set-le base values (base + x.place) v (omega arith) ∙ h.below;
    }

pub all_given : (old values : List CValue) (params : List CKind) (args : List Operand) (f : Operand → CValue) (i : ℕ) → length args ≡ length params → length args ≤ i → values ≡ old ++ take i (fitted_all params (map f args)) → values ≡ old ++ fitted_all params (map f args)
all_given old values params args f i many le far =
    let same : length (map f args) ≡ length params = length-map args f ∙ many in
    let short : length (fitted_all params (map f args)) ≤ i = let l = fitted_length params (map f args) same in let m = length-map args f in omega (arith, l, m, le) in
    far ∙ ap (λ q. old ++ q) (take_all i (fitted_all params (map f args)) short)
