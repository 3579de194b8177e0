-- The stack of pieces over the list of values.
use Rattle.std.proofs.Common.{◌≡◌, ℕ, List, [], ◌∷◌, ◌++◌, length, reverse, take, refl, ap, ◌∙◌, arith}
use Rattle.std.proofs.lemmas.List.{reverse-append}
use Rattle.mm_c.specs.declared.value.CValue.{CValue}
use Rattle.mm_c_placed.specs.View.{code_view}
use Rattle.mm_c_machine.specs.State.{rest, loop, ret, level_of, pieces_of}
use Rattle.mm_c_machine.specs.declared.machine.Pending.{Pending}
use Rattle.mm_c_machine.specs.declared.machine.Pending.TheVariants as pending

-- what is above the base changes no frame below
pub pieces-below : (ps : List Pending) (base : ℕ) (values other : List CValue) → take base values ≡ take base other → pieces_of ps base values ≡ pieces_of ps base other
pieces-below [] base values other h = refl
pieces-below (pending.Rest c ∷ ps) base values other h = ap (λ q. rest (code_view c.now) ∷ q) (pieces-below ps base values other h)
pieces-below (pending.Loop c ∷ ps) base values other h = ap (λ q. loop (code_view c.now) ∷ q) (pieces-below ps base values other h)
pieces-below (pending.Return c f x ∷ ps) base values other h = ap (λ q. ret x (level_of f q) (code_view c.now) ∷ pieces_of ps f.base q) h

-- the last piece of the stack is the next one
pub pieces_last : (all more : List Pending) (x : Pending) (base : ℕ) (values : List CValue) → all ≡ more ++ x ∷ [] → pieces_of (reverse all) base values ≡ pieces_of (x ∷ reverse more) base values
pieces_last all more x base values e = ap (λ q. pieces_of (reverse q) base values) e ∙ ap (λ q. pieces_of q base values) (reverse-append more (x ∷ []))

none_left : {A : Type 0} (xs : List A) → length xs ≡ 0 → xs ≡ []
none_left [] e = refl
none_left (x ∷ xs) e = absurd (let z : ⊥ = omega (arith, e) in z)

pub pieces_none : (all : List Pending) (base : ℕ) (values : List CValue) → length all ≡ 0 → pieces_of (reverse all) base values ≡ []
pieces_none all base values e = ap (λ q. pieces_of (reverse q) base values) (none_left all e)
