-- The place of the first item or statement that breaks a rule, by its number.
use Rattle.std.specs.Prelude.{Bool, true, false, min, slice_get}
use Rattle.std.specs.Option.{option_map}
use Rattle.std.proofs.Common.{◌≡◌, ◌<◌, ℕ, List, [], ◌∷◌, Option, Some, None, length, inl, refl, sym, ap, ◌∙◌, arith}
use Rattle.mm_c.specs.Tokens as tokens
use Rattle.mm_c.specs.WellFormed.{first_broken}
use Rattle.mm_c_rules.specs.Keeps.{keeps, before_first}
use Rattle.mm_c_text.specs.declared.place.Place.{Place}
use Rattle.mm_c_text.specs.Places.{at}
use Rattle.mm_c_parse_item.specs.declared.program.Parsed.{Parsed}
use Rattle.mm_c_read.specs.Refusals.{breaks_in, HasPlaces, IsJudged}

before_end : (bs : List Bool) → keeps bs ≡ false → before_first bs < length bs
before_end [] k = absurd (cc)
before_end (true ∷ bs) k = omega arith
before_end (false ∷ bs) k = let e = before_end bs k in omega (arith, e)

place_there : (bs : List Bool) (ps : List tokens.Place) → length bs ≡ length ps → keeps bs ≡ false → (p : tokens.Place) × (first_broken bs ps ≡ Some p) × (slice_get ps (before_first bs) ≡ Some p)
place_there [] ps e k = absurd (cc)
place_there (b ∷ bs) [] e k = absurd (omega (arith, e))
place_there (true ∷ bs) (p ∷ ps) e k = (p, refl, refl)
place_there (false ∷ bs) (p ∷ ps) e k = place_there bs ps (omega (arith, e)) k

-- the number is that of the first, since there are as many places
number_is : (bs : List Bool) (count i : ℕ) → keeps bs ≡ false → count ≡ length bs → i ≡ min (before_first bs) count → i ≡ before_first bs
number_is bs count i k c e = let b = before_end bs k in omega (arith, b, c, e)

placed : (p : Parsed) (r : Option Place) (x : tokens.Place) → first_broken (breaks_in p) p.places ≡ Some x → option_map at r ≡ Some x → IsJudged p r
placed p None x e h = absurd (cc)
placed p (Some q) x e h = inl (e ∙ sym h)

pub first_place_is : (p : Parsed) (count i : ℕ) (r : Option Place) → HasPlaces p → count ≡ length p.places → keeps (breaks_in p) ≡ false → i ≡ min (before_first (breaks_in p)) count → option_map at r ≡ slice_get p.places i →
    IsJudged p r
first_place_is p count i r l c k e g =
    let there = place_there (breaks_in p) p.places l k in
    placed p r there.0 there.1 (g ∙ (ap (slice_get p.places) (number_is (breaks_in p) count i k (c ∙ sym l) e) ∙ there.2))
