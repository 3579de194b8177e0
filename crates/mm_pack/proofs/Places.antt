-- Places and their indices.
use Rattle.std.proofs.Common.{◌≡◌, ℕ, zero, suc, ◌+◌, ◌*◌, ◌/◌, ◌%◌, ◌<◌, List, [], ◌∷◌, ◌++◌, length, get_or, sym, ◌∙◌, ap, refl, arith}
use Rattle.std.proofs.lemmas.Nat.{mul-add-lt, div_below, mod_below, div-add-mod'}
use Rattle.std.proofs.Math.Nat.{mul_comm, mul_assoc}
use Rattle.mm_pack.specs.Cells.{product, IsPlace, index_of}
use Rattle.mm_pack.specs.Tables.{slots_at}

pub product-append : (ns ms : List ℕ) → product (ns ++ ms) ≡ product ns * product ms
product-append [] ms = omega arith
product-append (n ∷ ns) ms = ap (λ k. n * k) (product-append ns ms) ∙ sym (mul_assoc n (product ns) (product ms))

-- an index is one of a cell
pub index_below : (ns ps : List ℕ) → IsPlace ns ps → index_of ns ps < product ns
index_below [] [] h = omega arith
index_below [] (p ∷ ps) h = absurd h
index_below (n ∷ ns) [] h = absurd h
index_below (n ∷ ns) (p ∷ ps) h =
    let below : p * product ns + index_of ns ps < product ns * n = mul-add-lt p (product ns) (index_of ns ps) n h.0 (index_below ns ps h.1) in
    let e : product ns * n ≡ n * product ns = mul_comm (product ns) n in
    rw (← e) below

pub index-append : (ns ps ms qs : List ℕ) → IsPlace ns ps → index_of (ns ++ ms) (ps ++ qs) ≡ index_of ns ps * product ms + index_of ms qs
index-append [] [] ms qs h = omega arith
index-append [] (p ∷ ps) ms qs h = absurd h
index-append (n ∷ ns) [] ms qs h = absurd h
index-append (n ∷ ns) (p ∷ ps) ms qs h =
    let tail : index_of (ns ++ ms) (ps ++ qs) ≡ index_of ns ps * product ms + index_of ms qs = index-append ns ps ms qs h.1 in
    let head : p * product (ns ++ ms) ≡ p * product ns * product ms = ap (λ k. p * k) (product-append ns ms) ∙ sym (mul_assoc p (product ns) (product ms)) in
    grind (arith, tail, head)

-- each index is that of a place
pub place_of : (ns : List ℕ) (c : ℕ) → c < product ns → (q : List ℕ) × IsPlace ns q × (index_of ns q ≡ c)
place_of [] c h = ([], tt, omega arith)
place_of (n ∷ ns) c h =
    let some : 0 < product ns = positive n (product ns) c h in
    let rest : (q : List ℕ) × IsPlace ns q × (index_of ns q ≡ c % product ns) = place_of ns (c % product ns) (mod_below c (product ns) some) in
    let first : c / product ns < n = div_below c (product ns) n some h in
    (c / product ns ∷ rest.0, (first, rest.1), ap (λ k. c / product ns * product ns + k) rest.2 ∙ div-add-mod' c (product ns))
  where
    positive : (n w c : ℕ) → c < n * w → 0 < w
    positive n zero c h = absurd (omega arith)
    positive n (suc w) c h = omega arith

-- places one after another
pub join : (ns ps ms qs : List ℕ) → IsPlace ns ps → IsPlace ms qs → IsPlace (ns ++ ms) (ps ++ qs)
join [] [] ms qs h k = k
join [] (p ∷ ps) ms qs h k = absurd h
join (n ∷ ns) [] ms qs h k = absurd h
join (n ∷ ns) (p ∷ ps) ms qs h k = (h.0, join ns ps ms qs h.1 k)

pub record IsSplit (ns ms ps : List ℕ) : Type 0 where
  pub front : List ℕ
  pub back : List ℕ
  pub whole : ps ≡ front ++ back
  pub first : IsPlace ns front
  pub last : IsPlace ms back

pub split : (ns ms ps : List ℕ) → IsPlace (ns ++ ms) ps → IsSplit ns ms ps
split [] ms ps h = record { front = []; back = ps; whole = refl; first = tt; last = h }
split (n ∷ ns) ms [] h = absurd h
split (n ∷ ns) ms (p ∷ ps) h =
    let r : IsSplit ns ms ps = split ns ms ps h.1 in
    record { front = p ∷ r.front; back = r.back; whole = ap (λ xs. p ∷ xs) r.whole; first = (h.0, r.first); last = r.last }

-- a place along one axis
pub record IsOne (n : ℕ) (ps : List ℕ) : Type 0 where
  pub at : ℕ
  pub low : at < n
  pub whole : ps ≡ at ∷ []

pub one : (n : ℕ) (ps : List ℕ) → IsPlace (n ∷ []) ps → IsOne n ps
one n [] h = absurd h
one n (p ∷ []) h = record { at = p; low = h.0; whole = refl }
one n (p ∷ q ∷ qs) h = absurd h.1

pub length_place : (ns ps : List ℕ) → IsPlace ns ps → length ps ≡ length ns
length_place [] [] h = refl
length_place [] (p ∷ ps) h = absurd h
length_place (n ∷ ns) [] h = absurd h
length_place (n ∷ ns) (p ∷ ps) h = ap suc (length_place ns ps h.1)

pub slots_at-append : (xss yss : List (List ℕ)) (ps qs : List ℕ) → length ps ≡ length xss → slots_at (xss ++ yss) (ps ++ qs) ≡ slots_at xss ps ++ slots_at yss qs
slots_at-append [] yss [] qs h = refl
slots_at-append [] yss (p ∷ ps) qs h = cc
slots_at-append (xs ∷ xss) yss [] qs h = cc
slots_at-append (xs ∷ xss) yss (p ∷ ps) qs h = ap (λ zs. get_or xs p 0 ∷ zs) (slots_at-append xss yss ps qs (omega arith))
