-- What was taken of an input, one piece after another.
use Rattle.std.proofs.Common.{◌≡◌, ℕ, ◌+◌, ◌≤◌, length, List, ◌++◌, take, drop, Option, Some, None, sym, ap, ◌∙◌, append_assoc, arith}
use Rattle.std.proofs.lemmas.List.{length-append, length-take-le, take-append-drop}
use Rattle.mm_base.specs.declared.outside.TakeEnd.TheVariants.{Took}
use Rattle.mm_base.specs.Outside.{SourceSeen, Takes, TakesFront}
use Rattle.mm_base.specs.declared.limits.TheConstants.{MAX_INPUT_BYTES}
use Rattle.mm_base.specs.Input.{FrontTaken, Taken, TakesSome}

front_more : (bytes into : List ℕ) (n : ℕ) (a b c : Option (List ℕ)) → FrontTaken bytes a b → TakesFront n b c into → FrontTaken (bytes ++ take n into) a c
front_more bytes into n None None c h t = t
front_more bytes into n None (Some l) c h t = absurd (grind (arith, h))
front_more bytes into n (Some left) None c h t = absurd (grind (arith, h.2))
front_more bytes into n (Some left) (Some l) c h t =
    let same : l ≡ h.0 = grind (arith, h.2) in
    let cut : l ≡ take n into ++ drop n l = sym (take-append-drop n l) ∙ ap (λ p. p ++ drop n l) (sym t.2) in
    (drop n l, h.1 ∙ ap (λ r. bytes ++ r) (sym same ∙ cut) ∙ sym (append_assoc bytes (take n into) (drop n l)), t.0)

taken_length : (bytes into : List ℕ) (n : ℕ) → n ≤ length into → length (bytes ++ take n into) ≡ length bytes + n
taken_length bytes into n h = omega (arith, length-append bytes (take n into), length-take-le n into h)

taken_more : (bytes : List ℕ) (n : ℕ) (old a b : SourceSeen) (into into' : List ℕ) → Taken bytes old a → Takes (Took n) a b into into' → length into' ≡ length into → a.drawn ≤ b.drawn → Taken (bytes ++ take n into') old b
taken_more bytes n old a b into into' h t same more =
    let len = taken_length bytes into' n (omega (arith, t.0, same)) in
    record {
      front = front_more bytes into' n old.left a.left b.left h.front t.1;
      rose = omega (arith, len, h.rose, t.2);
      drawn = omega (arith, len, h.drawn, t.2);
      more = omega (arith, h.more);
    }

-- what was taken when the bytes of a piece find no room
pub takes_more : (bytes : List ℕ) (n : ℕ) (old a b : SourceSeen) (into into' : List ℕ) → Taken bytes old a → Takes (Took n) a b into into' → length into' ≡ length into → a.drawn ≤ b.drawn → length bytes + length into ≤ MAX_INPUT_BYTES + 1 → TakesSome old b
takes_more bytes n old a b into into' h t same more room =
    record {
      bytes = bytes ++ take n into';
      taken = taken_more bytes n old a b into into' h t same more;
      within = omega (arith, room, t.0, taken_length bytes into' n (omega (arith, t.0, same)));
    }
