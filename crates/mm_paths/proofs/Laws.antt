-- What holds of every graph.
use Rattle.std.proofs.Common.{◌≡◌, ◌≢◌, ℕ, ◌<◌, ◌≤◌, ◌^◌, List, [], ◌∷◌, length, get_or, sym, subst, ap, inl, inr, arith}
use Rattle.std.specs.Prelude.{◌⊎◌, Option, None, Some}
use Rattle.mm_classes.specs.declared.class.Access.{Access}
use Rattle.mm_classes.specs.declared.class.Access.TheVariants.{Public, Protected, Private}
use Rattle.mm_classes.specs.Access.{IsAccess}
use Rattle.mm_classes.specs.Classes.{Class, members_of, field_count, IsClassList, IsComplete}
use Rattle.mm_classes.specs.Subobjects.{Path, IsSubobject, subobjects_of, end_of}
use Rattle.mm_classes.specs.Laws.{HasAccess}
use Rattle.mm_classes.proofs.Answering.{place_from_Has}
use Rattle.mm_classes.proofs.Subs.{are_subobjects}
use Rattle.mm_classes.proofs.Compose.{whole_or_lower}
use Rattle.mm_classes.proofs.AccessLaws.{access_one, capped, access_protected, access_private, access_none}
use Rattle.mm_paths.specs.declared.entry.Parts.{Parts}
use Rattle.mm_paths.specs.Stored.{HaveAccess, IsStored}

module _ (g : List Class) where
  pub fields_of : (ps : List Parts) (c : ℕ) → IsStored g ps → IsComplete g c → field_count (members_of g c) ≤ 2 ^ 19
  fields_of [] c s k = (let z = s.long in let l = k.0 in absurd (omega arith))
  fields_of (x ∷ ps) c s k = (s.each c x k.1).fields

  stored_access : (ps : List Parts) (d : ℕ) → IsStored g ps → IsComplete g d → (xs : List (Option Access)) × HaveAccess g d xs
  stored_access [] d s k = (let z = s.long in let l = k.0 in absurd (omega arith))
  stored_access (x ∷ ps) d s k = ((get_or (x ∷ ps) d x).access.items, (s.each d x k.1).access)

  public_access : (ps : List Parts) (d : ℕ) (p : Path) → IsStored g ps → IsComplete g d → IsSubobject g d p → (x : Option Access) × IsAccess g d p Public x
  public_access ps d p s k h =
      let r = place_from_Has (subobjects_of g d) [] (are_subobjects g s.valid d p h) in
      let a = stored_access ps d s k in
      (get_or a.0 r.0 None, subst (λ q. IsAccess g d q Public (get_or a.0 r.0 None)) r.2 (a.1.each r.0 r.1))

  some_access : IsClassList g → (d : ℕ) (p : Path) (a : Access) → IsSubobject g d p → (x : Option Access) × IsAccess g d p Public x → (x : Option Access) × IsAccess g d p a x
  some_access ok d p Public h x = x
  some_access ok d p Protected h x = (capped Protected x.0, access_protected g d p x.0 x.1)
  some_access ok d p Private h x = elim (whole_or_lower g ok d p h) [
    | inl e ↦ subst (λ q. (x : Option Access) × IsAccess g d q Private x) (sym e) (Some Private, access_private g ok d)
    | inr l ↦ (None, access_none g d p x.0 (λ e. let z = ap (λ (q : Path). ok.rank (end_of q)) e in absurd (omega arith)) x.1)
  ]

  pub has_access : (ps : List Parts) → IsStored g ps → HasAccess g
  has_access ps s = record {
    each = λ d p a k h. some_access s.valid d p a h (public_access ps d p s k h);
    one = access_one g;
  }
