-- The parts of a class stay its parts where the class list grows.
use Rattle.std.proofs.Common.{◌≡◌, ℕ, ◌<◌, ◌≤◌, ◌^◌, List, [], length, get_or, sym, subst, ap, ◌∙◌}
use Rattle.std.specs.Prelude.{true, Option, None}
use Rattle.mm_classes.specs.declared.class.Access.{Access}
use Rattle.mm_classes.specs.declared.class.Access.TheVariants.{Public}
use Rattle.mm_classes.specs.declared.class.Member.{Member}
use Rattle.mm_classes.specs.Access.{IsAccess}
use Rattle.mm_classes.specs.Classes.{Class, class_at, bases_of, members_of, field_count, IsClassList}
use Rattle.mm_classes.specs.Subobjects.{Path, subobjects_of}
use Rattle.mm_classes.proofs.AccessLaws.{access-kept}
use Rattle.mm_classes.proofs.Growing.{subobjects-kept, virtual_bases-kept, chains-all_kept, depth_of-kept, to_polymorphic, from_polymorphic}
use Rattle.mm_paths.specs.declared.entry.Parts.{Parts}
use Rattle.mm_paths.specs.Names.{AreNamed}
use Rattle.mm_paths.specs.Stored.{ArePartsOf, HaveAccess}
use Rattle.mm_paths.proofs.Starts.{starts-kept}

-- access, where the class has the subobjects that it had, and they have the ways that they had
pub access_moved : (g g' : List Class) (ok : IsClassList g) → ((x : ℕ) → (class_at g x).complete ≡ true → bases_of g' x ≡ bases_of g x)
    → (c : ℕ) (xs : List (Option Access)) → (class_at g c).complete ≡ true → subobjects_of g' c ≡ subobjects_of g c → HaveAccess g c xs → HaveAccess g' c xs
access_moved g g' ok same c xs k sub h = record {
  long = h.long ∙ sym (ap length sub);
  each = λ n l. subst (λ (ps : List Path). IsAccess g' c (get_or ps n []) Public (get_or xs n None)) (sym sub)
      (access-kept g g' ok same c (get_or (subobjects_of g c) n []) Public (get_or xs n None) k (h.each n (subst (λ (ps : List Path). n < length ps) sub l)));
}

pub parts_kept : (g g' : List Class) (ok : IsClassList g) → length g ≤ length g' → ((x : ℕ) → (class_at g x).complete ≡ true → class_at g' x ≡ class_at g x)
    → (x : ℕ) (p : Parts) → (class_at g x).complete ≡ true → ArePartsOf g x p → ArePartsOf g' x p
parts_kept g g' ok longer same x p k a =
    let ms : members_of g x ≡ members_of g' x = sym (ap (λ (c : Class). c.members) (same x k)) in
    record {
      nodes = a.nodes ∙ sym (subobjects-kept g g' ok longer same x k);
      few = a.few;
      own = a.own ∙ ap length (sym (chains-all_kept g g' ok longer same x k));
      shared = a.shared ∙ sym (virtual_bases-kept g g' ok longer same x k);
      starts = a.starts ∙ sym (starts-kept g g' ok longer same x k);
      access = access_moved g g' ok (λ y e. ap (λ (c : Class). c.bases) (same y e)) x p.access.items k (subobjects-kept g g' ok longer same x k) a.access;
      depth = a.depth ∙ sym (depth_of-kept g g' ok longer same x k);
      polymorphic = ((λ e. to_polymorphic g g' ok longer same x k (a.polymorphic.0 e)), λ q. a.polymorphic.1 (from_polymorphic g g' ok longer same x k q));
      fields = subst (λ (z : List Member). field_count z ≤ 2 ^ 19) ms a.fields;
      named = subst (AreNamed p.named.first p.named.next.items) ms a.named;
    }
