-- Members of a name, by their numbers and as members.
use Rattle.std.proofs.Common.{◌≡◌, ℕ, zero, suc, ◌<◌, List, [], ◌∷◌, length, get_or, refl, sym, subst, ap, ◌∙◌, inl, inr, arith}
use Rattle.std.specs.Prelude.{Bool, true, false, ◌⊎◌, Option, None, Some, is_some, slice_get}
use Rattle.std.specs.Bool.{Decides}
use Rattle.std.specs.Str.{bytes_eq}
use Rattle.std.proofs.lemmas.Slice.Eq.{bytes_eq-Decides}
use Rattle.mm_classes.specs.declared.class.Member.{Member}
use Rattle.mm_classes.specs.Lists.{Has, first, later}
use Rattle.mm_classes.specs.declared.class.MemberKind.{MemberKind}
use Rattle.mm_classes.specs.declared.class.MemberKind.TheVariants as kind
use Rattle.mm_classes.specs.Classes.{member_name, is_field, tells_field, AreOverloads, IsMemberList, IsNextNamed}

-- a member of this name
abbrev pub Named : List Member → List ℕ → Type 0
Named ms name = (m : Member) × Has ms m × (m.name ≡ name)

pub named_or : (ms : List Member) (name : List ℕ) → Named ms name ⊎ (Named ms name → ⊥)
named_or [] name = inr (λ n. elim n.1 [ ])
named_or (m ∷ ms) name = elim (bytes_eq m.name name) as (λ b. bytes_eq m.name name ≡ b → Named (m ∷ ms) name ⊎ (Named (m ∷ ms) name → ⊥)) [
  | true ↦ λ e. inl (m, first refl, (bytes_eq-Decides m.name name).0 e)
  | false ↦ λ e. elim (named_or ms name) [
    | inl n ↦ inl (n.0, later n.1, n.2)
    | inr never ↦ inr (λ n. elim n.1 [
      | first k ↦ (let z : false ≡ true = sym e ∙ (bytes_eq-Decides m.name name).1 (ap (λ (x : Member). x.name) k ∙ n.2) in cc)
      | later h ↦ never (n.0, h, n.2)
    ])
  ]
] refl

-- a member at its place
pub at_place : (ms : List Member) (k : ℕ) → k < length ms → (m : Member) × (slice_get ms k ≡ Some m) × Has ms m × (member_name ms k ≡ m.name) × ((d : Member) → get_or ms k d ≡ m)
at_place [] k l = absurd (omega arith)
at_place (m ∷ ms) zero l = (m, refl, first refl, refl, λ d. refl)
at_place (m ∷ ms) (suc k) l = let r = at_place ms k (omega arith) in (r.0, r.1, later r.2, r.3, r.4)

pub place_of : (ms : List Member) (m : Member) → Has ms m → (k : ℕ) × (k < length ms) × (member_name ms k ≡ m.name) × ((d : Member) → get_or ms k d ≡ m)
place_of [] m h = elim h [ ]
place_of (x ∷ ms) m (first e) = (0, omega arith, ap (λ (y : Member). y.name) e, λ d. e)
place_of (x ∷ ms) m (later h) = let r = place_of ms m h in (suc r.0, (let z = r.1 in omega arith), r.2, r.3)

pub first_decides : (x : Option ℕ) (ms : List Member) (name : List ℕ) → IsNextNamed x ms name 0 → Decides (is_some x) (Named ms name)
first_decides None ms name h = ((λ e. cc), λ n. let r = place_of ms n.0 n.1 in absurd (h r.0 (omega arith) r.1 (r.2 ∙ n.2)))
first_decides (Some k) ms name h = ((λ e. let r = at_place ms k h.1 in (r.0, r.2, sym r.3 ∙ h.2)), λ n. refl)

-- the first member of a name is a field, or no member of the name is
abbrev FieldAt : List Member → ℕ → List ℕ → Type 0
FieldAt ms k name = (m : Member) × (slice_get ms k ≡ Some m) × (m.name ≡ name) × (is_field m ≡ true)

pub field_at : (ms : List Member) (k : ℕ) (name : List ℕ) (r : Member) (b : Bool) → IsNextNamed (Some k) ms name 0 → r ≡ get_or ms k r → b ≡ is_field r → b ≡ true → FieldAt ms k name
field_at ms k name r b h er eb t = let p = at_place ms k h.1 in (p.0, p.1, sym p.3 ∙ h.2, sym (ap is_field (er ∙ p.4 r)) ∙ (sym eb ∙ t))

alone : (a b : MemberKind) → AreOverloads a b → tells_field a ≡ true → ⊥
alone (kind.Function ps r v) (kind.Function qs s w) o e = (let z : false ≡ true = e in differ z) where
  differ : false ≡ true → ⊥
  differ z = cc
alone (kind.Function ps r v) (kind.Field t) o e = o
alone (kind.Field t) (kind.Function qs s w) o e = o
alone (kind.Field t) (kind.Field u) o e = o

behind : (a b : MemberKind) → AreOverloads a b → tells_field b ≡ true → ⊥
behind (kind.Function ps r v) (kind.Function qs s w) o e = (let z : false ≡ true = e in differ z) where
  differ : false ≡ true → ⊥
  differ z = cc
behind (kind.Function ps r v) (kind.Field t) o e = o
behind (kind.Field t) (kind.Function qs s w) o e = o
behind (kind.Field t) (kind.Field u) o e = o

three : (a b : ℕ) → (a ≡ b) ⊎ ((a < b) ⊎ (b < a))
three a b = grind arith

pub all_functions : (ms : List Member) (k : ℕ) (name : List ℕ) (r : Member) (b : Bool) → IsMemberList ms → IsNextNamed (Some k) ms name 0 → r ≡ get_or ms k r → b ≡ is_field r → b ≡ false
    → (m : Member) → Has ms m → m.name ≡ name → is_field m ≡ false
all_functions ms k name r b ok h er eb f m hm e = elim (is_field m) as (λ v. is_field m ≡ v → v ≡ false) [
  | false ↦ λ z. refl
  | true ↦ λ z. absurd (never z)
] refl where
  never : is_field m ≡ true → ⊥
  never z =
      let p = at_place ms k h.1 in
      let q = place_of ms m hm in
      let names : p.0.name ≡ m.name = sym p.3 ∙ (h.2 ∙ sym e) in
      elim (three q.0 k) [
        | inl s ↦ (let same : m ≡ p.0 = sym (q.3 m) ∙ (ap (λ i. get_or ms i m) s ∙ p.4 m) in
            let y : false ≡ true = sym (sym eb ∙ f) ∙ (ap is_field (er ∙ p.4 r) ∙ (sym (ap is_field same) ∙ z)) in cc)
        | inr o ↦ elim o [
          | inl l ↦ alone m.kind p.0.kind (let a = ok.apart q.0 k m l h.1 in let a' : m.name ≡ p.0.name → AreOverloads m.kind p.0.kind = subst (λ (x : Member). x.name ≡ p.0.name → AreOverloads x.kind p.0.kind) (q.3 m)
              (subst (λ (y : Member). (get_or ms q.0 m).name ≡ y.name → AreOverloads (get_or ms q.0 m).kind y.kind) (p.4 m) a) in a' (sym names)) z
          | inr l ↦ behind p.0.kind m.kind (let a = ok.apart k q.0 m l q.1 in let a' : p.0.name ≡ m.name → AreOverloads p.0.kind m.kind = subst (λ (x : Member). x.name ≡ m.name → AreOverloads x.kind m.kind) (p.4 m)
              (subst (λ (y : Member). (get_or ms k m).name ≡ y.name → AreOverloads (get_or ms k m).kind y.kind) (q.3 m) a) in a' names) z
        ]
      ]
