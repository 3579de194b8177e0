-- Names and places stay near where a local is set, a block is entered or left, and a function is entered.
use Rattle.std.specs.Prelude.{Bool, true, false, ◌||◌, Option, Some, None, is_some, nat_eq, if◌then◌else◌, pos}
use Rattle.std.specs.Str.{bytes_eq}
use Rattle.std.proofs.Common.{◌≡◌, ℕ, zero, suc, List, [], ◌∷◌, ◌++◌, map, refl, sym, ap, ap₂, ◌∙◌, arith}
use Rattle.std.proofs.lemmas.Slice.Eq.{bytes_eq-Decides}
use Rattle.mm_c.specs.declared.value.CValue.{CValue}
use Rattle.mm_c.specs.declared.value.CValue.TheVariants.{Int}
use Rattle.mm_c.specs.declared.tree.CKind.{CKind}
use Rattle.mm_c.specs.declared.tree.CLocal.{CLocal}
use Rattle.mm_c.specs.WellFormed.{kind_in, kinds_of}
use Rattle.mm_c.specs.CMeaning as n
use Rattle.mm_c.specs.CMeaning.{Names, Kinds, zero_of, fitted, no_names, no_kinds}
use Rattle.mm_c_placed.specs.Meaning as c
use Rattle.mm_c_placed.specs.Meaning.{Frame, start}
use Rattle.mm_c_places.specs.Places.{place_of, places}
use Rattle.mm_c_places.specs.Placed.{own_local}
use Rattle.mm_c_places.specs.Seen.{Sees, Agree, Differ}
use Rattle.mm_c_places.specs.Near.{Near}

-- ---- names

pub bytes_refl : (x : List ℕ) → bytes_eq x x ≡ true
bytes_refl x = (bytes_eq-Decides x x).1 refl

pub bytes_is : (x y : List ℕ) → bytes_eq x y ≡ true → x ≡ y
bytes_is x y e = (bytes_eq-Decides x y).0 e

pub bytes_sym : (x y : List ℕ) → bytes_eq x y ≡ bytes_eq y x
bytes_sym x y = go (bytes_eq x y) (bytes_eq y x) refl refl
  where
    go : (a b : Bool) → bytes_eq x y ≡ a → bytes_eq y x ≡ b → a ≡ b
    go true true e f = refl
    go false false e f = refl
    go true false e f = sym ((bytes_eq-Decides y x).1 (sym ((bytes_eq-Decides x y).0 e))) ∙ f
    go false true e f = sym e ∙ (bytes_eq-Decides x y).1 (sym ((bytes_eq-Decides y x).0 f))

zero_suc : (k : ℕ) → nat_eq 0 (suc k) ≡ false
zero_suc k = grind arith

suc_zero : (k : ℕ) → nat_eq (suc k) 0 ≡ false
suc_zero k = grind arith

suc_suc : (j k : ℕ) → nat_eq (suc j) (suc k) ≡ nat_eq j k
suc_suc j k = grind arith

-- ---- seen

pub sees-cons : (l : CLocal) (ls : List CLocal) (x : List ℕ) → is_some (kind_in (l ∷ ls) x) ≡ (bytes_eq l.name x || is_some (kind_in ls x))
sees-cons l ls x = go (bytes_eq l.name x)
  where
    go : (b : Bool) → is_some (elim b as (λ z. Option CKind) [ true ↦ Some l.kind | false ↦ kind_in ls x ]) ≡ (b || is_some (kind_in ls x))
    go true = refl
    go false = refl

pub sees-append : (xs ys : List CLocal) (x : List ℕ) → is_some (kind_in (xs ++ ys) x) ≡ (is_some (kind_in xs x) || is_some (kind_in ys x))
sees-append [] ys x = refl
sees-append (l ∷ xs) ys x = sees-cons l (xs ++ ys) x ∙ go (bytes_eq l.name x) (sees-append xs ys x) ∙ ap (λ b. b || is_some (kind_in ys x)) (sym (sees-cons l xs x))
  where
    go : (b : Bool) → is_some (kind_in (xs ++ ys) x) ≡ (is_some (kind_in xs x) || is_some (kind_in ys x)) → (b || is_some (kind_in (xs ++ ys) x)) ≡ ((b || is_some (kind_in xs x)) || is_some (kind_in ys x))
    go true h = refl
    go false h = h

or_right : (a b : Bool) → b ≡ true → (a || b) ≡ true
or_right true b h = refl
or_right false b h = h

-- what is seen around a block is seen in it
pub sees_inside : (xs scope : List CLocal) (x : List ℕ) → Sees scope x → Sees (xs ++ scope) x
sees_inside xs scope x h = sees-append xs scope x ∙ or_right (is_some (kind_in xs x)) (is_some (kind_in scope x)) h

-- one place
place_cons : (l : CLocal) (ls : List CLocal) (x y : List ℕ) (p q : Bool) → bytes_eq l.name x ≡ p → bytes_eq l.name y ≡ q
    → (is_some (kind_in ls x) ≡ true → is_some (kind_in ls y) ≡ true → nat_eq (place_of ls y) (place_of ls x) ≡ bytes_eq x y)
    → (p || is_some (kind_in ls x)) ≡ true → (q || is_some (kind_in ls y)) ≡ true
    → nat_eq (elim q as (λ z. ℕ) [ true ↦ zero | false ↦ suc (place_of ls y) ]) (elim p as (λ z. ℕ) [ true ↦ zero | false ↦ suc (place_of ls x) ]) ≡ bytes_eq x y
place_cons l ls x y true true e f ih h g = sym (ap₂ bytes_eq (sym (bytes_is l.name x e)) (sym (bytes_is l.name y f)) ∙ bytes_refl l.name)
place_cons l ls x y true false e f ih h g = suc_zero (place_of ls y) ∙ sym f ∙ ap (λ z. bytes_eq z y) (bytes_is l.name x e)
place_cons l ls x y false true e f ih h g = zero_suc (place_of ls x) ∙ sym (ap (bytes_eq x) (sym (bytes_is l.name y f)) ∙ bytes_sym x l.name ∙ e)
place_cons l ls x y false false e f ih h g = suc_suc (place_of ls y) (place_of ls x) ∙ ih h g

-- two declared names have one place only where they are one
pub place_eq : (all : List CLocal) (x y : List ℕ) → Sees all x → Sees all y → nat_eq (place_of all y) (place_of all x) ≡ bytes_eq x y
place_eq [] x y h g = absurd (cc)
place_eq (l ∷ ls) x y h g = place_cons l ls x y (bytes_eq l.name x) (bytes_eq l.name y) refl refl (place_eq ls x y) (sym (sees-cons l ls x) ∙ h) (sym (sees-cons l ls y) ∙ g)

-- ---- near

module _ (all : List CLocal) where
  pub near_less : (scope less : List CLocal) (names : Names) (kinds : Kinds) (frame : Frame) → ((x : List ℕ) → Sees less x → Sees scope x) → Near all scope names kinds frame → Near all less names kinds frame
  near_less scope less names kinds frame h near = record { kind = λ x g. near.kind x (h x g); value = λ x g. near.value x (h x g) }

  -- a local is set
  pub near_set : (scope : List CLocal) (names : Names) (kinds : Kinds) (frame : Frame) (x : List ℕ) (v : CValue) → Sees scope x → Near all scope names kinds frame → Near all scope (n.with_name names x v) kinds (c.with_place frame (place_of all x) v)
  near_set scope names kinds frame x v h near = record {
    kind = near.kind;
    value = λ y g. ap₂ (λ b w. if b then v else w) (sym (place_eq all x y (ap is_some (near.kind x h)) (ap is_some (near.kind y g)))) (near.value y g);
  }

  -- a local is declared, and set
  near_one : (scope : List CLocal) (names : Names) (kinds : Kinds) (frame : Frame) (l : CLocal) (v : CValue) → kind_in all l.name ≡ Some l.kind → Near all scope names kinds frame
      → Near all (l ∷ scope) (n.with_name names l.name v) (n.with_kind kinds l.name l.kind) (c.with_place frame (place_of all l.name) v)
  near_one scope names kinds frame l v is near = record {
    kind = λ y g. kind_one y (bytes_eq l.name y) refl (sym (sees-cons l scope y) ∙ g);
    value = λ y g. value_one y (bytes_eq l.name y) refl (sym (sees-cons l scope y) ∙ g);
  }
    where
      kind_one : (y : List ℕ) (b : Bool) → bytes_eq l.name y ≡ b → (b || is_some (kind_in scope y)) ≡ true → kind_in all y ≡ Some (if b then l.kind else kinds y)
      kind_one y true e g = ap (kind_in all) (sym (bytes_is l.name y e)) ∙ is
      kind_one y false e g = near.kind y g

      same_place : (y : List ℕ) → l.name ≡ y → v ≡ (if nat_eq (place_of all y) (place_of all l.name) then v else frame (place_of all y))
      same_place y e = sym (ap (λ b. if b then v else frame (place_of all y)) (place_eq all l.name y (ap is_some is) (ap (λ z. is_some (kind_in all z)) (sym e) ∙ ap is_some is) ∙ ap (bytes_eq l.name) (sym e) ∙ bytes_refl l.name))

      value_one : (y : List ℕ) (b : Bool) → bytes_eq l.name y ≡ b → (b || is_some (kind_in scope y)) ≡ true → (if b then v else names y) ≡ (if nat_eq (place_of all y) (place_of all l.name) then v else frame (place_of all y))
      value_one y true e g = same_place y (bytes_is l.name y e)
      value_one y false e g = near.value y g ∙ sym (ap (λ b. if b then v else frame (place_of all y)) (place_eq all l.name y (ap is_some is) (ap is_some (near.kind y g)) ∙ e))

  moved : (l : CLocal) (xs scope : List CLocal) (y : List ℕ) → Sees (l ∷ xs ++ scope) y → Sees (xs ++ (l ∷ scope)) y
  moved l xs scope y h = sees-append xs (l ∷ scope) y ∙ ap (λ b. is_some (kind_in xs y) || b) (sees-cons l scope y) ∙ go (bytes_eq l.name y) (is_some (kind_in xs y)) (is_some (kind_in scope y)) (sym (ap (λ b. bytes_eq l.name y || b) (sees-append xs scope y)) ∙ sym (sees-cons l (xs ++ scope) y) ∙ h)
    where
      go : (a b d : Bool) → (a || (b || d)) ≡ true → (b || (a || d)) ≡ true
      go true true d e = refl
      go true false d e = refl
      go false b d e = e

  -- a block is entered
  pub near_zeroed : (xs scope : List CLocal) (names : Names) (kinds : Kinds) (frame : Frame) → Agree all xs → Near all scope names kinds frame → Near all (xs ++ scope) (n.zeroed xs names) (n.with_kinds xs kinds) (c.zeroed (map (own_local (places all)) xs) frame)
  near_zeroed [] scope names kinds frame g near = near
  near_zeroed (l ∷ xs) scope names kinds frame g near =
      near_less (xs ++ (l ∷ scope)) (l ∷ xs ++ scope) _ _ _ (moved l xs scope)
      (near_zeroed xs (l ∷ scope) (n.with_name names l.name (zero_of l.kind)) (n.with_kind kinds l.name l.kind) (c.with_place frame (place_of all l.name) (zero_of l.kind)) g.1 (near_one scope names kinds frame l (zero_of l.kind) g.0 near))

-- ---- a function is entered

-- the parameters that a call gives, by name and by place: in both as many as there are arguments, or in neither
data Gave (ps : List CLocal) (before : Names) : Option Names → Option (List CValue) → Type 0 where
  neither : Gave ps before None None
  both : {names : Names} {vs : List CValue} → ((x : List ℕ) → Sees ps x → names x ≡ start vs (place_of ps x)) → ((x : List ℕ) → is_some (kind_in ps x) ≡ false → names x ≡ before x) → Gave ps before (Some names) (Some vs)

gave_more : (p : CLocal) (ps : List CLocal) (w : CValue) (before : Names) (o : Option Names) (r : Option (List CValue)) → is_some (kind_in ps p.name) ≡ false → Gave ps (n.with_name before p.name w) o r → Gave (p ∷ ps) before o (c.with_first w r)
gave_more p ps w before _ _ d neither = neither
gave_more p ps w before _ _ d (both {names = names} {vs = vs} here else_) = both (λ x h. seen x (bytes_eq p.name x) refl (sym (sees-cons p ps x) ∙ h)) (λ x h. unseen x (bytes_eq p.name x) refl (sym (sees-cons p ps x) ∙ h))
  where
    seen : (x : List ℕ) (b : Bool) → bytes_eq p.name x ≡ b → (b || is_some (kind_in ps x)) ≡ true → names x ≡ start (w ∷ vs) (elim b as (λ z. ℕ) [ true ↦ zero | false ↦ suc (place_of ps x) ])
    seen x true e h = else_ x (ap (λ z. is_some (kind_in ps z)) (sym (bytes_is p.name x e)) ∙ d) ∙ ap (λ b. if b then w else before x) e
    seen x false e h = here x h

    unseen : (x : List ℕ) (b : Bool) → bytes_eq p.name x ≡ b → (b || is_some (kind_in ps x)) ≡ false → names x ≡ before x
    unseen x true e h = absurd (cc)
    unseen x false e h = else_ x h ∙ ap (λ b. if b then w else before x) e

gave : (ps : List CLocal) (vs : List CValue) (before : Names) → Differ ps → Gave ps before (n.given ps vs before) (c.given (kinds_of ps) vs)
gave [] [] before d = both (λ x h. absurd (cc)) (λ x h. refl)
gave [] (v ∷ vs) before d = neither
gave (p ∷ ps) [] before d = neither
gave (p ∷ ps) (v ∷ vs) before d = gave_more p ps (fitted p.kind v) before (n.given ps vs (n.with_name before p.name (fitted p.kind v))) (c.given (kinds_of ps) vs) d.0 (gave ps vs (n.with_name before p.name (fitted p.kind v)) d.1)

place-append : (ps rest : List CLocal) (x : List ℕ) → Sees ps x → place_of (ps ++ rest) x ≡ place_of ps x
place-append [] rest x h = absurd (cc)
place-append (p ∷ ps) rest x h = go (bytes_eq p.name x) (sym (sees-cons p ps x) ∙ h) (place-append ps rest x)
  where
    go : (b : Bool) → (b || is_some (kind_in ps x)) ≡ true → (is_some (kind_in ps x) ≡ true → place_of (ps ++ rest) x ≡ place_of ps x) → elim b as (λ z. ℕ) [ true ↦ zero | false ↦ suc (place_of (ps ++ rest) x) ] ≡ elim b as (λ z. ℕ) [ true ↦ zero | false ↦ suc (place_of ps x) ]
    go true g ih = refl
    go false g ih = ap suc (ih g)

-- the names and the frame that a function's body begins with
pub data Entered (all ps : List CLocal) : Option Names → Option (List CValue) → Type 0 where
  neither_enters : Entered all ps None None
  both_enter : {names : Names} {vs : List CValue} → Near all ps names (n.with_kinds ps no_kinds) (start vs) → Entered all ps (Some names) (Some vs)

-- nothing is seen of no locals
near_none : (all : List CLocal) (names : Names) (kinds : Kinds) (frame : Frame) → Near all [] names kinds frame
near_none all names kinds frame = record { kind = λ x h. absurd (cc); value = λ x h. absurd (cc) }

seen_at : (ps : List CLocal) (x : List ℕ) → Sees ps x → Sees (ps ++ []) x
seen_at ps x h = sees-append ps [] x ∙ ap (λ b. b || false) h

pub enters : (ps rest : List CLocal) (vs : List CValue) → Differ ps → Agree (ps ++ rest) ps → Entered (ps ++ rest) ps (n.given ps vs no_names) (c.given (kinds_of ps) vs)
enters ps rest vs d g = go _ _ (gave ps vs no_names d)
  where
    go : (o : Option Names) (r : Option (List CValue)) → Gave ps no_names o r → Entered (ps ++ rest) ps o r
    go _ _ neither = neither_enters
    go _ _ (both here else_) = both_enter (record {
      kind = λ x h. (near_zeroed (ps ++ rest) ps [] no_names no_kinds (λ y. Int (pos 0)) g (near_none (ps ++ rest) _ _ _)).kind x (seen_at ps x h);
      value = λ x h. here x h ∙ ap (start _) (sym (place-append ps rest x h));
    })
