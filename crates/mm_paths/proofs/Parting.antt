-- What is contained in a subobject, by what is kept of the classes.
use Rattle.std.proofs.Common.{◌≡◌, ℕ, ◌+◌, ◌-◌, ◌<◌, ◌≤◌, List, length, get_or, sym, subst, ap, ◌∙◌, arith}
use Rattle.std.specs.Prelude.{Bool, true}
use Rattle.std.specs.Bool.{Decides}
use Rattle.mm_classes.specs.Lists.{Has}
use Rattle.mm_classes.specs.Classes.{Class, IsClassList}
use Rattle.mm_classes.specs.Subobjects.{Path, chains, virtual_bases, end_of, IsWithin}
use Rattle.mm_classes.specs.Questions.{node, IsNode, start_of}
use Rattle.mm_classes.proofs.Answering.{node_sub, sub_long}
use Rattle.mm_classes.proofs.Parts.{IsPart, near_part, near_within, far_part, far_place, far_decides}
use Rattle.mm_paths.specs.Stored.{IsStart}
use Rattle.mm_paths.proofs.Placing.{same_head}

module _ (g : List Class) (ok : IsClassList g) (d t s c own : ℕ) (ht : IsNode g d t) (hs : IsNode g d s) (ec : c ≡ end_of (node g d t)) (eo : own ≡ length (chains g (length g) c)) where
  own_is : own ≡ length (chains g (length g) (end_of (node g d t)))
  own_is = eo ∙ ap (λ z. length (chains g (length g) z)) ec

  pub near_is : (m : ℕ) → (t ≤ s) × (m ≡ s - t) × (m < own) → IsPart g d t s m
  near_is m h = subst (IsPart g d t s) (sym h.1) (near_part g ok d t s ht hs h.0 (let a = h.1 in let b = h.2 in let e = own_is in omega arith))

  pub near_contains : (m : ℕ) → (t ≤ s) × (m ≡ s - t) × (m < own) → IsWithin g (node g d s) (node g d t)
  near_contains m h = near_within g ok d t s ht hs h.0 (let a = h.1 in let b = h.2 in let e = own_is in omega arith)

  far_off : (t ≤ s → own ≤ s - t) → t ≤ s → length (chains g (length g) (end_of (node g d t))) ≤ s - t
  far_off h l = let a = h l in let e = own_is in omega arith

  head_is : (v : ℕ) (path : Path) → path ≡ node g d s → v ≡ get_or path 0 v → v ≡ get_or (node g d s) 0 0
  head_is v path ep ev = ev ∙ (ap (λ z. get_or z 0 v) ep ∙ same_head (node g d s) v (sub_long g ok d (node g d s) (node_sub g ok d s hs)))

  pub far_heads : IsWithin g (node g d s) (node g d t) → (t ≤ s → own ≤ s - t) → (v : ℕ) (path : Path) → path ≡ node g d s → v ≡ get_or path 0 v
      → Has (virtual_bases g d) v × Has (virtual_bases g c) v
  far_heads w far v path ep ev =
      let p = far_part g ok d t s ht hs w (far_off far) in
      let e = head_is v path ep ev in
      (subst (Has (virtual_bases g d)) (sym e) p.5, subst (λ z. Has (virtual_bases g z) v) (sym ec) (subst (Has (virtual_bases g (end_of (node g d t)))) (sym e) p.4))

  pub far_is : IsWithin g (node g d s) (node g d t) → (t ≤ s → own ≤ s - t) → (v q r s' : ℕ) (path : Path) → path ≡ node g d s → v ≡ get_or path 0 v → IsStart g d v q → IsStart g c v r → s' ≡ s
      → (q ≤ s') × IsPart g d t s (r + (s' - q))
  far_is w far v q r s' path ep ev a b es =
      let p = far_part g ok d t s ht hs w (far_off far) in
      let e = head_is v path ep ev in
      let b' : IsStart g (end_of (node g d t)) v r = subst (λ z. IsStart g z v r) ec b in
      let f = far_place g ok d t s ht hs p.0 b'.0 a.0 p.1 p.2 p.3 b'.1 (b'.2 ∙ e) a.1 (a.2 ∙ e) in
      let m : p.0 ≡ r + (s' - q) = (let x = f.0 in let y = f.1 in let z = a.3 in let k = b'.3 in omega arith) in
      ((let x = f.0 in let z = a.3 in omega arith), subst (IsPart g d t s) m p.1)

  pub far_tests : (t ≤ s → own ≤ s - t) → (v : ℕ) (path : Path) (shared : List ℕ) (r : Bool) → path ≡ node g d s → v ≡ get_or path 0 v → shared ≡ virtual_bases g c
      → Decides r (Has shared v) → Decides r (IsWithin g (node g d s) (node g d t))
  far_tests far v path shared r ep ev es h = far_decides g ok d t s ht hs r (far_off far)
      (subst (λ z. Decides r (Has (virtual_bases g (end_of (node g d t))) z)) (head_is v path ep ev)
      (subst (λ (z : List ℕ). Decides r (Has z v)) (es ∙ ap (virtual_bases g) ec) h))
