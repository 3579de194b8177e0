-- Chains of direct bases one after the other.
use Rattle.std.proofs.Common.{◌≡◌, ℕ, List, [], ◌∷◌, ◌++◌, refl, sym, subst, ap, ap₂, ◌∙◌}
use Rattle.std.specs.Prelude.{Option}
use Rattle.mm_classes.specs.declared.class.Access.{Access}
use Rattle.mm_classes.specs.declared.class.Base.{Base}
use Rattle.mm_classes.specs.Classes.{Class, IsClassList}
use Rattle.mm_classes.specs.Subobjects.{Path, IsSubobject, end_of, compose}
use Rattle.mm_classes.specs.Access.{passed, link_of, AreLinks, composed_links, access_along}
use Rattle.mm_classes.proofs.Compose.{compose-assoc}
use Rattle.mm_classes.proofs.Ways.{compose-one, link_end, link_sub, links_sub, links_end}

pub along-append : (bs cs : List Base) (x : Option Access) → access_along (bs ++ cs) x ≡ access_along bs (access_along cs x)
along-append [] cs x = refl
along-append (b ∷ bs) cs x = ap (passed b.access) (along-append bs cs x)

module _ (g : List Class) (ok : IsClassList g) where
  pub links-append : (c : ℕ) (bs cs : List Base) → AreLinks g c bs → AreLinks g (end_of (composed_links c bs)) cs
      → AreLinks g c (bs ++ cs) × (composed_links c (bs ++ cs) ≡ compose (composed_links c bs) (composed_links (end_of (composed_links c bs)) cs))
  links-append c [] cs l k = (k, sym (compose-one c (composed_links c cs)))
  links-append c (b ∷ bs) cs l k =
      let e = links_end g c b bs l in
      let k' : AreLinks g (end_of (composed_links b.class bs)) cs = subst (λ z. AreLinks g z cs) e k in
      let i = links-append b.class bs cs l.1 k' in
      let sp : IsSubobject g (end_of (link_of c b)) (composed_links b.class bs) = subst (λ z. IsSubobject g z (composed_links b.class bs)) (sym (link_end c b)) (links_sub g b.class bs l.1) in (
        (l.0, i.0),
        ap (compose (link_of c b)) i.1
            ∙ (compose-assoc g ok c (link_of c b) (composed_links b.class bs) (composed_links (end_of (composed_links b.class bs)) cs) (link_sub g c b l.0) sp (links_sub g (end_of (composed_links b.class bs)) cs k')
            ∙ ap (λ z. compose (composed_links c (b ∷ bs)) (composed_links z cs)) (sym e)),
      )

  -- by the subobjects that they lead to
  pub joined : (n : ℕ) (p q : Path) (bs cs : List Base) → AreLinks g n bs → composed_links n bs ≡ p → AreLinks g (end_of p) cs → composed_links (end_of p) cs ≡ q
      → AreLinks g n (bs ++ cs) × (composed_links n (bs ++ cs) ≡ compose p q)
  joined n p q bs cs l e k d =
      let k' : AreLinks g (end_of (composed_links n bs)) cs = subst (λ z. AreLinks g (end_of z) cs) (sym e) k in
      let r = links-append n bs cs l k' in
      (r.0, r.1 ∙ ap₂ compose e (ap (λ (z : Path). composed_links (end_of z) cs) e ∙ d))
