-- The parameters and locals that are seen, as they are held. Own.
use Rattle.std.specs.Prelude.{◌≡◌, ℕ, List, [], ◌∷◌, map, Option, None, unwrap_or, ⊤}
use Rattle.std.specs.Borrow.{Bor}
use Rattle.indexmap.specs.IndexMap.{IndexMap}
use Rattle.mm_c.specs.declared.tree.CKind.{CKind}
use Rattle.mm_c.specs.declared.tree.CLocal.{CLocal}
use Rattle.mm_c.specs.WellFormed.{kind_in}
use Rattle.mm_c_names.specs.declared.scope.Shown.{Shown}
use Rattle.mm_c_names.specs.Tables.{at}

abbrev pub locals_in : List Shown → List CLocal
locals_in = map (λ (s : Shown). s.local.now)

-- Each local, the innermost first, has the kind that its name has further out.
abbrev pub AreShown : List Shown → Type 0
AreShown [] = ⊤
AreShown (s ∷ ss) = (s.without ≡ kind_in (locals_in ss) s.local.now.name) × AreShown ss

-- Each name has the kind of its innermost local in the table.
pub record IsScope {S : Type 0} (shown : List Shown) (kinds : IndexMap (Bor (List ℕ)) (Option CKind) S) : Type 0 where
  pub outer : AreShown shown
  pub kind : (x : List ℕ) → unwrap_or (at kinds x) None ≡ kind_in (locals_in shown) x
