-- Locals, one after another from the last to the first.
use Rattle.std.specs.Prelude.{Bool, true, false, not, ◌&&◌, ◌||◌, cond, is_some, ⊤}
use Rattle.std.specs.Borrow.{Bor}
use Rattle.std.specs.Str.{bytes_eq}
use Rattle.std.specs.HashMap as hash
use Rattle.std.proofs.lemmas.Map.Text.{hash_map_updates_str}
use Rattle.std.proofs.Common.{◌≡◌, ℕ, zero, suc, ◌+◌, ◌<◌, List, [], ◌∷◌, ◌++◌, Option, Some, None, length, map, take, drop, get_or, refl, sym, ap, ◌∙◌, append_assoc, arith}
use Rattle.std.proofs.lemmas.List.{take_more, drop_more, map-append, append-nil}
use Rattle.indexmap.specs.IndexMap.{IndexMap}
use Rattle.mm_c.specs.declared.tree.CLocal.{CLocal}
use Rattle.mm_c.specs.declared.tree.CStmt.{CStmt}
use Rattle.mm_c.specs.View.{stmt_view, block_view, code_view}
use Rattle.mm_c.specs.WellFormed.{is_name, is_in, locals_fit, locals_of, code_locals, stmt_locals}
use Rattle.mm_c.proofs.Views.{view-block}
use Rattle.mm_c_names.specs.Tables.{at}
use Rattle.mm_c_names.proofs.Named.{bytes_sym}
use Rattle.mm_c_rules.specs.Locals.{held}

-- ---- lists of locals

pub held-push : (all : List (Bor CLocal)) (l : Bor CLocal) → held (all ++ l ∷ []) ≡ held all ++ l.now ∷ []
held-push all l = map-append (λ (l : Bor CLocal). l.now) all (l ∷ [])

code_locals-append : (ss : List CStmt) (s : CStmt) → code_locals (code_view (ss ++ s ∷ [])) ≡ code_locals (code_view ss) ++ stmt_locals (stmt_view s)
code_locals-append [] s = append-nil (stmt_locals (stmt_view s))
code_locals-append (x ∷ ss) s = ap (λ l. stmt_locals (stmt_view x) ++ l) (code_locals-append ss s) ∙ sym (append_assoc (stmt_locals (stmt_view x)) (code_locals (code_view ss)) (stmt_locals (stmt_view s)))

-- one statement more
pub code_locals-more : (ss : List CStmt) (i : ℕ) (d : CStmt) → i < length ss → d ≡ get_or ss i d → code_locals (code_view (take (i + 1) ss)) ≡ code_locals (code_view (take i ss)) ++ stmt_locals (stmt_view d)
code_locals-more ss i d lt at = ap (λ l. code_locals (code_view l)) (take_more ss i d lt) ∙ code_locals-append (take i ss) (get_or ss i d) ∙ ap (λ s. code_locals (code_view (take i ss)) ++ stmt_locals (stmt_view s)) (sym at)

pub locals-block : (xs : List CLocal) (ss : List CStmt) → locals_of (block_view (record { locals = xs; body = ss })) ≡ xs ++ code_locals (code_view ss)
locals-block xs ss = ap locals_of (view-block xs ss)

-- ---- names of their own

abbrev pub names_of : List CLocal → List (List ℕ)
names_of = map (λ (x : CLocal). x.name)

-- the table has these names
abbrev pub AreMet : {S : Type 0} → IndexMap (Bor (List ℕ)) ⊤ S → List (List ℕ) → Type 0
AreMet table names = (x : List ℕ) → is_some (at table x) ≡ is_in names x

-- if the last ones don't fit, all don't
pub fit_last : (g : List (List ℕ)) (ls : List CLocal) (i : ℕ) → locals_fit g (drop i ls) ≡ false → locals_fit g ls ≡ false
fit_last g [] zero e = e
fit_last g [] (suc i) e = e
fit_last g (l ∷ ls) zero e = e
fit_last g (l ∷ ls) (suc i) e = ap (λ b. is_name l.name && not (is_in g l.name) && not (is_in (names_of ls) l.name) && b) (fit_last g ls i e) ∙ and_false (is_name l.name && not (is_in g l.name) && not (is_in (names_of ls) l.name))
  where
    and_false : (b : Bool) → (b && false) ≡ false
    and_false true = refl
    and_false false = refl

module _ (g : List (List ℕ)) (bs : List (Bor CLocal)) (i j : ℕ) (d : Bor CLocal) (next : j ≡ i + 1) (l : i < length bs) (is_at : d ≡ get_or bs i d) where
  here : held (drop i bs) ≡ d.now ∷ held (drop j bs)
  here = ap held (drop_more bs i d l) ∙ (λ k. (sym is_at k).now ∷ held (drop (sym next k) bs))

  met : {S : Type 0} (old new : IndexMap (Bor (List ℕ)) ⊤ S) (n : List ℕ) (v : ⊤) → n ≡ d.now.name
      → hash.UpdatesBy (λ (x y : Bor (List ℕ)). bytes_eq x.now y.now) (λ (k : Bor (List ℕ)). bytes_eq n k.now) old new (Some v)
      → AreMet old (names_of (held (drop j bs))) → AreMet new (names_of (held (drop i bs)))
  met old new n v named up h x =
      ap is_some (hash_map_updates_str n old new (Some v) up x)
      ∙ ap (λ y. is_some (cond (bytes_eq y x) (Some v) (at old x))) named
      ∙ go (bytes_eq d.now.name x)
      ∙ ap (λ b. b || is_in (names_of (held (drop j bs))) x) (bytes_sym d.now.name x)
      ∙ sym (ap (λ ls. is_in (names_of ls) x) here)
    where
      go : (b : Bool) → is_some (cond b (Some v) (at old x)) ≡ (b || is_in (names_of (held (drop j bs))) x)
      go true = refl
      go false = h x

  fit : locals_fit g (held (drop i bs)) ≡ (is_name d.now.name && not (is_in g d.now.name) && not (is_in (names_of (held (drop j bs))) d.now.name) && locals_fit g (held (drop j bs)))
  fit = ap (locals_fit g) here

  held-drop : (xs : List (Bor CLocal)) (k : ℕ) → held (drop k xs) ≡ drop k (held xs)
  held-drop [] zero = refl
  held-drop [] (suc k) = refl
  held-drop (x ∷ xs) zero = refl
  held-drop (x ∷ xs) (suc k) = held-drop xs k

  fails : locals_fit g (held (drop i bs)) ≡ false → locals_fit g (held bs) ≡ false
  fails e = fit_last g (held bs) i (ap (locals_fit g) (sym (held-drop bs i)) ∙ e)

  -- a name that isn't free, one that stands behind, and one of its own
  pub not_free : (f : Bool) → f ≡ false → f ≡ (is_name d.now.name && not (is_in g d.now.name)) → locals_fit g (held bs) ≡ false
  not_free f t e = fails (fit ∙ ap (λ b. b && not (is_in (names_of (held (drop j bs))) d.now.name) && locals_fit g (held (drop j bs))) (sym e ∙ t))

  pub not_new : (f o : Bool) → f ≡ true → f ≡ (is_name d.now.name && not (is_in g d.now.name)) → o ≡ true → o ≡ is_in (names_of (held (drop j bs))) d.now.name → locals_fit g (held bs) ≡ false
  not_new f o t e u h =
      fails (fit ∙ ap (λ b. b && not (is_in (names_of (held (drop j bs))) d.now.name) && locals_fit g (held (drop j bs))) (sym e ∙ t)
      ∙ ap (λ b. not b && locals_fit g (held (drop j bs))) (sym h ∙ u))

  pub own_more : (f o : Bool) → f ≡ true → f ≡ (is_name d.now.name && not (is_in g d.now.name)) → o ≡ false → o ≡ is_in (names_of (held (drop j bs))) d.now.name → locals_fit g (held (drop j bs)) ≡ true → locals_fit g (held (drop i bs)) ≡ true
  own_more f o t e u h r =
      fit ∙ ap (λ b. b && not (is_in (names_of (held (drop j bs))) d.now.name) && locals_fit g (held (drop j bs))) (sym e ∙ t)
      ∙ ap (λ b. not b && locals_fit g (held (drop j bs))) (sym h ∙ u) ∙ r

  pub met_more : {S : Type 0} (old new : IndexMap (Bor (List ℕ)) ⊤ S) (n : List ℕ) (v : ⊤) → n ≡ d.now.name
      → hash.UpdatesBy (λ (x y : Bor (List ℕ)). bytes_eq x.now y.now) (λ (k : Bor (List ℕ)). bytes_eq n k.now) old new (Some v)
      → AreMet old (names_of (held (drop j bs))) → AreMet new (names_of (held (drop i bs)))
  met_more = met
