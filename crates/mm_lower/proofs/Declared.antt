-- The temporaries that are found are those that code needs.
use Rattle.std.proofs.Common.{◌≡◌, ℕ, List, [], ◌∷◌, ◌++◌, map, refl, sym, ap, ◌∙◌, subst}
use Rattle.std.specs.Prelude.{Bool, true, false, Option, Some, None, if◌then◌else◌}
use Rattle.std.specs.Str.{bytes_eq}
use Rattle.std.proofs.lemmas.Slice.Eq.{bytes_eq-Decides}
use Rattle.mm_classes.specs.Lists.{Has, first, later, Distinct}
use Rattle.mm_classes.proofs.Lists.{Distinct-append}
use Rattle.mm_core.proofs.Sets.{any-from, any-has}
use Rattle.mm_c.specs.declared.tree.CKind.{CKind}
use Rattle.mm_c.specs.declared.tree.CKind.TheVariants.{Int}
use Rattle.mm_c.specs.declared.tree.CLocal.{CLocal}
use Rattle.mm_c.specs.Tree.{Code}
use Rattle.mm_simulate.specs.Names.{Place, local, temporary, named}
use Rattle.mm_simulate.specs.Lowered.{temporary_local}
use Rattle.mm_simulate.specs.Temporaries.{names_in, AreTemporaries}
use Rattle.mm_simulate.proofs.Scope.{named_once, has_map, has_mapped}
use Rattle.mm_simulate.proofs.Defined.{has_left, has_right}
use Rattle.mm_lower.specs.Needed.{kind_named, is_declared, noted_as, noted_all, needed}
use Rattle.mm_lower.proofs.Numerals.{temporary_kind, named_temporary}

pair_of : Place → CKind × ℕ
pair_of (local x) = (Int, x)
pair_of (temporary k t) = (k, t)

one_pair : (k j : CKind) (t s : ℕ) → named (temporary k t) ≡ named (temporary j s) → ◌≡◌ {A = CKind × ℕ} (k, t) (j, s)
unfolding pair_of
one_pair k j t s e = ap pair_of (named_once (temporary k t) (temporary j s) e)

map_end : {X Y : Type 0} (f : X → Y) (xs : List X) (x : X) → map f xs ++ f x ∷ [] ≡ map f (xs ++ x ∷ [])
map_end f [] x = refl
map_end f (y ∷ ys) x = ap (λ l. f y ∷ l) (map_end f ys x)

-- what is found in names, behind some
pub record Found (ls : List CLocal) (names : List (List ℕ)) (before : List (CKind × ℕ)) : Type 0 where
  pub temps : List (CKind × ℕ)
  pub same : ls ≡ map temporary_local temps
  pub once : Distinct temps
  pub kept : (d : CKind × ℕ) → Has before d → Has temps d
  pub mentioned : (k : CKind) (t : ℕ) → Has names (named (temporary k t)) → Has temps (k, t)

no_kind : (x : List ℕ) (k : CKind) (t : ℕ) → kind_named x ≡ None → x ≡ named (temporary k t) → ⊥
no_kind x k t h e = let z : None ≡ Some k = sym h ∙ ap kind_named e ∙ temporary_kind k t in cc

-- it stands there already
there : (ds : List (CKind × ℕ)) (x : List ℕ) (k : CKind) (t : ℕ) → x ≡ named (temporary k t) → is_declared (map temporary_local ds) x ≡ true → Has ds (k, t)
there ds x k t e h =
    let a = any-from (λ (l : CLocal). bytes_eq l.name x) (map temporary_local ds) h in
    let m = has_mapped temporary_local ds a.0 a.1 in
    let n : named (temporary m.0.0 m.0.1) ≡ named (temporary k t) = ap (λ (l : CLocal). l.name) m.2 ∙ (bytes_eq-Decides a.0.name x).0 a.2 ∙ e in
    subst (λ d. Has ds d) (one_pair m.0.0 k m.0.1 t n) m.1

not_there : (ds : List (CKind × ℕ)) (x : List ℕ) (k : CKind) (t : ℕ) → x ≡ named (temporary k t) → is_declared (map temporary_local ds) x ≡ false → Has ds (k, t) → ⊥
not_there ds x k t e h m =
    let a : is_declared (map temporary_local ds) x ≡ true = any-has (λ (l : CLocal). bytes_eq l.name x) (map temporary_local ds) (temporary_local (k, t)) (has_map temporary_local ds (k, t) m) ((bytes_eq-Decides (named (temporary k t)) x).1 (sym e)) in
    let z : false ≡ true = sym h ∙ a in cc

-- with one more name
module _ (x : List ℕ) (xs : List (List ℕ)) (ds : List (CKind × ℕ)) where
  more_none : (ls : List CLocal) → kind_named x ≡ None → Found ls xs ds → Found ls (x ∷ xs) ds
  more_none ls h r = record {
    temps = r.temps;
    same = r.same;
    once = r.once;
    kept = r.kept;
    mentioned = λ k t m. elim m [ first q ↦ absurd (no_kind x k t h q) | later n ↦ r.mentioned k t n ];
  }

  more_some : (ls : List CLocal) (es : List (CKind × ℕ)) (k : CKind) (t : ℕ) → x ≡ named (temporary k t) → ((d : CKind × ℕ) → Has ds d → Has es d) → Has es (k, t) → Found ls xs es → Found ls (x ∷ xs) ds
  more_some ls es k t e keep has r = record {
    temps = r.temps;
    same = r.same;
    once = r.once;
    kept = λ d h. r.kept d (keep d h);
    mentioned = λ j s m. elim m [ first q ↦ subst (λ d. Has r.temps d) (one_pair k j t s (sym e ∙ q)) (r.kept (k, t) has) | later n ↦ r.mentioned j s n ];
  }

pub found : (names : List (List ℕ)) (ds : List (CKind × ℕ)) → Distinct ds → Found (noted_all (map temporary_local ds) names) names ds
found [] ds once = record { temps = ds; same = refl; once = once; kept = λ d h. h; mentioned = λ k t h. elim h [ ] }
found (x ∷ xs) ds once = at (found xs) (kind_named x) refl
  where
    known : ((es : List (CKind × ℕ)) → Distinct es → Found (noted_all (map temporary_local es) xs) xs es) → (k : CKind) (t : ℕ) (b : Bool) → x ≡ named (temporary k t) → is_declared (map temporary_local ds) x ≡ b → Found (noted_all (if b then map temporary_local ds else map temporary_local ds ++ record { kind = k; name = x } ∷ []) xs) (x ∷ xs) ds
    known again k t true e h = more_some x xs ds (noted_all (map temporary_local ds) xs) ds k t e (λ d m. m) (there ds x k t e h) (again ds once)
    known again k t false e h =
        let es = ds ++ (k, t) ∷ [] in
        let d : Distinct es = Distinct-append ds ((k, t) ∷ []) once (λ z. elim z [ ], tt) (λ y a b. elim b [ first q ↦ not_there ds x k t e h (subst (λ z. Has ds z) (sym q) a) | later z ↦ elim z [ ] ]) in
        let same : map temporary_local es ≡ map temporary_local ds ++ record { kind = k; name = x } ∷ [] = sym (map_end temporary_local ds (k, t)) ∙ ap (λ y. map temporary_local ds ++ record { kind = k; name = y } ∷ []) (sym e) in
        subst (λ l. Found (noted_all l xs) (x ∷ xs) ds) same (more_some x xs ds (noted_all (map temporary_local es) xs) es k t e (λ y m. has_left ds ((k, t) ∷ []) y m) (has_right ds ((k, t) ∷ []) (k, t) (first refl)) (again es d))

    at : ((es : List (CKind × ℕ)) → Distinct es → Found (noted_all (map temporary_local es) xs) xs es) → (o : Option CKind) → kind_named x ≡ o → Found (noted_all (noted_as (map temporary_local ds) x o) xs) (x ∷ xs) ds
    at again None h = more_none x xs ds (noted_all (map temporary_local ds) xs) h (again ds once)
    at again (Some k) h = let n = named_temporary x k h in known again k n.0 (is_declared (map temporary_local ds) x) n.1 refl

pub found_in : (code : Code) → Found (needed code) (names_in code) []
found_in code = found (names_in code) [] tt

pub are_needed : (code : Code) → AreTemporaries code (found_in code).temps
are_needed code = record { mentioned = (found_in code).mentioned; once = (found_in code).once }
