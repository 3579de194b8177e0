-- Items behind their first token, and what follows `static`.
use Rattle.std.specs.Prelude.{Bool, true, false}
use Rattle.std.proofs.Common.{◌≡◌, ℕ, IsTrue, List, [], ◌∷◌, ◌++◌, refl, ap, sym, ◌∙◌, subst, inl, inr, Option, Some, None}
use Rattle.mm_grammar.specs.Grammar.{has, give, seq, opt, Spells, Reads, Fails}
use Rattle.mm_c.specs.declared.tree.CKind.{CKind}
use Rattle.mm_c.specs.declared.tree.CLocal.{CLocal}
use Rattle.mm_c.specs.declared.tree.CLinkage.{CLinkage}
use Rattle.mm_c.specs.declared.tree.CBlock.{CBlock}
use Rattle.mm_c.specs.declared.tree.CItem.TheVariants as item_is
use Rattle.mm_c.specs.Tree.{Block, Item}
use Rattle.mm_c.specs.View.{block_view, item_view}
use Rattle.mm_c.specs.Tokens.{Token, Place, class_of}
use Rattle.mm_c.specs.Grammar.{P, Placed, texts, w, around, after_static, function_of, proto_or, is_there, ◌▸◌}
use Rattle.mm_c_parse.specs.Steps.{Skips}
use Rattle.mm_c_parse.proofs.Steps.{took, rg, fg, rs, fs, mw, kr, nr, rz}
use Rattle.mm_c_parse_item.specs.Parts.{static_end, unplaced}

-- ---- the first token

pub is_in : {c : ℕ} (t : Token) → IsTrue (has c (c ∷ [])) → class_of t ≡ c → IsTrue (has (class_of t) (c ∷ []))
is_in {c} t i k = subst (λ (n : ℕ). IsTrue (has n (c ∷ []))) (sym k) i

pub first_read : {c : ℕ} {t : Token} {ts us : List Token} → IsTrue (has c (c ∷ [])) → ts ≡ t ∷ us → class_of t ≡ c → Reads texts (w c) ts t us
first_read {c} {t} i e k = took (c ∷ []) e (is_in t i k)

-- ---- `inline`

pub inline_read : {ts us : List Token} (b : Bool) → Skips 43 ts b us → (o : Option Token) × (is_there o ≡ b) × Reads texts (opt (w 43)) ts o us
inline_read true s = let k = s.passed refl in (Some (mw k).0, refl, kr refl refl k (rg (mw k).1 refl))
inline_read false s = let n = s.none refl in (None, refl, nr (43 ∷ []) refl refl n.0 n.1 (rg rz refl))

-- ---- functions, as they are seen

pub function_is : {l m : CLinkage} {b c : CBlock} (r : Option CKind) (n : List ℕ) (ps : List CLocal) → l ≡ m → b ≡ c →
    item_view (item_is.Function (record { linkage = l; result = r; name = n; params = ps; body = b })) ≡ function_of m r (n, ps) (block_view c)
function_is {l} {m} {b} {c} r n ps e h = ap (λ (x : CLinkage). function_of x r (n, ps) (block_view b)) e ∙ ap (λ (x : CBlock). function_of m r (n, ps) (block_view x)) h

-- ---- with the place of `static`

placed_here : (p : Place) (i : Option Token) (r : Option CKind) (h : List ℕ × List CLocal) (b : Option (Placed Block)) →
    proto_or p i r h b ≡ around (unplaced (is_there i) r h b).tree p (unplaced (is_there i) r h b).places
placed_here p None r h None = refl
placed_here p None r h (Some b) = refl
placed_here p (Some x) r h None = refl
placed_here p (Some x) r h (Some b) = refl

pub static_reads : {ts r : List Token} {x : Placed Item} → Reads texts static_end ts x r → (f : Place → Placed Item) × ((p : Place) → f p ≡ around x.tree p x.places) × Reads texts after_static ts f r
static_reads {ts} {r} {x} a = elim a.spelled [
  | inl i ↦ let f = λ (p : Place). around i.0 p [] in
      (f, λ p. ap (λ (y : Placed Item). around y.tree p y.places) (sym i.1), record { used = a.used; cut = a.cut; spelled = inl (i.0, refl, i.2); stuck = a.stuck })
  | inr i ↦ let f = λ (p : Place). proto_or p i.0.0 i.0.1.0 i.0.1.1.0 i.0.1.1.1 in (
    f,
    λ p. placed_here p i.0.0 i.0.1.0 i.0.1.1.0 i.0.1.1.1 ∙ ap (λ (y : Placed Item). around y.tree p y.places) (sym i.1),
    record { used = a.used; cut = a.cut; spelled = inr (i.0, refl, i.2); stuck = a.stuck },
  )
]

pub static_fails : {ts r : List Token} → Fails texts static_end ts r → Fails texts after_static ts r
static_fails a = record {
  used = a.used;
  cut = a.cut;
  front = a.front;
  not_spelled = λ f s. elim s [
    | inl i ↦ a.not_spelled (record { tree = i.0; places = [] }) (inl (i.0, refl, i.2))
    | inr i ↦ a.not_spelled (unplaced (is_there i.0.0) i.0.1.0 i.0.1.1.0 i.0.1.1.1) (inr (i.0, refl, i.2))
  ];
  stuck = a.stuck;
}

abbrev pub static_item : P (Placed Item)
static_item = give (λ v. v.1 v.0.place) (seq (w 41) after_static)

pub static_read : {k : Token} {ts us r : List Token} {x : Placed Item} → ts ≡ k ∷ us → class_of k ≡ 41 → Reads texts static_end us x r → Reads texts static_item ts (around x.tree k.place x.places) r
static_read {k} e h a = let s = static_reads a in rg (rs refl (first_read refl e h) s.2) (sym (s.1 k.place))

pub static_not : {k : Token} {ts us r : List Token} → ts ≡ k ∷ us → class_of k ≡ 41 → Fails texts static_end us r → Fails texts static_item ts r
static_not e h a = fg (fs refl (first_read refl e h) (static_fails a))
