-- Locals: what follows their kinds, and what they begin with.
use Rattle.std.specs.Prelude.{false, ◌==◌}
use Rattle.std.proofs.Common.{ℕ, IsTrue, List, [], ◌∷◌, refl, inl, inr}
use Rattle.mm_grammar.specs.Grammar.{has, Front, Reads, Fails}
use Rattle.mm_grammar.proofs.Lists.{or_cases, or_left}
use Rattle.mm_c.specs.declared.tree.CKind.{CKind}
use Rattle.mm_c.specs.declared.tree.CKind.TheVariants as kind_is
use Rattle.mm_c.specs.declared.tree.CLocal.{CLocal}
use Rattle.mm_c.specs.Tokens.{Token, class_of}
use Rattle.mm_c.specs.Grammar.{texts, w, ident, pointer, local, local_of}
use Rattle.mm_c_parse.specs.Steps.{Marks, Broken}
use Rattle.mm_c_parse.proofs.Steps.{rg, fg, rs, ff, fs, mw, mw_not, ug, uf}
use Rattle.mm_c_parse.proofs.Skips.{split, split_broken, pointer_reads, pointer_fails}
use Rattle.mm_c_parse.proofs.Seen.{rl}
use Rattle.mm_c_parse_stmt.specs.Parts.{local_end, kinds}

pub end_no_name : {k : CKind} {z : ℕ} {ts r : List Token} → Fails texts ident ts r → Fails texts (local_end k z) ts r
end_no_name a = fg (fg (ff refl (fg (ff refl (fg (ff refl a))))))

pub end_broken : {k : CKind} {z : ℕ} {ts m r : List Token} {v : List ℕ} → Reads texts ident ts v m → Broken (28 ∷ z ∷ 26 ∷ []) m r → Fails texts (local_end k z) ts r
end_broken a b = elim (split_broken b) [
  | inl i ↦ fg (fg (ff refl (fg (ff refl (fg (fs refl a (mw_not i)))))))
  | inr i ↦ elim (split_broken i.2) [
    | inl j ↦ fg (fg (ff refl (fg (fs refl (rl refl a (mw i.1).1) (mw_not j)))))
    | inr j ↦ fg (fg (fs refl (rl refl (rl refl a (mw i.1).1) (mw j.1).1) (mw_not j.2)))
  ]
]

pub end_reads : {k : CKind} {z : ℕ} {ts m r : List Token} {v : List ℕ} → Reads texts ident ts v m → Marks (28 ∷ z ∷ 26 ∷ []) m r → Reads texts (local_end k z) ts (record { kind = k; name = v }) r
end_reads a k = let s = split k in let n = split s.2 in rg (rl refl (rl refl (rl refl a (mw s.1).1) (mw n.1).1) (mw n.2).1) refl

-- ---- a pointer, whose kind has two tokens

pub no_pointer : {ts r : List Token} → Broken (48 ∷ 29 ∷ []) ts r → Fails texts (local_of kind_is.Pointer pointer 10) ts r
no_pointer b = fg (fg (ff refl (pointer_fails b)))

pub pointer_then : {ts m r : List Token} {v : CLocal} → Marks (48 ∷ 29 ∷ []) ts m → Reads texts (local_end kind_is.Pointer 10) m v r → Reads texts (local_of kind_is.Pointer pointer 10) ts v r
pointer_then k a = let u = ug a in rg (rg (rs refl (pointer_reads k).1 u.2) refl) u.1

pub pointer_then_not : {ts m r : List Token} → Marks (48 ∷ 29 ∷ []) ts m → Fails texts (local_end kind_is.Pointer 10) m r → Fails texts (local_of kind_is.Pointer pointer 10) ts r
pointer_then_not k a = fg (fg (fs refl (pointer_reads k).1 (uf a)))

-- ---- the first token

-- a token of this class alone is a front
pub front_one : (c : ℕ) (k : Token) → IsTrue (class_of k == c) → Front texts (w c) (k ∷ [])
front_one c k h = inr (k, refl, or_left (class_of k == c) false h)

pub local_front : (k : Token) → IsTrue (has (class_of k) kinds) → Front texts local (k ∷ [])
local_front k h = elim (or_cases _ _ h) [
  | inl i ↦ inl (inl (front_one 45 k i))
  | inr j ↦ elim (or_cases _ _ j) [
    | inl i ↦ inr (inl (inl (front_one 46 k i)))
    | inr l ↦ elim (or_cases _ _ l) [
      | inl i ↦ inr (inr (inl (inl (front_one 47 k i))))
      | inr n ↦ elim (or_cases _ _ n) [ inl i ↦ inr (inr (inr (inl (inl (front_one 48 k i))))) | inr o ↦ absurd (cc) ]
    ]
  ]
]
