-- The claims fit the grammar.
use Rattle.std.proofs.Common.{◌≡◌, ℕ, zero, suc, Bool, true, false, not, if◌then◌else◌, IsTrue, List, [], ◌∷◌, map, Option, Some, None, inl, inr, refl, sym, subst}
use Rattle.mm_token.specs.declared.token.Token.{Token}
use Rattle.mm_grammar.specs.Grammar.{name, seq, alt, has}
use Rattle.mm_grammar.specs.Ahead.{Follows, Sealed, Fit, has_no_tail, more_of, empty_of}
use Rattle.mm_grammar.proofs.Laws.{follows_more}
use Rattle.mm_grammar.proofs.Plain.{plain_sealed, plain_after}
use Rattle.mm_syntax.specs.declared.symbol.Symbol.TheVariants as k
use Rattle.mm_syntax.specs.declared.stmt.Stmt.{Stmt}
use Rattle.mm_syntax.specs.declared.part.Begun.{Begun}
use Rattle.mm_syntax.specs.Symbols.{number_of}
use Rattle.mm_syntax.specs.BuiltStatements.{is_closed, branched}
use Rattle.mm_syntax.specs.Rules.{Rule, unit, decl, item, params, param, inits, init, block, stmt, var, declarator, type_name, args, expr, or, and, eq, rel, add, mul, unary, postfix, primary, Value, rule_of, units, P, empty_stmt, simple_stmt, if_stmt, while_stmt, do_stmt, for_stmt, break_stmt, continue_stmt, return_stmt, branches, otherwise, enclosed, token, maybe_expr, for_start, ◌▸◌}
use Rattle.mm_syntax.proofs.Claims.{ahead, claims, follows_value}
use Rattle.mm_syntax.proofs.Nearest.{closed_if, closed_else, closed_while, closed_for}

-- the classes that can follow a statement, if it is closed or not
abbrev after_of : Bool → List ℕ
after_of b = map number_of (if b then [] else (k.Else ∷ []))

closed_after : (b : Bool) (c : ℕ) → IsTrue b → IsTrue (has c (after_of b)) → ⊥
closed_after true c h f = absurd (cc)
closed_after false c h f = absurd (cc)

-- ---- sealed

no_tail : {A : Type 0} (p : P A) → IsTrue (has_no_tail units ahead p) → Sealed units ahead p
no_tail p h = plain_sealed units ahead p h

sealed_if : (n : ℕ) → Sealed units ahead (if_stmt n)
sealed_if n = (tt, ((tt, (tt, tt)), (tt, (tt, tt), λ v c closed f h. closed_after (is_closed v) c closed f.1)))

sealed_stmt : (n : ℕ) → Sealed units ahead (rule_of (stmt (suc n)))
sealed_stmt n = (tt, (tt, (no_tail simple_stmt refl, (sealed_if n, (no_tail (while_stmt n) refl, (no_tail (do_stmt n) refl, (no_tail (for_stmt n) refl, (no_tail break_stmt refl, (no_tail continue_stmt refl, no_tail return_stmt refl)))))))))

sealed_at : (x : Rule) → Sealed units ahead (rule_of x)
sealed_at (unit n) = no_tail (rule_of (unit n)) refl
sealed_at (decl n) = no_tail (rule_of (decl n)) refl
sealed_at (item n) = no_tail (rule_of (item n)) refl
sealed_at params = no_tail (rule_of params) refl
sealed_at param = no_tail (rule_of param) refl
sealed_at inits = no_tail (rule_of inits) refl
sealed_at init = no_tail (rule_of init) refl
sealed_at (block n) = no_tail (rule_of (block n)) refl
sealed_at (stmt zero) = no_tail (rule_of (stmt zero)) refl
sealed_at (stmt (suc n)) = sealed_stmt n
sealed_at var = no_tail (rule_of var) refl
sealed_at declarator = no_tail (rule_of declarator) refl
sealed_at type_name = no_tail (rule_of type_name) refl
sealed_at args = no_tail (rule_of args) refl
sealed_at expr = no_tail (rule_of expr) refl
sealed_at or = no_tail (rule_of or) refl
sealed_at and = no_tail (rule_of and) refl
sealed_at eq = no_tail (rule_of eq) refl
sealed_at rel = no_tail (rule_of rel) refl
sealed_at add = no_tail (rule_of add) refl
sealed_at mul = no_tail (rule_of mul) refl
sealed_at unary = no_tail (rule_of unary) refl
sealed_at postfix = no_tail (rule_of postfix) refl
sealed_at primary = no_tail (rule_of primary) refl

-- ---- what follows a statement

none_after : {A : Type 0} (p : P A) (v : A) (c : ℕ) → more_of units ahead p ≡ [] → Follows units ahead p v c → ⊥
none_after p v c e f = absurd (let g = subst (λ cs. IsTrue (has c cs)) e (follows_more units ahead p v c f) in cc)

-- of an alternative neither part of which is empty
of_alt : {A : Type 0} (p q : P A) (v : A) (c : ℕ) → {C : Type 0} → IsTrue (not (empty_of units ahead p)) → IsTrue (not (empty_of units ahead q)) → (Follows units ahead p v c → C) → (Follows units ahead q v c → C) → Follows units ahead (alt p q) v c → C
of_alt p q v c g h l r f = elim f [
  | inl i ↦ elim i [ inl a ↦ l a | inr b ↦ r b ]
  | inr i ↦ elim i [ inl a ↦ absurd (let e = a.0 in cc) | inr b ↦ absurd (let e = b.0 in cc) ]
]

-- of the last of two parts, which isn't empty
of_seq : {A B : Type 0} (p : P A) (q : P B) (v : A × B) (c : ℕ) → IsTrue (not (empty_of units ahead q)) → Follows units ahead (seq p q) v c → Follows units ahead q v.1 c
of_seq p q v c h f = elim f [ inl a ↦ a | inr b ↦ absurd (let e = b.0 in cc) ]

Goes : ℕ → Stmt → Type 0
Goes c v = IsTrue (has c (after_of (is_closed v)))

goes : (c : ℕ) (v w : Stmt) → is_closed v ≡ is_closed w → Goes c w → Goes c v
unfolding Goes
goes c v w e g = subst (λ b. IsTrue (has c (after_of b))) (sym e) g

open_goes : (c : ℕ) (v : Stmt) → is_closed v ≡ false → IsTrue (has c (after_of false)) → Goes c v
unfolding Goes
open_goes c v e g = subst (λ b. IsTrue (has c (after_of b))) (sym e) g

same : (c : ℕ) (v w : Stmt) → v ≡ w → Goes c w → Goes c v
unfolding Goes
same c v w e g = subst (λ x. IsTrue (has c (after_of (is_closed x)))) (sym e) g

after_else : (n : ℕ) (c : ℕ) (w : Stmt) → Follows units ahead (otherwise n) w c → Goes c w
unfolding Goes
after_else n c w f = same c w f.0.1 f.1 (of_seq (token (k.Else ∷ [])) (name (stmt n)) f.0 c refl f.2).1

after_branches : (n : ℕ) (c : ℕ) (word : Token) (condition : Begun) (v : Stmt × Option Stmt) → Follows units ahead (branches n) v c → Goes c (branched word condition v.0 v.1)
after_branches n c word condition v f = at v.0 v.1 f
  where
    at : (body : Stmt) (other : Option Stmt) → Follows units ahead (branches n) (body, other) c → Goes c (branched word condition body other)
    at body None f = open_goes c _ (closed_if word condition body) (elim f [ inl a ↦ a.0 | inr b ↦ b ])
    at body (Some other) f = goes c _ other (closed_else word condition body other) (after_else n c other f)

after_if : (n : ℕ) (c : ℕ) (v : Stmt) → Follows units ahead (if_stmt n) v c → Goes c v
after_if n c v f = same c v _ f.1 (after_branches n c f.0.0 f.0.1.0 f.0.1.1 (of_seq enclosed (branches n) f.0.1 c refl (of_seq (token (k.If ∷ [])) (seq enclosed (branches n)) f.0 c refl f.2)))

after_while : (n : ℕ) (c : ℕ) (v : Stmt) → Follows units ahead (while_stmt n) v c → Goes c v
unfolding Goes
after_while n c v f = same c v _ f.1 (goes c _ f.0.1.1 (closed_while f.0.0 f.0.1.0 f.0.1.1) (of_seq enclosed (name (stmt n)) f.0.1 c refl (of_seq (token (k.While ∷ [])) (seq enclosed (name (stmt n))) f.0 c refl f.2)).1)

after_for : (n : ℕ) (c : ℕ) (v : Stmt) → Follows units ahead (for_stmt n) v c → Goes c v
unfolding Goes
after_for n c v f = same c v _ f.1 (goes c _ f.0.1.1.1.1 (closed_for f.0.0 f.0.1.0 f.0.1.1.0 f.0.1.1.1.0 f.0.1.1.1.1)
    (of_seq (maybe_expr k.Close) (name (stmt n)) f.0.1.1.1 c refl (of_seq (maybe_expr k.Semicolon) (seq (maybe_expr k.Close) (name (stmt n))) f.0.1.1 c refl
    (of_seq (token (k.Open ∷ []) ▸ for_start) (seq (maybe_expr k.Semicolon) (seq (maybe_expr k.Close) (name (stmt n)))) f.0.1 c refl
    (of_seq (token (k.For ∷ [])) (seq (token (k.Open ∷ []) ▸ for_start) (seq (maybe_expr k.Semicolon) (seq (maybe_expr k.Close) (name (stmt n))))) f.0 c refl f.2)))).1)

-- the alternatives of a statement, from each on
abbrev from_continue : P Stmt
from_continue = alt continue_stmt return_stmt

abbrev from_break : P Stmt
from_break = alt break_stmt from_continue

abbrev from_for : ℕ → P Stmt
from_for n = alt (for_stmt n) from_break

abbrev from_do : ℕ → P Stmt
from_do n = alt (do_stmt n) (from_for n)

abbrev from_while : ℕ → P Stmt
from_while n = alt (while_stmt n) (from_do n)

abbrev from_if : ℕ → P Stmt
from_if n = alt (if_stmt n) (from_while n)

abbrev from_simple : ℕ → P Stmt
from_simple n = alt simple_stmt (from_if n)

abbrev from_empty : ℕ → P Stmt
from_empty n = alt empty_stmt (from_simple n)

after_stmt : (n : ℕ) (c : ℕ) (v : Stmt) → Follows units ahead (rule_of (stmt (suc n))) v c → Goes c v
after_stmt n c v f =
    of_alt (name (block n)) (from_empty n) v c refl refl (λ a. absurd (none_after (name (block n)) v c refl a))
    (of_alt empty_stmt (from_simple n) v c refl refl (λ a. absurd (none_after empty_stmt v c refl a))
    (of_alt simple_stmt (from_if n) v c refl refl (λ a. absurd (none_after simple_stmt v c refl a))
    (of_alt (if_stmt n) (from_while n) v c refl refl (after_if n c v)
    (of_alt (while_stmt n) (from_do n) v c refl refl (after_while n c v)
    (of_alt (do_stmt n) (from_for n) v c refl refl (λ a. absurd (none_after (do_stmt n) v c refl a))
    (of_alt (for_stmt n) from_break v c refl refl (after_for n c v)
    (of_alt break_stmt from_continue v c refl refl (λ a. absurd (none_after break_stmt v c refl a))
    (of_alt continue_stmt return_stmt v c refl refl (λ a. absurd (none_after continue_stmt v c refl a))
    (λ a. absurd (none_after return_stmt v c refl a))))))))))
    f

after_none : (c : ℕ) (v : Stmt) → Follows units ahead (rule_of (stmt zero)) v c → Goes c v
after_none c v f = absurd f.2

after_at : (x : Rule) (v : Value x) (c : ℕ) → Follows units ahead (rule_of x) v c → IsTrue (has c (map number_of (follows_value x v)))
unfolding Goes
after_at (unit n) v c f = plain_after units ahead (unit n) (claims (unit n)) v c f
after_at (decl n) v c f = plain_after units ahead (decl n) (claims (decl n)) v c f
after_at (item n) v c f = plain_after units ahead (item n) (claims (item n)) v c f
after_at params v c f = plain_after units ahead params (claims params) v c f
after_at param v c f = plain_after units ahead param (claims param) v c f
after_at inits v c f = plain_after units ahead inits (claims inits) v c f
after_at init v c f = plain_after units ahead init (claims init) v c f
after_at (block n) v c f = plain_after units ahead (block n) (claims (block n)) v c f
after_at (stmt zero) v c f = after_none c v f
after_at (stmt (suc n)) v c f = after_stmt n c v f
after_at var v c f = plain_after units ahead var (claims var) v c f
after_at declarator v c f = plain_after units ahead declarator (claims declarator) v c f
after_at type_name v c f = plain_after units ahead type_name (claims type_name) v c f
after_at args v c f = plain_after units ahead args (claims args) v c f
after_at expr v c f = plain_after units ahead expr (claims expr) v c f
after_at or v c f = plain_after units ahead or (claims or) v c f
after_at and v c f = plain_after units ahead and (claims and) v c f
after_at eq v c f = plain_after units ahead eq (claims eq) v c f
after_at rel v c f = plain_after units ahead rel (claims rel) v c f
after_at add v c f = plain_after units ahead add (claims add) v c f
after_at mul v c f = plain_after units ahead mul (claims mul) v c f
after_at unary v c f = plain_after units ahead unary (claims unary) v c f
after_at postfix v c f = plain_after units ahead postfix (claims postfix) v c f
after_at primary v c f = plain_after units ahead primary (claims primary) v c f

pub fit : Fit units ahead
fit = record { fits_each = claims; sealed = sealed_at; after = after_at }
