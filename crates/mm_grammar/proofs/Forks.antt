-- How the reading of a fork follows from the reading of the part that the first two tokens choose.
use Rattle.std.proofs.Common.{◌≡◌, ◌<◌, not, IsTrue, List, [], ◌∷◌, ◌++◌, ◌⊎◌, inl, inr, ap, ◌∙◌, arith, length}
use Rattle.mm_grammar.specs.Grammar.{fork, Language, PartOf, RuleSpells, RuleFront, Spells, Front, Avoids, Stuck, Reads, Fails, has}
use Rattle.mm_grammar.specs.Ahead.{Claims, first_of, second_of, alone_of, empty_of, Good, Fit}
use Rattle.mm_grammar.proofs.Lists.{not_both, has-meet}
use Rattle.mm_grammar.proofs.Laws.{Lawful, front_first, spell_empty, spell_front, spell_alone, front_second, fork_is}
use Rattle.mm_grammar.proofs.Closed.{lawful}

module _ (L : Language) (C : Claims L) (fit : Fit L C) where
  laws : Lawful L C (RuleSpells L) (RuleFront L)
  laws = lawful L C fit

  -- The first two tokens are not such as the part has.
  abbrev pub Elsewhere : {A : Type 0} → PartOf L A → List L.Token → Type 0
  Elsewhere q ts = (k y : L.Token) (s : List L.Token) → ts ≡ k ∷ y ∷ s → IsTrue (has (L.class k) (first_of L C q)) → IsTrue (has (L.class y) (second_of L C q)) → ⊥

  -- p, which is chosen, beside q
  module _ {A : Type 0} (p q : PartOf L A) (gp : Good L C p) (gq : Good L C q) (full : IsTrue (not (empty_of L C p))) (full_other : IsTrue (not (empty_of L C q))) (longer : IsTrue (not (alone_of L C p))) (longer_other : IsTrue (not (alone_of L C q)))
      (meet : (k : L.Token) → IsTrue (has (L.class k) (first_of L C p)) → IsTrue (has (L.class k) (first_of L C q)) → IsTrue (has (L.class k) C.shared)) where
    begins : {B : Type 0} → (r : PartOf L B) → Good L C r → (k : L.Token) (u : List L.Token) → Front L r (k ∷ u) → IsTrue (has (L.class k) (first_of L C r))
    begins r g k u f = front_first L C (RuleSpells L) (RuleFront L) laws r g k u f

    seconds : {B : Type 0} → (r : PartOf L B) → Good L C r → (k y : L.Token) (u : List L.Token) → IsTrue (has (L.class k) C.shared) → Front L r (k ∷ y ∷ u) → IsTrue (has (L.class y) (second_of L C r))
    seconds r g k y u s f = front_second L C (RuleSpells L) (RuleFront L) laws r g k y u s f

    -- a front of q that goes on from a front of p that isn't empty
    no_other : (x : L.Token) (u rest ts : List L.Token) (k : L.Token) (s tail : List L.Token) → Elsewhere q ts → Front L p (x ∷ u) → ts ≡ (x ∷ u) ++ rest → rest ≡ k ∷ s → Front L q ((x ∷ u) ++ k ∷ tail) → ⊥
    no_other x [] rest ts k s tail av f cut e h =
        let shared = meet x (begins p gp x [] f) (begins q gq x (k ∷ tail) h) in
        av x k s (cut ∙ ap (λ w. x ∷ w) e) (begins q gq x (k ∷ tail) h) (seconds q gq x k tail shared h)
    no_other x (y ∷ u) rest ts k s tail av f cut e h =
        let shared = meet x (begins p gp x (y ∷ u) f) (begins q gq x (y ∷ (u ++ k ∷ tail)) h) in
        av x y (u ++ rest) cut (begins q gq x (y ∷ (u ++ k ∷ tail)) h) (seconds q gq x y (u ++ k ∷ tail) shared h)

    pub chosen_stuck : (used rest ts : List L.Token) → Elsewhere q ts → (length rest < length ts) ⊎ Avoids L (first_of L C q) ts → Front L p used → ts ≡ used ++ rest → Stuck L q used rest
    chosen_stuck [] rest ts av n f cut k s tail e h = elim n [
      | inl m ↦ (let l = ap length cut in absurd (omega (arith, l, m)))
      | inr m ↦ m k s (cut ∙ e) (begins q gq k tail h)
    ]
    chosen_stuck (x ∷ u) rest ts av n f cut k s tail e h = no_other x u rest ts k s tail av f cut e h

    pub chosen_not_spelled : (used rest ts : List L.Token) → Elsewhere q ts → Front L p used → ts ≡ used ++ rest → (w : A) → Spells L q used w → ⊥
    chosen_not_spelled [] rest ts av f cut w h = not_both (empty_of L C q) full_other (spell_empty L C (RuleSpells L) (RuleFront L) laws q w h)
    chosen_not_spelled (x ∷ []) rest ts av f cut w h =
        let i = spell_front L C (RuleSpells L) (RuleFront L) laws q (x ∷ []) w h in
        let shared = meet x (begins p gp x [] f) (begins q gq x [] i) in
        not_both (alone_of L C q) longer_other (spell_alone L C (RuleSpells L) (RuleFront L) laws q gq x w shared h)
    chosen_not_spelled (x ∷ y ∷ u) rest ts av f cut w h =
        let i = spell_front L C (RuleSpells L) (RuleFront L) laws q (x ∷ y ∷ u) w h in
        let shared = meet x (begins p gp x (y ∷ u) f) (begins q gq x (y ∷ u) i) in
        av x y (u ++ rest) cut (begins q gq x (y ∷ u) i) (seconds q gq x y u shared i)

    used_some : (used rest ts : List L.Token) (v : A) → Spells L p used v → ts ≡ used ++ rest → length rest < length ts
    used_some [] rest ts v s cut = absurd (not_both (empty_of L C p) full (spell_empty L C (RuleSpells L) (RuleFront L) laws p v s))
    used_some (x ∷ u) rest ts v s cut =
        let l = ap length cut in
        let m = longer_list u in
        omega (arith, l, m)
      where
        longer_list : (u : List L.Token) → length rest < length ((x ∷ u) ++ rest)
        longer_list [] = omega arith
        longer_list (y ∷ u) = let i = longer_list u in omega (arith, i)

  pub fork_first_ok : {A : Type 0} → (p q : PartOf L A) → Good L C (fork p q) → (ts r : List L.Token) (v : A) → Elsewhere q ts → Reads L p ts v r → Reads L (fork p q) ts v r
  fork_first_ok p q g ts r v av a =
      let is = fork_is L C p q g in
      let meet = λ (k : L.Token) (i : IsTrue (has (L.class k) (first_of L C p))) (j : IsTrue (has (L.class k) (first_of L C q))). has-meet (L.class k) (first_of L C p) (first_of L C q) C.shared is.meet i j in
      let f = spell_front L C (RuleSpells L) (RuleFront L) laws p a.used v a.spelled in
      let n = used_some p q is.left is.right is.full.0 is.full.1 is.longer.0 is.longer.1 meet a.used r ts v a.spelled a.cut in
      record {
        used = a.used;
        cut = a.cut;
        spelled = inl a.spelled;
        stuck = λ k s tail e h. elim h [ inl i ↦ a.stuck k s tail e i | inr i ↦ chosen_stuck p q is.left is.right is.full.0 is.full.1 is.longer.0 is.longer.1 meet a.used r ts av (inl n) f a.cut k s tail e i ];
      }

  pub fork_first_fail : {A : Type 0} → (p q : PartOf L A) → Good L C (fork p q) → (ts r : List L.Token) → Elsewhere q ts → (length r < length ts) ⊎ Avoids L (first_of L C q) ts → Fails L p ts r → Fails L (fork p q) ts r
  fork_first_fail p q g ts r av n a =
      let is = fork_is L C p q g in
      let meet = λ (k : L.Token) (i : IsTrue (has (L.class k) (first_of L C p))) (j : IsTrue (has (L.class k) (first_of L C q))). has-meet (L.class k) (first_of L C p) (first_of L C q) C.shared is.meet i j in
      record {
        used = a.used;
        cut = a.cut;
        front = inl a.front;
        not_spelled = λ v h. elim h [ inl i ↦ a.not_spelled v i | inr i ↦ chosen_not_spelled p q is.left is.right is.full.0 is.full.1 is.longer.0 is.longer.1 meet a.used r ts av a.front a.cut v i ];
        stuck = λ k s tail e h. elim h [ inl i ↦ a.stuck k s tail e i | inr i ↦ chosen_stuck p q is.left is.right is.full.0 is.full.1 is.longer.0 is.longer.1 meet a.used r ts av n a.front a.cut k s tail e i ];
      }

  pub fork_second_ok : {A : Type 0} → (p q : PartOf L A) → Good L C (fork p q) → (ts r : List L.Token) (v : A) → Elsewhere p ts → Reads L q ts v r → Reads L (fork p q) ts v r
  fork_second_ok p q g ts r v av a =
      let is = fork_is L C p q g in
      let meet = λ (k : L.Token) (j : IsTrue (has (L.class k) (first_of L C q))) (i : IsTrue (has (L.class k) (first_of L C p))). has-meet (L.class k) (first_of L C p) (first_of L C q) C.shared is.meet i j in
      let f = spell_front L C (RuleSpells L) (RuleFront L) laws q a.used v a.spelled in
      let n = used_some q p is.right is.left is.full.1 is.full.0 is.longer.1 is.longer.0 meet a.used r ts v a.spelled a.cut in
      record {
        used = a.used;
        cut = a.cut;
        spelled = inr a.spelled;
        stuck = λ k s tail e h. elim h [ inl i ↦ chosen_stuck q p is.right is.left is.full.1 is.full.0 is.longer.1 is.longer.0 meet a.used r ts av (inl n) f a.cut k s tail e i | inr i ↦ a.stuck k s tail e i ];
      }

  pub fork_second_fail : {A : Type 0} → (p q : PartOf L A) → Good L C (fork p q) → (ts r : List L.Token) → Elsewhere p ts → (length r < length ts) ⊎ Avoids L (first_of L C p) ts → Fails L q ts r → Fails L (fork p q) ts r
  fork_second_fail p q g ts r av n a =
      let is = fork_is L C p q g in
      let meet = λ (k : L.Token) (j : IsTrue (has (L.class k) (first_of L C q))) (i : IsTrue (has (L.class k) (first_of L C p))). has-meet (L.class k) (first_of L C p) (first_of L C q) C.shared is.meet i j in
      record {
        used = a.used;
        cut = a.cut;
        front = inr a.front;
        not_spelled = λ v h. elim h [ inl i ↦ chosen_not_spelled q p is.right is.left is.full.1 is.full.0 is.longer.1 is.longer.0 meet a.used r ts av a.front a.cut v i | inr i ↦ a.not_spelled v i ];
        stuck = λ k s tail e h. elim h [ inl i ↦ chosen_stuck q p is.right is.left is.full.1 is.full.0 is.longer.1 is.longer.0 meet a.used r ts av n a.front a.cut k s tail e i | inr i ↦ a.stuck k s tail e i ];
      }
