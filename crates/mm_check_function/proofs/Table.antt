-- What becomes of the functions when one is declared, or defined.
use Rattle.std.proofs.Common.{◌≡◌, ℕ, ◌+◌, ◌<◌, List, [], ◌∷◌, ◌++◌, length, get_or, set, sym, ap, ◌∙◌, arith}
use Rattle.std.specs.Prelude.{Result, Ok, Err, OnOk, IfOk, None}
use Rattle.std.proofs.lemmas.List.{map-append, map-set, length-append, length-map, get_or-map}
use Rattle.mm_classes.specs.declared.class.Ty.{Ty}
use Rattle.mm_core.specs.declared.tree.CoreFn.{CoreFn}
use Rattle.mm_core.specs.Tree as k
use Rattle.mm_core.specs.View.{function_view}
use Rattle.mm_checks.specs.declared.CheckEnd.{CheckEnd}
use Rattle.mm_checks.specs.declared.CheckEnd.TheVariants as ends
use Rattle.mm_checks.specs.Checks.{Gives}
use Rattle.mm_scopes.specs.declared.head.FnHead.{FnHead}
use Rattle.mm_scopes.specs.Environment.{Environment}
use Rattle.mm_syntax.specs.declared.name.Name.{Name}
use Rattle.mm_unit_typing.specs.Functions.{Heading, never, number_of, known, head_of, heads_from, declared_function, defined_with, with_body, seen}
use Rattle.mm_check_function.specs.Known.{functions_view, seeing}
use Rattle.mm_check_function.proofs.Finding.{heads_push, heads_body, body_set, same_params, new_number}

module _ (gs : List CoreFn) (f : CoreFn) (name : Name) (h : Heading) (is : function_view f ≡ declared_function name h) where
  pub pushed : functions_view (gs ++ f ∷ []) ≡ functions_view gs ++ declared_function name h ∷ []
  pushed = map-append function_view gs (f ∷ []) ∙ ap (λ g. functions_view gs ++ g ∷ []) is

  heads_pushed : heads_from 0 (functions_view gs) ++ head_of (length gs) (declared_function name h) ∷ [] ≡ heads_from 0 (functions_view (gs ++ f ∷ []))
  heads_pushed =
      let l : 0 + length (functions_view gs) ≡ length gs = (let m = length-map gs function_view in omega arith) in
      sym (ap (heads_from 0) pushed ∙ (heads_push (functions_view gs) 0 (declared_function name h) ∙ ap (λ m. heads_from 0 (functions_view gs) ++ head_of m (declared_function name h) ∷ []) l))

  -- the environment sees the function that is put behind the others
  pub pushed_seen : (env : Environment) (n : ℕ) (head : FnHead) → env.functions ≡ heads_from 0 (functions_view gs) → n ≡ length gs → head ≡ head_of n (declared_function name h) → record env { functions = env.functions ++ head ∷ [] } ≡ seeing env (gs ++ f ∷ [])
  pushed_seen env n head sees number e =
      ap (λ hs. record env { functions = hs }) (ap (λ hs. hs ++ head ∷ []) sees ∙ (ap (λ x. heads_from 0 (functions_view gs) ++ x ∷ []) (e ∙ ap (λ m. head_of m (declared_function name h)) number) ∙ heads_pushed))

-- the number of a new function, and that it is a place of the table
module _ (gs hs : List CoreFn) (name : Name) (h : Heading) where
  pub new_place : (r : Result ℕ CheckEnd) → known (functions_view gs) name.text h.params ≡ None → Gives (λ n. n) r (Ok (length gs)) → OnOk r (functions_view hs ≡ functions_view gs ++ declared_function name h ∷ []) → Gives (λ n. n) r (Ok (number_of (functions_view hs) name.text h.params))
  new_place (Ok n) none g is =
      let n_is : length gs ≡ n = cc (g) in
      let w : length gs ≡ number_of (functions_view hs) name.text h.params = sym (length-map gs function_view) ∙ (new_number (functions_view gs) name h none ∙ ap (λ fs. number_of fs name.text h.params) (sym is)) in
      ap (λ m. Ok m) (sym w ∙ n_is)
  new_place (Err ends.NoMemory) none g is = tt
  new_place (Err (ends.Fault code place text)) none g is = absurd (cc (g))

  pub new_low : (r : Result ℕ CheckEnd) → Gives (λ n. n) r (Ok (length gs)) → OnOk r (functions_view hs ≡ functions_view gs ++ declared_function name h ∷ []) → IfOk r (λ n. n < length hs)
  new_low (Ok n) g is =
      let n_is : length gs ≡ n = cc (g) in
      let a = length-map gs function_view in
      let b = length-map hs function_view in
      let c : length (functions_view hs) ≡ length (functions_view gs) + 1 = ap length is ∙ length-append (functions_view gs) (declared_function name h ∷ []) in
      omega (arith, n_is, a, b, c)
  new_low (Err e) g is = tt

-- what is seen of a new function
pub head_is : (n : ℕ) (name : Name) (h : Heading) → record { number = n; name = name.text; params = h.params; virtuals = never h.params; result = h.result } ≡ head_of n (declared_function name h)
head_is n name h = ap (λ ts. record { number = n; name = name.text; params = ts; virtuals = never ts; result = h.result }) (sym (same_params h.params))

-- nothing changes for an environment that sees the functions
pub seen_still : (env : Environment) (gs : List CoreFn) → env.functions ≡ heads_from 0 (functions_view gs) → env ≡ seeing env gs
seen_still env gs sees = ap (λ hs. record env { functions = hs }) sees

-- the function at its place gets its variables and its body
pub body_put : (gs : List CoreFn) (n : ℕ) (f g : CoreFn) (locals : List Ty) (body : k.Stmt) → f ≡ get_or gs n f → n < length gs → function_view g ≡ defined_with locals body (function_view f) → functions_view (set gs n g) ≡ with_body (functions_view gs) n locals body
body_put gs n f g locals body at low is =
    let l : n < length (functions_view gs) = (let m = length-map gs function_view in omega arith) in
    let view : function_view f ≡ get_or (functions_view gs) n (function_view f) = ap function_view at ∙ sym (get_or-map function_view gs n f (function_view f) low) in
    map-set function_view gs n g ∙ (ap (λ x. set (functions_view gs) n x) (is ∙ ap (defined_with locals body) view) ∙ body_set (functions_view gs) n (function_view f) locals body l)

-- what is seen of a function isn't its body
pub seen_body : (fs : List k.Function) (n : ℕ) (locals : List Ty) (body : k.Stmt) → seen (with_body fs n locals body) ≡ seen fs
seen_body fs n locals body = ap (λ hs. record (seen fs) { functions = hs }) (heads_body fs 0 n locals body)
