-- Which candidate a call takes.
use Rattle.std.proofs.Common.{◌≡◌, ℕ, zero, suc, ◌<◌, Bool, true, false, List, [], ◌∷◌, length, map, refl, sym, ap, ◌∙◌}
use Rattle.std.specs.Prelude.{◌&&◌, Option, Some, None, Ok, Err, slice_get, option_map}
use Rattle.std.proofs.lemmas.Option.{slice_get-map, slice_get_within}
use Rattle.std.proofs.lemmas.List.{length-map}
use Rattle.mm_classes.specs.Classes.{Class}
use Rattle.mm_classes.specs.declared.class.Ty.{Ty}
use Rattle.mm_base.specs.declared.world.Builtin.{Builtin}
use Rattle.mm_core.specs.Valid.{types_asked}
use Rattle.mm_syntax.specs.Tree as t
use Rattle.mm_syntax.specs.First.{place_of, first_text}
use Rattle.mm_base.specs.declared.code.TheConstants.Code.{S8}
use Rattle.mm_overload.specs.Choice.{IsBest, viable, best_of}
use Rattle.mm_overload.specs.declared.conv.Arg.{Arg}
use Rattle.mm_overload.specs.declared.choice.Best.{Best}
use Rattle.mm_overload.specs.declared.choice.Best.TheVariants as best
use Rattle.mm_scopes.specs.declared.head.FnHead.{FnHead}
use Rattle.mm_scopes.specs.Names.{params_of}
use Rattle.mm_checks.specs.Checks.{at}
use Rattle.mm_typing.specs.declared.typed.TypedExpr.{TypedExpr}
use Rattle.mm_typing.specs.Typed.{Typed, typeds_view, arg_of}
use Rattle.mm_typing.specs.Calls.{Candidate, function, builtin, params_in, call_of, take_best, own_call}

viable-length : (g : List Class) (args : List Arg) (ps : List Ty) → viable g args ps ≡ true → length args ≡ length ps
viable-length g [] [] e = refl
viable-length g [] (p ∷ ps) e = cc
viable-length g (a ∷ args) [] e = cc
viable-length g (a ∷ args) (p ∷ ps) e = ap suc (viable-length g args ps (last _ _ e)) where
  last : (a b : Bool) → (a && b) ≡ true → b ≡ true
  last true b e = e
  last false b e = cc

pub params_function : (fs : List FnHead) → map params_in (map function fs) ≡ map params_of fs
params_function [] = refl
params_function (f ∷ fs) = ap (λ ps. f.params ∷ ps) (params_function fs)

-- the call goes by the choice
pub own_as : (g : List Class) (e : t.Expr) (cs : List Candidate) (xs : List Typed) (types : List Arg) (params : List (List Ty)) (b : Best)
    → types ≡ map arg_of xs → params ≡ map params_in cs → b ≡ best_of g types params → own_call g e (Some cs) xs ≡ take_best e cs xs b
own_as g e cs xs types params b et ep eb = rw (eb, et, ep) refl

module _ (g : List Class) (cs : List Candidate) (xs : List Typed) (types : List Arg) (params : List (List Ty)) (i : ℕ) (et : types ≡ map arg_of xs) (ep : params ≡ map params_in cs) (won : IsBest g types params i) where
  pub some_candidate : (c : Candidate) × (slice_get cs i ≡ Some c)
  some_candidate = got (slice_get cs i) refl where
    got : (o : Option Candidate) → slice_get cs i ≡ o → (c : Candidate) × (slice_get cs i ≡ Some c)
    got (Some c) s = (c, s)
    got None s = absurd (let f = sym won.is ∙ ap (λ ps. slice_get ps i) ep ∙ slice_get-map params_in cs i ∙ ap (option_map params_in) s in cc)

  pub candidate_in : i < length cs
  candidate_in = slice_get_within cs i some_candidate.0 some_candidate.1

  pub fits_call : (c : Candidate) → slice_get cs i ≡ Some c → length xs ≡ length (params_in c)
  fits_call c s =
      let same : Some won.params ≡ Some (params_in c) = sym won.is ∙ ap (λ ps. slice_get ps i) ep ∙ slice_get-map params_in cs i ∙ ap (option_map params_in) s in
      let is : won.params ≡ params_in c = cc in
      let len : length (map arg_of xs) ≡ length xs = simp length-map in
      sym len ∙ ap length (sym et) ∙ viable-length g types won.params won.fits ∙ ap length is

  pub call_is : (e : t.Expr) (c : Candidate) → slice_get cs i ≡ Some c → best.One i ≡ best_of g types params → own_call g e (Some cs) xs ≡ Ok (call_of c xs)
  call_is e c s eb = own_as g e cs xs types params (best.One i) et ep eb ∙ rw s refl

-- no candidate
pub none_called : (g : List Class) (e : t.Expr) (xs : List Typed) → own_call g e (Some []) xs ≡ Err (at S8 (place_of e) (first_text e))
unfolding best_of
none_called g e xs = refl

pub length-view : (xs : List TypedExpr) → length (typeds_view xs) ≡ length xs
length-view xs = simp length-map

-- one built-in function
only_one : (b c : Candidate) (i : ℕ) → slice_get (b ∷ []) i ≡ Some c → b ≡ c
only_one b c zero s = cc
only_one b c (suc i) s = cc

pub builtin_fits : (g : List Class) (b : Builtin) (xs : List Typed) (types : List Arg) (params : List (List Ty)) (i : ℕ) → types ≡ map arg_of xs → params ≡ types_asked b ∷ [] → IsBest g types params i → length xs ≡ length (types_asked b)
builtin_fits g b xs types params i et ep won =
    let s = some_candidate g (builtin b ∷ []) xs types params i et ep won in
    fits_call g (builtin b ∷ []) xs types params i et ep won s.0 s.1 ∙ ap (λ c. length (params_in c)) (sym (only_one (builtin b) s.0 i s.1))

-- the functions of a name
module _ (g : List Class) (fs : List FnHead) (xs : List Typed) (types : List Arg) (params : List (List Ty)) (et : types ≡ map arg_of xs) (ep : params ≡ map params_of fs) where
  all : params ≡ map params_in (map function fs)
  all = ep ∙ sym (params_function fs)

  at_place : (i : ℕ) (f : FnHead) → slice_get fs i ≡ Some f → slice_get (map function fs) i ≡ Some (function f)
  at_place i f s = slice_get-map function fs i ∙ ap (option_map function) s

  pub named_fits : (i : ℕ) (f : FnHead) → IsBest g types params i → slice_get fs i ≡ Some f → length xs ≡ length f.params
  named_fits i f won s = fits_call g (map function fs) xs types params i et all won (function f) (at_place i f s)

  pub named_called : (i : ℕ) (f : FnHead) (e : t.Expr) → IsBest g types params i → slice_get fs i ≡ Some f → best.One i ≡ best_of g types params → own_call g e (Some (map function fs)) xs ≡ Ok (call_of (function f) xs)
  named_called i f e won s eb = call_is g (map function fs) xs types params i et all won e (function f) (at_place i f s) eb

  pub named_as : (e : t.Expr) (b : Best) → b ≡ best_of g types params → own_call g e (Some (map function fs)) xs ≡ take_best e (map function fs) xs b
  named_as e b eb = own_as g e (map function fs) xs types params b et all eb
