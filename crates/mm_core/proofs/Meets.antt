-- A whole program that is sound: what the laws of programs ask can be met.
use Rattle.std.proofs.Common.{◌≡◌, [], ◌∷◌, refl, subst, inl, arith}
use Rattle.std.specs.Prelude.{pos, true, IsTrue}
use Rattle.mm_classes.specs.Lists.{Has, first, later}
use Rattle.mm_classes.specs.Classes.{IsClassList}
use Rattle.mm_core.specs.declared.part.Operator.TheVariants.{Add}
use Rattle.mm_core.specs.Tree.{int, binary, return, Function}
use Rattle.mm_core.specs.Heads.{is_open}
use Rattle.mm_core.specs.ValidProgram.{IsValidFunction, IsMerged, IsResolved}
use Rattle.mm_core.specs.Units.{is_name, AreNamed}
use Rattle.mm_core.specs.Keeps.{IsSound}
use Rattle.mm_core.proofs.Rows.{sum}
use Rattle.mm_core.proofs.Written.{put, main_of}

no_classes : IsClassList []
no_classes = record {
  rank = λ c. 0;
  low = λ c. omega arith;
  falls = λ c b h. elim h [ ];
  known = λ c b h. elim h [ ];
  once = λ c. tt;
  bare = λ c e. (refl, refl);
  members = λ c. record { few = omega arith; apart = λ i j d l m. absurd (let z : ⊥ = omega arith in z) };
  typed = λ c m t h k. elim h [ ];
  named = tt;
}

abbrev main : Function
main = main_of [] (put (binary Add (int (pos 1)) (int (pos 2))) ∷ return (int (pos 0)) ∷ [])

main_alone : (P : Function → Type 0) → P main → (f : Function) → Has sum.functions f → P f
main_alone P h f (first e) = subst P e h
main_alone P h f (later k) = elim k [ ]

main_valid : IsValidFunction (λ f. f.defined) sum main
main_valid = record {
  result = tt;
  params = λ q h. elim h [ ];
  few = omega arith;
  few_virtual = omega arith;
  locals = λ t h. elim h [ ];
  owner = λ e. cc;
  inside = λ e. cc;
  body = (((((λ e. cc), inl refl), tt), ((inl (refl, refl), refl, refl), tt)), ((((λ e. cc), inl refl), refl), tt));
}

sum_merged : IsMerged sum
sum_merged = record {
  valid = record {
    listed = no_classes;
    classes = λ c h. absurd (let l = h.0 in let z : ⊥ = omega arith in z);
    functions = main_alone (IsValidFunction (λ f. f.defined) sum) main_valid;
    apart = λ i j d l m. absurd (let z : ⊥ = omega arith in z);
  };
  opens = main_alone (λ f. IsTrue (is_open f) → IsTrue f.defined) (λ e. refl);
  virtuals = λ c n m f h. absurd (let l = h.0 in let z : ⊥ = omega arith in z);
  main = omega arith;
}

sum_named : AreNamed sum
sum_named = record {
  classes = λ c h. elim h [ ];
  members = λ c m h. elim h [ ];
  functions = main_alone (λ f. (f.member ≡ true → ⊥) → IsTrue (is_name f.name)) (λ n. refl);
}

sum_resolved : IsResolved sum
sum_resolved = record {
  covariant = λ r o h. elim h [ ];
  single = λ b r rows h. elim h [ ];
  won = λ b rows h. elim h [ ];
}

sum_is_sound : IsSound sum
sum_is_sound = record { merged = sum_merged; named = sum_named; resolved = sum_resolved }
