-- What holds of an answer holds of what follows from it.
use Rattle.std.specs.Prelude.{Result, Ok, Err, IfOk, Option, Some, None, IfNone}

pub if_ok : {A E : Type 0} (P Q : A → Type 0) (r : Result A E) → ((x : A) → P x → Q x) → IfOk r P → IfOk r Q
if_ok P Q (Ok x) f h = f x h
if_ok P Q (Err e) f h = tt

pub if_none : {A : Type 0} (o : Option A) (P : Type 0) → P → IfNone o P
if_none None P p = p
if_none (Some a) P p = tt
