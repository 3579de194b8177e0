-- A unit has one verdict. (Own.)
use Rattle.std.specs.Prelude.{◌≡◌, ℕ, List, Some}
use Rattle.mm_base.specs.Outside.{Contents}
use Rattle.mm_syntax.specs.declared.form.Forms.{Forms}
use Rattle.mm_verdict.specs.Verdict.{Verdict, Missing, Unread, Long, Faulty, Sound, HasVerdict}

-- it isn't that a read failed
abbrev pub IsByContents : Verdict → Type 0
IsByContents (Missing file) = Unit {0}
IsByContents (Unread file) = ⊥
IsByContents (Long file) = Unit {0}
IsByContents (Faulty f) = Unit {0}
IsByContents (Sound p) = Unit {0}

-- files that tell what they hold give at most one verdict on a unit, but for failed reads
abbrev pub OneVerdict : Type 0
OneVerdict = (unbuilt : Forms) (h : Contents) (name : List ℕ) (v w : Verdict) →
    IsByContents v → IsByContents w →
    HasVerdict unbuilt (Some h) name v → HasVerdict unbuilt (Some h) name w → v ≡ w
