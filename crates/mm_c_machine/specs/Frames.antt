-- What is put into frames.
use Rattle.std.specs.Prelude.{List, [], ◌∷◌, set}
use Rattle.mm_c.specs.declared.value.CValue.{CValue}
use Rattle.mm_c.specs.declared.tree.CKind.{CKind}
use Rattle.mm_c.specs.CMeaning.{fitted, zero_of}
use Rattle.mm_c_placed.specs.declared.tree.Local.{Local}

-- the arguments as as many parameters receive them
abbrev pub fitted_all : List CKind → List CValue → List CValue
fitted_all [] vs = []
fitted_all (k ∷ ks) [] = []
fitted_all (k ∷ ks) (v ∷ vs) = fitted k v ∷ fitted_all ks vs

-- a frame in which these locals are zero or null
abbrev pub with_zeros : List Local → List CValue → List CValue
with_zeros [] vs = vs
with_zeros (x ∷ xs) vs = with_zeros xs (set vs x.place (zero_of x.kind))
