-- The parts of the grammar of items that functions of their own read. Own.
use Rattle.std.specs.Prelude.{ℕ, Bool, true, false, List, [], ◌∷◌, map, flat_map, Option, Some, None}
use Rattle.mm_grammar.specs.Grammar.{give, many, name, opt, seq}
use Rattle.mm_c.specs.declared.tree.CKind.{CKind}
use Rattle.mm_c.specs.declared.tree.CNumber.{CNumber}
use Rattle.mm_c.specs.declared.tree.CLocal.{CLocal}
use Rattle.mm_c.specs.declared.tree.CElement.{CElement}
use Rattle.mm_c.specs.declared.tree.CLinkage.{CLinkage}
use Rattle.mm_c.specs.declared.tree.CLinkage.TheVariants as linkage_is
use Rattle.mm_c.specs.Tree as t
use Rattle.mm_c.specs.Tree.{Block, Item}
use Rattle.mm_c.specs.Grammar.{P, Placed, around, as_, w, ident, number, listed, element, array_rule, head, item, block, result, result_at, function_of, is_there, ◌▸◌, ◌◂◌, ◌∣◌}

-- ---- arrays

-- the name of a type of functions, or `long`
abbrev pub array_type : P (Option (List ℕ))
array_type = as_ None (w 47) ∣ give (λ x. Some x) ident

-- a number in brackets
abbrev pub array_length : P CNumber
array_length = w 24 ▸ number ◂ w 25

-- elements in braces, behind a `=`
abbrev pub elements : P (List CElement)
elements = w 28 ▸ w 22 ▸ listed element ◂ (w 23 ◂ w 26)

-- ---- functions

-- a `;`, or a block
abbrev pub maybe_block : P (Option (Placed Block))
maybe_block = as_ None (w 26) ∣ give (λ b. Some b) (name (block 4096))

abbrev pub static_or_inline : Bool → CLinkage
static_or_inline false = linkage_is.Static
static_or_inline true = linkage_is.StaticInline

-- a proto, or a function with this block, without its own place
abbrev pub unplaced : Bool → Option CKind → List ℕ × List CLocal → Option (Placed Block) → Placed Item
unplaced i r h None = record { tree = t.proto (record { is_inline = i; result = r; name = h.0; params = h.1 }); places = [] }
unplaced i r h (Some b) = record { tree = function_of (static_or_inline i) r h b.tree; places = b.places }

-- what follows the head of a function behind `static`
abbrev pub after_head : Bool → Option CKind → List ℕ × List CLocal → P (Placed Item)
after_head i r h = give (λ b. unplaced i r h b) maybe_block

-- what follows `static`
abbrev pub static_end : P (Placed Item)
static_end =
    give (λ a. record { tree = a; places = [] }) (w 42 ▸ array_rule)
    ∣ give (λ v. unplaced (is_there v.0) v.1.0 v.1.1.0 v.1.1.1) (seq (opt (w 43)) (seq result (seq head maybe_block)))

-- a function without `static`
abbrev pub public_function : P (Placed Item)
public_function = give (λ v. around (function_of linkage_is.Public v.0.0 v.1.0 v.1.1.tree) v.0.1 v.1.1.places) (seq result_at (seq head (name (block 4096))))

-- ---- items

-- the classes of tokens that items begin with
abbrev pub item_firsts : List ℕ
item_firsts = 40 ∷ 41 ∷ 44 ∷ 45 ∷ 46 ∷ 47 ∷ 48 ∷ []

abbrev pub items_of : List (Placed Item) → Placed (List Item)
items_of xs = record { tree = map (λ (x : Placed Item). x.tree) xs; places = flat_map (λ (x : Placed Item). x.places) xs }

-- the items of a program
abbrev pub items : P (Placed (List Item))
items = give items_of (many (name item))

-- the classes of the tokens of the prelude
abbrev pub prelude_classes : List ℕ
prelude_classes =
    56 ∷ 44 ∷ 1 ∷ 20 ∷ 45 ∷ 21 ∷ 26
    ∷ 56 ∷ 45 ∷ 2 ∷ 20 ∷ 44 ∷ 21 ∷ 26
    ∷ 56 ∷ 45 ∷ 3 ∷ 20 ∷ 44 ∷ 21 ∷ 26
    ∷ 56 ∷ 44 ∷ 4 ∷ 20 ∷ 45 ∷ 21 ∷ 26
    ∷ 56 ∷ 48 ∷ 29 ∷ 5 ∷ 20 ∷ 46 ∷ 21 ∷ 26 ∷ []
