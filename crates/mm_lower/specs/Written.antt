-- Which trees are written, and what is written of functions and programs. (Own.)
use Rattle.std.specs.Prelude.{◌≡◌, ◌<◌, ◌^◌, ℕ, nat_eq, true, false, IsTrue, List, [], ◌++◌, length, map, Some, slice_get, if◌then◌else◌}
use Rattle.mm_core.specs.Tree.{Stmt, Function, Program}
use Rattle.mm_core.specs.Heads.{is_main, argument_types}
use Rattle.mm_core.specs.Run.{number_of_main}
use Rattle.mm_core.specs.ValidProgram.{around}
use Rattle.mm_c.specs.declared.tree.CKind.{CKind}
use Rattle.mm_c.specs.declared.tree.CLinkage.TheVariants.{Public, Static}
use Rattle.mm_c.specs.Tree as c
use Rattle.mm_c.specs.Tree.{Code, ◌⨾◌}
use Rattle.mm_simulate.specs.Lowered.{Defined, with_body, entry, others, is_defined, name_of, kind_of_result, locals_from, ending, reach_stmt, lowered_stmt, lowered_program, IsLoweredStmt}
use Rattle.mm_simulate.specs.Simulates.{IsScalar, DeclareTheirs, Named, KeepsAt}
use Rattle.mm_lower_trees.specs.Scopes.{no_layout}
use Rattle.mm_lower.specs.Needed.{needed}

-- The number of each temporary is one of 32 bits. (An expression has at most 1,000 tokens, and a
-- statement stands in at most 200 others.)
abbrev pub FewTemporaries : Program → Type 0
FewTemporaries p = (i : ℕ) (f : Function) (b : Stmt) → slice_get p.functions i ≡ Some f →
    f.body ≡ Some b → reach_stmt b < 2 ^ 32

-- The program is the tree's own, with the temporaries in each function that its code needs.
abbrev pub IsLoweredTo : Program → c.Program → Type 0
IsLoweredTo p q = (temps : ℕ → List (CKind × ℕ)) × (q ≡ lowered_program p no_layout temps) ×
    DeclareTheirs p no_layout temps

-- the body of this function can be written
abbrev pub IsWritable : Program → Function → Stmt → Type 0
IsWritable p f b = IsLoweredStmt (around is_defined p f) b × (reach_stmt b < 2 ^ 32)

abbrev pub AreWritable : Program → Type 0
AreWritable p = (i : ℕ) (f : Function) (b : Stmt) → slice_get p.functions i ≡ Some f →
    f.body ≡ Some b → IsWritable p f b

-- ---- what is written

abbrev pub code_of : Program → Function → Stmt → Code
code_of p f b = lowered_stmt (around is_defined p f) no_layout (name_of p) 0 b

abbrev pub block_of : Program → Function → Stmt → c.Block
block_of p f b = c.block
    (locals_from (length (argument_types p.classes f)) f.locals ++ needed (code_of p f b))
    (code_of p f b ⨾ ending f.result (is_main f))

abbrev pub function_of : Program → Defined → c.Function
function_of p d = record {
  linkage = if nat_eq d.number (number_of_main p.functions) then Public else Static;
  result = kind_of_result d.function.result;
  name = name_of p d.number;
  params = locals_from 0 (argument_types p.classes d.function);
  body = block_of p d.function d.body;
}

abbrev pub item_of : Program → Defined → c.Item
item_of p d = c.function (function_of p d)

-- a function among the others
abbrev pub other_at : Program → ℕ → Function → List Defined
other_at p n f = elim (nat_eq n (number_of_main p.functions)) [
  | true ↦ []
  | false ↦ with_body n f f.body []
]

abbrev pub head_of : Program → Defined → c.Item
head_of p d = c.proto (record {
  is_inline = false;
  result = kind_of_result d.function.result;
  name = name_of p d.number;
  params = locals_from 0 (argument_types p.classes d.function);
})

abbrev pub written : Program → c.Program
written p = record {
  items = map (head_of p) (others p) ++ (map (item_of p) (entry p) ++
      map (item_of p) (others p));
}

-- In any C program whose functions stand for those of the program, this one does at a clock what the
-- function does, if all of them do so at every clock below it.
abbrev pub KeepsAtAll : Program → Defined → c.Function → Type 0
KeepsAtAll p d F = (q : c.Program) (named : Named p is_defined (name_of p) q) (n : ℕ) → IsScalar p →
    slice_get p.functions d.number ≡ Some d.function → d.function.body ≡ Some d.body →
    ((k j : ℕ) (h : Function) → k < n → slice_get p.functions j ≡ Some h → IsTrue h.defined →
    KeepsAt p no_layout q k j h (named.function j)) →
    KeepsAt p no_layout q n d.number d.function F
