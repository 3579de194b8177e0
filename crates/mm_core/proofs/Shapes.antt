-- A larger program, computed: virtual bases, a list of objects, virtual and open calls, and ties by order.
use Rattle.std.proofs.Common.{◌≡◌, ℕ, List, [], ◌∷◌, refl}
use Rattle.std.specs.Prelude.{pos, true, codes}
use Rattle.mm_classes.specs.declared.class.Ty.TheVariants as ty
use Rattle.mm_classes.specs.Classes.{Class}
use Rattle.mm_core.specs.declared.part.Operator.TheVariants.{Add, Multiply, NotEqual}
use Rattle.mm_core.specs.Tree.{Expr, int, null, local, set_local, field, set_field, not_null, move, binary, call, virtual_call, open_call, new, Stmt, block, run, for_do, return, Function, Program}
use Rattle.mm_core.specs.Run.{Ended, source_run}
use Rattle.mm_core.proofs.Written.{args, stmts, put, named, main_of, method_of, plain, virt, to, to_shared, class, destructor, data_field, method}

-- class Shape { int id; virtual ~Shape() {} virtual int sides() { return 0; } }; class Circle : virtual Shape { int radius; };
-- class Square : virtual Shape { int edge; virtual int sides() { return 4; } }; class Rounded : Circle, Square {};
-- class Node { Shape* shape; Node* next; };
abbrev classes : List Class
classes =
    class (codes "Shape") [] (data_field (codes "id") ty.Int ∷ destructor (codes "Shape") ∷ method (codes "sides") [] ty.Int true ∷ []) ∷
    class (codes "Circle") (to_shared 0 ∷ []) (data_field (codes "radius") ty.Int ∷ []) ∷
    class (codes "Square") (to_shared 0 ∷ []) (data_field (codes "edge") ty.Int ∷ method (codes "sides") [] ty.Int true ∷ []) ∷
    class (codes "Rounded") (to 1 ∷ to 2 ∷ []) [] ∷
    class (codes "Node") [] (data_field (codes "shape") (ty.Ptr 0) ∷ data_field (codes "next") (ty.Ptr 4) ∷ []) ∷ []

abbrev intersect : ℕ → ℕ → Expr → Function
intersect c d e = named (codes "intersect") ty.Int (virt (ty.Ref c) ∷ virt (ty.Ref d) ∷ []) [] (return e ∷ [])

abbrev number : ℕ → Expr
number n = int (pos n)

abbrev shape_of : ℕ → Expr
shape_of x = not_null (field 0 (not_null (local x)))

abbrev push : Expr → Expr → Expr
push s list = call 6 (args (s ∷ list ∷ []))

-- for (Node* x = list; x != 0; x = x->next) { .. }
abbrev each : ℕ → List Stmt → Stmt
each x body = block (stmts (run (set_local x (local 3)) ∷ for_do (binary NotEqual (local x) (null 4)) (run (set_local x (field 1 (not_null (local x))))) (stmts body) ∷ []))

abbrev shapes : Program
shapes = record {
  classes = classes;
  functions =
      method_of (codes "Shape::sides") ty.Int [] (return (number 0) ∷ []) ∷
      method_of (codes "Square::sides") ty.Int [] (return (number 4) ∷ []) ∷
      intersect 0 0 (number 0) ∷
      intersect 1 1 (binary Add (field 0 (local 0)) (field 0 (local 1))) ∷
      intersect 2 2 (binary Multiply (field 0 (local 0)) (field 0 (local 1))) ∷
      intersect 1 2 (binary Add (binary Multiply (field 0 (local 0)) (number 100)) (field 0 (local 1))) ∷
      named (codes "push") (ty.Ptr 4) (plain (ty.Ptr 0) ∷ plain (ty.Ptr 4) ∷ []) (ty.Ptr 4 ∷ []) (
      run (set_local 2 (new 4)) ∷ run (set_field 0 (not_null (local 2)) (local 0)) ∷ run (set_field 1 (not_null (local 2)) (local 1)) ∷ return (local 2) ∷ []) ∷
      main_of (ty.Ptr 1 ∷ ty.Ptr 2 ∷ ty.Ptr 3 ∷ ty.Ptr 4 ∷ ty.Int ∷ ty.Ptr 4 ∷ ty.Ptr 4 ∷ []) (
      run (set_local 0 (new 1)) ∷ run (set_field 0 (not_null (local 0)) (number 2)) ∷
      run (set_local 1 (new 2)) ∷ run (set_field 0 (not_null (local 1)) (number 3)) ∷
      run (set_local 2 (new 3)) ∷ run (set_field 0 (move 3 1 (not_null (local 2))) (number 1)) ∷ run (set_field 0 (move 3 2 (not_null (local 2))) (number 5)) ∷
      run (set_local 3 (push (move 1 1 (local 0)) (push (move 2 1 (local 1)) (push (move 3 3 (local 2)) (null 4))))) ∷
      run (set_local 4 (number 0)) ∷
      each 5 (
      run (set_local 4 (binary Add (local 4) (virtual_call 2 (shape_of 5) (args [])))) ∷
      each 6 (put (open_call 2 (args (shape_of 5 ∷ shape_of 6 ∷ []))) ∷ []) ∷ []) ∷
      return (local 4) ∷ []) ∷ [];
}

runs : source_run shapes [] 40 ≡ record { finish = Ended (pos 8); put = pos 4 ∷ pos 203 ∷ pos 3 ∷ pos 0 ∷ pos 9 ∷ pos 15 ∷ pos 3 ∷ pos 103 ∷ pos 2 ∷ [] }
runs = refl
