-- Small programs with classes, computed.
use Rattle.std.proofs.Common.{◌≡◌, ℕ, List, [], ◌∷◌, ◌++◌, refl}
use Rattle.std.specs.Prelude.{ℤ, pos, true, false, codes}
use Rattle.mm_classes.specs.declared.class.Ty.{Ty}
use Rattle.mm_classes.specs.declared.class.Ty.TheVariants as ty
use Rattle.mm_classes.specs.Classes.{Class}
use Rattle.mm_core.specs.declared.part.Operator.TheVariants.{Add, Equal}
use Rattle.mm_core.specs.declared.part.Target.TheVariants as target
use Rattle.mm_core.specs.Tree.{Expr, int, null, local, set_local, field, set_field, not_null, move, convert, binary, compound, virtual_call, open_call, Stmt, run, return, make, Function, Program}
use Rattle.mm_core.specs.Run.{Outcome, Ended, TrappedBy, source_run}
use Rattle.mm_core.proofs.Written.{args, put, named, main_of, method_of, virt, gives, to, to_shared, class, destructor, data_field, method}

abbrev pub zero : Expr
zero = int (pos 0)

abbrev ended : List ℤ → ℤ → Outcome
ended zs z = record { finish = Ended z; put = zs }

abbrev pub f : List ℕ
f = codes "f"

-- class A { virtual ~A() {} }; class B : A
abbrev pub a : List Class
a = class (codes "A") [] (destructor (codes "A") ∷ []) ∷ []

abbrev pub b : List Class
b = a ++ class (codes "B") (to 0 ∷ []) [] ∷ []

abbrev pub two : ℕ → ℕ → ℤ → Function
two c d z = gives f (virt (ty.Ref c) ∷ virt (ty.Ref d) ∷ []) z

-- B p; B q; A& x = p; A& y = q; mm_put(f(x, y)); return 0;
abbrev pub text_f : Program
text_f = record { classes = b; functions = two 0 0 (pos 1) ∷ two 1 0 (pos 2) ∷ two 0 1 (pos 3) ∷ main_of (ty.Ref 1 ∷ ty.Ref 1 ∷ ty.Ref 0 ∷ ty.Ref 0 ∷ []) (make 0 ∷ make 1 ∷ run (set_local 2 (move 1 1 (local 0))) ∷ run (set_local 3 (move 1 1 (local 1))) ∷ put (open_call 0 (args (local 2 ∷ local 3 ∷ []))) ∷ return zero ∷ []) ∷ [] }

-- a tie, which goes by order
ties : source_run text_f [] 10 ≡ ended (pos 3 ∷ []) (pos 0)
ties = refl

-- and with class R { int n; }; class S : R; R* f(A&, A&), S* f(B&, A&), R* f(A&, B&) each putting its number: the result decides
abbrev one_of : ℕ → ℕ → ℕ → ℤ → Function
one_of r c d z = named f (ty.Ptr r) (virt (ty.Ref c) ∷ virt (ty.Ref d) ∷ []) [] (put (int z) ∷ return (null r) ∷ [])

abbrev covariant : Program
covariant = record { classes = b ++ class (codes "R") [] (data_field (codes "n") ty.Int ∷ []) ∷ class (codes "S") (to 2 ∷ []) [] ∷ []; functions = one_of 2 0 0 (pos 1) ∷ one_of 3 1 0 (pos 2) ∷ one_of 2 0 1 (pos 3) ∷ main_of (ty.Ref 1 ∷ ty.Ref 0 ∷ []) (make 0 ∷ run (set_local 1 (move 1 1 (local 0))) ∷ run (open_call 0 (args (local 1 ∷ local 1 ∷ []))) ∷ return zero ∷ []) ∷ [] }

results_decide : source_run covariant [] 10 ≡ ended (pos 2 ∷ []) (pos 0)
results_decide = refl

-- class A { virtual ~A() {} }; class B : A; class C : A; class D : B, C { int k; }
abbrev g : List Class
g = b ++ class (codes "C") (to 0 ∷ []) [] ∷ class (codes "D") (to 1 ∷ to 2 ∷ []) (data_field (codes "k") ty.Int ∷ []) ∷ []

abbrev one : ℕ → ℤ → Function
one c z = gives f (virt (ty.Ref c) ∷ []) z

-- D d; B& b = d; C& c = d; A& x = b; A& y = c; .. mm_put(f(x)); mm_put(f(y)); return 0;
abbrev g_locals : List Ty
g_locals = ty.Ref 3 ∷ ty.Ref 1 ∷ ty.Ref 2 ∷ ty.Ref 0 ∷ ty.Ref 0 ∷ []

abbrev g_rest : List Stmt
g_rest = run (set_local 1 (move 3 1 (local 0))) ∷ run (set_local 2 (move 3 3 (local 0))) ∷ run (set_local 3 (move 1 1 (local 1))) ∷ run (set_local 4 (move 2 1 (local 2))) ∷ put (open_call 0 (args (local 3 ∷ []))) ∷ put (open_call 0 (args (local 4 ∷ []))) ∷ return zero ∷ []

-- one object, two subobjects
subobjects : source_run (record { classes = g; functions = one 0 (pos 1) ∷ one 1 (pos 2) ∷ main_of g_locals (make 0 ∷ g_rest) ∷ [] }) [] 10 ≡ ended (pos 2 ∷ pos 1 ∷ []) (pos 0)
subobjects = refl

-- and with int f(virtual D& d) { mm_put(d.k); return 3; } and d.k = 7;
whole : source_run (record { classes = g; functions = one 0 (pos 1) ∷ one 1 (pos 2) ∷ named f ty.Int (virt (ty.Ref 3) ∷ []) [] (put (field 0 (local 0)) ∷ return (int (pos 3)) ∷ []) ∷ main_of g_locals (make 0 ∷ run (set_field 0 (local 0) (int (pos 7))) ∷ g_rest) ∷ [] }) [] 10 ≡ ended (pos 7 ∷ pos 3 ∷ pos 7 ∷ pos 3 ∷ []) (pos 0)
whole = refl

-- class A { virtual ~A() {} }; class B : virtual A; class C : virtual A { int z; }; class D : B, C
abbrev diamond : List Class
diamond = a ++ class (codes "B") (to_shared 0 ∷ []) [] ∷ class (codes "C") (to_shared 0 ∷ []) (data_field (codes "z") ty.Int ∷ []) ∷ class (codes "D") (to 1 ∷ to 2 ∷ []) [] ∷ []

-- D d; d.z = 9; B& b = d; A& x = b; mm_put(f(x)); return 0; the parameter is in another branch
crosses : source_run (record { classes = diamond; functions = one 0 (pos 1) ∷ named f ty.Int (virt (ty.Ref 2) ∷ []) [] (put (field 0 (local 0)) ∷ return (int (pos 2)) ∷ []) ∷ main_of (ty.Ref 3 ∷ ty.Ref 1 ∷ ty.Ref 0 ∷ []) (make 0 ∷ run (set_field 0 (move 3 2 (local 0)) (int (pos 9))) ∷ run (set_local 1 (move 3 1 (local 0))) ∷ run (set_local 2 (move 1 1 (local 1))) ∷ put (open_call 0 (args (local 2 ∷ []))) ∷ return zero ∷ []) ∷ [] }) [] 10 ≡ ended (pos 9 ∷ pos 2 ∷ []) (pos 0)
crosses = refl

-- D d; B* b = &d; C* c = &d; A* x = b; A* y = c; mm_put(x == y); return 0; over the classes above
differ : source_run (record { classes = g; functions = main_of (ty.Ref 3 ∷ ty.Ptr 1 ∷ ty.Ptr 2 ∷ ty.Ptr 0 ∷ ty.Ptr 0 ∷ []) (make 0 ∷ run (set_local 1 (move 3 1 (local 0))) ∷ run (set_local 2 (move 3 3 (local 0))) ∷ run (set_local 3 (move 1 1 (local 1))) ∷ run (set_local 4 (move 2 1 (local 2))) ∷ put (convert target.Int (binary Equal (local 3) (local 4))) ∷ return zero ∷ []) ∷ [] }) [] 10 ≡ ended (pos 0 ∷ []) (pos 0)
differ = refl

-- int f(virtual A* a) { return 1; } int main() { mm_put(f(0)); return 0; }
nulls : source_run (record { classes = a; functions = gives f (virt (ty.Ptr 0) ∷ []) (pos 1) ∷ main_of [] (put (open_call 0 (args (null 0 ∷ []))) ∷ return zero ∷ []) ∷ [] }) [] 10 ≡ record { finish = TrappedBy 3; put = [] }
nulls = refl

-- class R { int n; }; class S : virtual R; R* g(virtual A& a) { return 0; } S* g(virtual B& b) { return 0; }
-- B p; A& x = p; R* r = g(x); mm_put(r == 0); return 0;
abbrev null_of : ℕ → ℕ → Function
null_of r c = named (codes "g") (ty.Ptr r) (virt (ty.Ref c) ∷ []) [] (return (null r) ∷ [])

null_result : source_run (record { classes = b ++ class (codes "R") [] (data_field (codes "n") ty.Int ∷ []) ∷ class (codes "S") (to_shared 2 ∷ []) [] ∷ []; functions = gives f (virt (ty.Ptr 0) ∷ []) (pos 1) ∷ null_of 2 0 ∷ null_of 3 1 ∷ main_of (ty.Ref 1 ∷ ty.Ref 0 ∷ ty.Ptr 2 ∷ []) (make 0 ∷ run (set_local 1 (move 1 1 (local 0))) ∷ run (set_local 2 (open_call 1 (args (local 1 ∷ [])))) ∷ put (convert target.Int (binary Equal (local 2) (null 2))) ∷ return zero ∷ []) ∷ [] }) [] 10 ≡ ended (pos 1 ∷ []) (pos 0)
null_result = refl

-- class A { int n; virtual A* me() { return this; } }; class B { int m; virtual int k() { return 1; } };
-- class C : B, A { virtual C* me() { return RESULT; } }; C c; A* a = &c; mm_put(a->me() == OTHER); return 0;
abbrev me_program : Expr → Expr → Program
me_program result other = record {
  classes = class (codes "A") [] (data_field (codes "n") ty.Int ∷ method (codes "me") [] (ty.Ptr 0) true ∷ []) ∷ class (codes "B") [] (data_field (codes "m") ty.Int ∷ method (codes "k") [] ty.Int true ∷ []) ∷ class (codes "C") (to 1 ∷ to 0 ∷ []) (method (codes "me") [] (ty.Ptr 2) true ∷ []) ∷ [];
  functions = method_of (codes "A::me") (ty.Ptr 0) [] (return (local 0) ∷ []) ∷ method_of (codes "B::k") ty.Int [] (return (int (pos 1)) ∷ []) ∷ method_of (codes "C::me") (ty.Ptr 2) [] (return result ∷ []) ∷ main_of (ty.Ref 2 ∷ ty.Ptr 0 ∷ []) (make 0 ∷ run (set_local 1 (move 2 2 (local 0))) ∷ put (convert target.Int (binary Equal (virtual_call 1 (not_null (local 1)) (args [])) other)) ∷ return zero ∷ []) ∷ [];
}

me_null : source_run (me_program (null 2) (null 0)) [] 10 ≡ ended (pos 1 ∷ []) (pos 0)
me_null = refl

-- and with `return this`, the result moved back is the pointer called on
me_this : source_run (me_program (local 0) (local 1)) [] 10 ≡ ended (pos 1 ∷ []) (pos 0)
me_this = refl

-- class V { int n; }; class A : virtual V; class B : A; B b; b.n = 4; A* a = &b; V* v = a; mm_put(v->n); a = 0; v = a;
-- mm_put(v == 0); return 0;
null_moves : source_run (record { classes = class (codes "V") [] (data_field (codes "n") ty.Int ∷ []) ∷ class (codes "A") (to_shared 0 ∷ []) [] ∷ class (codes "B") (to 1 ∷ []) [] ∷ []; functions = main_of (ty.Ref 2 ∷ ty.Ptr 1 ∷ ty.Ptr 0 ∷ []) (make 0 ∷ run (set_field 0 (move 2 2 (local 0)) (int (pos 4))) ∷ run (set_local 1 (move 2 1 (local 0))) ∷ run (set_local 2 (move 1 1 (local 1))) ∷ put (field 0 (not_null (local 2))) ∷ run (set_local 1 (null 1)) ∷ run (set_local 2 (move 1 1 (local 1))) ∷ put (convert target.Int (binary Equal (local 2) (null 0))) ∷ return zero ∷ []) ∷ [] }) [] 10 ≡ ended (pos 4 ∷ pos 1 ∷ []) (pos 0)
null_moves = refl

-- class A { virtual int f() { return 1; } }; class B : A { int n; int f() { return n; } };
-- B b; b.n = 9; A& a = b; mm_put(a.f()); return 0; `this` is the final overrider's subobject
this_moves : source_run (record { classes = class (codes "A") [] (method f [] ty.Int true ∷ []) ∷ class (codes "B") (to 0 ∷ []) (data_field (codes "n") ty.Int ∷ method f [] ty.Int false ∷ []) ∷ []; functions = method_of (codes "A::f") ty.Int [] (return (int (pos 1)) ∷ []) ∷ method_of (codes "B::f") ty.Int [] (return (field 0 (local 0)) ∷ []) ∷ main_of (ty.Ref 1 ∷ ty.Ref 0 ∷ []) (make 0 ∷ run (set_field 0 (local 0) (int (pos 9))) ∷ run (set_local 1 (move 1 1 (local 0))) ∷ put (virtual_call 0 (local 1) (args [])) ∷ return zero ∷ []) ∷ [] }) [] 10 ≡ ended (pos 9 ∷ []) (pos 0)
this_moves = refl

-- class A { int n; }; A a; a.n = 3; mm_put(a.n += (a.n = 10)); return 0; the old value is read before the right side runs
old_value_first : source_run (record { classes = class (codes "A") [] (data_field (codes "n") ty.Int ∷ []) ∷ []; functions = main_of (ty.Ref 0 ∷ []) (make 0 ∷ run (set_field 0 (local 0) (int (pos 3))) ∷ put (compound Add 0 (local 0) (set_field 0 (local 0) (int (pos 10)))) ∷ return zero ∷ []) ∷ [] }) [] 10 ≡ ended (pos 13 ∷ []) (pos 0)
old_value_first = refl

-- class A { int n; }; A a; and a move to a subobject that no class has, which no valid tree has
no_subobject : source_run (record { classes = class (codes "A") [] (data_field (codes "n") ty.Int ∷ []) ∷ []; functions = main_of (ty.Ref 0 ∷ []) (make 0 ∷ run (move 0 7 (local 0)) ∷ return zero ∷ []) ∷ [] }) [] 10 ≡ record { finish = TrappedBy 5; put = [] }
no_subobject = refl
