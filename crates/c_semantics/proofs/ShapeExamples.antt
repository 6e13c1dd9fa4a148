-- Each word on the shape of resolved programs and on their nodes, where it holds and where it does not.
use Rattle.std.proofs.Common.{◌≡◌, ap, ℕ, true, false, List, [], ◌∷◌, length, map, Option, Some, None, arith, refl}
use Rattle.aegis_num.specs.declared.operators.BinaryOp.TheVariants as op
use Rattle.aegis_num.specs.declared.operators.UnaryOp.TheVariants as unary
use Rattle.regions.specs.declared.rights.Class.{Class}
use Rattle.regions.specs.declared.rights.Class.TheVariants as class
use Rattle.c_semantics.specs.declared.tree.Variable.{Variable}
use Rattle.c_semantics.specs.ResolvedTree.{Expr, Number, Scalar, Indexed, Called, Input, Unary, Binary, Both, Either, NoArguments, Argument, Stmt, Nothing, Then, Empty, Block, Local, Assign, Store, Call, Suspend, Release, Check, Return, Break, Continue, If, While, For, Function, Object, Program}
use Rattle.c_semantics.specs.Nodes.{expr_nodes, stmt_nodes, nodes}
use Rattle.c_semantics.specs.ProgramShape.{Agrees, AreFunctionsShaped, AreObjectsShaped, AreUnclassed, Around, ExprAgrees, ExprNests, FitsLength, HasMain, HasSimpleHeads, IsCallable, IsFunctionShaped, IsKept, IsObjectShaped, JumpsInLoops, Nests, Occurs, are_distinct, argument_count, around_of, declared_tokens, is_among, is_simple, locals_of, object_at, word_count}

abbrev one : Expr
one = Number 1

abbrev x : Variable
x = record { token = 5; class = None }

abbrev simple_ones : List Stmt
simple_ones = Nothing ∷ Empty ∷ Local x None ∷ Assign x one ∷ Store 3 x 2 one one ∷ Call 0 NoArguments
    ∷ Suspend ∷ Release one ∷ Check ∷ []

abbrev other_ones : List Stmt
other_ones = Then Empty Empty ∷ Block Empty ∷ Return None ∷ Break ∷ Continue ∷ If one Empty Nothing
    ∷ While one Empty ∷ For Nothing None Nothing Empty ∷ []

simple_forms : map is_simple simple_ones ≡ true ∷ true ∷ true ∷ true ∷ true ∷ true ∷ true ∷ true ∷ true ∷ []
simple_forms = refl

other_forms : map is_simple other_ones ≡ false ∷ false ∷ false ∷ false ∷ false ∷ false ∷ false ∷ false ∷ []
other_forms = refl

-- ---- heads of a `for`

abbrev loop : Stmt
loop = While one Empty

abbrev in_first : Stmt
in_first = For loop None Nothing Empty

plain_head : HasSimpleHeads (For (Local x None) (Some one) (Assign x one) loop)
plain_head = (refl, refl, tt)

first_refused : HasSimpleHeads in_first → ⊥
first_refused h = let e = h.0 in absurd (cc)

step_refused : HasSimpleHeads (For Nothing None loop Empty) → ⊥
step_refused h = let e = h.1 in absurd (cc)

refused_inside : (HasSimpleHeads (Then in_first Empty) → ⊥) × (HasSimpleHeads (Then Empty in_first) → ⊥)
    × (HasSimpleHeads (Block in_first) → ⊥) × (HasSimpleHeads (If one in_first Nothing) → ⊥) × (HasSimpleHeads (If one Empty in_first) → ⊥)
    × (HasSimpleHeads (While one in_first) → ⊥) × (HasSimpleHeads (For Nothing None Nothing in_first) → ⊥)
refused_inside = (λ h. first_refused h.0, λ h. first_refused h.1, first_refused, λ h. first_refused h.0, λ h. first_refused h.1, first_refused, λ h. first_refused h.2)

-- ---- jumps

jumps_in_loops : JumpsInLoops false (Then (While one (Block Break)) (For Nothing None Nothing (If one Continue Break)))
jumps_in_loops = (refl, (refl, refl))

break_refused : JumpsInLoops false Break → ⊥
break_refused e = absurd (cc)

continue_refused : JumpsInLoops false Continue → ⊥
continue_refused e = absurd (cc)

jumps_refused_inside : (JumpsInLoops false (Then Break Empty) → ⊥) × (JumpsInLoops false (Then Empty Break) → ⊥)
    × (JumpsInLoops false (Block Break) → ⊥) × (JumpsInLoops false (If one Break Nothing) → ⊥) × (JumpsInLoops false (If one Empty Break) → ⊥)
jumps_refused_inside = (λ h. break_refused h.0, λ h. break_refused h.1, break_refused, λ h. break_refused h.0, λ h. break_refused h.1)

-- ---- what is declared

abbrev local : ℕ → Variable
local token = record { token = token; class = None }

abbrev global : ℕ → Class → Variable
global token class' = record { token = token; class = Some class' }

-- a local in each place where one may stand
declared_locals : locals_of (Then (Local (local 1) None) (Then (Block (Local (local 2) None)) (Then (If one (Local (local 3) None) (Local (local 4) None))
    (Then (While one (Local (local 5) None)) (For (Local (local 6) None) None (Local (local 7) None) (Local (local 8) None)))))) ≡ 1 ∷ 2 ∷ 3 ∷ 4 ∷ 5 ∷ 6 ∷ 7 ∷ 8 ∷ []
declared_locals = refl

other_forms_declare_nothing : map locals_of (Nothing ∷ Empty ∷ Assign (local 1) one ∷ Store 3 (local 1) 2 one one ∷ Call 0 NoArguments ∷ Suspend ∷ Release one ∷ Check ∷ Return None ∷ Break ∷ Continue ∷ [])
    ≡ [] ∷ [] ∷ [] ∷ [] ∷ [] ∷ [] ∷ [] ∷ [] ∷ [] ∷ [] ∷ [] ∷ []
other_forms_declare_nothing = refl

-- a private array, a constant, a shared scalar; a function of one parameter, and a private one without
abbrev objects : List Object
objects = record { variable = global 1 class.Private; length = Some 3; first = [] } ∷ record { variable = global 4 class.Constant; length = None; first = 7 ∷ [] }
    ∷ record { variable = global 9 class.Open; length = None; first = [] } ∷ []

abbrev twice : Function
twice = record { private = false; parameters = local 13 ∷ []; body = Then (Local (local 17) (Some (Scalar (local 13)))) (Then (Return (Some (Binary 20 op.Add (Scalar (local 17)) (Scalar (local 13))))) Nothing) }

abbrev main : Function
main = record {
  private = false;
  parameters = [];
  body = Then (Assign (global 9 class.Open) (Called 0 (Argument (Scalar (global 4 class.Constant)) NoArguments))) (Then (Call 0 (Argument one NoArguments)) Nothing);
}

abbrev program : Program
program = record { objects = objects; functions = twice ∷ main ∷ []; main = 1 }

declared : declared_tokens program ≡ 1 ∷ 4 ∷ 9 ∷ 13 ∷ 17 ∷ []
declared = refl

distinct_ones : are_distinct (declared_tokens program) ≡ true
distinct_ones = refl

-- one token for two objects, for an object and a parameter, for a parameter and a local, and for locals of two functions
doubled : map are_distinct ((1 ∷ 1 ∷ []) ∷ (1 ∷ 2 ∷ 1 ∷ []) ∷ (3 ∷ 2 ∷ 2 ∷ []) ∷ (1 ∷ 2 ∷ 3 ∷ 4 ∷ 2 ∷ []) ∷ (1 ∷ 2 ∷ 3 ∷ []) ∷ []) ≡ false ∷ false ∷ false ∷ false ∷ true ∷ []
doubled = refl

local_doubled : are_distinct (declared_tokens (record { objects = []; functions = twice ∷ twice ∷ []; main = 1 })) ≡ false
local_doubled = refl

among : map (is_among (3 ∷ 5 ∷ [])) (3 ∷ 5 ∷ 4 ∷ []) ≡ true ∷ true ∷ false ∷ []
among = refl

found : object_at objects 4 ≡ Some (record { variable = global 4 class.Constant; length = None; first = 7 ∷ [] })
found = refl

not_found : object_at objects 5 ≡ None
not_found = refl

-- ---- occurrences

abbrev in_public : Around
in_public = around_of objects (twice ∷ []) main

abbrev in_private : Around
in_private = record { objects = objects; before = []; own = 13 ∷ 17 ∷ []; private = true }

private_named : Occurs in_private (global 1 class.Private) (Some 3)
private_named = record { first = []; declared = refl; allowed = refl }

private_refused : Occurs in_public (global 1 class.Private) (Some 3) → ⊥
private_refused h = let e = h.allowed in absurd (cc)

abbrev class_in : Option Object → Option Class
class_in None = None
class_in (Some o) = o.variable.class

abbrev length_in : Option Object → Option ℕ
length_in None = None
length_in (Some o) = o.length

other_class_refused : Occurs in_private (global 1 class.Verified) (Some 3) → ⊥
other_class_refused h = let e = ap class_in h.declared in absurd (cc)

same-length : {m n : ℕ} → Some m ≡ Some n → m ≡ n
same-length e = cc

other_length_refused : Occurs in_private (global 1 class.Private) (Some 4) → ⊥
other_length_refused h = let e = ap length_in h.declared in absurd (omega (arith, same-length e))

no_length_refused : Occurs in_private (global 1 class.Private) None → ⊥
no_length_refused h = let e = ap length_in h.declared in absurd (cc)

undeclared_refused : Occurs in_private (global 2 class.Private) None → ⊥
undeclared_refused h = let e = h.declared in absurd (cc)

own_named : Occurs in_private (local 17) None
own_named = refl

-- a local of another function, an object without its class, and a local with a length
other_local_refused : Occurs in_public (local 17) None → ⊥
other_local_refused e = absurd (cc)

unclassed_refused : Occurs in_public (local 9) None → ⊥
unclassed_refused e = absurd (cc)

long_local_refused : Occurs in_private (local 17) (Some 3) → ⊥
long_local_refused e = e

-- ---- calls

callable : IsCallable in_public 0 1
callable = record { callee = twice; stands = refl; count = refl }

itself_refused : IsCallable in_public 1 0 → ⊥
itself_refused h = let e = h.stands in absurd (cc)

other_count_refused : IsCallable in_public 0 2 → ⊥
other_count_refused h =
    let e : Some twice ≡ Some h.callee = h.stands in
    let d : length h.callee.parameters ≡ 1 = cc in
    absurd (omega (arith, d, h.count))

counts : map argument_count (NoArguments ∷ Argument one NoArguments ∷ Argument one (Argument one NoArguments) ∷ []) ≡ 0 ∷ 1 ∷ 2 ∷ []
counts = refl

-- ---- in each place of an expression and of a statement

abbrev wrong : Expr
wrong = Scalar (local 99)

wrong_refused : ExprAgrees in_public wrong → ⊥
wrong_refused e = absurd (cc)

inside_expressions : (ExprAgrees in_private (Indexed 3 (global 1 class.Private) 3 (Scalar (local 99))) → ⊥) × (ExprAgrees in_public (Called 0 (Argument wrong NoArguments)) → ⊥)
    × (ExprAgrees in_public (Called 0 (Argument one (Argument wrong NoArguments))) → ⊥) × (ExprAgrees in_public (Unary unary.Neg wrong) → ⊥)
    × (ExprAgrees in_public (Binary 3 op.Add wrong one) → ⊥) × (ExprAgrees in_public (Binary 3 op.Add one wrong) → ⊥)
    × (ExprAgrees in_public (Both wrong one) → ⊥) × (ExprAgrees in_public (Both one wrong) → ⊥) × (ExprAgrees in_public (Either wrong one) → ⊥) × (ExprAgrees in_public (Either one wrong) → ⊥)
inside_expressions = (
  λ h. let e = h.1 in absurd (cc),
  λ h. wrong_refused h.1.0,
  λ h. wrong_refused h.1.1.0,
  wrong_refused,
  λ h. wrong_refused h.0,
  λ h. wrong_refused h.1,
  λ h. wrong_refused h.0,
  λ h. wrong_refused h.1,
  λ h. wrong_refused h.0,
  λ h. wrong_refused h.1,
)

indexed_array_refused : ExprAgrees in_public (Indexed 3 (global 1 class.Private) 3 one) → ⊥
indexed_array_refused h = private_refused h.0

later_call_refused : ExprAgrees in_public (Called 1 NoArguments) → ⊥
later_call_refused h = itself_refused h.0

inside_simple : (Agrees in_public (Local (local 17) None) → ⊥) × (Agrees in_private (Local (local 17) (Some (Scalar (local 99)))) → ⊥) × (Agrees in_private (Local (global 17 class.Open) None) → ⊥)
    × (Agrees in_public (Assign (local 17) one) → ⊥) × (Agrees in_public (Assign (global 9 class.Open) wrong) → ⊥) × (Agrees in_public (Assign (global 4 class.Constant) one) → ⊥)
    × (Agrees in_public (Call 1 NoArguments) → ⊥) × (Agrees in_public (Call 0 (Argument wrong NoArguments)) → ⊥) × (Agrees in_public (Release wrong) → ⊥) × (Agrees in_public (Return (Some wrong)) → ⊥)
inside_simple = (
  λ h. let e = h.1 in absurd (cc),
  λ h. let e = h.2 in absurd (cc),
  λ h. let e = h.0 in absurd (cc),
  λ h. let e = h.1 in absurd (cc),
  λ h. wrong_refused h.2,
  λ h. h.0,
  λ h. itself_refused h.0,
  λ h. wrong_refused h.1.0,
  wrong_refused,
  wrong_refused,
)

inside_stores : (Agrees in_public (Store 3 (global 1 class.Private) 3 one one) → ⊥) × (Agrees in_private (Store 3 (global 1 class.Private) 3 (Scalar (local 99)) one) → ⊥)
    × (Agrees in_private (Store 3 (global 1 class.Private) 3 one (Scalar (local 99))) → ⊥) × (Agrees in_private (Store 3 (global 4 class.Constant) 3 one one) → ⊥)
inside_stores = (λ h. private_refused h.1, λ h. let e = h.2 in absurd (cc), λ h. let e = h.3 in absurd (cc), λ h. h.0)

abbrev wrong_statement : Stmt
wrong_statement = Release wrong

inside_others : (Agrees in_public (Then wrong_statement Empty) → ⊥) × (Agrees in_public (Then Empty wrong_statement) → ⊥) × (Agrees in_public (Block wrong_statement) → ⊥)
    × (Agrees in_public (If wrong Empty Nothing) → ⊥) × (Agrees in_public (If one wrong_statement Nothing) → ⊥) × (Agrees in_public (If one Empty wrong_statement) → ⊥)
    × (Agrees in_public (While wrong Empty) → ⊥) × (Agrees in_public (While one wrong_statement) → ⊥)
    × (Agrees in_public (For wrong_statement None Nothing Empty) → ⊥) × (Agrees in_public (For Nothing (Some wrong) Nothing Empty) → ⊥)
    × (Agrees in_public (For Nothing None wrong_statement Empty) → ⊥) × (Agrees in_public (For Nothing None Nothing wrong_statement) → ⊥)
inside_others = (
  λ h. wrong_refused h.0,
  λ h. wrong_refused h.1,
  wrong_refused,
  λ h. wrong_refused h.0,
  λ h. wrong_refused h.1,
  λ h. wrong_refused h.2,
  λ h. wrong_refused h.0,
  λ h. wrong_refused h.1,
  λ h. wrong_refused h.0,
  λ h. wrong_refused h.1,
  λ h. wrong_refused h.2,
  λ h. wrong_refused h.3,
)

-- ---- nesting

-- the 64th level is within the limit, the 65th is not; an operator of two operands opens none
last_levels : ExprNests 63 (Binary 3 op.Add (Unary unary.Neg one) (Unary unary.Neg one)) × Nests 63 Empty × Nests 62 (Block Empty) × Nests 62 (Store 3 (local 1) 2 one one) × Nests 64 Nothing
last_levels = (((omega arith, tt), (omega arith, tt)), omega arith, (omega arith, omega arith), (omega arith, tt, tt), tt)

deep_expressions : (ExprNests 64 (Unary unary.Neg one) → ⊥) × (ExprNests 64 (Indexed 3 (local 1) 2 one) → ⊥) × (ExprNests 64 (Called 0 NoArguments) → ⊥) × (ExprNests 63 (Unary unary.Neg (Unary unary.Neg one)) → ⊥)
    × (ExprNests 63 (Indexed 3 (local 1) 2 (Called 0 NoArguments)) → ⊥) × (ExprNests 63 (Called 0 (Argument one (Argument (Called 0 NoArguments) NoArguments))) → ⊥)
    × (ExprNests 64 (Binary 3 op.Add (Unary unary.Neg one) one) → ⊥) × (ExprNests 64 (Binary 3 op.Add one (Unary unary.Neg one)) → ⊥)
    × (ExprNests 64 (Both (Unary unary.Neg one) one) → ⊥) × (ExprNests 64 (Both one (Unary unary.Neg one)) → ⊥) × (ExprNests 64 (Either (Unary unary.Neg one) one) → ⊥) × (ExprNests 64 (Either one (Unary unary.Neg one)) → ⊥)
deep_expressions = (
  λ h. absurd (omega (arith, h.0)),
  λ h. absurd (omega (arith, h.0)),
  λ h. absurd (omega (arith, h.0)),
  λ h. absurd (omega (arith, h.1.0)),
  λ h. absurd (omega (arith, h.1.0)),
  λ h. absurd (omega (arith, h.1.1.0.0)),
  λ h. absurd (omega (arith, h.0.0)),
  λ h. absurd (omega (arith, h.1.0)),
  λ h. absurd (omega (arith, h.0.0)),
  λ h. absurd (omega (arith, h.1.0)),
  λ h. absurd (omega (arith, h.0.0)),
  λ h. absurd (omega (arith, h.1.0)),
)

abbrev deep : Expr
deep = Unary unary.Neg one

deep_simple : (Nests 64 Empty → ⊥) × (Nests 64 Check → ⊥) × (Nests 64 Suspend → ⊥) × (Nests 64 Break → ⊥) × (Nests 64 Continue → ⊥) × (Nests 64 (Return None) → ⊥) × (Nests 63 (Return (Some deep)) → ⊥)
    × (Nests 64 (Local (local 1) None) → ⊥) × (Nests 63 (Local (local 1) (Some deep)) → ⊥) × (Nests 64 (Assign (local 1) one) → ⊥) × (Nests 63 (Assign (local 1) deep) → ⊥) × (Nests 63 (Release deep) → ⊥)
deep_simple = (
  λ h. absurd (omega (arith, h)),
  λ h. absurd (omega (arith, h)),
  λ h. absurd (omega (arith, h)),
  λ h. absurd (omega (arith, h)),
  λ h. absurd (omega (arith, h)),
  λ h. absurd (omega (arith, h.0)),
  λ h. absurd (omega (arith, h.1.0)),
  λ h. absurd (omega (arith, h.0)),
  λ h. absurd (omega (arith, h.1.0)),
  λ h. absurd (omega (arith, h.0)),
  λ h. absurd (omega (arith, h.1.0)),
  λ h. absurd (omega (arith, h.1.0)),
)

deep_stores : (Nests 63 (Store 3 (local 1) 2 one one) → ⊥) × (Nests 62 (Store 3 (local 1) 2 deep one) → ⊥) × (Nests 63 (Call 0 NoArguments) → ⊥) × (Nests 62 (Call 0 (Argument deep NoArguments)) → ⊥)
deep_stores = (λ h. absurd (omega (arith, h.0)), λ h. absurd (omega (arith, h.1.0)), λ h. absurd (omega (arith, h.0)), λ h. absurd (omega (arith, h.1.0.0)))

deep_others : (Nests 63 (Block Empty) → ⊥) × (Nests 64 (Then Empty Nothing) → ⊥) × (Nests 64 (Then Nothing Empty) → ⊥) × (Nests 63 (If deep Nothing Nothing) → ⊥) × (Nests 63 (If one Empty Nothing) → ⊥) × (Nests 63 (If one Nothing Empty) → ⊥)
    × (Nests 63 (While one Empty) → ⊥) × (Nests 63 (While deep Nothing) → ⊥) × (Nests 64 (For Nothing None Nothing Nothing) → ⊥) × (Nests 63 (For Empty None Nothing Nothing) → ⊥) × (Nests 63 (For Nothing (Some deep) Nothing Nothing) → ⊥)
    × (Nests 63 (For Nothing None Empty Nothing) → ⊥) × (Nests 63 (For Nothing None Nothing Empty) → ⊥)
deep_others = (
  λ h. absurd (omega (arith, h.1)),
  λ h. absurd (omega (arith, h.0)),
  λ h. absurd (omega (arith, h.1)),
  λ h. absurd (omega (arith, h.1.0)),
  λ h. absurd (omega (arith, h.2)),
  λ h. absurd (omega (arith, h.3)),
  λ h. absurd (omega (arith, h.2)),
  λ h. absurd (omega (arith, h.1.0)),
  λ h. absurd (omega (arith, h.0)),
  λ h. absurd (omega (arith, h.1)),
  λ h. absurd (omega (arith, h.2.0)),
  λ h. absurd (omega (arith, h.3)),
  λ h. absurd (omega (arith, h.4)),
)

-- ---- objects and functions

fitting : FitsLength None × FitsLength (Some 1) × FitsLength (Some 65536)
fitting = (tt, (omega arith, omega arith), (omega arith, omega arith))

no_elements_refused : FitsLength (Some 0) → ⊥
no_elements_refused h = absurd (omega (arith, h.0))

too_long_refused : FitsLength (Some 65537) → ⊥
too_long_refused h = absurd (omega (arith, h.1))

words : map word_count (None ∷ Some 5 ∷ []) ≡ 1 ∷ 5 ∷ []
words = refl

shaped_objects : AreObjectsShaped objects
shaped_objects = (record { class = tt; fits = (omega arith, omega arith); words = omega arith }, (record { class = tt; fits = tt; words = omega arith }, (record { class = tt; fits = tt; words = omega arith }, tt)))

too_many_words_refused : IsObjectShaped (record { variable = global 1 class.Constant; length = Some 2; first = 1 ∷ 2 ∷ 3 ∷ [] }) → ⊥
too_many_words_refused h = absurd (omega (arith, h.words))

unkept_refused : (IsKept None → ⊥) × (IsKept (Some class.Code) → ⊥) × IsKept (Some class.Open) × IsKept (Some class.Verified) × IsKept (Some class.Private) × IsKept (Some class.Constant) × IsKept (Some class.Logged)
unkept_refused = (λ h. h, λ h. h, tt, tt, tt, tt, tt)

unclassed : AreUnclassed (local 1 ∷ local 2 ∷ [])
unclassed = (refl, (refl, tt))

classed_refused : AreUnclassed (local 1 ∷ global 2 class.Open ∷ []) → ⊥
classed_refused h = let e = h.1.0 in absurd (cc)

shaped_functions : AreFunctionsShaped objects [] (twice ∷ main ∷ [])
shaped_functions = (
  record {
    parameters = omega arith;
    unclassed = (refl, tt);
    names = ((refl, refl, refl), ((refl, refl), tt));
    nesting = ((omega arith, tt), ((omega arith, (tt, tt)), tt));
    heads = (tt, (tt, tt));
    jumps = (tt, (tt, tt));
  },
  (
    record {
      parameters = omega arith;
      unclassed = tt;
      names = (
        (tt, record { first = []; declared = refl; allowed = tt }, (callable, (record { first = 7 ∷ []; declared = refl; allowed = tt }, tt))),
        ((callable, (tt, tt)), tt),
      );
      nesting = ((omega arith, (omega arith, (tt, tt))), ((omega arith, (tt, tt)), tt));
      heads = (tt, (tt, tt));
      jumps = (tt, (tt, tt));
    },
    tt,
  ),
)

-- the third one calls the first and the second, by their numbers
abbrev last : Function
last = record { private = false; parameters = []; body = Then (Call 0 (Argument one NoArguments)) (Then (Call 1 NoArguments) Nothing) }

numbered : AreFunctionsShaped objects (twice ∷ []) (main ∷ last ∷ [])
numbered = (
  shaped_functions.1.0,
  (
    record {
      parameters = omega arith;
      unclassed = tt;
      names = ((record { callee = twice; stands = refl; count = refl }, (tt, tt)), ((record { callee = main; stands = refl; count = refl }, tt), tt));
      nesting = ((omega arith, (tt, tt)), ((omega arith, tt), tt));
      heads = (tt, (tt, tt));
      jumps = (tt, (tt, tt));
    },
    tt,
  ),
)

-- the first function may not call the second
order_refused : AreFunctionsShaped objects [] (main ∷ twice ∷ []) → ⊥
order_refused h = let e = h.0.names.0.2.0.stands in absurd (cc)

seven_parameters : IsFunctionShaped [] [] (record { private = false; parameters = local 1 ∷ local 2 ∷ local 3 ∷ local 4 ∷ local 5 ∷ local 6 ∷ local 7 ∷ []; body = Nothing }) → ⊥
seven_parameters h = absurd (omega (arith, h.parameters))

starts : HasMain program
starts = record { main = main; stands = refl; parameters = refl; public = refl }

abbrev starting_with : Function → Program
starting_with f = record { objects = []; functions = f ∷ []; main = 0 }

private_start_refused : HasMain (starting_with (record { private = true; parameters = []; body = Nothing })) → ⊥
private_start_refused h = let e = h.stands in let d = h.public in absurd (cc)

start_with_parameters_refused : HasMain (starting_with twice) → ⊥
start_with_parameters_refused h = let e = h.stands in let d = h.parameters in absurd (cc)

no_start_refused : HasMain (record { objects = []; functions = twice ∷ []; main = 1 }) → ⊥
no_start_refused h = let e = h.stands in absurd (cc)

-- ---- nodes

expression_nodes : map expr_nodes (one ∷ Scalar (local 1) ∷ Indexed 3 (local 1) 2 one ∷ Called 0 (Argument one (Argument one NoArguments)) ∷ Input ∷ Unary unary.Neg one
    ∷ Binary 3 op.Add one (Unary unary.Neg one) ∷ Both one (Unary unary.Neg one) ∷ Either one (Unary unary.Neg one) ∷ []) ≡ 1 ∷ 1 ∷ 2 ∷ 3 ∷ 1 ∷ 2 ∷ 4 ∷ 4 ∷ 4 ∷ []
expression_nodes = refl

statement_nodes : map stmt_nodes (Nothing ∷ Then Empty Check ∷ Empty ∷ Block Empty ∷ Local (local 1) None ∷ Local (local 1) (Some one) ∷ Assign (local 1) one ∷ Store 3 (local 1) 2 one deep ∷ Call 0 (Argument one (Argument deep NoArguments))
    ∷ Suspend ∷ Release one ∷ Check ∷ Return None ∷ Return (Some one) ∷ Break ∷ Continue ∷ If one Empty Nothing ∷ If one Empty (Block Empty) ∷ While deep Empty ∷ For Nothing None Nothing Nothing ∷ For Empty (Some deep) Check (Block Empty) ∷ [])
    ≡ 0 ∷ 2 ∷ 1 ∷ 2 ∷ 1 ∷ 2 ∷ 2 ∷ 4 ∷ 4 ∷ 1 ∷ 2 ∷ 1 ∷ 1 ∷ 2 ∷ 1 ∷ 1 ∷ 3 ∷ 5 ∷ 4 ∷ 1 ∷ 7 ∷ []
statement_nodes = refl

-- two functions, a parameter, and 2 + 4, 3 + 2 nodes in their bodies
program_nodes : nodes program ≡ 14
program_nodes = refl
