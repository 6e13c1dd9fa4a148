-- Promise: the shape of each program of the language once its names are resolved, as the code that is made of it needs it.
use Rattle.std.specs.Prelude.{◌≡◌, ℕ, suc, ◌<◌, ◌≤◌, Bool, true, false, not, ◌&&◌, ◌||◌, ◌==◌, cond, List, [], ◌∷◌, ◌++◌, length, map, slice_get, Option, Some, None}
use Rattle.aegis_num.specs.declared.limits.TheConstants.{MAX_ARRAY_LENGTH, MAX_NESTING, MAX_PARAMETERS}
use Rattle.regions.specs.declared.rights.Class.{Class}
use Rattle.regions.specs.declared.rights.Class.TheVariants.{Private, Constant, Code}
use Rattle.c_semantics.specs.declared.tree.Variable.{Variable}
use Rattle.c_semantics.specs.ResolvedTree.{Expr, Scalar, Indexed, Called, Unary, Binary, Both, Either, Arguments, NoArguments, Argument, Stmt, Nothing, Then, Empty, Block, Local, Assign, Store, Call, Suspend, Release, Check, Return, Break, Continue, If, While, For, Function, Object, Program}

-- ---- what is declared

-- the tokens of the locals that a statement declares, in order
abbrev pub locals_of : Stmt → List ℕ
locals_of (Then first second) = locals_of first ++ locals_of second
locals_of (Block body) = locals_of body
locals_of (Local x value) = x.token ∷ []
locals_of (If test body other) = locals_of body ++ locals_of other
locals_of (While test body) = locals_of body
locals_of (For first test step body) = locals_of first ++ (locals_of step ++ locals_of body)
locals_of other = []

-- the tokens of the parameters and the locals of a function
abbrev pub own_tokens : Function → List ℕ
own_tokens f = map (λ x. x.token) f.parameters ++ locals_of f.body

abbrev pub own_tokens_of_all : List Function → List ℕ
own_tokens_of_all [] = []
own_tokens_of_all (f ∷ fs) = own_tokens f ++ own_tokens_of_all fs

-- the tokens of all declared variables: of objects, of parameters and of locals
abbrev pub declared_tokens : Program → List ℕ
declared_tokens p = map (λ o. o.variable.token) p.objects ++ own_tokens_of_all p.functions

-- the token is one of these
abbrev pub is_among : List ℕ → ℕ → Bool
is_among [] token = false
is_among (t ∷ ts) token = t == token || is_among ts token

-- no two tokens are one
abbrev pub are_distinct : List ℕ → Bool
are_distinct [] = true
are_distinct (t ∷ ts) = not (is_among ts t) && are_distinct ts

-- the object of this token
abbrev pub object_at : List Object → ℕ → Option Object
object_at [] token = None
object_at (o ∷ os) token = cond (o.variable.token == token) (Some o) (object_at os token)

-- ---- what may be named

-- what the code of a function may name: the objects; the functions before its own, in order; its parameters and locals, by their
-- tokens; and private objects, if it is private
pub record Around : Type 0 where
  pub objects : List Object
  pub before : List Function
  pub own : List ℕ
  pub private : Bool

-- a private object is named in private functions alone
abbrev pub IsAllowed : Bool → Class → Type 0
IsAllowed private Private = private ≡ true
IsAllowed private class = Unit {0}

-- A variable that is kept so, named with this length or without one, is the object of its token.
pub record IsObject (around : Around) (x : Variable) (class : Class) (length : Option ℕ) : Type 0 where
  pub first : List ℕ
  pub declared : object_at around.objects x.token ≡ Some (record { variable = x; length = length; first = first })
  pub allowed : IsAllowed around.private class

-- A variable without a class, which has no length, is a parameter or a local of the function.
abbrev pub IsOwn : Around → Variable → Option ℕ → Type 0
IsOwn around x None = is_among around.own x.token ≡ true
IsOwn around x (Some length) = ⊥

-- An occurrence of a variable, with this length or without one, agrees with its declaration.
abbrev pub Occurs : Around → Variable → Option ℕ → Type 0
Occurs around x length = by_class x.class
  where
    by_class : Option Class → Type 0
    by_class None = IsOwn around x length
    by_class (Some class) = IsObject around x class length

-- a constant is not assigned to
abbrev pub IsAssignable : Option Class → Type 0
IsAssignable (Some Constant) = ⊥
IsAssignable class = Unit {0}

abbrev pub argument_count : Arguments → ℕ
argument_count NoArguments = 0
argument_count (Argument value later) = suc (argument_count later)

-- A call goes to a function that stands before, and has as many arguments as that one has parameters.
pub record IsCallable (around : Around) (function : ℕ) (arguments : ℕ) : Type 0 where
  pub callee : Function
  pub stands : slice_get around.before function ≡ Some callee
  pub count : length callee.parameters ≡ arguments

-- Each name in an expression agrees with its declaration.
abbrev mutual
  pub ExprAgrees : Around → Expr → Type 0
  ExprAgrees around (Scalar x) = Occurs around x None
  ExprAgrees around (Indexed at array length index) = Occurs around array (Some length) × ExprAgrees around index
  ExprAgrees around (Called function arguments) = IsCallable around function (argument_count arguments) × ArgumentsAgree around arguments
  ExprAgrees around (Unary op inner) = ExprAgrees around inner
  ExprAgrees around (Binary at op left right) = ExprAgrees around left × ExprAgrees around right
  ExprAgrees around (Both left right) = ExprAgrees around left × ExprAgrees around right
  ExprAgrees around (Either left right) = ExprAgrees around left × ExprAgrees around right
  ExprAgrees around other = Unit {0}

  pub ArgumentsAgree : Around → Arguments → Type 0
  ArgumentsAgree around NoArguments = Unit {0}
  ArgumentsAgree around (Argument value later) = ExprAgrees around value × ArgumentsAgree around later

abbrev pub PartAgrees : Around → Option Expr → Type 0
PartAgrees around None = Unit {0}
PartAgrees around (Some e) = ExprAgrees around e

-- Each name in a statement agrees with its declaration.
abbrev pub Agrees : Around → Stmt → Type 0
Agrees around (Then first second) = Agrees around first × Agrees around second
Agrees around (Block body) = Agrees around body
Agrees around (Local x value) = (x.class ≡ None) × (is_among around.own x.token ≡ true) × PartAgrees around value
Agrees around (Assign x value) = IsAssignable x.class × Occurs around x None × ExprAgrees around value
Agrees around (Store at array length index value) =
    IsAssignable array.class × Occurs around array (Some length) × ExprAgrees around index × ExprAgrees around value
Agrees around (Call function arguments) = IsCallable around function (argument_count arguments) × ArgumentsAgree around arguments
Agrees around (Release value) = ExprAgrees around value
Agrees around (Return value) = PartAgrees around value
Agrees around (If test body other) = ExprAgrees around test × Agrees around body × Agrees around other
Agrees around (While test body) = ExprAgrees around test × Agrees around body
Agrees around (For first test step body) = Agrees around first × PartAgrees around test × Agrees around step × Agrees around body
Agrees around other = Unit {0}

-- ---- nesting

-- An operator of one operand, an index and the arguments of a call each open a level. So many levels are open around an
-- expression, and those in it are within the limit.
abbrev mutual
  pub ExprNests : ℕ → Expr → Type 0
  ExprNests l (Indexed at array length index) = (l < MAX_NESTING) × ExprNests (suc l) index
  ExprNests l (Called function arguments) = (l < MAX_NESTING) × ArgumentsNest (suc l) arguments
  ExprNests l (Unary op inner) = (l < MAX_NESTING) × ExprNests (suc l) inner
  ExprNests l (Binary at op left right) = ExprNests l left × ExprNests l right
  ExprNests l (Both left right) = ExprNests l left × ExprNests l right
  ExprNests l (Either left right) = ExprNests l left × ExprNests l right
  ExprNests l other = Unit {0}

  pub ArgumentsNest : ℕ → Arguments → Type 0
  ArgumentsNest l NoArguments = Unit {0}
  ArgumentsNest l (Argument value later) = ExprNests l value × ArgumentsNest l later

abbrev pub PartNests : ℕ → Option Expr → Type 0
PartNests l None = Unit {0}
PartNests l (Some e) = ExprNests l e

-- Each statement opens a level, and so does the index of an element that is assigned to. So many levels are open around a
-- statement, and those in it are within the limit: at most 64 statements, loops among them, stand inside one another.
abbrev pub Nests : ℕ → Stmt → Type 0
Nests l Nothing = Unit {0}
Nests l (Then first second) = Nests l first × Nests l second
Nests l (Block body) = (l < MAX_NESTING) × Nests (suc l) body
Nests l (Local x value) = (l < MAX_NESTING) × PartNests (suc l) value
Nests l (Assign x value) = (l < MAX_NESTING) × ExprNests (suc l) value
Nests l (Store at array length index value) = (suc l < MAX_NESTING) × ExprNests (suc (suc l)) index × ExprNests (suc l) value
Nests l (Call function arguments) = (suc l < MAX_NESTING) × ArgumentsNest (suc (suc l)) arguments
Nests l (Release value) = (l < MAX_NESTING) × ExprNests (suc l) value
Nests l (Return value) = (l < MAX_NESTING) × PartNests (suc l) value
Nests l (If test body other) = (l < MAX_NESTING) × ExprNests (suc l) test × Nests (suc l) body × Nests (suc l) other
Nests l (While test body) = (l < MAX_NESTING) × ExprNests (suc l) test × Nests (suc l) body
Nests l (For first test step body) = (l < MAX_NESTING) × Nests (suc l) first × PartNests (suc l) test × Nests (suc l) step × Nests (suc l) body
Nests l other = l < MAX_NESTING

-- ---- heads of loops, and jumps

-- a statement that holds no other one and ends no loop and no function
abbrev pub is_simple : Stmt → Bool
is_simple Nothing = true
is_simple Empty = true
is_simple (Local variable value) = true
is_simple (Assign variable value) = true
is_simple (Store at array length index value) = true
is_simple (Call function given) = true
is_simple Suspend = true
is_simple (Release value) = true
is_simple Check = true
is_simple other = false

-- The first part and the step of each `for` are simple: no loop stands in them.
abbrev pub HasSimpleHeads : Stmt → Type 0
HasSimpleHeads (Then first second) = HasSimpleHeads first × HasSimpleHeads second
HasSimpleHeads (Block body) = HasSimpleHeads body
HasSimpleHeads (If test body other) = HasSimpleHeads body × HasSimpleHeads other
HasSimpleHeads (While test body) = HasSimpleHeads body
HasSimpleHeads (For first test step body) = (is_simple first ≡ true) × (is_simple step ≡ true) × HasSimpleHeads body
HasSimpleHeads other = Unit {0}

-- Each `break` and each `continue` stands inside a loop, where the statement itself stands inside one or not.
abbrev pub JumpsInLoops : Bool → Stmt → Type 0
JumpsInLoops in_loop (Then first second) = JumpsInLoops in_loop first × JumpsInLoops in_loop second
JumpsInLoops in_loop (Block body) = JumpsInLoops in_loop body
JumpsInLoops in_loop Break = in_loop ≡ true
JumpsInLoops in_loop Continue = in_loop ≡ true
JumpsInLoops in_loop (If test body other) = JumpsInLoops in_loop body × JumpsInLoops in_loop other
JumpsInLoops in_loop (While test body) = JumpsInLoops true body
JumpsInLoops in_loop (For first test step body) = JumpsInLoops true body
JumpsInLoops in_loop other = Unit {0}

-- ---- objects and functions

-- an array has 1 to 65,536 elements
abbrev pub FitsLength : Option ℕ → Type 0
FitsLength None = Unit {0}
FitsLength (Some length) = (1 ≤ length) × (length ≤ MAX_ARRAY_LENGTH)

-- an object is kept as one of a program, never as code
abbrev pub IsKept : Option Class → Type 0
IsKept None = ⊥
IsKept (Some Code) = ⊥
IsKept (Some class) = Unit {0}

-- how many words an object has
abbrev pub word_count : Option ℕ → ℕ
word_count None = 1
word_count (Some length) = length

-- what is said of one object: its class, its length, and that it starts with no more words than it has
pub record IsObjectShaped (o : Object) : Type 0 where
  pub class : IsKept o.variable.class
  pub fits : FitsLength o.length
  pub words : length o.first ≤ word_count o.length

abbrev pub AreObjectsShaped : List Object → Type 0
AreObjectsShaped [] = Unit {0}
AreObjectsShaped (o ∷ os) = IsObjectShaped o × AreObjectsShaped os

-- parameters have no class
abbrev pub AreUnclassed : List Variable → Type 0
AreUnclassed [] = Unit {0}
AreUnclassed (x ∷ xs) = (x.class ≡ None) × AreUnclassed xs

-- what the code of a function may name
abbrev pub around_of : List Object → List Function → Function → Around
around_of objects before f = record { objects = objects; before = before; own = own_tokens f; private = f.private }

-- what is said of one function, where these objects are declared and these functions stand before it
pub record IsFunctionShaped (objects : List Object) (before : List Function) (f : Function) : Type 0 where
  pub parameters : length f.parameters ≤ MAX_PARAMETERS
  pub unclassed : AreUnclassed f.parameters
  pub names : Agrees (around_of objects before f) f.body
  pub nesting : Nests 0 f.body
  pub heads : HasSimpleHeads f.body
  pub jumps : JumpsInLoops false f.body

abbrev pub AreFunctionsShaped : List Object → List Function → List Function → Type 0
AreFunctionsShaped objects before [] = Unit {0}
AreFunctionsShaped objects before (f ∷ fs) = IsFunctionShaped objects before f × AreFunctionsShaped objects (before ++ f ∷ []) fs

-- the function that a run starts with: it takes nothing, and is not private
pub record HasMain (p : Program) : Type 0 where
  pub main : Function
  pub stands : slice_get p.functions p.main ≡ Some main
  pub parameters : main.parameters ≡ []
  pub public : main.private ≡ false

-- The shape of a program.
pub record IsShaped (p : Program) : Type 0 where
  pub objects : AreObjectsShaped p.objects
  pub functions : AreFunctionsShaped p.objects [] p.functions
  pub tokens : are_distinct (declared_tokens p) ≡ true
  pub main : HasMain p
