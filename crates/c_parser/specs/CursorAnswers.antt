-- Device: what a function over the tokens that are left answers, against the parser on lists.
use Rattle.std.specs.Prelude.{◌≡◌, ◌<◌, ◌≤◌, List, length, Result, Ok, Err}
use Rattle.c_parser.specs.declared.fault.Fault.{Fault}
use Rattle.c_parser.specs.declared.fault.Fault.TheVariants.{Expected, Deep, OutOfMemory}
use Rattle.c_grammar.specs.BoundedTokens.{Tok}
use Rattle.c_descent.proofs.ListParser.{expected, deep, ParseOutcome, done, stop}

-- This answer, and what is left with it, are the outcome. Once memory runs out nothing is said of either.
abbrev pub Matches : {A : Type 0} → Result A Fault → List Tok → ParseOutcome A → Type 0
Matches (Ok x) left outcome = outcome ≡ done x left
Matches (Err Expected) left outcome = outcome ≡ stop expected left
Matches (Err Deep) left outcome = outcome ≡ stop deep left
Matches (Err OutOfMemory) left outcome = Unit {0}

-- This fault is the outcome, with what is left.
abbrev pub StopsWith : {A : Type 0} → Fault → List Tok → ParseOutcome A → Type 0
StopsWith {A} fault left outcome = Matches {A = A} (Err fault) left outcome

-- an answer takes at least one token
abbrev pub TakesSome : {A : Type 0} → Result A Fault → List Tok → List Tok → Type 0
TakesSome (Ok x) old new = length new < length old
TakesSome (Err fault) old new = Unit {0}

-- an answer leaves at most what there was
abbrev pub LeavesUpTo : {A : Type 0} → Result A Fault → List Tok → List Tok → Type 0
LeavesUpTo (Ok x) old new = length new ≤ length old
LeavesUpTo (Err fault) old new = Unit {0}
