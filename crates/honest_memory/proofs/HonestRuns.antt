-- Honest words, words that are not, and words that are not enough, which compute. The evaluator in tests/meaning gave the program and
-- the meanings.
use Rattle.std.proofs.Common.{◌≡◌, ℕ, ◌%◌, ◌^◌, false, List, [], ◌∷◌, ◌++◌, length, Option, Some, None, arith, refl, sym, ◌∙◌, ap, subst}
use Rattle.regions.specs.declared.rights.Class.{Class}
use Rattle.regions.specs.declared.rights.Class.TheVariants.{Open, Logged}
use Rattle.regions.specs.LooseClasses.{shared_loose}
use Rattle.aegis_num.specs.declared.operators.BinaryOp.TheVariants.{Add}
use Rattle.aegis_num.specs.declared.operators.UnaryOp.TheVariants.{Not}
use Rattle.execution.specs.Traffic.{Element, Entry}
use Rattle.c_semantics.specs.declared.tree.Variable.{Variable}
use Rattle.c_semantics.specs.ResolvedTree.{Number, Scalar, Indexed, Called, Input, Unary, Binary, Both, Either, NoArguments, Argument, Nothing, Then, Empty, Block, Local, Assign, Store, Call, Suspend, Release, Check, Return, Break, Continue, If, While, For, Program}
use Rattle.c_semantics.specs.States.{State, Ended, Starved, Outcome, EndsAs, last_state}
use Rattle.c_semantics.specs.Meaning.{outcome_of, mean_alone, mean_shared, mean_unchecked, noting_all}
use Rattle.honest_memory.specs.HonestWords.{with_loose_fields, kept_at, IsHonest, IsRecordOf}
use Rattle.honest_memory.specs.WordPrograms.{ExprHasWords, StmtHasWords, ProgramHasWords}

abbrev variable : ℕ → Option Class → Variable
variable token class = record { token = token; class = class }

abbrev entry : ℕ → ℕ → ℕ → Entry Element
entry variable index word = record { place = record { variable = variable; index = index }; word = word }

-- __shared int box[2];
-- __logged int log;
-- int main(void){
--  release(box[1]);
--  box[1]=7;
--  log=2;
--  release(box[1]+log);
--  return 0;
-- }
abbrev twice : Program
twice = record {
  objects = record { variable = (variable 2 (Some Open)); length = (Some 2); first = [] } ∷ record { variable = (variable 9 (Some Logged)); length = None; first = [] } ∷ [];
  functions = record {
    private = false;
    parameters = [];
    body = (Then (Release (Indexed 20 (variable 2 (Some Open)) 2 (Number 1))) (Then (Store 26 (variable 2 (Some Open)) 2 (Number 1) (Number 7)) (Then (Assign (variable 9 (Some Logged)) (Number 2)) (Then (Release (Binary 42 Add (Indexed 39 (variable 2 (Some Open)) 2 (Number 1)) (Scalar (variable 9 (Some Logged))))) (Then (Return (Some (Number 0))) Nothing)))));
  } ∷ [];
  main = 0;
}

alone : mean_alone twice [] 0 ≡ record { end = Ended; work = 16; traffic = record { input = []; loose = []; bytes = 0 ∷ 9 ∷ []; writes = entry 2 1 7 ∷ []; taken = 0; releases = 2; checks = 0; suspensions = 0 } }
alone = refl

-- what memory had, and one word more
honest : mean_shared twice [] (entry 2 1 0 ∷ entry 2 1 7 ∷ entry 2 0 5 ∷ []) 0 ≡ record { end = Ended; work = 16; traffic = record { input = []; loose = entry 2 0 5 ∷ []; bytes = 0 ∷ 9 ∷ []; writes = entry 2 1 7 ∷ []; taken = 2; releases = 2; checks = 0; suspensions = 0 } }
honest = refl

honest-fields : mean_shared twice [] (entry 2 1 0 ∷ entry 2 1 7 ∷ entry 2 0 5 ∷ []) 0 ≡ with_loose_fields (entry 2 0 5 ∷ []) 2 (mean_alone twice [] 0)
honest-fields = refl

honest-unchecked : mean_unchecked twice [] (entry 2 1 0 ∷ entry 2 1 7 ∷ entry 9 0 2 ∷ []) 0 ≡ with_loose_fields [] 3 (mean_alone twice [] 0)
honest-unchecked = refl

-- a word that memory did not have
other-word : mean_shared twice [] (entry 2 1 0 ∷ entry 2 1 8 ∷ []) 0 ≡ record { end = Ended; work = 16; traffic = record { input = []; loose = []; bytes = 0 ∷ 10 ∷ []; writes = entry 2 1 7 ∷ []; taken = 2; releases = 2; checks = 0; suspensions = 0 } }
other-word = refl

other-logged-word : mean_unchecked twice [] (entry 2 1 0 ∷ entry 2 1 7 ∷ entry 9 0 3 ∷ []) 0 ≡ record { end = Ended; work = 16; traffic = record { input = []; loose = []; bytes = 0 ∷ 10 ∷ []; writes = entry 2 1 7 ∷ []; taken = 3; releases = 2; checks = 0; suspensions = 0 } }
other-logged-word = refl

-- too few words, and a word of another element
too-few : mean_shared twice [] (entry 2 1 0 ∷ []) 0 ≡ record { end = Starved; work = 13; traffic = record { input = []; loose = []; bytes = 0 ∷ []; writes = entry 2 1 7 ∷ []; taken = 1; releases = 1; checks = 0; suspensions = 0 } }
too-few = refl

other-element : mean_shared twice [] (entry 2 1 0 ∷ entry 2 0 7 ∷ []) 0 ≡ record { end = Starved; work = 13; traffic = record { input = []; loose = entry 2 0 7 ∷ []; bytes = 0 ∷ []; writes = entry 2 1 7 ∷ []; taken = 1; releases = 1; checks = 0; suspensions = 0 } }
other-element = refl

-- the test of lists by their first and second entries
abbrev head_or : Entry Element → List (Entry Element) → Entry Element
head_or other [] = other
head_or other (e ∷ es) = e

abbrev tail_of : List (Entry Element) → List (Entry Element)
tail_of [] = []
tail_of (e ∷ es) = es

abbrev stopped : List (Entry Element) → Outcome ℕ
stopped loose = outcome_of (noting_all shared_loose) twice [] loose 0

-- a word is that of memory where the run on those before it is starved
kept : (before : List (Entry Element)) (given next : Entry Element) (state : State) → given ≡ next → given.word % 2 ^ 32 ≡ kept_at given (last_state (stopped before)) → stopped before ≡ EndsAs Starved state →
    next.word % 2 ^ 32 ≡ kept_at next state
kept before given next state same word starves =
    subst (λ e. e.word % 2 ^ 32 ≡ kept_at e state) same (word ∙ ap (λ o. kept_at given (last_state o)) starves)

is-honest : IsHonest shared_loose twice [] 0 (entry 2 1 0 ∷ entry 2 1 7 ∷ [])
is-honest [] later next state e starves = kept [] (entry 2 1 0) next state (ap (head_or next) e) refl starves
is-honest (one ∷ []) later next state e starves =
    let first : entry 2 1 0 ≡ one = ap (head_or one) e in
    kept (entry 2 1 0 ∷ []) (entry 2 1 7) next state (ap (λ es. head_or next (tail_of es)) e) refl (subst (λ o. stopped (o ∷ []) ≡ EndsAs Starved state) (sym first) starves)
is-honest (one ∷ two ∷ before) later next state e starves = absurd (never before (ap (λ es. tail_of (tail_of es)) e))
  where
    never : (before : List (Entry Element)) → [] ≡ before ++ (next ∷ later) → ⊥
    never [] h = grind (arith, h)
    never (x ∷ xs) h = grind (arith, h)

is-not-honest : IsHonest shared_loose twice [] 0 (entry 2 1 0 ∷ entry 2 1 8 ∷ []) → ⊥
is-not-honest h =
    let same : 8 ≡ 7 = h (entry 2 1 0 ∷ []) [] (entry 2 1 8) (last_state (stopped (entry 2 1 0 ∷ []))) refl refl in
    absurd (omega (arith, same))

-- the numbers of the program are words, and 2 ^ 32 is none
has-words : ProgramHasWords twice
has-words = record { objects = (tt, (tt, tt)); functions = ((omega arith, ((omega arith, omega arith), (omega arith, ((omega arith, tt), (omega arith, tt))))), tt) }

-- each form of an expression and of a statement, with words
expression-has-words : ExprHasWords (Both (Either Input (Unary Not (Number 0))) (Called 0 (Argument (Indexed 1 (variable 2 (Some Open)) 2 (Scalar (variable 4 None))) NoArguments)))
expression-has-words = ((tt, omega arith), (tt, tt))

statement-has-words : StmtHasWords (Then Empty (Then (Block Suspend) (Then (Local (variable 4 None) None) (Then (Call 0 (Argument (Number 1) NoArguments)) (Then (While (Number 1) Break) (Then (For Check None Continue Nothing) (If (Number 4294967295) Nothing (Return None))))))))
statement-has-words = (tt, (tt, (tt, ((omega arith, tt), ((omega arith, tt), ((tt, tt, tt, tt), (omega arith, tt, tt)))))))

is-no-word : ExprHasWords (Number 4294967296) → ⊥
is-no-word h = absurd (omega (arith, h))

-- the record of this run has two entries
two-entries : (words : List (Entry Element)) → IsRecordOf shared_loose twice [] 0 words → 2 ≡ length words
two-entries words r = r.taken (entry 2 1 0 ∷ entry 2 1 7 ∷ []) is-honest (λ e. grind (arith, e))
