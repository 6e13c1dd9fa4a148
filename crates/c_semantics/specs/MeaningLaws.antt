-- Promise: what follows of the meaning: of its bound on turns, of its counts, and of loose classes.
use Rattle.std.specs.Prelude.{◌≡◌, ◌≢◌, ℕ, ◌+◌, ◌≤◌, Bool, false, List, []}
use Rattle.execution.specs.Traffic.{Element, Entry, Extends}
use Rattle.regions.specs.declared.rights.Class.{Class}
use Rattle.c_semantics.specs.ResolvedTree.{Stmt, Function, Program}
use Rattle.c_semantics.specs.States.{Setting, State, Turns, EndsAs, last_state}
use Rattle.c_semantics.specs.Meaning.{Meaning, meaning, calls_of, outcome_of, mean, mean_alone, mean_shared, mean_unchecked, noting_all}

-- more turns change nothing once the run ended
abbrev pub MoreTurns : Type 0
MoreTurns = (setting : Setting) (program : Program) (input : List ℕ) (loose : List (Entry Element)) (turns more : ℕ) →
    (mean setting program input loose turns).end ≢ Turns → mean setting program input loose (turns + more) ≡ mean setting program input loose turns

-- with fewer turns the bytes, the writes and the words taken are a prefix, and no count is greater
abbrev pub FewerTurns : Type 0
FewerTurns = (setting : Setting) (program : Program) (input : List ℕ) (loose : List (Entry Element)) (turns more : ℕ) →
    Extends (mean setting program input loose turns).traffic (mean setting program input loose (turns + more)).traffic

abbrev pub FewerTurnsLessWork : Type 0
FewerTurnsLessWork = (setting : Setting) (program : Program) (input : List ℕ) (loose : List (Entry Element)) (turns more : ℕ) →
    (mean setting program input loose turns).work ≤ (mean setting program input loose (turns + more)).work

-- of the three meanings by name: more turns change nothing once the run ended, and fewer give a prefix
pub record TurnsOfEach : Type 0 where
  pub alone : (program : Program) (input : List ℕ) (turns more : ℕ) →
      (mean_alone program input turns).end ≢ Turns → mean_alone program input (turns + more) ≡ mean_alone program input turns
  pub alone_prefix : (program : Program) (input : List ℕ) (turns more : ℕ) →
      Extends (mean_alone program input turns).traffic (mean_alone program input (turns + more)).traffic
  pub shared : (program : Program) (input : List ℕ) (loose : List (Entry Element)) (turns more : ℕ) →
      (mean_shared program input loose turns).end ≢ Turns → mean_shared program input loose (turns + more) ≡ mean_shared program input loose turns
  pub shared_prefix : (program : Program) (input : List ℕ) (loose : List (Entry Element)) (turns more : ℕ) →
      Extends (mean_shared program input loose turns).traffic (mean_shared program input loose (turns + more)).traffic
  pub unchecked : (program : Program) (input : List ℕ) (loose : List (Entry Element)) (turns more : ℕ) →
      (mean_unchecked program input loose turns).end ≢ Turns → mean_unchecked program input loose (turns + more) ≡ mean_unchecked program input loose turns
  pub unchecked_prefix : (program : Program) (input : List ℕ) (loose : List (Entry Element)) (turns more : ℕ) →
      Extends (mean_unchecked program input loose turns).traffic (mean_unchecked program input loose (turns + more)).traffic

-- a run ends for want of turns only when all have begun
abbrev pub TurnsAreUsed : Type 0
TurnsAreUsed = (setting : Setting) (program : Program) (input : List ℕ) (loose : List (Entry Element)) (turns : ℕ) (state : State) →
    outcome_of setting program input loose turns ≡ EndsAs Turns state → state.turns ≡ 0

-- From a state a run comes to such a later one: what has come and gone is added to, there are no more turns left, and no less work is counted.
pub record Later (earlier later : State) : Type 0 where
  pub traffic : Extends earlier.traffic later.traffic
  pub turns : later.turns ≤ earlier.turns
  pub work : earlier.work ≤ later.work

-- whatever a statement does, no count falls, bytes and writes are added at the end, and input and loose words are taken from the front
abbrev pub OnlyAdds : Type 0
OnlyAdds = (setting : Setting) (functions : List Function) (statement : Stmt) (state : State) →
    Later state (last_state (meaning setting (calls_of setting functions) statement state))

-- these classes are loose, and nothing is noted
abbrev pub noting_none : (Class → Bool) → Setting
noting_none is_loose = record { is_loose = is_loose; is_noted = false }

-- they agree but for work, checks, suspensions and writes
pub record IsSameButNotes (one other : Meaning) : Type 0 where
  pub end : one.end ≡ other.end
  pub bytes : one.traffic.bytes ≡ other.traffic.bytes
  pub input : one.traffic.input ≡ other.traffic.input
  pub loose : one.traffic.loose ≡ other.traffic.loose
  pub taken : one.traffic.taken ≡ other.traffic.taken
  pub releases : one.traffic.releases ≡ other.traffic.releases

-- noting changes nothing else
abbrev pub NotingChangesNothingElse : Type 0
NotingChangesNothingElse = (is_loose : Class → Bool) (program : Program) (input : List ℕ) (loose : List (Entry Element)) (turns : ℕ) →
    IsSameButNotes (mean (noting_all is_loose) program input loose turns) (mean (noting_none is_loose) program input loose turns)

-- with other loose words that are left
abbrev pub with_loose : List (Entry Element) → Meaning → Meaning
with_loose loose one = record one { traffic = record one.traffic { loose = loose } }

-- with no loose class no entry is taken, and the meaning is the same with any others
pub record ReadsNoEntry : Type 0 where
  pub taken : (setting : Setting) → ((class : Class) → setting.is_loose class ≡ false) → (program : Program) (input : List ℕ) (loose : List (Entry Element)) (turns : ℕ) →
      (mean setting program input loose turns).traffic.taken ≡ 0
  pub whatever : (setting : Setting) → ((class : Class) → setting.is_loose class ≡ false) → (program : Program) (input : List ℕ) (loose : List (Entry Element)) (turns : ℕ) →
      mean setting program input loose turns ≡ with_loose loose (mean setting program input [] turns)
