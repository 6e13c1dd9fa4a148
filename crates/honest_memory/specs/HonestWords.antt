-- Promise: loose words that are those of memory, and what a program means with them.
use Rattle.std.specs.Prelude.{◌≡◌, ◌≢◌, ℕ, ◌%◌, ◌^◌, Bool, List, ◌∷◌, ◌++◌, length}
use Rattle.execution.specs.Traffic.{Element, Entry}
use Rattle.regions.specs.declared.rights.Class.{Class}
use Rattle.c_semantics.specs.ResolvedTree.{Program}
use Rattle.c_semantics.specs.States.{State, Starved, EndsAs}
use Rattle.c_semantics.specs.Meaning.{Meaning, outcome_of, mean, mean_alone, noting_all}
use Rattle.honest_memory.specs.WordPrograms.{ProgramHasWords}

-- with other loose words that are left, and another count of those taken
abbrev pub with_loose_fields : List (Entry Element) → ℕ → Meaning → Meaning
with_loose_fields loose taken one = record one { traffic = record one.traffic { loose = loose; taken = taken } }

-- what memory has at the place of an entry
abbrev pub kept_at : Entry Element → State → ℕ
kept_at entry state = state.memory entry.place.variable entry.place.index

-- Wherever a run needs an entry, that is, is starved with those before it alone, this entry's word is the one that memory has there.
abbrev pub IsHonest : (Class → Bool) → Program → List ℕ → ℕ → List (Entry Element) → Type 0
IsHonest is_loose program input turns loose = (before later : List (Entry Element)) (entry : Entry Element) (state : State) →
    loose ≡ before ++ (entry ∷ later) → outcome_of (noting_all is_loose) program input before turns ≡ EndsAs Starved state → entry.word % 2 ^ 32 ≡ kept_at entry state

-- with honest words that are enough, a program means what it means with nothing loose, but for the words left and taken
abbrev pub HonestMeansAlone : Type 0
HonestMeansAlone = (is_loose : Class → Bool) (program : Program) (input : List ℕ) (loose : List (Entry Element)) (turns : ℕ) →
    IsHonest is_loose program input turns loose → (mean (noting_all is_loose) program input loose turns).end ≢ Starved →
    mean (noting_all is_loose) program input loose turns ≡
    with_loose_fields (mean (noting_all is_loose) program input loose turns).traffic.loose (mean (noting_all is_loose) program input loose turns).traffic.taken (mean_alone program input turns)

-- the words that memory has where a run reads elements of loose classes, in order
pub record IsRecordOf (is_loose : Class → Bool) (program : Program) (input : List ℕ) (turns : ℕ) (words : List (Entry Element)) : Type 0 where
  pub honest : IsHonest is_loose program input turns words
  -- with the entries before one the run is starved, and memory has this one's word
  pub needed : (before later : List (Entry Element)) (entry : Entry Element) → words ≡ before ++ (entry ∷ later) →
      (state : State) × (outcome_of (noting_all is_loose) program input before turns ≡ EndsAs Starved state) × (entry.word ≡ kept_at entry state)
  -- with all of them, and any others after them, which are left, the meaning is that with nothing loose
  pub enough : (later : List (Entry Element)) →
      mean (noting_all is_loose) program input (words ++ later) turns ≡ with_loose_fields later (length words) (mean_alone program input turns)
  -- whatever honest words are enough, so many of them are taken
  pub taken : (loose : List (Entry Element)) → IsHonest is_loose program input turns loose → (mean (noting_all is_loose) program input loose turns).end ≢ Starved →
      (mean (noting_all is_loose) program input loose turns).traffic.taken ≡ length words

-- each run of a program whose numbers are words has such a record
abbrev pub HonestWordsExist : Type 0
HonestWordsExist = (is_loose : Class → Bool) (program : Program) (input : List ℕ) (turns : ℕ) → ProgramHasWords program →
    (words : List (Entry Element)) × IsRecordOf is_loose program input turns words
