-- Promise: what goes into a program and comes out of it. A place is what a loose word or a shared write is named by: an
-- element in the source, an address in machine code.
use Rattle.std.specs.Prelude.{◌≡◌, ℕ, ◌+◌, ◌-◌, ◌%◌, ◌^◌, ◌≤◌, Bool, ◌&&◌, ◌==◌, cond, List, [], ◌∷◌, ◌++◌, length, Option, Some, None}

-- an element of a variable or an array of the source; a variable that is no array has the one element 0
pub record Element : Type 0 where
  pub variable : ℕ
  pub index : ℕ

abbrev pub is_same_element : Element → Element → Bool
is_same_element one other = one.variable == other.variable && one.index == other.index

-- a word at a place
pub record Entry (Place : Type 0) : Type 0 where
  pub place : Place
  pub word : ℕ

-- what is still to come in, and what has gone out
pub record Traffic (Place : Type 0) : Type 0 where
  -- the input bytes that are left
  pub input : List ℕ
  -- the loose words that are left, and how many were taken
  pub loose : List (Entry Place)
  pub taken : ℕ
  -- the released bytes and the words written to shared places, each in order
  pub bytes : List ℕ
  pub writes : List (Entry Place)
  -- how many releases, checks and suspensions there were
  pub releases : ℕ
  pub checks : ℕ
  pub suspensions : ℕ

-- before the first step
abbrev pub traffic_from : {Place : Type 0} → List ℕ → List (Entry Place) → Traffic Place
traffic_from input loose = record {
  input = input;
  loose = loose;
  taken = 0;
  bytes = [];
  writes = [];
  releases = 0;
  checks = 0;
  suspensions = 0;
}

-- a list without its first element
abbrev pub without_first : {A : Type 0} → List A → List A
without_first [] = []
without_first (x ∷ xs) = xs

-- the next byte, or -1 after the last one
abbrev pub next_of : List ℕ → ℕ
next_of [] = 2 ^ 32 - 1
next_of (byte ∷ bytes) = byte % 2 ^ 8

-- the word of the first entry if it names this place, by a test of places
abbrev pub word_at : {Place : Type 0} → (Place → Place → Bool) → Place → List (Entry Place) → Option ℕ
word_at same place [] = None
word_at same place (entry ∷ entries) = cond (same place entry.place) (Some (entry.word % 2 ^ 32)) None

-- what reading one byte of the input gives, and what it leaves
abbrev pub input_word : {Place : Type 0} → Traffic Place → ℕ
input_word t = next_of t.input

abbrev pub after_input : {Place : Type 0} → Traffic Place → Traffic Place
after_input t = record t { input = without_first t.input }

-- what reading a loose place gives, none where the run is starved, and what it leaves
abbrev pub loose_word : {Place : Type 0} → (Place → Place → Bool) → Place → Traffic Place → Option ℕ
loose_word same place t = word_at same place t.loose

abbrev pub after_loose : {Place : Type 0} → Traffic Place → Traffic Place
after_loose t = record t { loose = without_first t.loose; taken = t.taken + 1 }

-- the release of a word's low eight bits
abbrev pub after_release : {Place : Type 0} → ℕ → Traffic Place → Traffic Place
after_release word t = record t { bytes = t.bytes ++ (word % 2 ^ 8 ∷ []); releases = t.releases + 1 }

-- a word written to a shared place
abbrev pub after_write : {Place : Type 0} → Place → ℕ → Traffic Place → Traffic Place
after_write place word t = record t { writes = t.writes ++ (record { place = place; word = word } ∷ []) }

abbrev pub after_check : {Place : Type 0} → Traffic Place → Traffic Place
after_check t = record t { checks = t.checks + 1 }

abbrev pub after_suspension : {Place : Type 0} → Traffic Place → Traffic Place
after_suspension t = record t { suspensions = t.suspensions + 1 }

-- From what came and went earlier this may come later: bytes and writes are added at the end, each byte by one release,
-- input and loose words are taken from the front, and no count falls.
pub record Extends {Place : Type 0} (earlier later : Traffic Place) : Type 0 where
  pub input : (read : List ℕ) × (earlier.input ≡ read ++ later.input)
  pub loose : (took : List (Entry Place)) × (earlier.loose ≡ took ++ later.loose) × (later.taken ≡ earlier.taken + length took)
  pub bytes : (more : List ℕ) × (later.bytes ≡ earlier.bytes ++ more) × (later.releases ≡ earlier.releases + length more)
  pub writes : (more : List (Entry Place)) × (later.writes ≡ earlier.writes ++ more)
  pub checks : earlier.checks ≤ later.checks
  pub suspensions : earlier.suspensions ≤ later.suspensions

-- nothing has to come or go for a state to extend itself, and two stretches make one
abbrev pub ExtendsJoins : (Place : Type 0) → Type 0
ExtendsJoins Place = (one two three : Traffic Place) → Extends one two → Extends two three → Extends one three

-- each way in and out extends what there was
pub record EachExtends (Place : Type 0) : Type 0 where
  pub nothing : (t : Traffic Place) → Extends t t
  pub input : (t : Traffic Place) → Extends t (after_input t)
  pub loose : (same : Place → Place → Bool) (place : Place) (t : Traffic Place) (word : ℕ) → loose_word same place t ≡ Some word → Extends t (after_loose t)
  pub release : (word : ℕ) (t : Traffic Place) → Extends t (after_release word t)
  pub write : (place : Place) (word : ℕ) (t : Traffic Place) → Extends t (after_write place word t)
  pub check : (t : Traffic Place) → Extends t (after_check t)
  pub suspension : (t : Traffic Place) → Extends t (after_suspension t)
