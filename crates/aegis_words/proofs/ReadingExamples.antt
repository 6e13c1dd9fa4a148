-- Worked examples of how far a command reads its files.
use Rattle.std.proofs.Common.{◌≡◌, ℕ, List, [], ◌∷◌, None, Some, refl, arith}
use Rattle.aegis_edge.specs.Folder.{Files}
use Rattle.aegis_words.specs.declared.file.File.{File}
use Rattle.aegis_words.specs.declared.file.File.TheVariants.{Source, Input}
use Rattle.aegis_words.specs.FileSteps.{FileStep, NextStep, step_in}
use Rattle.aegis_words.specs.FileReading.{HasText, Passes, ArePassed, steps_read, steps_asked}

-- two files, of the names 1 and 2
abbrev source : FileStep
source = record { file = Source; name = 1 ∷ [] }

abbrev input : FileStep
input = record { file = Input; name = 2 ∷ [] }

abbrev both : NextStep
both = step_in (source ∷ input ∷ [])

first : both [] ≡ Some source
first = refl

second : both ((9 ∷ []) ∷ []) ≡ Some input
second = refl

no_third : both ((8 ∷ []) ∷ (9 ∷ []) ∷ []) ≡ None
no_third = refl

none_of_none : step_in [] [] ≡ None
none_of_none = refl

-- a later step may depend on the texts before
abbrev chained : NextStep
chained [] = Some source
chained (text ∷ []) = Some (record { file = Input; name = text })
chained (text ∷ one ∷ earlier) = None

chained_second : chained ((9 ∷ []) ∷ []) ≡ Some (record { file = Input; name = 9 ∷ [] })
chained_second = refl

-- before the first text, after it and after the last one
asked_first : steps_asked both [] ≡ source ∷ []
asked_first = refl

asked_second : steps_asked both ((9 ∷ []) ∷ []) ≡ source ∷ input ∷ []
asked_second = refl

asked_last : steps_asked both ((8 ∷ []) ∷ (9 ∷ []) ∷ []) ≡ source ∷ input ∷ []
asked_last = refl

read_none : steps_read both [] ≡ []
read_none = refl

read_first : steps_read both ((9 ∷ []) ∷ []) ≡ source ∷ []
read_first = refl

asked_by_text : steps_asked chained ((9 ∷ []) ∷ []) ≡ source ∷ record { file = Input; name = 9 ∷ [] } ∷ []
asked_by_text = refl

-- a folder in which each file holds its own name
abbrev names_alone : Files
names_alone name = Some name

-- a text serves where it is not empty
abbrev NotEmpty : File → List ℕ → Type 0
NotEmpty file [] = ⊥
NotEmpty file (byte ∷ bytes) = Unit {0}

has_text : HasText (Some names_alone) source (1 ∷ [])
has_text = record { whole = refl; within = omega arith }

other_text : HasText (Some names_alone) source (2 ∷ []) → ⊥
other_text read = let same : names_alone (1 ∷ []) ≡ Some (2 ∷ []) = read.whole in cc

any_text : HasText None source (2 ∷ [])
any_text = record { whole = tt; within = omega arith }

passed_both : ArePassed both NotEmpty (Some names_alone) ((2 ∷ []) ∷ (1 ∷ []) ∷ [])
passed_both = ((tt, (record { whole = refl; within = omega arith }, tt)), (record { whole = refl; within = omega arith }, tt))

-- a text that does not serve is not passed, and no step is passed after the last
unserved : Passes NotEmpty None (Some source) [] → ⊥
unserved passes = passes.1

passed_last : ArePassed both NotEmpty None ((3 ∷ []) ∷ (2 ∷ []) ∷ (1 ∷ []) ∷ []) → ⊥
passed_last passed = passed.1

-- nor in another order
exchanged : ArePassed both NotEmpty (Some names_alone) ((1 ∷ []) ∷ (2 ∷ []) ∷ []) → ⊥
exchanged passed = let same : names_alone (2 ∷ []) ≡ Some (1 ∷ []) = passed.1.0.whole in cc
