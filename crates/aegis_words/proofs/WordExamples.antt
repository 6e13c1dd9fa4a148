-- Worked examples of the table of commands and of the files that commands read.
use Rattle.std.proofs.Common.{◌≡◌, ℕ, List, [], ◌∷◌, None, Some, false, refl}
use Rattle.std.specs.Prelude.{codes}
use Rattle.hex.specs.Hex.{decode_pairs}
use Rattle.aegis_words.specs.declared.file.File.TheVariants.{Source, Script, Input, Image}
use Rattle.aegis_words.specs.FileSteps.{limit_for, askings_for}
use Rattle.aegis_words.specs.NumberWords.{is_number, bound_in, count_in, hex_bytes}
use Rattle.aegis_words.specs.RunWordRow.{RunNames, run_row, run_steps}
use Rattle.aegis_words.specs.MeanWordRow.{MeanNames, mean_row, mean_steps}
use Rattle.aegis_words.specs.BuildWordRow.{BuildNames, build_row, build_steps}
use Rattle.aegis_words.specs.ListWordRow.{ListNames, list_row, list_steps}
use Rattle.aegis_words.specs.MakeWordRow.{make_row}
use Rattle.aegis_words.specs.CommandTable.{Run, Mean, Build, Listing, Make, rows, first_fitting, step_after}

-- ---- words

greatest_fuel : bound_in (codes "33554432") ≡ Some 33554432
greatest_fuel = refl

zeros_before : bound_in (codes "0000000001") ≡ Some 1
zeros_before = refl

too_much_fuel : bound_in (codes "33554433") ≡ None
too_much_fuel = refl

too_many_digits : is_number (codes "00000000001") ≡ false
too_many_digits = refl

signed_fuel : is_number (codes "+1") ≡ false
signed_fuel = refl

no_digits : is_number [] ≡ false
no_digits = refl

-- the number of a made source: the least, the greatest, with a zero before it, and those that are none
counts : (count_in (codes "1") ≡ Some 1) × (count_in (codes "48") ≡ Some 48) × (count_in (codes "07") ≡ Some 7)
counts = (refl, refl, refl)

no_counts : (count_in (codes "0") ≡ None) × (count_in (codes "00") ≡ None) × (count_in (codes "49") ≡ None) × (count_in (codes "007") ≡ None) × (count_in (codes "+7") ≡ None) × (count_in [] ≡ None)
no_counts = (refl, refl, refl, refl, refl, refl)

hex_of_two : hex_bytes 2 (codes "0aFf") ≡ Some (10 ∷ 255 ∷ [])
unfolding decode_pairs
hex_of_two = refl

hex_too_short : hex_bytes 2 (codes "0aF") ≡ None
hex_too_short = refl

hex_too_long : hex_bytes 2 (codes "0aFf00") ≡ None
unfolding decode_pairs
hex_too_long = refl

no_hex : hex_bytes 2 (codes "0aFg") ≡ None
unfolding decode_pairs
no_hex = refl

-- ---- rows

-- the words of a run with this fuel and this key
abbrev run_with : List ℕ → List ℕ → List (List ℕ)
run_with fuel key = codes "run" ∷ codes "hi.c" ∷ codes "s" ∷ codes "i" ∷ fuel ∷ key ∷ codes "0000000000000a01" ∷ []

-- its files, its fuel, its key and its nonce
abbrev names : ℕ → List ℕ → RunNames
names fuel key = record {
  source = codes "hi.c";
  script = codes "s";
  input = codes "i";
  fuel = fuel;
  key = key;
  nonce = 0 ∷ 0 ∷ 0 ∷ 0 ∷ 0 ∷ 0 ∷ 10 ∷ 1 ∷ [];
}

-- the bytes from 0 to 15
abbrev key : List ℕ
key = 0 ∷ 1 ∷ 2 ∷ 3 ∷ 4 ∷ 5 ∷ 6 ∷ 7 ∷ 8 ∷ 9 ∷ 10 ∷ 11 ∷ 12 ∷ 13 ∷ 14 ∷ 15 ∷ []

run_ordinary : first_fitting rows (run_with (codes "8000000") (codes "000102030405060708090a0b0c0d0e0f")) ≡ Some (Run (names 8000000 key))
unfolding decode_pairs
run_ordinary = refl

run_capital : run_row (run_with (codes "1") (codes "000102030405060708090A0B0C0D0E0F")) ≡ Some (names 1 key)
unfolding decode_pairs
run_capital = refl

run_short_key : run_row (run_with (codes "1") (codes "000102030405060708090a0b0c0d0e")) ≡ None
unfolding decode_pairs
run_short_key = refl

run_too_much_fuel : first_fitting rows (run_with (codes "33554433") (codes "000102030405060708090a0b0c0d0e0f")) ≡ None
unfolding decode_pairs
run_too_much_fuel = refl

no_words : first_fitting rows [] ≡ None
no_words = refl

-- the words of a `mean` with these turns
abbrev mean_with : List ℕ → List (List ℕ)
mean_with turns = codes "mean" ∷ codes "hi.c" ∷ codes "i" ∷ turns ∷ []

abbrev mean_names_with : ℕ → MeanNames
mean_names_with turns = record { source = codes "hi.c"; input = codes "i"; turns = turns }

mean_ordinary : first_fitting rows (mean_with (codes "33554432")) ≡ Some (Mean (mean_names_with 33554432))
mean_ordinary = refl

mean_no_turns : mean_row (mean_with (codes "0")) ≡ Some (mean_names_with 0)
mean_no_turns = refl

mean_too_many_turns : first_fitting rows (mean_with (codes "33554433")) ≡ None
mean_too_many_turns = refl

mean_is_no_run : run_row (mean_with (codes "0")) ≡ None
mean_is_no_run = refl

other_word : first_fitting rows (codes "means" ∷ codes "hi.c" ∷ codes "i" ∷ codes "0" ∷ []) ≡ None
other_word = refl

abbrev build_names : BuildNames
build_names = record { source = codes "hi.c" }

build_ordinary : first_fitting rows (codes "build" ∷ codes "hi.c" ∷ []) ≡ Some (Build build_names)
build_ordinary = refl

build_of_two : build_row (codes "build" ∷ codes "hi.c" ∷ codes "more" ∷ []) ≡ None
build_of_two = refl

build_without_source : first_fitting rows (codes "build" ∷ []) ≡ None
build_without_source = refl

abbrev list_names : ListNames
list_names = record { image = codes "hi.image" }

list_ordinary : first_fitting rows (codes "list" ∷ codes "hi.image" ∷ []) ≡ Some (Listing list_names)
list_ordinary = refl

list_without_image : first_fitting rows (codes "list" ∷ []) ≡ None
list_without_image = refl

list_of_two : list_row (codes "list" ∷ codes "hi.image" ∷ codes "more" ∷ []) ≡ None
list_of_two = refl

list_misspelled : first_fitting rows (codes "lists" ∷ codes "hi.image" ∷ []) ≡ None
list_misspelled = refl

make_ordinary : first_fitting rows (codes "make" ∷ codes "07" ∷ []) ≡ Some (Make (record { number = 7 }))
make_ordinary = refl

make_of_nothing : first_fitting rows (codes "make" ∷ codes "0" ∷ []) ≡ None
make_of_nothing = refl

make_of_two : make_row (codes "make" ∷ codes "8" ∷ codes "8" ∷ []) ≡ None
make_of_two = refl

make_misspelled : first_fitting rows (codes "makes" ∷ codes "8" ∷ []) ≡ None
make_misspelled = refl

-- ---- files

limits : (limit_for Source ≡ 262144) × (limit_for Script ≡ 1048576) × (limit_for Input ≡ 65536) × (limit_for Image ≡ 1048576)
limits = (refl, refl, refl, refl)

run_files : run_steps (names 1 key)
    ≡ record { file = Source; name = codes "hi.c" } ∷ record { file = Script; name = codes "s" } ∷ record { file = Input; name = codes "i" } ∷ []
run_files = refl

run_after_source : step_after (Run (names 1 key)) ([] ∷ []) ≡ Some (record { file = Script; name = codes "s" })
run_after_source = refl

run_after_all : step_after (Run (names 1 key)) ([] ∷ [] ∷ [] ∷ []) ≡ None
run_after_all = refl

mean_files : mean_steps (mean_names_with 1) ≡ record { file = Source; name = codes "hi.c" } ∷ record { file = Input; name = codes "i" } ∷ []
mean_files = refl

mean_after_source : step_after (Mean (mean_names_with 1)) ([] ∷ []) ≡ Some (record { file = Input; name = codes "i" })
mean_after_source = refl

mean_after_all : step_after (Mean (mean_names_with 1)) ([] ∷ [] ∷ []) ≡ None
mean_after_all = refl

build_files : build_steps build_names ≡ record { file = Source; name = codes "hi.c" } ∷ []
build_files = refl

build_after_all : step_after (Build build_names) ([] ∷ []) ≡ None
build_after_all = refl

list_files : list_steps list_names ≡ record { file = Image; name = codes "hi.image" } ∷ []
list_files = refl

list_first : step_after (Listing list_names) [] ≡ Some (record { file = Image; name = codes "hi.image" })
list_first = refl

list_after_all : step_after (Listing list_names) ([] ∷ []) ≡ None
list_after_all = refl

make_reads_none : step_after (Make (record { number = 7 })) [] ≡ None
make_reads_none = refl

askings_at_three : askings_for 3 (record { file = Script; name = 7 ∷ [] } ∷ []) ≡ record { name = 7 ∷ []; faults = 3 } ∷ []
askings_at_three = refl
