-- Device: what the code keeps of the words.
use Rattle.std.specs.Prelude.{◌≤◌}
use Rattle.work_maker.specs.declared.TheConstants.{MOST_FUNCTIONS}
use Rattle.aegis_words.specs.declared.run.RunWords.{RunWords}
use Rattle.aegis_words.specs.declared.mean.MeanWords.{MeanWords}
use Rattle.aegis_words.specs.declared.build.BuildWords.{BuildWords}
use Rattle.aegis_words.specs.declared.list.ListWords.{ListWords}
use Rattle.aegis_words.specs.declared.make.MakeWords.{MakeWords}
use Rattle.aegis_words.specs.declared.table.Command.{Command as CommandWords}
use Rattle.aegis_words.specs.declared.table.Command.TheVariants as words
use Rattle.aegis_words.specs.RunWordRow.{RunNames}
use Rattle.aegis_words.specs.MeanWordRow.{MeanNames}
use Rattle.aegis_words.specs.BuildWordRow.{BuildNames}
use Rattle.aegis_words.specs.ListWordRow.{ListNames}
use Rattle.aegis_words.specs.MakeWordRow.{MakeNames}
use Rattle.aegis_words.specs.CommandTable.{Command}
use Rattle.aegis_words.specs.CommandTable as asks

-- the names among the words of a run
abbrev pub names_of : RunWords → RunNames
names_of words = record {
  source = words.source.now;
  script = words.script.now;
  input = words.input.now;
  fuel = words.fuel;
  key = words.key;
  nonce = words.nonce;
}

-- the names among the words of a `mean`
abbrev pub mean_names_of : MeanWords → MeanNames
mean_names_of words = record { source = words.source.now; input = words.input.now; turns = words.turns }

-- the name among the words of a `build`
abbrev pub build_names_of : BuildWords → BuildNames
build_names_of words = record { source = words.source.now }

-- the name among the words of a `list`
abbrev pub list_names_of : ListWords → ListNames
list_names_of words = record { image = words.image.now }

-- the number among the words of a `make`
abbrev pub make_names_of : MakeWords → MakeNames
make_names_of words = record { number = words.number }

-- the number of a `make` is in its range
abbrev pub IsInRange : CommandWords → Type 0
IsInRange (words.Make names) = (1 ≤ names.number) × (names.number ≤ MOST_FUNCTIONS)
IsInRange command = Unit {0}

-- what the code keeps of the words, as the command that they are
abbrev pub command_of : CommandWords → Command
command_of (words.Run names) = asks.Run (names_of names)
command_of (words.Mean names) = asks.Mean (mean_names_of names)
command_of (words.Build names) = asks.Build (build_names_of names)
command_of (words.Listing names) = asks.Listing (list_names_of names)
command_of (words.Make names) = asks.Make (make_names_of names)
