-- Promise: what was sent and written in the faithful part of a trace is a front of what the ideal machine sends and writes; and how a
-- faithful run ends.
use Rattle.std.specs.Prelude.{◌≡◌, ℕ, ◌≤◌, true, List, ◌++◌, take, Option}
use Rattle.execution.specs.Run.{EndsIn, state_of}
use Rattle.execution.specs.Traffic.{Entry}
use Rattle.aegis_num.specs.declared.Place.{Place}
use Rattle.regions.specs.LooseClasses.{shared_loose}
use Rattle.off_chip.specs.declared.Event.{Event}
use Rattle.off_chip.specs.Histories.{History, in_order}
use Rattle.off_chip.specs.Boundaries.{retired}
use Rattle.off_chip.specs.Epochs.{IsQuiet}
use Rattle.off_chip.specs.ExchangedWords.{bytes_sent, words_read, words_written}
use Rattle.orbis_core.specs.Ideal.{Ideal, IdealEnd, ideal_start, ideal_step}
use Rattle.bus_machine.specs.BusData.{EndsAtLast, GoesOn, SendsSo, at_boundary}
use Rattle.bus_machine.specs.BusMachine.{LoadedProgram, Veil}
use Rattle.ideal_trace.specs.FaithfulRuns.{IsSoundProgram, RunsFaithfully}
use Rattle.ideal_trace.specs.IdealRuns.{ideal_steps, with_words}

-- the bytes that Sent marks count, and the words that were written, are the first of those of the ideal machine with these words in so many steps
pub record IsFrontOf (program : LoadedProgram) (handed_out : List ℕ) (older : History) (words : List (Entry ℕ)) (steps : ℕ) : Type 0 where
  pub bytes : (more : List ℕ) × ((state_of (ideal_steps program shared_loose words steps)).traffic.bytes ≡ take (bytes_sent (in_order older)) handed_out ++ more)
  pub writes : (more : List (Entry ℕ)) × ((state_of (ideal_steps program shared_loose words steps)).traffic.writes ≡ words_written (in_order older) ++ more)

-- with the words of the whole trace, and whatever words come after them, the ideal machine ends so in exactly as many steps as instructions were
-- done; the bytes that Sent marks count, and the words that were written, are all that it sends and writes
pub record EndsWhole (program : LoadedProgram) (handed_out : List ℕ) (end : IdealEnd) (older : History) : Type 0 where
  pub at : Ideal
  pub ends : (more : List (Entry ℕ)) → EndsIn (ideal_step program.layout shared_loose) (retired (in_order older))
      (ideal_start program.layout program.statics program.entry program.input (words_read (in_order older) ++ more)) end (with_words more at)
  pub bytes : at.traffic.bytes ≡ take (bytes_sent (in_order older)) handed_out
  pub writes : at.traffic.writes ≡ words_written (in_order older)

pub record FaithfulRunsAreFronts : Type 0 where
  -- at each boundary, for the words of a longer trace, and for each number of steps that is not below that of the instructions that were done
  pub goes : (image : Place → Option (List ℕ)) (veil : Veil) (program : LoadedProgram) (handed_out : List ℕ) (older : History) (rest : List Event) (more : List (Entry ℕ)) (steps : ℕ)
      → IsSoundProgram program → RunsFaithfully image veil program older → at_boundary program older ≡ true → GoesOn veil program older → SendsSo veil program handed_out older
      → retired (in_order older) ≤ steps → IsFrontOf program handed_out older (words_read (in_order older ++ rest) ++ more) steps
  -- at the end of the program, where no log read came after the latest passed check
  pub ends : (image : Place → Option (List ℕ)) (veil : Veil) (program : LoadedProgram) (handed_out : List ℕ) (end : IdealEnd) (older : History)
      → IsSoundProgram program → RunsFaithfully image veil program older → EndsAtLast veil program end older → SendsSo veil program handed_out older → IsQuiet older
      → EndsWhole program handed_out end older
