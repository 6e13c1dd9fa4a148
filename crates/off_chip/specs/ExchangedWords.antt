-- Promise: the words that the secure program exchanged with the outside, and the bytes that it sent.
use Rattle.std.specs.Prelude.{ℕ, List, Option, Some, None, filter_map, sum}
use Rattle.execution.specs.Traffic.{Entry}
use Rattle.off_chip.specs.declared.event.Event.{Event}
use Rattle.off_chip.specs.declared.event.Event.TheVariants.{WordRead, WordWrite, Note}
use Rattle.off_chip.specs.declared.event.Mark.TheVariants.{Sent}
use Rattle.off_chip.specs.declared.event.Who.TheVariants.{Secure}

-- the word that the secure program reads, at its address, and the one that it writes
abbrev pub secure_read : Event → Option (Entry ℕ)
secure_read (WordRead Secure at word) = Some (record { place = at; word = word })
secure_read event = None

abbrev pub secure_write : Event → Option (Entry ℕ)
secure_write (WordWrite Secure at word) = Some (record { place = at; word = word })
secure_write event = None

-- how many bytes a Sent mark counts
abbrev pub sent : Event → Option ℕ
sent (Note (Sent n)) = Some n
sent event = None

-- the words that the secure program read, in order: each is named by its address
abbrev pub words_read : List Event → List (Entry ℕ)
words_read trace = filter_map secure_read trace

-- the words that it wrote
abbrev pub words_written : List Event → List (Entry ℕ)
words_written trace = filter_map secure_write trace

-- the lengths of the pieces that were sent
abbrev pub pieces_sent : List Event → List ℕ
pieces_sent trace = filter_map sent trace

-- how many bytes were sent
abbrev pub bytes_sent : List Event → ℕ
bytes_sent trace = sum (pieces_sent trace)
