use Rattle.std.proofs.Common.{take}
use Rattle.std.specs.String.{string_bytes}
use Rattle.orbis_word.specs.Printing.{IsListing}
use Rattle.orbis_word.proofs.printing.listing.Given as goal

abbrev pub invariant-loop-index : goal.invariant-loop-index
invariant-loop-index l = IsListing 0 (take l.index l.code) (string_bytes l.text)
