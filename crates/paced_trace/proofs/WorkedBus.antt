-- Worked steps of the bus machine, for where they fit and where not.
use Rattle.std.proofs.Common.{◌≡◌, ◌≤◌, [], ◌∷◌, ◌++◌, replicate, Some, refl, arith, lit≤}
use Rattle.aegis_num.specs.declared.Place.TheVariants.{Tree, Log}
use Rattle.orbis_word.specs.Reading.{instruction_in, signed}
use Rattle.regions.specs.Addresses.{class_at}
use Rattle.regions.specs.Modes.{Check, Release}
use Rattle.regions.specs.Tree.{height_of}
use Rattle.off_chip.specs.declared.Event.{Event}
use Rattle.off_chip.specs.declared.Event.TheVariants.{Note}
use Rattle.off_chip.specs.declared.Mark.TheVariants as marks
use Rattle.off_chip.specs.Histories.{History, ◌◂◌, history}
use Rattle.orbis_core.specs.ByteOrder.{bytes_of}
use Rattle.bus_machine.specs.BusMachine.{LoadedProgram, Veil}
use Rattle.paced_trace.specs.BusPace.{AllAskedSo, AllBusStepsFit}
use Rattle.paced_trace.proofs.WorkedFuel.{asked, hello, one_static}
use Rattle.paced_trace.proofs.WorkedPace.{done, read, write}

abbrev program : LoadedProgram
program = record { layout = one_static; statics = bytes_of (hello ++ replicate 12 0x15000000); entry = 0; input = [] }

abbrev veil : Veil
veil n stamp payload = payload

-- entering takes seven events here
abbrev over : History
over = history (Note marks.Enter ∷ read (Tree 2) ∷ write (Tree 3) ∷ write (Tree 2) ∷ write (Tree 1) ∷ write (Tree 0) ∷ write (Log 0) ∷ [])

abbrev sent : Event
sent = Note (marks.Sent 1)

-- the first instruction asks for nothing, and with the second, a release, a byte is sent
released : AllBusStepsFit veil program (done ◂ sent ◂ done ◂ over)
unfolding instruction_in signed class_at height_of
released = record {
  each = ((
    (
      (
        (((((((tt, λ no. cc), λ no. cc), λ no. cc), λ no. cc), λ no. cc), λ no. cc), λ no. cc),
        λ retires entered. record {
          accesses = lit≤ tt;
          marks = lit≤ tt;
          reads = lit≤ tt;
          suspension = lit≤ tt;
          entered = refl;
        },
      ),
      λ no. cc,
    ),
    λ retires entered. record { accesses = lit≤ tt; marks = lit≤ tt; reads = lit≤ tt; suspension = lit≤ tt; entered = refl },
  ));
}

-- a byte that is sent with the first does not fit
too_early : AllBusStepsFit veil program (done ◂ sent ◂ over) → ⊥
unfolding instruction_in signed class_at height_of
too_early all = let no : 1 ≤ 0 = (all.each.1 refl (lit≤ tt)).marks in omega (arith, no)

-- the ideal machine asks for the same in these steps, and a machine that asks for a check in each does not
asks : AllAskedSo veil program (asked hello) (done ◂ sent ◂ done ◂ over)
unfolding instruction_in signed class_at height_of
asks = record {
  each = (((((((((((tt, λ no. cc), λ no. cc), λ no. cc), λ no. cc), λ no. cc), λ no. cc), λ no. cc), λ retires entered. refl), λ no. cc), λ retires entered. refl));
}

asks_otherwise : AllAskedSo veil program (λ k. Some Check) (done ◂ sent ◂ done ◂ over) → ⊥
unfolding instruction_in signed class_at height_of
asks_otherwise all = let no : Some Release ≡ Some Check = all.each.1 refl (lit≤ tt) in cc
