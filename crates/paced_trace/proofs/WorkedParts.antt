-- Worked parts of steps, for where they are what is told and where not.
use Rattle.std.proofs.Common.{◌≡◌, ◌≤◌, true, false, List, [], ◌∷◌, ◌++◌, Option, Some, None, refl, arith, lit≤}
use Rattle.aegis_num.specs.declared.Place.TheVariants.{Tree, Log}
use Rattle.regions.specs.Modes.{SecureInstruction, Exit, Suspend, Release, Input, Check}
use Rattle.regions.specs.Tree.{height_of}
use Rattle.off_chip.specs.declared.Event.{Event}
use Rattle.off_chip.specs.declared.Event.TheVariants.{WordRead, WordWrite, Note}
use Rattle.off_chip.specs.declared.Mark.TheVariants as marks
use Rattle.off_chip.specs.declared.Who.TheVariants.{Secure, Untrusted}
use Rattle.off_chip.specs.Histories.{followed}
use Rattle.paced_trace.specs.PacedSteps.{FitsStep}
use Rattle.paced_trace.specs.StepParts.{AreAccesses, ComesAfter, SendOnce, checks, is_exchange, is_foreign, is_log_move, is_read, is_sent, nothing, sends, suspension}
use Rattle.paced_trace.proofs.PartLemmas.{parts-fit}
use Rattle.paced_trace.proofs.WorkedPace.{drop, entered, first, fourth, layout, out, read, reads_of_path, second, third, word, write}

-- ---- tests of one event

tests : (is_read (read (Tree 0)) ≡ true) × (is_read (read (Log 0)) ≡ true) × (is_read (write (Tree 0)) ≡ false) × (is_read (drop (Tree 0)) ≡ false)
    × (is_exchange word ≡ true) × (is_exchange (WordWrite Secure 0 7) ≡ true) × (is_exchange (WordRead Untrusted 0 7) ≡ false) × (is_exchange (read (Log 0)) ≡ false)
    × (is_log_move (read (Log 0)) ≡ true) × (is_log_move (write (Log 0)) ≡ true) × (is_log_move (read (Tree 0)) ≡ false) × (is_log_move (drop (Log 0)) ≡ false)
tests = (refl, refl, refl, refl, refl, refl, refl, refl, refl, refl, refl, refl)

more_tests : (is_foreign out ≡ true) × (is_foreign (WordRead Untrusted 0 7) ≡ true) × (is_foreign (WordWrite Untrusted 0 7) ≡ true) × (is_foreign word ≡ false)
    × (is_foreign (Note (marks.Retire Secure)) ≡ false) × (is_foreign (Note marks.Resume) ≡ false) × (is_sent (Note (marks.Sent 3)) ≡ true) × (is_sent (Note marks.CheckPassed) ≡ false)
more_tests = (refl, refl, refl, refl, refl, refl, refl, refl)

-- ---- accesses

-- two paths; a path and two open words, with lines that leave; and nothing
accesses : AreAccesses layout (reads_of_path ++ (read (Tree 1) ∷ read (Log 0) ∷ [])) × AreAccesses layout (reads_of_path ++ fourth) × AreAccesses layout []
unfolding height_of
accesses = (record { each = refl; few = lit≤ tt }, record { each = refl; few = lit≤ tt }, record { each = refl; few = lit≤ tt })

-- a fifth block, a word too many, a mark of a check, and a word of untrusted code
no_accesses : (AreAccesses layout (reads_of_path ++ (read (Tree 1) ∷ read (Log 0) ∷ read (Log 1) ∷ [])) → ⊥)
    × (AreAccesses layout (first ++ (word ∷ word ∷ WordWrite Secure 0 7 ∷ [])) → ⊥)
    × (AreAccesses layout (Note marks.CheckStart ∷ []) → ⊥) × (AreAccesses layout (WordRead Untrusted 0 7 ∷ []) → ⊥)
unfolding height_of
no_accesses = (
  λ are. let no : 10 ≤ 8 = are.few in omega (arith, no),
  λ are. let no : 9 ≤ 8 = are.few in omega (arith, no),
  λ are. let no : false ≡ true = are.each in cc,
  λ are. let no : false ≡ true = are.each in cc,
)

-- ---- what comes after them

abbrev sent : List Event
sent = Note (marks.Sent 5) ∷ []

send_once : SendOnce [] × SendOnce sent × (SendOnce (Note (marks.Sent 5) ∷ Note (marks.Sent 6) ∷ []) → ⊥) × (SendOnce (Note marks.CheckPassed ∷ []) → ⊥)
send_once = (
  record { each = refl; once = lit≤ tt },
  record { each = refl; once = lit≤ tt },
  λ send. let no : 2 ≤ 1 = send.once in omega (arith, no),
  λ send. let no : false ≡ true = send.each in cc,
)

comes : ComesAfter layout None [] × ComesAfter layout (Some Suspend) [] × ComesAfter layout (Some Release) sent × ComesAfter layout (Some Check) second
    × ComesAfter layout (Some Exit) (Note marks.CheckStart ∷ Note marks.CheckPassed ∷ []) × ComesAfter layout (Some Suspend) third
    × ComesAfter layout (Some Suspend) (Note marks.Suspend ∷ Note marks.Resume ∷ [])
comes = (
  nothing refl,
  nothing refl,
  sends refl (record { each = refl; once = lit≤ tt }),
  checks (write (Log 1) ∷ read (Log 0) ∷ read (Log 1) ∷ []) sent refl refl (lit≤ tt) (record { each = refl; once = lit≤ tt }) refl,
  checks [] [] refl refl (lit≤ tt) (record { each = refl; once = lit≤ tt }) refl,
  suspension (WordRead Untrusted 0 7 ∷ out ∷ WordWrite Untrusted 4 7 ∷ []) refl refl (lit≤ tt) refl,
  suspension [] refl refl (lit≤ tt) refl,
)

-- what comes after no accesses fits
fits : (asked : Option SecureInstruction) (events : List Event) → ComesAfter layout asked events → FitsStep layout asked (followed entered events)
unfolding height_of
fits asked events comes = (parts-fit layout asked entered [] events refl refl (record { each = refl; few = lit≤ tt }) comes).0

-- bytes that no release and no check asks for, a check in a suspension, a suspension at an input; a third read of a log of two blocks, five reads of
-- the tree in a check, and a program that is entered while untrusted code runs
does_not_come : (ComesAfter layout None sent → ⊥) × (ComesAfter layout (Some Suspend) second → ⊥) × (ComesAfter layout (Some Input) third → ⊥)
    × (ComesAfter layout (Some Check) (Note marks.CheckStart ∷ read (Log 0) ∷ read (Log 1) ∷ read (Log 0) ∷ Note marks.CheckPassed ∷ []) → ⊥)
    × (ComesAfter layout (Some Check) (Note marks.CheckStart ∷ read (Tree 0) ∷ read (Tree 1) ∷ read (Tree 2) ∷ read (Tree 3) ∷ read (Tree 0) ∷ Note marks.CheckPassed ∷ []) → ⊥)
    × (ComesAfter layout (Some Suspend) (Note marks.Suspend ∷ Note marks.Enter ∷ Note marks.Resume ∷ []) → ⊥)
unfolding height_of
does_not_come = (
  λ comes. let no : 1 ≤ 0 = (fits None sent comes).marks in omega (arith, no),
  λ comes. let no : 3 ≤ 0 = (fits (Some Suspend) second comes).marks in omega (arith, no),
  λ comes. let no : 5 ≤ 0 = (fits (Some Input) third comes).suspension in omega (arith, no),
  λ comes. let no : 3 ≤ 2 = (fits (Some Check) (Note marks.CheckStart ∷ read (Log 0) ∷ read (Log 1) ∷ read (Log 0) ∷ Note marks.CheckPassed ∷ []) comes).reads in omega (arith, no),
  λ comes. let no : 10 ≤ 8 = (fits (Some Check) (Note marks.CheckStart ∷ read (Tree 0) ∷ read (Tree 1) ∷ read (Tree 2) ∷ read (Tree 3) ∷ read (Tree 0) ∷ Note marks.CheckPassed ∷ []) comes).accesses in
      omega (arith, no),
  λ comes. let no : 1 ≡ 0 = (fits (Some Suspend) (Note marks.Suspend ∷ Note marks.Enter ∷ Note marks.Resume ∷ []) comes).entered in omega (arith, no),
)
