-- The events of a check of the log.
use Rattle.std.proofs.Common.{◌≡◌, ℕ, ◌+◌, ◌-◌, ◌/◌, ◌<◌, ◌&&◌, arith, Bool, true, false, List, [], ◌∷◌, ◌++◌, refl, sym, ap, ◌∙◌}
use Rattle.std.specs.Prelude.{if◌then◌else◌, nat_le, nat_lt, slice_index}
use Rattle.std.specs.List.{list_all}
use Rattle.std.proofs.lemmas.Bool.{and_from, and_parts}
use Rattle.std.proofs.lemmas.Bool.Decides.{nat_tests}
use Rattle.std.proofs.lemmas.List.{append_assoc}
use Rattle.std.proofs.lemmas.List.Folds.{list_all-append}
use Rattle.aegis_num.specs.declared.Place.TheVariants.{Log, Tree}
use Rattle.regions.specs.declared.addresses.TheConstants.{LOG_START}
use Rattle.regions.specs.declared.Layout.{Layout}
use Rattle.off_chip.specs.declared.Event.{Event}
use Rattle.off_chip.specs.declared.Event.TheVariants.{BlockRead, BlockWrite, Note, WordRead, WordWrite}
use Rattle.off_chip.specs.declared.Mark.TheVariants as mark
use Rattle.off_chip.specs.Histories.{History, ◌◂◌, followed}
use Rattle.off_chip.specs.Residency.{in_check}
use Rattle.off_chip.proofs.SplitLemmas.{push-same}
use Rattle.orbis_core.specs.ByteOrder.{log_block_start, with_block, words_in}
use Rattle.bus_machine.specs.BusAccesses.{is_block_event}
use Rattle.bus_machine.specs.BusMachine.{Veil, blocks_taken, memory_after}
use Rattle.aegis_machine.specs.InstructionsDone.{is_log_event}

-- ---- they are of blocks, and change no word below the log

log-block : (event : Event) → is_log_event event ≡ true → is_block_event event ≡ true
log-block (BlockRead at block) is = refl
log-block (BlockWrite at block) is = refl
log-block (WordRead by at word) is = cc
log-block (WordWrite by at word) is = cc
log-block (Note mark) is = cc

pub log-blocks : (events : List Event) → list_all is_log_event events ≡ true → list_all is_block_event events ≡ true
log-blocks [] each = refl
log-blocks (event ∷ events) each =
    let parts = and_parts (is_log_event event) (list_all is_log_event events) each in
    and_from (is_block_event event) (list_all is_block_event events) (log-block event parts.0) (log-blocks events parts.1)

below-block : (memory : ℕ → ℕ) (n at : ℕ) (payload : List ℕ) → at < LOG_START → with_block memory (log_block_start n) payload at ≡ memory at
below-block memory n at payload below =
    let outside : (nat_le (log_block_start n) at && nat_lt at (log_block_start n + 64)) ≡ false = grind (arith, nat_tests) in
    ap (λ (b : Bool). if b then slice_index (words_in payload) ((at - log_block_start n) / 4) else memory at) outside

log-below : (b : Bool) (memory : ℕ → ℕ) (n at : ℕ) (payload : List ℕ) → at < LOG_START → (if b then with_block memory (log_block_start n) payload else memory) at ≡ memory at
log-below true memory n at payload below = below-block memory n at payload below
log-below false memory n at payload below = refl

log-stays : (layout : Layout) (veil : Veil) (event : Event) (memory : ℕ → ℕ) (at : ℕ) → is_log_event event ≡ true → at < LOG_START → memory_after layout veil event memory at ≡ memory at
log-stays layout veil (BlockRead (Log n) block) memory at is below = log-below (nat_lt n layout.log) memory n at block.payload below
log-stays layout veil (BlockRead (Tree n) block) memory at is below = cc
log-stays layout veil (BlockWrite place block) memory at is below = refl
log-stays layout veil (WordRead by from word) memory at is below = refl
log-stays layout veil (WordWrite by from word) memory at is below = refl
log-stays layout veil (Note mark) memory at is below = refl

pub logs-stay : (layout : Layout) (veil : Veil) (events : List Event) (memory : ℕ → ℕ) (at : ℕ) → list_all is_log_event events ≡ true → at < LOG_START → blocks_taken layout veil events memory at ≡ memory at
logs-stay layout veil [] memory at each below = refl
logs-stay layout veil (event ∷ events) memory at each below =
    let parts = and_parts (is_log_event event) (list_all is_log_event events) each in
    logs-stay layout veil events (memory_after layout veil event memory) at parts.1 below ∙ log-stays layout veil event memory at parts.0 below

-- ---- a check goes on over them

same-check : (event : Event) (older : History) → is_log_event event ≡ true → in_check (event ◂ older) ≡ in_check older
same-check (BlockRead at block) older is = refl
same-check (BlockWrite at block) older is = refl
same-check (WordRead by at word) older is = cc
same-check (WordWrite by at word) older is = cc
same-check (Note mark) older is = cc

pub checks-on : (older : History) (events : List Event) → list_all is_log_event events ≡ true → in_check older ≡ true → in_check (followed older events) ≡ true
checks-on older [] each on = on
checks-on older (event ∷ events) each on =
    let parts = and_parts (is_log_event event) (list_all is_log_event events) each in checks-on (event ◂ older) events parts.1 (same-check event older parts.0 ∙ on)

-- the last event of a check, after its mark, and those before it
pub record LastOfCheck (start checked before : List Event) (event : Event) : Type 0 where
  pub front : List Event
  pub before_is : before ≡ start ++ Note mark.CheckStart ∷ front
  pub each : list_all is_log_event front ≡ true

data FromEnd : List Event → Type 0 where
  nothing : FromEnd []
  last : (front : List Event) (event : Event) → FromEnd (front ++ event ∷ [])

from-end : (events : List Event) → FromEnd events
from-end [] = nothing
from-end (event ∷ events) = by events (from-end events)
  where
    by : (rest : List Event) → FromEnd rest → FromEnd (event ∷ rest)
    by _ nothing = last [] event
    by _ (last front later) = last (event ∷ front) later

pub last-of-check : (start checked before : List Event) (event : Event) → start ++ Note mark.CheckStart ∷ checked ≡ before ++ event ∷ [] → is_log_event event ≡ true
    → list_all is_log_event checked ≡ true → LastOfCheck start checked before event
last-of-check start checked before event same is each = by checked (from-end checked) same each
  where
    by : (events : List Event) → FromEnd events → start ++ Note mark.CheckStart ∷ events ≡ before ++ event ∷ [] → list_all is_log_event events ≡ true → LastOfCheck start events before event
    by _ nothing same each =
        let parts = push-same start before (Note mark.CheckStart) event same in
        let e : false ≡ true = ap (λ (e : Event). is_log_event e) parts.1 ∙ is in cc
    by _ (last front later) same each =
        let parts = push-same (start ++ Note mark.CheckStart ∷ front) before later event (append_assoc start (Note mark.CheckStart ∷ front) (later ∷ []) ∙ same) in
        record {
          front = front;
          before_is = sym parts.0;
          each = (and_parts (list_all is_log_event front) (list_all is_log_event (later ∷ [])) (sym (list_all-append is_log_event front (later ∷ [])) ∙ each)).0;
        }
