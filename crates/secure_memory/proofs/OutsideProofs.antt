-- Events at no place of a block, and examples of them.
use Rattle.std.proofs.Common.{◌≡◌, true, false, None, refl, sym, subst}
use Rattle.aegis_num.specs.declared.storage.Block.{Block}
use Rattle.aegis_num.specs.declared.storage.Place.TheVariants.{Log, Tree}
use Rattle.off_chip.specs.declared.event.Event.{Event}
use Rattle.off_chip.specs.declared.event.Event.TheVariants.{BlockRead, BlockWrite, WordRead, WordWrite, Note}
use Rattle.off_chip.specs.declared.event.Mark.TheVariants.{CheckPassed, CheckStart, Drop, Suspend, Sent}
use Rattle.off_chip.specs.declared.event.Who.TheVariants.{Untrusted}
use Rattle.off_chip.specs.Histories.{History, history}
use Rattle.off_chip.specs.WriteBacks.{StampsFit, stamp_written}
use Rattle.off_chip.proofs.HistoryLemmas.{history-appended}
use Rattle.off_chip.proofs.WriteLemmas.{StampsFit-other}
use Rattle.hash_tree.specs.HashTrees.{scheme_of}
use Rattle.hash_tree.specs.TreeSteps.{IsElsewhere}
use Rattle.hash_tree.proofs.LawProofs.{elsewhere-law}
use Rattle.stamp_log.specs.StandsOn.{StandsOn}
use Rattle.stamp_log.specs.Starting.{is_foreign}
use Rattle.stamp_log.proofs.LawProofs.{foreign-law}
use Rattle.secure_memory.specs.PrivatePads.{hidden_payload}
use Rattle.secure_memory.specs.OutsideEvents.{OutsideEventsKeep, is_outside}

pub outside-elsewhere : (event : Event) → is_outside event ≡ true → IsElsewhere event
outside-elsewhere (BlockRead at block) outside = cc
outside-elsewhere (BlockWrite at block) outside = cc
outside-elsewhere (Note (Drop at)) outside = cc
outside-elsewhere event outside = λ m same. cc

pub outside-foreign : (event : Event) → is_outside event ≡ true → is_foreign event ≡ true
outside-foreign (BlockRead at block) outside = cc
outside-foreign (BlockWrite at block) outside = cc
outside-foreign (Note (Drop at)) outside = cc
outside-foreign (Note CheckStart) outside = cc
outside-foreign (Note CheckPassed) outside = cc
outside-foreign event outside = refl

outside-unstamped : (event : Event) → is_outside event ≡ true → stamp_written event ≡ None
outside-unstamped (BlockWrite at block) outside = cc
outside-unstamped event outside = refl

pub outside-law : (L : Type 0) → OutsideEventsKeep L
outside-law L layout tree lines log stamps event old new outside appended stands =
    let more = history-appended old new event appended in
    record {
      parts = stands.parts;
      tree_stands = (elsewhere-law (scheme_of tree.layout (hidden_payload tree.veil)) event lines tree.root old new stands.tree_stands (outside-elsewhere event outside) appended).0;
      log_stands = subst (λ (h : History). StandsOn log h) (sym more) (foreign-law log event (history old) (outside-foreign event outside) stands.log_stands).0;
      stamps_fit = subst (λ (h : History). StampsFit stamps h) (sym more) (StampsFit-other stamps (history old) event stands.stamps_fit (outside-unstamped event outside));
    }

word-outside : is_outside (WordRead Untrusted 4 7) ≡ true
word-outside = refl

written-outside : is_outside (WordWrite Untrusted 4 7) ≡ true
written-outside = refl

suspend-outside : is_outside (Note Suspend) ≡ true
suspend-outside = refl

sent-outside : is_outside (Note (Sent 3)) ≡ true
sent-outside = refl

read-inside : (block : Block) → is_outside (BlockRead (Tree 1) block) ≡ false
read-inside block = refl

write-inside : (block : Block) → is_outside (BlockWrite (Log 1) block) ≡ false
write-inside block = refl

drop-inside : is_outside (Note (Drop (Tree 2))) ≡ false
drop-inside = refl

start-inside : is_outside (Note CheckStart) ≡ false
start-inside = refl

passed-inside : is_outside (Note CheckPassed) ≡ false
passed-inside = refl
