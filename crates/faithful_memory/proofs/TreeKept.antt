-- Events at no place of the tree leave the contents of its blocks as they are.
use Rattle.std.proofs.Common.{◌≡◌, ℕ, Bool, cond, Option, Some, None, List, refl, sym, ap, ◌∙◌, subst}
use Rattle.std.specs.Prelude.{IsTrue}
use Rattle.std.specs.FinMap.{get}
use Rattle.aegis_num.specs.declared.storage.Block.{Block}
use Rattle.aegis_num.specs.declared.storage.Place.{Place}
use Rattle.aegis_num.specs.declared.storage.Place.TheVariants.{Tree}
use Rattle.regions.specs.declared.layout.Layout.{Layout}
use Rattle.off_chip.specs.declared.event.Event.{Event}
use Rattle.off_chip.specs.declared.event.Event.TheVariants.{BlockRead, BlockWrite, WordRead, WordWrite, Note}
use Rattle.off_chip.specs.Histories.{History, history}
use Rattle.off_chip.specs.WriteBacks.{last_write, written_at}
use Rattle.off_chip.proofs.HistoryLemmas.{history-appended, newest-untold}
use Rattle.off_chip.proofs.WriteLemmas.{same_place-apart}
use Rattle.line_cache.specs.LineMaps.{LineMap}
use Rattle.hash_tree.specs.HashTrees.{scheme_of}
use Rattle.hash_tree.specs.Standing.{contents_in}
use Rattle.hash_tree.specs.TreeParts.{TreeParts}
use Rattle.hash_tree.specs.TreeSteps.{IsElsewhere}
use Rattle.secure_memory.specs.BlockWords.{is_memory_block, start_at}
use Rattle.secure_memory.specs.MemorySights.{HasContents, HasWordsAt, Sight, contents_of_place}
use Rattle.secure_memory.specs.PrivatePads.{Padding, hidden_payload}
use Rattle.secure_memory.proofs.EventLists.{GrowsElsewhere}
use Rattle.faithful_memory.specs.BetweenAccesses.{KeepsTree}
use Rattle.faithful_memory.specs.KnownWords.{HasDataContents}

elsewhere-unwritten : (n : ℕ) (event : Event) → IsElsewhere event → written_at (Tree n) event ≡ None
elsewhere-unwritten n (BlockWrite at block) elsewhere =
    ap (λ (b : Bool). cond b (Some block) None) (same_place-apart (Tree n) at (λ same. elsewhere n (ap (λ (p : Place). Some p) (sym same))))
elsewhere-unwritten n (BlockRead at block) elsewhere = refl
elsewhere-unwritten n (WordRead by at word) elsewhere = refl
elsewhere-unwritten n (WordWrite by at word) elsewhere = refl
elsewhere-unwritten n (Note mark) elsewhere = refl

pub elsewhere-last : (n : ℕ) (before after : List Event) → GrowsElsewhere before after → last_write (Tree n) (history after) ≡ last_write (Tree n) (history before)
elsewhere-last n before after (GrowsElsewhere.no_more trace) = refl
elsewhere-last n before after (GrowsElsewhere.one_more first middle last event grows elsewhere appended) =
    ap (λ (h : History). last_write (Tree n) h) (history-appended middle after event appended)
    ∙ newest-untold (λ event _. written_at (Tree n) event) event (history middle) (elsewhere-unwritten n event elsewhere)
    ∙ elsewhere-last n before middle grows

-- where no write of a block came, it contains what it contained
pub tree-kept : {L : Type 0} (old new : Sight L) (n : ℕ) → KeepsTree old new → last_write (Tree n) (history new.trace) ≡ last_write (Tree n) (history old.trace)
    → contents_of_place new (Tree n) ≡ contents_of_place old (Tree n)
tree-kept {L} old new n same last =
    ap (λ (o : Option Block). contents_in (scheme_of new.layout (hidden_payload new.tree.veil)) n (get new.lines n) o) last
    ∙ ap (λ (ls : LineMap). contents_in (scheme_of new.layout (hidden_payload new.tree.veil)) n (get ls n) (last_write (Tree n) (history old.trace))) same.lines
    ∙ ap (λ (t : TreeParts L Padding). contents_in (scheme_of new.layout (hidden_payload t.veil)) n (get old.lines n) (last_write (Tree n) (history old.trace))) same.tree
    ∙ ap (λ (l : Layout). contents_in (scheme_of l (hidden_payload old.tree.veil)) n (get old.lines n) (last_write (Tree n) (history old.trace))) same.layout

-- and so it is for all data blocks
pub data-kept : {L : Type 0} (old new : Sight L) (memory : ℕ → ℕ) → new.layout ≡ old.layout
    → ((n : ℕ) → IsTrue (is_memory_block old.layout (Tree n)) → contents_of_place new (Tree n) ≡ contents_of_place old (Tree n))
    → HasDataContents old memory → HasDataContents new memory
data-kept {L} old new memory layout same has = record { block = blocks }
  where
    blocks : (n : ℕ) → IsTrue (is_memory_block new.layout (Tree n)) → HasWordsAt memory (start_at new.layout (Tree n)) (contents_of_place new (Tree n))
    blocks n =
        subst (λ (l : Layout). IsTrue (is_memory_block l (Tree n)) → HasWordsAt memory (start_at l (Tree n)) (contents_of_place new (Tree n))) (sym layout)
        (λ (is : IsTrue (is_memory_block old.layout (Tree n))). subst (λ (o : Option (List ℕ)). HasWordsAt memory (start_at old.layout (Tree n)) o) (sym (same n is)) (has.block n is))

-- and for all blocks, where the log contains what it contained
pub contents-kept : {L : Type 0} (old new : Sight L) (memory : ℕ → ℕ) → new.layout ≡ old.layout → ((place : Place) → contents_of_place new place ≡ contents_of_place old place)
    → HasContents old memory → HasContents new memory
contents-kept {L} old new memory layout same has = record { block = blocks }
  where
    blocks : (place : Place) → IsTrue (is_memory_block new.layout place) → HasWordsAt memory (start_at new.layout place) (contents_of_place new place)
    blocks place =
        subst (λ (l : Layout). IsTrue (is_memory_block l place) → HasWordsAt memory (start_at l place) (contents_of_place new place)) (sym layout)
        (λ (is : IsTrue (is_memory_block old.layout place)). subst (λ (o : Option (List ℕ)). HasWordsAt memory (start_at old.layout place) o) (sym (same place)) (has.block place is))
