-- Blocks that are not resident are at home.
use Rattle.std.proofs.Common.{◌≡◌, ℕ, ◌<◌, true, false, Option, Some, None, refl, sym, ap, ◌∙◌, subst, arith, inl, inr}
use Rattle.std.specs.Prelude.{IsTrue}
use Rattle.std.specs.FinMap.{get}
use Rattle.std.proofs.lemmas.Bool.Decides.{nat_tests}
use Rattle.aegis_num.specs.declared.storage.Block.{Block}
use Rattle.aegis_num.specs.declared.storage.Place.{Place}
use Rattle.aegis_num.specs.declared.storage.Place.TheVariants.{Log, Tree}
use Rattle.regions.specs.declared.layout.Layout.{Layout}
use Rattle.regions.specs.Tree.{tree_blocks}
use Rattle.off_chip.specs.declared.event.Event.TheVariants.{BlockWrite}
use Rattle.off_chip.specs.Histories.{history}
use Rattle.off_chip.specs.Residency.{is_resident}
use Rattle.off_chip.specs.WriteBacks.{last_write}
use Rattle.off_chip.proofs.HistoryLemmas.{Each-cut}
use Rattle.line_cache.specs.declared.lines.Line.{Line}
use Rattle.hash_tree.specs.AsWritten.{AllAsWritten}
use Rattle.hash_tree.specs.HashTrees.{nodes_of, scheme_of}
use Rattle.hash_tree.specs.Standing.{IsHome, NodeLaidOut, Stands, contents, contents_in, payload_in}
use Rattle.hash_tree.proofs.AsWrittenLemmas.{unfaithful-as_written}
use Rattle.hash_tree.proofs.SchemeLemmas.{blocks-three}
use Rattle.stamp_log.specs.LogState.{line_of}
use Rattle.stamp_log.proofs.ContentLemmas.{contents-written, none-from}
use Rattle.secure_memory.specs.BlockWords.{is_memory_block, start_at}
use Rattle.secure_memory.specs.MemorySights.{HasContents, HasWordsAt, Sight, tree_scheme, tree_state, veil_of}
use Rattle.secure_memory.specs.MemoryStands.{MemoryStands}
use Rattle.secure_memory.proofs.TreeActs.{block-inside}
use Rattle.faithful_memory.specs.ContentsAtHome.{ContentsStayHome, HasSlots, HoldsAtHome, IsAtHome, LinesAreResident, WritesDigests}
use Rattle.faithful_memory.proofs.ReadLemmas.{words-are}

module _ {L : Type 0} (sight : Sight L) (stands : MemoryStands sight.layout sight.tree sight.lines sight.log sight.stamps sight.trace) where
  tree : Stands (tree_scheme sight) (tree_state sight)
  tree = subst (λ (l : Layout). Stands (scheme_of l (veil_of sight)) (tree_state sight)) stands.parts.of_tree stands.tree_stands

  module _ (resident : LinesAreResident sight) (all : AllAsWritten (history sight.trace)) where
    home : IsHome (tree_scheme sight) (tree_state sight)
    home = elim tree.home [ inl is ↦ is | inr deceived ↦ absurd (unfaithful-as_written sight.trace deceived.unfaithful all) ]

    -- a block that is not resident has no line
    no-line : (n : ℕ) (o : Option Line) → get sight.lines n ≡ o → is_resident (Tree n) (history sight.trace) ≡ false → o ≡ None
    no-line n None is gone = refl
    no-line n (Some line) is gone = let e : true ≡ false = sym (resident.resident n line is) ∙ gone in cc

    written : (n : ℕ) → n < tree_blocks sight.layout → (block : Block) × (last_write (Tree n) (history sight.trace) ≡ Some block)
    unfolding scheme_of
    written n inside = home.written n inside

    tree-home : (memory : ℕ → ℕ) (n : ℕ) → IsTrue (is_memory_block sight.layout (Tree n)) → is_resident (Tree n) (history sight.trace) ≡ false
        → HasWordsAt memory (start_at sight.layout (Tree n)) (contents (tree_scheme sight) (tree_state sight) n) → IsAtHome sight memory (Tree n)
    unfolding scheme_of
    tree-home memory n is gone has =
        let found = written n (block-inside sight.layout n is) in
        let none : get sight.lines n ≡ None = no-line n (get sight.lines n) refl gone in
        let there : contents (tree_scheme sight) (tree_state sight) n ≡ Some (veil_of sight n found.0.stamp found.0.payload) =
        ap (λ (o : Option Line). contents_in (tree_scheme sight) n o (last_write (Tree n) (history sight.trace))) none
        ∙ ap (λ (o : Option Block). contents_in (tree_scheme sight) n None o) found.1 in
        record {
          block = found.0;
          last = found.1;
          words = words-are memory (start_at sight.layout (Tree n)) (contents (tree_scheme sight) (tree_state sight) n) (veil_of sight n found.0.stamp found.0.payload) has there;
        }

    log-home : (memory : ℕ → ℕ) (n : ℕ) → IsTrue (is_memory_block sight.layout (Log n)) → is_resident (Log n) (history sight.trace) ≡ false → HasContents sight memory
        → IsAtHome sight memory (Log n)
    log-home memory n is gone has =
        let less : n < sight.layout.log = grind (arith, nat_tests, is) in
        let inside : n < sight.log.blocks = omega (arith, less, stands.parts.of_log) in
        let block = stands.log_stands.trace.written n inside in
        let none : line_of sight.log.lines n ≡ None = none-from (line_of sight.log.lines n) (stands.log_stands.lines.resident n inside ∙ gone) in
        record {
          block = block.block;
          last = block.last;
          words = words-are memory (start_at sight.layout (Log n)) _ block.block.payload (has.block (Log n) is)
              (contents-written sight.log.lines (history sight.trace) n block.block none block.last);
        }

    node-home : (n : ℕ) → n < nodes_of sight.layout → is_resident (Tree n) (history sight.trace) ≡ false → HasSlots sight n
    unfolding scheme_of
    node-home n node gone =
        let found = written n (omega (arith, node, blocks-three sight.layout)) in
        let none : get sight.lines n ≡ None = no-line n (get sight.lines n) refl gone in
        let kept : payload_in (get sight.lines n) (last_write (Tree n) (history sight.trace)) ≡ Some found.0.payload =
        ap (λ (o : Option Line). payload_in o (last_write (Tree n) (history sight.trace))) none ∙ ap (λ (o : Option Block). payload_in None o) found.1 in
        let P : ℕ → Type 0 = λ m. payload_in (get sight.lines m) (last_write (Tree m) (history sight.trace)) ≡ Some found.0.payload in
        record {
          block = found.0;
          last = found.1;
          slots = λ child some inside parent.
              let below = written child inside in
              record { block = below.0; last = below.1; slot = home.slots child below.0 found.0.payload some inside below.1 (subst P (sym parent) kept) };
        }

    holds : (memory : ℕ → ℕ) → HasContents sight memory → HoldsAtHome sight memory
    holds memory has = record { blocks = by; nodes = node-home }
      where
        by : (place : Place) → IsTrue (is_memory_block sight.layout place) → is_resident place (history sight.trace) ≡ false → IsAtHome sight memory place
        by (Tree n) is gone = tree-home memory n is gone (has.block (Tree n) is)
        by (Log n) is gone = log-home memory n is gone has

  digests : WritesDigests sight
  unfolding scheme_of
  digests = record {
    each = λ before n block rest parts node all.
        Each-cut (NodeLaidOut (tree_scheme sight)) sight.trace before (BlockWrite (Tree n) block) rest parts tree.writes.each node all;
  }

pub home-law : (L : Type 0) → ContentsStayHome L
home-law L = record { home = λ sight memory stands resident all has. holds sight stands resident all memory has; digests = λ sight stands. digests sight stands }
