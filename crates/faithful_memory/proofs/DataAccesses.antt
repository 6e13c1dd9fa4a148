-- What an access reads of data blocks, and what they contain after it.
use Rattle.std.proofs.Common.{◌≡◌, ℕ, ◌<◌, ◌≤◌, Bool, true, Option, Some, None, Result, Ok, Err, List, [], ◌∷◌, ◌++◌, refl, sym, ap, ◌∙◌, subst}
use Rattle.std.specs.Prelude.{if◌then◌else◌}
use Rattle.std.specs.List.{list_all}
use Rattle.aegis_num.specs.declared.storage.Place.TheVariants.{Tree}
use Rattle.std.proofs.lemmas.List.{append-nil}
use Rattle.regions.specs.declared.addresses.TheConstants.{OPEN_END}
use Rattle.regions.specs.declared.rights.Access.TheVariants.{Fetch, Read, Write}
use Rattle.regions.specs.LooseClasses.{shared_loose}
use Rattle.off_chip.specs.declared.event.Event.{Event}
use Rattle.off_chip.specs.declared.event.Event.TheVariants.{WordRead}
use Rattle.off_chip.specs.declared.event.Who.TheVariants.{Secure}
use Rattle.off_chip.specs.Histories.{history}
use Rattle.orbis_core.specs.declared.memory.Stop.{Stop}
use Rattle.orbis_core.specs.declared.memory.Why.{Why}
use Rattle.orbis_core.specs.Accesses.{IsSettled}
use Rattle.orbis_core.specs.ByteOrder.{updated, with_byte, word_start}
use Rattle.orbis_core.specs.Ideal.{is_among}
use Rattle.orbis_core.specs.Refusals.{byte_refusal, word_refusal}
use Rattle.secure_memory.specs.BlockWords.{IsPlaced}
use Rattle.secure_memory.specs.MemoryAccesses.{FetchesWord, Loads, LoadsBlock, LoadsOpen, Stores, StoresBlock, StoresOpen, Unless, pinning}
use Rattle.secure_memory.specs.MemorySights.{Sight, veil_of}
use Rattle.secure_memory.specs.OutsideEvents.{is_outside}
use Rattle.secure_memory.proofs.IdealLemmas.{among-closed, among-open, byte-placed, either, word-parts}
use Rattle.faithful_memory.specs.BetweenAccesses.{KeepsTree}
use Rattle.faithful_memory.specs.DataContents.{AccessesReadData, LeavesTree}
use Rattle.faithful_memory.specs.KnownWords.{HasDataContents, TreeAsWritten}
use Rattle.faithful_memory.specs.ReadContents.{ReadsDataContents, stored}
use Rattle.faithful_memory.proofs.AccessReads.{not-stopped}
use Rattle.faithful_memory.proofs.DataReads.{puts-data, reaches-data, reaches-give_data}
use Rattle.faithful_memory.proofs.OutsideReads.{outside-given, outside-write}
use Rattle.faithful_memory.proofs.TreeKept.{data-kept, tree-kept}
use Rattle.faithful_memory.proofs.WordsKept.{given-data, given_data-each}

nothing : {L : Type 0} (old new : Sight L) (memory : ℕ → ℕ) → new ≡ old → HasDataContents old memory → ReadsDataContents old new memory memory
nothing old new memory same has = record {
  events = [];
  appended = ap (λ (s : Sight _). s.trace) same ∙ sym (append-nil old.trace);
  reads = given_data-each old.layout (veil_of old) memory [] tt;
  contents = subst (λ (s : Sight _). HasDataContents s memory) (sym same) has;
}

-- an open word was read or written
opened : {L : Type 0} (events : List Event) (old new : Sight L) (memory : ℕ → ℕ) → new.trace ≡ old.trace ++ events → KeepsTree old new → list_all is_outside events ≡ true
    → HasDataContents old memory → ReadsDataContents old new memory memory
opened events old new memory appended same outside has = record {
  events = events;
  appended = appended;
  reads = given_data-each old.layout (veil_of old) memory events (given-data old.layout (veil_of old) memory events (outside-given old.layout (veil_of old) memory events outside));
  contents = data-kept old new memory same.layout (λ n is. tree-kept old new n same (outside-write (Tree n) old.trace new.trace events appended outside)) has;
}

-- ---- loads

loads-data : {L : Type 0} (in_block : List ℕ → ℕ) (in_word : ℕ → ℕ) (at : ℕ) (answer : Result ℕ Stop) (old new : Sight L) (memory : ℕ → ℕ) → IsSettled answer → LeavesTree at old new
    → TreeAsWritten (history new.trace) → HasDataContents old memory → Loads in_block in_word at answer old new → ReadsDataContents old new memory memory
loads-data in_block in_word at (Err reason) old new memory settled leaves all has does = absurd (not-stopped ℕ at reason old new does settled)
loads-data in_block in_word at (Ok word) old new memory settled leaves all has does =
    either (LoadsOpen in_word at word old new) (LoadsBlock in_block at word old new) (ReadsDataContents old new memory memory) at
    (λ (below : at < OPEN_END) (loads : LoadsOpen in_word at word old new).
    opened (WordRead Secure (word_start at) loads.read ∷ []) old new memory loads.acts.appended (leaves below) refl has)
    (λ (above : OPEN_END ≤ at) (loads : LoadsBlock in_block at word old new).
    let now : HasDataContents new memory = reaches-data at old new memory loads.reaches all has in
    record { events = loads.reaches.events; appended = loads.reaches.acts.appended; reads = reaches-give_data at old new memory loads.reaches now; contents = now }) does

unless-loads : {L : Type 0} (refusal : Option Why) (in_block : List ℕ → ℕ) (in_word : ℕ → ℕ) (at : ℕ) (answer : Result ℕ Stop) (old new : Sight L) (memory : ℕ → ℕ) → IsSettled answer
    → LeavesTree at old new → TreeAsWritten (history new.trace) → HasDataContents old memory → Unless refusal answer old new (Loads in_block in_word at answer old new)
    → ReadsDataContents old new memory memory
unless-loads (Some why) in_block in_word at answer old new memory settled leaves all has does = nothing old new memory does.1 has
unless-loads None in_block in_word at answer old new memory settled leaves all has does = loads-data in_block in_word at answer old new memory settled leaves all has does

unless-fetches : {L : Type 0} (refusal : Option Why) (at : ℕ) (answer : Result ℕ Stop) (old new : Sight L) (memory : ℕ → ℕ) → IsSettled answer → LeavesTree at old new
    → TreeAsWritten (history new.trace) → HasDataContents old memory → Unless refusal answer old new (FetchesWord at answer old new) → ReadsDataContents old new memory memory
unless-fetches (Some why) at answer old new memory settled leaves all has does = nothing old new memory does.1 has
unless-fetches None at answer old new memory settled leaves all has does =
    let reads = loads-data _ _ at answer (pinning [] old) (pinning [] new) memory settled
    (λ below. let same = leaves below in record { layout = same.layout; tree = same.tree; lines = same.lines }) all (record { block = has.block }) does.loads in
    record { events = reads.events; appended = reads.appended; reads = reads.reads; contents = record { block = reads.contents.block } }

-- ---- stores

stores-data : {L : Type 0} (refusal : Option Why) (value : ℕ → ℕ) (left : List ℕ → List ℕ) (events : ℕ → List Event) (at : ℕ) (answer : Result (Unit {0}) Stop) (old new : Sight L) (memory : ℕ → ℕ)
    → (refusal ≡ None → IsPlaced old.layout at) → ((read : ℕ) → list_all is_outside (events read) ≡ true) → IsSettled answer → LeavesTree at old new
    → TreeAsWritten (history new.trace) → HasDataContents old memory → Unless refusal answer old new (Stores value left events at answer old new)
    → ReadsDataContents old new memory (stored old.layout answer at (value (memory (word_start at))) memory)
stores-data (Some why) value left events at answer old new memory placed outside settled leaves all has does =
    subst (λ (a : Result (Unit {0}) Stop). ReadsDataContents old new memory (stored old.layout a at (value (memory (word_start at))) memory)) (sym does.0) (nothing old new memory does.1 has)
stores-data None value left events at (Err reason) old new memory placed outside settled leaves all has does = absurd (not-stopped (Unit {0}) at reason old new does settled)
stores-data None value left events at (Ok done) old new memory placed outside settled leaves all has does =
    let P : Bool → Type 0 = λ b. ReadsDataContents old new memory (if b then memory else updated memory (word_start at) (value (memory (word_start at)))) in
    either (StoresOpen events old new) (StoresBlock value left at old new) (P (is_among shared_loose old.layout at)) at
    (λ (below : at < OPEN_END) (stores : StoresOpen events old new).
    subst P (sym (among-open old.layout at below)) (opened (events stores.read) old new memory stores.acts.appended (leaves below) (outside stores.read) has))
    (λ (above : OPEN_END ≤ at) (stores : StoresBlock value left at old new).
    let trace : new.trace ≡ stores.middle.trace = stores.acts.appended ∙ sym stores.reaches.acts.appended in
    let between : HasDataContents stores.middle memory =
    reaches-data at old stores.middle memory stores.reaches (subst (λ (t : List Event). TreeAsWritten (history t)) trace all) has in
    subst P (sym (among-closed old.layout at above)) (record {
      events = stores.reaches.events;
      appended = stores.acts.appended;
      reads = reaches-give_data at old stores.middle memory stores.reaches between;
      contents = puts-data value left at old stores.middle new memory stores.reaches (placed refl) above stores.puts between;
    })) does

-- ---- the law

pub data-law : (L : Type 0) → AccessesReadData L
data-law L = record {
  fetch = λ at answer old new memory settled leaves all has does. unless-fetches (word_refusal old.layout old.mode Fetch at) at answer old new memory settled leaves all has does;
  load_word = λ at answer old new memory settled leaves all has does. unless-loads (word_refusal old.layout old.mode Read at) _ _ at answer old new memory settled leaves all has does;
  load_byte = λ at answer old new memory settled leaves all has does. unless-loads (byte_refusal old.layout old.mode Read at) _ _ at answer old new memory settled leaves all has does;
  store_word = λ at word answer old new memory settled leaves all has does.
      stores-data (word_refusal old.layout old.mode Write at) (λ before. word) _ _ at answer old new memory (λ none. (word-parts old.layout old.mode Write at none).0) (λ read. refl)
      settled leaves all has does;
  store_byte = λ at byte answer old new memory settled leaves all has does.
      stores-data (byte_refusal old.layout old.mode Write at) (λ before. with_byte before at byte) _ _ at answer old new memory (byte-placed old.layout old.mode Write at) (λ read. refl)
      settled leaves all has does;
}
