-- What an access reads, and the contents after it, where each block that was read is as it was written.
use Rattle.std.proofs.Common.{◌≡◌, ℕ, ◌<◌, ◌≤◌, Bool, Option, Some, None, Result, Ok, Err, List, [], ◌∷◌, sym, ap, ◌∙◌, subst}
use Rattle.std.specs.Prelude.{if◌then◌else◌}
use Rattle.std.proofs.lemmas.List.{append-nil}
use Rattle.regions.specs.declared.addresses.TheConstants.{OPEN_END}
use Rattle.regions.specs.declared.rights.Access.TheVariants.{Fetch, Read, Write}
use Rattle.regions.specs.LooseClasses.{shared_loose}
use Rattle.off_chip.specs.declared.event.Event.{Event}
use Rattle.off_chip.specs.declared.event.Event.TheVariants.{WordRead}
use Rattle.off_chip.specs.declared.event.Who.TheVariants.{Secure}
use Rattle.off_chip.specs.Histories.{history}
use Rattle.hash_tree.specs.AsWritten.{AllAsWritten}
use Rattle.orbis_core.specs.declared.memory.Stop.{Stop}
use Rattle.orbis_core.specs.declared.memory.Stop.TheVariants as stop
use Rattle.orbis_core.specs.declared.memory.Why.{Why}
use Rattle.orbis_core.specs.Accesses.{IsSettled}
use Rattle.orbis_core.specs.ByteOrder.{updated, with_byte, word_start}
use Rattle.orbis_core.specs.Ideal.{is_among}
use Rattle.orbis_core.specs.Refusals.{byte_refusal, word_refusal}
use Rattle.secure_memory.specs.MemoryAccesses.{FetchesWord, IsStopped, IsStoppedBy, Loads, LoadsBlock, LoadsOpen, Reaches, Stores, StoresBlock, StoresOpen, Unless, pinning}
use Rattle.secure_memory.specs.MemorySights.{HasContents, Sight, veil_of}
use Rattle.secure_memory.proofs.IdealLemmas.{among-closed, among-open, either}
use Rattle.faithful_memory.specs.ReadContents.{AccessesReadContents, ReadsContents, stored}
use Rattle.faithful_memory.proofs.ReadLemmas.{reaches-give}
use Rattle.faithful_memory.proofs.WordsKept.{Given, given-each}

pub not-refused : {L : Type 0} (at : ℕ) (why : Why) (old new : Sight L) → IsStoppedBy at old new (stop.Refused why) → ⊥
not-refused at why old new by = elim by [ ]

pub not-stopped : {L : Type 0} (T : Type 0) (at : ℕ) (reason : Stop) (old new : Sight L) → IsStopped at reason old new → IsSettled {T = T} (Err reason) → ⊥
not-stopped T at (stop.Refused why) old new stopped settled = not-refused at why old new stopped.by
not-stopped T at (stop.Tree event) old new stopped settled = settled
not-stopped T at (stop.Log event) old new stopped settled = settled

-- nothing was done
nothing : {L : Type 0} (old new : Sight L) (memory : ℕ → ℕ) → new ≡ old → HasContents old memory → ReadsContents old new memory memory
nothing old new memory same has = record {
  events = [];
  appended = ap (λ (s : Sight _). s.trace) same ∙ sym (append-nil old.trace);
  reads = given-each old.layout (veil_of old) memory [] tt;
  contents = subst (λ (s : Sight _). HasContents s memory) (sym same) has;
}

-- ---- loads

reached : {L : Type 0} (at : ℕ) (old new : Sight L) (memory : ℕ → ℕ) → AllAsWritten (history new.trace) → HasContents old memory → Reaches at old new → ReadsContents old new memory memory
reached at old new memory all has reaches =
    let now : HasContents new memory = reaches.acts.contents all memory has in
    record { events = reaches.events; appended = reaches.acts.appended; reads = reaches-give at old new memory reaches now; contents = now }

loads-read : {L : Type 0} (in_block : List ℕ → ℕ) (in_word : ℕ → ℕ) (at : ℕ) (answer : Result ℕ Stop) (old new : Sight L) (memory : ℕ → ℕ) → IsSettled answer
    → AllAsWritten (history new.trace) → HasContents old memory → Loads in_block in_word at answer old new → ReadsContents old new memory memory
loads-read in_block in_word at (Err reason) old new memory settled all has does = absurd (not-stopped ℕ at reason old new does settled)
loads-read in_block in_word at (Ok word) old new memory settled all has does =
    either (LoadsOpen in_word at word old new) (LoadsBlock in_block at word old new) (ReadsContents old new memory memory) at
    (λ (below : at < OPEN_END) (loads : LoadsOpen in_word at word old new). record {
      events = WordRead Secure (word_start at) loads.read ∷ [];
      appended = loads.acts.appended;
      reads = given-each old.layout (veil_of old) memory (WordRead Secure (word_start at) loads.read ∷ []) (tt, tt);
      contents = loads.acts.contents all memory has;
    })
    (λ (above : OPEN_END ≤ at) (loads : LoadsBlock in_block at word old new). reached at old new memory all has loads.reaches) does

unless-loads : {L : Type 0} (refusal : Option Why) (in_block : List ℕ → ℕ) (in_word : ℕ → ℕ) (at : ℕ) (answer : Result ℕ Stop) (old new : Sight L) (memory : ℕ → ℕ) → IsSettled answer
    → AllAsWritten (history new.trace) → HasContents old memory → Unless refusal answer old new (Loads in_block in_word at answer old new) → ReadsContents old new memory memory
unless-loads (Some why) in_block in_word at answer old new memory settled all has does = nothing old new memory does.1 has
unless-loads None in_block in_word at answer old new memory settled all has does = loads-read in_block in_word at answer old new memory settled all has does

unless-fetches : {L : Type 0} (refusal : Option Why) (at : ℕ) (answer : Result ℕ Stop) (old new : Sight L) (memory : ℕ → ℕ) → IsSettled answer
    → AllAsWritten (history new.trace) → HasContents old memory → Unless refusal answer old new (FetchesWord at answer old new) → ReadsContents old new memory memory
unless-fetches (Some why) at answer old new memory settled all has does = nothing old new memory does.1 has
unless-fetches None at answer old new memory settled all has does =
    let reads = loads-read _ _ at answer (pinning [] old) (pinning [] new) memory settled all (record { block = has.block }) does.loads in
    record { events = reads.events; appended = reads.appended; reads = reads.reads; contents = record { block = reads.contents.block } }

-- ---- stores

stores-read : {L : Type 0} (refusal : Option Why) (value : ℕ → ℕ) (left : List ℕ → List ℕ) (events : ℕ → List Event) (at : ℕ) (answer : Result (Unit {0}) Stop) (old new : Sight L) (memory : ℕ → ℕ)
    → ((read : ℕ) → Given old.layout (veil_of old) memory (events read)) → IsSettled answer → AllAsWritten (history new.trace) → HasContents old memory
    → Unless refusal answer old new (Stores value left events at answer old new) → ReadsContents old new memory (stored old.layout answer at (value (memory (word_start at))) memory)
stores-read (Some why) value left events at answer old new memory opens settled all has does =
    subst (λ (a : Result (Unit {0}) Stop). ReadsContents old new memory (stored old.layout a at (value (memory (word_start at))) memory)) (sym does.0) (nothing old new memory does.1 has)
stores-read None value left events at (Err reason) old new memory opens settled all has does = absurd (not-stopped (Unit {0}) at reason old new does settled)
stores-read None value left events at (Ok done) old new memory opens settled all has does =
    let P : Bool → Type 0 = λ b. ReadsContents old new memory (if b then memory else updated memory (word_start at) (value (memory (word_start at)))) in
    either (StoresOpen events old new) (StoresBlock value left at old new) (P (is_among shared_loose old.layout at)) at
    (λ (below : at < OPEN_END) (stores : StoresOpen events old new). subst P (sym (among-open old.layout at below)) (record {
      events = events stores.read;
      appended = stores.acts.appended;
      reads = given-each old.layout (veil_of old) memory (events stores.read) (opens stores.read);
      contents = stores.acts.contents all memory has;
    }))
    (λ (above : OPEN_END ≤ at) (stores : StoresBlock value left at old new). subst P (sym (among-closed old.layout at above)) (record {
      events = stores.reaches.events;
      appended = stores.acts.appended;
      reads = reaches-give at old stores.middle memory stores.reaches
          (stores.reaches.acts.contents (subst (λ (t : List Event). AllAsWritten (history t)) (stores.acts.appended ∙ sym stores.reaches.acts.appended) all) memory has);
      contents = stores.acts.contents all memory has;
    })) does

-- ---- the law

pub access-law : (L : Type 0) → AccessesReadContents L
access-law L = record {
  fetch = λ at answer old new memory settled all has does. unless-fetches (word_refusal old.layout old.mode Fetch at) at answer old new memory settled all has does;
  load_word = λ at answer old new memory settled all has does. unless-loads (word_refusal old.layout old.mode Read at) _ _ at answer old new memory settled all has does;
  load_byte = λ at answer old new memory settled all has does. unless-loads (byte_refusal old.layout old.mode Read at) _ _ at answer old new memory settled all has does;
  store_word = λ at word answer old new memory settled all has does.
      stores-read (word_refusal old.layout old.mode Write at) (λ before. word) _ _ at answer old new memory (λ read. (tt, tt)) settled all has does;
  store_byte = λ at byte answer old new memory settled all has does.
      stores-read (byte_refusal old.layout old.mode Write at) (λ before. with_byte before at byte) _ _ at answer old new memory (λ read. (tt, (tt, tt))) settled all has does;
}
