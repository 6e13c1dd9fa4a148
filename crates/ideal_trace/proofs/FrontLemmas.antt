-- What a faithful run sent and wrote is a front of what the ideal machine sends and writes.
use Rattle.std.proofs.Common.{◌≡◌, ℕ, ◌+◌, ◌-◌, ◌≤◌, true, List, ◌++◌, take, Option, sym, ap, ◌∙◌, subst, arith}
use Rattle.std.proofs.lemmas.List.{append-nil, append_assoc}
use Rattle.std.proofs.lemmas.List.Elements.{filter_map-append}
use Rattle.execution.specs.Run.{Next, Goes, Stops, state_of}
use Rattle.execution.specs.Traffic.{Entry, Extends}
use Rattle.aegis_num.specs.declared.Place.{Place}
use Rattle.regions.specs.LooseClasses.{shared_loose}
use Rattle.off_chip.specs.declared.Event.{Event}
use Rattle.off_chip.specs.Histories.{History, ◌◂◌, in_order}
use Rattle.off_chip.specs.Boundaries.{retired}
use Rattle.off_chip.specs.Epochs.{IsQuiet}
use Rattle.off_chip.specs.ExchangedWords.{bytes_sent, secure_read, words_read}
use Rattle.orbis_core.specs.Ideal.{Ideal, IdealEnd}
use Rattle.orbis_core.proofs.IdealLemmas.{run-extends}
use Rattle.bus_machine.specs.BusData.{EndsAtLast, GoesOn, SendsSo, at_boundary}
use Rattle.bus_machine.specs.BusMachine.{LoadedProgram, Veil, bus_machine}
use Rattle.ideal_trace.specs.FaithfulRuns.{IsSoundProgram, RunsFaithfully}
use Rattle.ideal_trace.specs.IdealRuns.{EndsIdeally, IsSameMachine, ideal_steps, with_words}
use Rattle.ideal_trace.specs.Prefixes.{EndsWhole, FaithfulRunsAreFronts, IsFrontOf}
use Rattle.ideal_trace.proofs.GoingLemmas.{goes-between}
use Rattle.ideal_trace.proofs.StandsLemmas.{faithful-ideal}
use Rattle.ideal_trace.proofs.SoundLemmas.{start}

-- the same machine has released the same bytes
same-bytes : (state other : Ideal) → IsSameMachine state other → other.traffic.bytes ≡ state.traffic.bytes
same-bytes state other same = ap (λ (o : Ideal). o.traffic.bytes) same.is

module _ (image : Place → Option (List ℕ)) (veil : Veil) (program : LoadedProgram) (handed_out : List ℕ) (sound : IsSoundProgram program) where
  front : (older : History) (rest : List Event) (more : List (Entry ℕ)) (steps : ℕ) → RunsFaithfully image veil program older → at_boundary program older ≡ true → GoesOn veil program older
      → SendsSo veil program handed_out older → retired (in_order older) ≤ steps → IsFrontOf program handed_out older (words_read (in_order older ++ rest) ++ more) steps
  front older rest more steps runs boundary goes sends enough =
      let at = faithful-ideal.goes image veil program older goes.state sound runs boundary goes.goes in
      let words : List (Entry ℕ) = words_read (in_order older ++ rest) ++ more in
      let split : words ≡ words_read (in_order older) ++ (words_read rest ++ more) =
      ap (λ (ws : List (Entry ℕ)). ws ++ more) (filter_map-append secure_read (in_order older) rest) ∙ append_assoc (words_read (in_order older)) (words_read rest) more in
      let here : ideal_steps program shared_loose words (retired (in_order older)) ≡ Goes (with_words (words_read rest ++ more) at.ideal) =
      ap (λ (ws : List (Entry ℕ)). ideal_steps program shared_loose ws (retired (in_order older))) split ∙ at.stands (words_read rest ++ more) in
      let count : retired (in_order older) + (steps - retired (in_order older)) ≡ steps = omega (arith, enough) in
      let longer : Extends (state_of (ideal_steps program shared_loose words (retired (in_order older)))).traffic
      (state_of (ideal_steps program shared_loose words (retired (in_order older) + (steps - retired (in_order older))))).traffic =
      run-extends program.layout shared_loose (retired (in_order older)) (steps - retired (in_order older)) (start program sound words) in
      let extends : Extends (with_words (words_read rest ++ more) at.ideal).traffic (state_of (ideal_steps program shared_loose words steps)).traffic = extend words at.ideal (words_read rest ++ more) here count longer in
      let released : at.ideal.traffic.bytes ≡ take (bytes_sent (in_order older)) handed_out ++ sends.held =
      same-bytes goes.state at.ideal at.same ∙ sym (ap (λ (n : Next Ideal IdealEnd). (state_of n).traffic.bytes) goes.goes) ∙ sends.released in
      record {
        bytes = (
          sends.held ++ extends.bytes.0,
          extends.bytes.1 ∙ ap (λ (bs : List ℕ). bs ++ extends.bytes.0) released ∙ append_assoc (take (bytes_sent (in_order older)) handed_out) sends.held extends.bytes.0,
        );
        writes = (extends.writes.0, extends.writes.1 ∙ ap (λ (ws : List (Entry ℕ)). ws ++ extends.writes.0) at.written);
      }
    where
      -- words to come are no part of what has gone out
      extend : (words : List (Entry ℕ)) (ideal : Ideal) (later : List (Entry ℕ)) → ideal_steps program shared_loose words (retired (in_order older)) ≡ Goes (with_words later ideal)
          → retired (in_order older) + (steps - retired (in_order older)) ≡ steps
          → Extends (state_of (ideal_steps program shared_loose words (retired (in_order older)))).traffic
          (state_of (ideal_steps program shared_loose words (retired (in_order older) + (steps - retired (in_order older))))).traffic
          → Extends (with_words later ideal).traffic (state_of (ideal_steps program shared_loose words steps)).traffic
      extend words ideal later here count longer =
          subst (λ (k : ℕ). Extends (with_words later ideal).traffic (state_of (ideal_steps program shared_loose words k)).traffic) count
          (subst (λ (n : Next Ideal IdealEnd). Extends (state_of n).traffic (state_of (ideal_steps program shared_loose words (retired (in_order older) + (steps - retired (in_order older))))).traffic) here longer)

  whole : (end : IdealEnd) (older : History) → RunsFaithfully image veil program older → EndsAtLast veil program end older → SendsSo veil program handed_out older → IsQuiet older
      → EndsWhole program handed_out end older
  whole end older runs ends sends quiet =
      let goes : GoesOn veil program ends.before = goes-between veil program ends.before ends.going.each in
      let ended : bus_machine veil program (ends.event ◂ ends.before) ≡ Stops end ends.at = ap (λ (h : History). bus_machine veil program h) (sym ends.last) ∙ ends.ended in
      let last : EndsIdeally program older end ends.at =
      subst (λ (h : History). EndsIdeally program h end ends.at) (sym ends.last)
      (faithful-ideal.ends image veil program ends.event ends.before goes.state ends.at end sound (subst (λ (h : History). RunsFaithfully image veil program h) ends.last runs) goes.goes ended) in
      record {
        at = last.ideal;
        ends = last.ends;
        bytes = same-bytes ends.at last.ideal last.same ∙ sym (ap (λ (n : Next Ideal IdealEnd). (state_of n).traffic.bytes) ends.ended) ∙ sends.released
            ∙ ap (λ (held : List ℕ). take (bytes_sent (in_order older)) handed_out ++ held) (sends.quiet quiet) ∙ append-nil (take (bytes_sent (in_order older)) handed_out);
        writes = last.written;
      }

pub faithful-fronts : FaithfulRunsAreFronts
faithful-fronts = record {
  goes = λ image veil program handed_out older rest more steps sound runs boundary goes sends enough. front image veil program handed_out sound older rest more steps runs boundary goes sends enough;
  ends = λ image veil program handed_out end older sound runs ends sends quiet. whole image veil program handed_out sound end older runs ends sends quiet;
}
