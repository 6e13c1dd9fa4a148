-- A turn, from what the machine keeps.
use Rattle.std.proofs.Common.{◌≡◌, ℕ, ◌≤◌, ◌++◌, arith, false, List, [], length, Option, Some, None, refl, sym, ap, ◌∙◌, subst}
use Rattle.std.specs.Prelude.{IfSome}
use Rattle.aegis_num.specs.declared.Key.{Key}
use Rattle.aegis_machine.specs.declared.turns.Turn.{Turn}
use Rattle.std.proofs.lemmas.List.{append-nil, append_assoc}
use Rattle.std.proofs.lemmas.List.Sums.{count_by-le-length}
use Rattle.aegis_edge.specs.Faults.{Rose}
use Rattle.aegis_edge.specs.Sink.{Appends}
use Rattle.off_chip.specs.Boundaries.{is_retire}
use Rattle.image_file.specs.declared.Image.{Image}
use Rattle.off_chip.specs.declared.Event.{Event}
use Rattle.line_cache.specs.LineMaps.{LineMap}
use Rattle.orbis_core.specs.Processor.{Processor, reset_core}
use Rattle.secure_memory.specs.declared.Parts.{Parts}
use Rattle.bus_machine.specs.BusMachine.{Veil}
use Rattle.aegis_machine.specs.declared.ends.End.{End}
use Rattle.aegis_machine.specs.declared.ends.End.TheVariants as ends
use Rattle.aegis_machine.specs.declared.turns.Turn.TheVariants.{Over}
use Rattle.regions.specs.Modes.{Modes}
use Rattle.regions.specs.declared.Mode.TheVariants.{Std, Te}
use Rattle.hash_tree.specs.TreeParts.{TreeParts}
use Rattle.stamp_log.specs.LogState.{LogState}
use Rattle.stamp_log.specs.StandsOn.{IsNew}
use Rattle.secure_memory.specs.MemoryStands.{IsOfLayout}
use Rattle.secure_memory.specs.PrivatePads.{Padding, hidden_payload}
use Rattle.orbis_core.specs.Ideal.{entry_address}
use Rattle.aegis_machine.specs.Stores.{IsNewStore, StoreParts}
use Rattle.aegis_machine.specs.MachineParts.{CarriesSums, FitsMachine, IsOfEntering, StandsWith, TakesIn, TakesRest, parked, unentered}
use Rattle.aegis_machine.specs.declared.machine.Machine.{Machine as TurnMachine}
use Rattle.aegis_machine.proofs.RunLemmas.{appends-both}

pub stands-same : {L : Type 0} (lines : L → LineMap) (image : Image) (input : List ℕ) (veil : Veil) (trace : List Event) (handed_out : List ℕ) (core core' : Processor) (next next' : ℕ)
    (held held' : List ℕ) (fuel fuel' count count' : ℕ) (parts : Parts L) → core' ≡ core → next' ≡ next → held' ≡ held → fuel' ≡ fuel → count' ≡ count
    → StandsWith lines image input veil trace handed_out core next held fuel count parts → StandsWith lines image input veil trace handed_out core' next' held' fuel' count' parts
stands-same lines image input veil trace handed_out core core' next next' held held' fuel fuel' count count' parts a b c d e stands =
    let P1 : Processor → Type 0 = λ x. StandsWith lines image input veil trace handed_out x next held fuel count parts in
    let P2 : ℕ → Type 0 = λ x. StandsWith lines image input veil trace handed_out core' x held fuel count parts in
    let P3 : List ℕ → Type 0 = λ x. StandsWith lines image input veil trace handed_out core' next' x fuel count parts in
    let P4 : ℕ → Type 0 = λ x. StandsWith lines image input veil trace handed_out core' next' held' x count parts in
    let P5 : ℕ → Type 0 = λ x. StandsWith lines image input veil trace handed_out core' next' held' fuel' x parts in
    subst P5 (sym e) (subst P4 (sym d) (subst P3 (sym c) (subst P2 (sym b) (subst P1 (sym a) stands))))

pub appends-nothing : (written : Option (List ℕ)) → Appends written written []
appends-nothing None = refl
appends-nothing (Some bytes) = ap (λ (xs : List ℕ). Some xs) (sym (append-nil bytes))

-- where a run ends before its first instruction, nothing was handed out, and no abort carries sums
pub takes-nothing : (end : End) (trace : List Event) (written : Option (List ℕ)) (faults : ℕ) → IsOfEntering end → TakesIn (Over end) trace written written faults faults []
takes-nothing (ends.FuelOut count) trace written faults of = (appends-nothing written, refl)
takes-nothing (ends.AbortProgram read expected) trace written faults of = (appends-nothing written, refl)
takes-nothing end trace written faults of = absurd of

pub carries-nothing : (key : Option Key) (end : End) (trace : List Event) → IsOfEntering end → IfSome key (λ k. CarriesSums k (Over end) trace)
carries-nothing None end trace of = tt
carries-nothing (Some key) (ends.FuelOut count) trace of = tt
carries-nothing (Some key) (ends.AbortProgram read expected) trace of = tt
carries-nothing (Some key) end trace of = absurd of

pub carries-some : (found : Option Key) (key : Key) (turn : Turn) (trace : List Event) → found ≡ Some key → CarriesSums key turn trace → IfSome found (λ k. CarriesSums k turn trace)
carries-some found key turn trace is carries = let P : Option Key → Type 0 = λ o. IfSome o (λ k. CarriesSums k turn trace) in subst P (sym is) carries

-- a new machine fits its image
pub new-fits : {L : Type 0} (lines : L → LineMap) (image : Image) (input : List ℕ) (store : StoreParts L) (fuel : ℕ) (tree : TreeParts L Padding) (log : LogState) (held : List ℕ) (stamps : ℕ) (modes : Modes)
    (core : Processor) → tree ≡ store.tree → log ≡ store.log → held ≡ store.held → stamps ≡ 0 → modes ≡ record { mode = Std; kept = Te } → core ≡ reset_core (entry_address image.layout image.entry)
    → IsNewStore lines image.layout store → FitsMachine lines image input (hidden_payload store.tree.veil) [] []
    (record { parts = Some (record { tree = tree; log = log; stamps = stamps; modes = modes; layout = image.layout }); core = core; next = 0; held = held; fuel = fuel; retired = 0; entered = false })
new-fits {L} lines image input store fuel tree log held stamps modes core same_tree same_log same_held none start at is =
    let T : TreeParts L Padding → Type 0 = λ t. IsOfLayout image.layout t log in
    let G : LogState → Type 0 = λ l. IsOfLayout image.layout store.tree l in
    let N : LogState → Type 0 = λ l. IsNew l in
    unentered (record { tree = tree; log = log; stamps = stamps; modes = modes; layout = image.layout }) (record {
      kept = refl;
      entered = refl;
      of_layout = subst T (sym same_tree) (subst G (sym same_log) is.layouts);
      layout = refl;
      same_veil = ap (λ (t : TreeParts L Padding). hidden_payload t.veil) same_tree;
      no_lines = ap (λ (t : TreeParts L Padding). lines t.lines) same_tree ∙ is.lines;
      new_log = subst N (sym same_log) is.log;
      stamps = none;
      modes = start;
      core = at;
      next = refl;
      held = same_held ∙ is.held;
      count = refl;
      no_event = refl;
      nothing = refl;
    })

-- what a sink took in several turns
pub takes-more : (end : End) (trace : List Event) (first middle last : Option (List ℕ)) (first_faults middle_faults last_faults : ℕ) (piece more : List ℕ) → Appends first middle piece → middle_faults ≡ first_faults
    → TakesIn (Over end) trace middle last middle_faults last_faults more → TakesIn (Over end) trace first last first_faults last_faults (piece ++ more)
takes-more ends.WriteFault trace first middle last first_faults middle_faults last_faults piece more taken steady takes =
    let P : ℕ → Type 0 = λ n. Rose n last_faults in
    let but = takes.0 in (
      record {
        before = but.before;
        count = but.count;
        last = but.last;
        first = piece ++ but.first;
        rest = but.rest;
        parts = ap (λ (bytes : List ℕ). piece ++ bytes) but.parts ∙ sym (append_assoc piece but.first but.rest);
        long = but.long;
        middle = but.middle;
        taken = appends-both first middle but.middle piece but.first taken but.taken;
        front = but.front;
      },
      subst P steady takes.1,
    )
takes-more ends.Ended trace first middle last first_faults middle_faults last_faults piece more taken steady takes = (appends-both first middle last piece more taken takes.0, takes.1 ∙ steady)
takes-more (ends.Index at) trace first middle last first_faults middle_faults last_faults piece more taken steady takes = (appends-both first middle last piece more taken takes.0, takes.1 ∙ steady)
takes-more (ends.Divide at) trace first middle last first_faults middle_faults last_faults piece more taken steady takes = (appends-both first middle last piece more taken takes.0, takes.1 ∙ steady)
takes-more (ends.AbortTree event count) trace first middle last first_faults middle_faults last_faults piece more taken steady takes = (appends-both first middle last piece more taken takes.0, takes.1 ∙ steady)
takes-more (ends.AbortLog cause count) trace first middle last first_faults middle_faults last_faults piece more taken steady takes = (appends-both first middle last piece more taken takes.0, takes.1 ∙ steady)
takes-more (ends.AbortProgram read expected) trace first middle last first_faults middle_faults last_faults piece more taken steady takes = (appends-both first middle last piece more taken takes.0, takes.1 ∙ steady)
takes-more (ends.FuelOut count) trace first middle last first_faults middle_faults last_faults piece more taken steady takes = (appends-both first middle last piece more taken takes.0, takes.1 ∙ steady)
takes-more (ends.Refused why count) trace first middle last first_faults middle_faults last_faults piece more taken steady takes = (appends-both first middle last piece more taken takes.0, takes.1 ∙ steady)

-- a run so far, in turns that left the machine parked
pub record RunSoFar {L : Type 0} (lines : L → LineMap) (image : Image) (input : List ℕ) (veil : Veil) (fuel : ℕ) (trace : List Event) (old_written written : Option (List ℕ)) (limit : Option ℕ)
    (machine : TurnMachine L) : Type 0 where
  pub piece : List ℕ
  pub taken : Appends old_written written piece
  pub fits : FitsMachine lines image input veil trace piece machine
  pub takes : TakesRest limit fuel (length piece)
  pub fuel_is : machine.fuel ≡ fuel

-- no machine has done more instructions than there are events
pub count-few : {L : Type 0} (lines : L → LineMap) (image : Image) (input : List ℕ) (veil : Veil) (trace : List Event) (handed_out : List ℕ) (machine : TurnMachine L)
    → FitsMachine lines image input veil trace handed_out machine → machine.retired ≤ length trace
count-few lines image input veil trace handed_out machine (unentered parts fits) = omega (arith, fits.count)
count-few lines image input veil trace handed_out machine (parked parts fits) = omega (arith, fits.stands.counted, count_by-le-length is_retire trace)
