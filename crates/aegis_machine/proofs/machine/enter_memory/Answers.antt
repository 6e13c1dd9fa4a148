use Rattle.std.proofs.Common.{List, [], ◌≡◌, ◌+◌, ◌++◌, arith, ap, sym, subst, ◌∙◌}
use Rattle.regions.specs.Tree.{height_of, tree_blocks}
use Rattle.regions.specs.declared.Layout.{Layout}
use Rattle.off_chip.specs.declared.Event.{Event}
use Rattle.hash_tree.specs.Entering.{BlockMove}
use Rattle.stamp_log.specs.LogEvents.{zeros_written}
use Rattle.secure_memory.proofs.EntryEvents.{AllMoveBlocks, below-moves-blocks}
use Rattle.off_chip.specs.Boundaries.{enter_events}
use Rattle.off_chip.specs.OffChipBytes.{static_blocks}
use Rattle.block_hash.specs.BlockStrings.{program_digest}
use Rattle.aegis_machine.specs.Boundaries.{blocks_in, entered_digest}
use Rattle.aegis_machine.specs.ProgramsRead.{SomeStaticUnfaithful}
use Rattle.memory_trace.specs.SoundTraces.{IsSound}
use Rattle.memory_trace.proofs.EntryTraces.{entering-sound}
use Rattle.aegis_machine.proofs.EnteringLemmas.{entry-access}
use Rattle.aegis_machine.proofs.ProgramLemmas.{entered-is, other-unfaithful}
use Rattle.aegis_machine.proofs.machine.enter_memory.Goals as goal

pub returns-clause-events : goal.returns-clause-events
returns-clause-events g c =
    let does = c.enter-digest.ensures.does in
    let layout = c.args.mem.now.tree.layout in
    let zeros : List Event = zeros_written does.last layout.log in
    let moves : AllMoveBlocks _ = subst (λ (ms : List BlockMove). AllMoveBlocks ms) (sym does.entered.order) (below-moves-blocks layout (height_of layout) 0) in (
      does.entered.events ++ zeros,
      does.started ∙ ap (λ (t : List Event). t ++ zeros) does.entered.appended,
      entry-access does.entered.events does.last layout.log moves,
    )

pub returns-clause-digest : goal.returns-clause-digest
returns-clause-digest g c =
    let does = c.enter-digest.ensures.does in
    let tree = c.args.mem.now.tree.layout in
    let of_tree = c.requires.parts.of_tree in
    let trace = g.O.OffChip.trace c.enter-digest.new.self.lent.now in
    let zeros : List Event = zeros_written does.last tree.log in
    let is = does.started ∙ ap (λ (t : List Event). t ++ zeros) does.entered.appended in
    let mem = c.args.mem.now.layout in
    let plain : enter_events mem ≡ 1 + (static_blocks mem + tree_blocks mem) + mem.log = omega arith in
    let same : enter_events mem ≡ enter_events tree = ap (λ (l : Layout). enter_events l) (sym of_tree) in
    let long = c.enter-digest.ensures.count ∙ sym plain ∙ same in
    does.entered.answer_is ∙ sym (entered-is tree [] does.entered.events does.last does.entered.order trace is long) ∙ ap (λ (l : Layout). entered_digest l trace) of_tree

pub returns-clause-unfaithful : goal.returns-clause-unfaithful
returns-clause-unfaithful g c statics differ =
    let does = c.enter-digest.ensures.does in
    let tree = c.args.mem.now.tree.layout in
    let of_tree = c.requires.parts.of_tree in
    let trace = g.O.OffChip.trace c.enter-digest.new.self.lent.now in
    let zeros : List Event = zeros_written does.last tree.log in
    let is = does.started ∙ ap (λ (t : List Event). t ++ zeros) does.entered.appended in
    let mem = c.args.mem.now.layout in
    let plain : enter_events mem ≡ 1 + (static_blocks mem + tree_blocks mem) + mem.log = omega arith in
    let same : enter_events mem ≡ enter_events tree = ap (λ (l : Layout). enter_events l) (sym of_tree) in
    let long = c.enter-digest.ensures.count ∙ sym plain ∙ same in
    let read = does.entered.answer_is ∙ sym (entered-is tree statics does.entered.events does.last does.entered.order trace is long) in
    let P : Layout → Type 0 = λ l. SomeStaticUnfaithful l statics trace in
    subst P of_tree
    (other-unfaithful tree statics does.entered.events does.last does.entered.order trace is long
    (λ same. differ (read ∙ same ∙ ap (λ (l : Layout). program_digest (blocks_in (static_blocks l) statics)) of_tree)))

pub returns-clause-sound : goal.returns-clause-sound
returns-clause-sound g c =
    let mem = c.args.mem.now.layout in
    let trace = g.O.OffChip.trace c.enter-digest.new.self.lent.now in
    let plain : enter_events mem ≡ 1 + (static_blocks mem + tree_blocks mem) + mem.log = omega arith in
    let sound : IsSound mem trace = entering-sound mem _ _ _ trace _ c.requires.parts.of_tree c.enter-digest.ensures.does (c.enter-digest.ensures.count ∙ sym plain) in
    subst (λ (l : Layout). IsSound l trace) (sym c.enter-digest.ensures.layout) sound
