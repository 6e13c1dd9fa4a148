use Rattle.std.proofs.Common.{◌≡◌, ◌≤◌, ◌+◌, ap, sym, subst, ◌∙◌, arith}
use Rattle.std.specs.Prelude.{Option}
use Rattle.regions.specs.declared.layout.Layout.{Layout}
use Rattle.off_chip.specs.BusCalls.{TellsOnly}
use Rattle.memory_tests.proofs.entered_memory.enter_and_check.Goals as goal

pub enter-digest-requires-clause-has_room : goal.enter-digest-requires-clause-has_room
enter-digest-requires-clause-has_room g c = rw c.new-memory.ensures.layout (rw c.new-memory.ensures.bus (omega arith))

pub check-requires-clause-has_room : goal.check-requires-clause-has_room
check-requires-clause-has_room g c =
    let same : c.enter-digest.new.self.layout ≡ c.args.layout = c.enter-digest.ensures.layout ∙ c.new-memory.ensures.layout in
    let blocks : c.enter-digest.new.self.log.blocks ≡ 5 = c.enter-digest.ensures.stands.parts.of_log ∙ ap (λ (l : Layout). l.log) same ∙ c.requires.log in
    let room = rw c.new-memory.ensures.layout at (rw c.new-memory.ensures.bus at c.enter-digest.ensures.room) in
    omega (arith, blocks, room)

pub check-requires-clause-told : goal.check-requires-clause-told
check-requires-clause-told g c =
    rw (c.enter-digest.ensures.layout ∙ c.new-memory.ensures.layout)
    (subst (λ (l : Option Layout). TellsOnly c.args.layout l) (ap (λ (b : _). g.O.OffChip.layout b) (sym c.new-memory.ensures.bus) ∙ g.met.O.OffChip.same_layout _ _ c.enter-digest.ensures.same) c.requires.told)
