use Rattle.std.proofs.Common.{◌∙◌, refl, sym}
use Rattle.secure_memory.specs.MemorySights.{sight_of}
use Rattle.aegis_machine.proofs.SecureGuards.{mode-resumed, phase-ready, phase-suspends}
use Rattle.aegis_machine.proofs.WatchedLemmas.{phase-sound}
use Rattle.aegis_machine.proofs.secure.SecureMemoryGuarded.suspend.Goals as goal

pub returns-clause-phase : goal.returns-clause-phase
returns-clause-phase g c =
    phase-suspends (λ memory. sight_of g.L.Lines.lines g.O.OffChip.trace g.O.OffChip.room g.O.OffChip.layout memory) c.run_untrusted-end.ensures.phase.0 (g.O.OffChip.trace c.note.new.self)
    (g.O.OffChip.trace c.run_untrusted-end.new.bus) (g.O.OffChip.trace c.note-2.new.self) c.run_untrusted-end.result c.resume-back.new.self.mode (g.O.OffChip.room c.note-2.new.self)
    (g.O.OffChip.layout c.note-2.new.self) c.args.self.now _ refl
    (mode-resumed c.args.self.now.mode_unit c.suspend-left.new.self c.resume-back.new.self c.requires.secure c.suspend-left.ensures.after c.resume-back.ensures.after) c.note.ensures.event.trace c.run_untrusted-end.ensures.phase.1 c.note-2.ensures.event.trace
    c.run_untrusted-end.ensures.phase.2

pub returns-clause-ready : goal.returns-clause-ready
returns-clause-ready g c = record {
  ready = phase-ready (λ sight. sight) c.run_untrusted-end.ensures.phase.0 (g.O.OffChip.trace c.note.new.self)
      (g.O.OffChip.trace c.run_untrusted-end.new.bus) (g.O.OffChip.trace c.note-2.new.self) c.run_untrusted-end.result c.resume-back.new.self.mode (g.O.OffChip.room c.note-2.new.self)
      (g.O.OffChip.layout c.note-2.new.self) (sight_of g.L.Lines.lines g.O.OffChip.trace g.O.OffChip.room g.O.OffChip.layout c.args.self.now) _ refl
      (mode-resumed c.args.self.now.mode_unit c.suspend-left.new.self c.resume-back.new.self c.requires.secure c.suspend-left.ensures.after c.resume-back.ensures.after) c.note.ensures.event.trace c.run_untrusted-end.ensures.phase.1 c.note-2.ensures.event.trace
      c.run_untrusted-end.ensures.phase.2
      (sym (g.met.O.OffChip.same_layout _ _ c.note-2.ensures.same) ∙ sym (g.met.O.OffChip.same_layout _ _ c.run_untrusted-end.ensures.same) ∙ sym (g.met.O.OffChip.same_layout _ _ c.note.ensures.same))
      c.requires.ready.ready;
  sound = phase-sound c.args.self.now.layout (g.O.OffChip.trace c.args.self.now.lent.now) c.run_untrusted-end.ensures.phase.0 (g.O.OffChip.trace c.note.new.self)
      (g.O.OffChip.trace c.run_untrusted-end.new.bus) (g.O.OffChip.trace c.note-2.new.self) c.run_untrusted-end.result c.note.ensures.event.trace c.run_untrusted-end.ensures.phase.1
      c.note-2.ensures.event.trace c.run_untrusted-end.ensures.phase.2 c.requires.ready.sound;
}
