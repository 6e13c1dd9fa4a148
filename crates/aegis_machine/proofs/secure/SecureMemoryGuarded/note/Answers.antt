use Rattle.std.proofs.Common.{[], ◌∷◌, refl, sym}
use Rattle.off_chip.specs.declared.event.Event.TheVariants.{Note}
use Rattle.secure_memory.specs.MemorySights.{sight_of}
use Rattle.aegis_machine.proofs.SecureGuards.{outside-ready, own-outside}
use Rattle.aegis_machine.proofs.WatchedLemmas.{appended-sound}
use Rattle.aegis_machine.proofs.secure.SecureMemoryGuarded.note.Goals as goal

pub returns-clause-ready : goal.returns-clause-ready
returns-clause-ready g c = record {
  ready = outside-ready (λ sight. sight) (Note c.args.mark ∷ []) (g.O.OffChip.trace c.note.new.self) (g.O.OffChip.room c.note.new.self) (g.O.OffChip.layout c.note.new.self)
      (sight_of g.L.Lines.lines g.O.OffChip.trace g.O.OffChip.room g.O.OffChip.layout c.args.self.now) _ refl c.note.ensures.event.trace
      (sym (g.met.O.OffChip.same_layout _ _ c.note.ensures.same)) (own-outside c.args.mark c.requires.own) c.requires.ready.ready;
  sound = appended-sound c.args.self.now.layout (g.O.OffChip.trace c.args.self.now.lent.now) (g.O.OffChip.trace c.note.new.self) (Note c.args.mark ∷ []) c.note.ensures.event.trace
      (own-outside c.args.mark c.requires.own) c.requires.ready.sound;
}
