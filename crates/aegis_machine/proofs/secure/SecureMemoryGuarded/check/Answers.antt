use Rattle.std.proofs.Common.{◌≡◌, ◌∙◌, ap, subst, sym, ℕ}
use Rattle.std.specs.Prelude.{IfErr, OnOk}
use Rattle.aegis_num.specs.declared.storage.Key.{Key}
use Rattle.stamp_log.specs.LogState.{value_under}
use Rattle.stamp_log.specs.OfflineCheck.{IsCause, PassedFaithful}
use Rattle.secure_memory.specs.MemorySights.{sight_of}
use Rattle.aegis_machine.specs.Causes.{EndsByCause}
use Rattle.aegis_machine.proofs.CheckCauses.{both-err, ends-by-cause}
use Rattle.aegis_machine.proofs.SecureGuards.{check-misses, check-passes, check-ready, on-ok-then}
use Rattle.aegis_machine.proofs.WatchedLemmas.{check-sound}
use Rattle.aegis_machine.proofs.secure.SecureMemoryGuarded.check.Goals as goal

pub returns-clause-passed : goal.returns-clause-passed
returns-clause-passed g c =
    check-passes (λ memory. sight_of g.L.Lines.lines g.O.OffChip.trace g.O.OffChip.room g.O.OffChip.layout memory) (value_under c.args.self.now.log.key) c.args.self.now.log.blocks c.check.result
    c.args.self.now c.check.new.self c.check.ensures.events c.check.ensures.layout c.check.ensures.tree (ap (λ tree. g.L.Lines.lines tree.lines) c.check.ensures.tree)
    (ap (λ modes. modes.mode) c.check.ensures.modes)

pub returns-clause-known : goal.returns-clause-known
returns-clause-known g c =
    subst (λ (key : Key). OnOk c.check.result (PassedFaithful (value_under key) (g.O.OffChip.trace c.check.new.self.lent.now))) (sym c.check.ensures.key) c.check.ensures.faithful

pub returns-clause-missed : goal.returns-clause-missed
returns-clause-missed g c =
    let ready = c.requires.ready.ready in
    let blocks : c.args.self.now.log.blocks ≡ c.check.new.self.layout.log = ready.stands.parts.of_log ∙ ap (λ layout. layout.log) (sym c.check.ensures.layout) in
    let ends = subst (λ (n : ℕ). IfErr c.check.result (EndsByCause n (g.O.OffChip.trace c.check.new.self.lent.now))) blocks
    (ends-by-cause (value_under c.args.self.now.log.key) c.args.self.now.log.blocks c.check.result _ _ _ _ ready.stands.log_stands.trace.turns.each c.check.ensures.events) in
    let cause = subst (λ (key : Key). IfErr c.check.result (IsCause (value_under key) (g.O.OffChip.trace c.check.new.self.lent.now))) (sym c.check.ensures.key) c.check.ensures.cause in
    check-misses (λ memory. sight_of g.L.Lines.lines g.O.OffChip.trace g.O.OffChip.room g.O.OffChip.layout memory)
    (λ cause memory. IsCause (value_under memory.log.key) (g.O.OffChip.trace memory.lent.now) cause × EndsByCause memory.layout.log (g.O.OffChip.trace memory.lent.now) cause)
    (value_under c.args.self.now.log.key) c.args.self.now.log.blocks c.check.result
    c.args.self.now c.check.new.self c.check.ensures.events c.check.ensures.layout c.check.ensures.tree (ap (λ modes. modes.mode) c.check.ensures.modes)
    (both-err c.check.result _ _ cause ends)

pub returns-clause-ready : goal.returns-clause-ready
returns-clause-ready g c =
    on-ok-then c.check.result _ _
    (λ stands. record {
      ready = check-ready (λ memory. sight_of g.L.Lines.lines g.O.OffChip.trace g.O.OffChip.room g.O.OffChip.layout memory) c.args.self.now c.check.new.self stands c.check.ensures.layout
          (ap (λ pins. pins.blocks.items) c.check.ensures.pins) (sym (g.met.O.OffChip.same_layout _ _ c.check.ensures.same)) c.requires.ready.ready;
      sound = check-sound c.args.self.now.layout c.check.new.self.layout (value_under c.args.self.now.log.key) c.args.self.now.log.blocks c.check.result _ _ _ _ c.requires.ready.ready.stands.parts.of_log
          c.check.ensures.layout c.check.ensures.events c.requires.ready.sound;
    }) c.check.ensures.stands
