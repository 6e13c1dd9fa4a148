use Rattle.std.proofs.Common.{◌≡◌, ℕ, sym, subst}
use Rattle.std.specs.Prelude.{Result, Ok, Err, OnOk}
use Rattle.off_chip.specs.Histories.{history}
use Rattle.off_chip.proofs.BusLemmas.{told-both}
use Rattle.hash_tree.specs.HashTrees.{scheme_of}
use Rattle.stamp_log.specs.declared.causes.LogCause.{LogCause}
use Rattle.stamp_log.specs.LogState.{value_under}
use Rattle.stamp_log.specs.StandsOn.{StandsOn}
use Rattle.secure_memory.specs.PrivatePads.{hidden_payload}
use Rattle.secure_memory.specs.MemoryStands.{MemoryStands}
use Rattle.secure_memory.proofs.EventLists.{GrowsElsewhere, check-elsewhere, tree-stays}
use Rattle.secure_memory.proofs.PrivateLemmas.{grows-pads}
use Rattle.secure_memory.proofs.memory.SecureMemory.check.Goals as goal

-- what follows from what holds at Ok holds at Ok
on_ok : (result : Result (Unit {0}) LogCause) (P Q : Type 0) → (P → Q) → OnOk result P → OnOk result Q
on_ok (Ok done) P Q f p = f p
on_ok (Err cause) P Q f p = tt

pub check-requires-clause-told : goal.check-requires-clause-told
check-requires-clause-told g c =
    rw c.requires.stands.parts.of_log (told-both c.args.self.now.layout (g.O.OffChip.layout c.args.self.now.lent.now) c.requires.told)

pub returns-clause-stands : goal.returns-clause-stands
returns-clause-stands g c =
    let grows : GrowsElsewhere (g.O.OffChip.trace c.args.self.now.lent.now) (g.O.OffChip.trace c.check.new.bus) =
    check-elsewhere (value_under c.args.self.now.log.key) c.args.self.now.log.blocks c.check.result (g.O.OffChip.trace c.args.self.now.lent.now) (g.O.OffChip.trace c.check.new.bus)
    c.args.self.now.log.lines c.check.new.self.lines c.check.ensures.events in
    on_ok c.check.result (StandsOn c.check.new.self (history (g.O.OffChip.trace c.check.new.bus)))
    (MemoryStands c.args.self.now.layout c.args.self.now.tree (g.L.Lines.lines c.args.self.now.tree.lines) c.check.new.self c.check.new.stamps (g.O.OffChip.trace c.check.new.bus))
    (λ stands. record {
      parts = record { of_tree = c.requires.stands.parts.of_tree; of_veil = c.requires.stands.parts.of_veil; of_log = subst (λ (n : ℕ). n ≡ c.args.self.now.layout.log) (sym c.check.ensures.blocks) c.requires.stands.parts.of_log };
      tree_stands = tree-stays (scheme_of c.args.self.now.tree.layout (hidden_payload c.args.self.now.tree.veil)) (g.L.Lines.lines c.args.self.now.tree.lines) c.args.self.now.tree.root
          (g.O.OffChip.trace c.args.self.now.lent.now) (g.O.OffChip.trace c.check.new.bus) grows c.requires.stands.tree_stands;
      log_stands = stands;
      stamps_fit = c.check.ensures.fits;
    }) c.check.ensures.stands

pub returns-clause-private : goal.returns-clause-private
returns-clause-private g c = grows-pads _ _ _ _
    (check-elsewhere (value_under c.args.self.now.log.key) c.args.self.now.log.blocks c.check.result (g.O.OffChip.trace c.args.self.now.lent.now) (g.O.OffChip.trace c.check.new.bus)
    c.args.self.now.log.lines c.check.new.self.lines c.check.ensures.events)
