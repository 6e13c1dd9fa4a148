use Rattle.std.proofs.Common.{◌≡◌, ◌∙◌, ap, refl, sym, subst}
use Rattle.orbis_core.specs.Processor.{reset_core}
use Rattle.aegis_machine.proofs.TurnLemmas.{new-fits}
use Rattle.aegis_machine.proofs.machine.Machine.new.Goals as goal

pub returns-clause-fits : goal.returns-clause-fits
returns-clause-fits g c input =
    new-fits g.L.Lines.lines c.args.image.now input c.args.store c.args.fuel _ _ _ c.new.result c.new-2.result c.new-3.result c.apart-tree.ensures.tree c.apart-tree.ensures.log
    c.apart-tree.ensures.held c.new.ensures.none_yet c.new-2.ensures (c.new-3.ensures ∙ ap reset_core c.start_address.ensures) c.requires.store
