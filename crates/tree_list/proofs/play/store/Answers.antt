use Rattle.std.proofs.Common.{rules}
use Rattle.hash_tree.proofs.SchemeLemmas.{keeps-veil}
use Rattle.tree_list.proofs.Storing.{stands-left}
use Rattle.tree_list.proofs.play.store.Goals as goal

pub returns-clause-stands : goal.returns-clause-stands
returns-clause-stands g c = λ trace stands.
    let v = c.args.tree.now.veil in
    let lawful = keeps-veil c.args.tree.now.layout (g.V.Veil.veiled v) (g.V.Veil.nodes v) c.requires.nodes (g.met.V.Veil.own_inverse v) (g.met.V.Veil.keeps_length v) (g.met.V.Veil.leaves_nodes v) in
    rw (g.met.L.Lines.lent_lines c.args.tree.now.lines _ _ c.requires.held)
    (stands-left _ _ lawful _ _ trace c.args.position _ stands c.requires.held (search rules))
