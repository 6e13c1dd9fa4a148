use Rattle.hash_tree.proofs.KeptLemmas.{tells-root, tells-child}
use Rattle.hash_tree.proofs.tree.Tree.has_digest.Goals as goal

pub returns-then-block-eq0 : goal.returns-then-block-eq0
returns-then-block-eq0 g c = rw (← c.self.view_is) (record { kept = tells-root _ _ _ _ _ _ _ c.if-block-eq0.true c.eq.ensures })

pub returns : goal.returns
returns g c =
    rw (← c.self.view_is) (record {
      kept = tells-child _ _ _ _ _ _ _ _ _ _ c.if-block-eq0.false c.parent_of.ensures c.slot_of.ensures.value c.payload.ensures.value c.eq-2.ensures;
    })
