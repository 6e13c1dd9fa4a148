use Rattle.hash_tree.proofs.KeptLemmas.{reads-differs, reads-same, len-inserted}
use Rattle.hash_tree.proofs.tree.Tree.read.Goals as goal

pub returns-then-not-has_digest-clause-does : goal.returns-then-not-has_digest-clause-does
returns-then-not-has_digest-clause-does g c =
    rw (← c.self.view_is) (reads-differs _ _ _ _ _ _ _ _ _ c.digest_of.ensures.whole c.read_block.ensures.event.trace c.digest_of.ensures.value (rw (← c.self.view_is) at c.if-not-has_digest.ensures.kept))

pub returns-clause-does : goal.returns-clause-does
returns-clause-does g c =
    rw (← c.self.view_is) (reads-same _ _ _ _ _ _ _ _ _ _ _ c.digest_of.ensures.whole c.read_block.ensures.event.trace c.digest_of.ensures.value (rw (← c.self.view_is) at c.if-not-has_digest.ensures.kept)
    c.veil.ensures.value c.insert.ensures.lines)

pub returns-clause-count : goal.returns-clause-count
returns-clause-count g c = λ _. rw (← c.self.view_is) (len-inserted _ _ _ _ (rw (← c.self.view_is) at c.requires.absent) c.insert.ensures.lines)
