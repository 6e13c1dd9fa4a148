use Rattle.std.proofs.Common.{refl, sym, subst}
use Rattle.block_hash.specs.ProgramParts.{ProgramParts, HasTaken}
use Rattle.block_hash.proofs.StringLemmas.{taken-more}
use Rattle.block_hash.proofs.program.ProgramHasher.add.Goals as goal

pub returns-clause-taken : goal.returns-clause-taken
returns-clause-taken c = λ payloads taken. taken-more _ _ c.args.payload.now refl refl c.update.ensures payloads
    (subst (λ (p : ProgramParts). HasTaken p payloads) (sym c.self.view_is) taken)
