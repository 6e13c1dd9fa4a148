use Rattle.std.proofs.Common.{◌≡◌, ℕ, List, subst}
use Rattle.block_hash.specs.ProgramParts.{ProgramParts}
use Rattle.sha1.specs.Sha1.{sha1, Holds}
use Rattle.block_hash.proofs.StringLemmas.{digest-taken}
use Rattle.block_hash.proofs.program.ProgramHasher.finish.Goals as goal

pub returns : goal.returns
returns c = record {
  digest = digest-taken c.args.self c.finalize.result
      (subst (λ (p : ProgramParts). (m : List ℕ) → Holds p.kept m → c.finalize.result ≡ sha1 m) c.self.view_is c.finalize.ensures) c.requires;
}
