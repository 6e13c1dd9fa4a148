use Rattle.block_hash.proofs.StringLemmas.{tree-log, tree-program, log-program}
use Rattle.block_hash.proofs.laws.tags_part.Goals as goal

pub returns : goal.returns
returns c = record { law = record { log = tree-log; program = tree-program; log_program = log-program } }
