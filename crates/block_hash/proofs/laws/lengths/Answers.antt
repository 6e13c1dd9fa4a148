use Rattle.block_hash.proofs.StringLemmas.{length-block_string, length-sha1}
use Rattle.block_hash.proofs.laws.lengths.Goals as goal

pub returns : goal.returns
returns c = record { law = record { string = length-block_string; digest = length-sha1 } }
