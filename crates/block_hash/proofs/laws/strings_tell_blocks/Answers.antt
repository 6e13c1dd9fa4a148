use Rattle.block_hash.proofs.StringLemmas.{block_string-one}
use Rattle.block_hash.proofs.laws.strings_tell_blocks.Goals as goal

pub returns : goal.returns
returns c = record { law = block_string-one }
