use Rattle.block_hash.proofs.StringLemmas.{program_string-one}
use Rattle.block_hash.proofs.laws.strings_tell_programs.Goals as goal

pub returns : goal.returns
returns c = record { law = program_string-one }
