use Rattle.c_token.proofs.PlainTexts.{reads_back}
use Rattle.c_token.proofs.laws.plain_text_reads_back.Goals as goal

pub returns : goal.returns
returns c = record { reads_back = reads_back }
