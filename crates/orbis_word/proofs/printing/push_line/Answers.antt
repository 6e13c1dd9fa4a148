use Rattle.orbis_word.proofs.Lines.{adds-line}
use Rattle.orbis_word.proofs.printing.push_line.Goals as goal

pub returns : goal.returns
returns c = adds-line c.args.index c.args.word _ _ _ _ _ c.push_str.result c.in_ok-push_hex.ensures c.in_ok-push_hex-2.ensures c.in_ok-push_text.ensures c.push_str.ensures.bytes
