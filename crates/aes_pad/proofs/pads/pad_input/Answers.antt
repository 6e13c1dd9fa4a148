use Rattle.aes_pad.proofs.PadLemmas.{pad_input_from}
use Rattle.aes_pad.proofs.pads.pad_input.Goals as goal

pub returns : goal.returns
returns c = pad_input_from c.args.number c.args.stamp c.args.j _ _ _ c.to_be_bytes-n.ensures c.to_be_bytes-s.ensures c.to_be_bytes-p.ensures
