use Rattle.std.proofs.Common.{sym, subst, rules}
use Rattle.std.specs.Prelude.{IsOk, IsUtf8}
use Rattle.aegis_report.proofs.DigitTexts.{digits-are_text, text_is_ok, written}
use Rattle.aegis_report.proofs.line.add_hex.Goals as goal

pub unwrap-requires-2 : goal.unwrap-requires-2
unwrap-requires-2 c =
    let wrote : IsOk c.encode_to_slice.result = c.encode_to_slice.ensures.fits.1 (search rules) in
    let digits = written c.encode_to_slice.result _ wrote c.encode_to_slice.ensures.written in
    text_is_ok c.from_utf8.result _ c.from_utf8.ensures.cases (subst IsUtf8 (sym digits) (digits-are_text c.args.bytes.now))
