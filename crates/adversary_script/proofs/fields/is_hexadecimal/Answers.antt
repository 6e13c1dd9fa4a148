use Rattle.std.proofs.Common.{◌≡◌, true, length, ltb, rules, tests}
use Rattle.std.specs.Char.{is_ascii_hexdigit}
use Rattle.std.proofs.lemmas.Bool.{lt-ltb}
use Rattle.std.proofs.lemmas.Iterator.{YieldsList-from_slice}
use Rattle.std.proofs.lemmas.Iterator.Search.{all_from_yields_List}
use Rattle.adversary_script.proofs.fields.is_hexadecimal.Goals as goal

pub returns-then-field-gt0 : goal.returns-then-field-gt0
returns-then-field-gt0 c =
    let some : ltb 0 (length c.args.field.now) ≡ true = lt-ltb 0 (length c.args.field.now) c.if-field-gt0.true in
    rw some (all_from_yields_List is_ascii_hexdigit _ _ c.all.result c.all.ensures.ran (YieldsList-from_slice c.args.field.now cc) (λ x b q k. search (rules, tests)))
