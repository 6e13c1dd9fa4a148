use Rattle.adversary_script.proofs.Texts.{texts-keep_rules}
use Rattle.adversary_script.proofs.laws.texts_keep_rules.Goals as goal

pub returns : goal.returns
returns c = record { law = record { same = texts-keep_rules } }
