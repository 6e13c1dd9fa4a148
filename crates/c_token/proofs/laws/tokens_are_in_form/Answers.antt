use Rattle.c_token.proofs.TokenForms.{are_in_form}
use Rattle.c_token.proofs.laws.tokens_are_in_form.Goals as goal

pub returns : goal.returns
returns c = record { in_form = are_in_form }
