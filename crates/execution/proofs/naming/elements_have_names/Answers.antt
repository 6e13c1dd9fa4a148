use Rattle.execution.proofs.NamingLemmas.{is-naming, name-test, name-address, name-beyond, element-unnamed}
use Rattle.execution.proofs.naming.elements_have_names.Goals as goal

pub returns : goal.returns
returns c = record {
  named = record { naming = is-naming; test = name-test; addresses = name-address; beyond = name-beyond; unnamed = element-unnamed };
}
