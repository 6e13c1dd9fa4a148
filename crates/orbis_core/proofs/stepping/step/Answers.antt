-- A word that is no instruction stops the step as Illegal.
use Rattle.std.proofs.Common.{◌≡◌, None, Ok, refl, sym, ◌∙◌}
use Rattle.orbis_word.specs.Reading.{instruction_in}
use Rattle.orbis_core.proofs.stepping.step.Goals as goal

pub returns-in-None-clause-row : goal.returns-in-None-clause-row
returns-in-None-clause-row g c = let none : instruction_in c.in-Ok.word ≡ None = sym c.decode.ensures.value ∙ c.in-None.is in record {
  answer = Ok c.in-Ok.word;
  middle = c.fetch.new.self;
  fetched = rw (← c.core.view_is) c.in-Ok.ensures.does;
  goes_on = rw none (record { ends = refl; core = refl; memory = refl; port = refl });
}
