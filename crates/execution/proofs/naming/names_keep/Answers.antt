use Rattle.std.proofs.Common.{refl}
use Rattle.execution.proofs.NamingLemmas.{named-loose, named-after_loose, named-after_write, named-extends}
use Rattle.execution.proofs.naming.names_keep.Goals as goal

pub returns : goal.returns
returns g c = record {
  kept = record {
    start = λ name input loose. refl;
    input = λ name t. refl;
    after_input = λ name t. refl;
    loose = named-loose;
    after_loose = named-after_loose;
    after_release = λ name word t. refl;
    after_write = named-after_write;
    after_check = λ name t. refl;
    after_suspension = λ name t. refl;
    extends = named-extends;
  };
}
