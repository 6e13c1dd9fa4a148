use Rattle.execution.proofs.TrafficLemmas.{extends-refl, extends-input, extends-loose, extends-release, extends-write, extends-check, extends-suspension}
use Rattle.execution.proofs.traffic.each_extends.Goals as goal

pub returns : goal.returns
returns g c = record {
  each = record {
    nothing = extends-refl;
    input = extends-input;
    loose = extends-loose;
    release = extends-release;
    write = extends-write;
    check = extends-check;
    suspension = extends-suspension;
  };
}
