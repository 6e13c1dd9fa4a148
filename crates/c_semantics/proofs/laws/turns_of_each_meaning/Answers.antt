use Rattle.regions.specs.LooseClasses.{nothing_loose, shared_loose, shared_and_logged_loose}
use Rattle.std.proofs.Common.{[]}
use Rattle.c_semantics.specs.Meaning.{noting_all}
use Rattle.c_semantics.proofs.LawProofs.{more_turns, fewer_turns}
use Rattle.c_semantics.proofs.laws.turns_of_each_meaning.Goals as goal

pub returns : goal.returns
returns c = record {
  each = record {
    alone = λ program input. more_turns (noting_all nothing_loose) program input [];
    alone_prefix = λ program input. fewer_turns (noting_all nothing_loose) program input [];
    shared = more_turns (noting_all shared_loose);
    shared_prefix = fewer_turns (noting_all shared_loose);
    unchecked = more_turns (noting_all shared_and_logged_loose);
    unchecked_prefix = fewer_turns (noting_all shared_and_logged_loose);
  };
}
