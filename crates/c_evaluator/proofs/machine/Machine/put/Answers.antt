use Rattle.std.proofs.Common.{◌∙◌, ap, slice_index, slice_set, []}
use Rattle.std.proofs.lemmas.List.{get_or_default}
use Rattle.c_semantics.specs.States.{writing}
use Rattle.c_evaluator.specs.MachineStates.{memory_of, bare, seen}
use Rattle.c_evaluator.proofs.Lookups.{memory_of-set, with-memory}
use Rattle.c_evaluator.proofs.machine.Machine.put.Goals as goal

pub returns : goal.returns
returns c =
    with-memory _ (writing bare c.args.variable.now c.args.index c.args.word (seen c.args.self.now))
    (λ y j. ap (λ words. memory_of (slice_set c.make_variable.new.variables.items c.args.variable.now.token words) y j) c.set.ensures
    ∙ memory_of-set c.args.self.now.variables.items c.make_variable.new.variables.items c.args.variable.now.token c.make_word.new.words c.args.index c.args.word
    c.make_variable.ensures.same c.in_ok-make_variable.ensures.there (λ k. c.make_word.ensures.same k ∙ ap (λ words. slice_index words k) (c.index_mut-words.ensures.value ∙ get_or_default c.make_variable.new.variables.items c.args.variable.now.token _ [] c.in_ok-make_variable.ensures.there)) c.in_ok-make_word.ensures.there y j)
