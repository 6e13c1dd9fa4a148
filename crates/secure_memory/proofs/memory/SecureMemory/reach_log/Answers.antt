use Rattle.std.proofs.Common.{◌≡◌, false, inl, inr, sym, true}
use Rattle.std.specs.Prelude.{is_some}
use Rattle.std.proofs.lemmas.Bool.{cases_Bool}
use Rattle.regions.specs.Addresses.{log_block_at}
use Rattle.stamp_log.specs.LogState.{line_of}
use Rattle.secure_memory.proofs.LogActs.{log-reaches, log-stops}
use Rattle.secure_memory.proofs.memory.SecureMemory.reach_log.Goals as goal

pub returns-in-Ok-clause-does : goal.returns-in-Ok-clause-does
returns-in-Ok-clause-does g c = log-reaches _ _ _ _ _ _ _ (record {
  ready = c.requires.ready;
  inside = c.requires.inside;
  blocks = c.load.ensures.blocks;
  key = c.load.ensures.key;
  stands = c.in-Ok.ensures.stands;
  fit = c.load.ensures.fits;
  few = c.load.ensures.room;
  tells = sym (g.met.O.OffChip.same_layout _ _ c.load.ensures.same);
  held = c.in-Ok.ensures.held;
}) (λ held. record { trace_is = (c.in-Ok.ensures.cached held).0; lines = c.in-Ok.ensures.lines held; contents = c.in-Ok.ensures.kept held })
    (λ none. record { none = none; fetches = c.in-Ok.ensures.fetches none; contents = c.in-Ok.ensures.contents none })

pub returns-in-Err-clause-does : goal.returns-in-Err-clause-does
returns-in-Err-clause-does g c =
    elim (cases_Bool (is_some (line_of c.args.self.now.log.lines (log_block_at c.args.at)))) [
      | inl held ↦ absurd (let no : false ≡ true = (c.in-Err.ensures.cached held).1 in cc)
      | inr none ↦ log-stops _ _ _ _ _ _ _ _ c.requires.inside c.load.ensures.key c.load.ensures.room (sym (g.met.O.OffChip.same_layout _ _ c.load.ensures.same))
          (c.in-Err.ensures.fetches none)
    ]
