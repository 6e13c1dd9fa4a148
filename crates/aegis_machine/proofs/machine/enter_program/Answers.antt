use Rattle.std.proofs.Common.{◌≡◌, ◌≤◌, ◌∙◌, [], arith, rules, ap, sym, subst, List, ℕ}
use Rattle.std.specs.Prelude.{◌≢◌}
use Rattle.hash_tree.proofs.SchemeLemmas.{blocks-few}
use Rattle.regions.specs.declared.Layout.{Layout}
use Rattle.off_chip.specs.Boundaries.{enter_events, retired}
use Rattle.off_chip.specs.OffChipBytes.{static_blocks}
use Rattle.block_hash.specs.BlockStrings.{program_digest}
use Rattle.image_file.specs.ImageTable.{static_bytes}
use Rattle.bus_machine.specs.BusMachine.{LoadedProgram}
use Rattle.aegis_machine.specs.declared.ends.End.TheVariants.{AbortProgram}
use Rattle.aegis_machine.specs.Boundaries.{IsOtherProgram, blocks_in, entered_digest}
use Rattle.aegis_machine.specs.FuelTests.{HasFuel}
use Rattle.aegis_machine.specs.MachineParts.{RunIsOver, program_of}
use Rattle.aegis_machine.specs.ProgramsRead.{SomeStaticUnfaithful}
use Rattle.aegis_machine.proofs.EnteringLemmas.{over-with-other, over-without-fuel}
use Rattle.aegis_machine.proofs.TurnCounts.{entering-retires}
use Rattle.aegis_machine.proofs.machine.enter_program.Goals as goal

enough : (layout : Layout) (fuel : ℕ) → HasFuel layout fuel 0 → enter_events layout ≤ fuel
enough layout fuel has =
    let few = blocks-few layout in
    let fits = layout.data_fits in
    omega (arith, few, fits, has.enough)

pub enter_memory-read-requires-clause-room : goal.enter_memory-read-requires-clause-room
enter_memory-read-requires-clause-room g c =
    let has : HasFuel c.args.parts.layout c.args.fuel 0 = c.has_fuel.ensures.0 c.if-not-has_fuel.false in
    let e = enough c.args.parts.layout c.args.fuel has in
    omega (arith, e, c.requires.room)

pub returns-then-not-has_fuel-clause-over : goal.returns-then-not-has_fuel-clause-over
returns-then-not-has_fuel-clause-over g c veil input =
    let image = c.args.image.now in
    let short : HasFuel c.args.parts.layout c.args.fuel 0 → ⊥ = λ has. let yes = c.has_fuel.ensures.1 has in let no = c.if-not-has_fuel.true in cc in
    over-without-fuel veil (program_of image input) c.args.fuel (g.O.OffChip.trace c.args.bus.now) c.requires.unused
    (subst (λ (l : Layout). HasFuel l c.args.fuel 0 → ⊥) c.requires.layout short)

pub returns-then-ne-clause-over : goal.returns-then-ne-clause-over
returns-then-ne-clause-over g c veil input =
    let e : c.bus-1.given.0 ≡ c.apart-parts.result.1.now = search rules in
    let differ : c.enter_memory-read.result ≢ c.digest_of-expected.result = search rules in
    let image = c.args.image.now in
    let read = c.enter_memory-read.ensures in
    let trace = g.O.OffChip.trace c.enter_memory-read.new.mem.lent.now in
    let statics : List ℕ = static_bytes image in
    let program : LoadedProgram = program_of image input in
    let same = c.requires.layout in
    let has : HasFuel image.layout c.args.fuel 0 = subst (λ (l : Layout). HasFuel l c.args.fuel 0) same (c.has_fuel.ensures.0 c.if-not-has_fuel.false) in
    let other : IsOtherProgram program c.enter_memory-read.result c.digest_of-expected.result trace = record {
      over = read.count ∙ ap (λ (l : Layout). enter_events l) same;
      read_is = read.digest ∙ ap (λ (l : Layout). entered_digest l trace) same;
      expected_is = c.digest_of-expected.ensures;
      differ = differ;
    } in
    let unfaithful : SomeStaticUnfaithful image.layout statics trace =
    subst (λ (l : Layout). SomeStaticUnfaithful l statics trace) same
    (read.unfaithful statics
    (λ equal. differ (equal ∙ ap (λ (l : Layout). program_digest (blocks_in (static_blocks l) statics)) same ∙ sym c.digest_of-expected.ensures))) in
    let over = over-with-other veil program c.args.fuel read.events.0 trace c.enter_memory-read.result c.digest_of-expected.result read.events.1 read.events.2 has other unfaithful in
    let Q : g.row.O.Denot → Type 0 = λ b. RunIsOver veil program c.args.fuel [] (AbortProgram c.enter_memory-read.result c.digest_of-expected.result) (g.O.OffChip.trace b) in
    subst Q (sym (e ∙ c.apart-parts.ensures.bus)) over

pub returns-then-ne-clause-none : goal.returns-then-ne-clause-none
returns-then-ne-clause-none g c =
    let e : c.bus-1.given.0 ≡ c.apart-parts.result.1.now = search rules in
    let events = c.enter_memory-read.ensures.events in
    let Q : g.row.O.Denot → Type 0 = λ b. retired (g.O.OffChip.trace b) ≡ retired (g.O.OffChip.trace c.args.bus.now) in
    subst Q (sym (e ∙ c.apart-parts.ensures.bus)) (entering-retires _ _ events.0 c.requires.unused events.1 events.2)

pub returns-clause-none : goal.returns-clause-none
returns-clause-none g c =
    let e : c.bus-1.given.0 ≡ c.apart-parts.result.1.now = search rules in
    let events = c.enter_memory-read.ensures.events in
    let Q : g.row.O.Denot → Type 0 = λ b. retired (g.O.OffChip.trace b) ≡ retired (g.O.OffChip.trace c.args.bus.now) in
    subst Q (sym (e ∙ c.apart-parts.ensures.bus)) (entering-retires _ _ events.0 c.requires.unused events.1 events.2)
