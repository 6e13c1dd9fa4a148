-- Fuel that suffices.
use Rattle.std.proofs.Common.{◌≡◌, ℕ, zero, suc, ◌+◌, ◌*◌, ◌≤◌, Bool, Option, ap, inl, inr, arith}
use Rattle.std.proofs.lemmas.Bool.{cases_lt}
use Rattle.std.proofs.lemmas.Nat.{mul-le}
use Rattle.execution.proofs.RunLemmas.{ends-found}
use Rattle.regions.specs.declared.Layout.{Layout}
use Rattle.regions.specs.Modes.{SecureInstruction}
use Rattle.regions.specs.Tree.{height_of}
use Rattle.off_chip.specs.Histories.{in_order}
use Rattle.off_chip.specs.Boundaries.{retired}
use Rattle.orbis_core.specs.Ideal.{ideal_start, ideal_step}
use Rattle.bus_machine.specs.EventBounds.{pace}
use Rattle.paced_trace.specs.PacedSteps.{asked_among, may_check, suspends}
use Rattle.paced_trace.specs.SufficientFuel.{EnoughCoversPace, EnoughSuffices, FuelLasts, asked_from}
use Rattle.paced_trace.proofs.InstructionCounts.{counts-noted}

-- by plain numbers: a step takes each, and a check so many
within : (k least each checks most check suspensions s : ℕ) → k ≤ least → checks ≤ most → s ≤ suspensions
    → k * each + check * checks + 16386 * s ≤ least * each + check * most + 16386 * suspensions
within k least each checks most check suspensions s fewer few less =
    let a : k * each ≤ least * each = mul-le k each least each fewer (omega arith) in
    let b : checks * check ≤ most * check = mul-le checks check most check few (omega arith) in
    let c : check * checks ≡ checks * check = omega arith in
    let d : check * most ≡ most * check = omega arith in
    omega (arith, a, b, c, d, less)

-- more steps have no lower pace
pub pace-within : (layout : Layout) (k least c most s suspensions : ℕ) → k ≤ least → c ≤ most → s ≤ suspensions → pace layout k c s ≤ pace layout least most suspensions
pace-within layout k least c most s suspensions fewer few less =
    omega (arith, within k least (1 + 4 * (height_of layout + 1)) c most (layout.log + 40) suspensions s fewer few less)

pub enough-covers : EnoughCoversPace
enough-covers layout work releases checks suspensions k c s statics fewer few less =
    omega (arith, statics, within k (32 * work) (1 + 4 * (height_of layout + 1)) c (releases + checks + 1) (layout.log + 40) suspensions s fewer few less)

-- more steps have no fewer such instructions among them
among-within : (test : Option SecureInstruction → Bool) (asked : ℕ → Option SecureInstruction) (k n : ℕ) → k ≤ n → asked_among test asked k ≤ asked_among test asked n
among-within test asked k zero below =
    let e : k ≡ 0 = omega (arith, below) in
    omega (arith, ap (λ (j : ℕ). asked_among test asked j) e)
among-within test asked k (suc n) below = by (among-within test asked k n)
  where
    by : (k ≤ n → asked_among test asked k ≤ asked_among test asked n) → asked_among test asked k ≤ asked_among test asked (suc n)
    by earlier =
        elim (cases_lt n k) [
          | inl above ↦ let e : k ≡ suc n = omega (arith, above, below) in omega (arith, ap (λ (j : ℕ). asked_among test asked j) e)
          | inr within ↦ omega (arith, earlier within)
        ]

pub enough-suffices : EnoughSuffices
enough-suffices layout loose statics entry input words work steps fuel end at some ended fine few enough_fuel =
    let found = ends-found (ideal_step layout loose) steps (ideal_start layout statics entry input words) at end ended in
    let noted = counts-noted layout loose statics entry input words found.0 in
    let asked : ℕ → Option SecureInstruction = asked_from layout loose (ideal_start layout statics entry input words) in
    record {
      steps = found.0;
      end = end;
      at = at;
      ends = found.2;
      covers =
          let less : found.0 ≤ 32 * work = (let below : found.0 ≤ steps = found.1 in omega (arith, below, few)) in
          omega (
            arith,
            enough_fuel,
            enough-covers layout work at.traffic.releases at.traffic.checks at.traffic.suspensions found.0 (asked_among may_check asked found.0) (asked_among suspends asked found.0)
                some less (noted.checks_ended end at found.2 fine) (omega (arith, noted.suspensions_ended end at found.2 fine)),
          );
    }

pub fuel-lasts : FuelLasts
fuel-lasts layout loose start fuel older suffices paced fewer =
    let asked : ℕ → Option SecureInstruction = asked_from layout loose start in
    let k : ℕ = retired (in_order older) in
    omega (
      arith,
      suffices.covers,
      paced.bound,
      pace-within layout k suffices.steps (asked_among may_check asked k) (asked_among may_check asked suffices.steps)
          (asked_among suspends asked k) (asked_among suspends asked suffices.steps) fewer (among-within may_check asked k suffices.steps fewer)
          (among-within suspends asked k suffices.steps fewer),
    )
