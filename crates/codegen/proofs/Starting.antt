-- The start of an image: the upper parts of addresses come into their registers, and the machine goes on at the entry.
use Rattle.std.proofs.Common.{◌≡◌, ℕ, suc, ◌+◌, ◌-◌, ◌*◌, ◌^◌, ◌<◌, ◌≤◌, inl, inr, false, List, ◌∷◌, ◌++◌, replicate, arith, refl, sym, ◌∙◌, ap, subst}
use Rattle.std.proofs.lemmas.Bool.{cases_lt}
use Rattle.std.specs.Prelude.{pos, ◌*ℤ◌}
use Rattle.execution.specs.Run.{Next, Goes, Stops, and_then, run, state_of}
use Rattle.execution.specs.Traffic.{Extends}
use Rattle.execution.specs.Naming.{traffic_named}
use Rattle.execution.proofs.RunLemmas.{run-+, run-ended}
use Rattle.regions.specs.declared.Access.TheVariants.{Fetch}
use Rattle.regions.specs.declared.Class.TheVariants.{Code}
use Rattle.regions.specs.Addresses.{start_of}
use Rattle.orbis_word.specs.declared.Instr.{Instr}
use Rattle.orbis_word.specs.declared.Instr.TheVariants.{J, Movhi}
use Rattle.orbis_word.specs.Reading.{instruction_in}
use Rattle.orbis_core.specs.declared.effect.Effect.{Effect}
use Rattle.orbis_core.specs.declared.effect.Effect.TheVariants as effect
use Rattle.orbis_core.specs.Effects.{displaced, effect_of}
use Rattle.orbis_core.specs.Processor.{registers_with}
use Rattle.orbis_core.specs.Ideal.{Ideal, IdealEnd, ideal_step, carried, from_entries}
use Rattle.orbis_core.proofs.IdealLemmas.{run-extends, step-carried}
use Rattle.ir_code.specs.FlatStates.{FlatState, mode_of}
use Rattle.ir_code.specs.FlatMeaning.{flat_step}
use Rattle.codegen.specs.OpInstructions.{distance, start_code}
use Rattle.codegen.specs.ImageCode.{offset_of}
use Rattle.codegen.proofs.Registers.{zeros}
use Rattle.codegen.proofs.Comes.{World, Fits, Stands, HasCode, first-stands, rest-stands, standing, Tied, Related, steps_of, address_of}
use Rattle.codegen.proofs.Rules.{went, free, next-is, reads-code}
use Rattle.codegen.proofs.Parts.{near, reached}
use Rattle.codegen.proofs.Running.{Back}

module _ (w : World) (h : Fits w) (f : FlatState) (m : ℕ → ℕ) (tied : Tied w f.cells m) where
  -- the machine at an address, with these words in its registers
  abbrev pub filling : ℕ → List ℕ → Ideal
  filling pc words = record { core = record { pc = pc; flag = false; registers = words }; mode = mode_of f.private; memory = m; traffic = traffic_named w.name f.traffic }

  does-there : (pc : ℕ) (words : List ℕ) (i : Instr) → Stands w pc i →
      ideal_step w.layout w.loose (filling pc words) ≡ carried w.layout (from_entries w.loose) (effect_of i (record { pc = pc; flag = false; registers = words })) (filling pc words)
  does-there pc words i stands =
      step-carried w.layout (from_entries w.loose) (filling pc words) i (free w.layout (mode_of f.private) Fetch pc Code stands.code (reads-code f.private) stands.aligned)
      (ap (λ (word : ℕ). instruction_in word) (tied.code pc stands.code) ∙ stands.is)

  then-run : (s t : Ideal) (n : ℕ) (next : Next Ideal IdealEnd) → ideal_step w.layout w.loose s ≡ Goes t → steps_of w n t ≡ next → steps_of w (suc n) s ≡ next
  then-run s t n next e ran = ap (λ (x : Next Ideal IdealEnd). and_then x (steps_of w n)) e ∙ ran

  -- in so many steps the machine comes there
  record Runs (n : ℕ) (s : Ideal) (next : Next Ideal IdealEnd) : Type 0 where
    ran : steps_of w n s ≡ next

  -- a register gets an upper part
  fills : (d part : ℕ) {n : ℕ} {to : ℕ} {pc : ℕ} {words : List ℕ} {rest : List Instr} {next : Next Ideal IdealEnd} → HasCode w pc (Movhi d part ∷ rest) to →
      (HasCode w (pc + 4) rest to → Runs n (filling (pc + 4) (registers_with words d (part * 2 ^ 16))) next) → Runs (suc n) (filling pc words) next
  fills d part {n} {to} {pc} {words} {rest} {next} code after = record {
    ran = then-run (filling pc words) (filling (pc + 4) (registers_with words d (part * 2 ^ 16))) n next
        (does-there pc words (Movhi d part) (first-stands w code)
        ∙ ap (λ (k : ℕ). went (filling k (registers_with words d (part * 2 ^ 16)))) (next-is w h pc (Movhi d part) (first-stands w code)))
        (after (rest-stands w code)).ran;
  }

  -- and it goes on at a place
  goes-on : (number place : ℕ) {pc to : ℕ} {words : List ℕ} {rest : List Instr} → pc ≡ start_of w.layout Code + 4 * number →
      HasCode w pc (J (distance number (offset_of w.ir.ops place)) ∷ rest) to → Runs 1 (filling pc words) (Goes (filling (address_of w place) words))
  goes-on number place {pc} {to} {words} {rest} at code =
      let close : pc < 2 ^ 31 = near w.layout pc Code (first-stands w code).code in
      let target : displaced pc (distance number (offset_of w.ir.ops place) *ℤ pos 4) ≡ address_of w place =
      ap (λ (x : ℕ). displaced x (distance number (offset_of w.ir.ops place) *ℤ pos 4)) at
      ∙ reached (start_of w.layout Code) number (offset_of w.ir.ops place) (omega (arith, at, close)) (h.small place) in
      record {
        ran = then-run (filling pc words) (filling (address_of w place) words) 0 (Goes (filling (address_of w place) words))
            (does-there pc words (J (distance number (offset_of w.ir.ops place))) (first-stands w code)
            ∙ ap (λ (asked : Effect). carried w.layout (from_entries w.loose) asked (filling pc words)) (ap (λ (x : ℕ). effect.Jump x) target))
            refl;
      }

  -- eleven instructions in all
  pub begins : (number place to : ℕ) (rest : List Instr) → HasCode w (start_of w.layout Code + 4 * number) (start_code number (offset_of w.ir.ops place) ++ rest) to →
      steps_of w 11 (filling (start_of w.layout Code + 4 * number) (replicate 32 0)) ≡ Goes (standing w (address_of w place) false zeros f m)
  begins number place to rest code = all.ran
    where
      all : Runs 11 (filling (start_of w.layout Code + 4 * number) (replicate 32 0)) (Goes (standing w (address_of w place) false zeros f m))
      all =
          fills 16 0x1000 code
          (λ a. fills 17 0x1001 a
          (λ b. fills 18 0x1002 b
          (λ c. fills 19 0x1003 c
          (λ d. fills 20 0x1004 d
          (λ e. fills 21 0x1005 e
          (λ g. fills 22 0x1006 g
          (λ i. fills 23 0x2000 i
          (λ j. fills 24 0x2001 j
          (λ k. fills 25 1 k
          (λ l. goes-on (number + 10) place (omega arith) l))))))))))

-- Where the machine comes in some steps to what is related to flat code, its runs come to a front of what flat code does.
pub after-start : (w : World) (j : ℕ) (f : FlatState) (s t : Ideal) → steps_of w j s ≡ Goes t → Related w f t → ((k : ℕ) → Back w f t k) → (k : ℕ) → Back w f s k
after-start w j f s t came related back k = elim (cases_lt k j) [ inl below ↦ within below | inr beyond ↦ later beyond ]
  where
    later : j ≤ k → Back w f s k
    later beyond =
        let r : Back w f t (k - j) = back (k - j) in
        let whole : j + (k - j) ≡ k = omega (arith, beyond) in
        let ran : steps_of w k s ≡ steps_of w (k - j) t =
        ap (λ (n : ℕ). steps_of w n s) (sym whole) ∙ run-+ (ideal_step w.layout w.loose) j (k - j) s ∙ ap (λ (x : Next Ideal IdealEnd). and_then x (steps_of w (k - j))) came in
        let jumped : (state_of (run (flat_step w.loose w.ir) r.ops f)).jumps ≤ f.jumps + (k - j) = r.jumped in
        record {
          ops = r.ops;
          jumped = omega (arith, jumped);
          traffic = subst (λ (y : Next Ideal IdealEnd). Extends (state_of y).traffic (traffic_named w.name (state_of (run (flat_step w.loose w.ir) r.ops f)).traffic)) (sym ran) r.traffic;
          ended = λ final u stopped. r.ended final u (sym ran ∙ stopped);
        }

    within : k < j → Back w f s k
    within below =
        let whole : k + (j - k) ≡ j = omega (arith, below) in
        let all : steps_of w (k + (j - k)) s ≡ Goes t = ap (λ (n : ℕ). steps_of w n s) whole ∙ came in
        let front : Extends (state_of (steps_of w k s)).traffic (state_of (steps_of w (k + (j - k)) s)).traffic = run-extends w.layout w.loose k (j - k) s in
        let front' : Extends (state_of (steps_of w k s)).traffic t.traffic = subst (λ (y : Next Ideal IdealEnd). Extends (state_of (steps_of w k s)).traffic (state_of y).traffic) all front in
        record {
          ops = 0;
          jumped = omega arith;
          traffic = subst (λ (x : Ideal). Extends (state_of (steps_of w k s)).traffic x.traffic) related.is front';
          ended = λ final u stopped. absurd (no-stop t u final (sym all ∙ run-ended (ideal_step w.layout w.loose) k (j - k) s u final stopped));
        }
      where
        no-stop : (one other : Ideal) (final : IdealEnd) → Goes one ≡ Stops final other → ⊥
        no-stop one other final e = absurd (grind (arith, e))
