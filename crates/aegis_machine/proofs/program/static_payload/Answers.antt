use Rattle.std.proofs.Common.{◌≡◌, ◌+◌, ◌-◌, ◌*◌, ◌≤◌, ◌∙◌, arith, ap, drop, length, take, List, ℕ}
use Rattle.std.specs.Int.{w32, to_be_bytes}
use Rattle.std.specs.List.{flat_map}
use Rattle.off_chip.specs.OffChipBytes.{bytes_at}
use Rattle.aegis_machine.proofs.ProgramLemmas.{code-bytes, constant-bytes}
use Rattle.aegis_machine.proofs.program.static_payload.Goals as goal

pub returns-then-number-constants : goal.returns-then-number-constants
returns-then-number-constants c =
    let image = c.args.image.now in
    let number = c.args.number in
    let inside : 64 * number + 64 ≤ length image.constants = omega (arith, image.constants_whole, c.if-number-constants.true) in
    c.constant_block.ensures ∙ ap (λ (l : List ℕ). bytes_at (64 * number) 64 l) c.as_slice.ensures ∙ constant-bytes image.constants (flat_map (to_be_bytes w32) image.code) number inside

pub returns-else-number-constants : goal.returns-else-number-constants
returns-else-number-constants c =
    let image = c.args.image.now in
    let number = c.args.number in
    let n = number - image.layout.constants in
    let is : number ≡ image.layout.constants + n = omega (arith, c.if-number-constants.false) in
    c.code_block.ensures ∙ ap (λ (l : List ℕ). flat_map (to_be_bytes w32) (take 16 (drop (16 * n) l))) c.as_slice-else-number-constants.ensures
    ∙ code-bytes image.constants image.code image.layout.constants n number image.constants_whole is
