use Rattle.std.proofs.Common.{◌≡◌, ℕ, ◌+◌, ◌*◌, ◌/◌, ◌%◌, ◌<◌, ◌≤◌, ◌^◌, ◌∙◌, ◌-◌, ◌++◌, List, arith, ap, length, replicate, subst, sym, take}
use Rattle.orbis_core.specs.ByteOrder.{bytes_of}
use Rattle.std.specs.Prelude.{nat_eq}
use Rattle.std.specs.HashMap.{get}
use Rattle.ir_code.specs.declared.Cell.{Cell}
use Rattle.ir_code.specs.declared.Op.{Op}
use Rattle.region_plan.specs.Homes.{HasHomes, HasSizes}
use Rattle.std.specs.List.{AllByRecursion}
use Rattle.codegen.specs.EmittedImage.{HasFirstWords}
use Rattle.codegen.specs.ImageCode.{code_blocks, code_size, constant_words, offset_of, start_size}
use Rattle.codegen.specs.Numbers.{AreLow, label_number, sites_in}
use Rattle.codegen.proofs.CodeSizes.{code_size-take-le, offset_of-take}
use Rattle.codegen.proofs.ConstantSizes.{length-constant_bytes}
use Rattle.codegen.proofs.Imaging.{images-mean-code}
use Rattle.codegen.proofs.Plain.{images-are-sound}
use Rattle.codegen.proofs.Statics.{first-words}
use Rattle.codegen.proofs.TablePlaces.{are-low, length-words, placed-words}
use Rattle.codegen.proofs.image.emit.Goals as goal
use Rattle.codegen.proofs.image.emit.Goals.{After-as_slice, After-code_size-entry}

pub overflow_add-size : goal.overflow_add-size
overflow_add-size c = omega (arith, c.code_size-size.ensures.small, ap length c.as_slice-ops.ensures, c.requires.ops)

has : (c : After-as_slice) → HasHomes c.in_ok-placement.placement.layout c.args.ir.now c.as_slice.result.now
has c = subst (λ (homes : List ℕ). HasHomes c.in_ok-placement.placement.layout c.args.ir.now homes) (sym c.as_slice.ensures) c.in_ok-placement.ensures.homes

known : (c : After-as_slice) → (l : ℕ) → get nat_eq c.in_ok-labels.labels.numbers l ≡ label_number 0 c.args.ir.now.ops l
known c l = c.in_ok-labels.ensures l ∙ ap (λ (ops : List Op). label_number 0 ops l) c.as_slice-ops.ensures

sized : (c : After-as_slice) → c.code_size-size.result ≡ code_size c.args.ir.now.ops
sized c = c.code_size-size.ensures.size ∙ ap code_size c.as_slice-ops.ensures

sizes : (c : After-as_slice) → HasSizes c.in_ok-placement.placement.layout c.args.ir.now (code_blocks c.args.ir.now)
sizes c =
    subst (λ (n : ℕ). HasSizes c.in_ok-placement.placement.layout c.args.ir.now ((n + start_size + 15) / 16)) (sized c) c.in_ok-placement.ensures.sizes

low : (c : After-as_slice) → AreLow c.as_slice.result.now c.in_ok-labels.labels
low c =
    are-low c.in_ok-placement.placement.layout c.args.ir.now (code_blocks c.args.ir.now) c.as_slice.result.now c.in_ok-labels.labels (sizes c) c.requires.no_code (has c) (known c)
    (omega (arith, (sizes c).code, c.in_ok-placement.placement.layout.data_fits))

pub image_code-requires-clause-low : goal.image_code-requires-clause-low
image_code-requires-clause-low c = low (goal.at.image_code-requires-clause-low c).After-as_slice

-- the entry is no place after the code
pub image_code-requires-clause-entry : goal.image_code-requires-clause-entry
image_code-requires-clause-entry c =
    omega (arith, c.code_size-entry.ensures.size, c.code_size-size.ensures.size, code_size-take-le c.as_slice-ops.result.now c.args.ir.now.entry)

-- the start goes on at the entry
entry_is : (c : After-code_size-entry) → c.code_size-entry.result ≡ offset_of c.args.ir.now.ops c.args.ir.now.entry
entry_is c =
    c.code_size-entry.ensures.size ∙ ap (λ (ops : List Op). code_size (take c.args.ir.now.entry ops)) c.as_slice-ops.ensures
    ∙ sym (offset_of-take c.args.ir.now.ops c.args.ir.now.entry)

pub invariant_of-result : goal.invariant_of-result
invariant_of-result c =
    let s = sizes (goal.at.invariant_of-result c).After-as_slice in
    let z = sized (goal.at.invariant_of-result c).After-as_slice in
    let shared : c.in_ok-placement.placement.layout.shared % 4 ≡ 0 = omega (arith, s.shared) in
    let inside : c.code_size-size.result < 16 * c.in_ok-placement.placement.layout.code = omega (arith, s.code, z) in
    let constants : length c.in_ok-constants.constants ≡ 64 * c.in_ok-placement.placement.layout.constants =
    ap length c.in_ok-constants.ensures.value
    ∙ ap (λ (cells : List Cell). length (bytes_of (constant_words cells ++ replicate (16 * c.in_ok-placement.placement.layout.constants - length (constant_words cells)) 0))) c.as_slice-2.ensures
    ∙ length-constant_bytes c.args.ir.now.cells c.in_ok-placement.placement.layout.constants c.requires.first s.constants in
    let room : c.code_size-size.result + start_size ≤ 16 * c.in_ok-placement.placement.layout.code = omega (arith, s.code, z) in
    let code : length c.in_ok-code.code ≡ 16 * c.in_ok-placement.placement.layout.code =
    length-words c.in_ok-code.code (sites_in c.as_slice.result.now c.in_ok-labels.labels) c.as_slice-ops.result.now c.code_size-size.result
    c.code_size-entry.result (16 * c.in_ok-placement.placement.layout.code) c.code_size-size.ensures.size room c.in_ok-code.ensures.code in
    record { shared_words = shared; entry_inside = inside; constants_whole = constants; code_whole = code }

pub returns-clause-image : goal.returns-clause-image
returns-clause-image c =
    let at = (goal.at.returns-clause-image c).After-as_slice in
    record {
      sizes = sizes at;
      entry = sized at;
      constants = c.in_ok-constants.ensures.value
          ∙ ap (λ (cells : List Cell). bytes_of (constant_words cells ++ replicate (16 * c.in_ok-placement.placement.layout.constants - length (constant_words cells)) 0)) c.as_slice-2.ensures;
      code = placed-words c.in_ok-placement.placement.layout c.args.ir.now c.as_slice.result.now c.in_ok-labels.labels c.as_slice-ops.result.now c.code_size-size.result
          c.code_size-entry.result c.in_ok-code.code c.requires (has at) (known at) c.as_slice-ops.ensures (sized at) (entry_is (goal.at.returns-clause-image c).After-code_size-entry) (sizes at).code
          c.in_ok-code.ensures.code;
    }

pub returns-clause-meaning : goal.returns-clause-meaning
returns-clause-meaning c = λ loose lawful.
    let first : HasFirstWords c.args.ir.now.cells =
    first-words c.args.ir.now.cells c.requires.first
    (subst (λ (cells : List Cell). AllByRecursion (λ word. word < 2 ^ 32) (constant_words cells)) c.as_slice-2.ensures c.in_ok-constants.ensures.words) in
    images-mean-code loose c.args.ir.now _ lawful first (returns-clause-image c) (record { constants = c.in_ok-constants.ensures.bytes; code = c.in_ok-code.ensures.words })

pub returns-clause-sound : goal.returns-clause-sound
returns-clause-sound c = λ lawful.
    let first : HasFirstWords c.args.ir.now.cells =
    first-words c.args.ir.now.cells c.requires.first
    (subst (λ (cells : List Cell). AllByRecursion (λ word. word < 2 ^ 32) (constant_words cells)) c.as_slice-2.ensures c.in_ok-constants.ensures.words) in
    images-are-sound c.args.ir.now _ lawful first (returns-clause-image c) (record { constants = c.in_ok-constants.ensures.bytes; code = c.in_ok-code.ensures.words })
