-- The tables of a writer agree with where things are.
use Rattle.std.proofs.Common.{◌≡◌, ℕ, zero, suc, ◌+◌, ◌*◌, ◌^◌, ◌<◌, ◌≤◌, true, List, [], ◌∷◌, length, get_or, Option, Some, ◌⊎◌, inl, inr, refl, sym, ap, ◌∙◌, arith, map, replicate, ◌-◌, ◌++◌, length-append}
use Rattle.std.proofs.lemmas.List.{length-map, length-replicate}
use Rattle.orbis_word.specs.Reading.{instruction_in}
use Rattle.orbis_word.specs.declared.Instr.{Instr}
use Rattle.orbis_word.specs.declared.Instr.TheVariants.{Nop}
use Rattle.std.proofs.lemmas.Option.{get_or_from_slice_get}
use Rattle.std.specs.Prelude.{slice_index, unwrap_or, nat_eq}
use Rattle.std.specs.HashMap.{get}
use Rattle.regions.specs.declared.Layout.{Layout}
use Rattle.ir_code.specs.declared.Ir.{Ir}
use Rattle.ir_code.specs.declared.Op.{Op}
use Rattle.ir_code.specs.Lawful.{HasForm, all_hold, is_data}
use Rattle.region_plan.specs.Homes.{HasSizes, HasHomes, home_address}
use Rattle.region_plan.proofs.HomeLaws.{home-low}
use Rattle.codegen.specs.declared.sites.LabelTable.{LabelTable}
use Rattle.codegen.specs.OpInstructions.{Sites, start_code}
use Rattle.codegen.specs.ImageCode.{code_size, code_from, code_blocks, code_of, offset_of, sites_of, start_size}
use Rattle.codegen.specs.Numbers.{number_in, sites_in, label_number, AreLow}
use Rattle.codegen.proofs.CodeSizes.{length-code_from}
use Rattle.codegen.proofs.LabelNumbers.{number-is_offset, number-le}
use Rattle.codegen.proofs.SameCode.{same-code}

pub home-read : (layout : Layout) (ir : Ir) (homes : List ℕ) → HasHomes layout ir homes → (c : ℕ) → c < length ir.cells → slice_index homes c ≡ home_address layout ir c
home-read layout ir homes has c inside = get_or_from_slice_get homes c (home_address layout ir c) 0 (has.each c inside)

get-past : (xs : List ℕ) (c : ℕ) → length xs ≤ c → get_or xs c 0 ≡ 0
get-past [] c past = refl
get-past (x ∷ xs) zero past = absurd (omega (arith, past))
get-past (x ∷ xs) (suc c) past = get-past xs c (omega (arith, past))

in-or_past : (c n : ℕ) → (c < n) ⊎ (n ≤ c)
in-or_past c n = grind arith

low-one : (layout : Layout) (ir : Ir) (n : ℕ) (homes : List ℕ) → HasSizes layout ir n → all_hold is_data ir.cells ≡ true → HasHomes layout ir homes →
    (c : ℕ) → ((c < length ir.cells) ⊎ (length ir.cells ≤ c)) → slice_index homes c < 2 ^ 31
low-one layout ir n homes sizes all has c (inl inside) = omega (arith, home-read layout ir homes has c inside, home-low layout ir n c sizes all inside)
low-one layout ir n homes sizes all has c (inr past) = omega (arith, get-past homes c (omega (arith, has.all, past)))

number-known : (table : LabelTable) (ops : List Op) → ((l : ℕ) → get nat_eq table.numbers l ≡ label_number 0 ops l) → (l : ℕ) → number_in table l ≡ unwrap_or (label_number 0 ops l) 0
number-known table ops known l = ap (λ (it : Option ℕ). unwrap_or it 0) (known l)

pub are-low : (layout : Layout) (ir : Ir) (n : ℕ) (homes : List ℕ) (table : LabelTable) → HasSizes layout ir n → all_hold is_data ir.cells ≡ true → HasHomes layout ir homes →
    ((l : ℕ) → get nat_eq table.numbers l ≡ label_number 0 ir.ops l) → code_size ir.ops < 2 ^ 25 → AreLow homes table
are-low layout ir n homes table sizes all has known small = record {
  addresses = λ c. low-one layout ir n homes sizes all has c (in-or_past c (length ir.cells));
  numbers = λ l. omega (arith, number-known table ir.ops known l, number-le 0 ir.ops l, small);
}

pub placed-code : (layout : Layout) (ir : Ir) (homes : List ℕ) (table : LabelTable) → HasForm ir → HasHomes layout ir homes →
    ((l : ℕ) → get nat_eq table.numbers l ≡ label_number 0 ir.ops l) →
    code_from (sites_in homes table) 0 ir.ops ≡ code_from (sites_of (home_address layout ir) ir) 0 ir.ops
placed-code layout ir homes table form has known =
    same-code ir (sites_in homes table) (sites_of (home_address layout ir) ir) form (home-read layout ir homes has)
    (λ l. number-known table ir.ops known l ∙ number-is_offset ir l)

-- ---- the whole code

length-same : (code : List ℕ) (is : List Instr) → map instruction_in code ≡ map Some is → length code ≡ length is
length-same code is e = sym (length-map code instruction_in) ∙ ap length e ∙ length-map is Some

pub length-words : (code : List ℕ) (at : Sites) (ops : List Op) (size entry words : ℕ) → size ≡ code_size ops → size + start_size ≤ words →
    map instruction_in code ≡ map Some (code_from at 0 ops ++ (start_code size entry ++ replicate (words - (size + start_size)) (Nop 0))) → length code ≡ words
length-words code at ops size entry words sized room e =
    let start : length (start_code size entry) ≡ start_size = refl in
    omega (
      arith,
      length-same code (code_from at 0 ops ++ (start_code size entry ++ replicate (words - (size + start_size)) (Nop 0))) e,
      length-append (code_from at 0 ops) (start_code size entry ++ replicate (words - (size + start_size)) (Nop 0)),
      length-append (start_code size entry) (replicate (words - (size + start_size)) (Nop 0)),
      start,
      length-code_from at 0 ops,
      length-replicate (words - (size + start_size)) (Nop 0),
      sized,
      room,
    )

pub placed-words : (layout : Layout) (ir : Ir) (homes : List ℕ) (table : LabelTable) (ops : List Op) (size entry : ℕ) (code : List ℕ) → HasForm ir → HasHomes layout ir homes →
    ((l : ℕ) → get nat_eq table.numbers l ≡ label_number 0 ir.ops l) → ops ≡ ir.ops → size ≡ code_size ir.ops → entry ≡ offset_of ir.ops ir.entry → layout.code ≡ code_blocks ir →
    map instruction_in code ≡ map Some (code_from (sites_in homes table) 0 ops ++ (start_code size entry ++ replicate (16 * layout.code - (size + start_size)) (Nop 0))) →
    map instruction_in code ≡ map Some (code_of (home_address layout ir) ir)
placed-words layout ir homes table ops size entry code form has known same sized begins blocks e =
    e
    ∙ ap (λ (ops : List Op). map Some (code_from (sites_in homes table) 0 ops ++ (start_code size entry ++ replicate (16 * layout.code - (size + start_size)) (Nop 0)))) same
    ∙ ap (λ (is : List Instr). map Some (is ++ (start_code size entry ++ replicate (16 * layout.code - (size + start_size)) (Nop 0)))) (placed-code layout ir homes table form has known)
    ∙ ap (λ (n : ℕ). map Some (code_from (sites_of (home_address layout ir) ir) 0 ir.ops ++ (start_code n entry ++ replicate (16 * layout.code - (n + start_size)) (Nop 0)))) sized
    ∙ ap (λ (n : ℕ). map Some (code_from (sites_of (home_address layout ir) ir) 0 ir.ops ++ (start_code (code_size ir.ops) n ++ replicate (16 * layout.code - (code_size ir.ops + start_size)) (Nop 0)))) begins
    ∙ ap (λ (m : ℕ). map Some (code_from (sites_of (home_address layout ir) ir) 0 ir.ops
    ++ (start_code (code_size ir.ops) (offset_of ir.ops ir.entry) ++ replicate (16 * m - (code_size ir.ops + start_size)) (Nop 0)))) blocks
