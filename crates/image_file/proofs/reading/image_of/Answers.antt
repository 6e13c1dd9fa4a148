use Rattle.std.proofs.Common.{◌≡◌, ◌*◌, ◌∙◌, ap, take, drop, arith}
use Rattle.image_file.specs.ReadParts.{words_in}
use Rattle.image_file.proofs.Words.{TakenApart, taken_apart_as}
use Rattle.image_file.proofs.reading.image_of.Goals as goal

pub invariant_of-result : goal.invariant_of-result
invariant_of-result c =
    let constants : c.new.result ≡ take (64 * c.args.header.layout.constants) c.args.blocks.now = c.new.ensures ∙ c.in_ok-constants.ensures.items ∙ c.split_at.ensures.front in
    let code : c.new-2.result ≡ words_in (drop (64 * c.args.header.layout.constants) c.args.blocks.now) = c.new-2.ensures ∙ c.in_ok-code.ensures ∙ ap words_in c.split_at.ensures.back in
    let apart = taken_apart_as c.args.blocks.now c.new.result c.new-2.result c.args.header.layout.constants c.args.header.layout.code constants code c.requires (λ i. omega (arith, c.type_inv.blocks i)) in
    record {
      shared_words = c.args.header.shared_words;
      entry_inside = c.args.header.entry_inside;
      constants_whole = apart.constants_whole;
      code_whole = apart.code_whole;
    }

pub returns-clause-blocks : goal.returns-clause-blocks
returns-clause-blocks c =
    let constants : c.new.result ≡ take (64 * c.args.header.layout.constants) c.args.blocks.now = c.new.ensures ∙ c.in_ok-constants.ensures.items ∙ c.split_at.ensures.front in
    let code : c.new-2.result ≡ words_in (drop (64 * c.args.header.layout.constants) c.args.blocks.now) = c.new-2.ensures ∙ c.in_ok-code.ensures ∙ ap words_in c.split_at.ensures.back in
    (taken_apart_as c.args.blocks.now c.new.result c.new-2.result c.args.header.layout.constants c.args.header.layout.code constants code c.requires (λ i. omega (arith, c.type_inv.blocks i))).bytes

pub returns-clause-words : goal.returns-clause-words
returns-clause-words c =
    let constants : c.new.result ≡ take (64 * c.args.header.layout.constants) c.args.blocks.now = c.new.ensures ∙ c.in_ok-constants.ensures.items ∙ c.split_at.ensures.front in
    let code : c.new-2.result ≡ words_in (drop (64 * c.args.header.layout.constants) c.args.blocks.now) = c.new-2.ensures ∙ c.in_ok-code.ensures ∙ ap words_in c.split_at.ensures.back in
    let apart = taken_apart_as c.args.blocks.now c.new.result c.new-2.result c.args.header.layout.constants c.args.header.layout.code constants code c.requires (λ i. omega (arith, c.type_inv.blocks i)) in
    record { constants = apart.constants_below; code = apart.code_below }
