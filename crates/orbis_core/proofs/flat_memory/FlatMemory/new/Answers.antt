use Rattle.std.proofs.Common.{◌≡◌, ℕ, ◌+◌, ◌*◌, ◌/◌, List, length, refl, ap, rules}
use Rattle.std.specs.Vec.{vec_len}
use Rattle.orbis_core.specs.FlatMemory.{Flat}
use Rattle.orbis_core.proofs.FlatLemmas.{filled}
use Rattle.orbis_core.proofs.flat_memory.FlatMemory.new.Goals as goal

pub returns : goal.returns
returns c =
    let flat : List ℕ → Flat = λ words. record { layout = c.args.layout.now; words = words } in
    let count : ℕ = 16384 + 16 * (c.args.layout.now.verified + c.args.layout.now.private) in
    let log : ℕ = 16 * c.args.layout.now.log in
    let second_len : vec_len c.push_words.new.words ≡ length c.push_words.new.words.items = search rules in
    ap flat (filled count log (count + length c.args.statics.now / 4 + log) (vec_len c.new-words.result) (vec_len c.push_words.new.words)
    c.args.statics.now c.new-words.result.items c.resize.new.self.items c.push_words.new.words.items c.resize-2.new.self.items
    refl c.new-words.ensures.items c.new-words.ensures.len c.in_ok-resize.ensures.items c.in_ok-push_words.ensures second_len c.in_ok-resize-2.ensures.items)
