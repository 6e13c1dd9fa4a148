use Rattle.std.proofs.Common.{◌≡◌, ◌++◌, List, ℕ, take, ap, ◌∙◌}
use Rattle.std.specs.Int.{w128, from_be_bytes}
use Rattle.sha1.specs.Sha1.{sha1}
use Rattle.block_hash.specs.declared.strings.TheConstants.{LOG_TAG}
use Rattle.block_hash.specs.BlockStrings.{block_string, entry_value}
use Rattle.block_hash.proofs.strings.entry_value.Goals as goal

pub returns : goal.returns
unfolding entry_value
returns c =
    let digest : c.finalize.result ≡ sha1 (c.args.key.now.0 ++ block_string LOG_TAG c.args.number c.args.b.now) =
    c.finalize.ensures _ (c.update-2.ensures _ (c.update.ensures _ c.new-hasher.ensures)) ∙ ap (λ (xs : List ℕ). sha1 (c.args.key.now.0 ++ xs)) c.block_string.ensures.value in
    record {
      value = c.from_be_bytes.ensures ∙ ap (λ (bytes : List ℕ). from_be_bytes w128 bytes) (c.first_of.ensures ∙ ap (λ (xs : List ℕ). take 16 xs) digest);
    }
