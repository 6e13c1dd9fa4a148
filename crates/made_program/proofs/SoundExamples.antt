-- A text that is no sound source, and the numbers that a made source may have.
use Rattle.std.proofs.Common.{◌≡◌, Err, refl, arith}
use Rattle.std.specs.Prelude.{codes}
use Rattle.c_token.specs.declared.kinds.TokenError.TheVariants.{BadByte}
use Rattle.c_token.specs.TextTokens.{tokens_of, tokens_from, front_at, front_then, put_before, token_of_len, judged, block_comment}
use Rattle.work_maker.specs.MadeSource.{made_source}
use Rattle.made_program.specs.MadeSources.{IsSoundSource, MadeSourcesAreSound}

-- a byte that begins no token
bad_byte : tokens_of (codes "$") ≡ Err (BadByte 0)
unfolding tokens_of tokens_from front_at front_then put_before token_of_len judged block_comment
bad_byte = refl

not_sound : IsSoundSource (codes "$") → ⊥
not_sound sound = cc (bad_byte, sound.is_program.lexed)

-- the least and the greatest number
least_and_most : MadeSourcesAreSound → IsSoundSource (made_source 1) × IsSoundSource (made_source 48)
least_and_most law = (law 1 (omega arith) (omega arith), law 48 (omega arith) (omega arith))
