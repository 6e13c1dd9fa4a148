-- Device: what the block of a region owns and lends.
use Rattle.std.specs.Prelude.{ℕ, List, length}
use base.Fraction.{full_share}
use base.Fml.{Lft, Fml}
use mir.Syntax.{Ty, w8, ty_int, ty_array}
use denote.Array.{Array}
use denote.Builtin.{u8}
use denote.RawPtr.{Ptr, lies_at, room_for}
use denote.Struct.Lending.{lent_at}

-- the type of a block of n bytes
abbrev pub block_type : ℕ → Ty
block_type n = ty_array (ty_int w8) n

-- room for n bytes at p, whatever they hold
abbrev pub room_at : Ptr → ℕ → Fml
room_at p n = room_for (block_type n) p

-- the bytes xs lie at p
abbrev pub bytes_owned : Ptr → List ℕ → Fml
bytes_owned p xs = lies_at (Array u8 (length xs)) full_share p xs

-- they may be read until the lifetime ends
abbrev pub bytes_lent : Ptr → List ℕ → Lft → Fml
bytes_lent p xs = lent_at (Array u8 (length xs)) p xs
