-- Device: the room that keeps a name, whose unused bytes are zero, so that one text has one room.
use Rattle.std.proofs.Common.{◌≡◌, ◌∙◌, ap, sym, ℕ, ◌-◌, ◌≤◌, List, ◌++◌, length, take, drop, replicate}
use Rattle.std.proofs.lemmas.List.{take-append-drop, length-take-le}
use Rattle.aegis_num.specs.declared.limits.TheConstants.{MAX_NAME_BYTES}
use Rattle.aegis_num.specs.declared.name.Name.TheInside.{Inside}

-- the text that a room holds
abbrev pub text_of : Inside → List ℕ
text_of room = take room.len room.bytes

-- the text fits, and the rest is zero
pub record IsPadded (room : Inside) : Type 0 where
  pub size : length room.bytes ≡ MAX_NAME_BYTES
  pub fits : room.len ≤ MAX_NAME_BYTES
  pub rest : drop room.len room.bytes ≡ replicate (MAX_NAME_BYTES - room.len) 0

-- a room with these bytes, of which the first ones are its text
abbrev pub room_of : List ℕ → ℕ → Inside
room_of bytes len = record { bytes = bytes; len = len }

-- the room that holds a text
abbrev pub padded : List ℕ → Inside
padded text = room_of (text ++ replicate (MAX_NAME_BYTES - length text) 0) (length text)

pub padded-text_of : (n : Inside) → IsPadded n → padded (text_of n) ≡ n
padded-text_of n p =
    let fits : n.len ≤ length n.bytes = rw p.size p.fits in
    let e : length (take n.len n.bytes) ≡ n.len = length-take-le n.len n.bytes fits in
    let back : take n.len n.bytes ++ replicate (31 - n.len) 0 ≡ n.bytes = ap (λ rest. take n.len n.bytes ++ rest) (sym p.rest) ∙ take-append-drop n.len n.bytes in
    ap (λ k. room_of (take n.len n.bytes ++ replicate (31 - k) 0) k) e ∙ ap (λ b. room_of b n.len) back
