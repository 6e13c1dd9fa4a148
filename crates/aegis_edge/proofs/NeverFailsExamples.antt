-- Worked examples of a sink that never fails.
use Rattle.std.proofs.Common.{◌≡◌, ℕ, ◌-◌, [], ◌∷◌, length, get_or, refl, sym, ap, arith}
use Rattle.std.specs.Prelude.{codes}
use Rattle.aegis_edge.specs.NeverFails.{Room, new_room, room_after_write}

-- room for three bytes, of which two are taken
abbrev two : Room
two = record { bytes = 0x41 ∷ 0x42 ∷ []; left = 1 }

room_after_write-two : room_after_write (new_room 3) (codes "AB") ≡ two
room_after_write-two = refl

room_after_write-third : room_after_write two (codes "C") ≡ record { bytes = codes "ABC"; left = 0 }
room_after_write-third = refl

room_after_write-empty : room_after_write two [] ≡ two
room_after_write-empty = refl

letters_differ : ◌≡◌ {A = ℕ} 65 67 → ⊥
letters_differ same = omega arith

one_left : ◌≡◌ {A = ℕ} 0 1 → ⊥
one_left same = omega arith

room_after_write-not_front : room_after_write two (codes "C") ≡ record { bytes = codes "CAB"; left = 0 } → ⊥
room_after_write-not_front same = letters_differ (ap (λ (room : Room). get_or room.bytes 0 0) same)

room_after_write-not_left : room_after_write two (codes "C") ≡ record { bytes = codes "ABC"; left = 1 } → ⊥
room_after_write-not_left same = one_left (ap (λ (room : Room). room.left) same)

new_room-not_empty : new_room 1 ≡ new_room 0 → ⊥
new_room-not_empty same = one_left (ap (λ (room : Room). room.left) (sym same))

new_room-not_filled : new_room 1 ≡ record { bytes = 0 ∷ []; left = 1 } → ⊥
new_room-not_filled same = one_left (ap (λ (room : Room). length room.bytes) same)
