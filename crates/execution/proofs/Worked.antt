-- Worked examples of the definitions, each of which computes.
use Rattle.std.proofs.Common.{◌≡◌, ℕ, zero, suc, ◌+◌, ◌≤◌, ◌^◌, Bool, true, nat_eq, List, [], ◌∷◌, Some, None, arith, refl}
use Rattle.execution.specs.Naming.{Addressed, name_by, element_by, traffic_named}
use Rattle.execution.specs.Run.{Next, Goes, Stops, run}
use Rattle.execution.specs.Traffic.{Element, Traffic, Extends, traffic_from, input_word, after_input, loose_word, after_loose, after_release, after_write, after_check, after_suspension}

abbrev start : Traffic ℕ
start = traffic_from (7 ∷ []) (record { place = 5; word = 2 ^ 32 + 9 } ∷ [])

-- the byte, and then -1 again and again
input : (input_word start ≡ 7) × (input_word (after_input start) ≡ 4294967295) × (input_word (after_input (after_input start)) ≡ 4294967295)
input = (refl, refl, refl)

-- the entry's own place alone can be read, and nothing after the last entry
loose : (loose_word nat_eq 5 start ≡ Some 9) × (loose_word nat_eq 6 start ≡ None) × (loose_word nat_eq 5 (after_loose start) ≡ None)
loose = (refl, refl, refl)

taken : ((after_loose start).taken ≡ 1) × ((after_loose start).loose ≡ [])
taken = (refl, refl)

-- the low eight bits, in order
released : ((after_release 0x141 (after_release 72 start)).bytes ≡ 72 ∷ 0x41 ∷ []) × ((after_release 0x141 (after_release 72 start)).releases ≡ 2)
released = (refl, refl)

written : (after_write 6 11 (after_write 5 10 start)).writes ≡ record { place = 5; word = 10 } ∷ record { place = 6; word = 11 } ∷ []
written = refl

-- a machine that counts down from a state, and ends at 0
abbrev countdown : ℕ → Next ℕ Bool
countdown zero = Stops true 0
countdown (suc n) = Goes n

counted : (run countdown 2 3 ≡ Goes 1) × (run countdown 3 3 ≡ Goes 0) × (run countdown 4 3 ≡ Stops true 0) × (run countdown 9 3 ≡ Stops true 0)
counted = (refl, refl, refl, refl)

-- each part of what has come and gone, after one thing of each kind
abbrev later : Traffic ℕ
later = after_suspension (after_suspension (after_suspension (after_check (after_check (after_write 6 11 (after_release 0x141 (after_loose (after_input start))))))))

each_part : later ≡ record {
  input = [];
  loose = [];
  taken = 1;
  bytes = 0x41 ∷ [];
  writes = record { place = 6; word = 11 } ∷ [];
  releases = 1;
  checks = 2;
  suspensions = 3;
}
each_part = refl

-- with each place under a name, the places alone are other ones
renamed : traffic_named (λ place. place + 100) (record later { loose = record { place = 5; word = 9 } ∷ [] }) ≡ record later {
  loose = record { place = 105; word = 9 } ∷ [];
  writes = record { place = 106; word = 11 } ∷ [];
}
renamed = refl

-- a count that falls, a byte that goes and a byte with no release are no later state
no-count-falls : Extends later (record later { suspensions = 2 }) → ⊥
no-count-falls h = let below : 3 ≤ 2 = h.suspensions in absurd (omega (arith, below))

-- ---- names of elements

abbrev element : ℕ → ℕ → Element
element variable index = record { variable = variable; index = index }

-- an array of two elements at the addresses 20 and 24
abbrev array : List Addressed
array = record { element = element 3 0; address = 20 } ∷ record { element = element 3 1; address = 24 } ∷ []

-- the elements have their addresses as names, and an index out of range has another name
names : (name_by array (element 3 0) ≡ 20) × (name_by array (element 3 1) ≡ 24) × (name_by array (element 3 2) ≡ 17)
names = (refl, refl, refl)

-- from the names back; 6 is the address of no element
places : (element_by array 20 ≡ element 3 0) × (element_by array 24 ≡ element 3 1) × (element_by array 17 ≡ element 3 2) × (element_by array 6 ≡ element 0 5)
places = (refl, refl, refl, refl)
