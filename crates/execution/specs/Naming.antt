-- Promise: names under which places are known elsewhere, as the elements of a source by addresses, and what keeps under them.
use Rattle.std.specs.Prelude.{◌≡◌, ◌≢◌, ℕ, zero, suc, ◌+◌, Bool, cond, ◌==◌, nat_eq, List, [], ◌∷◌, map, ◌⊎◌}
use Rattle.execution.specs.Traffic.{Entry, Traffic, Element, is_same_element, Extends, traffic_from, input_word, after_input, loose_word, after_loose, after_release, after_write, after_check, after_suspension}

-- each entry at the place that its own place stands for
abbrev pub entry_named : {Place Name : Type 0} → (Place → Name) → Entry Place → Entry Name
entry_named name entry = record { place = name entry.place; word = entry.word }

-- what has come and gone, with each place under its name
abbrev pub traffic_named : {Place Name : Type 0} → (Place → Name) → Traffic Place → Traffic Name
traffic_named name t = record {
  input = t.input;
  loose = map (entry_named name) t.loose;
  taken = t.taken;
  bytes = t.bytes;
  writes = map (entry_named name) t.writes;
  releases = t.releases;
  checks = t.checks;
  suspensions = t.suspensions;
}

-- Under names each way in and out is as it was; loose words are, if the names tell places apart as before.
pub record NamesKeep (Place Name : Type 0) : Type 0 where
  pub start : (name : Place → Name) (input : List ℕ) (loose : List (Entry Place)) →
      traffic_named name (traffic_from input loose) ≡ traffic_from input (map (entry_named name) loose)
  pub input : (name : Place → Name) (t : Traffic Place) → input_word (traffic_named name t) ≡ input_word t
  pub after_input : (name : Place → Name) (t : Traffic Place) → after_input (traffic_named name t) ≡ traffic_named name (after_input t)
  pub loose : (name : Place → Name) (same : Place → Place → Bool) (same_name : Name → Name → Bool) (place : Place) (t : Traffic Place) →
      ((other : Place) → same_name (name place) (name other) ≡ same place other) →
      loose_word same_name (name place) (traffic_named name t) ≡ loose_word same place t
  pub after_loose : (name : Place → Name) (t : Traffic Place) → after_loose (traffic_named name t) ≡ traffic_named name (after_loose t)
  pub after_release : (name : Place → Name) (word : ℕ) (t : Traffic Place) →
      after_release word (traffic_named name t) ≡ traffic_named name (after_release word t)
  pub after_write : (name : Place → Name) (place : Place) (word : ℕ) (t : Traffic Place) →
      after_write (name place) word (traffic_named name t) ≡ traffic_named name (after_write place word t)
  pub after_check : (name : Place → Name) (t : Traffic Place) → after_check (traffic_named name t) ≡ traffic_named name (after_check t)
  pub after_suspension : (name : Place → Name) (t : Traffic Place) →
      after_suspension (traffic_named name t) ≡ traffic_named name (after_suspension t)
  pub extends : (name : Place → Name) (earlier later : Traffic Place) → Extends earlier later →
      Extends (traffic_named name earlier) (traffic_named name later)

-- each place has a name of its own, and each name is a place's: the second gives the place back
pub record IsNaming {Place Name : Type 0} (name : Place → Name) (place_at : Name → Place) : Type 0 where
  pub named : (n : Name) → name (place_at n) ≡ n
  pub placed : (place : Place) → place_at (name place) ≡ place

-- any entries and any traffic at names are those at places, under the names
pub record NamesReachAll (Place Name : Type 0) : Type 0 where
  pub entries : (name : Place → Name) (place_at : Name → Place) → IsNaming name place_at → (entries : List (Entry Name)) →
      map (entry_named name) (map (entry_named place_at) entries) ≡ entries
  pub traffic : (name : Place → Name) (place_at : Name → Place) → IsNaming name place_at → (t : Traffic Name) →
      traffic_named name (traffic_named place_at t) ≡ t

-- ---- elements by addresses

-- an element and its address
pub record Addressed : Type 0 where
  pub element : Element
  pub address : ℕ

-- the sum of the numbers up to this one
abbrev pub triangle : ℕ → ℕ
triangle zero = 0
triangle (suc n) = triangle n + suc n

-- the number of an element among all: they are counted along the diagonals
abbrev pub element_number : Element → ℕ
element_number element = triangle (element.variable + element.index) + element.index

-- the element after this one on its diagonal, or the first of the next diagonal
abbrev pub element_after : ℕ → ℕ → Element
element_after zero index = record { variable = suc index; index = 0 }
element_after (suc variable) index = record { variable = variable; index = suc index }

-- the element with this number
abbrev pub element_numbered : ℕ → Element
element_numbered zero = record { variable = 0; index = 0 }
element_numbered (suc n) = element_after (element_numbered n).variable (element_numbered n).index

-- the number that stands in the place of this one where two change places
abbrev pub exchanged : ℕ → ℕ → ℕ → ℕ
exchanged one other n = cond (n == one) other (cond (n == other) one n)

-- The names of all elements: those of the list are named by their addresses, and one that stands there by no address of an element.
abbrev pub name_by : List Addressed → Element → ℕ
name_by [] element = element_number element
name_by (a ∷ others) element = exchanged (name_by others a.element) a.address (name_by others element)

-- the element with this name: at an address of no element one that is not in the list, as an index out of range
abbrev pub element_by : List Addressed → ℕ → Element
element_by [] n = element_numbered n
element_by (a ∷ others) n = element_by others (exchanged (name_by others a.element) a.address n)

-- it is one of the list
abbrev pub IsOneOf : Addressed → List Addressed → Type 0
IsOneOf a [] = ⊥
IsOneOf a (b ∷ others) = (a ≡ b) ⊎ IsOneOf a others

-- no element has two addresses, and no address two elements
abbrev pub AreApart : List Addressed → Type 0
AreApart [] = Unit {0}
AreApart (a ∷ others) = ((b : Addressed) → IsOneOf b others → (a.element ≢ b.element) × (a.address ≢ b.address)) × AreApart others

-- The names of elements are a naming that agrees with the addresses, and the name of what is no element is no element's address.
pub record NamesAddresses : Type 0 where
  pub naming : (list : List Addressed) → IsNaming (name_by list) (element_by list)
  pub test : (list : List Addressed) (one other : Element) → nat_eq (name_by list one) (name_by list other) ≡ is_same_element one other
  pub addresses : (list : List Addressed) → AreApart list → (a : Addressed) → IsOneOf a list → name_by list a.element ≡ a.address
  pub beyond : (list : List Addressed) → AreApart list → (element : Element) → ((b : Addressed) → IsOneOf b list → b.element ≢ element) →
      (a : Addressed) → IsOneOf a list → name_by list element ≢ a.address
  pub unnamed : (list : List Addressed) → AreApart list → (address : ℕ) → ((b : Addressed) → IsOneOf b list → b.address ≢ address) →
      (a : Addressed) → IsOneOf a list → element_by list address ≢ a.element
