-- What keeps under names, and the names of elements.
use Rattle.std.proofs.Common.{◌≡◌, ◌≢◌, ℕ, zero, suc, ◌+◌, ◌==◌, Bool, true, false, cond, nat_eq, List, [], ◌∷◌, map, inl, inr, arith, refl, sym, ◌∙◌, ap, subst}
use Rattle.std.proofs.lemmas.List.{map-append, length-map}
use Rattle.std.proofs.lemmas.Bool.Decides.{nat_tests}
use Rattle.execution.specs.Traffic.{Entry, Traffic, Element, is_same_element, Extends, after_loose, after_write, without_first, word_at, loose_word}
use Rattle.execution.specs.Naming.{entry_named, traffic_named, IsNaming, Addressed, triangle, element_number, element_after, element_numbered, exchanged, name_by, element_by, IsOneOf, AreApart}

module _ {Place Name : Type 0} (name : Place → Name) where
  -- a place under its name is found where it was found
  pub named-loose : (same : Place → Place → Bool) (same_name : Name → Name → Bool) (place : Place) (t : Traffic Place) →
      ((other : Place) → same_name (name place) (name other) ≡ same place other) →
      loose_word same_name (name place) (traffic_named name t) ≡ loose_word same place t
  named-loose same same_name place t kept = go t.loose
    where
      go : (entries : List (Entry Place)) → word_at same_name (name place) (map (entry_named name) entries) ≡ word_at same place entries
      go [] = refl
      go (entry ∷ entries) = rw (kept entry.place) refl

  named-rest : (entries : List (Entry Place)) → without_first (map (entry_named name) entries) ≡ map (entry_named name) (without_first entries)
  named-rest [] = refl
  named-rest (entry ∷ entries) = refl

  pub named-after_loose : (t : Traffic Place) → after_loose (traffic_named name t) ≡ traffic_named name (after_loose t)
  named-after_loose t = ap (λ left. record (after_loose (traffic_named name t)) { loose = left }) (named-rest t.loose)

  pub named-after_write : (place : Place) (word : ℕ) (t : Traffic Place) → after_write (name place) word (traffic_named name t) ≡ traffic_named name (after_write place word t)
  named-after_write place word t =
      ap (λ all. record (traffic_named name t) { writes = all }) (sym (map-append (entry_named name) t.writes (record { place = place; word = word } ∷ [])))

  pub named-extends : (earlier later : Traffic Place) → Extends earlier later → Extends (traffic_named name earlier) (traffic_named name later)
  named-extends earlier later h = record {
    input = h.input;
    loose = (
      map (entry_named name) h.loose.0,
      ap (map (entry_named name)) h.loose.1 ∙ map-append (entry_named name) h.loose.0 later.loose,
      h.loose.2 ∙ ap (λ n. earlier.taken + n) (sym (length-map h.loose.0 (entry_named name))),
    );
    bytes = h.bytes;
    writes = (map (entry_named name) h.writes.0, ap (map (entry_named name)) h.writes.1 ∙ map-append (entry_named name) earlier.writes h.writes.0);
    checks = h.checks;
    suspensions = h.suspensions;
  }

module _ {Place Name : Type 0} (name : Place → Name) (place_at : Name → Place) (naming : IsNaming name place_at) where
  pub named-entries : (entries : List (Entry Name)) → map (entry_named name) (map (entry_named place_at) entries) ≡ entries
  named-entries [] = refl
  named-entries (entry ∷ entries) =
      ap (λ n. record { place = n; word = entry.word } ∷ map (entry_named name) (map (entry_named place_at) entries)) (naming.named entry.place)
      ∙ ap (λ es. entry ∷ es) (named-entries entries)

  pub named-traffic : (t : Traffic Name) → traffic_named name (traffic_named place_at t) ≡ t
  named-traffic t =
      ap (λ es. record (traffic_named name (traffic_named place_at t)) { loose = es }) (named-entries t.loose)
      ∙ ap (λ es. record t { writes = es }) (named-entries t.writes)

-- ---- two numbers that change places

exchanged-twice : (one other n : ℕ) → exchanged one other (exchanged one other n) ≡ n
exchanged-twice one other n = go (n == one) refl (n == other) refl
  where
    go : (b : Bool) → (n == one) ≡ b → (c : Bool) → (n == other) ≡ c → exchanged one other (cond b other (cond c one n)) ≡ n
    go true e c f = let q : n ≡ one = grind (arith, nat_tests, e) in second q (other == one) refl
      where
        second : n ≡ one → (d : Bool) → (other == one) ≡ d → cond d other (cond (other == other) one other) ≡ n
        second q true h = grind (arith, nat_tests, h, q)
        second q false h = grind (arith, nat_tests, h, q)
    go false e true f = grind (arith, nat_tests, e, f)
    go false e false f = grind (arith, nat_tests, e, f)

exchanged-one : (one other : ℕ) → exchanged one other one ≡ other
exchanged-one one other = grind (arith, nat_tests)

exchanged-apart : (one other n : ℕ) → n ≢ one → n ≢ other → exchanged one other n ≡ n
exchanged-apart one other n a b =
    let e : (n == one) ≡ false = grind (arith, nat_tests, a) in
    let f : (n == other) ≡ false = grind (arith, nat_tests, b) in
    ap (λ t. cond t other (cond (n == other) one n)) e ∙ ap (λ t. cond t one n) f

-- ---- elements along the diagonals

number-after : (variable index : ℕ) → element_number (element_after variable index) ≡ suc (triangle (variable + index) + index)
number-after zero index =
    let e : suc index + 0 ≡ suc index = omega arith in
    let f : 0 + index ≡ index = omega arith in
    rw (e, f) (omega arith)
number-after (suc variable) index =
    let e : variable + suc index ≡ suc variable + index = omega arith in
    rw e (omega arith)

number-numbered : (n : ℕ) → element_number (element_numbered n) ≡ n
number-numbered zero = refl
number-numbered (suc n) = number-after (element_numbered n).variable (element_numbered n).index ∙ ap suc (number-numbered n)

-- from the first element of a diagonal, the others of it
numbered-diagonal : (sum : ℕ) → element_numbered (triangle sum) ≡ record { variable = sum; index = 0 } → (index variable : ℕ) → variable + index ≡ sum →
    element_numbered (triangle sum + index) ≡ record { variable = variable; index = index }
numbered-diagonal sum first zero variable e =
    let q : triangle sum + 0 ≡ triangle sum = omega arith in
    ap element_numbered q ∙ first ∙ ap (λ v. record { variable = v; index = 0 }) (omega (arith, e))
numbered-diagonal sum first (suc index) variable e =
    let q : triangle sum + suc index ≡ suc (triangle sum + index) = omega arith in
    ap element_numbered q ∙ ap (λ (element : Element). element_after element.variable element.index) (numbered-diagonal sum first index (suc variable) (omega (arith, e)))

numbered-first : (sum : ℕ) → element_numbered (triangle sum) ≡ record { variable = sum; index = 0 }
numbered-first zero = refl
numbered-first (suc sum) =
    let q : triangle sum + suc sum ≡ suc (triangle sum + sum) = omega arith in
    ap element_numbered q ∙ ap (λ (element : Element). element_after element.variable element.index) (numbered-diagonal sum (numbered-first sum) sum 0 (omega arith))

numbered-number : (variable index : ℕ) → element_numbered (triangle (variable + index) + index) ≡ record { variable = variable; index = index }
numbered-number variable index = numbered-diagonal (variable + index) (numbered-first (variable + index)) index variable refl

-- ---- the names of elements

pub name-element : (list : List Addressed) (n : ℕ) → name_by list (element_by list n) ≡ n
name-element [] n = number-numbered n
name-element (a ∷ others) n =
    ap (exchanged (name_by others a.element) a.address) (name-element others (exchanged (name_by others a.element) a.address n))
    ∙ exchanged-twice (name_by others a.element) a.address n

pub element-name : (list : List Addressed) (element : Element) → element_by list (name_by list element) ≡ element
element-name [] element = numbered-number element.variable element.index
element-name (a ∷ others) element =
    ap (element_by others) (exchanged-twice (name_by others a.element) a.address (name_by others element)) ∙ element-name others element

pub is-naming : (list : List Addressed) → IsNaming (name_by list) (element_by list)
is-naming list = record { named = name-element list; placed = element-name list }

-- elements with one name are one
one-element : (list : List Addressed) (one other : Element) → name_by list one ≡ name_by list other → one ≡ other
one-element list one other e = sym (element-name list one) ∙ ap (element_by list) e ∙ element-name list other

same-element : (one other : Element) → is_same_element one other ≡ true → one ≡ other
same-element one other e =
    let v : one.variable ≡ other.variable = grind (arith, nat_tests, e) in
    let i : one.index ≡ other.index = grind (arith, nat_tests, e) in
    ap (λ variable. record { variable = variable; index = one.index }) v ∙ ap (λ index. record { variable = other.variable; index = index }) i

same-refl : (element : Element) → is_same_element element element ≡ true
same-refl element = grind (arith, nat_tests)

pub name-test : (list : List Addressed) (one other : Element) → nat_eq (name_by list one) (name_by list other) ≡ is_same_element one other
name-test list one other = go (is_same_element one other) refl (nat_eq (name_by list one) (name_by list other)) refl
  where
    go : (b : Bool) → is_same_element one other ≡ b → (c : Bool) → nat_eq (name_by list one) (name_by list other) ≡ c → c ≡ b
    go true e true f = refl
    go false e false f = refl
    go true e false f =
        let q : name_by list one ≡ name_by list other = ap (name_by list) (same-element one other e) in absurd (grind (arith, nat_tests, q, f))
    go false e true f =
        let q : name_by list one ≡ name_by list other = grind (arith, nat_tests, f) in
        let r : is_same_element one other ≡ true = subst (λ element. is_same_element one element ≡ true) (one-element list one other q) (same-refl one) in
        absurd (grind (arith, e, r))

pub name-address : (list : List Addressed) → AreApart list → (a : Addressed) → IsOneOf a list → name_by list a.element ≡ a.address
name-address [] apart a among = absurd among
name-address (b ∷ others) apart a (inl e) = subst (λ c. name_by (b ∷ others) c.element ≡ c.address) (sym e) (exchanged-one (name_by others b.element) b.address)
name-address (b ∷ others) apart a (inr among) =
    let there : name_by others a.element ≡ a.address = name-address others apart.1 a among in
    exchanged-apart (name_by others b.element) b.address (name_by others a.element)
    (λ e. (apart.0 a among).0 (sym (one-element others a.element b.element e)))
    (λ e. (apart.0 a among).1 (sym e ∙ there))
    ∙ there

pub name-beyond : (list : List Addressed) → AreApart list → (element : Element) → ((b : Addressed) → IsOneOf b list → b.element ≢ element) →
    (a : Addressed) → IsOneOf a list → name_by list element ≢ a.address
name-beyond list apart element other a among e =
    other a among (one-element list a.element element (name-address list apart a among ∙ sym e))

pub element-unnamed : (list : List Addressed) → AreApart list → (address : ℕ) → ((b : Addressed) → IsOneOf b list → b.address ≢ address) →
    (a : Addressed) → IsOneOf a list → element_by list address ≢ a.element
element-unnamed list apart address other a among e =
    other a among (sym (name-address list apart a among) ∙ ap (name_by list) (sym e) ∙ name-element list address)
