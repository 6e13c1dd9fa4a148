-- Worked examples of what a folder and a sink promise, and of what each promise excludes.
use Rattle.std.proofs.Common.{◌≡◌, ℕ, zero, suc, ◌-◌, ◌^◌, List, [], ◌∷◌, None, Some, refl, ap, arith, take, if◌then◌else◌, lit≤, lit<}
use Rattle.std.specs.Str.{bytes_eq}
use Rattle.aegis_edge.specs.Faults.{one_fault_more, Rose}
use Rattle.aegis_edge.specs.Folder.{Files, Asking, content_of, IsFrontOf, HoldsWhole, HoldsFront, IsMissing, IsTooLong, Asks, AsksOne}
use Rattle.aegis_edge.specs.Sink.{IsWithin, limit_after, Appends, AppendsFront}

-- ---- counts

one_fault_more-three : one_fault_more 3 ≡ 4
one_fault_more-three = refl

Rose-one : Rose 3 4
Rose-one = lit≤ tt

Rose-two : Rose 3 5
Rose-two = lit≤ tt

Rose-not_same : Rose 3 3 → ⊥
Rose-not_same h = omega (arith, h)

Rose-end : Rose (2 ^ 64 - 1) (2 ^ 64 - 1)
Rose-end = lit≤ tt

Rose-not_below_end : Rose (2 ^ 64 - 2) (2 ^ 64 - 2) → ⊥
Rose-not_below_end h = omega (arith, h)

-- ---- files

-- a folder with one file
abbrev files : Files
files name = if bytes_eq name (5 ∷ []) then Some (0 ∷ 1 ∷ 2 ∷ []) else None

content_of-word : content_of files (5 ∷ []) ≡ (0 ∷ 1 ∷ 2 ∷ [])
content_of-word = refl

content_of-missing : content_of files (6 ∷ []) ≡ []
content_of-missing = refl

IsFrontOf-front : IsFrontOf (0 ∷ 1 ∷ []) (0 ∷ 1 ∷ 2 ∷ [])
IsFrontOf-front = ((2 ∷ []), refl)

IsFrontOf-not_back : IsFrontOf (1 ∷ 2 ∷ []) (0 ∷ 1 ∷ 2 ∷ []) → ⊥
IsFrontOf-not_back (rest, same) = cc

IsFrontOf-not_longer : IsFrontOf (0 ∷ 1 ∷ 2 ∷ 3 ∷ []) (0 ∷ 1 ∷ 2 ∷ []) → ⊥
IsFrontOf-not_longer (rest, same) = cc

HoldsWhole-word : HoldsWhole (Some files) (5 ∷ []) (0 ∷ 1 ∷ 2 ∷ [])
HoldsWhole-word = refl

HoldsWhole-not_front : HoldsWhole (Some files) (5 ∷ []) (0 ∷ 1 ∷ []) → ⊥
HoldsWhole-not_front same = cc

HoldsWhole-not_missing : HoldsWhole (Some files) (6 ∷ []) [] → ⊥
HoldsWhole-not_missing same = cc

HoldsWhole-untold : HoldsWhole None (6 ∷ []) (0 ∷ [])
HoldsWhole-untold = tt

HoldsFront-word : HoldsFront (Some files) (5 ∷ []) (0 ∷ 1 ∷ [])
HoldsFront-word = ((2 ∷ []), refl)

HoldsFront-not_other : HoldsFront (Some files) (5 ∷ []) (1 ∷ []) → ⊥
HoldsFront-not_other (rest, same) = cc

HoldsFront-not_missing : HoldsFront (Some files) (6 ∷ []) (0 ∷ []) → ⊥
HoldsFront-not_missing (rest, same) = cc

IsMissing-told : IsMissing (Some files) (6 ∷ []) 7 7
IsMissing-told = (refl, refl)

IsMissing-not_there : IsMissing (Some files) (5 ∷ []) 7 7 → ⊥
IsMissing-not_there missing = let same : files (5 ∷ []) ≡ None = missing.0 in cc

IsMissing-not_counted : IsMissing (Some files) (6 ∷ []) 7 8 → ⊥
IsMissing-not_counted missing = omega (arith, missing.1)

IsMissing-untold : IsMissing None (6 ∷ []) 7 8
IsMissing-untold = lit≤ tt

IsMissing-untold_counted : IsMissing None (6 ∷ []) 7 7 → ⊥
IsMissing-untold_counted rose = omega (arith, rose)

IsTooLong-told : IsTooLong (Some files) (5 ∷ []) 2 7 7
IsTooLong-told = (lit< tt, refl)

IsTooLong-not_at_limit : IsTooLong (Some files) (5 ∷ []) 3 7 7 → ⊥
IsTooLong-not_at_limit long = omega (arith, long.0)

IsTooLong-not_missing : IsTooLong (Some files) (6 ∷ []) 0 7 7 → ⊥
IsTooLong-not_missing long = omega (arith, long.0)

IsTooLong-not_counted : IsTooLong (Some files) (5 ∷ []) 2 7 8 → ⊥
IsTooLong-not_counted long = omega (arith, long.1)

IsTooLong-untold : IsTooLong None (5 ∷ []) 2 7 8
IsTooLong-untold = lit≤ tt

IsTooLong-untold_counted : IsTooLong None (5 ∷ []) 2 7 7 → ⊥
IsTooLong-untold_counted rose = omega (arith, rose)

-- ---- names asked for

abbrev first : Asking
first = record { name = (0 ∷ []); faults = 0 }

abbrev second : Asking
second = record { name = (1 ∷ []); faults = 2 }

Asks-two : Asks (Some (first ∷ [])) (Some (first ∷ second ∷ first ∷ [])) (second ∷ first ∷ [])
Asks-two = refl

Asks-not_reordered : Asks (Some []) (Some (second ∷ first ∷ [])) (first ∷ second ∷ []) → ⊥
Asks-not_reordered same =
    let firsts : second ≡ first = cc in
    let names : second.name ≡ first.name = ap (λ (asking : Asking). asking.name) firsts in cc

Asks-not_forgotten : Asks (Some (first ∷ [])) (Some []) [] → ⊥
Asks-not_forgotten same = cc

Asks-not_dropped : Asks (Some []) (Some []) (first ∷ []) → ⊥
Asks-not_dropped same = cc

Asks-untold : Asks (Some (first ∷ [])) None (second ∷ [])
Asks-untold = tt

Asks-stays_untold : Asks None (Some []) [] → ⊥
Asks-stays_untold told = told

AsksOne-second : AsksOne (Some (first ∷ [])) (Some (first ∷ second ∷ [])) (1 ∷ []) 2
AsksOne-second = refl

AsksOne-not_other_count : AsksOne (Some []) (Some (second ∷ [])) (1 ∷ []) 1 → ⊥
AsksOne-not_other_count same =
    let items : second ∷ [] ≡ record { name = (1 ∷ []); faults = 1 } ∷ [] = same in
    let firsts : second ≡ record { name = (1 ∷ []); faults = 1 } = cc in
    omega (arith, ap (λ (asking : Asking). asking.faults) firsts)

AsksOne-not_other_name : AsksOne (Some []) (Some (second ∷ [])) (0 ∷ []) 2 → ⊥
AsksOne-not_other_name same =
    let items : second ∷ [] ≡ record { name = (0 ∷ []); faults = 2 } ∷ [] = same in
    let firsts : second ≡ record { name = (0 ∷ []); faults = 2 } = cc in
    let names : second.name ≡ first.name = ap (λ (asking : Asking). asking.name) firsts in cc

-- ---- sinks

IsWithin-limit : IsWithin (Some 3) (0 ∷ 1 ∷ 2 ∷ [])
IsWithin-limit = lit≤ tt

IsWithin-not_longer : IsWithin (Some 2) (0 ∷ 1 ∷ 2 ∷ []) → ⊥
IsWithin-not_longer within = omega (arith, within)

IsWithin-unlimited : IsWithin None (0 ∷ 1 ∷ 2 ∷ [])
IsWithin-unlimited = tt

limit_after-some : limit_after (Some 5) 3 ≡ Some 2
limit_after-some = refl

limit_after-none : limit_after None 3 ≡ None
limit_after-none = refl

Appends-end : Appends (Some (0 ∷ 1 ∷ [])) (Some (0 ∷ 1 ∷ 2 ∷ [])) (2 ∷ [])
Appends-end = refl

Appends-not_front : Appends (Some (0 ∷ 1 ∷ [])) (Some (2 ∷ 0 ∷ 1 ∷ [])) (2 ∷ []) → ⊥
Appends-not_front same = cc

Appends-not_dropped : Appends (Some (0 ∷ 1 ∷ [])) (Some (0 ∷ 1 ∷ [])) (2 ∷ []) → ⊥
Appends-not_dropped same = cc

Appends-not_untold : Appends (Some (0 ∷ 1 ∷ [])) None (2 ∷ []) → ⊥
Appends-not_untold same = cc

Appends-untold : Appends None None (2 ∷ [])
Appends-untold = refl

Appends-stays_untold : Appends None (Some (2 ∷ [])) (2 ∷ []) → ⊥
Appends-stays_untold same = cc

AppendsFront-front : AppendsFront (Some (0 ∷ [])) (Some (0 ∷ 1 ∷ 2 ∷ [])) (1 ∷ 2 ∷ 3 ∷ [])
AppendsFront-front = (2, refl)

AppendsFront-none : AppendsFront (Some (0 ∷ [])) (Some (0 ∷ [])) (1 ∷ 2 ∷ 3 ∷ [])
AppendsFront-none = (0, refl)

-- each front of a piece that begins with 1 begins with 1, or is empty
abbrev begun : ℕ → List ℕ
begun count = 0 ∷ take count (1 ∷ 2 ∷ 3 ∷ [])

front_begins : (count : ℕ) (bytes : List ℕ) → bytes ≡ 0 ∷ 2 ∷ [] → bytes ≡ begun count → ⊥
front_begins zero bytes is same = cc
front_begins (suc count) bytes is same = cc

AppendsFront-not_other : AppendsFront (Some (0 ∷ [])) (Some (0 ∷ 2 ∷ [])) (1 ∷ 2 ∷ 3 ∷ []) → ⊥
AppendsFront-not_other (count, same) = front_begins count _ refl (cc)
