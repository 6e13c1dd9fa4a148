-- One declaration more or less, and what is then found.
use Rattle.std.proofs.Common.{◌≡◌, ◌∙◌, ap, sym, ℕ, ◌+◌, ◌≤◌, zero, suc, Bool, true, false, cond, ◌||◌, List, [], ◌∷◌, ◌++◌, length, drop, Option, Some, None, refl, arith, append_assoc, append-nil, subst, take, slice_get, unwrap_or, ◌-◌, length-append}
use Rattle.std.specs.Prelude.{nat_le}
use Rattle.std.specs.HashMap.{HashMap, get, Updates}
use Rattle.std.specs.Cmp.Lexicographic.{bytes_decides}
use Rattle.std.proofs.lemmas.Bool.Decides.{nat_tests}
use Rattle.std.proofs.lemmas.Grind.{common_steps}
use Rattle.c_scopes.specs.declared.declaration.Binding.{Binding}
use Rattle.c_scopes.specs.declared.declaration.Declaration.{Declaration}
use Rattle.c_scopes.specs.declared.names.Known.{Known}
use Rattle.std.specs.Str.{bytes_eq}
use Rattle.c_scopes.specs.Scopes.{first_some, latest, declares}
use Rattle.c_scopes.specs.KeptNames.{found, hidden_after, IsKept, last_hidden, name_eq}
use Rattle.c_scopes.proofs.NameEquality.{names_compare}

abbrev pub binding_of : Option Known → Option Binding
binding_of None = None
binding_of (Some known) = Some known.binding

latest_step : (o : Option Known) (b : Bool) (binding : Binding) (place : ℕ) →
    first_some (binding_of o) (cond b (Some binding) None) ≡ binding_of (first_some o (cond b (Some (record { binding = binding; place = place })) None))
latest_step None true binding place = refl
latest_step None false binding place = refl
latest_step (Some known) b binding place = refl

pub latest-found : (i : ℕ) (ds : List Declaration) (name : List ℕ) → latest ds name ≡ binding_of (found i ds name)
unfolding found
latest-found i [] name = refl
latest-found i (d ∷ ds) name =
    ap (λ o. first_some o (cond (bytes_eq d.name name) (Some d.binding) None)) (latest-found (i + 1) ds name)
    ∙ latest_step (found (i + 1) ds name) (bytes_eq d.name name) d.binding i

first_some-assoc : {A : Type 0} (x y z : Option A) → first_some (first_some x y) z ≡ first_some x (first_some y z)
first_some-assoc None y z = refl
first_some-assoc (Some x) y z = refl

nothing_else : (o : Option Known) → first_some None o ≡ first_some o None
nothing_else None = refl
nothing_else (Some known) = refl

pub found-more : (i : ℕ) (ds : List Declaration) (d : Declaration) (name : List ℕ) →
    found i (ds ++ d ∷ []) name
    ≡ first_some (cond (bytes_eq d.name name) (Some (record { binding = d.binding; place = i + length ds })) None) (found i ds name)
unfolding found
found-more i [] d name =
    let e : i + 0 ≡ i = omega arith in
    rw e (nothing_else (cond (bytes_eq d.name name) (Some (record { binding = d.binding; place = i })) None))
found-more i (x ∷ ds) d name =
    let e : i + 1 + length ds ≡ i + suc (length ds) = omega arith in
    ap (λ o. first_some o (cond (bytes_eq x.name name) (Some (record { binding = x.binding; place = i })) None)) (found-more (i + 1) ds d name)
    ∙ first_some-assoc (cond (bytes_eq d.name name) (Some (record { binding = d.binding; place = i + 1 + length ds })) None) (found (i + 1) ds name) (cond (bytes_eq x.name name) (Some (record { binding = x.binding; place = i })) None)
    ∙ ap (λ n. first_some (cond (bytes_eq d.name name) (Some (record { binding = d.binding; place = n })) None) (first_some (found (i + 1) ds name) (cond (bytes_eq x.name name) (Some (record { binding = x.binding; place = i })) None))) e

found-push : (ds : List Declaration) (d : Declaration) (name : List ℕ) →
    found 0 (ds ++ d ∷ []) name
    ≡ first_some (cond (bytes_eq d.name name) (Some (record { binding = d.binding; place = length ds })) None) (found 0 ds name)
found-push ds d name =
    let e : 0 + length ds ≡ length ds = omega arith in
    found-more 0 ds d name
    ∙ ap (λ n. first_some (cond (bytes_eq d.name name) (Some (record { binding = d.binding; place = n })) None) (found 0 ds name)) e

pub hidden_after-more : (before ds : List Declaration) (d : Declaration) →
    hidden_after before (ds ++ d ∷ []) ≡ hidden_after before ds ++ found 0 (before ++ ds) d.name ∷ []
unfolding hidden_after
hidden_after-more before [] d = simp append-nil
hidden_after-more before (x ∷ ds) d =
    ap (λ hs. found 0 before x.name ∷ hs) (hidden_after-more (before ++ x ∷ []) ds d ∙ simp append_assoc)

-- ---- places

abbrev AtLeast : ℕ → Option Known → Type 0
AtLeast i None = Unit {0}
AtLeast i (Some known) = i ≤ known.place

abbrev pub reaches : ℕ → Option Known → Bool
reaches i None = false
reaches i (Some known) = nat_le i known.place

at_least_step : (o : Option Known) (b : Bool) (binding : Binding) (i : ℕ) → AtLeast (i + 1) o → AtLeast i (first_some o (cond b (Some (record { binding = binding; place = i })) None))
at_least_step None true binding i h = omega arith
at_least_step None false binding i h = tt
at_least_step (Some known) b binding i h = omega arith

found-AtLeast : (i : ℕ) (ds : List Declaration) (name : List ℕ) → AtLeast i (found i ds name)
unfolding found
found-AtLeast i [] name = tt
found-AtLeast i (d ∷ ds) name = at_least_step (found (i + 1) ds name) (bytes_eq d.name name) d.binding i (found-AtLeast (i + 1) ds name)

first_step : (o : Option Known) (b rest : Bool) (binding : Binding) (i : ℕ) → AtLeast (i + 1) o → rest ≡ reaches (i + 1) o →
    (b || rest) ≡ reaches i (first_some o (cond b (Some (record { binding = binding; place = i })) None))
first_step None true rest binding i h e = grind (arith, nat_tests)
first_step None false rest binding i h e = e
first_step (Some known) true rest binding i h e = grind (arith, nat_tests)
first_step (Some known) false rest binding i h e = grind (arith, nat_tests)

later_step : (o : Option Known) (b rest : Bool) (binding : Binding) (i s : ℕ) → rest ≡ reaches (s + (i + 1)) o →
    rest ≡ reaches (suc s + i) (first_some o (cond b (Some (record { binding = binding; place = i })) None))
later_step None true rest binding i s e = grind (arith, nat_tests)
later_step None false rest binding i s e = e
later_step (Some known) b rest binding i s e = grind (arith, nat_tests)

pub declares-drop : (start i : ℕ) (ds : List Declaration) (name : List ℕ) → declares (drop start ds) name ≡ reaches (start + i) (found i ds name)
unfolding found
declares-drop zero i [] name = refl
declares-drop (suc start) i [] name = refl
declares-drop zero i (d ∷ ds) name =
    let z : 0 + i ≡ i = omega arith in
    let z' : 0 + (i + 1) ≡ i + 1 = omega arith in
    let rest : declares ds name ≡ reaches (i + 1) (found (i + 1) ds name) = rw z' at (declares-drop zero (i + 1) ds name) in
    rw z (first_step (found (i + 1) ds name) (bytes_eq d.name name) (declares ds name) d.binding i (found-AtLeast (i + 1) ds name) rest)
declares-drop (suc start) i (d ∷ ds) name =
    later_step (found (i + 1) ds name) (bytes_eq d.name name) (declares (drop start ds) name) d.binding i start (declares-drop start (i + 1) ds name)

-- ---- what is kept

pub IsKept-none : {S : Type 0} (known : HashMap (List ℕ) Known S) (declared : List Declaration) (hidden : List (Option Known)) →
    known.entries ≡ [] → declared ≡ [] → hidden ≡ [] → IsKept known declared hidden
unfolding found hidden_after
IsKept-none known declared hidden e f g = record {
  finds = λ name. rw (e, f) refl;
  hides = rw (f, g) refl;
}

chosen : (b : Bool) (x : Known) (o : Option Known) → cond b (Some x) o ≡ first_some (cond b (Some x) None) o
chosen true x o = refl
chosen false x o = refl

pub IsKept-more : {S : Type 0} (m n : HashMap (List ℕ) Known S) (ds : List Declaration) (hs : List (Option Known)) (d : Declaration) (place : ℕ) →
    IsKept m ds hs → place ≡ length ds → Updates name_eq m n d.name (Some (record { binding = d.binding; place = place })) →
    IsKept n (ds ++ d ∷ []) (hs ++ found 0 ds d.name ∷ [])
IsKept-more m n ds hs d place kept is updates = record {
  finds = λ name.
      updates.0 name
      ∙ ap (λ b. cond b (Some (record { binding = d.binding; place = place })) (get name_eq m name)) (names_compare d.name name)
      ∙ ap (λ o. cond (bytes_eq d.name name) (Some (record { binding = d.binding; place = place })) o) (kept.finds name)
      ∙ ap (λ n. cond (bytes_eq d.name name) (Some (record { binding = d.binding; place = n })) (found 0 ds name)) is
      ∙ chosen (bytes_eq d.name name) (record { binding = d.binding; place = length ds }) (found 0 ds name)
      ∙ sym (found-push ds d name);
  hides = ap (λ xs. xs ++ found 0 ds d.name ∷ []) kept.hides ∙ sym (hidden_after-more [] ds d);
}

last-append : {A : Type 0} (xs ys : List A) (x y : A) → xs ++ x ∷ [] ≡ ys ++ y ∷ [] → (xs ≡ ys) × (x ≡ y)
last-append [] [] x y e = (refl, cc)
last-append [] (b ∷ []) x y e = absurd (cc)
last-append [] (b ∷ c ∷ ys) x y e = absurd (cc)
last-append (a ∷ []) [] x y e = absurd (cc)
last-append (a ∷ c ∷ xs) [] x y e = absurd (cc)
last-append (a ∷ xs) (b ∷ ys) x y e =
    let rest : xs ++ x ∷ [] ≡ ys ++ y ∷ [] = cc in
    let same = last-append xs ys x y rest in
    let head : a ≡ b = cc in
    (let t = same.0 in cc, same.1)

found-same : (i : ℕ) (ds : List Declaration) (a b : List ℕ) → bytes_eq a b ≡ true → found i ds a ≡ found i ds b
found-same i ds a b same = ap (found i ds) ((bytes_decides a b).0 same)

back : (b : Bool) (h o f g : Option Known) (x : Known) → h ≡ f → (b ≡ true → f ≡ g) → o ≡ first_some (cond b (Some x) None) g → cond b h o ≡ g
back true h o f g x e same was = e ∙ same refl
back false h o f g x e same was = was

pub IsKept-less : {S : Type 0} (m n : HashMap (List ℕ) Known S) (ds : List Declaration) (hs : List (Option Known)) (d : Declaration) (h : Option Known) →
    IsKept m (ds ++ d ∷ []) (hs ++ h ∷ []) → Updates name_eq m n d.name h → IsKept n ds hs
IsKept-less m n ds hs d h kept updates =
    let both = last-append hs (hidden_after [] ds) h (found 0 ds d.name) (kept.hides ∙ hidden_after-more [] ds d) in
    record {
      finds = λ name.
          updates.0 name
          ∙ ap (λ b. cond b h (get name_eq m name)) (names_compare d.name name)
          ∙ back (bytes_eq d.name name) h (get name_eq m name) (found 0 ds d.name) (found 0 ds name) (record { binding = d.binding; place = length ds })
          both.1 (found-same 0 ds d.name name) (kept.finds name ∙ found-push ds d name);
      hides = both.0;
    }

split_at_last : {A : Type 0} (n : ℕ) (xs : List A) (x : A) → length xs ≡ suc n → slice_get xs n ≡ Some x → xs ≡ take n xs ++ x ∷ []
split_at_last n [] x long e = absurd (omega arith)
split_at_last zero (a ∷ []) x long e = let same : a ≡ x = cc in cc
split_at_last zero (a ∷ b ∷ xs) x long e = absurd (omega arith)
split_at_last (suc n) (a ∷ xs) x long e = ap (λ ys. a ∷ ys) (split_at_last n xs x (omega arith) e)

last-split : {A : Type 0} (xs : List A) (x : A) → slice_get xs (length xs - 1) ≡ Some x → xs ≡ take (length xs - 1) xs ++ x ∷ []
last-split [] x e = absurd (cc)
last-split (a ∷ xs) x e = split_at_last (suc (length xs) - 1) (a ∷ xs) x (omega arith) e

get_at_push : {A : Type 0} (xs : List A) (x : A) → slice_get (xs ++ x ∷ []) (length xs) ≡ Some x
get_at_push [] x = refl
get_at_push (a ∷ xs) x = get_at_push xs x

one_less : {A : Type 0} (xs : List A) (x : A) → length (xs ++ x ∷ []) - 1 ≡ length xs
one_less xs x = simp length-append (omega arith)

take-push : {A : Type 0} (xs : List A) (x : A) → take (length (xs ++ x ∷ []) - 1) (xs ++ x ∷ []) ≡ xs
take-push xs x = grind (arith, common_steps)

get-push : {A : Type 0} (xs : List A) (x : A) → slice_get (xs ++ x ∷ []) (length (xs ++ x ∷ []) - 1) ≡ Some x
get-push xs x = rw (one_less xs x) (get_at_push xs x)

pub IsKept-forgotten : {S : Type 0} (m n : HashMap (List ℕ) Known S) (ds : List Declaration) (hs : List (Option Known)) (d : Declaration) (h : Option Known) →
    IsKept m ds hs → slice_get ds (length ds - 1) ≡ Some d → h ≡ last_hidden hs → Updates name_eq m n d.name h →
    IsKept n (take (length ds - 1) ds) (take (length hs - 1) hs)
IsKept-forgotten m n ds hs d h kept last hidden updates =
    let front = take (length ds - 1) ds in
    let split : ds ≡ front ++ d ∷ [] = last-split ds d last in
    let all : hs ≡ hidden_after [] front ++ found 0 front d.name ∷ [] =
    kept.hides ∙ ap (hidden_after []) split ∙ hidden_after-more [] front d in
    let same : h ≡ found 0 front d.name =
    hidden ∙ ap last_hidden all ∙ ap (λ o. unwrap_or o None) (get-push (hidden_after [] front) (found 0 front d.name)) in
    let rest : take (length hs - 1) hs ≡ hidden_after [] front =
    ap (λ xs. take (length xs - 1) xs) all ∙ take-push (hidden_after [] front) (found 0 front d.name) in
    let kept' : IsKept m (front ++ d ∷ []) (hidden_after [] front ++ found 0 front d.name ∷ []) =
    record { finds = λ name. kept.finds name ∙ ap (λ xs. found 0 xs name) split; hides = sym (hidden_after-more [] front d) } in
    let updates' : Updates name_eq m n d.name (found 0 front d.name) = subst (λ o. Updates name_eq m n d.name o) same updates in
    subst (λ xs. IsKept n front xs) (sym rest) (IsKept-less m n front (hidden_after [] front) d (found 0 front d.name) kept' updates')
