-- A text reads to changes exactly where these keep the rules and each has a line.
use Rattle.std.proofs.Common.{◌≡◌, ◌≢◌, ℕ, zero, suc, ◌+◌, ◌-◌, take, ◌<◌, ◌≤◌, Bool, true, false, cond, not, List, [], ◌∷◌, ◌++◌, length, eqb, Option, Some, None, Result, Ok, Err, refl, sym, ap, ◌∙◌, subst, arith, length-append}
use Rattle.std.specs.Prelude.{◌↔◌, slice_index_or, slice_index, if◌then◌else◌}
use Rattle.std.specs.List.{list_all, slice_split, All}
use Rattle.std.specs.Str.Lines.{lines, lines_of_parts, strip_carriage_return}
use Rattle.std.proofs.lemmas.Bool.{and_parts, and_from, ne_eqb, lt-ltb, le-leb}
use Rattle.std.proofs.lemmas.List.{append_assoc, append-nil}
use Rattle.std.proofs.lemmas.List.Folds.{list_all-append}
use Rattle.std.proofs.lemmas.List.Splits.{slice_split_at, length-slice_split}
use Rattle.std.proofs.lemmas.List.Sums.{sum_by-append, sum_by-cons}
use Rattle.aegis_num.specs.declared.limits.TheConstants.{MAX_CHANGES, MAX_CHANGE_BYTES}
use Rattle.adversary_script.specs.declared.change.Change.{Change}
use Rattle.adversary_script.specs.declared.error.ScriptError.{ScriptError}
use Rattle.adversary_script.specs.declared.fault.Fault.{Fault}
use Rattle.adversary_script.specs.declared.fault.Fault.TheVariants.{Line, Range, Order, TooMany}
use Rattle.adversary_script.specs.ScriptRules.{is_in_range, may_precede, bytes_written, all_bytes_written, are_in_order, KeepsScriptRules}
use Rattle.adversary_script.specs.LineFields.{is_line_byte, fields_of}
use Rattle.adversary_script.specs.ScriptGrammar.{is_in_order, has_room, ruled, fields_say, line_says, added, read_line, after_line, changes_from, script_of, ◌>>=◌}
use Rattle.adversary_script.specs.ScriptTexts.{HasLine, AllHaveLines, HasScriptText}
use Rattle.adversary_script.proofs.Drafts.{KeepsRules-push}
use Rattle.adversary_script.proofs.Lines.{lines_of_parts-more}

-- ---- what is read keeps the rules

AllHaveLines-push : (before : List Change) (change : Change) → AllHaveLines before → HasLine change → AllHaveLines (before ++ change ∷ [])
AllHaveLines-push [] change all has = (has, tt)
AllHaveLines-push (first ∷ before) change all has = (all.0, AllHaveLines-push before change all.1 has)

abbrev Fine : List Change → Type 0
Fine changes = KeepsScriptRules changes × AllHaveLines changes

bind-ok : {A B : Type 0} (o : Result A Fault) (f : A → Result B Fault) (y : B) → (o >>= f) ≡ Ok y → (x : A) × (o ≡ Ok x) × (f x ≡ Ok y)
bind-ok (Ok x) f y same = (x, refl, same)
bind-ok (Err fault) f y same = cc

and_then-ok : (n : ℕ) (further : List Change → Result (List Change) ScriptError) (o : Result (List Change) Fault) (changes : List Change)
    → after_line n further o ≡ Ok changes → (mid : List Change) × (o ≡ Ok mid) × (further mid ≡ Ok changes)
unfolding after_line
and_then-ok n further (Ok mid) changes same = (mid, refl, same)
and_then-ok n further (Err fault) changes same = cc

added-fine : (before : List Change) (line : List ℕ) (mid : List Change) → Fine before → (said : Option Change) → line_says line ≡ Ok said → added before said ≡ Ok mid → Fine mid
unfolding added
added-fine before line mid fine None says same = let e : before ≡ mid = cc in subst (λ (xs : List Change). Fine xs) e fine
added-fine before line mid fine (Some change) says same =
    let parts = bind-ok (ruled before change) (λ _. Ok (before ++ change ∷ [])) mid same in
    let keeps : ruled before change ≡ Ok tt = parts.1 in
    let e : before ++ change ∷ [] ≡ mid = cc in
    subst (λ (xs : List Change). Fine xs) e
    (KeepsRules-push before change fine.0 keeps, AllHaveLines-push before change fine.1 (record { line = line; says = says }))

read-fine : (before : List Change) (line : List ℕ) (mid : List Change) → Fine before → read_line before line ≡ Ok mid → Fine mid
unfolding read_line
read-fine before line mid fine same =
    let parts = bind-ok (line_says line) (λ change. added before change) mid same in
    added-fine before line mid fine parts.0 parts.1 parts.2

from-fine : (n : ℕ) (before : List Change) (texts : List (List ℕ)) (changes : List Change) → changes_from n before texts ≡ Ok changes → Fine before → Fine changes
unfolding changes_from
from-fine n before [] changes read fine = let e : before ≡ changes = cc in subst (λ (xs : List Change). Fine xs) e fine
from-fine n before (line ∷ further) changes read fine =
    let parts = and_then-ok n (λ mid. changes_from (n + 1) mid further) (read_line before line) changes read in
    from-fine (n + 1) parts.0 further changes parts.2 (read-fine before line parts.0 fine parts.1)

no_change-fine : Fine []
no_change-fine = (record { range = refl; order = refl; count = omega arith; bytes = omega arith }, tt)

pub text-fine : (changes : List Change) → HasScriptText changes → Fine changes
unfolding script_of
text-fine changes has = from-fine 1 [] (lines has.text) changes has.reads no_change-fine

-- ---- changes that keep the rules are read

abbrev is_feed : ℕ → Bool
is_feed b = eqb b 10

-- a line that says a change has bytes of a line alone
says-by : (b : Bool) (said : Result (Option Change) Fault) (change : Change) → (if b then said else Err Line) ≡ Ok (Some change) → b ≡ true
says-by true said change same = refl
says-by false said change same = cc

says-bytes : (line : List ℕ) (change : Change) → line_says line ≡ Ok (Some change) → list_all is_line_byte line ≡ true
unfolding line_says
says-bytes line change says = says-by (list_all is_line_byte line) (fields_say (fields_of line)) change says

no-byte : (byte : ℕ) → is_line_byte byte ≡ false → (line : List ℕ) → list_all is_line_byte line ≡ true → (k d : ℕ) → k < length line → slice_index_or line k d ≢ byte
no-byte byte none [] all k d below same = let no_such : ⊥ = omega (arith, below) in no_such
no-byte byte none (b ∷ line) all zero d below same =
    let parts = and_parts (is_line_byte b) (list_all is_line_byte line) all in
    let e : b ≡ byte = same in
    let f : is_line_byte byte ≡ true = ap (λ (x : ℕ). is_line_byte x) (sym e) ∙ parts.0 in
    let g : false ≡ true = sym none ∙ f in cc
no-byte byte none (b ∷ line) all (suc k) d below same =
    no-byte byte none line (and_parts (is_line_byte b) (list_all is_line_byte line) all).1 k d (omega (arith, below)) same

no-feed : (line : List ℕ) → list_all is_line_byte line ≡ true → All (λ b. is_feed b ≡ false) line
no-feed line all k d below = ne_eqb (slice_index_or line k d) 10 (no-byte 10 refl line all k d below)

-- no carriage return stands at its end
no-return : (line : List ℕ) → list_all is_line_byte line ≡ true → strip_carriage_return line ≡ line
no-return [] all = refl
no-return (b ∷ line) all =
    let whole = b ∷ line in
    ap (λ (x : Bool). cond x (take (length whole - 1) whole) whole)
    (ne_eqb (slice_index whole (length whole - 1)) 13 (no-byte 13 refl whole all (length whole - 1) 0 (omega arith)))

-- a line and a line feed before other text
lines-cons : (line rest : List ℕ) → list_all is_line_byte line ≡ true → lines (line ++ 10 ∷ rest) ≡ line ∷ lines rest
lines-cons line rest all =
    ap lines_of_parts (slice_split_at is_feed line 10 rest (no-feed line all) refl)
    ∙ lines_of_parts-more line (slice_split is_feed rest) (omega (arith, length-slice_split is_feed rest))
    ∙ ap (λ (l : List ℕ). l ∷ lines rest) (no-return line all)

-- the text of changes
abbrev text_of : (changes : List Change) → AllHaveLines changes → List ℕ
text_of [] all = []
text_of (change ∷ changes) all = all.0.line ++ 10 ∷ text_of changes all.1

lines-text_of : (change : Change) (changes : List Change) (all : AllHaveLines (change ∷ changes))
    → lines (text_of (change ∷ changes) all) ≡ all.0.line ∷ lines (text_of changes all.1)
lines-text_of change changes all = lines-cons all.0.line (text_of changes all.1) (says-bytes all.0.line change all.0.says)

-- the next of changes that keep the rules keeps them after those before it
order-cut : (before : List Change) (change : Change) (further : List Change) → are_in_order (before ++ change ∷ further) ≡ true → is_in_order before change ≡ true
order-cut [] change further order = refl
order-cut (first ∷ before) change further order =
    let parts = and_parts (list_all (λ later. may_precede first.when later.when) (before ++ change ∷ further)) (are_in_order (before ++ change ∷ further)) order in
    let all = sym (list_all-append (λ (later : Change). may_precede first.when later.when) before (change ∷ further)) ∙ parts.0 in
    let rest = and_parts (list_all (λ later. may_precede first.when later.when) before) (list_all (λ later. may_precede first.when later.when) (change ∷ further)) all in
    let here = and_parts (may_precede first.when change.when) (list_all (λ later. may_precede first.when later.when) further) rest.1 in
    and_from _ _ here.0 (order-cut before change further parts.1)

range-cut : (before : List Change) (change : Change) (further : List Change) → list_all (λ change. is_in_range change.what) (before ++ change ∷ further) ≡ true → is_in_range change.what ≡ true
range-cut before change further range =
    let all = sym (list_all-append (λ (change : Change). is_in_range change.what) before (change ∷ further)) ∙ range in
    let rest = and_parts (list_all (λ change. is_in_range change.what) before) (list_all (λ change. is_in_range change.what) (change ∷ further)) all in
    (and_parts (is_in_range change.what) (list_all (λ change. is_in_range change.what) further) rest.1).0

room-cut : (before : List Change) (change : Change) (further : List Change) → KeepsScriptRules (before ++ change ∷ further) → has_room before change ≡ true
room-cut before change further keeps =
    let long = length-append before (change ∷ further) in
    let total = sum_by-append (λ (c : Change). bytes_written c.what) before (change ∷ further) in
    let first = sum_by-cons (λ (c : Change). bytes_written c.what) change further in
    let count : length before < MAX_CHANGES = omega (arith, keeps.count, long) in
    let bytes : all_bytes_written before + bytes_written change.what ≤ MAX_CHANGE_BYTES = omega (arith, keeps.bytes, total, first) in
    and_from _ _ (lt-ltb (length before) MAX_CHANGES count) (le-leb (all_bytes_written before + bytes_written change.what) MAX_CHANGE_BYTES bytes)

ruled-cut : (before : List Change) (change : Change) (further : List Change) → KeepsScriptRules (before ++ change ∷ further) → ruled before change ≡ Ok tt
unfolding ruled
ruled-cut before change further keeps =
    ap (λ (b : Bool). if not b then Err Range else (if not (is_in_order before change) then Err Order else (if not (has_room before change) then Err TooMany else Ok tt)))
    (range-cut before change further keeps.range)
    ∙ ap (λ (b : Bool). if not b then Err Order else (if not (has_room before change) then Err TooMany else Ok tt)) (order-cut before change further keeps.order)
    ∙ ap (λ (b : Bool). if not b then Err TooMany else Ok tt) (room-cut before change further keeps)

read-cut : (before : List Change) (change : Change) (further : List Change) (line : List ℕ) → line_says line ≡ Ok (Some change) → KeepsScriptRules (before ++ change ∷ further)
    → read_line before line ≡ Ok (before ++ change ∷ [])
unfolding read_line added
read-cut before change further line says keeps =
    ap (λ (o : Result (Option Change) Fault). o >>= λ change. added before change) says
    ∙ ap (λ (o : Result (Unit {0}) Fault). o >>= λ _. Ok (before ++ change ∷ [])) (ruled-cut before change further keeps)

from-text_of : (n : ℕ) (before changes : List Change) (all : AllHaveLines changes) → KeepsScriptRules (before ++ changes) → changes_from n before (lines (text_of changes all)) ≡ Ok (before ++ changes)
unfolding changes_from after_line
from-text_of n before [] all keeps = ap (λ (xs : List Change). Ok xs) (sym (append-nil before))
from-text_of n before (change ∷ changes) all keeps =
    let regroup : (before ++ change ∷ []) ++ changes ≡ before ++ change ∷ changes = append_assoc before (change ∷ []) changes in
    ap (λ (texts : List (List ℕ)). changes_from n before texts) (lines-text_of change changes all)
    ∙ ap (λ (o : Result (List Change) Fault). after_line n (λ mid. changes_from (n + 1) mid (lines (text_of changes all.1))) o)
    (read-cut before change changes all.0.line all.0.says keeps)
    ∙ from-text_of (n + 1) (before ++ change ∷ []) changes all.1 (subst (λ (xs : List Change). KeepsScriptRules xs) (sym regroup) keeps)
    ∙ ap (λ (xs : List Change). Ok xs) regroup

pub fine-text : (changes : List Change) → Fine changes → HasScriptText changes
unfolding script_of
fine-text changes fine = record { text = text_of changes fine.1; reads = from-text_of 1 [] changes fine.1 fine.0 }

pub texts-keep_rules : (changes : List Change) → HasScriptText changes ↔ (KeepsScriptRules changes × AllHaveLines changes)
texts-keep_rules changes = (text-fine changes, fine-text changes)
