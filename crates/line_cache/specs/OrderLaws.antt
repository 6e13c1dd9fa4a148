-- Device: the list of a cache as a map, and what each call does to both. The laws of the cache cite these proofs.
use Rattle.std.proofs.Common.{◌≡◌, ℕ, suc, ◌+◌, ◌<◌, ◌≤◌, Bool, true, false, not, cond, ◌||◌, ◌&&◌, is_some, nat_eq, nat_le, List, [], ◌∷◌, length, Option, None, Some, refl, sym, ap, subst, ◌∙◌, arith, rules}
use Rattle.std.proofs.lemmas.Bool.Decides.{nat_tests}
use Rattle.std.specs.Option.{option_map_or}
use Rattle.std.specs.List.{list_all}
use Rattle.std.specs.Ordering.{nat_cmp, eq_by_cmp}
use Rattle.std.specs.Cmp.{nat_cmp_total}
use Rattle.std.specs.FinMap.{contains_key, get, insert, remove, empty, from_entries, len, find, get-from_entries, get-empty, get-insert, get-remove, len-insert, len-empty, same_map, nat_cmp-IsAntisymmetric}
use Rattle.std.specs.Map.{keys_of, set_value}
use Rattle.std.proofs.lemmas.Map.Entries.{length-keys_of}
use Rattle.aegis_num.specs.declared.limits.TheConstants.{TREE_LINES}
use Rattle.line_cache.specs.declared.lines.Line.{Line}
use Rattle.line_cache.specs.LineMaps.{LineMap, Holds, HasParent, AreLines, parent_block, with_payload, with_clean, clean_line}
use Rattle.line_cache.specs.LineOrder.{OrderedLines, blocks_of, line_of, without, put_first, promoted, written, cleaned, is_in, is_distinct, has_parent_in, is_below_limit, is_cache, lines_of}
use Rattle.line_cache.specs.EntryLaws.{is_in-line_of, line_of-put_first, line_of-promoted, is_in-promoted, is_distinct-put_first, is_distinct-promoted, length-promoted, length-without, line_of-without_other, line_of-missing, is_distinct-without, is_in-without_itself}

-- what a cache may have, part by part
pub record IsCache (lines : OrderedLines) : Type 0 where
  pub at_most : length lines ≤ TREE_LINES
  pub apart : is_distinct (blocks_of lines) ≡ true
  pub parents : (block : ℕ) → is_in (blocks_of lines) block ≡ true → has_parent_in (blocks_of lines) block ≡ true

each_passes : (test : ℕ → Bool) (blocks : List ℕ) → list_all test blocks ≡ true → (block : ℕ) → is_in blocks block ≡ true → test block ≡ true
each_passes test [] all block there = cc
each_passes test (first ∷ blocks) all block there =
    elim (nat_eq block first) as (λ t. nat_eq block first ≡ t → test block ≡ true) [
      | true ↦ λ t. let same : block ≡ first = grind (arith, nat_tests) in rw same (grind rules)
      | false ↦ λ t. let there' = rw t at there in each_passes test blocks (grind rules) block there'
    ] refl

all_pass : (test : ℕ → Bool) (blocks : List ℕ) → ((block : ℕ) → is_in blocks block ≡ true → test block ≡ true) → list_all test blocks ≡ true
all_pass test [] each = refl
all_pass test (first ∷ blocks) each =
    let now : test first ≡ true = each first (grind (arith, nat_tests)) in
    let rest : list_all test blocks ≡ true = all_pass test blocks (λ block there. each block (rw there (grind rules))) in
    rw (now, rest) refl

pub IsCache-from : (lines : OrderedLines) → is_cache lines ≡ true → IsCache lines
IsCache-from lines holds = record {
  at_most = grind (arith, nat_tests);
  apart = grind rules;
  parents = each_passes (has_parent_in (blocks_of lines)) (blocks_of lines) (grind rules);
}

pub is_cache-from : (lines : OrderedLines) → IsCache lines → is_cache lines ≡ true
is_cache-from lines it =
    let few : nat_le (length lines) TREE_LINES ≡ true = let h = it.at_most in grind (arith, nat_tests) in
    rw (few, it.apart, all_pass (has_parent_in (blocks_of lines)) (blocks_of lines) it.parents) refl

-- a map's own look-up is that of the list
same_test : (a b : ℕ) → eq_by_cmp nat_cmp a b ≡ nat_eq a b
same_test a b = grind (arith, nat_tests)

find-lookup : (block : ℕ) (lines : OrderedLines) → find nat_cmp block lines ≡ line_of block lines
find-lookup block [] = refl
find-lookup block (line ∷ lines) = rw (same_test block line.0, find-lookup block lines) refl

pub get-lines_of : (lines : OrderedLines) (block : ℕ) → is_cache lines ≡ true → get (lines_of lines) block ≡ line_of block lines
get-lines_of lines block holds = rw holds (get-from_entries nat_cmp_total lines block ∙ find-lookup block lines)

counted : (b : Bool) (n m : ℕ) → n ≤ m → cond b n (n + 1) ≤ suc m
counted true n m h = omega arith
counted false n m h = omega arith

len-from_entries : (lines : OrderedLines) → len (from_entries {R = nat_cmp} lines) ≤ length lines
len-from_entries [] = rw (len-empty nat_cmp Line) (omega arith)
len-from_entries (line ∷ lines) = rw (len-insert nat_cmp_total (from_entries lines) line.0 line.1) (counted (contains_key (from_entries {R = nat_cmp} lines) line.0) _ _ (len-from_entries lines))

-- whether a block has a line
pub contains_key-lines_of : (lines : OrderedLines) (block : ℕ) → is_cache lines ≡ true → contains_key (lines_of lines) block ≡ is_in (blocks_of lines) block
contains_key-lines_of lines block holds = ap is_some (get-lines_of lines block holds) ∙ sym (is_in-line_of block lines)

nothing : (block : ℕ) → contains_key (empty {X = Line} {R = nat_cmp}) block ≡ false
nothing block = ap is_some (get-empty nat_cmp block)

-- only a list that a cache may have has lines as a map
cases : (lines : OrderedLines) (block : ℕ) (b : Bool) → is_cache lines ≡ b → contains_key (lines_of lines) block ≡ true → is_cache lines ≡ true
cases lines block true e h = e
cases lines block false e h = let h' = rw e at h in let none = nothing block in absurd (cc)

pub is_cache-Holds : (lines : OrderedLines) (block : ℕ) → Holds (lines_of lines) block → is_cache lines ≡ true
is_cache-Holds lines block held = cases lines block (is_cache lines) refl (grind rules)

empty_AreLines : AreLines empty
empty_AreLines = record {
  at_most = rw (len-empty nat_cmp Line) (omega arith);
  parents = λ block held above. let none = nothing block in absurd (grind rules);
}

parent_held : (lines : OrderedLines) (block : ℕ) → is_cache lines ≡ true → IsCache lines → Holds (lines_of lines) block → HasParent (lines_of lines) block
parent_held lines block holds it held above =
    let there : is_in (blocks_of lines) block ≡ true = let e = contains_key-lines_of lines block holds in grind rules in
    let e = contains_key-lines_of lines (parent_block block) holds in
    let p = it.parents block there in
    grind (arith, nat_tests)

cache_AreLines : (lines : OrderedLines) → is_cache lines ≡ true → AreLines (lines_of lines)
cache_AreLines lines holds =
    let it = IsCache-from lines holds in
    record {
      at_most = rw holds (let few = it.at_most in let same = len-from_entries lines in omega arith);
      parents = λ block held. parent_held lines block holds it held;
    }

sound_case : (lines : OrderedLines) (b : Bool) → is_cache lines ≡ b → AreLines (lines_of lines)
sound_case lines true e = cache_AreLines lines e
sound_case lines false e = rw e empty_AreLines

pub lines_of-AreLines : (lines : OrderedLines) → AreLines (lines_of lines)
lines_of-AreLines lines = sound_case lines (is_cache lines) refl

-- two maps with equal look-ups are equal
same_lines : (m n : LineMap) → ((block : ℕ) → get m block ≡ get n block) → m ≡ n
same_lines m n each = same_map nat_cmp_total nat_cmp-IsAntisymmetric m n each

-- a touch
pub is_cache-promoted : (block : ℕ) (lines : OrderedLines) → is_cache lines ≡ true → is_cache (promoted block lines) ≡ true
is_cache-promoted block lines holds =
    let it = IsCache-from lines holds in
    is_cache-from (promoted block lines) (record {
      at_most = rw (length-promoted block lines) it.at_most;
      apart = is_distinct-promoted block lines it.apart;
      parents = λ other there. rw (is_in-promoted block (parent_block other) lines) (it.parents other (rw (is_in-promoted block other lines) at there));
    })

pub lines_of-promoted : (block : ℕ) (lines : OrderedLines) → is_cache lines ≡ true → lines_of (promoted block lines) ≡ lines_of lines
lines_of-promoted block lines holds = same_lines _ _ (λ other. get-lines_of (promoted block lines) other (is_cache-promoted block lines holds) ∙ line_of-promoted block other lines ∙ sym (get-lines_of lines other holds))

get-put : (m : LineMap) (block other : ℕ) (line : Line) → get (insert m block line) other ≡ cond (nat_eq other block) (Some line) (get m other)
get-put m block other line = get-insert nat_cmp_total m block line other ∙ ap (λ t. cond t (Some line) (get m other)) (same_test other block)

-- a block with a line, by the list
pub line_of-Holds : (lines : OrderedLines) (block : ℕ) → is_cache lines ≡ true → Holds (lines_of lines) block → is_some (line_of block lines) ≡ true
line_of-Holds lines block holds held = let e = get-lines_of lines block holds in let e' = ap is_some e in grind rules

is_in-put_first : (block other : ℕ) (line : Line) (lines : OrderedLines) → is_some (line_of block lines) ≡ true → is_in (blocks_of (put_first block line lines)) other ≡ is_in (blocks_of lines) other
is_in-put_first block other line lines there =
    is_in-line_of other (put_first block line lines) ∙ ap is_some (line_of-put_first block other line lines)
    ∙ (elim (nat_eq other block) as (λ t. nat_eq other block ≡ t → is_some (cond t (Some line) (line_of other lines)) ≡ is_some (line_of other lines)) [
      | true ↦ λ t. let same : other ≡ block = grind (arith, nat_tests) in rw same (sym there)
      | false ↦ λ t. refl
    ] refl)
    ∙ sym (is_in-line_of other lines)

some_of : (found : Option Line) → is_some found ≡ true → (line : Line) × (found ≡ Some line)
some_of None e = absurd (cc)
some_of (Some line) e = (line, refl)

pub is_cache-put_first : (block : ℕ) (line : Line) (lines : OrderedLines) → is_cache lines ≡ true → is_some (line_of block lines) ≡ true → is_cache (put_first block line lines) ≡ true
is_cache-put_first block line lines holds there =
    let it = IsCache-from lines holds in
    let old = some_of (line_of block lines) there in
    is_cache-from (put_first block line lines) (record {
      at_most = rw (length-without block lines old.0 old.1) it.at_most;
      apart = is_distinct-put_first block line lines it.apart;
      parents = λ other in_new. rw (is_in-put_first block (parent_block other) line lines there) (it.parents other (rw (is_in-put_first block other line lines there) at in_new));
    })

-- a loan
pub lines_of-written : (lines : OrderedLines) (block : ℕ) (payload : List ℕ) → is_cache lines ≡ true → is_some (line_of block lines) ≡ true → lines_of (written lines block payload) ≡ with_payload (lines_of lines) block payload
lines_of-written lines block payload holds there =
    let line : Line = record { payload = payload; dirty = true } in
    same_lines _ _ (λ other. get-lines_of (put_first block line lines) other (is_cache-put_first block line lines holds there)
    ∙ line_of-put_first block other line lines
    ∙ ap (cond (nat_eq other block) (Some line)) (sym (get-lines_of lines other holds))
    ∙ sym (get-put (lines_of lines) block other line))

pub length-written : (lines : OrderedLines) (block : ℕ) (payload : List ℕ) → is_some (line_of block lines) ≡ true → length (written lines block payload) ≡ length lines
length-written lines block payload there = let old = some_of (line_of block lines) there in length-without block lines old.0 old.1

or_more : (a b c : Bool) → (a || c) ≡ true → (a || (b || c)) ≡ true
or_more true b c h = refl
or_more false true c h = refl
or_more false false c h = h

wider : (block first : ℕ) (blocks : List ℕ) → has_parent_in blocks block ≡ true → has_parent_in (first ∷ blocks) block ≡ true
wider block first blocks h = or_more (nat_eq block 0) (nat_eq (parent_block block) first) (is_in blocks (parent_block block)) h

-- a new line
parents-more : (block : ℕ) (lines : OrderedLines) → ((other : ℕ) → is_in (blocks_of lines) other ≡ true → has_parent_in (blocks_of lines) other ≡ true) → has_parent_in (blocks_of lines) block ≡ true
    → (other : ℕ) → is_in (block ∷ blocks_of lines) other ≡ true → has_parent_in (block ∷ blocks_of lines) other ≡ true
parents-more block lines each own other there =
    elim (nat_eq other block) as (λ t. nat_eq other block ≡ t → has_parent_in (block ∷ blocks_of lines) other ≡ true) [
      | true ↦ λ t. let same : other ≡ block = grind (arith, nat_tests) in let P : ℕ → Type 0 = λ q. has_parent_in (block ∷ blocks_of lines) q ≡ true in subst P (sym same) (wider block block (blocks_of lines) own)
      | false ↦ λ t. wider other block (blocks_of lines) (each other (rw t at there))
    ] refl

pub is_cache-new : (block : ℕ) (line : Line) (lines : OrderedLines) → is_cache lines ≡ true → is_in (blocks_of lines) block ≡ false → has_parent_in (blocks_of lines) block ≡ true → length lines < TREE_LINES → is_cache ((block, line) ∷ lines) ≡ true
is_cache-new block line lines holds missing own room =
    let it = IsCache-from lines holds in
    let apart = it.apart in
    is_cache-from ((block, line) ∷ lines) (record {
      at_most = omega arith;
      apart = rw (missing, apart) refl;
      parents = parents-more block lines it.parents own;
    })

pub lines_of-new : (block : ℕ) (line : Line) (lines : OrderedLines) → is_cache lines ≡ true → is_cache ((block, line) ∷ lines) ≡ true → lines_of ((block, line) ∷ lines) ≡ insert (lines_of lines) block line
lines_of-new block line lines holds more =
    same_lines _ _ (λ other. get-lines_of ((block, line) ∷ lines) other more
    ∙ ap (cond (nat_eq other block) (Some line)) (sym (get-lines_of lines other holds))
    ∙ sym (get-put (lines_of lines) block other line))

-- a line taken out
get-taken : (m : LineMap) (block other : ℕ) → get (remove m block) other ≡ cond (nat_eq other block) None (get m other)
get-taken m block other = get-remove nat_cmp_total m block other ∙ ap (λ t. cond t None (get m other)) (same_test other block)

line_of-without : (block other : ℕ) (lines : OrderedLines) → is_distinct (blocks_of lines) ≡ true → line_of other (without block lines) ≡ cond (nat_eq other block) None (line_of other lines)
line_of-without block other lines apart =
    elim (nat_eq other block) as (λ t. nat_eq other block ≡ t → line_of other (without block lines) ≡ cond t None (line_of other lines)) [
      | true ↦ λ t. let same : other ≡ block = grind (arith, nat_tests) in rw same (line_of-missing block (without block lines) (is_in-without_itself block lines apart))
      | false ↦ λ t. line_of-without_other block other lines t
    ] refl

is_in-left : (block other : ℕ) (lines : OrderedLines) → is_distinct (blocks_of lines) ≡ true → is_in (blocks_of (without block lines)) other ≡ (not (nat_eq other block) && is_in (blocks_of lines) other)
is_in-left block other lines apart =
    is_in-line_of other (without block lines) ∙ ap is_some (line_of-without block other lines apart)
    ∙ (elim (nat_eq other block) as (λ t. is_some (cond t None (line_of other lines)) ≡ (not t && is_some (line_of other lines))) [ true ↦ refl | false ↦ refl ])
    ∙ ap (λ t. not (nat_eq other block) && t) (sym (is_in-line_of other lines))

kept_parent : (root is_parent there : Bool) → (root || there) ≡ true → (root ≡ false → is_parent ≡ true → ⊥) → (root || (not is_parent && there)) ≡ true
kept_parent true is_parent there h never = refl
kept_parent false true there h never = absurd (never refl refl)
kept_parent false false there h never = h

parents-fewer : (block : ℕ) (lines : OrderedLines) → is_distinct (blocks_of lines) ≡ true → ((other : ℕ) → is_in (blocks_of lines) other ≡ true → has_parent_in (blocks_of lines) other ≡ true)
    → ((child : ℕ) → 0 < child → parent_block child ≡ block → is_in (blocks_of lines) child ≡ false)
    → (other : ℕ) → is_in (blocks_of (without block lines)) other ≡ true → has_parent_in (blocks_of (without block lines)) other ≡ true
parents-fewer block lines apart each childless other there =
    let was = rw (is_in-left block other lines apart) at there in
    let before : has_parent_in (blocks_of lines) other ≡ true = each other (grind rules) in
    rw (is_in-left block (parent_block other) lines apart) (kept_parent (nat_eq other 0) (nat_eq (parent_block other) block) (is_in (blocks_of lines) (parent_block other)) before (λ above is_parent.
    let missing : is_in (blocks_of lines) other ≡ false = childless other (grind (arith, nat_tests)) (grind (arith, nat_tests)) in
    grind rules))

pub is_cache-without : (block : ℕ) (lines : OrderedLines) → is_cache lines ≡ true → is_some (line_of block lines) ≡ true → ((child : ℕ) → 0 < child → parent_block child ≡ block → is_in (blocks_of lines) child ≡ false) → is_cache (without block lines) ≡ true
is_cache-without block lines holds there childless =
    let it = IsCache-from lines holds in
    let old = some_of (line_of block lines) there in
    is_cache-from (without block lines) (record {
      at_most = let fewer = length-without block lines old.0 old.1 in let most = it.at_most in omega arith;
      apart = is_distinct-without block lines it.apart;
      parents = parents-fewer block lines it.apart it.parents childless;
    })

pub lines_of-without : (block : ℕ) (lines : OrderedLines) → is_cache lines ≡ true → is_cache (without block lines) ≡ true → lines_of (without block lines) ≡ remove (lines_of lines) block
lines_of-without block lines holds fewer =
    same_lines _ _ (λ other. get-lines_of (without block lines) other fewer
    ∙ line_of-without block other lines (IsCache-from lines holds).apart
    ∙ ap (cond (nat_eq other block) None) (sym (get-lines_of lines other holds))
    ∙ sym (get-taken (lines_of lines) block other))

-- a line marked as clean
keys-set_value : (test : ℕ → Bool) (lines : OrderedLines) (line : Line) → keys_of (set_value test lines line) ≡ keys_of lines
keys-set_value test [] line = refl
keys-set_value test (first ∷ lines) line =
    elim (test first.0) as (λ t. keys_of (cond t ((first.0, line) ∷ lines) (first ∷ set_value test lines line)) ≡ first.0 ∷ keys_of lines) [
      | true ↦ refl
      | false ↦ ap (λ rest. first.0 ∷ rest) (keys-set_value test lines line)
    ]

line_of-set_value : (block other : ℕ) (lines : OrderedLines) (line : Line) → is_some (line_of block lines) ≡ true → line_of other (set_value (nat_eq block) lines line) ≡ cond (nat_eq other block) (Some line) (line_of other lines)
line_of-set_value block other [] line there = absurd (cc)
line_of-set_value block other (first ∷ lines) line there =
    elim (nat_eq block first.0) as (λ t. nat_eq block first.0 ≡ t → line_of other (cond t ((first.0, line) ∷ lines) (first ∷ set_value (nat_eq block) lines line)) ≡ cond (nat_eq other block) (Some line) (line_of other (first ∷ lines))) [
      | true ↦ λ t. let same : block ≡ first.0 = grind (arith, nat_tests) in grind (arith, nat_tests)
      | false ↦ λ t. let rest = line_of-set_value block other lines line (rw t at there) in grind (arith, nat_tests)
    ] refl

same_blocks : (old new : OrderedLines) → blocks_of new ≡ blocks_of old → length new ≡ length old → is_cache old ≡ true → is_cache new ≡ true
same_blocks old new e n holds = rw (n, e) holds

pub cleaned_as : (block : ℕ) (lines : OrderedLines) (line : Line) → line_of block lines ≡ Some line → cleaned block lines ≡ set_value (nat_eq block) lines (record { payload = line.payload; dirty = false })
cleaned_as block lines line e = ap (λ found. option_map_or (λ (line : Line). set_value (nat_eq block) lines (record { payload = line.payload; dirty = false })) found lines) e

length-set_value : (block : ℕ) (lines : OrderedLines) (line : Line) → length (set_value (nat_eq block) lines line) ≡ length lines
length-set_value block lines line = sym (length-keys_of (set_value (nat_eq block) lines line)) ∙ ap length (keys-set_value (nat_eq block) lines line) ∙ length-keys_of lines

pub length-cleaned : (block : ℕ) (lines : OrderedLines) → is_some (line_of block lines) ≡ true → length (cleaned block lines) ≡ length lines
length-cleaned block lines there = let old = some_of (line_of block lines) there in rw (cleaned_as block lines old.0 old.1) (length-set_value block lines _)

pub is_cache-cleaned : (block : ℕ) (lines : OrderedLines) → is_cache lines ≡ true → is_some (line_of block lines) ≡ true → is_cache (cleaned block lines) ≡ true
is_cache-cleaned block lines holds there =
    let old = some_of (line_of block lines) there in
    rw (cleaned_as block lines old.0 old.1) (same_blocks lines _ (keys-set_value (nat_eq block) lines _) (length-set_value block lines _) holds)

clean_as : (m : LineMap) (block : ℕ) (line : Line) → get m block ≡ Some line → with_clean m block ≡ insert m block (record { payload = line.payload; dirty = false })
clean_as m block line e = ap (clean_line m block) e

pub lines_of-cleaned : (block : ℕ) (lines : OrderedLines) → is_cache lines ≡ true → is_some (line_of block lines) ≡ true → lines_of (cleaned block lines) ≡ with_clean (lines_of lines) block
lines_of-cleaned block lines holds there =
    let old = some_of (line_of block lines) there in
    let line : Line = record { payload = old.0.payload; dirty = false } in
    same_lines _ _ (λ other. get-lines_of (cleaned block lines) other (is_cache-cleaned block lines holds there)
    ∙ ap (line_of other) (cleaned_as block lines old.0 old.1)
    ∙ line_of-set_value block other lines line there
    ∙ ap (cond (nat_eq other block) (Some line)) (sym (get-lines_of lines other holds))
    ∙ sym (get-put (lines_of lines) block other line)
    ∙ ap (λ m. get m other) (sym (clean_as (lines_of lines) block old.0 (get-lines_of lines block holds ∙ old.1))))

-- what a loan leaves, as the laws of the lines say it
pub lines_of-lent : (lines : OrderedLines) (block : ℕ) (left : List ℕ) → Holds (lines_of lines) block → lines_of (written lines block left) ≡ with_payload (lines_of lines) block left
lines_of-lent lines block left held =
    let holds = is_cache-Holds lines block held in
    lines_of-written lines block left holds (line_of-Holds lines block holds held)

pub room-lent : (lines : OrderedLines) (block : ℕ) (left : List ℕ) → Holds (lines_of lines) block → (other : ℕ) → is_below_limit (written lines block left) ≡ is_below_limit lines
room-lent lines block left held other =
    let holds = is_cache-Holds lines block held in
    rw (length-written lines block left (line_of-Holds lines block holds held)) refl
