-- What calls on the lines change, one block at a time.
use Rattle.std.proofs.Common.{◌≡◌, ◌≢◌, ℕ, ◌<◌, false, Some, arith, rules}
use Rattle.std.specs.FinMap.{contains_key, get, insert, remove, len, empty, empty_of_len, gets}
use Rattle.line_cache.specs.declared.lines.Line.{Line}
use Rattle.line_cache.specs.LineMaps.{LineMap, Holds}

-- a line that is put in is held, and the others are as they were
pub Holds-insert : (lines : LineMap) (block : ℕ) (line : Line) → Holds (insert lines block line) block
Holds-insert lines block line = grind (gets, rules)

pub get-insert_same : (lines : LineMap) (block : ℕ) (line : Line) → get (insert lines block line) block ≡ Some line
get-insert_same lines block line = grind (gets, rules)

pub get-insert_other : (lines : LineMap) (block other : ℕ) (line : Line) → other ≢ block → get (insert lines block line) other ≡ get lines other
get-insert_other lines block other line apart = grind (gets, rules)

-- what is taken out is not held, and the others are as they were
pub contains_key-remove : (lines : LineMap) (block : ℕ) → contains_key (remove lines block) block ≡ false
contains_key-remove lines block = grind (gets, rules)

pub get-remove_other : (lines : LineMap) (block other : ℕ) → other ≢ block → get (remove lines block) other ≡ get lines other
get-remove_other lines block other apart = grind (gets, rules)

-- a map that holds a block is not empty
none_in_empty : (lines : LineMap) (block : ℕ) → lines ≡ empty → contains_key lines block ≡ false
none_in_empty lines block e = rw e (grind (gets, rules))

positive : (n : ℕ) → ¬ (n ≡ 0) → 0 < n
positive n some = grind arith

pub len-held : (lines : LineMap) (block : ℕ) → Holds lines block → 0 < len lines
len-held lines block held = positive (len lines) (λ (none : len lines ≡ 0). let missing : contains_key lines block ≡ false = none_in_empty lines block (empty_of_len lines none) in grind rules)

-- and a removal leaves fewer lines
pub len-remove_held : (lines : LineMap) (block : ℕ) → Holds lines block → len (remove lines block) < len lines
len-remove_held lines block held = let some : 0 < len lines = len-held lines block held in grind (gets, rules)
