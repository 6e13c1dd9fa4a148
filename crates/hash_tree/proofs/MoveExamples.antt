-- Block 1 leaves a cache, and what the definitions of a load say of it. The answers were worked out by hand from the rules.
use Rattle.std.proofs.Common.{◌≡◌, ℕ, zero, suc, ◌<◌, ◌≤◌, Bool, true, false, List, [], ◌∷◌, ◌++◌, get_or, replicate, Option, Some, None, refl, sym, ap, ◌∙◌, subst, inl, inr, lit≤, lit<, arith}
use Rattle.std.specs.Prelude.{is_some, Contains}
use Rattle.std.proofs.lemmas.List.Elements.{All-nil, All-push}
use Rattle.aegis_num.specs.declared.storage.Block.{Block}
use Rattle.aegis_num.specs.declared.storage.Place.TheVariants.{Tree, Log}
use Rattle.off_chip.specs.declared.event.Event.{Event}
use Rattle.off_chip.specs.declared.event.Event.TheVariants.{BlockRead, BlockWrite, WordRead, Note}
use Rattle.off_chip.specs.declared.event.Mark.TheVariants.{Drop}
use Rattle.off_chip.specs.declared.event.Who.TheVariants.{Secure}
use Rattle.line_cache.specs.declared.lines.Line.{Line}
use Rattle.hash_tree.specs.CachedLines.{Held}
use Rattle.hash_tree.specs.DueLines.{IsDue, dirty, above}
use Rattle.hash_tree.specs.Standing.{State}
use Rattle.hash_tree.specs.TreeSteps.{IsMove, removal, write, Moves, TellsLine, was_read, node_written, leaf_written, line_dropped}
use Rattle.hash_tree.proofs.Examples.{tree, leaf, node, loading, lines_loaded, loaded}

abbrev root_line : Line
root_line = record { payload = (1 ∷ 1 ∷ 2 ∷ 2 ∷ 3 ∷ 3 ∷ []) ++ replicate 58 0; dirty = false }

abbrev dirty_line : Line
dirty_line = record { payload = 21 ∷ replicate 63 0; dirty = true }

-- what goes over the bus for the payload of that line
abbrev turned : Block
turned = record { payload = replicate 63 0 ++ 21 ∷ []; stamp = 5 }

-- ---- what one event tells

told-read : TellsLine tree lines_loaded (BlockRead (Tree 2) (leaf 12 2))
told-read = was_read 2 (leaf 12 2) refl

told-leaf : TellsLine tree lines_loaded (BlockWrite (Tree 1) turned)
told-leaf = leaf_written 1 turned dirty_line refl (lit≤ tt) refl refl refl

told-node : TellsLine tree lines_loaded (BlockWrite (Tree 0) (node [] 6))
told-node = node_written 0 (node [] 6) refl (lit< tt) (above 1 (lit< tt) (dirty 1 dirty_line refl refl))

told-drop : TellsLine tree lines_loaded (Note (Drop (Tree 0)))
told-drop = line_dropped 0 root_line refl refl refl

number-written : (n m : ℕ) (block other : Block) → BlockWrite (Tree n) block ≡ BlockWrite (Tree m) other → n ≡ m
number-written n m block other same = cc

block-written : (n m : ℕ) (block other : Block) → BlockWrite (Tree n) block ≡ BlockWrite (Tree m) other → block ≡ other
block-written n m block other same = cc

number-dropped : (n m : ℕ) → Note (Drop (Tree n)) ≡ Note (Drop (Tree m)) → n ≡ m
number-dropped n m same = cc

line-one : (n : ℕ) (line : Line) → 1 ≡ n → lines_loaded n ≡ Some line → dirty_line ≡ line
line-one n line same held =
    let e : Some dirty_line ≡ Some line = ap (λ (k : ℕ). lines_loaded k) same ∙ held in cc

-- it is written in clear
told-clear : TellsLine tree lines_loaded (BlockWrite (Tree 1) (leaf 21 5)) → ⊥
told-clear (was_read n block same) = let e : BlockWrite (Tree 1) (leaf 21 5) ≡ BlockRead (Tree n) block = same in cc
told-clear (node_written n block same below due) = let e = number-written 1 n (leaf 21 5) block same in omega (arith, e, below)
told-clear (leaf_written n block line same inside held is payload) =
    let e : 1 ≡ n = number-written 1 n (leaf 21 5) block same in
    let f : leaf 21 5 ≡ block = block-written 1 n (leaf 21 5) block same in
    let g : dirty_line ≡ line = line-one n line e held in
    let h : ◌≡◌ {A = ℕ} 21 0 = ap (λ (b : Block). get_or b.payload 0 0) f ∙ ap (λ (xs : List ℕ). get_or xs 0 0) payload
    ∙ ap (λ (k : ℕ). get_or (tree.veiled k block.stamp line.payload) 0 0) (sym e)
    ∙ ap (λ (l : Line). get_or (tree.veiled 1 block.stamp l.payload) 0 0) (sym g) in
    omega (arith, h)
told-clear (line_dropped n line same held is) = let e : BlockWrite (Tree 1) (leaf 21 5) ≡ Note (Drop (Tree n)) = same in cc

-- a block is written that need not be
told-other : TellsLine tree lines_loaded (BlockWrite (Tree 2) turned) → ⊥
told-other (was_read n block same) = let e : BlockWrite (Tree 2) turned ≡ BlockRead (Tree n) block = same in cc
told-other (node_written n block same below due) = let e = number-written 2 n turned block same in omega (arith, e, below)
told-other (leaf_written n block line same inside held is payload) =
    let e : 2 ≡ n = number-written 2 n turned block same in
    let f : None ≡ Some line = ap (λ (k : ℕ). lines_loaded k) e ∙ held in cc
told-other (line_dropped n line same held is) = let e : BlockWrite (Tree 2) turned ≡ Note (Drop (Tree n)) = same in cc

-- a dirty line is dropped
told-dirty_drop : TellsLine tree lines_loaded (Note (Drop (Tree 1))) → ⊥
told-dirty_drop (was_read n block same) = let e : Note (Drop (Tree 1)) ≡ BlockRead (Tree n) block = same in cc
told-dirty_drop (node_written n block same below due) = let e : Note (Drop (Tree 1)) ≡ BlockWrite (Tree n) block = same in cc
told-dirty_drop (leaf_written n block line same inside held is payload) = let e : Note (Drop (Tree 1)) ≡ BlockWrite (Tree n) block = same in cc
told-dirty_drop (line_dropped n line same held is) =
    let g : dirty_line ≡ line = line-one n line (number-dropped 1 n same) held in
    let h : true ≡ false = ap (λ (l : Line). l.dirty) g ∙ is in cc

-- a block without a line is dropped
told-absent_drop : TellsLine tree lines_loaded (Note (Drop (Tree 2))) → ⊥
told-absent_drop (was_read n block same) = let e : Note (Drop (Tree 2)) ≡ BlockRead (Tree n) block = same in cc
told-absent_drop (node_written n block same below due) = let e : Note (Drop (Tree 2)) ≡ BlockWrite (Tree n) block = same in cc
told-absent_drop (leaf_written n block line same inside held is payload) = let e : Note (Drop (Tree 2)) ≡ BlockWrite (Tree n) block = same in cc
told-absent_drop (line_dropped n line same held is) =
    let e : 2 ≡ n = number-dropped 2 n same in
    let f : None ≡ Some line = ap (λ (k : ℕ). lines_loaded k) e ∙ held in cc

-- a word, and a block of the log
told-word : TellsLine tree lines_loaded (WordRead Secure 4 5) → ⊥
told-word (was_read n block same) = let e : WordRead Secure 4 5 ≡ BlockRead (Tree n) block = same in cc
told-word (node_written n block same below due) = let e : WordRead Secure 4 5 ≡ BlockWrite (Tree n) block = same in cc
told-word (leaf_written n block line same inside held is payload) = let e : WordRead Secure 4 5 ≡ BlockWrite (Tree n) block = same in cc
told-word (line_dropped n line same held is) = let e : WordRead Secure 4 5 ≡ Note (Drop (Tree n)) = same in cc

told-log : TellsLine tree lines_loaded (BlockWrite (Log 1) turned) → ⊥
told-log (was_read n block same) = let e : BlockWrite (Log 1) turned ≡ BlockRead (Tree n) block = same in cc
told-log (node_written n block same below due) = let e : BlockWrite (Log 1) turned ≡ BlockWrite (Tree n) block = same in cc
told-log (leaf_written n block line same inside held is payload) = let e : BlockWrite (Log 1) turned ≡ BlockWrite (Tree n) block = same in cc
told-log (line_dropped n line same held is) = let e : BlockWrite (Log 1) turned ≡ Note (Drop (Tree n)) = same in cc

-- ---- a whole load

-- block 1 left: its digest is in the line of the node, which is dirty
abbrev left_lines : Line → Option Line → Held
left_lines root one zero = Some root
left_lines root one (suc zero) = one
left_lines root one (suc (suc n)) = None

abbrev changed_root : Line
changed_root = record { payload = (1 ∷ 5 ∷ 2 ∷ 2 ∷ 3 ∷ 3 ∷ []) ++ replicate 58 0; dirty = true }

abbrev left_with : Line → Option Line → List Event → State
left_with root one events = record { lines = left_lines root one; root = 0 ∷ 4 ∷ []; trace = loading ++ events }

no_read : (P : Type 0) (before : List Event) (n : ℕ) (block : Block) (rest : List Event) → BlockWrite (Tree 1) turned ∷ [] ≡ before ++ BlockRead (Tree n) block ∷ rest → P
no_read P [] n block rest same = cc
no_read P (event ∷ []) n block rest same = cc
no_read P (event ∷ other ∷ before) n block rest same = cc

left-moves : Moves tree [] loaded (left_with changed_root None (BlockWrite (Tree 1) turned ∷ [])) []
left-moves = record {
  events = BlockWrite (Tree 1) turned ∷ [];
  appended = refl;
  reads_are = refl;
  each = All-push (IsMove [] loaded (left_with changed_root None (BlockWrite (Tree 1) turned ∷ []))) [] (BlockWrite (Tree 1) turned)
      (All-nil (IsMove [] loaded (left_with changed_root None (BlockWrite (Tree 1) turned ∷ []))))
      (removal 1 (write turned refl) none-pinned refl refl);
  checked = λ before n block rest same. no_read _ before n block rest same;
  line_read = λ before n block rest same inside. no_read _ before n block rest same;
  kept = λ n pin held. absurd (none-pinned-at n pin);
  came = λ n held. inl (came n held);
  stays = stays;
  told = All-push (TellsLine tree lines_loaded) [] (BlockWrite (Tree 1) turned) (All-nil (TellsLine tree lines_loaded)) told-leaf;
  waiting = waiting;
  due = due;
}
  where
    none-pinned-at : (n : ℕ) → Contains {X = ℕ} [] n → ⊥
    none-pinned-at n inside = let below : inside.0 < 0 = inside.1 in omega (arith, below)

    none-pinned : Contains {X = ℕ} [] 1 → ⊥
    none-pinned inside = none-pinned-at 1 inside

    came : (n : ℕ) → is_some (left_lines changed_root None n) ≡ true → is_some (lines_loaded n) ≡ true
    came zero held = refl
    came (suc zero) held = refl
    came (suc (suc n)) held = let e : false ≡ true = held in cc

    stays : (n : ℕ) → 1 ≤ n → is_some (lines_loaded n) ≡ true → is_some (left_lines changed_root None n) ≡ true → left_lines changed_root None n ≡ lines_loaded n
    stays zero from held now = absurd (omega (arith, from))
    stays (suc zero) from held now = let e : false ≡ true = now in cc
    stays (suc (suc n)) from held now = refl

    waiting : (n : ℕ) (line : Line) → lines_loaded n ≡ Some line → line.dirty ≡ true → is_some (left_lines changed_root None n) ≡ true
        → (now : Line) × (left_lines changed_root None n ≡ Some now) × (now.dirty ≡ true)
    waiting zero line held is now = (changed_root, refl, refl)
    waiting (suc zero) line held is now = let e : false ≡ true = now in cc
    waiting (suc (suc n)) line held is now = let e : false ≡ true = now in cc

    due : (n : ℕ) (line : Line) → left_lines changed_root None n ≡ Some line → line.dirty ≡ true → IsDue tree lines_loaded n
    due zero line held is = above 1 (lit< tt) (dirty 1 dirty_line refl refl)
    due (suc zero) line held is = let e : None ≡ Some line = held in cc
    due (suc (suc n)) line held is = let e : None ≡ Some line = held in cc

-- a line that was dirty, and stays, is clean without a write
left-clean : Moves tree [] loaded (left_with root_line (Some (record { payload = 21 ∷ replicate 63 0; dirty = false })) []) [] → ⊥
left-clean moves =
    let now = moves.waiting 1 dirty_line refl refl refl in
    let e : Some (record { payload = 21 ∷ replicate 63 0; dirty = false }) ≡ Some now.0 = now.1 in
    let f : record { payload = 21 ∷ replicate 63 0; dirty = false } ≡ now.0 = cc in
    let g : false ≡ true = ap (λ (l : Line). l.dirty) f ∙ now.2 in cc

-- a line is dirty where none had to be written
abbrev clean_one : Line
clean_one = record { payload = 11 ∷ replicate 63 0; dirty = false }

clean-all : (n : ℕ) (line : Line) → left_lines root_line (Some clean_one) n ≡ Some line → line.dirty ≡ false
clean-all zero line held = let e : Some root_line ≡ Some line = held in let f : root_line ≡ line = cc in ap (λ (l : Line). l.dirty) (sym f)
clean-all (suc zero) line held = let e : Some clean_one ≡ Some line = held in let f : clean_one ≡ line = cc in ap (λ (l : Line). l.dirty) (sym f)
clean-all (suc (suc n)) line held = let e : None ≡ Some line = held in cc

none-due : (n : ℕ) → IsDue tree (left_lines root_line (Some clean_one)) n → ⊥
none-due n (dirty m line held is) = let e : true ≡ false = sym is ∙ clean-all m line held in cc
none-due n (above child some due) = none-due child due

left-dirty : Moves tree [] (left_with root_line (Some clean_one) []) (left_with changed_root (Some clean_one) []) [] → ⊥
left-dirty moves = none-due 0 (moves.due 0 changed_root refl refl)
