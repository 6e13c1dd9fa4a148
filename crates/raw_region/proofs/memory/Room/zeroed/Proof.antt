-- `zeroed` writes one byte in each turn of its loop. Assumes `Logic`.
use mathlib.Core.Path.{◌≡◌, refl, sym}
use mathlib.Core.List.{List, [], ◌∷◌, ◌++◌}
use mathlib.Core.WellFounded.InvImage
use Prim.Native.Nat.{ℕ, suc, ◌+◌, ◌-◌, ◌≤◌, ◌<◌, ◌^◌}
use native.Mathlib.Omega.{arith}
use seplogic.Ra.Ura.{Ura}
use lib.Dec.{lit<, ltb→lt, nltb→le}
use lib.ListN.{length, replicate, length-replicate, replicate-append-replicate}
use lib.WfN.{lt-wf_rel}
use base.Fraction.{full_share}
use mir.Syntax.{Body, w8, w64, ty_int}
use mir.Val.{Val, vint, vptr}
use base.Logic.{SProp, ent, sep, never, id⊢}
use base.Fml.{Fml, ftrue, froom, fat}
use prog.Memory.{Memory}
use prog.Routine.{Routine}
use prog.Wp.{Env, Out, Wp, WpFn, Tables, at_return, after_seq, after_block, after_turn}
use types.Logic.{Logic, sem}
use contract.Monad.{Fun, fact}
use contract.Running.{tables, tables_of}
use types.Kit.{Item, Sq, any_q, runs, ‵, raw, prop, ◌⊛◌, at_ret, ◌$◌, ◌∵◌, !, qed, by, move, keep, drop, use0, use1, use2, split, join, rewrite, regoal, fsplit, fjoin, feq_i, suffices, done}
use types.Part.{whole, sub, agg}
use types.Run.{stop, fld, lit, bin, of_opd, init, and_then, no_more, assigns_last, first, blocks, skips, jumps, branches, exec, returns, enter, loops, again, Below}
use types.ByLocal.{alloc_all, pass_all, free_all, look_at, get, get_in, through, sets, sets_last, env, holding, forget_but}
use denote.Builtin.{u8, usize}
use denote.Exit.{yes}
use denote.Memory.{part_at}
use denote.Plain.{uint_vals, uint_Tells, uint_in}
use denote.RattleType.{owns}
use denote.RawPtr.{Ptr, block_ptr, in_a_block}
use denote.RawPtr.Bytes.{bytes, bytes_glue, bytes_whole}
use denote.Signature.{plain, types_at}
use denote.Steps.{nothing, heard}
use denote.Triple.Clauses.{Clauses}
use denote.Triple.Walked.{Stays, walk_of, says, stay_dropped, Goes-dropped, ends_at}
use Rattle.std.proofs.alloc.Calls.{Goes-blank}
use Rattle.std.proofs.alloc.Shapes.{after, head}
use Rattle.std.proofs.raw_atomic.Walks.{proved}
use Rattle.raw_region.specs.Ownership.{block_type, room_at}
use Rattle.raw_region.specs.contracts.memory.Room as room
use Rattle.raw_region.specs.contracts.memory.Room.zeroed as f
use Rattle.raw_region.proofs.Bytes.{all_of}
use Rattle.raw_region.proofs.Values.{pointer_val, pointer_own, pointer_told, pointer_made}
use Rattle.raw_region.proofs.memory.Room.zeroed.Statement.{statement}
use Rattle.raw_region.proofs.memory.Room.zeroed.Code as code

abbrev stayed : Stays f.ended.signature.params f.ended.kept
stayed = (stay_dropped (plain (λ _. room.the_row)) yes, (stay_dropped (plain (λ _. usize)) yes, tt))

-- how many bytes are written
abbrev Done : ℕ → Type 0
Done n = (i : ℕ) × (i ≤ n)

abbrev Nearer : (n : ℕ) → Done n → Done n → Type 0
Nearer n t u = n - t.0 < n - u.0

abbrev turn : Body
turn = head (head (head (after 2 (code.function).body)))

module _ {M : Type 1} {𝓤 : Ura M} (𝓛 : Logic 𝓤) (at_mem : Memory → SProp 𝓤) (run : Routine → Fun 𝓤) (𝓣 : Tables 𝓤 𝓛.H) (b o n : ℕ) (fits : n < 2 ^ 64) where
  open 𝓛 use {H}

  abbrev clauses : Clauses 𝓤 f.ended
  clauses = f.clauses 𝓛 at_mem run

  abbrev zeros : ℕ → Fml
  zeros i = bytes full_share (replicate i 0) b o

  -- one more byte is written
  grows : (i : ℕ) → ent 𝓤 (sep 𝓤 (H.at full_share (ty_int w8) b (i + o) (vint w8 0)) (sem 𝓛 (zeros i))) (sem 𝓛 (zeros (i + 1)))
  grows i =
      let end : i + o ≡ o + length (replicate i 0) = omega (arith, length-replicate {A = ℕ} i 0) in
      qed 𝓛 (‵ (fat full_share (ty_int w8) b (i + o) (vint w8 0)) ∷ ‵ (zeros i) ∷ []) ∵
      use1 𝓛 (‵ (part_at u8 full_share 0 b (i + o))) (uint_in 𝓛 full_share w8 0 b (i + o)) $ nothing ! $ move ! (1 ∷ 0 ∷ []) $ fjoin ! $
      rewrite ! 0 (λ (k : ℕ). ‵ (bytes full_share (0 ∷ []) b k)) end refl $ move ! (1 ∷ 0 ∷ []) $
      use2 𝓛 (‵ (bytes full_share (replicate i 0 ++ 0 ∷ []) b o)) (bytes_glue 𝓛 full_share (replicate i 0) (0 ∷ []) b o) $
      rewrite ! 0 (λ (l : List ℕ). ‵ (bytes full_share l b o)) (replicate-append-replicate i 1 0) refl $ done !

  module _ (Post : Val → SProp 𝓤) (ends : ent 𝓤 (sem 𝓛 (zeros n)) (Post (pointer_val (block_ptr b o)))) (l : ℕ → ℕ) where
    abbrev En : Env 𝓤 H
    En = env (code.function).locals l

    abbrev Now : Done n → List (Item 𝓤)
    Now t = ‵ (zeros t.0) ∷ ‵ (froom (block_type (n - t.0)) b (t.0 + o)) ∷ holding 𝓛 En ((1, pointer_val (block_ptr b o)) ∷ (2, vint w64 n) ∷ (3, vptr b o) ∷ (4, vint w64 t.0) ∷ [])

    abbrev Turned : Done n → Out → SProp 𝓤
    Turned t = after_turn 𝓤 H (Below 𝓛 (Nearer n) Now t) (after_block 𝓤 H (after_seq 𝓤 H (Wp 𝓤 H 𝓣.C 𝓣.Λ En (after 3 (code.function).body) (at_return 𝓤 H En Post)) (at_return 𝓤 H En Post)))

    turns : (t : Done n) → Sq 𝓛 (Now t) (runs 𝓣.C 𝓣.Λ En turn (any_q (Turned t)))
    unfolding after_turn
    turns t =
        let i : ℕ = t.0 in let le = t.1 in
        sets ! (bin ! (get ! refl) (get ! refl) tt) refl (tt, tt) $ first ! $ branches ! (get ! refl)
        (λ less. let h : i < n = ltb→lt i n less in let rest : n - i ≡ suc (n - (i + 1)) = omega arith in let next : i + o + 1 ≡ i + 1 + o = omega arith in
        skips ! $ exec ! 𝓣.C 𝓣.Λ En (after 2 turn) (any_q (Turned t)) $
        move ! (1 ∷ []) $ rewrite ! 0 (λ (k : ℕ). ‵ (froom (block_type k) b (i + o))) rest refl $
        use1 𝓛 (‵ (froom (ty_int w8) b (i + o)) ⊛ ‵ (froom (block_type (n - (i + 1))) b (i + o + 1))) (𝓛.laws.room_uncons (ty_int w8) (n - (i + 1)) b (i + o)) $ split ! $
        -- [room for a byte; the other room; the zeros]
        first ! $ blocks ! $ sets ! (bin ! (get ! refl) (get ! refl) tt) refl (tt, tt) $
        assigns_last ! (of_opd ! (lit ! tt)) (through ! refl (stop !)) (init ! 0 refl (tt, record { fits = lit< tt })) $
        exec ! 𝓣.C 𝓣.Λ En (after 3 turn) (any_q (Turned t)) $
        sets_last ! (bin ! (get ! refl) (lit ! tt) (record { fits = omega arith })) refl (tt, record { fits = omega arith }) $
        move ! (0 ∷ 2 ∷ []) $ use2 𝓛 (‵ (zeros (i + 1))) (grows i) $ rewrite ! 1 (λ (k : ℕ). ‵ (froom (block_type (n - (i + 1))) b k)) next refl $
        forget_but ! En (1 ∷ 2 ∷ 3 ∷ 4 ∷ []) refl $ again ! (Nearer n) Now t (i + 1, omega arith) (omega arith))
        (λ over. let all : i ≡ n = omega (arith, nltb→le i n over) in
        jumps ! $ exec ! 𝓣.C 𝓣.Λ En (after 3 (code.function).body) (at_ret En Post) $ rewrite ! 0 (λ (k : ℕ). ‵ (zeros k)) all refl $
        sets ! (agg ! (and_then ! (get ! refl) (no_more !))) refl (tt, (tt, tt)) $ returns ! (look_at ! 0 refl) $ free_all ! refl $ keep ! (0 ∷ []) $ by ! ends)

  runs_by : (Post : Val → SProp 𝓤) → ent 𝓤 (sem 𝓛 (zeros n)) (Post (pointer_val (block_ptr b o)))
      → ent 𝓤 (H.room (block_type n) b o) (WpFn 𝓤 H 𝓣.C 𝓣.Λ code.function (pointer_val (block_ptr b o) ∷ vint w64 n ∷ []) Post)
  runs_by Post ends =
      let all : n ≡ n - 0 = omega arith in let start : o ≡ 0 + o = omega arith in
      qed 𝓛 (‵ (froom (block_type n) b o) ∷ []) ∵
      rewrite ! 0 (λ (k : ℕ). ‵ (froom (block_type k) b o)) all refl $ rewrite ! 0 (λ (k : ℕ). ‵ (froom (block_type (n - 0)) b k)) start refl $ nothing ! $ enter ! _ _ _ _ _ $
      alloc_all ! (λ l. pass_all ! refl ((tt, (tt, tt)), ((tt, record { fits = fits }), tt)) $
      sets ! (of_opd ! (get_in ! (fld ! refl (stop !)) (sub ! 0 refl (whole !)))) refl (tt, tt) $ sets ! (of_opd ! (lit ! tt)) refl (tt, record { fits = lit< tt }) $
      first ! $ blocks ! $ loops ! 𝓣 (Nearer n) (InvImage.wf (λ (t : Done n). n - t.0) lt-wf_rel.wf) (Now Post ends l) (turns Post ends l) (0, omega arith))

pub zeroed_spec : {M : Type 1} → statement M
unfolding tables_of
zeroed_spec 𝓤 𝓛 𝓜 𝓡 wired =
    let c = f.clauses 𝓛 𝓜.mem 𝓡.returns in let W = walk_of 𝓛 f.ended stayed c in let 𝓣 = tables 𝓤 𝓛.H 𝓜 𝓡 𝓡.env in
    proved 𝓛 f.ended stayed c 𝓜 𝓡 (Goes-blank 𝓛 0 (plain (λ _. room.the_row)) yes (λ κs x w. tt), (Goes-dropped 𝓛 0 (plain (λ _. usize)) yes (λ κs x w. refl), tt))
    f.Key.name code.function (code.unfolded 𝓤 𝓛.H 𝓜 𝓡 wired)
    (λ κs. ((λ r. pointer_val r.ptr ∷ []), (uint_vals w64, tt))) (λ κs. ((λ r vs is. pointer_told r.ptr vs is.0), (uint_Tells w64, tt))) (λ κs qs bounds a g are.
    let r = a.0 in let n = a.1.0 in let xs = replicate n 0 in
    let y : W.Ghost = ((κs, qs, bounds, a, (pointer_val r.ptr ∷ [], (uint_vals w64 n, tt))), g) in
    qed 𝓛 ((‵ ftrue ⊛ ‵ (owns (types_at f.signature.params κs) a y.0.4)) ∷ raw (fact 𝓤 (n ≡ r.len)) ∷ []) ∵
    move ! (1 ∷ []) $ heard ! (n ≡ r.len) (λ long. split ! $ drop ! $ fsplit ! $ fsplit ! $ drop ! $ keep ! (0 ∷ []) $
    in_a_block ! r.ptr (λ p. room_at p r.len) (id⊢ 𝓤 (never 𝓤)) (λ b o e. rewrite ! 0 (λ (k : ℕ). ‵ (froom (block_type k) b o)) (sym long) refl $
    regoal ! (λ (p : Ptr). prop (WpFn 𝓤 𝓛.H 𝓣.C 𝓣.Λ code.function (pointer_val p ∷ vint w64 n ∷ []) (W.post y))) e refl $
    by ! (runs_by 𝓛 𝓜.mem 𝓡.returns (tables_of 𝓤 𝓛.H 𝓜 𝓣) b o n are.1.0.1 (W.post y)
    (qed 𝓛 (‵ (bytes full_share xs b o) ∷ []) ∵ feq_i ! ℕ (length xs) (length xs) refl $ fjoin ! $ use1 𝓛 (‵ (all_of full_share b o xs)) (bytes_whole 𝓛 full_share (length xs) xs b o) $
    use0 𝓛 (‵ (pointer_own (block_ptr b o) (pointer_val (block_ptr b o) ∷ []))) (pointer_made 𝓛 (block_ptr b o)) $ fjoin ! $
    suffices ! _ (ends_at 𝓛 f.ended stayed c y (pointer_val (block_ptr b o)) (record { ptr = block_ptr b o; bytes = xs }) (tt, (tt, tt)) (tt, (tt, tt))) $ says ! (sym e, refl) $
    nothing ! $ nothing ! $ join ! $ nothing ! $ join ! $ nothing ! $ done !)))))
