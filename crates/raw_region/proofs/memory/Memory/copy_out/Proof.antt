-- `copy_out` reads an array through the pointer. Assumes `Logic`.
use mathlib.Core.Path.{refl}
use Prim.Native.Nat.{ℕ, ◌+◌, ◌≤◌}
use mathlib.Core.List.{List, [], ◌∷◌}
use lib.ListN.{length, take, drop as drop_l}
use base.Fraction.{full_share}
use base.Logic.{never, fst∗}
use base.Fml.{ftrue, fsep, feq, fat, flft}
use mir.Syntax.{w8, w64, named, a_number}
use mir.MapTy.{inst_fn}
use mir.Val.{Val, vunit}
use types.Logic.{sem}
use contract.Monad.{fact}
use contract.Running.{tables}
use types.Kit.{‵, raw, ◌⊛◌, given, at_ret, ◌$◌, ◌∵◌, !, qed, move, keep, drop, use1, use2, split, split3, join, learn, fsplit, fsplit3, fjoin, feq_i, rewrite, suffices, frame, group, done}
use types.Run.{enter, of_opd, unit_lit, bin, load, look, store, stop, fld, assigns_last, first, blocks, exec, returns}
use types.ByLocal.{alloc_all, pass_all, free_all, look_at, get, through, sets, env}
use denote.Array.{Array, Array-Tells, Array-Makes}
use denote.Builtin.{u8, usize, RefOf}
use denote.Exit.{yes}
use denote.Laws.{shows}
use denote.Memory.{cell_at, part_at, shared_of, hidden_shr}
use denote.Opens.{hide, shr_open, shr_Shut}
use denote.Param.{number, param, layouts, ArrayAt}
use denote.Plain.{uint_vals, uint_Tells, uint_Makes}
use denote.RattleType.{RattleType, owns}
use denote.RawPtr.{RawPtr, in_a_block}
use denote.RawPtr.Bytes.{bytes, bytes_apart, bytes_whole}
use denote.Ref.{mut_vals, mut_Tells, shr_vals, shr_Tells}
use denote.Signature.{plain, types_at}
use denote.Steps.{nothing, opens, closes, facts, owned, heard}
use denote.Triple.Walked.{Stays, walk_of, says, stay_ref, stay_dropped, Goes-ref, Goes-dropped, ends_at}
use Rattle.std.proofs.raw_atomic.Walks.{proved}
use Rattle.std.proofs.VecSteps.Shapes.{after}
use Rattle.raw_region.specs.Ownership.{bytes_lent}
use Rattle.raw_region.specs.contracts.memory.Memory.{the_row as R}
use Rattle.raw_region.specs.contracts.memory.Memory.copy_out as f
use Rattle.raw_region.proofs.Arrays.{array_of, array_ty, Fits, typed, array_out, array_in}
use Rattle.raw_region.proofs.Bytes.{all_of, around, run_long, run_out, run_back}
use Rattle.raw_region.proofs.Shared.{Bytes, array_copied, shown, pointer_in, pointer_out}
use Rattle.raw_region.proofs.memory.Memory.copy_out.Statement.{statement}
use Rattle.raw_region.proofs.memory.Memory.copy_out.Code as code

pub copy_out_spec : {M : Type 1} → statement M
copy_out_spec 𝓤 𝓛 𝓜 𝓡 wired n small =
    let args = layouts (a_number ∷ []) (number n, tt) in let A : RattleType = ArrayAt u8 (param 0 (number n)) in
    let En = f.ended (number n) in let fn = inst_fn args code.function in
    let self_ref = RefOf (0 ∷ []) tt (plain (λ _. R)) (λ _. tt) in
    let stayed : Stays En.signature.params En.kept = (stay_dropped self_ref yes, (stay_dropped (plain (λ _. usize)) yes, (stay_ref (1 ∷ []) tt (plain (λ _. A)), tt))) in
    let c = f.clauses (number n) 𝓛 𝓜.mem 𝓡.returns in let W = walk_of 𝓛 En stayed c in let 𝓣 = tables 𝓤 𝓛.H 𝓜 𝓡 𝓡.env in
    proved 𝓛 En stayed c 𝓜 𝓡
    (Goes-dropped 𝓛 3 self_ref yes (λ κs x w. refl), (Goes-dropped 𝓛 3 (plain (λ _. usize)) yes (λ κs x w. refl), (Goes-ref 𝓛 3 1 tt (plain (λ _. A)), tt)))
    (f.Key.name args) fn (code.unfolded 𝓤 𝓛.H 𝓜 𝓡 wired (number n, tt))
    (λ κs. (shr_vals, (uint_vals w64, (mut_vals, tt)))) (λ κs. (shr_Tells (named 0) κs.0 R, (uint_Tells w64, (mut_Tells (named 1) κs.1.0 A, tt)))) (λ κs qs bounds a g are.
    let κ = κs.0 in let b = a.0.ref_ptr.0 in let o = a.0.ref_ptr.1 in let h = a.0.now in let xs = h.bytes in let at = a.1.0 in
    let ib = a.1.1.0.ref_ptr.0 in let io = a.1.1.0.ref_ptr.1 in let old = a.1.1.0.now in let run = take n (drop_l at xs) in
    let y : W.Ghost = ((κs, qs, bounds, a, (shr_vals a.0, (uint_vals w64 at, (mut_vals a.1.1.0, tt)))), g) in
    qed 𝓛 (((‵ (flft κ qs.0) ⊛ ‵ (flft κs.1.0 qs.1.0) ⊛ ‵ (flft κs.1.1.0 qs.1.1.0) ⊛ ‵ ftrue) ⊛ ‵ (owns (types_at En.signature.params κs) a y.0.4))
    ∷ (raw (fact 𝓤 _) ⊛ raw (fact 𝓤 _) ⊛ raw (fact 𝓤 (at + n ≤ length xs))) ∷ []) ∵
    move ! (1 ∷ []) $ split3 ! $ drop ! $ drop ! $ heard ! (at + n ≤ length xs) (λ within. split ! $ split ! $ move ! (1 ∷ []) $ split3 ! $ move ! (4 ∷ []) $
    fsplit3 ! $ fsplit ! $ move ! (3 ∷ []) $ fsplit ! $ keep ! (3 ∷ 0 ∷ 8 ∷ 5 ∷ 6 ∷ []) $
    -- [a `&` to self; into; the tokens]
    enter ! _ _ _ _ _ $ alloc_all ! (λ l. pass_all ! refl ((tt, tt), ((tt, record { fits = are.1.0.1 }), ((tt, tt), tt))) $
    use1 𝓛 (‵ (hidden_shr RawPtr κ h.ptr b (o + 0)) ⊛ ‵ (bytes_lent h.ptr xs κ)) (shown 𝓛 κ h b o) $ split ! $ move ! (1 ∷ []) $
    in_a_block ! h.ptr (λ p. bytes_lent p xs κ) (fst∗ 𝓤 (never 𝓤) (sem 𝓛 (shared_of (Bytes xs) xs 0 0 κ))) (λ b' o' e. fsplit ! $ drop ! $ hide ! $
    -- [the bytes that a `&` shows; the pointer that a `&` shows; into; the tokens]
    move ! (1 ∷ 3 ∷ []) $ first ! $ blocks ! $ pointer_in ! tt h.ptr b' o' e b (o + 0) (λ _.
    sets ! (of_opd ! (load ! (through ! refl (fld ! refl (stop !))) (look ! 0 refl))) refl (tt, tt) $
    pointer_out ! tt h.ptr b' o' e b (o + 0) $ move ! (1 ∷ 0 ∷ []) $
    shr_open ! tt (λ s. part_at (Bytes xs) s xs b' o') (shared_of (Bytes xs) xs b' o') ((array_copied 𝓛 (length xs)).opens xs b' o').0 (λ s. move ! (1 ∷ []) $
    use1 𝓛 (‵ (bytes s run b' (at + o')) ⊛ ‵ (around s xs b' o' at n)) (run_out s xs b' o' at n 𝓛 within) $ split ! $
    feq_i ! ℕ (length run) n (run_long s xs b' o' at n 𝓛 within) $ fjoin ! $
    use1 𝓛 (‵ (part_at (Array u8 n) s run b' (at + o'))) (bytes_whole 𝓛 s n run b' (at + o')) $
    use1 𝓛 (given (Fits n run) (‵ (fat s (array_ty n) b' (at + o') (array_of run)))) (array_out 𝓛 n run s b' (at + o')) $ learn ! (λ fits. let good = typed 𝓛 n run fits in
    -- [the run; the other bytes; the way back; into; the other tokens]
    sets ! (bin ! (get ! refl) (get ! refl) tt) refl (tt, tt) $ sets ! (of_opd ! (get ! refl)) refl (tt, tt) $
    sets ! (of_opd ! (load ! (through ! refl (stop !)) (look ! 0 refl))) refl good $
    use1 𝓛 (‵ (part_at (Array u8 n) s run b' (at + o'))) (array_in 𝓛 n run s b' (at + o') fits) $
    use1 𝓛 (‵ (fsep (feq ℕ (length run) n) (bytes s run b' (at + o')))) (bytes_apart 𝓛 s n run b' (at + o')) $ fsplit ! $ drop ! $
    use2 𝓛 (‵ (all_of s b' o' xs)) (run_back s xs b' o' at n 𝓛 within) $ move ! (1 ∷ 0 ∷ []) $ shr_Shut ! tt $
    -- [self's token; into; the other tokens]
    move ! (1 ∷ 2 ∷ []) $ fsplit3 ! $ move ! (1 ∷ 2 ∷ 3 ∷ []) $ opens ! tt A ib io (λ us.
    move ! (1 ∷ []) $ facts ! (Array u8 n) _ (shows 𝓛 (Array u8 n)) old us (λ is.
    rewrite ! 0 (λ (ws : List Val). ‵ (cell_at full_share (Array u8 n).mir ws ib io)) (Array-Tells u8 (uint_vals w8) (uint_Tells w8) n old us is) refl $
    assigns_last ! (of_opd ! (get ! refl)) (through ! refl (stop !)) (store ! 0 refl good) $
    exec ! 𝓣.C 𝓣.Λ (env fn.locals l) (after 1 fn.body) (at_ret _ (W.post y)) $
    sets ! (of_opd ! (unit_lit !)) refl (tt, tt) $
    owned ! (Array u8 n) _ (Array-Makes 𝓛 u8 (uint_Makes 𝓛 w8) n) run (array_of run ∷ []) fits $ move ! (1 ∷ 0 ∷ []) $ closes ! tt A run (array_of run ∷ []) ib io $
    -- [two parts of into; its token; into's first part; the other tokens]
    returns ! (look_at ! 0 refl) $ free_all ! refl $ move ! (3 ∷ []) $
    suffices ! _ (ends_at 𝓛 En stayed c y vunit tt (tt, (tt, (run, tt))) (tt, (tt, (tt, tt)))) $ says ! refl $
    group ! 3 $ nothing ! $ move ! (1 ∷ 0 ∷ []) $ join ! $ nothing ! $ join ! $ nothing ! $ join ! $
    nothing ! $ move ! (4 ∷ 0 ∷ []) $ join ! $ move ! (2 ∷ 0 ∷ []) $ join ! $ move ! (2 ∷ 0 ∷ []) $ join ! $ frame ! $ frame ! $
    feq_i ! _ (vunit ∷ []) _ refl $ done !)))))))))
