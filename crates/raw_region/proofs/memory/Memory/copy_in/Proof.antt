-- `copy_in` writes an array through the pointer. Assumes `Logic`.
use mathlib.Core.Path.{refl, sym, ap, ◌∙◌}
use Prim.Native.Nat.{ℕ, ◌+◌, ◌≤◌}
use mathlib.Core.List.{List, [], ◌∷◌}
use Rattle.std.proofs.Common.{append_assoc}
use lib.ListN.{length, take, drop as drop_l}
use base.Fraction.{full_share}
use base.Logic.{never, id⊢}
use base.Fml.{ftrue, fsep, feq, fat, froom, flft}
use mir.Syntax.{w64, named, a_number}
use mir.MapTy.{inst_fn}
use mir.Val.{Val, vunit}
use contract.Monad.{fact}
use contract.Running.{tables}
use types.Kit.{‵, raw, ◌⊛◌, given, at_ret, ◌$◌, ◌∵◌, !, qed, move, keep, drop, use1, use2, split, split3, join, learn, fsplit, fsplit3, fjoin, feq_i, feq_l, rewrite, suffices, frame, group, done}
use types.Part.{whole, sub, look_in}
use types.Run.{enter, of_opd, unit_lit, bin, load, look, init, stop, fld, assigns_last, first, blocks, exec, returns}
use types.ByLocal.{alloc_all, pass_all, free_all, look_at, get, through, sets, env}
use denote.Array.{Array}
use denote.Builtin.{u8, usize, RefOf}
use denote.Exit.{yes}
use denote.Laws.{shows}
use denote.Memory.{cell_at, part_at, shared_of}
use denote.Opens.{shr_open, shr_Shut}
use denote.Param.{number, param, layouts, ArrayAt}
use denote.Plain.{uint_vals, uint_Tells}
use denote.RattleType.{RattleType, owns}
use denote.RawPtr.{Ptr, in_a_block}
use denote.RawPtr.Bytes.{bytes, bytes-room, bytes_apart}
use denote.Ref.{mut_vals, mut_Tells, shr_vals, shr_Tells}
use denote.Signature.{plain, types_at}
use denote.Steps.{nothing, opens, closes, peeks, heard}
use denote.Triple.Walked.{Stays, walk_of, says, stay_ref, stay_dropped, Goes-ref, Goes-dropped, ends_at}
use Rattle.std.proofs.raw_atomic.Walks.{proved}
use Rattle.std.proofs.VecSteps.Shapes.{after}
use Rattle.raw_region.specs.Ownership.{bytes_owned}
use Rattle.raw_region.specs.contracts.memory.Memory.{the_row as R}
use Rattle.raw_region.specs.contracts.memory.Memory.copy_in as f
use Rattle.raw_region.proofs.Arrays.{array_of, array_ty, Fits, typed, array_out, array_in}
use Rattle.raw_region.proofs.Bytes.{all_of, around, written, run_long, run_out, run_in}
use Rattle.raw_region.proofs.Shared.{array_copied}
use Rattle.raw_region.proofs.memory.Memory.TheLaws.{lowers}
use Rattle.raw_region.proofs.memory.Memory.copy_in.Statement.{statement}
use Rattle.raw_region.proofs.memory.Memory.copy_in.Code as code

pub copy_in_spec : {M : Type 1} → statement M
copy_in_spec 𝓤 𝓛 𝓜 𝓡 wired n small =
    let args = layouts (a_number ∷ []) (number n, tt) in let A : RattleType = ArrayAt u8 (param 0 (number n)) in
    let En = f.ended (number n) in let fn = inst_fn args code.function in
    let from_ref = RefOf (1 ∷ []) tt (plain (λ _. A)) (λ _. tt) in
    let stayed : Stays En.signature.params En.kept = (stay_ref (0 ∷ []) tt (plain (λ _. R)), (stay_dropped (plain (λ _. usize)) yes, (stay_dropped from_ref yes, tt))) in
    let c = f.clauses (number n) 𝓛 𝓜.mem 𝓡.returns in let W = walk_of 𝓛 En stayed c in let 𝓣 = tables 𝓤 𝓛.H 𝓜 𝓡 𝓡.env in
    proved 𝓛 En stayed c 𝓜 𝓡
    (Goes-ref 𝓛 3 0 tt (plain (λ _. R)), (Goes-dropped 𝓛 3 (plain (λ _. usize)) yes (λ κs x w. refl), (Goes-dropped 𝓛 3 from_ref yes (λ κs x w. refl), tt)))
    (f.Key.name args) fn (code.unfolded 𝓤 𝓛.H 𝓜 𝓡 wired (number n, tt))
    (λ κs. (mut_vals, (uint_vals w64, (shr_vals, tt)))) (λ κs. (mut_Tells (named 0) κs.0 R, (uint_Tells w64, (shr_Tells (named 1) κs.1.0 A, tt)))) (λ κs qs bounds a g are.
    let b = a.0.ref_ptr.0 in let o = a.0.ref_ptr.1 in let h = a.0.now in let xs = h.bytes in let at = a.1.0 in
    let sb = a.1.1.0.ref_ptr.0 in let so = a.1.1.0.ref_ptr.1 in let ys = a.1.1.0.now in
    let y : W.Ghost = ((κs, qs, bounds, a, (mut_vals a.0, (uint_vals w64 at, (shr_vals a.1.1.0, tt)))), g) in
    let zs = written full_share xs b o at n ys in let new = record h { bytes = zs } in
    qed 𝓛 (((‵ (flft κs.0 qs.0) ⊛ ‵ (flft κs.1.0 qs.1.0) ⊛ ‵ (flft κs.1.1.0 qs.1.1.0) ⊛ ‵ ftrue) ⊛ ‵ (owns (types_at En.signature.params κs) a y.0.4))
    ∷ (raw (fact 𝓤 _) ⊛ raw (fact 𝓤 _) ⊛ raw (fact 𝓤 (at + n ≤ length xs))) ∷ []) ∵
    move ! (1 ∷ []) $ split3 ! $ drop ! $ drop ! $ heard ! (at + n ≤ length xs) (λ within. split ! $ split ! $ move ! (1 ∷ []) $ split3 ! $ move ! (4 ∷ []) $
    fsplit3 ! $ move ! (2 ∷ []) $ fsplit ! $ fsplit ! $ keep ! (3 ∷ 1 ∷ 8 ∷ 5 ∷ 6 ∷ []) $
    -- [self; a `&` to the array; the tokens]
    enter ! _ _ _ _ _ $ alloc_all ! (λ l. pass_all ! refl ((tt, tt), ((tt, record { fits = are.1.0.1 }), ((tt, tt), tt))) $
    move ! (1 ∷ 3 ∷ []) $ shr_open ! tt (λ s. part_at A s ys sb so) (shared_of A ys sb so) ((array_copied 𝓛 n).opens ys sb so).0 (λ s. move ! (1 ∷ []) $
    use1 𝓛 (given (Fits n ys) (‵ (fat s (array_ty n) sb so (array_of ys)))) (array_out 𝓛 n ys s sb so) $ learn ! (λ fits. let good = typed 𝓛 n ys fits in
    -- [the array; the way back; self; two tokens]
    first ! $ blocks ! $ sets ! (of_opd ! (load ! (through ! refl (stop !)) (look ! 0 refl))) refl good $
    use1 𝓛 (‵ (part_at (Array u8 n) s ys sb so)) (array_in 𝓛 n ys s sb so fits) $ move ! (1 ∷ 0 ∷ []) $ shr_Shut ! tt $
    move ! (1 ∷ 2 ∷ []) $ fsplit3 ! $ move ! (1 ∷ 2 ∷ 3 ∷ []) $ opens ! tt R b o (λ us.
    move ! (1 ∷ []) $ peeks ! R _ (shows 𝓛 R) h us (λ is. fsplit ! $ move ! (1 ∷ []) $
    in_a_block ! h.ptr (λ p. bytes_owned p xs) (id⊢ 𝓤 (never 𝓤)) (λ b' o' e. let run = take n (drop_l at xs) in
    use1 𝓛 (‵ (bytes full_share run b' (at + o')) ⊛ ‵ (around full_share xs b' o' at n)) (run_out full_share xs b' o' at n 𝓛 within) $ split ! $
    use1 𝓛 (‵ (froom (array_ty (length run)) b' (at + o'))) (bytes-room 𝓛 run b' (at + o')) $
    rewrite ! 0 (λ (k : ℕ). ‵ (froom (array_ty k) b' (at + o'))) (run_long full_share xs b' o' at n 𝓛 within) refl $
    let word = lowers.val_is h us is ∙ ap (λ (p : Ptr). lowers.lowered (record h { ptr = p }) ∷ []) e in
    let Cell = λ (ws : List Val). ‵ (cell_at full_share R.mir ws b o) in
    rewrite ! 3 Cell word refl $
    -- [the room; the other bytes; what the fields own; the struct's cell; the open borrow, in three entries]
    sets ! (of_opd ! (load ! (through ! refl (fld ! refl (stop !))) (look_in ! 3 (sub ! 0 refl (whole !))))) refl (tt, tt) $
    sets ! (bin ! (get ! refl) (get ! refl) tt) refl (tt, tt) $ sets ! (of_opd ! (get ! refl)) refl (tt, tt) $
    assigns_last ! (of_opd ! (get ! refl)) (through ! refl (stop !)) (init ! 0 refl good) $
    exec ! 𝓣.C 𝓣.Λ (env fn.locals l) (after 1 fn.body) (at_ret _ (W.post y)) $
    sets ! (of_opd ! (unit_lit !)) refl (tt, tt) $
    use1 𝓛 (‵ (part_at (Array u8 n) full_share ys b' (at + o'))) (array_in 𝓛 n ys full_share b' (at + o') fits) $
    use1 𝓛 (‵ (fsep (feq ℕ (length ys) n) (bytes full_share ys b' (at + o')))) (bytes_apart 𝓛 full_share n ys b' (at + o')) $ fsplit ! $ feq_l ! (λ long.
    use2 𝓛 (‵ (all_of full_share b' o' zs)) (run_in full_share xs b' o' at n 𝓛 within ys long) $
    rewrite ! 0 (λ (p : Ptr). ‵ (bytes_owned p zs)) (sym e) refl $ rewrite ! 2 Cell (sym word) refl $
    move ! (1 ∷ []) $ fjoin ! $ move ! (1 ∷ []) $ closes ! tt R new us b o $
    -- [two parts of self; its token; self's first part; the other tokens]
    returns ! (look_at ! 0 refl) $ free_all ! refl $ move ! (3 ∷ []) $
    suffices ! _ (ends_at 𝓛 En stayed c y vunit tt (new, (tt, (tt, tt))) (tt, (tt, (tt, tt)))) $ says ! (refl, sym (append_assoc (take at xs) ys (drop_l (at + n) xs))) $
    group ! 3 $ nothing ! $ nothing ! $ join ! $ nothing ! $ join ! $ move ! (1 ∷ 0 ∷ []) $ join ! $
    nothing ! $ move ! (4 ∷ 0 ∷ []) $ join ! $ move ! (3 ∷ 0 ∷ []) $ join ! $ move ! (2 ∷ 0 ∷ []) $ join ! $ frame ! $ frame ! $
    feq_i ! _ (vunit ∷ []) _ refl $ done !)))))))))
