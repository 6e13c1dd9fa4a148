-- `get` reads through the pointer. Assumes `Logic`.
use mathlib.Core.Path.{refl}
use Prim.Native.Nat.{◌+◌, ◌<◌}
use mathlib.Core.List.{[], ◌∷◌}
use lib.ListN.{length, get_or}
use base.Logic.{never, fst∗}
use base.Fml.{ftrue, fat, flft}
use mir.Syntax.{w8, w64, ty_int, named}
use mir.Val.{vint}
use types.Logic.{sem}
use contract.Monad.{fact}
use contract.Running.{tables}
use types.Kit.{‵, raw, ◌⊛◌, at_ret, ◌$◌, ◌∵◌, !, qed, move, keep, drop, use1, use2, split, join, fsplit, suffices, done}
use types.Run.{enter, of_opd, bin, load, look, stop, fld, first, blocks, exec, returns, well_typed}
use types.ByLocal.{alloc_all, pass_all, free_all, look_at, get, through, sets, sets_last, env}
use denote.Builtin.{u8, usize, RefOf}
use denote.Exit.{yes}
use denote.Memory.{part_at, shared_of, hidden_shr}
use denote.Opens.{hide, shr_open, shr_Shut}
use denote.Plain.{uint_vals, uint_Tells, uint_Makes}
use denote.RattleType.{owns}
use denote.RawPtr.{RawPtr, in_a_block}
use denote.Ref.{shr_vals, shr_Tells}
use denote.Signature.{plain, types_at}
use denote.Steps.{nothing, heard, owned}
use denote.Triple.Walked.{Stays, walk_of, says, stay_dropped, Goes-dropped, ends_at}
use Rattle.std.proofs.raw_atomic.Walks.{proved}
use Rattle.raw_region.specs.Ownership.{bytes_lent}
use Rattle.raw_region.specs.contracts.memory.Memory.{the_row as R}
use Rattle.raw_region.specs.contracts.memory.Memory.get as f
use Rattle.raw_region.proofs.Bytes.{all_of, around, byte_out, byte_back}
use Rattle.raw_region.proofs.Shared.{Bytes, array_copied, shown, pointer_in, pointer_out}
use Rattle.raw_region.proofs.memory.Memory.get.Statement.{statement}
use Rattle.raw_region.proofs.memory.Memory.get.Code as code

abbrev stayed : Stays f.ended.signature.params f.ended.kept
stayed = (stay_dropped (RefOf (0 ∷ []) tt (plain (λ _. R)) (λ _. tt)) yes, (stay_dropped (plain (λ _. usize)) yes, tt))

pub get_spec : {M : Type 1} → statement M
get_spec 𝓤 𝓛 𝓜 𝓡 wired =
    let c = f.clauses 𝓛 𝓜.mem 𝓡.returns in let W = walk_of 𝓛 f.ended stayed c in let 𝓣 = tables 𝓤 𝓛.H 𝓜 𝓡 𝓡.env in
    proved 𝓛 f.ended stayed c 𝓜 𝓡
    (Goes-dropped 𝓛 1 (RefOf (0 ∷ []) tt (plain (λ _. R)) (λ _. tt)) yes (λ κs x w. refl), (Goes-dropped 𝓛 1 (plain (λ _. usize)) yes (λ κs x w. refl), tt))
    f.Key.name code.function (code.unfolded 𝓤 𝓛.H 𝓜 𝓡 wired)
    (λ κs. (shr_vals, (uint_vals w64, tt))) (λ κs. (shr_Tells (named 0) κs.0 R, (uint_Tells w64, tt))) (λ κs qs bounds a g are.
    let κ = κs.0 in let q = qs.0 in let b = a.0.ref_ptr.0 in let o = a.0.ref_ptr.1 in let h = a.0.now in let xs = h.bytes in let at = a.1.0 in let x = get_or xs at 0 in
    let y : W.Ghost = ((κs, qs, bounds, a, (shr_vals a.0, (uint_vals w64 at, tt))), g) in
    qed 𝓛 (((‵ (flft κ q) ⊛ ‵ ftrue) ⊛ ‵ (owns (types_at f.signature.params κs) a y.0.4)) ∷ raw (fact 𝓤 (at < length xs)) ∷ []) ∵
    move ! (1 ∷ []) $ heard ! (at < length xs) (λ within. split ! $ split ! $ move ! (2 ∷ []) $ fsplit ! $ fsplit ! $ keep ! (1 ∷ 3 ∷ []) $
    enter ! _ _ _ _ _ $ alloc_all ! (λ l. pass_all ! refl ((tt, tt), ((tt, record { fits = are.1.0.1 }), tt)) $
    use1 𝓛 (‵ (hidden_shr RawPtr κ h.ptr b (o + 0)) ⊛ ‵ (bytes_lent h.ptr xs κ)) (shown 𝓛 κ h b o) $ split ! $ move ! (1 ∷ []) $
    in_a_block ! h.ptr (λ p. bytes_lent p xs κ) (fst∗ 𝓤 (never 𝓤) (sem 𝓛 (shared_of (Bytes xs) xs 0 0 κ))) (λ b' o' e. fsplit ! $ drop ! $ hide ! $
    -- [the bytes that a `&` shows; the pointer that a `&` shows; the token]
    move ! (1 ∷ 2 ∷ []) $ first ! $ blocks ! $ pointer_in ! tt h.ptr b' o' e b (o + 0) (λ _.
    sets ! (of_opd ! (load ! (through ! refl (fld ! refl (stop !))) (look ! 0 refl))) refl (tt, tt) $
    pointer_out ! tt h.ptr b' o' e b (o + 0) $ move ! (1 ∷ 0 ∷ []) $
    shr_open ! tt (λ s. part_at (Bytes xs) s xs b' o') (shared_of (Bytes xs) xs b' o') ((array_copied 𝓛 (length xs)).opens xs b' o').0 (λ s. move ! (1 ∷ []) $
    use1 𝓛 (‵ (fat s (ty_int w8) b' (at + o') (vint w8 x)) ⊛ ‵ (around s xs b' o' at 1)) (byte_out s xs b' o' at 𝓛 within) $ split ! $
    -- [the byte; the others; the way back]
    well_typed ! (λ good.
    sets ! (bin ! (get ! refl) (get ! refl) tt) refl (tt, tt) $
    sets_last ! (of_opd ! (load ! (through ! refl (stop !)) (look ! 0 refl))) refl good $
    exec ! 𝓣.C 𝓣.Λ (env code.Mir.locals l) code.Mir.t-2 (at_ret _ (W.post y)) $
    sets ! (of_opd ! (get ! refl)) refl good $
    use2 𝓛 (‵ (all_of s b' o' xs)) (byte_back s xs b' o' at 𝓛 within) $ move ! (1 ∷ 0 ∷ []) $ shr_Shut ! tt $
    returns ! (look_at ! 0 refl) $ free_all ! refl $
    suffices ! _ (ends_at 𝓛 f.ended stayed c y (vint w8 x) x (tt, (tt, tt)) (tt, (tt, tt))) $ says ! refl $
    owned ! u8 _ (uint_Makes 𝓛 w8) x _ (refl, good.1.fits) $ nothing ! $ nothing ! $ join ! $ nothing ! $ join ! $ nothing ! $ move ! (3 ∷ 0 ∷ []) $ join ! $ done !)))))))
