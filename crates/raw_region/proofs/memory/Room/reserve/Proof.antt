-- `reserve` takes a block from the allocator, and keeps its room and the right to free it. Assumes `Logic`.
use mathlib.Core.Path.{refl, ◌∙◌}
use Prim.Native.Nat.{◌*◌}
use native.Mathlib.Omega.{arith}
use mathlib.Core.Bool.{true, false}
use mathlib.Core.List.{[], ◌∷◌}
use lib.Dec.{lit<}
use base.Logic.{id⊢}
use base.Fml.{ftrue, flft}
use mir.Syntax.{w64, named, a_type, dcons, dnil}
use mir.MapTy.{inst_fn}
use mir.Val.{Val, vstruct, vcons, vnil}
use prog.Capped.{capped_is}
use prog.Wp.{Wp, after_seq, at_return}
use contract.BorrowLft.{◌⊑◌, ⊑_trans}
use contract.Monad.{fact}
use contract.Running.{tables}
use types.Kit.{‵, raw, ◌⊛◌, later, any_q, at_ret, ◌$◌, ◌∵◌, !, qed, move, keep, drop, use0, use1, use2, split, join, fsplit, fjoin, suffices, await, done}
use types.Match.{live, vrt, in_variant}
use types.Part.{whole, agg}
use types.Run.{stop, fld, lit, of_opd, no_more, and_then, first, switches_on, exec, returns, enter}
use types.ByLocal.{alloc_all, pass_all, free_all, look_at, get, get_in, get_tag, sets, sets_last, lands_as, env}
use denote.Builtin.{usize, RefOf}
use denote.Exit.{yes}
use denote.Laws.{Is}
use denote.Param.{param, bounded}
use denote.Plain.{uint_vals, uint_Tells}
use denote.RattleType.{RattleType, owns}
use denote.RawPtr.{Ptr, block_ptr}
use denote.Ref.{shr_vals, shr_Tells}
use denote.Signature.{plain, types_at}
use denote.Steps.{nothing, heard, owned}
use denote.Struct.Declared as Declared
use denote.Struct.Struct.{Struct, Struct-Makes}
use denote.Struct.Tuple.{Tuple}
use denote.Triple.Call.{calls_at}
use denote.Triple.Table.{framed}
use denote.Triple.Walked.{Stays, walk_of, says, stay_dropped, Goes-dropped, ends_at}
use Rattle.std.specs.Prelude.{Ok, Err}
use Rattle.std.specs.contracts.alloc.AllocError as AE
use Rattle.std.specs.contracts.result.Result as result
use Rattle.std.proofs.alloc.Calls.{Al, seen, Answer-typed, Takes, at_takes, Answered, Takes-goes, Takes-gives, answers}
use Rattle.std.proofs.alloc.Shapes.{after, head, arm_body}
use Rattle.raw_region.proofs.Results.{pair_val, pair_of, ok_of, err_of}
use Rattle.std.proofs.raw_atomic.Walks.{proved}
use Rattle.raw_region.specs.Ownership.{block_type}
use Rattle.raw_region.specs.contracts.memory.Room as room
use Rattle.raw_region.specs.contracts.memory.Lease as lease
use Rattle.raw_region.specs.contracts.memory.Room.reserve as f
use Rattle.raw_region.proofs.Values.{pointer_val, pointer_own, pointer_made, lease_val, lease_own, lease_made}
use Rattle.raw_region.proofs.memory.Room.reserve.Statement.{statement}
use Rattle.raw_region.proofs.memory.Room.reserve.Code as code

pub reserve_spec : {M : Type 1} → statement M
reserve_spec 𝓤 𝓛 𝓜 𝓡 wired A L g d dd met md =
    let H = 𝓛.H in let args = bounded (a_type ∷ []) (A, tt) (dcons d (dcons dd dnil)) in let fn = inst_fn args code.function in
    let Z : RattleType = param 0 A in let Y : Al = record { row = A; laws = L; g = g; d = d; drops = dd } in let handle = RefOf (0 ∷ []) tt (plain (λ _. Z)) (λ _. tt) in
    let En = f.ended A g d dd in let stayed : Stays En.signature.params En.kept = (stay_dropped handle yes, (stay_dropped (plain (λ _. usize)) yes, tt)) in
    let c = f.clauses A g d dd 𝓛 𝓜.mem 𝓡.returns in let W = walk_of 𝓛 En stayed c in let 𝓣 = tables 𝓤 H 𝓜 𝓡 𝓡.env in
    let Both : RattleType = Tuple (room.the_row ∷ lease.the_row Z g ∷ []) in let Out : RattleType = result.the_row Both AE.the_row in
    proved 𝓛 En stayed c 𝓜 𝓡 (Goes-dropped 𝓛 2 handle yes (λ κs x w. refl), (Goes-dropped 𝓛 2 (plain (λ _. usize)) yes (λ κs x w. refl), tt))
    (f.Key.name args) fn (code.unfolded 𝓤 H 𝓜 𝓡 wired (A, tt) d dd)
    (λ κs. (shr_vals, (uint_vals w64, tt))) (λ κs. (shr_Tells (named 0) κs.0 Z, (uint_Tells w64, tt))) (λ κs qs bounds a gh are.
    let κ = κs.0 in let q = qs.0 in let at = a.0.ref_ptr in let h = a.0.now in let n = a.1.0 in let τ = block_type n in
    let y : W.Ghost = ((κs, qs, bounds, a, (shr_vals a.0, (uint_vals w64 n, tt))), gh) in
    let asked = at_takes Y 𝓛 𝓜.mem 𝓡.returns κ q at h n 1 τ in
    qed 𝓛 (((‵ (flft κ q) ⊛ ‵ (flft κs.1.0 qs.1.0) ⊛ ‵ ftrue) ⊛ ‵ (owns (types_at En.signature.params κs) a y.0.4)) ∷ (raw (fact 𝓤 (κs.1.0 ⊑ A.lives)) ⊛ ‵ ftrue) ∷ []) ∵
    move ! (1 ∷ []) $ split ! $ heard ! (κs.1.0 ⊑ A.lives) (λ le. drop ! $ split ! $ split ! $ move ! (2 ∷ []) $ fsplit ! $ fsplit ! $ keep ! (1 ∷ 3 ∷ 4 ∷ []) $
    -- [a `&` to the allocator; its token; the other tokens]
    use1 𝓛 (‵ (seen Y κ at h)) (id⊢ 𝓤 _) $
    enter ! _ _ _ _ _ $ alloc_all ! (λ l. pass_all ! refl ((tt, tt), ((tt, record { fits = are.1.0.1 }), tt)) $
    let Ev = env fn.locals l in let Then = any_q (after_seq 𝓤 H (Wp 𝓤 H 𝓣.C 𝓣.Λ Ev (after 2 fn.body) (at_return 𝓤 H Ev (W.post y))) (at_return 𝓤 H Ev (W.post y))) in
    use2 𝓛 (raw ((Takes Y 𝓛 𝓜.mem 𝓡.returns).pre asked)) (Takes-goes Y 𝓛 𝓜.mem 𝓡.returns κ q at h (⊑_trans κ κs.1.0 A.lives bounds.0 le) n 1 τ (capped_is (n * 1) (omega arith) ∙ omega arith) refl are.1.0.1 (lit< tt)) $
    calls_at ! (framed 𝓤 H 𝓜 𝓣) (Takes Y 𝓛 𝓜.mem 𝓡.returns) (met.allocate dd) asked (and_then ! (get ! refl) (and_then ! (get ! refl) (and_then ! (lit ! tt) (no_more !)))) (λ v.
    use1 𝓛 (later (raw (Answered Y 𝓛 𝓜.mem 𝓡.returns h τ v) ⊛ ‵ (flft κ q))) (Takes-gives Y 𝓛 𝓜.mem 𝓡.returns κ q at h n 1 τ v) $ await ! tt $ split ! $
    answers Y ! 𝓜.mem 𝓡.returns h τ v
    (λ b o e. let p : Ptr = block_ptr b o in let x : (room.the_row).Denot = record { ptr = p; len = n } in let k : (lease.the_row Z g).Denot = record { marker = record {}; alloc = h; ptr = p; len = n } in
    let pair : Val = pair_val (pointer_val p) lease_val in let out : Val = live 0 (vcons pair vnil) in
    -- [the room; the right to free it; the tokens]
    lands_as ! e refl (Answer-typed true b o) $ first ! $ switches_on ! (get_tag ! (vrt ! refl (fld ! refl (stop !))) (whole !)) $ exec ! 𝓣.C 𝓣.Λ Ev (arm_body 0 (head (after 1 fn.body))) Then $
    sets ! (of_opd ! (get_in ! (vrt ! refl (fld ! refl (stop !))) (in_variant ! 0 0 refl refl (whole !)))) refl (tt, tt) $ sets ! (agg ! (no_more !)) refl (tt, tt) $
    sets ! (agg ! (and_then ! (get ! refl) (no_more !))) refl (tt, (tt, tt)) $ sets ! (agg ! (and_then ! (get ! refl) (no_more !))) refl (tt, (tt, tt)) $
    sets ! (agg ! (and_then ! (get ! refl) (and_then ! (get ! refl) (no_more !)))) refl (tt, ((tt, tt), ((tt, tt), tt))) $
    sets_last ! (agg ! (and_then ! (lit ! tt) (and_then ! (get ! refl) (no_more !)))) refl (tt, (record { fits = lit< tt }, (((tt, tt), ((tt, tt), tt)), tt))) $
    exec ! 𝓣.C 𝓣.Λ Ev (after 2 fn.body) (at_ret Ev (W.post y)) $ sets ! (of_opd ! (get ! refl)) refl (tt, (record { fits = lit< tt }, (((tt, tt), ((tt, tt), tt)), tt))) $
    use0 𝓛 (‵ (pointer_own p (pointer_val p ∷ []))) (pointer_made 𝓛 p) $ fjoin ! $ move ! (1 ∷ []) $ use0 𝓛 (‵ (lease_own (lease_val ∷ []))) (lease_made 𝓛) $ fjoin ! $ move ! (1 ∷ 0 ∷ []) $
    use2 𝓛 (‵ (Both.own_val (x, k) (pair ∷ []))) (pair_of 𝓛 room.the_row (lease.the_row Z g) x k (pointer_val p) lease_val) $
    use1 𝓛 (‵ (Out.own_val (Ok (x, k)) (out ∷ []))) (ok_of 𝓛 Both AE.the_row (x, k) pair) $ returns ! (look_at ! 0 refl) $ free_all ! refl $
    suffices ! _ (ends_at 𝓛 En stayed c y out (Ok (x, k)) (tt, (tt, tt)) (tt, (tt, tt))) $ says ! (refl, refl, refl, refl) $
    nothing ! $ nothing ! $ join ! $ nothing ! $ join ! $ move ! (2 ∷ 3 ∷ []) $ join ! $ done !)
    (λ e. let none : Val = live 1 (vcons (vstruct vnil) vnil) in let Refusal : RattleType = Struct (Declared.shape AE.the_type) in
    lands_as ! e refl (Answer-typed false 0 0) $ first ! $ switches_on ! (get_tag ! (vrt ! refl (fld ! refl (stop !))) (whole !)) $ exec ! 𝓣.C 𝓣.Λ Ev (arm_body 1 (head (after 1 fn.body))) Then $
    sets ! (of_opd ! (get_in ! (vrt ! refl (fld ! refl (stop !))) (in_variant ! 1 0 refl refl (whole !)))) refl (tt, tt) $
    sets_last ! (agg ! (and_then ! (lit ! tt) (and_then ! (get ! refl) (no_more !)))) refl (tt, (record { fits = lit< tt }, (tt, tt))) $
    exec ! 𝓣.C 𝓣.Λ Ev (after 2 fn.body) (at_ret Ev (W.post y)) $ sets ! (of_opd ! (get ! refl)) refl (tt, (record { fits = lit< tt }, (tt, tt))) $
    owned ! Refusal (Is Refusal) (Struct-Makes 𝓛 (Declared.shape AE.the_type) tt) tt (vstruct vnil ∷ []) (tt, (refl, tt)) $
    use1 𝓛 (‵ (Out.own_val (Err (record {})) (none ∷ []))) (err_of 𝓛 Both AE.the_row (record {}) (vstruct vnil)) $ returns ! (look_at ! 0 refl) $ free_all ! refl $
    suffices ! _ (ends_at 𝓛 En stayed c y none (Err (record {})) (tt, (tt, tt)) (tt, (tt, tt))) $ says ! tt $
    nothing ! $ nothing ! $ join ! $ nothing ! $ join ! $ move ! (2 ∷ 3 ∷ []) $ join ! $ done !)))))
