-- `free` gives the allocator its block and the right to free it. Assumes `Logic`.
use mathlib.Core.Path.{◌≡◌, refl, sym, subst, ◌∙◌}
use Prim.Native.Nat.{ℕ, ◌*◌}
use native.Mathlib.Omega.{arith}
use mathlib.Core.List.{List, [], ◌∷◌}
use lib.Dec.{T, lit<}
use lib.ListN.{length}
use base.Fraction.{full_share}
use base.Logic.{never, id⊢}
use base.Fml.{ftrue, fsep, feq, froom, flft}
use mir.Syntax.{w64, ty_unit, named, a_type, dcons, dnil}
use mir.MapTy.{inst_fn}
use mir.Val.{Val, vint, vptr, vunit, has_ty, WT}
use prog.Capped.{capped_is}
use prog.Wp.{WpFn}
use contract.BorrowLft.{◌⊑◌, ⊑_trans}
use contract.Monad.{fact}
use contract.Running.{tables}
use types.Kit.{‵, raw, ◌⊛◌, given, later, prop, at_ret, ◌$◌, ◌∵◌, !, qed, move, keep, drop, use1, split, join, group, learn, rewrite, regoal, fsplit, fsplit3, feq_i, suffices, await, done}
use types.Part.{whole, sub}
use types.Run.{stop, fld, lit, unit_lit, of_opd, no_more, and_then, first, blocks, exec, returns, enter}
use types.ByLocal.{alloc_all, pass_all, free_all, look_at, get, get_in, sets, lands_last, env}
use denote.Builtin.{usize, RefOf}
use denote.Exit.{yes, no}
use denote.Param.{param, bounded}
use denote.Plain.{uint_vals, uint_Tells}
use denote.RattleType.{RattleType, owns}
use denote.RawPtr.{Ptr, in_a_block}
use denote.RawPtr.Bytes.{bytes, bytes-room, bytes_apart}
use denote.Ref.{shr_vals, shr_Tells}
use denote.Signature.{plain, types_at}
use denote.Steps.{nothing, heard}
use denote.Triple.Call.{calls_at_last}
use denote.Triple.Table.{framed}
use denote.Triple.Walked.{Stays, walk_of, stay_dropped, Goes-dropped, ends_at}
use Rattle.std.proofs.alloc.Calls.{Al, Goes-blank, Gives, at_gives, Gives-goes, Gives-Gives}
use Rattle.std.proofs.alloc.Shapes.{after}
use Rattle.std.proofs.raw_atomic.Walks.{proved}
use Rattle.raw_region.specs.Ownership.{block_type, bytes_owned}
use Rattle.raw_region.specs.contracts.memory.Memory as memory
use Rattle.raw_region.specs.contracts.memory.Lease as lease
use Rattle.raw_region.specs.contracts.memory.Memory.free as f
use Rattle.raw_region.proofs.Values.{pointer_val, pointer_told, lease_val, lease_told}
use Rattle.raw_region.proofs.memory.Memory.free.Statement.{statement}
use Rattle.raw_region.proofs.memory.Memory.free.Code as code

pub free_spec : {M : Type 1} → statement M
free_spec 𝓤 𝓛 𝓜 𝓡 wired A L g d dd met md =
    let H = 𝓛.H in let args = bounded (a_type ∷ []) (A, tt) (dcons d (dcons dd dnil)) in let fn = inst_fn args code.function in
    let Z : RattleType = param 0 A in let Y : Al = record { row = A; laws = L; g = g; d = d; drops = dd } in let handle = RefOf (0 ∷ []) tt (plain (λ _. Z)) (λ _. tt) in
    let block = plain (λ _. memory.the_row) in let right = plain (λ _. lease.the_row Z g) in
    let En = f.ended A g d dd in let stayed : Stays En.signature.params En.kept = (stay_dropped block yes, (stay_dropped (plain (λ _. usize)) yes, (stay_dropped right no, (stay_dropped handle yes, tt)))) in
    let c = f.clauses A g d dd 𝓛 𝓜.mem 𝓡.returns in let W = walk_of 𝓛 En stayed c in let 𝓣 = tables 𝓤 H 𝓜 𝓡 𝓡.env in
    proved 𝓛 En stayed c 𝓜 𝓡
    (Goes-blank 𝓛 2 block yes (λ κs x w. tt), (Goes-dropped 𝓛 2 (plain (λ _. usize)) yes (λ κs x w. refl), (Goes-blank 𝓛 2 right no (λ κs x w. tt), (Goes-dropped 𝓛 2 handle yes (λ κs x w. refl), tt))))
    (f.Key.name args) fn (code.unfolded 𝓤 H 𝓜 𝓡 wired (A, tt) d dd)
    (λ κs. ((λ m. pointer_val m.ptr ∷ []), (uint_vals w64, ((λ k. lease_val ∷ []), (shr_vals, tt)))))
    (λ κs. ((λ m vs is. pointer_told m.ptr vs is.0), (uint_Tells w64, ((λ k vs is. lease_told vs is.0), (shr_Tells (named 0) κs.0 Z, tt))))) (λ κs qs bounds a gh are.
    let κ = κs.0 in let q = qs.0 in let m = a.0 in let xs = m.bytes in let n = a.1.0 in let k = a.1.1.0 in let at = a.1.1.1.0.ref_ptr in let h = a.1.1.1.0.now in let τ = block_type n in
    let y : W.Ghost = ((κs, qs, bounds, a, (pointer_val m.ptr ∷ [], (uint_vals w64 n, (lease_val ∷ [], (shr_vals a.1.1.1.0, tt))))), gh) in
    let Asked : Type 0 = (n ≡ length xs) × (k.ptr ≡ m.ptr) × (k.len ≡ n) × (k.alloc ≡ h) in
    qed 𝓛 (((‵ (flft κ q) ⊛ ‵ (flft κs.1.0 qs.1.0) ⊛ ‵ ftrue) ⊛ ‵ (owns (types_at En.signature.params κs) a y.0.4)) ∷ (raw (fact 𝓤 (κs.1.0 ⊑ A.lives)) ⊛ raw (fact 𝓤 Asked)) ∷ []) ∵
    move ! (1 ∷ []) $ split ! $ heard ! (κs.1.0 ⊑ A.lives) (λ le. heard ! Asked (λ asked. split ! $ split ! $ move ! (2 ∷ []) $ fsplit3 ! $ fsplit ! $ drop ! $
    in_a_block ! m.ptr (λ p. bytes_owned p xs) (id⊢ 𝓤 (never 𝓤)) (λ b o e.
    use1 𝓛 (‵ (fsep (feq ℕ (length xs) (length xs)) (bytes full_share xs b o))) (bytes_apart 𝓛 full_share (length xs) xs b o) $ fsplit ! $ drop ! $
    use1 𝓛 (‵ (froom (block_type (length xs)) b o)) (bytes-room 𝓛 xs b o) $ rewrite ! 0 (λ (i : ℕ). ‵ (froom (block_type i) b o)) (sym asked.0) refl $
    move ! (2 ∷ []) $ fsplit ! $ fsplit ! $ move ! (2 ∷ []) $ fsplit ! $ fsplit ! $ keep ! (5 ∷ 4 ∷ 1 ∷ 7 ∷ 8 ∷ []) $
    -- [the room; the right to free it; a `&` to the allocator; its token; the other tokens]
    rewrite ! 1 (λ (u : A.Denot × ℕ × Ptr). ‵ (g.dealloc_token u.0 (block_type u.1) u.2)) (λ i. (asked.3 i, asked.2 i, (asked.1 ∙ e) i)) refl $
    regoal ! (λ (p : Ptr). prop (WpFn 𝓤 H 𝓣.C 𝓣.Λ fn (pointer_val p ∷ vint w64 n ∷ lease_val ∷ vptr at.0 at.1 ∷ []) (W.post y))) e refl $
    enter ! _ _ _ _ _ $ alloc_all ! (λ l. pass_all ! refl ((tt, (tt, tt)), ((tt, record { fits = are.1.0.1 }), ((tt, (tt, tt)), ((tt, tt), tt)))) $
    let Ev = env fn.locals l in let given_back = at_gives Y 𝓛 𝓜.mem 𝓡.returns κ q at h b o n 1 τ in
    sets ! (of_opd ! (get_in ! (fld ! refl (stop !)) (sub ! 0 refl (whole !)))) refl (tt, tt) $ first ! $ blocks ! $
    group ! 4 $ use1 𝓛 (raw ((Gives Y 𝓛 𝓜.mem 𝓡.returns).pre given_back))
    (Gives-goes Y 𝓛 𝓜.mem 𝓡.returns κ q at h (⊑_trans κ κs.1.0 A.lives bounds.0 le) b o n 1 τ (capped_is (n * 1) (omega arith) ∙ omega arith) refl are.1.0.1 (lit< tt)) $
    calls_at_last ! (framed 𝓤 H 𝓜 𝓣) (Gives Y 𝓛 𝓜.mem 𝓡.returns) (met.deallocate dd) given_back (and_then ! (get ! refl) (and_then ! (get ! refl) (and_then ! (get ! refl) (and_then ! (lit ! tt) (no_more !))))) (λ v.
    use1 𝓛 (later (given (v ≡ vunit) (‵ (flft κ q)))) (Gives-Gives Y 𝓛 𝓜.mem 𝓡.returns κ q at h b o n 1 τ v) $ await ! tt $ learn ! (λ is_unit.
    lands_last ! refl (subst (λ (u : Val). T (has_ty ty_unit u) × WT u) (sym is_unit) (tt, tt)) $
    exec ! 𝓣.C 𝓣.Λ Ev (after 2 fn.body) (at_ret Ev (W.post y)) $ sets ! (of_opd ! (unit_lit !)) refl (tt, tt) $
    returns ! (look_at ! 0 refl) $ free_all ! refl $
    suffices ! _ (ends_at 𝓛 En stayed c y vunit tt (tt, (tt, (tt, (tt, tt)))) (tt, (tt, (tt, (tt, tt))))) $
    feq_i ! (List Val) (vunit ∷ []) (vunit ∷ []) refl $ nothing ! $ nothing ! $ join ! $ nothing ! $ join ! $ nothing ! $ join ! $ nothing ! $ join ! $
    move ! (2 ∷ 3 ∷ []) $ join ! $ nothing ! $ move ! (1 ∷ 2 ∷ 3 ∷ 0 ∷ []) $ group ! 3 $ done !)))))))
