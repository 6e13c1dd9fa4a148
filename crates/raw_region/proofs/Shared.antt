-- What a `&` to a `Memory` holds: a `&` to its pointer, and to the bytes. Assumes `Logic`.
use mathlib.Core.Path.{◌≡◌, refl, sym, ap, ◌∙◌}
use Prim.Native.Nat.{ℕ, ◌+◌}
use mathlib.Core.List.{List, [], ◌∷◌}
use lib.ListN.{length}
use seplogic.Ra.Ura.{Ura}
use mir.Syntax.{w8, ty_ptr}
use mir.Val.{Val, vptr}
use base.Logic.{ent, sep}
use base.Fml.{Lft, Share, fat, flft}
use types.Logic.{Logic, sem}
use types.Kit.{Goal, Item, Seq, Soaks, Step, step, ‵, ◌$◌, ◌∵◌, !, qed, move, keep, drop, rewrite, fsplit, feq_i, feq_l, done}
use denote.Array.{Array}
use denote.Builtin.{u8}
use denote.Copied.{Copied, uint_Copied, Array-Copied, plain_Copied}
use denote.Memory.{cell_at, part_at, hidden_shr}
use denote.Opens.{Shut, hide, unhide}
use denote.RattleType.{RattleType}
use denote.RawPtr.{Ptr, RawPtr, block_ptr, coded_ptr, ptr_own, rawptr_pure, ptr_val}
use denote.Steps.{looks, shuts}
use denote.Struct.Laws.{RawPtr-laws}
use Rattle.raw_region.specs.Ownership.{bytes_lent}
use Rattle.raw_region.specs.contracts.memory.Memory.{the_row as R}

-- the bytes xs, as one array
abbrev pub Bytes : List ℕ → RattleType
Bytes xs = Array u8 (length xs)

module _ {M : Type 1} {𝓤 : Ura M} (𝓛 : Logic 𝓤) where
  pub array_copied : (n : ℕ) → Copied 𝓛 (Array u8 n)
  array_copied n = Array-Copied 𝓛 u8 (uint_Copied 𝓛 w8) tt n

  pub shown : (κ : Lft) (h : R.Denot) (b o : ℕ) → ent 𝓤 (sem 𝓛 (hidden_shr R κ h b o)) (sep 𝓤 (sem 𝓛 (hidden_shr RawPtr κ h.ptr b (o + 0))) (sem 𝓛 (bytes_lent h.ptr h.bytes κ)))
  shown κ h b o = qed 𝓛 (‵ (hidden_shr R κ h b o) ∷ []) ∵ unhide ! $ fsplit ! $ fsplit ! $ fsplit ! $ hide ! $ keep ! (0 ∷ 3 ∷ []) $ done !

module _ {M : Type 1} {𝓤 : Ura M} {𝓛 : Logic 𝓤} {K : Type 0} {Γ : List (Item 𝓤)} {G : Goal 𝓤 𝓛.H} where
  -- what a `&` to a pointer shows is looked at: [the pointer; the way back]
  pub pointer_in : K → Soaks G → {κ : Lft} {q : Share} (p : Ptr) (pb po : ℕ) → p ≡ block_ptr pb po → (b at : ℕ)
      → ((q' : Share) → Seq K 𝓛 (‵ (fat q' ty_ptr b at (vptr pb po)) ∷ Shut 𝓛 κ q (part_at RawPtr q' p b at) ∷ Γ) G) → Seq K 𝓛 (‵ (hidden_shr RawPtr κ p b at) ∷ ‵ (flft κ q) ∷ Γ) G
  pointer_in t z p pb po is b at k =
      looks t z RawPtr (plain_Copied 𝓛 Ptr coded_ptr (ty_ptr ∷ []) ptr_own rawptr_pure ptr_val RawPtr-laws.tells).opens p b at (λ q' vs. move t (1 ∷ []) $ feq_l t (λ e.
      rewrite t 0 (λ (us : List Val). ‵ (cell_at q' RawPtr.mir us b at)) (e ∙ ap (λ (r : Ptr). ptr_val r ∷ []) is) refl $ move t (2 ∷ []) $ drop t $ k q'))

  pub pointer_out : K → Soaks G → {κ : Lft} {q q' : Share} (p : Ptr) (pb po : ℕ) → p ≡ block_ptr pb po → (b at : ℕ)
      → Step K 𝓛 (‵ (flft κ q) ∷ Γ) G (‵ (fat q' ty_ptr b at (vptr pb po)) ∷ Shut 𝓛 κ q (part_at RawPtr q' p b at) ∷ Γ) G
  pointer_out t z {q' = q'} p pb po is b at = step (λ s.
      feq_i t (List Val) (vptr pb po ∷ []) (ptr_val p ∷ []) (ap (λ (r : Ptr). ptr_val r ∷ []) (sym is)) $ move t (1 ∷ 0 ∷ []) $ shuts t z RawPtr q' p (vptr pb po ∷ []) b at $ s)
