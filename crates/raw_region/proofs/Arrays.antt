-- An array of bytes in memory is one machine value, which may be copied. Assumes `Logic`.
use mathlib.Core.List.{List, [], ◌∷◌, map}
use Prim.Native.Nat.{ℕ}
use lib.Dec.{T}
use seplogic.Ra.Ura.{Ura}
use mir.Syntax.{Ty, w8, ty_int, ty_array}
use mir.Val.{Val, vint, has_ty, WT}
use base.Logic.{ent, guard}
use base.Fml.{Share, fat}
use types.Logic.{Logic, sem}
use types.Kit.{‵, ◌⊛◌, ◌$◌, ◌∵◌, !, qed, by, move, use1, split, check, done}
use denote.Array.{Array, array_val, Array-Tells, Array-Lawful, Array-Makes}
use denote.Builtin.{u8}
use denote.Copied.{told_in, told_out}
use denote.Laws.{Is, shows}
use denote.Memory.{part_at}
use denote.Plain.{uint_vals, uint_Tells, uint_Lawful, uint_Makes}
use denote.Steps.{facts, owned}

-- the machine value of an array of bytes
abbrev pub array_of : List ℕ → Val
array_of xs = array_val (map (vint w8) xs)

abbrev pub array_ty : ℕ → Ty
array_ty n = ty_array (ty_int w8) n

-- the bytes fit, and there are n
abbrev pub Fits : ℕ → List ℕ → Type 0
Fits n xs = Is (Array u8 n) xs (array_of xs ∷ [])

module _ {M : Type 1} {𝓤 : Ura M} (𝓛 : Logic 𝓤) (n : ℕ) (xs : List ℕ) where
  open 𝓛 use {H}

  pub typed : Fits n xs → T (has_ty (array_ty n) (array_of xs)) × WT (array_of xs)
  typed fits = ((Array-Lawful 𝓛 u8 (uint_Lawful 𝓛 w8) n).typed xs (array_of xs ∷ []) fits).0

  module _ (q : Share) (b o : ℕ) where
    pub array_out : ent 𝓤 (sem 𝓛 (part_at (Array u8 n) q xs b o)) (guard 𝓤 (Fits n xs) (H.at q (array_ty n) b o (array_of xs)))
    array_out =
        qed 𝓛 (‵ (part_at (Array u8 n) q xs b o) ∷ []) ∵
        use1 𝓛 (‵ (fat q (array_ty n) b o (array_of xs)) ⊛ ‵ ((Array u8 n).own_val xs (array_of xs ∷ []))) (told_out 𝓛 (Array u8 n) _ (Array-Tells u8 (uint_vals w8) (uint_Tells w8) n) q xs b o) $
        split ! $ move ! (1 ∷ []) $ facts ! (Array u8 n) _ (shows 𝓛 (Array u8 n)) xs (array_of xs ∷ []) (λ fits. check ! fits $ done !)

    pub array_in : Fits n xs → ent 𝓤 (H.at q (array_ty n) b o (array_of xs)) (sem 𝓛 (part_at (Array u8 n) q xs b o))
    array_in fits =
        qed 𝓛 (‵ (fat q (array_ty n) b o (array_of xs)) ∷ []) ∵
        owned ! (Array u8 n) _ (Array-Makes 𝓛 u8 (uint_Makes 𝓛 w8) n) xs (array_of xs ∷ []) fits $ move ! (1 ∷ 0 ∷ []) $
        by ! (told_in 𝓛 (Array u8 n) _ (Array-Tells u8 (uint_vals w8) (uint_Tells w8) n) q xs b o (array_of xs ∷ []))
