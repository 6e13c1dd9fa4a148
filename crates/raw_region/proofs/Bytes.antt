-- A run of bytes is taken out of the block and put back, at any share. Assumes `Logic`.
use mathlib.Core.Path.{◌≡◌, refl, sym, ap, ◌∙◌}
use Prim.Native.Nat.{ℕ, suc, ◌+◌, ◌<◌, ◌≤◌}
use native.Mathlib.Omega.{arith}
use mathlib.Core.List.{List, [], ◌∷◌, ◌++◌}
use lib.ListN.{length, take, drop as drop_l, set, get_or, take-append-drop, length-drop}
use lib.Seq.{length-take-le, drop-cons, drop-drop, set_split}
use seplogic.Ra.Ura.{Ura}
use mir.Syntax.{w8, ty_int}
use mir.Val.{vint}
use base.Logic.{ent, sep}
use base.Fml.{Share, Fml, feq, fsep, fat}
use types.Logic.{Logic, sem}
use types.Kit.{‵, ◌⊛◌, ◌$◌, ◌∵◌, !, qed, by, move, drop, use1, use2, split, rewrite, fsplit, fjoin, feq_i, done}
use denote.Array.{Array}
use denote.Builtin.{u8}
use denote.Memory.{part_at}
use denote.Plain.{uint_in, uint_out}
use denote.RawPtr.Bytes.{bytes, bytes_cut, bytes_glue, bytes_apart, bytes_whole}
use denote.Steps.{nothing}

-- the bytes xs, as one array
abbrev pub all_of : Share → ℕ → ℕ → List ℕ → Fml
all_of q b o xs = part_at (Array u8 (length xs)) q xs b o

module _ (q : Share) (xs : List ℕ) (b o at n : ℕ) where
  -- the bytes but for the n from `at` on
  abbrev pub around : Fml
  around = fsep (bytes q (take at xs) b o) (bytes q (drop_l (at + n) xs) b (n + (at + o)))

  abbrev pub written : List ℕ → List ℕ
  written ys = take at xs ++ (ys ++ drop_l (at + n) xs)

  whole_is : xs ≡ written (take n (drop_l at xs))
  whole_is = sym (take-append-drop at xs)
      ∙ ap (λ l. take at xs ++ l) (sym (take-append-drop n (drop_l at xs)) ∙ ap (λ l. take n (drop_l at xs) ++ l) (drop-drop n at xs))

  module _ {M : Type 1} {𝓤 : Ura M} (𝓛 : Logic 𝓤) (within : at + n ≤ length xs) where
    before : length (take at xs) ≡ at
    before = length-take-le at xs (omega arith)

    pub run_long : length (take n (drop_l at xs)) ≡ n
    run_long = length-take-le n (drop_l at xs) (omega (arith, length-drop at xs))

    pub run_out : ent 𝓤 (sem 𝓛 (all_of q b o xs)) (sep 𝓤 (sem 𝓛 (bytes q (take n (drop_l at xs)) b (at + o))) (sem 𝓛 around))
    run_out =
        let run = take n (drop_l at xs) in
        let rest = drop_l (at + n) xs in
        let from : o + length (take at xs) ≡ at + o = omega (arith, before) in
        let past : at + o + length run ≡ n + (at + o) = omega (arith, run_long) in
        qed 𝓛 (‵ (all_of q b o xs) ∷ []) ∵
        use1 𝓛 (‵ (fsep (feq ℕ (length xs) (length xs)) (bytes q xs b o))) (bytes_apart 𝓛 q (length xs) xs b o) $ fsplit ! $ drop ! $
        rewrite ! 0 (λ (l : List ℕ). ‵ (bytes q l b o)) whole_is refl $
        use1 𝓛 (‵ (bytes q (take at xs) b o) ⊛ ‵ (bytes q (run ++ rest) b (o + length (take at xs)))) (bytes_cut 𝓛 q (take at xs) (run ++ rest) b o) $
        split ! $ move ! (1 ∷ []) $ rewrite ! 0 (λ (k : ℕ). ‵ (bytes q (run ++ rest) b k)) from refl $
        use1 𝓛 (‵ (bytes q run b (at + o)) ⊛ ‵ (bytes q rest b (at + o + length run))) (bytes_cut 𝓛 q run rest b (at + o)) $ split ! $
        move ! (1 ∷ []) $ rewrite ! 0 (λ (k : ℕ). ‵ (bytes q rest b k)) past refl $ move ! (2 ∷ 0 ∷ []) $ fjoin ! $ move ! (1 ∷ 0 ∷ []) $ done !

    pub run_in : (ys : List ℕ) → length ys ≡ n → ent 𝓤 (sep 𝓤 (sem 𝓛 (bytes q ys b (at + o))) (sem 𝓛 around)) (sem 𝓛 (all_of q b o (written ys)))
    run_in ys long =
        let rest = drop_l (at + n) xs in
        let from : at + o ≡ o + length (take at xs) = omega (arith, before) in
        let past : n + (at + o) ≡ at + o + length ys = omega (arith, long) in
        qed 𝓛 (‵ (bytes q ys b (at + o)) ∷ ‵ around ∷ []) ∵ move ! (1 ∷ []) $ fsplit ! $ move ! (2 ∷ 1 ∷ []) $
        rewrite ! 1 (λ (k : ℕ). ‵ (bytes q rest b k)) past refl $
        use2 𝓛 (‵ (bytes q (ys ++ rest) b (at + o))) (bytes_glue 𝓛 q ys rest b (at + o)) $
        rewrite ! 0 (λ (k : ℕ). ‵ (bytes q (ys ++ rest) b k)) from refl $ move ! (1 ∷ 0 ∷ []) $
        use2 𝓛 (‵ (bytes q (written ys) b o)) (bytes_glue 𝓛 q (take at xs) (ys ++ rest) b o) $
        feq_i ! ℕ (length (written ys)) (length (written ys)) refl $ fjoin ! $ by ! (bytes_whole 𝓛 q (length (written ys)) (written ys) b o)

    pub run_back : ent 𝓤 (sep 𝓤 (sem 𝓛 (bytes q (take n (drop_l at xs)) b (at + o))) (sem 𝓛 around)) (sem 𝓛 (all_of q b o xs))
    run_back =
        let run = take n (drop_l at xs) in
        qed 𝓛 (‵ (bytes q run b (at + o)) ∷ ‵ around ∷ []) ∵ use2 𝓛 (‵ (all_of q b o (written run))) (run_in run run_long) $
        rewrite ! 0 (λ (l : List ℕ). ‵ (all_of q b o l)) (sym whole_is) refl $ done !

module _ (q : Share) (xs : List ℕ) (b o at : ℕ) {M : Type 1} {𝓤 : Ura M} (𝓛 : Logic 𝓤) (within : at < length xs) where
  alone : take 1 (drop_l at xs) ≡ get_or xs at 0 ∷ []
  alone = ap (take 1) (drop-cons xs at 0 within)

  set_is : (x : ℕ) → written q xs b o at 1 (x ∷ []) ≡ set xs at x
  set_is x = let next : at + 1 ≡ suc at = omega arith in ap (λ k. take at xs ++ x ∷ drop_l k xs) next ∙ sym (set_split xs at x within)

  pub byte_out : ent 𝓤 (sem 𝓛 (all_of q b o xs)) (sep 𝓤 (sem 𝓛 (fat q (ty_int w8) b (at + o) (vint w8 (get_or xs at 0)))) (sem 𝓛 (around q xs b o at 1)))
  byte_out =
      let x = get_or xs at 0 in
      qed 𝓛 (‵ (all_of q b o xs) ∷ []) ∵
      use1 𝓛 (‵ (bytes q (take 1 (drop_l at xs)) b (at + o)) ⊛ ‵ (around q xs b o at 1)) (run_out q xs b o at 1 𝓛 (omega arith)) $ split ! $
      rewrite ! 0 (λ (l : List ℕ). ‵ (bytes q l b (at + o))) alone refl $ fsplit ! $
      use1 𝓛 (‵ (fat q (ty_int w8) b (at + o) (vint w8 x))) (uint_out 𝓛 q w8 x b (at + o)) $ move ! (1 ∷ []) $ drop ! $ done !

  pub byte_in : (x : ℕ) → ent 𝓤 (sep 𝓤 (sem 𝓛 (fat q (ty_int w8) b (at + o) (vint w8 x))) (sem 𝓛 (around q xs b o at 1))) (sem 𝓛 (all_of q b o (set xs at x)))
  byte_in x =
      qed 𝓛 (‵ (fat q (ty_int w8) b (at + o) (vint w8 x)) ∷ ‵ (around q xs b o at 1) ∷ []) ∵
      use1 𝓛 (‵ (part_at u8 q x b (at + o))) (uint_in 𝓛 q w8 x b (at + o)) $ nothing ! $ move ! (1 ∷ 0 ∷ []) $ fjoin ! $
      use2 𝓛 (‵ (all_of q b o (written q xs b o at 1 (x ∷ [])))) (run_in q xs b o at 1 𝓛 (omega arith) (x ∷ []) refl) $
      rewrite ! 0 (λ (l : List ℕ). ‵ (all_of q b o l)) (set_is x) refl $ done !

  pub byte_back : ent 𝓤 (sep 𝓤 (sem 𝓛 (fat q (ty_int w8) b (at + o) (vint w8 (get_or xs at 0)))) (sem 𝓛 (around q xs b o at 1))) (sem 𝓛 (all_of q b o xs))
  byte_back =
      let x = get_or xs at 0 in
      qed 𝓛 (‵ (fat q (ty_int w8) b (at + o) (vint w8 x)) ∷ ‵ (around q xs b o at 1) ∷ []) ∵
      use1 𝓛 (‵ (part_at u8 q x b (at + o))) (uint_in 𝓛 q w8 x b (at + o)) $ nothing ! $ move ! (1 ∷ 0 ∷ []) $ fjoin ! $
      rewrite ! 0 (λ (l : List ℕ). ‵ (bytes q l b (at + o))) (sym alone) refl $ by ! (run_back q xs b o at 1 𝓛 (omega arith))
