-- A pair and a `Result` are made of their values. Assumes `Logic`.
use mathlib.Core.Path.{refl}
use mathlib.Core.List.{List, [], ◌∷◌}
use seplogic.Ra.Ura.{Ura}
use mir.Val.{Val, vstruct, vcons, vnil, of_list}
use base.Logic.{ent, sep}
use types.Kit.{‵, ◌$◌, ◌∵◌, !, qed, move, fjoin, fpack, feq_i, done}
use types.Logic.{Logic, sem}
use types.Match.{live}
use denote.Enum.Declared.{shape as variants}
use denote.Enum.Enum.{form_of, in_a_row}
use denote.Enum.Row.{tagged_with}
use denote.RattleType.{RattleType, Valss, owns}
use denote.Steps.{nothing}
use denote.Struct.Declared.{shape}
use denote.Struct.Struct.{within}
use denote.Struct.Tuple.{Tuple, tuple_type}
use Rattle.std.specs.Prelude.{Ok, Err}
use Rattle.std.specs.contracts.result.Result as result

abbrev pub pair_val : Val → Val → Val
pair_val u v = vstruct (vcons u (vcons v vnil))

module _ {M : Type 1} {𝓤 : Ura M} (𝓛 : Logic 𝓤) (R S : RattleType) where
  pub pair_of : (x : R.Denot) (y : S.Denot) (u v : Val)
      → ent 𝓤 (sep 𝓤 (sem 𝓛 (R.own_val x (u ∷ []))) (sem 𝓛 (S.own_val y (v ∷ [])))) (sem 𝓛 ((Tuple (R ∷ S ∷ [])).own_val (x, y) (pair_val u v ∷ [])))
  pair_of x y u v =
      qed 𝓛 (‵ (R.own_val x (u ∷ [])) ∷ ‵ (S.own_val y (v ∷ [])) ∷ []) ∵ nothing ! $ move ! (2 ∷ 0 ∷ []) $ fjoin ! $ move ! (1 ∷ 0 ∷ []) $ fjoin ! $
      feq_i ! (List Val) (pair_val u v ∷ []) (pair_val u v ∷ []) refl $ fjoin ! $
      fpack ! (Valss (R ∷ S ∷ [])) (within (shape (tuple_type (R ∷ S ∷ []))) (x, (y, tt)) (pair_val u v ∷ [])) (u ∷ [], (v ∷ [], tt)) $ done !

  pub ok_of : (x : R.Denot) (v : Val) → ent 𝓤 (sem 𝓛 (R.own_val x (v ∷ []))) (sem 𝓛 ((result.the_row R S).own_val (Ok x) (live 0 (of_list (v ∷ [])) ∷ [])))
  ok_of x v =
      let form = form_of (variants (result.the_type R S)) in let out : Val = live 0 (of_list (v ∷ [])) in
      qed 𝓛 (‵ (R.own_val x (v ∷ [])) ∷ []) ∵ nothing ! $ move ! (1 ∷ 0 ∷ []) $ fjoin ! $ feq_i ! (List Val) (v ∷ []) (v ∷ []) refl $ fjoin ! $
      fpack ! (Valss (R ∷ [])) (in_a_row (R ∷ []) (owns (R ∷ []) (x, tt)) (v ∷ [])) (v ∷ [], tt) $ feq_i ! (List Val) (out ∷ []) (out ∷ []) refl $ fjoin ! $
      fpack ! (List Val) (tagged_with form form.payload ((result.the_type R S).to (Ok x)) (out ∷ [])) (v ∷ []) $ done !

  pub err_of : (x : S.Denot) (v : Val) → ent 𝓤 (sem 𝓛 (S.own_val x (v ∷ []))) (sem 𝓛 ((result.the_row R S).own_val (Err x) (live 1 (of_list (v ∷ [])) ∷ [])))
  err_of x v =
      let form = form_of (variants (result.the_type R S)) in let out : Val = live 1 (of_list (v ∷ [])) in
      qed 𝓛 (‵ (S.own_val x (v ∷ [])) ∷ []) ∵ nothing ! $ move ! (1 ∷ 0 ∷ []) $ fjoin ! $ feq_i ! (List Val) (v ∷ []) (v ∷ []) refl $ fjoin ! $
      fpack ! (Valss (S ∷ [])) (in_a_row (S ∷ []) (owns (S ∷ []) (x, tt)) (v ∷ [])) (v ∷ [], tt) $ feq_i ! (List Val) (out ∷ []) (out ∷ []) refl $ fjoin ! $
      fpack ! (List Val) (tagged_with form form.payload ((result.the_type R S).to (Err x)) (out ∷ [])) (v ∷ []) $ done !
