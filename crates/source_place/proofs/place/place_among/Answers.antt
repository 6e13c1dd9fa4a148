use Rattle.std.proofs.Common.{◌≡◌, ◌==◌, length, true, false, eq-eqb, ne_eqb, ltb, ltb-false, sym, ap, ◌∙◌, refl, arith}
use Rattle.std.specs.Prelude.{is_some}
use Rattle.source_place.proofs.TokenPlaces.{get-past, token-inside}
use Rattle.source_place.proofs.place.place_among.Goals as goal

pub returns-in-Some-clause-within : goal.returns-in-Some-clause-within
returns-in-Some-clause-within c =
    let found = c.in-Some.ensures.lookup in
    let inside = token-inside c.args.text.now c.args.tokens.now c.args.number c.in-Some.token.now c.requires found.3.0 found.1 in
    omega (arith, inside)

pub returns-in-None-clause-value : goal.returns-in-None-clause-value
returns-in-None-clause-value c =
    let none = get-past c.args.tokens.now c.args.number (omega arith) in
    let last : (c.args.number == length c.args.tokens.now) ≡ true = eq-eqb _ _ c.if-number-last.true in
    rw (none, last) refl

pub returns-in-None-2-clause-value : goal.returns-in-None-2-clause-value
returns-in-None-2-clause-value c =
    let above : ltb c.args.number (length c.args.tokens.now) ≡ false = sym c.get.ensures.lookup.0 ∙ ap is_some c.in-None-2.is in
    let none = get-past c.args.tokens.now c.args.number (ltb-false _ _ above) in
    let other : (c.args.number == length c.args.tokens.now) ≡ false = ne_eqb _ _ c.if-number-last.false in
    rw (none, other) refl
