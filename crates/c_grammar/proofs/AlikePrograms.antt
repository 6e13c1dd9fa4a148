-- Tokens alike to those of a program are a program that is the same without token numbers.
use Rattle.std.proofs.Common.{◌≡◌, refl, ap, ℕ, Bool, true, false, List, [], ◌∷◌, ◌++◌, Option, Some, None}
use Rattle.c_token.specs.declared.signs.Sign.TheVariants.{LeftParenthesis, RightParenthesis, LeftBrace, RightBrace, LeftBracket, RightBracket, Semicolon, Comma, Assign, Minus}
use Rattle.c_token.specs.declared.words.Word.TheVariants as w
use Rattle.c_grammar.specs.declared.item.Storage.{Storage}
use Rattle.c_grammar.specs.declared.item.Storage.TheVariants as storages
use Rattle.c_grammar.specs.declared.item.Kind3.{Kind3}
use Rattle.c_grammar.specs.declared.item.Kind3.TheVariants as results
use Rattle.c_grammar.specs.declared.item.Value.{Value}
use Rattle.c_grammar.specs.declared.item.Parameter.{Parameter}
use Rattle.c_grammar.specs.declared.item.Item.{Item}
use Rattle.c_grammar.specs.declared.item.Item.TheVariants as i
use Rattle.c_grammar.specs.declared.item.Program.{Program}
use Rattle.c_grammar.specs.BoundedTokens.{Bounded, name, number, word, sign}
use Rattle.c_grammar.specs.ProgramGrammar.{IsStorage, IsLength, IsValue, AreValues, AreInitial, IsResult, IsParameter, AreListed, AreParameters, IsPrivate, IsItem, AreItems, IsProgram}
use Rattle.c_grammar.specs.Bare.{bare_parameter, bare_item, bare}
use Rattle.c_grammar.proofs.BareParts.{Same, SameItem, SameList, none_left, one_more, function}
use Rattle.c_grammar.proofs.Alike.{AllAlike, at_token, at_end, at_parts}
use Rattle.c_grammar.proofs.AlikeStatements.{same_type, same_body}

same_storage : {ts : List Bounded} {class : Storage} → IsStorage ts class → (us : List Bounded) → AllAlike ts us → IsStorage us class
same_storage IsStorage.nothing us alike = at_end (λ us. IsStorage us storages.Verified) alike IsStorage.nothing
same_storage (IsStorage.verified at) us alike = at_token (λ us. IsStorage us storages.Verified) alike (λ t _ vs p. at_end (λ vs. IsStorage (word t w.Verified ∷ vs) storages.Verified) p (IsStorage.verified t))
same_storage (IsStorage.«private» at) us alike = at_token (λ us. IsStorage us storages.Private) alike (λ t _ vs p. at_end (λ vs. IsStorage (word t w.Private ∷ vs) storages.Private) p (IsStorage.«private» t))
same_storage (IsStorage.shared at) us alike = at_token (λ us. IsStorage us storages.Shared) alike (λ t _ vs p. at_end (λ vs. IsStorage (word t w.Shared ∷ vs) storages.Shared) p (IsStorage.shared t))
same_storage (IsStorage.logged at) us alike = at_token (λ us. IsStorage us storages.Logged) alike (λ t _ vs p. at_end (λ vs. IsStorage (word t w.Logged ∷ vs) storages.Logged) p (IsStorage.logged t))

same_length : {ts : List Bounded} {length : Option ℕ} → IsLength ts length → (us : List Bounded) → AllAlike ts us → IsLength us length
same_length IsLength.nothing us alike = at_end (λ us. IsLength us None) alike IsLength.nothing
same_length (IsLength.given length unsigned left at right) us alike =
    at_token (λ us. IsLength us (Some length)) alike (λ t _ vs p.
    at_token (λ vs. IsLength (sign t LeftBracket ∷ vs) (Some length)) p (λ u _ vs p.
    at_token (λ vs. IsLength (sign t LeftBracket ∷ number u length unsigned ∷ vs) (Some length)) p (λ c _ vs p.
    at_end (λ vs. IsLength (sign t LeftBracket ∷ number u length unsigned ∷ sign c RightBracket ∷ vs) (Some length)) p (IsLength.given length unsigned t u c))))

same_value : {ts : List Bounded} {x : Value} → IsValue ts x → (us : List Bounded) → AllAlike ts us → IsValue us x
same_value (IsValue.plain value unsigned at) us alike =
    let x : Value = record { negative = false; value = value; unsigned = unsigned } in
    at_token (λ us. IsValue us x) alike (λ t _ vs p. at_end (λ vs. IsValue (number t value unsigned ∷ vs) x) p (IsValue.plain value unsigned t))
same_value (IsValue.negative value unsigned minus at) us alike =
    let x : Value = record { negative = true; value = value; unsigned = unsigned } in
    at_token (λ us. IsValue us x) alike (λ t _ vs p.
    at_token (λ vs. IsValue (sign t Minus ∷ vs) x) p (λ u _ vs p.
    at_end (λ vs. IsValue (sign t Minus ∷ number u value unsigned ∷ vs) x) p (IsValue.negative value unsigned t u)))

same_values : {ts : List Bounded} {xs : List Value} → AreValues ts xs → (us : List Bounded) → AllAlike ts us → AreValues us xs
same_values (AreValues.one d) us alike = AreValues.one (same_value d us alike)
same_values (AreValues.further {ts = ts} {us = us} {x = x} {xs = xs} comma d d2) zs alike =
    at_parts (λ zs. AreValues zs (x ∷ xs)) ts (sign comma Comma ∷ us) alike (λ vs p ws q.
    at_token (λ ws. AreValues (vs ++ ws) (x ∷ xs)) q (λ t _ ws q. AreValues.further t (same_value d vs p) (same_values d2 ws q)))

same_initial : {ts : List Bounded} {xs : List Value} {braces : Bool} → AreInitial ts xs braces → (us : List Bounded) → AllAlike ts us → AreInitial us xs braces
same_initial (AreInitial.single d) us alike = AreInitial.single (same_value d us alike)
same_initial (AreInitial.braced {ts = ts} {xs = xs} left right d) us alike =
    at_token (λ us. AreInitial us xs true) alike (λ t _ vs p.
    at_parts (λ vs. AreInitial (sign t LeftBrace ∷ vs) xs true) ts (sign right RightBrace ∷ []) p (λ vs p ws q.
    at_token (λ ws. AreInitial (sign t LeftBrace ∷ (vs ++ ws)) xs true) q (λ u _ ws q.
    at_end (λ ws. AreInitial (sign t LeftBrace ∷ (vs ++ sign u RightBrace ∷ ws)) xs true) q (AreInitial.braced t u (same_values d vs p)))))

same_result : {ts : List Bounded} {result : Kind3} → IsResult ts result → (us : List Bounded) → AllAlike ts us → IsResult us result
same_result (IsResult.int at d) us alike = let r = same_type d us alike in IsResult.int r.0 r.1.0
same_result (IsResult.unsigned at d) us alike = let r = same_type d us alike in IsResult.unsigned r.0 r.1.0
same_result (IsResult.void at) us alike = at_token (λ us. IsResult us results.Void) alike (λ t _ vs p. at_end (λ vs. IsResult (word t w.Void ∷ vs) results.Void) p (IsResult.void t))

same_private : {ts : List Bounded} {is_private : Bool} → IsPrivate ts is_private → (us : List Bounded) → AllAlike ts us → IsPrivate us is_private
same_private IsPrivate.nothing us alike = at_end (λ us. IsPrivate us false) alike IsPrivate.nothing
same_private (IsPrivate.given at) us alike = at_token (λ us. IsPrivate us true) alike (λ t _ vs p. at_end (λ vs. IsPrivate (word t w.Private ∷ vs) true) p (IsPrivate.given t))

-- parameters of these tokens that differ in token numbers alone
abbrev SameListed : List Parameter → List Bounded → Type 0
SameListed xs us = (ys : List Parameter) × (AreListed us ys × SameList bare_parameter xs ys)

abbrev SameOne : Parameter → List Bounded → Type 0
SameOne x us = (y : Parameter) × (IsParameter us y × (Same bare_parameter x y))

same_parameter : {ts : List Bounded} {x : Parameter} → IsParameter ts x → (us : List Bounded) → AllAlike ts us → SameOne x us
same_parameter (IsParameter.typed {ts = ts} {is_unsigned = is_unsigned} first at text d) us alike =
    let x : Parameter = record { unsigned = is_unsigned; name = text; token = at.place } in
    at_parts (SameOne x) ts (name at text ∷ []) alike (λ vs p ws q.
    let r = same_type d vs p in
    at_token (λ ws. SameOne x (vs ++ ws)) q (λ t _ ws q.
    at_end (λ ws. SameOne x (vs ++ name t text ∷ ws)) q
    (record { unsigned = is_unsigned; name = text; token = t.place }, (IsParameter.typed r.0 t text r.1.0, record { bare = refl }))))

same_listed : {ts : List Bounded} {xs : List Parameter} → AreListed ts xs → (us : List Bounded) → AllAlike ts us → SameListed xs us
same_listed (AreListed.one d) us alike = let r = same_parameter d us alike in (r.0 ∷ [], (AreListed.one r.1.0, one_more r.1.1 none_left))
same_listed (AreListed.further {ts = ts} {us = us} {x = x} {xs = xs} comma d d2) zs alike =
    at_parts (SameListed (x ∷ xs)) ts (sign comma Comma ∷ us) alike (λ vs p ws q.
    let r = same_parameter d vs p in
    at_token (λ ws. SameListed (x ∷ xs) (vs ++ ws)) q (λ t _ ws q.
    let r2 = same_listed d2 ws q in
    (r.0 ∷ r2.0, (AreListed.further t r.1.0 r2.1.0, one_more r.1.1 r2.1.1))))

abbrev SameAll : List Parameter → List Bounded → Type 0
SameAll xs us = (ys : List Parameter) × (AreParameters us ys × SameList bare_parameter xs ys)

same_parameters : {ts : List Bounded} {xs : List Parameter} → AreParameters ts xs → (us : List Bounded) → AllAlike ts us → SameAll xs us
same_parameters AreParameters.nothing us alike = at_end (SameAll []) alike ([], (AreParameters.nothing, none_left))
same_parameters (AreParameters.void at) us alike =
    at_token (SameAll []) alike (λ t _ vs p. at_end (λ vs. SameAll [] (word t w.Void ∷ vs)) p ([], (AreParameters.void t, none_left)))
same_parameters (AreParameters.some d) us alike = let r = same_listed d us alike in (r.0, (AreParameters.some r.1.0, r.1.1))

-- a declaration of these tokens that differs in token numbers alone
abbrev SameOneItem : Item → List Bounded → Type 0
SameOneItem x us = (y : Item) × (IsItem us y × SameItem x y)

same_item : {ts : List Bounded} {x : Item} → IsItem ts x → (us : List Bounded) → AllAlike ts us → SameOneItem x us
same_item (IsItem.object {ts = ts} {us = us} {vs = ys} {class = class} {is_unsigned = is_unsigned} {length = length} first at end text d d2 d3) zs alike =
    let x = i.Object class is_unsigned text length at.place in
    at_parts (SameOneItem x) ts (us ++ (name at text ∷ (ys ++ sign end Semicolon ∷ []))) alike (λ vs p ws q.
    at_parts (λ ws. SameOneItem x (vs ++ ws)) us (name at text ∷ (ys ++ sign end Semicolon ∷ [])) q (λ ws q ks k.
    let r = same_type d2 ws q in
    at_token (λ ks. SameOneItem x (vs ++ (ws ++ ks))) k (λ t _ ks k.
    at_parts (λ ks. SameOneItem x (vs ++ (ws ++ name t text ∷ ks))) ys (sign end Semicolon ∷ []) k (λ ks k ms m.
    at_token (λ ms. SameOneItem x (vs ++ (ws ++ name t text ∷ (ks ++ ms)))) m (λ u _ ms m.
    at_end (λ ms. SameOneItem x (vs ++ (ws ++ name t text ∷ (ks ++ sign u Semicolon ∷ ms)))) m (
      i.Object class is_unsigned text length t.place,
      (IsItem.object r.0 t u text (same_storage d vs p) r.1.0 (same_length d3 ks k), record { bare = refl }),
    ))))))
same_item (IsItem.constant {ts = ts} {us = us} {vs = ys} {is_unsigned = is_unsigned} {braces = braces} {length = length} {values = values} const first at equals end text d d2 d3) zs alike =
    let x = i.Constant is_unsigned text length values braces at.place in
    at_token (SameOneItem x) alike (λ g _ vs p.
    at_parts (λ vs. SameOneItem x (word g w.Const ∷ vs)) ts (name at text ∷ (us ++ (sign equals Assign ∷ (ys ++ sign end Semicolon ∷ [])))) p (λ vs p ws q.
    let r = same_type d vs p in
    at_token (λ ws. SameOneItem x (word g w.Const ∷ (vs ++ ws))) q (λ t _ ws q.
    at_parts (λ ws. SameOneItem x (word g w.Const ∷ (vs ++ name t text ∷ ws))) us (sign equals Assign ∷ (ys ++ sign end Semicolon ∷ [])) q (λ ws q ks k.
    at_token (λ ks. SameOneItem x (word g w.Const ∷ (vs ++ name t text ∷ (ws ++ ks)))) k (λ u _ ks k.
    at_parts (λ ks. SameOneItem x (word g w.Const ∷ (vs ++ name t text ∷ (ws ++ sign u Assign ∷ ks)))) ys (sign end Semicolon ∷ []) k (λ ks k ms m.
    at_token (λ ms. SameOneItem x (word g w.Const ∷ (vs ++ name t text ∷ (ws ++ sign u Assign ∷ (ks ++ ms))))) m (λ c _ ms m.
    at_end (λ ms. SameOneItem x (word g w.Const ∷ (vs ++ name t text ∷ (ws ++ sign u Assign ∷ (ks ++ sign c Semicolon ∷ ms))))) m (
      i.Constant is_unsigned text length values braces t.place,
      (IsItem.constant g r.0 t u c text r.1.0 (same_length d2 ws q) (same_initial d3 ks k), record { bare = refl }),
    ))))))))
same_item (IsItem.untrusted first void at left inner right end text) zs alike =
    let x = i.Untrusted text at.place in
    at_token (SameOneItem x) alike (λ a _ vs p.
    at_token (λ vs. SameOneItem x (word a w.Untrusted ∷ vs)) p (λ c _ vs p.
    at_token (λ vs. SameOneItem x (word a w.Untrusted ∷ word c w.Void ∷ vs)) p (λ t _ vs p.
    at_token (λ vs. SameOneItem x (word a w.Untrusted ∷ word c w.Void ∷ name t text ∷ vs)) p (λ f _ vs p.
    at_token (λ vs. SameOneItem x (word a w.Untrusted ∷ word c w.Void ∷ name t text ∷ sign f LeftParenthesis ∷ vs)) p (λ g _ vs p.
    at_token (λ vs. SameOneItem x (word a w.Untrusted ∷ word c w.Void ∷ name t text ∷ sign f LeftParenthesis ∷ word g w.Void ∷ vs)) p (λ h _ vs p.
    at_token (λ vs. SameOneItem x (word a w.Untrusted ∷ word c w.Void ∷ name t text ∷ sign f LeftParenthesis ∷ word g w.Void ∷ sign h RightParenthesis ∷ vs)) p (λ k _ vs p.
    at_end (λ vs. SameOneItem x (word a w.Untrusted ∷ word c w.Void ∷ name t text ∷ sign f LeftParenthesis ∷ word g w.Void ∷ sign h RightParenthesis ∷ sign k Semicolon ∷ vs)) p
    (i.Untrusted text t.place, (IsItem.untrusted a c t f g h k text, record { bare = refl })))))))))
same_item (IsItem.function {ts = ts} {us = us} {vs = ys} {ws = bs} {is_private = is_private} {result = result} {params = params} {body = body} at left right start end text d d2 d3 d4) zs alike =
    let x = i.Function is_private result text params body at.place in
    at_parts (SameOneItem x) ts (us ++ (name at text ∷ sign left LeftParenthesis ∷ (ys ++ (sign right RightParenthesis ∷ sign start LeftBrace ∷ (bs ++ sign end RightBrace ∷ []))))) alike (λ vs p ws q.
    at_parts (λ ws. SameOneItem x (vs ++ ws)) us (name at text ∷ sign left LeftParenthesis ∷ (ys ++ (sign right RightParenthesis ∷ sign start LeftBrace ∷ (bs ++ sign end RightBrace ∷ [])))) q (λ ws q ks k.
    at_token (λ ks. SameOneItem x (vs ++ (ws ++ ks))) k (λ t _ ks k.
    at_token (λ ks. SameOneItem x (vs ++ (ws ++ name t text ∷ ks))) k (λ u _ ks k.
    at_parts (λ ks. SameOneItem x (vs ++ (ws ++ name t text ∷ sign u LeftParenthesis ∷ ks))) ys (sign right RightParenthesis ∷ sign start LeftBrace ∷ (bs ++ sign end RightBrace ∷ [])) k (λ ks k ms m.
    let r3 = same_parameters d3 ks k in
    at_token (λ ms. SameOneItem x (vs ++ (ws ++ name t text ∷ sign u LeftParenthesis ∷ (ks ++ ms)))) m (λ c _ ms m.
    at_token (λ ms. SameOneItem x (vs ++ (ws ++ name t text ∷ sign u LeftParenthesis ∷ (ks ++ sign c RightParenthesis ∷ ms)))) m (λ f _ ms m.
    at_parts (λ ms. SameOneItem x (vs ++ (ws ++ name t text ∷ sign u LeftParenthesis ∷ (ks ++ sign c RightParenthesis ∷ sign f LeftBrace ∷ ms)))) bs (sign end RightBrace ∷ []) m (λ ms m ns n.
    let r4 = same_body d4 ms m in
    at_token (λ ns. SameOneItem x (vs ++ (ws ++ name t text ∷ sign u LeftParenthesis ∷ (ks ++ sign c RightParenthesis ∷ sign f LeftBrace ∷ (ms ++ ns))))) n (λ g _ ns n.
    at_end (λ ns. SameOneItem x (vs ++ (ws ++ name t text ∷ sign u LeftParenthesis ∷ (ks ++ sign c RightParenthesis ∷ sign f LeftBrace ∷ (ms ++ sign g RightBrace ∷ ns))))) n (
      i.Function is_private result text r3.0 r4.0 t.place,
      (
        IsItem.function t u c f g text (same_private d vs p) (same_result d2 ws q) r3.1.0 r4.1.0,
        function is_private result text at.place t.place r3.1.1 r4.1.1,
      ),
    ))))))))))

abbrev SameRow : List Item → List Bounded → Type 0
SameRow xs us = (ys : List Item) × (AreItems us ys × SameList bare_item xs ys)

same_items : {ts : List Bounded} {xs : List Item} → AreItems ts xs → (us : List Bounded) → AllAlike ts us → SameRow xs us
same_items AreItems.nothing us alike = at_end (SameRow []) alike ([], (AreItems.nothing, none_left))
same_items (AreItems.further {ts = ts} {us = us} {x = x} {xs = xs} d d2) zs alike =
    at_parts (SameRow (x ∷ xs)) ts us alike (λ vs p ws q.
    let r = same_item d vs p in
    let r2 = same_items d2 ws q in
    (r.0 ∷ r2.0, (AreItems.further r.1.0 r2.1.0, one_more r.1.1 r2.1.1)))

-- tokens alike to those of a program are a program, and one that differs in token numbers alone
pub same_program : {ts : List Bounded} {p : Program} → IsProgram ts p → (us : List Bounded) → AllAlike ts us → (q : Program) × (IsProgram us q × (bare p ≡ bare q))
same_program d us alike =
    let r = same_items d us alike in
    (record { items = r.0 }, (r.1.0, ap (λ items. record { items = items }) r.1.1.bare))
