-- The lines of a listing.
use Rattle.std.proofs.Common.{◌≡◌, ℕ, ◌+◌, ◌-◌, ◌^◌, List, [], ◌∷◌, ◌++◌, length, refl, sym, subst, append_assoc, append-nil, false, codes, OnOk, Result, Ok, Err, is_ok, if◌then◌else◌, arith}
use Rattle.std.proofs.lemmas.Grind.{common_steps}
use Rattle.std.specs.Fmt.{padded_integral, format_spec, digits, char_count}
use Rattle.orbis_word.specs.Printing.{hex_8, IsListing, IsLine, AddsLine, AddsText}

-- what `{:08x}` writes is the number in eight hexadecimal digits
pub padded_hex_8 : (number : ℕ) → padded_integral (format_spec 32 0 4 8 (2 ^ 64 - 1)) false [] (digits 16 false number) ≡ hex_8 number
unfolding padded_integral char_count
padded_hex_8 number = grind (arith, common_steps)

-- a number, a number, a text and a line feed are a line
pub adds-line : {E : Type 0} (index word : ℕ) (first second third fourth fifth : List ℕ) (result : Result (Unit {0}) E)
    → second ≡ first ++ (hex_8 index ++ codes " ") → third ≡ second ++ (hex_8 word ++ codes " ") → AddsText word third fourth
    → fifth ≡ (if is_ok result then fourth ++ codes "\n" else fourth) → OnOk result (AddsLine index word first fifth)
adds-line index word first second third fourth fifth (Ok x) p q adds e =
    record {
      line = hex_8 index ++ codes " " ++ hex_8 word ++ codes " " ++ adds.text ++ codes "\n";
      is_line = record { text = adds.text; of_word = adds.of_word; whole = refl };
      appended = rw (e, adds.appended, q, p) (simp append_assoc);
    }
adds-line index word first second third fourth fifth (Err x) p q adds e = tt

-- a line more
pub listing_more : (index at : ℕ) (words : List ℕ) (bytes : List ℕ) (word : ℕ) (line : List ℕ) → at ≡ index + length words → IsListing index words bytes
    → IsLine at word line → IsListing index (words ++ word ∷ []) (bytes ++ line)
listing_more index at [] bytes word line place none is_line =
    let here : at ≡ index = omega arith in
    let P : ℕ → Type 0 = λ n. IsLine n word line in
    (line, [], subst P here is_line, refl, rw none (sym (append-nil line)))
listing_more index at (first ∷ words) bytes word line place some is_line =
    let there : at ≡ index + 1 + length words = omega arith in
    (some.0, some.1 ++ line, some.2, listing_more (index + 1) at words some.1 word line there some.3 is_line, rw some.4 (append_assoc some.0 some.1 line))
