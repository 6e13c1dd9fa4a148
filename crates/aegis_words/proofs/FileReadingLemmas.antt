-- A command that reads files halts in one place.
use Rattle.std.proofs.Common.{◌≡◌, ◌⊎◌, inl, inr, ⊎_elim, zero, suc, ℕ, ◌<◌, ◌≤◌, List, [], ◌∷◌, length, Option, None, Some, refl, sym, ◌∙◌, ap, subst, arith, unwrap_or}
use Rattle.std.proofs.Math.Nat.{eq-or-lt_of_le}
use Rattle.aegis_edge.specs.Folder.{Files, IsMissing, IsTooLong, content_of}
use Rattle.aegis_words.specs.declared.file.File.{File}
use Rattle.aegis_words.specs.FileSteps.{FileStep, NextStep, limit_for}
use Rattle.aegis_words.specs.FileReading.{HasText, Passes, ArePassed}

-- a file has one text
pub text_once : (files : Files) (step : FileStep) (t u : List ℕ) → HasText (Some files) step t → HasText (Some files) step u → t ≡ u
text_once files step t u one two = let same : Some t ≡ Some u = sym one.whole ∙ two.whole in cc

-- a file that was read is not missing
pub text_missing : (files : Files) (step : FileStep) (t : List ℕ) (before now : ℕ) → HasText (Some files) step t → IsMissing (Some files) step.name before now → ⊥
text_missing files step t before now read missing = let both : Some t ≡ None = sym read.whole ∙ missing.0 in cc

-- nor too long
pub text_too_long : (files : Files) (step : FileStep) (t : List ℕ) (before now : ℕ) → HasText (Some files) step t
    → IsTooLong (Some files) step.name (limit_for step.file) before now → ⊥
text_too_long files step t before now read long =
    let same : content_of files step.name ≡ t = ap (λ found. unwrap_or found []) read.whole in
    let count : length (content_of files step.name) ≡ length t = ap length same in
    omega (arith, read.within, long.0, count)

-- a missing file is not too long
pub missing_too_long : (files : Files) (name : List ℕ) (limit a b c d : ℕ) → IsMissing (Some files) name a b → IsTooLong (Some files) name limit c d → ⊥
missing_too_long files name limit a b c d missing long =
    let count : length (content_of files name) ≡ 0 = ap (λ found. length (unwrap_or found [])) missing.0 in
    omega (arith, long.0, count)

-- a step is passed with one text
passed_once : (Serves : File → List ℕ → Type 0) (files : Files) (step : Option FileStep) (t u : List ℕ) → Passes Serves (Some files) step t → Passes Serves (Some files) step u → t ≡ u
passed_once Serves files None t u one two = absurd one
passed_once Serves files (Some step) t u one two = text_once files step t u one.0 two.0

-- as many texts are the same
pub passed_alike : (next : NextStep) (Serves : File → List ℕ → Type 0) (files : Files) (ts us : List (List ℕ)) → length ts ≡ length us
    → ArePassed next Serves (Some files) ts → ArePassed next Serves (Some files) us → ts ≡ us
passed_alike next Serves files [] [] same one two = refl
passed_alike next Serves files [] (u ∷ us) same one two = absurd (omega (arith, same))
passed_alike next Serves files (t ∷ ts) [] same one two = absurd (omega (arith, same))
passed_alike next Serves files (t ∷ ts) (u ∷ us) same one two =
    let rest : ts ≡ us = passed_alike next Serves files ts us (omega (arith, same)) one.0 two.0 in
    let P : List (List ℕ) → Type 0 = λ earlier. Passes Serves (Some files) (next earlier) t in
    let head : t ≡ u = passed_once Serves files (next us) t u (subst P rest one.1) two.1 in
    ap (λ x. x ∷ ts) head ∙ ap (λ xs. u ∷ xs) rest

-- where more texts were passed, the step after the fewer was passed
passed_longer : (next : NextStep) (Serves : File → List ℕ → Type 0) (files : Files) (ts us : List (List ℕ)) → length ts < length us
    → ArePassed next Serves (Some files) ts → ArePassed next Serves (Some files) us → (text : List ℕ) × Passes Serves (Some files) (next ts) text
passed_longer next Serves files ts [] below one two = absurd (omega (arith, below))
passed_longer next Serves files ts (u ∷ us) below one two =
    let among : length ts ≤ length us = omega (arith, below) in
    ⊎_elim
    (λ (same : length ts ≡ length us).
    let alike : ts ≡ us = passed_alike next Serves files ts us same one two.0 in
    let P : List (List ℕ) → Type 0 = λ earlier. Passes Serves (Some files) (next earlier) u in
    (u, subst P (sym alike) two.1))
    (λ (fewer : length ts < length us). passed_longer next Serves files ts us fewer one two.0)
    (eq-or-lt_of_le among)

-- of two numbers the first is the greater, or it is not
ordered : (m n : ℕ) → (m ≤ n) ⊎ (n < m)
ordered zero n = inl (omega arith)
ordered (suc m) zero = inr (omega arith)
ordered (suc m) (suc n) = ⊎_elim (λ (h : m ≤ n). inl (omega (arith, h))) (λ (h : n < m). inr (omega (arith, h))) (ordered m n)

-- no text passes the step after these
abbrev pub Blocks : NextStep → (File → List ℕ → Type 0) → Files → List (List ℕ) → Type 0
Blocks next Serves files texts = (text : List ℕ) → Passes Serves (Some files) (next texts) text → ⊥

-- a command that is blocked after these texts and after those is blocked in one place
pub one_place : (next : NextStep) (Serves : File → List ℕ → Type 0) (files : Files) (ts us : List (List ℕ)) → ArePassed next Serves (Some files) ts
    → ArePassed next Serves (Some files) us → Blocks next Serves files ts → Blocks next Serves files us → ts ≡ us
one_place next Serves files ts us one two first second =
    ⊎_elim
    (λ (among : length ts ≤ length us).
    ⊎_elim
    (λ (same : length ts ≡ length us). passed_alike next Serves files ts us same one two)
    (λ (fewer : length ts < length us). let there = passed_longer next Serves files ts us fewer one two in absurd (first there.0 there.1))
    (eq-or-lt_of_le among))
    (λ (more : length us < length ts). let there = passed_longer next Serves files us ts more two one in absurd (second there.0 there.1))
    (ordered (length ts) (length us))
