use Rattle.std.proofs.Common.{◌≡◌, ◌-◌, length, drop, take, ap, arith, List, ℕ}
use Rattle.std.proofs.lemmas.List.{length-drop, take_all}
use Rattle.image_file.specs.ImageTable.{bytes_of}
use Rattle.machine_list.proofs.Files.{length-file}
use Rattle.machine_list.proofs.running.statics_of.Goals as goal

pub returns : goal.returns
returns c =
    let file = c.args.file.now in
    let long = length-file c.args.image.now in
    let same : length file ≡ length (bytes_of c.args.image.now) = ap (λ (xs : List ℕ). length xs) c.requires.file in
    let rest = length-drop 36 file in
    let all : take (length file - 36) (drop 36 file) ≡ drop 36 file = take_all (length file - 36) (drop 36 file) (omega (arith, rest)) in
    let counted : length (take (length file - 36) (drop 36 file)) ≡ length (drop 36 file) = ap (λ (xs : List ℕ). length xs) all in
    record { long = omega (arith, counted, rest, same, long) }
