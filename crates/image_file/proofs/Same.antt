-- Two layouts with the same numbers are one, and so are two images with the same parts, since the facts that they keep have one proof.
use Rattle.std.proofs.Common.{◌≡◌, ℕ, ◌+◌, ◌*◌, ◌%◌, ◌<◌, ◌≤◌, List, length, refl, ap, subst, ◌∙◌}
use Rattle.std.specs.Coded.{le_prop}
use Rattle.std.proofs.Math.Nat.{ℕ_set}
use Rattle.regions.specs.declared.addresses.TheConstants.{BLOCK_BYTES}
use Rattle.regions.specs.declared.layout.TheConstants.{MAX_DATA_BLOCKS, MAX_LOG_BLOCKS, MAX_SHARED_BYTES}
use Rattle.regions.specs.declared.layout.Layout.{Layout}
use Rattle.image_file.specs.declared.image.TheConstants.{BLOCK_WORDS}
use Rattle.image_file.specs.declared.image.Image.{Image}

-- the numbers of a layout
abbrev pub Numbers : Type 0
Numbers = ℕ × ℕ × ℕ × ℕ × ℕ × ℕ

abbrev DataFits : Numbers → Type 0
DataFits n = n.0 + n.1 + n.2 + n.3 ≤ MAX_DATA_BLOCKS

abbrev LogFits : Numbers → Type 0
LogFits n = n.4 ≤ MAX_LOG_BLOCKS

abbrev SharedFits : Numbers → Type 0
SharedFits n = n.5 ≤ MAX_SHARED_BYTES

abbrev layout_with : (n : Numbers) → DataFits n → LogFits n → SharedFits n → Layout
layout_with n data_fits log_fits shared_fits = record {
  verified = n.0;
  private = n.1;
  constants = n.2;
  code = n.3;
  log = n.4;
  shared = n.5;
  data_fits = data_fits;
  log_fits = log_fits;
  shared_fits = shared_fits;
}

abbrev pub numbers_of : Layout → Numbers
numbers_of a = (a.verified, a.private, a.constants, a.code, a.log, a.shared)

one-layout_with : (n : Numbers) (d : DataFits n) (l : LogFits n) (s : SharedFits n) (d' : DataFits n) (l' : LogFits n) (s' : SharedFits n) → layout_with n d l s ≡ layout_with n d' l' s'
one-layout_with n d l s d' l' s' =
    ap (λ (x : DataFits n). layout_with n x l s) (le_prop d d') ∙ ap (λ (x : LogFits n). layout_with n d' x s) (le_prop l l') ∙ ap (λ (x : SharedFits n). layout_with n d' l' x) (le_prop s s')

same-layout_with : (n m : Numbers) → n ≡ m → (d : DataFits n) (l : LogFits n) (s : SharedFits n) (d' : DataFits m) (l' : LogFits m) (s' : SharedFits m) → layout_with n d l s ≡ layout_with m d' l' s'
same-layout_with n m e d l s =
    subst (λ (k : Numbers). (d' : DataFits k) (l' : LogFits k) (s' : SharedFits k) → layout_with n d l s ≡ layout_with k d' l' s') e (one-layout_with n d l s)

pub same-layout : (a b : Layout) → numbers_of a ≡ numbers_of b → a ≡ b
same-layout a b e = same-layout_with (numbers_of a) (numbers_of b) e a.data_fits a.log_fits a.shared_fits b.data_fits b.log_fits b.shared_fits

-- the parts of an image but for its facts
abbrev Parts : Type 0
Parts = Layout × ℕ × List ℕ × List ℕ

abbrev SharedWords : Parts → Type 0
SharedWords p = p.0.shared % 4 ≡ 0

abbrev EntryInside : Parts → Type 0
EntryInside p = p.1 < BLOCK_WORDS * p.0.code

abbrev ConstantsWhole : Parts → Type 0
ConstantsWhole p = length p.2 ≡ BLOCK_BYTES * p.0.constants

abbrev CodeWhole : Parts → Type 0
CodeWhole p = length p.3 ≡ BLOCK_WORDS * p.0.code

abbrev image_with : (p : Parts) → SharedWords p → EntryInside p → ConstantsWhole p → CodeWhole p → Image
image_with p shared entry constants code = record {
  layout = p.0;
  entry = p.1;
  constants = p.2;
  code = p.3;
  shared_words = shared;
  entry_inside = entry;
  constants_whole = constants;
  code_whole = code;
}

one-image_with : (p : Parts) (a : SharedWords p) (b : EntryInside p) (c : ConstantsWhole p) (d : CodeWhole p) (a' : SharedWords p) (b' : EntryInside p) (c' : ConstantsWhole p) (d' : CodeWhole p)
    → image_with p a b c d ≡ image_with p a' b' c' d'
one-image_with p a b c d a' b' c' d' =
    ap (λ (x : SharedWords p). image_with p x b c d) (ℕ_set _ _ a a') ∙ ap (λ (x : EntryInside p). image_with p a' x c d) (le_prop b b')
    ∙ ap (λ (x : ConstantsWhole p). image_with p a' b' x d) (ℕ_set _ _ c c') ∙ ap (λ (x : CodeWhole p). image_with p a' b' c' x) (ℕ_set _ _ d d')

same-image_with : (p q : Parts) → p ≡ q → (a : SharedWords p) (b : EntryInside p) (c : ConstantsWhole p) (d : CodeWhole p) (a' : SharedWords q) (b' : EntryInside q) (c' : ConstantsWhole q) (d' : CodeWhole q)
    → image_with p a b c d ≡ image_with q a' b' c' d'
same-image_with p q e a b c d =
    subst (λ (k : Parts). (a' : SharedWords k) (b' : EntryInside k) (c' : ConstantsWhole k) (d' : CodeWhole k) → image_with p a b c d ≡ image_with k a' b' c' d') e (one-image_with p a b c d)

pub same-image : (i j : Image) → numbers_of i.layout ≡ numbers_of j.layout → i.entry ≡ j.entry → i.constants ≡ j.constants → i.code ≡ j.code → i ≡ j
same-image i j layouts entries constants codes =
    let layout : i.layout ≡ j.layout = same-layout i.layout j.layout layouts in
    let parts : (i.layout, i.entry, i.constants, i.code) ≡ (j.layout, j.entry, j.constants, j.code) = cc in
    same-image_with (i.layout, i.entry, i.constants, i.code) (j.layout, j.entry, j.constants, j.code) parts i.shared_words i.entry_inside i.constants_whole i.code_whole j.shared_words j.entry_inside j.constants_whole j.code_whole
