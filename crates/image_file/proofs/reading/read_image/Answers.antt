use Rattle.std.proofs.Common.{◌≡◌, ◌∙◌, sym, ap, subst, length, None, arith}
use Rattle.std.proofs.lemmas.List.{length-drop}
use Rattle.std.proofs.lemmas.Result.{err_from_is_err_and}
use Rattle.regions.specs.declared.layout.Layout.{Layout}
use Rattle.image_file.specs.ImageTable.{bytes_of}
use Rattle.image_file.specs.ImageFaults.{header_in, first_fault}
use Rattle.image_file.specs.ReadParts.{HasNumbers}
use Rattle.image_file.proofs.FileLaws.{fault-in_header, fault-in_blocks, only-at_fault, image-read, images_have_one_file, files_of_images_are_faultless}
use Rattle.image_file.proofs.reading.read_image.Goals as goal

pub returns-in_err-header-clause-only : goal.returns-in_err-header-clause-only
returns-in_err-header-clause-only c =
    only-at_fault c.args.bytes.now c.in_err-header.field-0.0 c.from_residual.result (fault-in_header c.args.bytes.now c.in_err-header.field-0.0 c.in_err-header.ensures.fault)

pub returns-in_err-header-clause-fault : goal.returns-in_err-header-clause-fault
returns-in_err-header-clause-fault c =
    let told = err_from_is_err_and c.from_residual.result c.from_residual.ensures.1 in
    rw (told.1, told.2) (λ _. fault-in_header c.args.bytes.now c.in_err-header.field-0.0 c.in_err-header.ensures.fault)

pub returns-in_err-blocks-clause-only : goal.returns-in_err-blocks-clause-only
returns-in_err-blocks-clause-only c =
    only-at_fault c.args.bytes.now c.in_err-blocks.field-0.0 c.from_residual-in_err-blocks.result
    (fault-in_blocks c.args.bytes.now c.in_ok-header.header.layout _ c.in_ok-header.ensures.fault c.in_err-blocks.ensures.fault c.in_ok-header.ensures.layout)

pub returns-in_err-blocks-clause-fault : goal.returns-in_err-blocks-clause-fault
returns-in_err-blocks-clause-fault c =
    let told = err_from_is_err_and c.from_residual-in_err-blocks.result c.from_residual-in_err-blocks.ensures.1 in
    rw (told.1, told.2) (λ _. fault-in_blocks c.args.bytes.now c.in_ok-header.header.layout _ c.in_ok-header.ensures.fault c.in_err-blocks.ensures.fault c.in_ok-header.ensures.layout)

pub image_of-requires : goal.image_of-requires
image_of-requires c = omega (arith, ap length c.in_ok-blocks.ensures.blocks, length-drop 36 c.args.bytes.now, c.in_ok-blocks.ensures.length)

-- the file is that of the image
read : (c : goal.In_ok-image) → c.args.bytes.now ≡ bytes_of c.in_ok-image.image
read c =
    image-read c.args.bytes.now c.in_ok-image.image (λ i. omega (arith, c.type_inv.bytes i)) (omega (arith, c.in_ok-blocks.ensures.length)) c.in_ok-header.ensures.magic c.in_ok-header.ensures.version
    (subst (λ (layout : Layout). HasNumbers layout (header_in c.args.bytes.now)) (sym c.in_ok-image.ensures.layout) c.in_ok-header.ensures.layout)
    (c.in_ok-image.ensures.entry ∙ c.in_ok-header.ensures.entry) (c.in_ok-image.ensures.blocks ∙ c.in_ok-blocks.ensures.blocks)

pub returns-clause-read : goal.returns-clause-read
returns-clause-read c = read c

pub returns-clause-only : goal.returns-clause-only
returns-clause-only c = λ image words same. images_have_one_file c.in_ok-image.image image c.in_ok-image.ensures.words words (sym (read c) ∙ same)

pub returns-clause-faultless : goal.returns-clause-faultless
returns-clause-faultless c = ap first_fault (read c) ∙ files_of_images_are_faultless c.in_ok-image.image c.in_ok-image.ensures.words
