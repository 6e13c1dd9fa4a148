use Rattle.image_file.proofs.FileLaws.{images_have_one_file, files_of_images_are_faultless, faultless_files_are_of_images}
use Rattle.image_file.proofs.laws.images_and_files.Goals as goal

pub returns-clause-one : goal.returns-clause-one
returns-clause-one c = images_have_one_file

pub returns-clause-faultless : goal.returns-clause-faultless
returns-clause-faultless c = files_of_images_are_faultless

pub returns-clause-whole : goal.returns-clause-whole
returns-clause-whole c = faultless_files_are_of_images
