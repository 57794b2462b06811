use Rattle.index_file.proofs.ImageLaws.{index_exactly, image_stands_for}
use Rattle.index_file.proofs.laws.the_conditions_hold_of_images_alone.Goals as goal

pub returns-clause-exactly : goal.returns-clause-exactly
returns-clause-exactly c = λ version form bytes small fits. index_exactly version form bytes small fits

pub returns-clause-stands_for : goal.returns-clause-stands_for
returns-clause-stands_for c = λ version form graph bytes small image. image_stands_for version form graph bytes small image
