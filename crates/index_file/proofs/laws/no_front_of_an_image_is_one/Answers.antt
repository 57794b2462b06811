use Rattle.index_file.proofs.ImageLaws.{image_has_no_front}
use Rattle.index_file.proofs.laws.no_front_of_an_image_is_one.Goals as goal

pub returns : goal.returns
returns c = λ version of form within graph other bytes more small few image longer. image_has_no_front version of form within graph other bytes more small few image longer
