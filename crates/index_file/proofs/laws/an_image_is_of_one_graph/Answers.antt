use Rattle.index_file.proofs.ImageLaws.{image_of_one}
use Rattle.index_file.proofs.laws.an_image_is_of_one_graph.Goals as goal

pub returns : goal.returns
returns c = λ version form graph other bytes small image second. image_of_one version form graph other bytes small image second
