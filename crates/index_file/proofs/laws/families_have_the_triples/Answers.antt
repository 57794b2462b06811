use Rattle.index_file.proofs.FamilyLaws.{in_slice}
use Rattle.index_file.proofs.ImageLaws.{family_has}
use Rattle.index_file.proofs.laws.families_have_the_triples.Goals as goal

pub returns-clause-pairs : goal.returns-clause-pairs
returns-clause-pairs c = λ family n triples pair. in_slice family n triples pair

pub returns-clause-triples : goal.returns-clause-triples
returns-clause-triples c = λ family count triples triple. family_has family count triples triple
