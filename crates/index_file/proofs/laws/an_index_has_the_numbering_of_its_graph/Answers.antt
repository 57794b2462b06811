use Rattle.index_file.proofs.ReadingLaws.{IsRead-index, numbering_read}
use Rattle.index_file.specs.Layout.{layout_in}
use Rattle.index_file.proofs.laws.an_index_has_the_numbering_of_its_graph.Goals as goal

pub returns : goal.returns
returns c = λ version form bytes small fits index. numbering_read form (layout_in bytes) (IsRead-index version form bytes small fits index)
