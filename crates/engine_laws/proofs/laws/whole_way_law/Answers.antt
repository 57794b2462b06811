use Rattle.engine_laws.proofs.WholeWay.{way_exactly, way_bag, best_of_themselves}
use Rattle.engine_laws.proofs.laws.whole_way_law.Goals as goal

pub returns-clause-exactly : goal.returns-clause-exactly
returns-clause-exactly g c = λ names interpretation value triple n pattern triples family best tells tells' well keeps matches are row.
    way_exactly names interpretation value triple n pattern triples family best tells tells' well keeps matches are row

pub returns-clause-bag : goal.returns-clause-bag
returns-clause-bag g c = λ names interpretation value triple n pattern triples family best tells tells' apart pairs well keeps matches are.
    way_bag names interpretation value triple n pattern triples family best tells tells' well keeps matches are apart pairs

pub returns-clause-unmatched : goal.returns-clause-unmatched
returns-clause-unmatched g c = λ names n tree family rows same pairs. best_of_themselves names n tree family rows same pairs
