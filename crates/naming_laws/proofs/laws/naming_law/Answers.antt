use Rattle.naming_laws.proofs.Names.{partial_exactly, maximal_exactly, names_one}
use Rattle.naming_laws.proofs.laws.naming_law.Goals as goal

pub returns-clause-partial : goal.returns-clause-partial
returns-clause-partial g c = λ names interpretation value triple n tree family naming apart row.
    partial_exactly names interpretation value triple naming n tree family apart row

pub returns-clause-maximal : goal.returns-clause-maximal
returns-clause-maximal g c = λ names interpretation value triple n tree family naming apart row.
    maximal_exactly names interpretation value triple naming n tree family apart row

pub returns-clause-one : goal.returns-clause-one
returns-clause-one g c = λ names value n tree family apart name other is is' same.
    names_one names value n tree family apart name other is is' same
