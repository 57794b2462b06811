use Rattle.std.specs.Str.{chars}
use Rattle.rdf_text.specs.Names.{IsDottedName}
use Rattle.rdf_text.specs.scanning.Names.{after_dotted_name}
use Rattle.rdf_text.proofs.Longest.{result_longest, result_none}
use Rattle.rdf_text.proofs.DottedNames.{after_dotted_name-sound, after_dotted_name-reaches}
use Rattle.rdf_text.proofs.names.after_dotted_name.Goals as goal

pub returns-clause-longest : goal.returns-clause-longest
returns-clause-longest g c =
    let first = g.F.CharClass.members in
    let inner = g.I.CharClass.members in
    result_longest (IsDottedName first inner) (after_dotted_name first inner) (after_dotted_name-sound first inner) (after_dotted_name-reaches first inner)
    (chars c.args.text.now) c.read_dotted_name.result c.read_dotted_name.ensures.chars

pub returns-clause-none : goal.returns-clause-none
returns-clause-none g c =
    let first = g.F.CharClass.members in
    let inner = g.I.CharClass.members in
    result_none (IsDottedName first inner) (after_dotted_name first inner) (after_dotted_name-reaches first inner)
    (chars c.args.text.now) c.read_dotted_name.result c.read_dotted_name.ensures.chars
