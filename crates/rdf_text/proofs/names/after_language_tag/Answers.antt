use Rattle.std.specs.Str.{chars}
use Rattle.rdf_text.specs.Names.{IsLanguageTag}
use Rattle.rdf_text.specs.scanning.Names.{after_language_tag}
use Rattle.rdf_text.proofs.Longest.{result_longest, result_none}
use Rattle.rdf_text.proofs.LanguageTags.{after_language_tag-sound, after_language_tag-reaches}
use Rattle.rdf_text.proofs.names.after_language_tag.Goals as goal

pub returns-clause-longest : goal.returns-clause-longest
returns-clause-longest g c =
    let letter = g.L.CharClass.members in
    let alphanumeric = g.A.CharClass.members in
    result_longest (IsLanguageTag letter alphanumeric) (after_language_tag letter alphanumeric)
    (after_language_tag-sound letter alphanumeric) (after_language_tag-reaches letter alphanumeric c.requires.letter c.requires.alphanumeric)
    (chars c.args.text.now) c.read_language_tag.result c.read_language_tag.ensures.chars

pub returns-clause-none : goal.returns-clause-none
returns-clause-none g c =
    let letter = g.L.CharClass.members in
    let alphanumeric = g.A.CharClass.members in
    result_none (IsLanguageTag letter alphanumeric) (after_language_tag letter alphanumeric)
    (after_language_tag-reaches letter alphanumeric c.requires.letter c.requires.alphanumeric)
    (chars c.args.text.now) c.read_language_tag.result c.read_language_tag.ensures.chars
