use Rattle.std.proofs.Common.{◌∙◌, refl}
use Rattle.bm_term.specs.Canonical.{xsd_string}
use Rattle.rdf_text.proofs.TextLemmas.{bytes_eq-chars, IsAscii-list_all}
use Rattle.bm_term.proofs.scanning.is_xsd_string.Goals as goal

pub returns : goal.returns
unfolding xsd_string
returns c = c.eq.ensures ∙ bytes_eq-chars c.args.iri.now xsd_string c.utf8.iri (IsAscii-list_all xsd_string refl)
