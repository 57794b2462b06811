use Rattle.nt_read.proofs.SpelledTriples.{spelled-triples_of}
use Rattle.nt_read.proofs.file_laws.lines_spell_their_triples.Goals as goal

pub returns : goal.returns
returns c = spelled-triples_of
