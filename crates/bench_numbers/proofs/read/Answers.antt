use Rattle.std.proofs.Common.{◌∙◌, ap}
use Rattle.bm_term.specs.Kept.{after_all, unlimited}
use Rattle.nt_read.specs.scanning.Lines.{lines_of, triples_of}
use Rattle.nt_read.proofs.TakenTriples.{taken-rdf}
use Rattle.bench_numbers.proofs.read.Goals as goal

pub returns : goal.returns
returns c = taken-rdf _ (lines_of c.args.bytes.now) (c.in_ok-read_lines.ensures.takes ∙ ap (λ l. after_all (unlimited l) (triples_of (lines_of c.args.bytes.now))) c.new-triples.ensures)
