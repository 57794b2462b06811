-- What a borrowed term shows.
use Rattle.std.specs.Prelude.{ℕ, List}
use Rattle.bm_term.specs.declared.term_ref.TermRef.{TermRef}

-- its canonical text
abbrev pub text_of : TermRef → List ℕ
text_of term = term.text.now
