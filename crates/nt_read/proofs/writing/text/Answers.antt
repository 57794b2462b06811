use Rattle.std.proofs.Common.{◌≡◌, ◌∙◌}
use Rattle.std.proofs.lemmas.Result.{IfOk-weaker}
use Rattle.bm_term.specs.Canonical.{blank, canonical_text}
use Rattle.nt_read.specs.scanning.Found.{label_of, term_found}
use Rattle.nt_read.proofs.WritingLaws.{raw_bytes}
use Rattle.nt_read.proofs.writing.text.Goals as goal

pub returns-in-Blank : goal.returns-in-Blank
unfolding term_found
returns-in-Blank c =
    let term = blank (label_of c.in-Blank.label.now) in
    rw c.in-Blank.is
    (IfOk-weaker c.copied.result (λ text. text.items ≡ c.in-Blank.label.now) (λ text. text.items ≡ canonical_text term)
    (λ text same. same ∙ raw_bytes c.in-Blank.label.now term (rw c.in-Blank.is at c.requires)) c.copied.ensures)
