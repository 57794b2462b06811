use Rattle.std.proofs.Common.{◌≡◌, ◌∙◌}
use Rattle.std.proofs.lemmas.Result.{IfOk-weaker}
use Rattle.bm_term.specs.Canonical.{iri, canonical_text}
use Rattle.nt_read.specs.declared.found.FoundText.TheVariants.{Raw}
use Rattle.nt_read.specs.scanning.Found.{iri_of}
use Rattle.nt_read.proofs.WritingLaws.{raw_bytes}
use Rattle.nt_read.proofs.writing.iri_text.Goals as goal

pub returns-in-Raw : goal.returns-in-Raw
returns-in-Raw c =
    let term = iri (iri_of (Raw c.in-Raw.text)) in
    rw c.in-Raw.is
    (IfOk-weaker c.copied.result (λ text. text.items ≡ c.in-Raw.text.now) (λ text. text.items ≡ canonical_text term)
    (λ text same. same ∙ raw_bytes c.in-Raw.text.now term (rw c.in-Raw.is at c.requires)) c.copied.ensures)
