use Rattle.std.proofs.Common.{◌≡◌, ℕ, List, ◌++◌, ap, ◌∙◌}
use Rattle.std.proofs.lemmas.Result.{IfOk-weaker}
use Rattle.bm_term.specs.Canonical.{iri, literal_of, IsTerm, canonical_text}
use Rattle.nt_read.specs.declared.found.FoundText.TheVariants.{Raw}
use Rattle.nt_read.specs.scanning.Found.{iri_of, lexical_of}
use Rattle.nt_read.proofs.WritingLaws.{raw_bytes}
use Rattle.nt_read.proofs.LiteralTexts.{iri_of-members}
use Rattle.nt_read.proofs.writing.typed_text.Goals as goal

pub returns-in-Raw : goal.returns-in-Raw
returns-in-Raw c =
    let cs = iri_of (Raw c.in-Raw.text) in
    rw c.in-Raw.is
    (IfOk-weaker c.text_with_datatype.result
    (λ text. (cs : List ℕ) → IsTerm (iri cs) → c.in-Raw.text.now ≡ canonical_text (iri cs) → text.items ≡ canonical_text (literal_of (lexical_of c.args.string) cs))
    (λ text. text.items ≡ canonical_text (literal_of (lexical_of c.args.string) cs))
    (λ text gives. gives cs (iri_of-members (Raw c.in-Raw.text)) (raw_bytes c.in-Raw.text.now (iri cs) (rw c.in-Raw.is at c.requires.datatype)))
    c.text_with_datatype.ensures)

pub returns-in_ok-push_iri-in-Escaped : goal.returns-in_ok-push_iri-in-Escaped
returns-in_ok-push_iri-in-Escaped c =
    let cs = iri_of c.args.datatype in
    IfOk-weaker c.text_with_datatype-in-Escaped.result
    (λ text. (cs : List ℕ) → IsTerm (iri cs) → c.as_str.result.now ≡ canonical_text (iri cs) → text.items ≡ canonical_text (literal_of (lexical_of c.args.string) cs))
    (λ text. text.items ≡ canonical_text (literal_of (lexical_of c.args.string) cs))
    (λ text gives. gives cs (iri_of-members c.args.datatype)
    (c.as_str.ensures.value ∙ c.in_ok-push_iri-in-Escaped.ensures ∙ ap (λ xs. xs ++ canonical_text (iri cs)) c.new-text.ensures.bytes))
    c.text_with_datatype-in-Escaped.ensures
