use Rattle.std.proofs.Common.{◌≡◌, ℕ, List, ◌++◌, ap, ◌∙◌, sym}
use Rattle.std.proofs.lemmas.Result.{IfOk-weaker}
use Rattle.std.specs.Prelude.{string_bytes}
use Rattle.bm_term.specs.Canonical.{iri, plain, literal_of, IsTerm, canonical_text}
use Rattle.nt_read.specs.scanning.Found.{lexical_of}
use Rattle.nt_read.proofs.LiteralTexts.{datatype_bytes, is_xsd_string, is_other_type, plain_of_string, typed_of_other}
use Rattle.nt_read.proofs.writing.text_with_datatype.Goals as goal

pub returns-then-eq : goal.returns-then-eq
returns-then-eq c =
    let lexical = lexical_of c.args.string in
    IfOk-weaker c.string_text.result
    (λ text. text.items ≡ canonical_text (plain lexical))
    (λ text. (cs : List ℕ) → IsTerm (iri cs) → c.args.datatype.now ≡ canonical_text (iri cs) → text.items ≡ canonical_text (literal_of lexical cs))
    (λ text string cs is same. plain_of_string text.items lexical cs (is_xsd_string cs c.args.datatype.now is same (sym c.eq.ensures ∙ c.if-eq.true)) string)
    c.string_text.ensures

pub returns : goal.returns
returns c =
    let lexical = lexical_of c.args.string in
    λ cs is same.
    typed_of_other c.into_bytes.result.items lexical cs (is_other_type cs c.args.datatype.now same (sym c.eq.ensures ∙ c.if-eq.false))
    (rw c.into_bytes.ensures.value
    (datatype_bytes (string_bytes c.push_string.new.out) (string_bytes c.push_str.new.self) (string_bytes c.push_str-2.new.self) c.args.datatype.now lexical cs
    (c.in_ok-push_string.ensures ∙ ap (λ xs. xs ++ canonical_text (plain lexical)) c.in_ok-out.ensures.bytes)
    c.in_ok-push_str.ensures.bytes c.in_ok-push_str-2.ensures.bytes same))
