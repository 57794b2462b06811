-- A raw text is the canonical text of its term.
use Rattle.std.proofs.Common.{◌≡◌, ℕ, Result, Ok, Err, if◌then◌else◌, List, ◌++◌, ap, ◌∙◌, sym}
use Rattle.std.specs.Prelude.{is_ok, OnOk}
use Rattle.std.specs.Str.{encode_utf8_all}
use Rattle.std.proofs.lemmas.Str.{encodes-chars}
use Rattle.bm_term.specs.Canonical.{RdfTerm, canonical_text}
use Rattle.nt_read.specs.scanning.Found.{IsRawTextOf}

-- a raw text is the canonical text of its term
pub raw_bytes : (text : List ℕ) (term : RdfTerm) → IsRawTextOf text term → text ≡ canonical_text term
raw_bytes text term (utf8, spelled) = sym (encodes-chars text utf8) ∙ ap encode_utf8_all spelled

-- so after a call that may fail
pub pushed_raw : {A E : Type 0} (result : Result A E) (before new text : List ℕ) (term : RdfTerm) → new ≡ (if is_ok result then before ++ text else before) → text ≡ canonical_text term → OnOk result (new ≡ before ++ canonical_text term)
pushed_raw (Ok u) before new text term pushed same = pushed ∙ ap (λ xs. before ++ xs) same
pushed_raw (Err e) before new text term pushed same = tt
