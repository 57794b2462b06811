-- Worked examples of the definitions.
use Rattle.std.proofs.Common.{◌≡◌, ℕ, true, false, refl, Some, List, [], ◌∷◌}
use Rattle.std.specs.Prelude.{codes}
use Rattle.bm_term.specs.declared.triple.Triple.{Triple}
use Rattle.bm_term.specs.Canonical.{iri, blank, plain, tagged, typed, canonical_chars}
use Rattle.rdf_text.specs.Spelling.{escape_letter}
use Rattle.bm_term.specs.Kept.{after, after_all}

-- the texts of terms
text_of_iri : canonical_chars (iri (codes "urn:a")) ≡ codes "<urn:a>"
text_of_iri = refl

-- the text of a blank node
text_of_blank : canonical_chars (blank (codes "b1")) ≡ codes "_:b1"
text_of_blank = refl

-- a"b, a line feed and a backslash
text_of_plain : canonical_chars (plain (0x61 ∷ 0x22 ∷ 0x62 ∷ 0xA ∷ 0x5C ∷ [])) ≡ codes "\"a\\\"b\\n\\\\\""
unfolding escape_letter
text_of_plain = refl

-- the text of a literal with a language tag
text_of_tagged : canonical_chars (tagged (codes "Ann") (codes "en-gb")) ≡ codes "\"Ann\"@en-gb"
unfolding escape_letter
text_of_tagged = refl

-- the text of a literal with another datatype
text_of_typed : canonical_chars (typed (codes "41") (codes "urn:int")) ≡ codes "\"41\"^^<urn:int>"
unfolding escape_letter
text_of_typed = refl

-- what is kept under a limit of one: the first triple, and then a mark that there was another
triple_on : List ℕ → Triple
triple_on object = record { subject = codes "<a>"; predicate = codes "<p>"; object = object }

-- the first triple is kept
first_is_kept : after (record { list = []; limit = Some 1; were_more = false }) (triple_on (codes "<b>")) ≡ record { list = triple_on (codes "<b>") ∷ []; limit = Some 1; were_more = false }
unfolding triple_on
first_is_kept = refl

-- the same triple again changes nothing
again_is_kept_once : after_all (record { list = []; limit = Some 1; were_more = false }) (triple_on (codes "<b>") ∷ triple_on (codes "<b>") ∷ []) ≡ record { list = triple_on (codes "<b>") ∷ []; limit = Some 1; were_more = false }
unfolding triple_on
again_is_kept_once = refl

-- another triple is marked
another_is_marked : after_all (record { list = []; limit = Some 1; were_more = false }) (triple_on (codes "<b>") ∷ triple_on (codes "<c>") ∷ []) ≡ record { list = triple_on (codes "<b>") ∷ []; limit = Some 1; were_more = true }
unfolding triple_on
another_is_marked = refl
