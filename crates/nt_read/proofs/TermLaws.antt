-- What terminals stand for are terms.
use Rattle.std.proofs.Common.{◌≡◌, ℕ, true, inl, inr, List}
use Rattle.std.specs.List.{list_all}
use Rattle.std.specs.Str.{all_scalars}
use Rattle.rdf_text.specs.Classes.{is_scalar, is_irichar}
use Rattle.rdf_text.specs.Marks.{quotation_mark}
use Rattle.bm_term.specs.Canonical.{RdfTerm, iri, blank, plain, tagged, typed, IsTerm, IsLowerTag}
use Rattle.bm_term.proofs.LowerTags.{IsLowerTag-lowercase}
use Rattle.rdf_escapes.specs.Iris.{IsIriPiece, IsIriRef}
use Rattle.rdf_escapes.specs.Strings.{IsStringPiece, IsString}
use Rattle.rdf_escapes.proofs.Members.{members_of, scalars_are_characters, string_piece_is_scalar}
use Rattle.nt_read.specs.Terminals.{IsLowerLangtag}
use Rattle.nt_read.specs.Line.{IsSubject, IsPredicate, IsObject}

-- the lexical form of a string is of characters
lexical_scalars : (text lexical : List ℕ) → IsString quotation_mark text lexical → all_scalars lexical ≡ true
lexical_scalars text lexical (body, star, spelled) =
    scalars_are_characters lexical (members_of (IsStringPiece quotation_mark) is_scalar (string_piece_is_scalar quotation_mark) lexical body star)

-- an IRI is of IRICHARs
iri_has_members : (text iri : List ℕ) → IsIriRef text iri → list_all is_irichar iri ≡ true
iri_has_members text cs (body, star, spelled) = members_of IsIriPiece is_irichar (λ piece c is. is.0) cs body star

-- a language tag is in lower case
tag_is_lower : (text tag : List ℕ) → IsLowerLangtag text tag → IsLowerTag tag
tag_is_lower text tag (written, (is, spelled), lower) = rw lower (IsLowerTag-lowercase written is)

-- a subject is a term
pub subject_is_term : (term : RdfTerm) (whole rest : List ℕ) → IsSubject whole term rest → IsTerm term
subject_is_term (iri cs) whole rest t = iri_has_members t.text cs t.is
subject_is_term (blank label) whole rest t = t.is.0
subject_is_term (plain lexical) whole rest t = absurd t
subject_is_term (tagged lexical tag) whole rest t = absurd t
subject_is_term (typed lexical datatype) whole rest t = absurd t

-- a predicate is a term
pub predicate_is_term : (term : RdfTerm) (whole rest : List ℕ) → IsPredicate whole term rest → IsTerm term
predicate_is_term (iri cs) whole rest t = iri_has_members t.text cs t.is
predicate_is_term (blank label) whole rest t = absurd t
predicate_is_term (plain lexical) whole rest t = absurd t
predicate_is_term (tagged lexical tag) whole rest t = absurd t
predicate_is_term (typed lexical datatype) whole rest t = absurd t

-- an object is a term
pub object_is_term : (term : RdfTerm) (whole rest : List ℕ) → IsObject whole term rest → IsTerm term
object_is_term (iri cs) whole rest t = iri_has_members t.text cs t.is
object_is_term (blank label) whole rest t = t.is.0
object_is_term (plain lexical) whole rest (inl t) = lexical_scalars t.text lexical t.is
object_is_term (plain lexical) whole rest (inr (end, mark, t, m, u)) = lexical_scalars t.text lexical t.is
object_is_term (tagged lexical tag) whole rest (end, t, u) = (lexical_scalars t.text lexical t.is, tag_is_lower u.text tag u.is)
object_is_term (typed lexical datatype) whole rest ((end, mark, t, m, u), other) =
    (lexical_scalars t.text lexical t.is, iri_has_members u.text datatype u.is, other)
