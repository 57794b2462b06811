-- What is kept after lists of triples.
use Rattle.std.proofs.Common.{◌≡◌, List, [], ◌∷◌, ◌++◌, refl, ap, ◌∙◌, sym, append_assoc, append-nil}
use Rattle.bm_term.specs.declared.triple.Triple.{Triple}
use Rattle.bm_term.specs.Kept.{Kept, after, after_all, unlimited}

-- two lists in a row are taken as one
pub after_all-append : (kept : Kept) (first second : List Triple) → after_all kept (first ++ second) ≡ after_all (after_all kept first) second
after_all-append kept [] second = refl
after_all-append kept (t ∷ ts) second = after_all-append (after kept t) ts second

-- without a limit a list is put at the end
pub after_all-unlimited : (list triples : List Triple) → after_all (unlimited list) triples ≡ unlimited (list ++ triples)
after_all-unlimited list [] = ap unlimited (sym (append-nil list))
after_all-unlimited list (t ∷ ts) = after_all-unlimited (list ++ t ∷ []) ts ∙ ap unlimited (append_assoc list (t ∷ []) ts)
