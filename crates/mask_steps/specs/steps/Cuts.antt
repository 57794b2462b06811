-- Carries proofs only: below which number two kinds of places have the same values.
use Rattle.std.specs.Prelude.{ℕ, Option, Some, None}
use Rattle.tree_relations.specs.declared.prepared.PlaceKind.{PlaceKind}
use Rattle.tree_relations.specs.declared.prepared.PlaceKind.TheVariants.{Subject, Object, Predicate}

-- subjects and objects have the shared terms in common, and predicates nothing with either. One kind needs no cut
abbrev pub cut_of : ℕ → PlaceKind → PlaceKind → Option ℕ
cut_of shared Subject Subject = None
cut_of shared Subject Object = Some shared
cut_of shared Subject Predicate = Some 0
cut_of shared Object Subject = Some shared
cut_of shared Object Object = None
cut_of shared Object Predicate = Some 0
cut_of shared Predicate Subject = Some 0
cut_of shared Predicate Object = Some 0
cut_of shared Predicate Predicate = None
