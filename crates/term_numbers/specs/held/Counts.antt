-- Carries proofs only: four lists in a row, by their lengths.
use Rattle.std.specs.Prelude.{◌≡◌, ◌+◌, ◌<◌, ◌^◌, ℕ, List, length, take, drop}
use Rattle.term_numbers.specs.Order.{Numbered}
use Rattle.term_numbers.specs.Numbering.{Terms}

-- the terms of a table, where so many are shared, subjects alone, and objects alone
abbrev pub terms_at : ℕ → ℕ → ℕ → List (List ℕ) → Terms
terms_at shared subjects objects table = record {
  shared = take shared table;
  subjects = take subjects (drop shared table);
  objects = take objects (drop subjects (drop shared table));
  predicates = drop objects (drop subjects (drop shared table));
}

-- the counts make all texts together, and the triples can be counted in four bytes
pub record AreCounts (shared subjects objects predicates : ℕ) (table : List (List ℕ)) (triples : List Numbered) : Type 0 where
  pub all : length table ≡ shared + subjects + objects + predicates
  pub few : length triples < 2 ^ 32
