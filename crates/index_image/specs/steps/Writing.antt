-- Carries proofs only: a table of pieces that is being written.
use Rattle.std.specs.Prelude.{◌≡◌, ℕ, ◌+◌, ◌-◌, ◌*◌, ◌≤◌, List, ◌++◌, length, take, drop}
use Rattle.std.specs.Int.{w32, to_le_bytes}
use Rattle.byte_tables.specs.Numbers.{number_bytes}
use Rattle.byte_tables.specs.Pieces.{joined, ends_from}

-- the bytes before the table, the bytes of the starts so far, how many starts are to come, and the bytes of the pieces so far
pub record Writing : Type 0 where
  pub front : List ℕ
  pub starts : List ℕ
  pub left : ℕ
  pub pieces : List ℕ

-- the table begins at a place, and the next start has its place
abbrev pub writing_at : ℕ → ℕ → ℕ → List ℕ → Writing
writing_at table next left bytes = record {
  front = take table bytes;
  starts = take (next - table) (drop table bytes);
  left = left;
  pieces = drop (next + 4 * left) bytes;
}

pub record IsWritingAt (table next left : ℕ) (bytes : List ℕ) : Type 0 where
  pub table_first : table ≤ next
  pub room : next + 4 * left ≤ length bytes

-- a piece that is there already has its end written
abbrev pub with_end : Writing → Writing
with_end w = record {
  front = w.front;
  starts = w.starts ++ to_le_bytes w32 (length w.pieces);
  left = w.left - 1;
  pieces = w.pieces;
}

-- pieces were put at the end
pub record PutsPieces (old new : Writing) (ps : List (List ℕ)) : Type 0 where
  pub front : new.front ≡ old.front
  pub starts : new.starts ≡ old.starts ++ number_bytes (ends_from (length old.pieces) ps)
  pub left : new.left + length ps ≡ old.left
  pub pieces : new.pieces ≡ old.pieces ++ joined ps
