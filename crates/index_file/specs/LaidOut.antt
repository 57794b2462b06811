-- What can be laid out in a file, and which bytes a layout is read from.
use Rattle.std.specs.Prelude.{◌≡◌, ℕ, ◌+◌, ◌*◌, ◌^◌, ◌<◌, ◌≤◌, List, length}
use Rattle.byte_tables.specs.Pieces.{CutWhole, HaveBytes}
use Rattle.term_numbers.specs.Limits.{max_triples}
use Rattle.index_file.specs.Conditions.{HeaderIsKnown, LengthsAgree}
use Rattle.index_file.specs.Layout.{Layout, file_size, field, text_starts, slice_starts}

-- a layout whose counts are those of its lists, each text and slice of which has a byte, and whose numbers fit
pub record CanBeLaidOut (l : Layout) : Type 0 where
  pub texts : length l.texts ≡ l.shared + l.subjects + l.objects + l.predicates
  pub slices : length l.slices ≡ 2 * l.predicates + (l.shared + l.objects) + (l.shared + l.subjects)
  pub have_texts : HaveBytes l.texts
  pub have_slices : HaveBytes l.slices
  pub known : l.version < 2 ^ 32
  pub few : l.triples ≤ max_triples
  pub short : file_size l < 2 ^ 32

-- the header is known, the lengths agree, and both tables are cut whole
pub record IsLaidOut (version : ℕ) (bytes : List ℕ) : Type 0 where
  pub header : HeaderIsKnown version bytes
  pub lengths : LengthsAgree bytes
  pub texts : CutWhole (field bytes 6) (text_starts bytes)
  pub slices : CutWhole (field bytes 7) (slice_starts bytes)
