use Rattle.std.proofs.Common.{◌≡◌, ◌↔◌, ◌+◌, ◌-◌, ◌^◌, ◌≤◌, min, length, drop}
use Rattle.std.specs.List.{flat_map}
use Rattle.index_file.specs.Conditions.{AreSlices}
use Rattle.index_file.specs.Image.{slice_pairs}
use Rattle.index_file.proofs.rows.count_all_pairs.Given as goal

abbrev pub invariant-loop-i : goal.invariant-loop-i
invariant-loop-i l = record {
  slices : AreSlices l.form l.rows l.columns l.slices ↔ AreSlices l.form l.rows l.columns (drop l.i l.slices);
  pairs : min (l.total + length (flat_map (slice_pairs l.form) (drop l.i l.slices))) (2 ^ 64 - 1) ≡ min (length (flat_map (slice_pairs l.form) l.slices)) (2 ^ 64 - 1);
  fits : l.total ≤ 2 ^ 64 - 1;
}
