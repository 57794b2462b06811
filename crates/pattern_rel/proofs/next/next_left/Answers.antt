use Rattle.std.proofs.Common.{◌≡◌, ◌-◌, ◌^◌, Some, None}
use Rattle.pattern_rel.specs.Shapes.{lines_of_shape}
use Rattle.pattern_rel.proofs.NextLaws.{find_found}
use Rattle.pattern_rel.proofs.next.next_left.Goals as goal

pub returns-in-None-Some : goal.returns-in-None-Some
returns-in-None-Some c =
    let same : c.args.bound ≡ record { first = None; second = Some c.in-None-Some.second } = λ i. record { first = c.in-None-Some.is-0 i; second = c.in-None-Some.is-1 i } in
    rw same (find_found (2 ^ 32 - 1) (2 ^ 32 - 1) c.args.firsts.now c.args.seconds.now (lines_of_shape c.args.shape.now) None (Some c.in-None-Some.second) c.args.after c.next_in_column.result c.lines_ascend.ensures c.next_in_column.ensures)

pub returns-in-Some-None : goal.returns-in-Some-None
returns-in-Some-None c =
    let same : c.args.bound ≡ record { first = Some c.in-Some-None.first; second = None } = λ i. record { first = c.in-Some-None.is-0 i; second = c.in-Some-None.is-1 i } in
    rw same (find_found (2 ^ 32 - 1) (2 ^ 32 - 1) c.args.firsts.now c.args.seconds.now (lines_of_shape c.args.shape.now) (Some c.in-Some-None.first) None c.args.after c.next_in_row.result c.lines_ascend.ensures c.next_in_row.ensures)

pub returns-in-Some-Some : goal.returns-in-Some-Some
returns-in-Some-Some c =
    let same : c.args.bound ≡ record { first = Some c.in-Some-Some.first; second = Some c.in-Some-Some.second } = λ i. record { first = c.in-Some-Some.is-0 i; second = c.in-Some-Some.is-1 i } in
    rw same (find_found (2 ^ 32 - 1) (2 ^ 32 - 1) c.args.firsts.now c.args.seconds.now (lines_of_shape c.args.shape.now) (Some c.in-Some-Some.first) (Some c.in-Some-Some.second) c.args.after c.this_pair.result c.lines_ascend.ensures c.this_pair.ensures)
