use Rattle.std.specs.Str.{chars}
use Rattle.nt_read.specs.scanning.Found.{label_of}
use Rattle.nt_read.proofs.RawLaws.{begins_with_label, label_is_read, label_is_canonical}
use Rattle.nt_read.proofs.terminals.blank_node_label.Goals as goal

pub before-requires : goal.before-requires
before-requires c =
    (begins_with_label (chars c.args.text.now) (chars c.in_ok-mark.mark.now) (chars c.in_ok-label.label.now) (chars c.in_ok-rest.rest.now)
    c.in_ok-rest.ensures.longest.text c.in_ok-mark.ensures.chars c.in_ok-label.ensures.chars c.in_ok-rest.ensures.longest.split c.in_ok-rest.ensures.chars).has

pub returns-clause-chars : goal.returns-clause-chars
unfolding label_of
returns-clause-chars c =
    rw c.before-2.ensures
    (label_is_read (chars c.args.text.now) (chars c.in_ok-rest.rest.now)
    (begins_with_label (chars c.args.text.now) (chars c.in_ok-mark.mark.now) (chars c.in_ok-label.label.now) (chars c.in_ok-rest.rest.now)
    c.in_ok-rest.ensures.longest.text c.in_ok-mark.ensures.chars c.in_ok-label.ensures.chars c.in_ok-rest.ensures.longest.split c.in_ok-rest.ensures.chars))

pub returns-clause-is : goal.returns-clause-is
unfolding label_of
returns-clause-is c = (
  (
    c.before-2.utf8,
    rw c.before-2.ensures
        (label_is_canonical (chars c.args.text.now) (chars c.in_ok-rest.rest.now)
        (begins_with_label (chars c.args.text.now) (chars c.in_ok-mark.mark.now) (chars c.in_ok-label.label.now) (chars c.in_ok-rest.rest.now)
        c.in_ok-rest.ensures.longest.text c.in_ok-mark.ensures.chars c.in_ok-label.ensures.chars c.in_ok-rest.ensures.longest.split c.in_ok-rest.ensures.chars)),
  ),
  c.in_ok-rest.ensures.utf8,
)
