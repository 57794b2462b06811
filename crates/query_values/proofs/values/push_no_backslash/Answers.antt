use Rattle.std.proofs.Common.{◌∙◌, sym, append-nil}
use Rattle.std.specs.Prelude.{string_bytes}
use Rattle.query_values.proofs.TermLaws.{pushed_one}
use Rattle.query_values.proofs.values.push_no_backslash.Goals as goal

pub returns-then-is_no_backslash : goal.returns-then-is_no_backslash
returns-then-is_no_backslash c =
    rw (sym c.is_no_backslash.ensures ∙ c.if-is_no_backslash.true)
    (pushed_one c.push.result (string_bytes c.args.out.now) (string_bytes c.push.new.self) c.args.c c.push.ensures.bytes)

pub returns : goal.returns
returns c =
    rw (sym c.is_no_backslash.ensures ∙ c.if-is_no_backslash.false) (sym (append-nil (string_bytes c.args.out.now)))
