use Rattle.std.proofs.Common.{◌≡◌, max, rules}
use Rattle.std.specs.Option.{option_map}
use Rattle.run_rows.specs.Encoding.{runs_in}
use Rattle.run_rows.proofs.LeastLaws.{IsLeastFrom-find}
use Rattle.run_rows.proofs.runs.at_least.Goals as goal

pub returns : goal.returns
returns c =
    let mapped : c.map.result ≡ option_map (λ r. max r.start c.args.n) c.first_past.result = search rules in
    rw (mapped, c.first_past.ensures) (IsLeastFrom-find c.args.n 0 _ (runs_in c.args.bytes.now) c.requires.runs)
