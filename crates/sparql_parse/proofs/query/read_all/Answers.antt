use Rattle.std.proofs.Common.{inl, inr, sym, ◌∙◌}
use Rattle.sparql_parse.specs.held.Readers.{reading_in}
use Rattle.sparql_parse.proofs.ReadingLaws.{place-fault, place-more, place-spelled, place-end}
use Rattle.sparql_parse.proofs.query.read_all.Goals as goal

pub take-requires-clause-spelled : goal.take-requires-clause-spelled
take-requires-clause-spelled c = place-spelled c.args.tokens.now c.loop-token.token-index _ c.loop-token-test.true c.requires.spelled

pub returns-in-Err-clause-fault : goal.returns-in-Err-clause-fault
returns-in-Err-clause-fault c =
    elim c.in-Err.ensures.fault [
      | inl memory ↦ inl memory
      | inr fault ↦ inr (
          sym c.loop-token.invariant.0
          ∙ place-fault c.args.tokens.now c.loop-token.token-index _ (reading_in c.loop-token.reader) c.in-Err.fault c.loop-token-test.true fault)
    ]

pub loop-token-preserved : goal.loop-token-preserved
loop-token-preserved c = (
  sym (place-more c.args.tokens.now c.loop-token.token-index _ (reading_in c.loop-token.reader) (reading_in c.take.new.self) c.loop-token-test.true c.in-Ok.ensures.read)
      ∙ c.loop-token.invariant.0,
  c.in-Ok.ensures.kept,
)

pub returns-clause-read : goal.returns-clause-read
returns-clause-read c =
    sym c.loop-token.invariant.0 ∙ place-end c.args.tokens.now c.loop-token.token-index (reading_in c.loop-token.reader) c.loop-token-test.false
