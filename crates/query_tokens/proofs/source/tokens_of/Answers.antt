use Rattle.std.proofs.Common.{◌≡◌, ◌-◌, [], length, arith, append-nil, map, subst}
use Rattle.std.proofs.lemmas.List.{map-append}
use Rattle.query_tokens.specs.Token.{shown}
use Rattle.std.specs.Str.{chars}
use Rattle.query_tokens.specs.Tokens.{AreTokensFrom}
use Rattle.query_tokens.proofs.PrefixBounds.{none_at_first}
use Rattle.query_tokens.proofs.TokenLists.{one_more_token}
use Rattle.query_tokens.proofs.source.tokens_of.Goals as goal

pub loop-token-init : goal.loop-token-init
loop-token-init c = (
  c.utf8.source,
  omega arith,
  none_at_first c.args.source.now c.utf8.source,
  λ others are.
      let start : length c.args.source.now - length c.args.source.now ≡ 0 = omega arith in
      rw c.new-tokens.ensures.items (subst (λ n. AreTokensFrom n (chars c.args.source.now) others) start are),
)

pub loop-token-preserved : goal.loop-token-preserved
loop-token-preserved c = (
  c.in-Some.ensures.utf8,
  omega (arith, c.in-Some.ensures.end),
  c.in-Some.ensures.known,
  λ others are.
      rw (c.in_ok-push.ensures.items, map-append)
      (one_more_token c.args.source.now c.loop-token.rest.now c.in-Some.after.now (map shown c.loop-token.tokens.items) (shown c.in-Some.token) c.loop-token.invariant.3 c.in-Some.ensures.token c.in-Some.ensures.end others are),
)

pub returns : goal.returns
returns c = rw append-nil at (c.loop-token.invariant.3 [] c.in_default.ensures.none)
