-- the token is a tag, so its kind is that of tags
use Rattle.std.proofs.Common.{sym, ◌∙◌, subst}
use Rattle.query_tokens.specs.Token.{shown}
use Rattle.sparql_parse.specs.held.Nodes.{IsSound, node_in}
use Rattle.sparql_parse.specs.declared.node.Node.{Node}
use Rattle.sparql_parse.proofs.TokenTerminals.{terminal_of-tag}
use Rattle.sparql_parse.proofs.node.with_tag.Goals as goal

pub returns-in-Tag-Quoted-clause-sound : goal.returns-in-Tag-Quoted-clause-sound
returns-in-Tag-Quoted-clause-sound c =
    (subst (λ (n : Node). IsSound (node_in n)) c.in-Tag-Quoted.is-1 c.requires.sound, c.requires.spelled, terminal_of-tag (shown c.args.tag) (sym c.terminal_of.ensures ∙ c.in-Tag-Quoted.is-0))
