-- Carries proofs only: nodes of the code, as those of the syntax tree, and the tokens that they may have.
use Rattle.std.specs.Prelude.{◌≡◌}
use Rattle.query_tokens.specs.Token.{shown}
use Rattle.query_tokens.specs.declared.token.TokenKind.TheVariants as kinds
use Rattle.query_grammar.specs.Tree.{Node, VariableNode, IriNode, StringNode, TaggedNode, TypedNode, NumberNode, BooleanNode, TypeNode}
use Rattle.sparql_parse.specs.declared.node.Node.{Node as CodeNode}
use Rattle.sparql_parse.specs.declared.node.Node.TheVariants as nodes
use Rattle.query_values.specs.reading.Values.{IsSpelled}

abbrev pub node_in : CodeNode → Node
node_in (nodes.Variable token) = VariableNode (shown token)
node_in (nodes.Iri token) = IriNode (shown token)
node_in (nodes.Quoted token) = StringNode (shown token)
node_in (nodes.Tagged token tag) = TaggedNode (shown token) (shown tag)
node_in (nodes.Typed token datatype) = TypedNode (shown token) (shown datatype)
node_in (nodes.Number token) = NumberNode (shown token)
node_in (nodes.Boolean token) = BooleanNode (shown token)
node_in (nodes.Type token) = TypeNode (shown token)

-- each token of the node is spelled, and a tag is one
abbrev pub IsSound : Node → Type 0
IsSound (VariableNode token) = IsSpelled token
IsSound (IriNode token) = IsSpelled token
IsSound (StringNode token) = IsSpelled token
IsSound (TaggedNode token tag) = IsSpelled token × IsSpelled tag × (tag.kind ≡ kinds.Tag)
IsSound (TypedNode token datatype) = IsSpelled token × IsSpelled datatype
IsSound (NumberNode token) = IsSpelled token
IsSound (BooleanNode token) = IsSpelled token
IsSound (TypeNode token) = Unit {0}
