use Rattle.std.proofs.Common.{sym, subst, Some, None, reverse}
use Rattle.std.specs.Option.{IfSome}
use Rattle.std.specs.List.{find}
use Rattle.sparql_parse.specs.held.Namespaces.{IsNamespace}
use Rattle.sparql_parse.proofs.NamespaceLaws.{by_bytes, namespace_found, find-All, All-reverse}
use Rattle.sparql_parse.proofs.namespaces.iri_of_prefix.Goals as goal

pub returns-in-Some-clause-found : goal.returns-in-Some-clause-found
returns-in-Some-clause-found c =
    rw c.as_str.ensures.value (sym (namespace_found c.args.prefix.now c.utf8.prefix c.args.list.now c.requires (Some c.in-Some.namespace.now) c.in-Some.ensures))

pub returns-in-Some-clause-characters : goal.returns-in-Some-clause-characters
returns-in-Some-clause-characters c =
    let found : IfSome (find (by_bytes c.args.prefix.now) (reverse c.args.list.now)) IsNamespace =
    find-All IsNamespace (by_bytes c.args.prefix.now) (reverse c.args.list.now) (All-reverse IsNamespace c.args.list.now c.requires) in
    let here : IsNamespace c.in-Some.namespace.now = subst (λ o. IfSome o IsNamespace) (sym c.in-Some.ensures) found in
    rw c.as_str.ensures.value here.iri_characters

pub returns-in-None-clause-found : goal.returns-in-None-clause-found
returns-in-None-clause-found c =
    sym (namespace_found c.args.prefix.now c.utf8.prefix c.args.list.now c.requires None c.in-None.ensures)
