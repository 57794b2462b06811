-- Each token that the push parser reads makes of what follows it what follows before it; so what is read to its end
-- is a query of the grammar.
use Rattle.std.proofs.Common.{ℕ, zero, suc, inl, inr, List, [], ◌∷◌, Option, Some, None, refl, sym, ap, subst}
use Rattle.query_tokens.specs.Token.{Lexeme}
use Rattle.query_grammar.specs.declared.terminal.Terminal.{Terminal}
use Rattle.query_grammar.specs.declared.terminal.Terminal.TheVariants as terminals
use Rattle.query_grammar.specs.declared.syntax.Role.{Role}
use Rattle.query_grammar.specs.declared.syntax.Role.TheVariants as roles
use Rattle.query_grammar.specs.declared.expect.Expect.{Expect}
use Rattle.query_grammar.specs.declared.expect.Expect.TheVariants as expects
use Rattle.query_grammar.specs.declared.expect.State.{State}
use Rattle.query_grammar.specs.declared.expect.Step.{Step}
use Rattle.query_grammar.specs.Terminals.{terminal_of}
use Rattle.query_grammar.specs.Roles.{Labelled, with_role}
use Rattle.query_grammar.specs.Tree.{Node, VariableNode, IriNode, NumberNode, BooleanNode, TypeNode, Property, Same, Elements, EndOfGroup, Element, OptionalGroup, NestedGroup, Group, Declaration, Columns, AllColumns, Variables}
use Rattle.query_grammar.specs.Grammar.{◌▸◌, none, more, Maybe, SomeToken, Keyword, IsNode, IsVerb, AreMoreObjects, AreObjects, AreMoreProperties, AreProperties, AreMoreSames, IsBlock, InBraces, AreElements, IsGroup, AreColumns, IsDistinct, IsPrologue, IsQuery}
use Rattle.query_grammar.specs.Expecting.{step_at, next_step, outside, start, ended}
use Rattle.query_grammar.proofs.Remainders.{main_group, with_column, with_declaration, open_group, as_optional, Suffix, NoSuffix, TagSuffix, TypeSuffix, Remainder, group_of, property_of, same_of, string_node, nothing_left, grow, remainder_of, tree_left}
use Rattle.query_grammar.proofs.Carrying.{Reads}
use Rattle.query_grammar.proofs.Following.{Outside, Rest, IsDatatype, IsSuffix, AfterSemicolon, AfterSubject, AfterObjects, NestedFirst, WhereOrGroup, MoreColumns, Prologue, DeclaredPrefix, Namespace, Follows, OnStep, Grows, Front, on-step}

string-node : (role : Role) (token : Lexeme) (suffix : Suffix) (ls to : List Labelled) → Front terminals.Quoted token →
    IsSuffix suffix ls to → IsNode role (string_node token suffix) (with_role role token ∷ ls) to
string-node role token NoSuffix ls to is e = (is, ap (λ rest. with_role role token ∷ rest) e)
string-node role token (TagSuffix tag) ls to is spelled = (ls, (is, refl), spelled)
string-node role token (TypeSuffix iri) ls to is spelled = (ls, (is, refl), spelled)

-- the three tokens of elements
optional-rest : (n : ℕ) (token : Lexeme) (r : Remainder) (ls : List Labelled) → Front terminals.OptionalWord token →
    NestedFirst r.elements (suc n) r.outer ls [] → Rest n (grow roles.Optional terminals.OptionalWord token r) (with_role roles.Optional token ∷ ls) []
optional-rest n token r ls is nested = of_parts r.elements nested where
  of_parts : (elements : Elements) → NestedFirst elements (suc n) r.outer ls [] → (AreElements (as_optional elements) ▸ SomeToken terminals.Close roles.Close ▸ Outside n r.outer) (with_role roles.Optional token ∷ ls) []
  of_parts EndOfGroup nested = absurd nested
  of_parts (Element OptionalGroup block elements next rest) nested = absurd nested
  of_parts (Element NestedGroup block elements next rest) (m1, braces, (m2, stop, (m3, spelled, (m4, elements_spelled, closing)))) =
      (m4, (ls, (token, (is, refl)), (m1, braces, (m2, stop, (m3, spelled, elements_spelled)))), closing)

-- a group that is the first of the elements, and what follows it
nested-elements : (elements : Elements) (n : ℕ) (outer : List Group) (all : List Labelled) → NestedFirst elements (suc n) outer all [] →
    (AreElements elements ▸ SomeToken terminals.Close roles.Close ▸ Outside n outer) all []
nested-elements EndOfGroup n outer all nested = absurd nested
nested-elements (Element OptionalGroup block elements next rest) n outer all nested = absurd nested
nested-elements (Element NestedGroup block elements next rest) n outer all (m1, braces, (m2, stop, (m3, spelled, (m4, elements_spelled, closing)))) =
    (m4, (m1, braces, (m2, stop, (m3, spelled, elements_spelled))), closing)

outside-none : (n : ℕ) (ls : List Labelled) → Outside n [] ls [] → Outside n (group_of [] EndOfGroup ∷ []) ls []
outside-none zero ls e = e
outside-none (suc n) ls never = absurd never

open-outer : (n : ℕ) (token : Lexeme) (r : Remainder) (ls : List Labelled) → Front terminals.Open token → (outer : List Group) →
    (IsBlock r.block ▸ AreElements r.elements ▸ SomeToken terminals.Close roles.Close ▸ Outside n outer) ls [] →
    NestedFirst (open_group r outer).elements n (open_group r outer).outer (with_role roles.Open token ∷ ls) []
open-outer n token r ls is [] (m1, block, (m2, elements, (m3, closed, out))) =
    (m3, (ls, (token, (is, refl)), (m2, (m1, block, elements), closed)), outside-none n m3 out)
open-outer n token r ls is (group ∷ outer) (m1, block, (m2, elements, (m3, closed, out))) =
    (m3, (ls, (token, (is, refl)), (m2, (m1, block, elements), closed)), out)

open-group : (n : ℕ) (token : Lexeme) (r : Remainder) (ls : List Labelled) → Front terminals.Open token → (IsBlock r.block ▸ Rest n r) ls [] →
    NestedFirst (open_group r r.outer).elements n (open_group r r.outer).outer (with_role roles.Open token ∷ ls) []
open-group n token r ls is follows = open-outer n token r ls is r.outer follows

open-rest : (n : ℕ) (token : Lexeme) (r : Remainder) (ls : List Labelled) → Front terminals.Open token → (IsBlock r.block ▸ Rest (suc n) r) ls [] →
    Rest n (grow roles.Open terminals.Open token r) (with_role roles.Open token ∷ ls) []
open-rest n token r ls is follows =
    nested-elements (open_group r r.outer).elements n (open_group r r.outer).outer (with_role roles.Open token ∷ ls) (open-group (suc n) token r ls is follows)

close-outside : (n : ℕ) (r : Remainder) (ls : List Labelled) → Follows (outside n).expect (outside n).groups r ls → Outside n (group_of r.block r.elements ∷ r.outer) ls []
close-outside zero r ls e = e
close-outside (suc n) r ls follows = follows

close-rest : (n : ℕ) (token : Lexeme) (r : Remainder) (ls : List Labelled) → Front terminals.Close token → Follows (outside n).expect (outside n).groups r ls →
    Rest n (grow roles.Close terminals.Close token r) (with_role roles.Close token ∷ ls) []
close-rest n token r ls is follows = (_, refl, (ls, (token, (is, refl)), close-outside n r ls follows))

-- a subject
subject-rest : (n : ℕ) (node : Node) (r : Remainder) (from ls : List Labelled) → IsNode roles.Subject node from ls → AfterSubject n r ls [] →
    (IsBlock (same_of node r.properties ∷ r.block) ▸ Rest n r) from []
subject-rest n node r from ls is (m1, properties, (m2, sames, rest)) = (m2, (m1, (ls, is, properties), sames), rest)

block-grows : (n : ℕ) (terminal : Terminal) (token : Lexeme) → Front terminal token → (r : Remainder) (ls : List Labelled) → Grows expects.Block (suc n) terminal token r ls
block-grows n terminals.Variable token is r ls = λ follows. subject-rest n (VariableNode token) r _ ls (is, refl) follows
block-grows n terminals.Iri token is r ls = λ follows. subject-rest n (IriNode token) r _ ls (inl (is, refl)) follows
block-grows n terminals.Prefixed token is r ls = λ follows. subject-rest n (IriNode token) r _ ls (inr (inl (is, refl))) follows
block-grows n terminals.Prefix token is r ls = λ follows. subject-rest n (IriNode token) r _ ls (inr (inr (is, refl))) follows
block-grows n terminals.Quoted token is r ls = λ (m, suffix, follows).
    subject-rest n (string_node token r.suffix) r _ m (string-node roles.Subject token r.suffix ls m is suffix) follows
block-grows n terminals.Number token is r ls = λ follows. subject-rest n (NumberNode token) r _ ls (is, refl) follows
block-grows n terminals.Boolean token is r ls = λ follows. subject-rest n (BooleanNode token) r _ ls (is, refl) follows
block-grows n terminals.OptionalWord token is r ls = λ follows. (_, refl, optional-rest n token r ls is follows)
block-grows n terminals.Open token is r ls = λ follows. (_, refl, open-rest n token r ls is follows)
block-grows n terminals.Close token is r ls = λ follows. (_, refl, close-rest n token r ls is follows)
block-grows n _ token is r ls = tt

after_element-grows : (n : ℕ) (terminal : Terminal) (token : Lexeme) → Front terminal token → (r : Remainder) (ls : List Labelled) → Grows expects.AfterElement (suc n) terminal token r ls
after_element-grows n terminals.Stop token is r ls = λ follows. (ls, inl (token, (is, refl)), follows)
after_element-grows n terminals.Variable token is r ls = λ follows. (_, inr refl, block-grows n terminals.Variable token is r ls follows)
after_element-grows n terminals.Iri token is r ls = λ follows. (_, inr refl, block-grows n terminals.Iri token is r ls follows)
after_element-grows n terminals.Prefixed token is r ls = λ follows. (_, inr refl, block-grows n terminals.Prefixed token is r ls follows)
after_element-grows n terminals.Prefix token is r ls = λ follows. (_, inr refl, block-grows n terminals.Prefix token is r ls follows)
after_element-grows n terminals.Quoted token is r ls = λ follows. (_, inr refl, block-grows n terminals.Quoted token is r ls follows)
after_element-grows n terminals.Number token is r ls = λ follows. (_, inr refl, block-grows n terminals.Number token is r ls follows)
after_element-grows n terminals.Boolean token is r ls = λ follows. (_, inr refl, block-grows n terminals.Boolean token is r ls follows)
after_element-grows n terminals.OptionalWord token is r ls = λ follows. (_, inr refl, block-grows n terminals.OptionalWord token is r ls follows)
after_element-grows n terminals.Open token is r ls = λ follows. (_, inr refl, block-grows n terminals.Open token is r ls follows)
after_element-grows n terminals.Close token is r ls = λ follows. (_, inr refl, block-grows n terminals.Close token is r ls follows)
after_element-grows n _ token is r ls = tt

-- a verb
verb-rest : (n : ℕ) (node : Node) (r : Remainder) (from ls : List Labelled) → IsVerb node from ls → (AreObjects r.objects ▸ AfterObjects n r) ls [] →
    (AreProperties (property_of node r.objects ∷ r.properties) ▸ AreMoreSames r.block ▸ Rest n r) from []
verb-rest n node r from ls is (m1, objects, (m2, properties, rest)) = (m2, (m1, (ls, is, objects), properties), rest)

verb-grows : (n : ℕ) (terminal : Terminal) (token : Lexeme) → Front terminal token → (r : Remainder) (ls : List Labelled) → Grows expects.Verb (suc n) terminal token r ls
verb-grows n terminals.Variable token is r ls = λ follows. verb-rest n (VariableNode token) r _ ls (is, refl) follows
verb-grows n terminals.Iri token is r ls = λ follows. verb-rest n (IriNode token) r _ ls (inl (is, refl)) follows
verb-grows n terminals.Prefixed token is r ls = λ follows. verb-rest n (IriNode token) r _ ls (inr (inl (is, refl))) follows
verb-grows n terminals.Prefix token is r ls = λ follows. verb-rest n (IriNode token) r _ ls (inr (inr (is, refl))) follows
verb-grows n terminals.A token is r ls = λ follows. verb-rest n (TypeNode token) r _ ls (is, refl) follows
verb-grows n _ token is r ls = tt

-- the '^^' of a datatype
carets-suffix : (token : Lexeme) → Front terminals.Carets token → (suffix : Suffix) (ls to : List Labelled) → IsDatatype suffix ls to →
    IsSuffix suffix (with_role roles.Keyword token ∷ ls) to
carets-suffix token is NoSuffix ls to never = absurd never
carets-suffix token is (TagSuffix tag) ls to never = absurd never
carets-suffix token is (TypeSuffix iri) ls to spelled = (ls, (token, (is, refl)), spelled)

after_subject_string-grows : (n : ℕ) (terminal : Terminal) (token : Lexeme) → Front terminal token → (r : Remainder) (ls : List Labelled) → Grows expects.AfterSubjectString (suc n) terminal token r ls
after_subject_string-grows n terminals.Tag token is r ls = λ follows. (ls, (is, refl), follows)
after_subject_string-grows n terminals.Carets token is r ls = λ (m, datatype, follows). (m, carets-suffix token is r.suffix ls m datatype, follows)
after_subject_string-grows n terminals.Variable token is r ls = λ follows. (_, refl, verb-grows n terminals.Variable token is r ls follows)
after_subject_string-grows n terminals.Iri token is r ls = λ follows. (_, refl, verb-grows n terminals.Iri token is r ls follows)
after_subject_string-grows n terminals.Prefixed token is r ls = λ follows. (_, refl, verb-grows n terminals.Prefixed token is r ls follows)
after_subject_string-grows n terminals.Prefix token is r ls = λ follows. (_, refl, verb-grows n terminals.Prefix token is r ls follows)
after_subject_string-grows n terminals.A token is r ls = λ follows. (_, refl, verb-grows n terminals.A token is r ls follows)
after_subject_string-grows n _ token is r ls = tt

subject_datatype-grows : (n : ℕ) (terminal : Terminal) (token : Lexeme) → Front terminal token → (r : Remainder) (ls : List Labelled) → Grows expects.SubjectDatatype (suc n) terminal token r ls
subject_datatype-grows n terminals.Iri token is r ls = λ follows. (ls, inl (is, refl), follows)
subject_datatype-grows n terminals.Prefixed token is r ls = λ follows. (ls, inr (inl (is, refl)), follows)
subject_datatype-grows n terminals.Prefix token is r ls = λ follows. (ls, inr (inr (is, refl)), follows)
subject_datatype-grows n _ token is r ls = tt

-- an object
object-rest : (n : ℕ) (node : Node) (r : Remainder) (from ls : List Labelled) → IsNode roles.Object node from ls → (AreMoreObjects r.objects ▸ AfterObjects n r) ls [] →
    (AreObjects (node ∷ r.objects) ▸ AfterObjects n r) from []
object-rest n node r from ls is (m, objects, rest) = (m, (ls, is, objects), rest)

object-grows : (n : ℕ) (terminal : Terminal) (token : Lexeme) → Front terminal token → (r : Remainder) (ls : List Labelled) → Grows expects.Object (suc n) terminal token r ls
object-grows n terminals.Variable token is r ls = λ follows. object-rest n (VariableNode token) r _ ls (is, refl) follows
object-grows n terminals.Iri token is r ls = λ follows. object-rest n (IriNode token) r _ ls (inl (is, refl)) follows
object-grows n terminals.Prefixed token is r ls = λ follows. object-rest n (IriNode token) r _ ls (inr (inl (is, refl))) follows
object-grows n terminals.Prefix token is r ls = λ follows. object-rest n (IriNode token) r _ ls (inr (inr (is, refl))) follows
object-grows n terminals.Quoted token is r ls = λ (m, suffix, follows).
    object-rest n (string_node token r.suffix) r _ m (string-node roles.Object token r.suffix ls m is suffix) follows
object-grows n terminals.Number token is r ls = λ follows. object-rest n (NumberNode token) r _ ls (is, refl) follows
object-grows n terminals.Boolean token is r ls = λ follows. object-rest n (BooleanNode token) r _ ls (is, refl) follows
object-grows n _ token is r ls = tt

-- the signs after an object
comma-objects : (token : Lexeme) → Front terminals.Comma token → (nodes : List Node) (ls to : List Labelled) → AreObjects nodes ls to →
    AreMoreObjects nodes (with_role roles.Keyword token ∷ ls) to
comma-objects token is [] ls to never = absurd never
comma-objects token is (node ∷ nodes) ls to spelled = (ls, (token, (is, refl)), spelled)

semicolon-properties : (token : Lexeme) → Front terminals.Semicolon token → (properties : List Property) (ls to : List Labelled) → AfterSemicolon properties ls to →
    AreMoreProperties properties (with_role roles.Keyword token ∷ ls) to
semicolon-properties token is [] ls to semicolons = more _ ls to (token, (is, refl)) semicolons
semicolon-properties token is (property ∷ properties) ls to (m, semicolons, spelled) = (m, (ls, (token, (is, refl)), semicolons), spelled)

semicolon-semicolon : (token : Lexeme) → Front terminals.Semicolon token → (properties : List Property) (ls to : List Labelled) → AfterSemicolon properties ls to →
    AfterSemicolon properties (with_role roles.Keyword token ∷ ls) to
semicolon-semicolon token is [] ls to semicolons = more _ ls to (token, (is, refl)) semicolons
semicolon-semicolon token is (property ∷ properties) ls to (m, semicolons, spelled) = (m, more _ ls m (token, (is, refl)) semicolons, spelled)

stop-sames : (token : Lexeme) → Front terminals.Stop token → (block : List Same) (ls to : List Labelled) → IsBlock block ls to →
    AreMoreSames block (with_role roles.Keyword token ∷ ls) to
stop-sames token is [] ls to e = inl (token, (is, ap (λ rest. with_role roles.Keyword token ∷ rest) e))
stop-sames token is (same ∷ block) ls to spelled = (ls, (token, (is, refl)), spelled)

after_object-grows : (n : ℕ) (terminal : Terminal) (token : Lexeme) → Front terminal token → (r : Remainder) (ls : List Labelled) → Grows expects.AfterObject (suc n) terminal token r ls
after_object-grows n terminals.Comma token is r ls = λ (m, objects, follows). (m, comma-objects token is r.objects ls m objects, follows)
after_object-grows n terminals.Semicolon token is r ls = λ (m, properties, follows). (_, refl, (m, semicolon-properties token is r.properties ls m properties, follows))
after_object-grows n terminals.Stop token is r ls = λ (m, block, follows). (_, refl, (_, none _, (m, stop-sames token is r.block ls m block, follows)))
after_object-grows n terminals.OptionalWord token is r ls = λ follows. (_, refl, (_, none _, (_, inr refl, optional-rest n token r ls is follows)))
after_object-grows n terminals.Open token is r ls = λ follows. (_, refl, (_, none _, (_, inr refl, open-rest n token r ls is follows)))
after_object-grows n terminals.Close token is r ls = λ follows. (_, refl, (_, none _, (_, inr refl, close-rest n token r ls is follows)))
after_object-grows n _ token is r ls = tt

after_object_string-grows : (n : ℕ) (terminal : Terminal) (token : Lexeme) → Front terminal token → (r : Remainder) (ls : List Labelled) → Grows expects.AfterObjectString (suc n) terminal token r ls
after_object_string-grows n terminals.Tag token is r ls = λ follows. (ls, (is, refl), follows)
after_object_string-grows n terminals.Carets token is r ls = λ (m, datatype, follows). (m, carets-suffix token is r.suffix ls m datatype, follows)
after_object_string-grows n terminals.Comma token is r ls = λ follows. (_, refl, after_object-grows n terminals.Comma token is r ls follows)
after_object_string-grows n terminals.Semicolon token is r ls = λ follows. (_, refl, after_object-grows n terminals.Semicolon token is r ls follows)
after_object_string-grows n terminals.Stop token is r ls = λ follows. (_, refl, after_object-grows n terminals.Stop token is r ls follows)
after_object_string-grows n terminals.OptionalWord token is r ls = λ follows. (_, refl, after_object-grows n terminals.OptionalWord token is r ls follows)
after_object_string-grows n terminals.Open token is r ls = λ follows. (_, refl, after_object-grows n terminals.Open token is r ls follows)
after_object_string-grows n terminals.Close token is r ls = λ follows. (_, refl, after_object-grows n terminals.Close token is r ls follows)
after_object_string-grows n _ token is r ls = tt

object_datatype-grows : (n : ℕ) (terminal : Terminal) (token : Lexeme) → Front terminal token → (r : Remainder) (ls : List Labelled) → Grows expects.ObjectDatatype (suc n) terminal token r ls
object_datatype-grows n terminals.Iri token is r ls = λ follows. (ls, inl (is, refl), follows)
object_datatype-grows n terminals.Prefixed token is r ls = λ follows. (ls, inr (inl (is, refl)), follows)
object_datatype-grows n terminals.Prefix token is r ls = λ follows. (ls, inr (inr (is, refl)), follows)
object_datatype-grows n _ token is r ls = tt

verb-semicolon : (n : ℕ) (node : Node) (r : Remainder) (from ls : List Labelled) → IsVerb node from ls → (AreObjects r.objects ▸ AfterObjects n r) ls [] →
    (AfterSemicolon (property_of node r.objects ∷ r.properties) ▸ AreMoreSames r.block ▸ Rest n r) from []
verb-semicolon n node r from ls is (m1, objects, (m2, properties, rest)) = (m2, (from, none from, (m1, (ls, is, objects), properties)), rest)

after_semicolon-grows : (n : ℕ) (terminal : Terminal) (token : Lexeme) → Front terminal token → (r : Remainder) (ls : List Labelled) → Grows expects.AfterSemicolon (suc n) terminal token r ls
after_semicolon-grows n terminals.Variable token is r ls = λ follows. verb-semicolon n (VariableNode token) r _ ls (is, refl) follows
after_semicolon-grows n terminals.Iri token is r ls = λ follows. verb-semicolon n (IriNode token) r _ ls (inl (is, refl)) follows
after_semicolon-grows n terminals.Prefixed token is r ls = λ follows. verb-semicolon n (IriNode token) r _ ls (inr (inl (is, refl))) follows
after_semicolon-grows n terminals.Prefix token is r ls = λ follows. verb-semicolon n (IriNode token) r _ ls (inr (inr (is, refl))) follows
after_semicolon-grows n terminals.A token is r ls = λ follows. verb-semicolon n (TypeNode token) r _ ls (is, refl) follows
after_semicolon-grows n terminals.Semicolon token is r ls = λ (m, properties, follows). (m, semicolon-semicolon token is r.properties ls m properties, follows)
after_semicolon-grows n terminals.Stop token is r ls = λ (m, block, follows). (_, none _, (m, stop-sames token is r.block ls m block, follows))
after_semicolon-grows n terminals.OptionalWord token is r ls = λ follows. (_, none _, (_, inr refl, optional-rest n token r ls is follows))
after_semicolon-grows n terminals.Open token is r ls = λ follows. (_, none _, (_, inr refl, open-rest n token r ls is follows))
after_semicolon-grows n terminals.Close token is r ls = λ follows. (_, none _, (_, inr refl, close-rest n token r ls is follows))
after_semicolon-grows n _ token is r ls = tt

-- the head of a query
group-grows : (n : ℕ) (terminal : Terminal) (token : Lexeme) → Front terminal token → (r : Remainder) (ls : List Labelled) → Grows expects.Group n terminal token r ls
group-grows n terminals.Open token is r ls = λ follows. open-group n token r ls is follows
group-grows n _ token is r ls = tt

where-grows : (n : ℕ) (terminal : Terminal) (token : Lexeme) → Front terminal token → (r : Remainder) (ls : List Labelled) → Grows expects.WhereOrGroup n terminal token r ls
where-grows n terminals.WhereWord token is r ls = λ follows. (ls, inl (token, (is, refl)), follows)
where-grows n terminals.Open token is r ls = λ follows. (_, inr refl, open-group n token r ls is follows)
where-grows n _ token is r ls = tt

more-column : (n : ℕ) (token : Lexeme) → Front terminals.Variable token → (r : Remainder) (columns : Columns) (ls : List Labelled) → (MoreColumns columns ▸ WhereOrGroup n r) ls [] →
    (MoreColumns (with_column token columns) ▸ WhereOrGroup n r) (with_role roles.Column token ∷ ls) []
more-column n token is r AllColumns ls (m, never, rest) = absurd never
more-column n token is r (Variables tokens) ls (m, spelled, rest) = (m, (ls, (is, refl), spelled), rest)

first-column : (n : ℕ) (token : Lexeme) → Front terminals.Variable token → (r : Remainder) (columns : Columns) (ls : List Labelled) → (MoreColumns columns ▸ WhereOrGroup n r) ls [] →
    (AreColumns (with_column token columns) ▸ WhereOrGroup n r) (with_role roles.Column token ∷ ls) []
first-column n token is r AllColumns ls (m, never, rest) = absurd never
first-column n token is r (Variables tokens) ls (m, spelled, rest) = (m, (ls, (is, refl), spelled), rest)

more_columns-grows : (n : ℕ) (terminal : Terminal) (token : Lexeme) → Front terminal token → (r : Remainder) (ls : List Labelled) → Grows expects.MoreColumns n terminal token r ls
more_columns-grows n terminals.Variable token is r ls = λ follows. more-column n token is r r.head.columns ls follows
more_columns-grows n terminals.WhereWord token is r ls = λ follows. (_, refl, where-grows n terminals.WhereWord token is r ls follows)
more_columns-grows n terminals.Open token is r ls = λ follows. (_, refl, where-grows n terminals.Open token is r ls follows)
more_columns-grows n _ token is r ls = tt

columns-grows : (n : ℕ) (terminal : Terminal) (token : Lexeme) → Front terminal token → (r : Remainder) (ls : List Labelled) → Grows expects.Columns n terminal token r ls
columns-grows n terminals.Variable token is r ls = λ follows. first-column n token is r r.head.columns ls follows
columns-grows n terminals.Star token is r ls = λ follows. (ls, (token, (is, refl)), follows)
columns-grows n _ token is r ls = tt

projection-grows : (n : ℕ) (terminal : Terminal) (token : Lexeme) → Front terminal token → (r : Remainder) (ls : List Labelled) → Grows expects.Projection n terminal token r ls
projection-grows n terminals.DistinctWord token is r ls = λ follows. (ls, (token, (is, refl)), follows)
projection-grows n terminals.Variable token is r ls = λ follows. (_, refl, columns-grows n terminals.Variable token is r ls follows)
projection-grows n terminals.Star token is r ls = λ follows. (_, refl, columns-grows n terminals.Star token is r ls follows)
projection-grows n _ token is r ls = tt

declare-prologue : (n : ℕ) (token : Lexeme) → Front terminals.PrefixWord token → (r : Remainder) (declarations : List Declaration) (ls : List Labelled) →
    DeclaredPrefix n r declarations ls [] → Prologue n r declarations (with_role roles.Keyword token ∷ ls) []
declare-prologue n token is r [] ls never = absurd never
declare-prologue n token is r (declaration ∷ declarations) ls (m1, prefix, (m2, iri, (m3, spelled, rest))) =
    (m3, (m2, (ls, (token, (is, refl)), (m1, prefix, iri)), spelled), rest)

prologue-grows : (n : ℕ) (terminal : Terminal) (token : Lexeme) → Front terminal token → (r : Remainder) (ls : List Labelled) → Grows expects.Prologue n terminal token r ls
prologue-grows n terminals.PrefixWord token is r ls = λ follows. declare-prologue n token is r r.head.declarations ls follows
prologue-grows n terminals.SelectWord token is r ls = λ follows. (_, refl, (ls, (token, (is, refl)), follows))
prologue-grows n _ token is r ls = tt

declared-suffix : (n : ℕ) (token : Lexeme) → Front terminals.Prefix token → (r : Remainder) (suffix : Suffix) (ls : List Labelled) → Namespace n r suffix ls [] →
    DeclaredPrefix n r (with_declaration token suffix r.head.declarations) (with_role roles.Declared token ∷ ls) []
declared-suffix n token is r NoSuffix ls never = absurd never
declared-suffix n token is r (TagSuffix tag) ls never = absurd never
declared-suffix n token is r (TypeSuffix iri) ls follows = (ls, (is, refl), follows)

declared_prefix-grows : (n : ℕ) (terminal : Terminal) (token : Lexeme) → Front terminal token → (r : Remainder) (ls : List Labelled) → Grows expects.DeclaredPrefix n terminal token r ls
declared_prefix-grows n terminals.Prefix token is r ls = λ follows. declared-suffix n token is r r.suffix ls follows
declared_prefix-grows n _ token is r ls = tt

namespace-grows : (n : ℕ) (terminal : Terminal) (token : Lexeme) → Front terminal token → (r : Remainder) (ls : List Labelled) → Grows expects.Namespace n terminal token r ls
namespace-grows n terminals.Iri token is r ls = λ follows. (ls, (is, refl), follows)
namespace-grows n _ token is r ls = tt

-- where no group is open, nothing is said of what follows in a group
nothing-said : (step : Option Step) (claim : Step → Type 0) → OnStep step (λ s. claim s → Unit {0})
nothing-said (Some step) claim = λ _. tt
nothing-said None claim = tt

-- the same in a group or where none is open
in-group : (expect : Expect) (n : ℕ) (terminal : Terminal) (token : Lexeme) (r : Remainder) (ls : List Labelled) →
    OnStep (step_at expect zero terminal) (λ step. Follows step.state.expect step.state.groups r ls → Unit {0})
in-group expect n terminal token r ls = nothing-said (step_at expect zero terminal) (λ step. Follows step.state.expect step.state.groups r ls)

grows : (expect : Expect) (n : ℕ) (terminal : Terminal) (token : Lexeme) → Front terminal token → (r : Remainder) (ls : List Labelled) → Grows expect n terminal token r ls
grows expects.Prologue n terminal token is r ls = prologue-grows n terminal token is r ls
grows expects.DeclaredPrefix n terminal token is r ls = declared_prefix-grows n terminal token is r ls
grows expects.Namespace n terminal token is r ls = namespace-grows n terminal token is r ls
grows expects.Projection n terminal token is r ls = projection-grows n terminal token is r ls
grows expects.Columns n terminal token is r ls = columns-grows n terminal token is r ls
grows expects.MoreColumns n terminal token is r ls = more_columns-grows n terminal token is r ls
grows expects.WhereOrGroup n terminal token is r ls = where-grows n terminal token is r ls
grows expects.Group n terminal token is r ls = group-grows n terminal token is r ls
grows expects.Block zero terminal token is r ls = in-group expects.Block zero terminal token r ls
grows expects.Block (suc n) terminal token is r ls = block-grows n terminal token is r ls
grows expects.AfterElement zero terminal token is r ls = in-group expects.AfterElement zero terminal token r ls
grows expects.AfterElement (suc n) terminal token is r ls = after_element-grows n terminal token is r ls
grows expects.AfterSubjectString zero terminal token is r ls = in-group expects.AfterSubjectString zero terminal token r ls
grows expects.AfterSubjectString (suc n) terminal token is r ls = after_subject_string-grows n terminal token is r ls
grows expects.SubjectDatatype zero terminal token is r ls = in-group expects.SubjectDatatype zero terminal token r ls
grows expects.SubjectDatatype (suc n) terminal token is r ls = subject_datatype-grows n terminal token is r ls
grows expects.Verb zero terminal token is r ls = in-group expects.Verb zero terminal token r ls
grows expects.Verb (suc n) terminal token is r ls = verb-grows n terminal token is r ls
grows expects.Object zero terminal token is r ls = in-group expects.Object zero terminal token r ls
grows expects.Object (suc n) terminal token is r ls = object-grows n terminal token is r ls
grows expects.AfterObjectString zero terminal token is r ls = in-group expects.AfterObjectString zero terminal token r ls
grows expects.AfterObjectString (suc n) terminal token is r ls = after_object_string-grows n terminal token is r ls
grows expects.ObjectDatatype zero terminal token is r ls = in-group expects.ObjectDatatype zero terminal token r ls
grows expects.ObjectDatatype (suc n) terminal token is r ls = object_datatype-grows n terminal token is r ls
grows expects.AfterObject zero terminal token is r ls = in-group expects.AfterObject zero terminal token r ls
grows expects.AfterObject (suc n) terminal token is r ls = after_object-grows n terminal token is r ls
grows expects.AfterSemicolon zero terminal token is r ls = in-group expects.AfterSemicolon zero terminal token r ls
grows expects.AfterSemicolon (suc n) terminal token is r ls = after_semicolon-grows n terminal token is r ls
grows expects.End n terminal token is r ls = tt

abbrev FollowsAt : Remainder → List Labelled → State → Type 0
FollowsAt r ls state = Follows state.expect state.groups r ls

-- tokens that are read from a state to the end of a query are what follows there
read-follows : (ls : List Labelled) (state : State) → Reads ended state ls → FollowsAt (remainder_of ls) ls state
unfolding remainder_of next_step
read-follows [] state e = let here : FollowsAt nothing_left [] ended = refl in subst (FollowsAt nothing_left []) (sym e) here
read-follows (l ∷ ls) state (next, is, reads) =
    on-step (step_at state.expect state.groups (terminal_of l.token))
    (λ step. FollowsAt (remainder_of ls) ls step.state → Follows state.expect state.groups (grow step.role (terminal_of l.token) l.token (remainder_of ls)) (with_role step.role l.token ∷ ls))
    (record { state = next; role = l.role }) is
    (grows state.expect state.groups (terminal_of l.token) l.token refl (remainder_of ls) ls)
    (read-follows ls next reads)

-- what follows at the start is a query
follows-query : (r : Remainder) (elements : Elements) (ls : List Labelled) →
    (IsPrologue r.head.declarations ▸ Keyword terminals.SelectWord ▸ IsDistinct r.head.distinct ▸ AreColumns r.head.columns ▸ Maybe (Keyword terminals.WhereWord) ▸ NestedFirst elements 0 r.outer) ls [] →
    (IsPrologue r.head.declarations ▸ Keyword terminals.SelectWord ▸ IsDistinct r.head.distinct ▸ AreColumns r.head.columns ▸ Maybe (Keyword terminals.WhereWord) ▸ IsGroup (main_group elements)) ls []
follows-query r EndOfGroup ls (m1, a, (m2, b, (m3, c, (m4, d, (m5, e, never))))) = absurd never
follows-query r (Element OptionalGroup block elements next rest) ls (m1, a, (m2, b, (m3, c, (m4, d, (m5, e, never))))) = absurd never
follows-query r (Element NestedGroup block elements next rest) ls (m1, a, (m2, b, (m3, c, (m4, d, (m5, e, (m6, braces, last)))))) =
    let P : List Labelled → Type 0 = λ to. InBraces (IsBlock block ▸ AreElements elements) m5 to in
    (m1, a, (m2, b, (m3, c, (m4, d, (m5, e, subst P last braces)))))

-- tokens that are read from the start to the end of a query are a query
pub reads-query : (labelled : List Labelled) → Reads ended start labelled → IsQuery (tree_left (remainder_of labelled)) labelled
reads-query labelled reads = record {
  spelled =
      follows-query (remainder_of labelled) (remainder_of labelled).elements labelled (read-follows labelled start reads);
}
