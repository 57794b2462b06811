-- What is built of a group is the translation of its syntax tree.
use Rattle.std.proofs.Common.{◌≡◌, ℕ, ◌+◌, Bool, true, false, List, [], ◌∷◌, ◌++◌, map, length, refl, sym, ◌∙◌, ap, subst, append_assoc, append-nil, arith}
use Rattle.std.specs.List.{flat_map}
use Rattle.query_grammar.specs.Roles.{Labelled}
use Rattle.query_grammar.specs.Tree.{Node, Property, Same, Elements, EndOfGroup, Element, OptionalGroup, NestedGroup, Group}
use Rattle.query_grammar.specs.Grammar.{AreObjects, AreProperties, IsSame, IsBlock, AreElements, IsGroup}
use Rattle.alg_model.specs.declared.pattern.TriplePat.{TriplePat}
use Rattle.alg_model.specs.Pattern.{Algebra, Bgp, Join, LeftJoin}
use Rattle.sparql_parse.specs.computed.Meaning.{Scope, Translated, patterns_from, empty_group, with_block, with_elements, pattern_of}
use Rattle.sparql_parse.specs.Translation.{NodeTriple, triples_of_property, triples_of_same, triples_of_block}
use Rattle.sparql_parse.specs.computed.Building.{State, Head, Body, OpenGroup, new_group, joined_block, pattern_so_far, combined, with_pattern, pattern_at, with_triple}
use Rattle.sparql_parse.proofs.Runs.{after_object, after_objects, after_property, after_properties, after_same, after_block, after_optional, after_open, after_close, after_inside, after_elements, after_group}

-- triple patterns at the end of the innermost group's block
abbrev pub with_triples : Scope → List NodeTriple → Body → Body
with_triples scope [] b = b
with_triples scope (t ∷ ts) b = with_triples scope ts (with_triple scope t b)

with_triples-append : (scope : Scope) (ts us : List NodeTriple) (b : Body) → with_triples scope (ts ++ us) b ≡ with_triples scope us (with_triples scope ts b)
with_triples-append scope [] us b = refl
with_triples-append scope (t ∷ ts) us b = with_triples-append scope ts us (with_triple scope t b)

-- in an open group
abbrev pub in_group : OpenGroup → List OpenGroup → ℕ → Algebra → Body
in_group g gs n whole = record { groups = g ∷ gs; next = n; whole = whole }

abbrev pub with_patterns : List TriplePat → OpenGroup → OpenGroup
with_patterns ts g = record g { block = g.block ++ ts }

with_triples-in : (scope : Scope) (ts : List NodeTriple) (g : OpenGroup) (gs : List OpenGroup) (n : ℕ) (whole : Algebra) →
    with_triples scope ts (in_group g gs n whole) ≡ in_group (with_patterns (patterns_from scope n ts) g) gs (n + length ts) whole
with_triples-in scope [] g gs n whole =
    let block : g.block ≡ g.block ++ [] = sym (append-nil g.block) in
    let next : n ≡ n + 0 = omega arith in
    ap (λ (b : List TriplePat). in_group (record g { block = b }) gs n whole) block
    ∙ ap (λ (m : ℕ). in_group (with_patterns [] g) gs m whole) next
with_triples-in scope (t ∷ ts) g gs n whole =
    let first = pattern_at scope n t in
    let rest = patterns_from scope (n + 1) ts in
    let block : (g.block ++ first ∷ []) ++ rest ≡ g.block ++ first ∷ rest = append_assoc g.block (first ∷ []) rest in
    let next : (n + 1) + length ts ≡ n + length (t ∷ ts) = omega arith in
    with_triples-in scope ts (with_pattern first g) gs (n + 1) whole
    ∙ ap (λ (b : List TriplePat). in_group (record g { block = b }) gs ((n + 1) + length ts) whole) block
    ∙ ap (λ (m : ℕ). in_group (with_patterns (first ∷ rest) g) gs m whole) next

-- the same state, but for the body, the subject and the verb
pub record StaysBut (t e : State) (body : Body) : Type 0 where
  pub head : e.head ≡ t.head
  pub optional : e.optional ≡ t.optional
  pub body_is : e.body ≡ body

-- objects leave the subject and the verb too
pub record ReadsObjects (t e : State) (body : Body) : Type 0 where
  pub stays : StaysBut t e body
  pub subject : e.subject ≡ t.subject
  pub verb : e.verb ≡ t.verb

abbrev object_triples : Node → Node → List Node → List NodeTriple
object_triples subject verb objects = map (λ (object : Node). record { subject = subject; verb = verb; object = object }) objects

objects-read : (scope : Scope) (objects : List Node) (t : State) → ReadsObjects t (after_objects scope objects t) (with_triples scope (object_triples t.subject t.verb objects) t.body)
objects-read scope [] t = record { stays = record { head = refl; optional = refl; body_is = refl }; subject = refl; verb = refl }
objects-read scope (object ∷ objects) t =
    let r = objects-read scope objects (after_object scope object t) in
    record { stays = record { head = r.stays.head; optional = r.stays.optional; body_is = r.stays.body_is }; subject = r.subject; verb = r.verb }

-- properties leave the subject
pub record ReadsProperties (t e : State) (body : Body) : Type 0 where
  pub stays : StaysBut t e body
  pub subject : e.subject ≡ t.subject

properties-read : (scope : Scope) (properties : List Property) (t : State) →
    ReadsProperties t (after_properties scope properties t) (with_triples scope (flat_map (triples_of_property t.subject) properties) t.body)
properties-read scope [] t = record { stays = record { head = refl; optional = refl; body_is = refl }; subject = refl }
properties-read scope (property ∷ properties) t =
    let o = objects-read scope property.objects (record t { verb = property.verb }) in
    let e = after_property scope property t in
    let r = properties-read scope properties e in
    let front = triples_of_property t.subject property in
    let body : (after_properties scope (property ∷ properties) t).body ≡ with_triples scope (front ++ flat_map (triples_of_property t.subject) properties) t.body =
    r.stays.body_is
    ∙ ap (λ (subject : Node). with_triples scope (flat_map (triples_of_property subject) properties) e.body) o.subject
    ∙ ap (with_triples scope (flat_map (triples_of_property t.subject) properties)) o.stays.body_is
    ∙ sym (with_triples-append scope front (flat_map (triples_of_property t.subject) properties) t.body) in
    record { stays = record { head = r.stays.head ∙ o.stays.head; optional = r.stays.optional ∙ o.stays.optional; body_is = body }; subject = r.subject ∙ o.subject }

block-read : (scope : Scope) (block : List Same) (t : State) → StaysBut t (after_block scope block t) (with_triples scope (triples_of_block block) t.body)
block-read scope [] t = record { head = refl; optional = refl; body_is = refl }
block-read scope (same ∷ block) t =
    let p = properties-read scope same.properties (record t { subject = same.subject }) in
    let e = after_same scope same t in
    let r = block-read scope block e in
    let body : (after_block scope (same ∷ block) t).body ≡ with_triples scope (triples_of_same same ++ triples_of_block block) t.body =
    r.body_is ∙ ap (with_triples scope (triples_of_block block)) p.stays.body_is ∙ sym (with_triples-append scope (triples_of_same same) (triples_of_block block) t.body) in
    record { head = r.head ∙ p.stays.head; optional = r.optional ∙ p.stays.optional; body_is = body }

-- a block that is spelled has a triple
pub record HasFirst (triples : List NodeTriple) : Type 0 where
  pub first : NodeTriple
  pub rest : List NodeTriple
  pub is : triples ≡ first ∷ rest

first-append : (ts us : List NodeTriple) → HasFirst ts → HasFirst (ts ++ us)
first-append ts us h = record { first = h.first; rest = h.rest ++ us; is = ap (λ xs. xs ++ us) h.is }

property-first : (subject : Node) (verb : Node) (objects : List Node) (from to : List Labelled) → AreObjects objects from to → HasFirst (object_triples subject verb objects)
property-first subject verb [] from to is = absurd is
property-first subject verb (object ∷ objects) from to is = record { first = record { subject = subject; verb = verb; object = object }; rest = object_triples subject verb objects; is = refl }

properties-first : (subject : Node) (properties : List Property) (from to : List Labelled) → AreProperties properties from to → HasFirst (flat_map (triples_of_property subject) properties)
properties-first subject [] from to is = absurd is
properties-first subject (property ∷ properties) from to (middle, (inner, verb, objects), rest) =
    first-append (triples_of_property subject property) (flat_map (triples_of_property subject) properties) (property-first subject property.verb property.objects inner middle objects)

same-first : (same : Same) (block : List Same) (from to : List Labelled) → IsSame same from to → HasFirst (triples_of_block (same ∷ block))
same-first same block from to (middle, subject, properties) =
    first-append (triples_of_same same) (triples_of_block block) (properties-first same.subject same.properties middle to properties)

-- no triples, or a first one
abbrev IsFull : List Same → Type 0
IsFull [] = Unit {0}
IsFull (same ∷ block) = HasFirst (triples_of_block (same ∷ block))

block-full : (block : List Same) (from to : List Labelled) → IsBlock block from to → IsFull block
block-full [] from to is = tt
block-full (same ∷ block) from to (middle, one, rest) = same-first same block from middle one

-- a group is open round which these are open, and so far it is this
pub record IsIn (scope : Scope) (t : State) (head : Head) (optional : Bool) (gs : List OpenGroup) (whole : Algebra) (g : OpenGroup) (so_far : Translated) : Type 0 where
  pub head_is : t.head ≡ head
  pub flag : t.optional ≡ false
  pub body_is : t.body ≡ in_group g gs so_far.next whole
  pub optional_is : g.optional ≡ optional
  pub pattern_is : pattern_so_far g ≡ so_far.pattern

joined-first : (scope : Scope) (pattern : Algebra) (n : ℕ) (ts : List NodeTriple) → HasFirst ts → joined_block pattern (patterns_from scope n ts) ≡ Join pattern (Bgp (patterns_from scope n ts))
joined-first scope pattern n ts h =
    let P : List NodeTriple → Type 0 = λ us. joined_block pattern (patterns_from scope n us) ≡ Join pattern (Bgp (patterns_from scope n us)) in
    subst P (sym h.is) refl

joined-block : (scope : Scope) (pattern : Algebra) (n : ℕ) (block : List Same) → IsFull block →
    joined_block pattern (patterns_from scope n (triples_of_block block)) ≡ (with_block scope (record { pattern = pattern; next = n }) block).pattern
joined-block scope pattern n [] full = refl
joined-block scope pattern n (same ∷ block) full = joined-first scope pattern n (triples_of_block (same ∷ block)) full

next-block : (scope : Scope) (pattern : Algebra) (n : ℕ) (block : List Same) → n + length (triples_of_block block) ≡ (with_block scope (record { pattern = pattern; next = n }) block).next
next-block scope pattern n [] = omega arith
next-block scope pattern n (same ∷ block) = refl

-- some group is open there
pub record Within (scope : Scope) (t : State) (head : Head) (optional : Bool) (gs : List OpenGroup) (whole : Algebra) (so_far : Translated) : Type 0 where
  pub group : OpenGroup
  pub is : IsIn scope t head optional gs whole group so_far

-- and no block is begun in it
pub record Fresh (scope : Scope) (t : State) (head : Head) (optional : Bool) (gs : List OpenGroup) (whole : Algebra) (so_far : Translated) : Type 0 where
  pub within : Within scope t head optional gs whole so_far
  pub no_block : within.group.block ≡ []

module _ (scope : Scope) (head : Head) (whole : Algebra) where
  block-within : (t : State) (optional : Bool) (gs : List OpenGroup) (so_far : Translated) (block : List Same) → Fresh scope t head optional gs whole so_far → IsFull block →
      Within scope (after_block scope block t) head optional gs whole (with_block scope so_far block)
  block-within t optional gs so_far block fresh full =
      let g = fresh.within.group in
      let is = fresh.within.is in
      let ts = triples_of_block block in
      let n = so_far.next in
      let ps = patterns_from scope n ts in
      let read = block-read scope block t in
      let pattern : g.pattern ≡ so_far.pattern = ap (joined_block g.pattern) (sym fresh.no_block) ∙ is.pattern_is in
      let so_far_is : joined_block g.pattern (g.block ++ ps) ≡ (with_block scope so_far block).pattern =
      ap (λ (b : List TriplePat). joined_block g.pattern (b ++ ps)) fresh.no_block
      ∙ ap (λ (p : Algebra). joined_block p ps) pattern
      ∙ joined-block scope so_far.pattern n block full in
      let body : (after_block scope block t).body ≡ in_group (with_patterns ps g) gs (with_block scope so_far block).next whole =
      read.body_is
      ∙ ap (with_triples scope ts) is.body_is
      ∙ with_triples-in scope ts g gs n whole
      ∙ ap (λ (m : ℕ). in_group (with_patterns ps g) gs m whole) (next-block scope so_far.pattern n block) in
      record {
        group = with_patterns ps g;
        is = record { head_is = read.head ∙ is.head_is; flag = read.optional ∙ is.flag; body_is = body; optional_is = is.optional_is; pattern_is = so_far_is };
      }

  -- a group that is opened in another
  open-fresh : (t : State) (optional : Bool) (gs : List OpenGroup) (n : ℕ) → t.head ≡ head → t.optional ≡ optional → t.body ≡ record { groups = gs; next = n; whole = whole } →
      Fresh scope (after_open t) head optional gs whole (empty_group n)
  open-fresh t optional gs n head_is flag body_is =
      let body : (after_open t).body ≡ in_group (new_group optional) gs n whole =
      ap (λ (b : Body). record b { groups = new_group t.optional ∷ b.groups }) body_is
      ∙ ap (λ (o : Bool). in_group (new_group o) gs n whole) flag in
      record {
        within = record { group = new_group optional; is = record { head_is = head_is; flag = refl; body_is = body; optional_is = refl; pattern_is = refl } };
        no_block = refl;
      }

  abbrev closed_in : Bool → Translated → Translated → Translated
  closed_in inner_optional outer inner = record { pattern = combined inner_optional outer.pattern inner.pattern; next = inner.next }

  -- a group that is closed in another
  close-fresh : (t : State) (optional inner_optional : Bool) (gs : List OpenGroup) (g : OpenGroup) (so_far inner : Translated) →
      g.optional ≡ optional → pattern_so_far g ≡ so_far.pattern → Within scope t head inner_optional (g ∷ gs) whole inner →
      Fresh scope (after_close t) head optional gs whole (closed_in inner_optional so_far inner)
  close-fresh t optional inner_optional gs g so_far inner optional_is pattern_is within =
      let h = within.group in
      let is = within.is in
      let e : OpenGroup = record { pattern = combined h.optional (pattern_so_far g) (pattern_so_far h); block = []; optional = g.optional } in
      let body : (after_close t).body ≡ in_group e gs inner.next whole = ap Rattle.sparql_parse.specs.computed.Building.closed is.body_is in
      let pattern : combined h.optional (pattern_so_far g) (pattern_so_far h) ≡ combined inner_optional so_far.pattern inner.pattern =
      ap (λ (o : Bool). combined o (pattern_so_far g) (pattern_so_far h)) is.optional_is
      ∙ ap (λ (p : Algebra). combined inner_optional p (pattern_so_far h)) pattern_is
      ∙ ap (combined inner_optional so_far.pattern) is.pattern_is in
      record {
        within = record { group = e; is = record { head_is = is.head_is; flag = is.flag; body_is = body; optional_is = optional_is; pattern_is = pattern } };
        no_block = refl;
      }

-- the blocks of elements have triples
abbrev AreFull : Elements → Type 0
AreFull EndOfGroup = Unit {0}
AreFull (Element kind block elements next rest) = IsFull block × AreFull elements × IsFull next × AreFull rest

elements-full : (elements : Elements) (from to : List Labelled) → AreElements elements from to → AreFull elements
elements-full EndOfGroup from to is = tt
elements-full (Element OptionalGroup block elements next rest) from to (a, word, (b, (c, opens, (d, (e, inner, deep), closes)), (f, stop, (g, after, last)))) =
    (block-full block c e inner, elements-full elements e d deep, block-full next f g after, elements-full rest g to last)
elements-full (Element NestedGroup block elements next rest) from to (b, (c, opens, (d, (e, inner, deep), closes)), (f, stop, (g, after, last))) =
    (block-full block c e inner, elements-full elements e d deep, block-full next f g after, elements-full rest g to last)

module _ (scope : Scope) (head : Head) (whole : Algebra) where
  elements-within : (elements : Elements) (t : State) (optional : Bool) (gs : List OpenGroup) (so_far : Translated) → AreFull elements → Within scope t head optional gs whole so_far →
      Within scope (after_elements scope elements t) head optional gs whole (with_elements scope so_far elements)
  elements-within EndOfGroup t optional gs so_far full within = within
  elements-within (Element OptionalGroup block elements next rest) t optional gs so_far (block_full, elements_full, next_full, rest_full) within =
      let g = within.group in
      let is = within.is in
      let fresh = open-fresh scope head whole (after_optional t) true (g ∷ gs) so_far.next is.head_is refl is.body_is in
      let first = block-within scope head whole (after_open (after_optional t)) true (g ∷ gs) (empty_group so_far.next) block fresh block_full in
      let inner = with_elements scope (with_block scope (empty_group so_far.next) block) elements in
      let deep = elements-within elements (after_block scope block (after_open (after_optional t))) true (g ∷ gs) (with_block scope (empty_group so_far.next) block) elements_full first in
      let e = after_inside scope block elements (after_open (after_optional t)) in
      let closes = close-fresh scope head whole e optional true gs g so_far inner is.optional_is is.pattern_is deep in
      let after : Translated = record { pattern = LeftJoin so_far.pattern inner.pattern; next = inner.next } in
      let last = block-within scope head whole (after_close e) optional gs after next closes next_full in
      elements-within rest (after_block scope next (after_close e)) optional gs (with_block scope after next) rest_full last
  elements-within (Element NestedGroup block elements next rest) t optional gs so_far (block_full, elements_full, next_full, rest_full) within =
      let g = within.group in
      let is = within.is in
      let fresh = open-fresh scope head whole t false (g ∷ gs) so_far.next is.head_is is.flag is.body_is in
      let first = block-within scope head whole (after_open t) false (g ∷ gs) (empty_group so_far.next) block fresh block_full in
      let inner = with_elements scope (with_block scope (empty_group so_far.next) block) elements in
      let deep = elements-within elements (after_block scope block (after_open t)) false (g ∷ gs) (with_block scope (empty_group so_far.next) block) elements_full first in
      let e = after_inside scope block elements (after_open t) in
      let closes = close-fresh scope head whole e optional false gs g so_far inner is.optional_is is.pattern_is deep in
      let after : Translated = record { pattern = Join so_far.pattern inner.pattern; next = inner.next } in
      let last = block-within scope head whole (after_close e) optional gs after next closes next_full in
      elements-within rest (after_block scope next (after_close e)) optional gs (with_block scope after next) rest_full last

-- the query's group, from where no group is open
pub group-whole : (scope : Scope) (group : Group) (from to : List Labelled) (t : State) (whole : Algebra) → IsGroup group from to →
    t.optional ≡ false → t.body ≡ record { groups = []; next = 1; whole = whole } → (after_group scope group t).body.whole ≡ pattern_of scope group
group-whole scope group from to t whole (a, opens, (b, (c, inner, deep), closes)) flag body_is =
    let fresh = open-fresh scope t.head whole t false [] 1 refl flag body_is in
    let first = block-within scope t.head whole (after_open t) false [] (empty_group 1) group.block fresh (block-full group.block a c inner) in
    let last = elements-within scope t.head whole group.elements (after_block scope group.block (after_open t)) false [] (with_block scope (empty_group 1) group.block) (elements-full group.elements c b deep) first in
    ap (λ (b : Body). (Rattle.sparql_parse.specs.computed.Building.closed b).whole) last.is.body_is ∙ last.is.pattern_is

-- a group leaves the SELECT clause as it is
elements-head : (scope : Scope) (elements : Elements) (t : State) → (after_elements scope elements t).head ≡ t.head
elements-head scope EndOfGroup t = refl
elements-head scope (Element OptionalGroup block elements next rest) t =
    let e = after_block scope block (after_open (after_optional t)) in
    let f = after_close (after_elements scope elements e) in
    elements-head scope rest (after_block scope next f) ∙ (block-read scope next f).head ∙ elements-head scope elements e ∙ (block-read scope block (after_open (after_optional t))).head
elements-head scope (Element NestedGroup block elements next rest) t =
    let e = after_block scope block (after_open t) in
    let f = after_close (after_elements scope elements e) in
    elements-head scope rest (after_block scope next f) ∙ (block-read scope next f).head ∙ elements-head scope elements e ∙ (block-read scope block (after_open t)).head

pub group-head : (scope : Scope) (group : Group) (t : State) → (after_group scope group t).head ≡ t.head
group-head scope group t = elements-head scope group.elements (after_block scope group.block (after_open t)) ∙ (block-read scope group.block (after_open t)).head

-- and the number of the next triple pattern after it
pub group-next : (scope : Scope) (group : Group) (from to : List Labelled) (t : State) (whole : Algebra) → IsGroup group from to →
    t.optional ≡ false → t.body ≡ record { groups = []; next = 1; whole = whole } →
    (after_group scope group t).body.next ≡ (with_elements scope (with_block scope (empty_group 1) group.block) group.elements).next
group-next scope group from to t whole (a, opens, (b, (c, inner, deep), closes)) flag body_is =
    let fresh = open-fresh scope t.head whole t false [] 1 refl flag body_is in
    let first = block-within scope t.head whole (after_open t) false [] (empty_group 1) group.block fresh (block-full group.block a c inner) in
    let last = elements-within scope t.head whole group.elements (after_block scope group.block (after_open t)) false [] (with_block scope (empty_group 1) group.block) (elements-full group.elements c b deep) first in
    ap (λ (b : Body). (Rattle.sparql_parse.specs.computed.Building.closed b).next) last.is.body_is
