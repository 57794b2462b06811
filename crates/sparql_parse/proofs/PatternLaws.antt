-- The pattern of a query by its nodes' places is the one that is computed.
use Rattle.std.proofs.Common.{◌≡◌, ℕ, ◌+◌, List, [], ◌∷◌, ◌++◌, map, length, refl, sym, ap, subst, ◌∙◌, arith, length-append}
use Rattle.std.specs.List.{range_with_len}
use Rattle.query_grammar.specs.Roles.{Labelled}
use Rattle.query_grammar.specs.Tree.{Same, Elements, EndOfGroup, Element, OptionalGroup, NestedGroup, Group}
use Rattle.alg_model.specs.declared.pattern.Place.{Place}
use Rattle.alg_model.specs.declared.pattern.TriplePat.{TriplePat}
use Rattle.alg_model.specs.Pattern.{Algebra, Bgp, Join, LeftJoin, triple_patterns}
use Rattle.sparql_parse.specs.computed.Meaning.{Scope, Translated, place_of, patterns_from, empty_group, pattern_of}
use Rattle.sparql_parse.specs.Translation.{NodeTriple, triples_of_block}
use Rattle.sparql_parse.specs.computed.Meaning as computed
use Rattle.sparql_parse.specs.OneByOne.{OneByOne}
use Rattle.sparql_parse.specs.Translation.{NodePattern, NodeBgp, NodeJoin, NodeLeftJoin, with_block, with_elements, translated, IsTripleOf, IsPatternOf, IsNumbered}
use Rattle.sparql_parse.proofs.LimitLaws.{AreNumbered, AreNumbered-range, group-numbered}
use Rattle.sparql_parse.proofs.NodeLaws.{Agrees, context_with, place-is}
use Rattle.sparql_parse.proofs.QueryNodes.{TriplesPlaces, PatternPlaces}

-- how many triples a pattern has
abbrev triples : NodePattern → ℕ
triples (NodeBgp ts) = length ts
triples (NodeJoin left right) = triples left + triples right
triples (NodeLeftJoin left right) = triples left + triples right

-- a pattern with the places of its nodes, of which the triple patterns are numbered from n on
abbrev placed : Scope → ℕ → NodePattern → Algebra
placed scope n (NodeBgp ts) = Bgp (patterns_from scope n ts)
placed scope n (NodeJoin left right) = Join (placed scope n left) (placed scope (n + triples left) right)
placed scope n (NodeLeftJoin left right) = LeftJoin (placed scope n left) (placed scope (n + triples left) right)

-- what is translated so far is a pattern of nodes, placed from n on
record IsPlaced (scope : Scope) (n : ℕ) (g : Translated) (pattern : NodePattern) : Type 0 where
  is : g.pattern ≡ placed scope n pattern
  next : g.next ≡ n + triples pattern

module _ (scope : Scope) where
  -- a group that begins
  empty-placed : (n : ℕ) → IsPlaced scope n (empty_group n) (NodeBgp [])
  empty-placed n = record { is = refl; next = omega arith }

  -- a group with a block
  block-placed : (n : ℕ) (g : Translated) (pattern : NodePattern) (block : List Same) → IsPlaced scope n g pattern → IsPlaced scope n (computed.with_block scope g block) (with_block pattern block)
  block-placed n g pattern [] p = p
  block-placed n g pattern (same ∷ block) p =
      let ts = triples_of_block (same ∷ block) in
      record {
        is = ap (λ (a : Algebra). Join a (Bgp (patterns_from scope g.next ts))) p.is ∙ ap (λ (m : ℕ). Join (placed scope n pattern) (Bgp (patterns_from scope m ts))) p.next;
        next = omega (arith, p.next);
      }

  -- a group with the pattern of another
  both-placed : (n : ℕ) (g inner : Translated) (pattern deep : NodePattern) (f : Algebra → Algebra → Algebra) → IsPlaced scope n g pattern → IsPlaced scope g.next inner deep →
      (f g.pattern inner.pattern ≡ f (placed scope n pattern) (placed scope (n + triples pattern) deep)) × (inner.next ≡ n + (triples pattern + triples deep))
  both-placed n g inner pattern deep f p q =
      (ap (λ a. f a inner.pattern) p.is ∙ ap (f (placed scope n pattern)) (q.is ∙ ap (λ m. placed scope m deep) p.next), omega (arith, p.next, q.next))

  -- a group with elements
  elements-placed : (n : ℕ) (g : Translated) (pattern : NodePattern) (elements : Elements) → IsPlaced scope n g pattern → IsPlaced scope n (computed.with_elements scope g elements) (with_elements pattern elements)
  elements-placed n g pattern EndOfGroup p = p
  elements-placed n g pattern (Element OptionalGroup block elements next rest) p =
      let inner = computed.with_elements scope (computed.with_block scope (empty_group g.next) block) elements in
      let deep = with_elements (with_block (NodeBgp []) block) elements in
      let q = elements-placed g.next (computed.with_block scope (empty_group g.next) block) (with_block (NodeBgp []) block) elements (block-placed g.next (empty_group g.next) (NodeBgp []) block (empty-placed g.next)) in
      let (is, count) = both-placed n g inner pattern deep LeftJoin p q in
      let after : Translated = record { pattern = LeftJoin g.pattern inner.pattern; next = inner.next } in
      elements-placed n (computed.with_block scope after next) (with_block (NodeLeftJoin pattern deep) next) rest
      (block-placed n after (NodeLeftJoin pattern deep) next (record { is = is; next = count }))
  elements-placed n g pattern (Element NestedGroup block elements next rest) p =
      let inner = computed.with_elements scope (computed.with_block scope (empty_group g.next) block) elements in
      let deep = with_elements (with_block (NodeBgp []) block) elements in
      let q = elements-placed g.next (computed.with_block scope (empty_group g.next) block) (with_block (NodeBgp []) block) elements (block-placed g.next (empty_group g.next) (NodeBgp []) block (empty-placed g.next)) in
      let (is, count) = both-placed n g inner pattern deep Join p q in
      let after : Translated = record { pattern = Join g.pattern inner.pattern; next = inner.next } in
      elements-placed n (computed.with_block scope after next) (with_block (NodeJoin pattern deep) next) rest
      (block-placed n after (NodeJoin pattern deep) next (record { is = is; next = count }))

  -- the pattern of a group is that of its nodes, placed from 1 on
  group-placed : (group : Group) → pattern_of scope group ≡ placed scope 1 (translated group)
  group-placed group =
      (elements-placed 1 (computed.with_block scope (empty_group 1) group.block) (with_block (NodeBgp []) group.block) group.elements
      (block-placed 1 (empty_group 1) (NodeBgp []) group.block (empty-placed 1))).is

-- the front and the back of numbered triple patterns
numbered-front : (m : ℕ) (xs ys : List TriplePat) → AreNumbered m (xs ++ ys) → AreNumbered m xs
numbered-front m [] ys all = tt
numbered-front m (x ∷ xs) ys (first, rest) = (first, numbered-front (m + 1) xs ys rest)

-- the back goes on with the numbers after the front
numbered-back : (m : ℕ) (xs ys : List TriplePat) → AreNumbered m (xs ++ ys) → AreNumbered (m + length xs) ys
numbered-back m [] ys all = let e : m ≡ m + length {A = TriplePat} [] = omega arith in subst (λ (n : ℕ). AreNumbered n ys) e all
numbered-back m (x ∷ xs) ys (first, rest) =
    let e : (m + 1) + length xs ≡ m + length (x ∷ xs) = omega arith in
    subst (λ (n : ℕ). AreNumbered n ys) e (numbered-back (m + 1) xs ys rest)

-- numbers that are a range are in a row
range-numbered : (m : ℕ) (ts : List TriplePat) → map (λ t. t.number) ts ≡ range_with_len m (length ts) → AreNumbered m ts
range-numbered m [] e = tt
range-numbered m (t ∷ ts) e =
    let rest : map (λ (x : TriplePat). x.number) ts ≡ range_with_len (m + 1) (length ts) = cc in
    (cc, range-numbered (m + 1) ts rest)

-- the pattern that is computed is numbered from 1
pub pattern_of-numbered : (scope : Scope) (group : Group) → IsNumbered (pattern_of scope group)
pattern_of-numbered scope group = AreNumbered-range 1 (triple_patterns (pattern_of scope group)) (group-numbered scope group).numbers

module _ (tokens : List Labelled) (scope : Scope) (agrees : Agrees tokens scope) where
  -- where the nodes have places, the pattern that is computed is theirs
  patterns-are : (n : ℕ) (ts : List NodeTriple) → TriplesPlaces tokens scope agrees ts → OneByOne (IsTripleOf (context_with tokens scope)) ts (patterns_from scope n ts)
  patterns-are n [] all = tt
  patterns-are n (t ∷ ts) (first, others) = (record { subject = first.subject; predicate = first.verb; object = first.object }, patterns-are (n + 1) ts others)

  -- what is placed has the places of the nodes
  placed-is : (n : ℕ) (pattern : NodePattern) → PatternPlaces tokens scope agrees pattern → IsPatternOf (context_with tokens scope) pattern (placed scope n pattern)
  placed-is n (NodeBgp ts) all = patterns-are n ts all
  placed-is n (NodeJoin left right) (first, second) = (placed-is n left first, placed-is (n + triples left) right second)
  placed-is n (NodeLeftJoin left right) (first, second) = (placed-is n left first, placed-is (n + triples left) right second)

  -- the pattern that is computed has the places of the nodes
  pub pattern_of-is : (group : Group) → PatternPlaces tokens scope agrees (translated group) → IsPatternOf (context_with tokens scope) (translated group) (pattern_of scope group)
  pattern_of-is group all = subst (IsPatternOf (context_with tokens scope) (translated group)) (sym (group-placed scope group)) (placed-is 1 (translated group) all)

  -- and a pattern that is theirs, and numbered, is the one that is computed
  abbrev triple_at : Place → Place → Place → ℕ → TriplePat
  triple_at subject predicate object number = record { subject = subject; predicate = predicate; object = object; number = number }

  -- a triple pattern with the places of three nodes and a number is the one that is computed
  triple-is : (n : ℕ) (t : NodeTriple) (p : TriplePat) → IsTripleOf (context_with tokens scope) t p → p.number ≡ n →
      p ≡ triple_at (place_of scope t.subject) (place_of scope t.verb) (place_of scope t.object) n
  triple-is n t p is e =
      ap (λ x. triple_at x p.predicate p.object p.number) (place-is tokens scope agrees t.subject p.subject is.subject)
      ∙ ap (λ x. triple_at (place_of scope t.subject) x p.object p.number) (place-is tokens scope agrees t.verb p.predicate is.predicate)
      ∙ ap (λ x. triple_at (place_of scope t.subject) (place_of scope t.verb) x p.number) (place-is tokens scope agrees t.object p.object is.object)
      ∙ ap (triple_at (place_of scope t.subject) (place_of scope t.verb) (place_of scope t.object)) e

  -- triple patterns with the places of nodes, numbered in a row, are those that are computed
  triples-are : (n : ℕ) (ts : List NodeTriple) (ps : List TriplePat) → OneByOne (IsTripleOf (context_with tokens scope)) ts ps → AreNumbered n ps → ps ≡ patterns_from scope n ts
  triples-are n [] [] each numbers = refl
  triples-are n [] (p ∷ ps) each numbers = absurd each
  triples-are n (t ∷ ts) [] each numbers = absurd each
  triples-are n (t ∷ ts) (p ∷ ps) (first, others) (here, rest) =
      ap (λ x. x ∷ ps) (triple-is n t p first here) ∙ ap (λ xs. triple_at (place_of scope t.subject) (place_of scope t.verb) (place_of scope t.object) n ∷ xs) (triples-are (n + 1) ts ps others rest)

  -- there are as many triple patterns as triples
  one-length : (ts : List NodeTriple) (ps : List TriplePat) → OneByOne (IsTripleOf (context_with tokens scope)) ts ps → length ps ≡ length ts
  one-length [] [] each = refl
  one-length [] (p ∷ ps) each = absurd each
  one-length (t ∷ ts) [] each = absurd each
  one-length (t ∷ ts) (p ∷ ps) (first, others) = let e = one-length ts ps others in omega arith

  -- and so in a whole pattern
  same-length : (pattern : NodePattern) (a : Algebra) → IsPatternOf (context_with tokens scope) pattern a → length (triple_patterns a) ≡ triples pattern
  same-length (NodeBgp ts) (Bgp ps) each = one-length ts ps each
  same-length (NodeJoin left right) (Join l r) (first, second) =
      let a = same-length left l first in
      let b = same-length right r second in
      let c = length-append (triple_patterns l) (triple_patterns r) in
      omega arith
  same-length (NodeLeftJoin left right) (LeftJoin l r) (first, second) =
      let a = same-length left l first in
      let b = same-length right r second in
      let c = length-append (triple_patterns l) (triple_patterns r) in
      omega arith
  same-length (NodeBgp ts) (Join l r) is = absurd is
  same-length (NodeBgp ts) (LeftJoin l r) is = absurd is
  same-length (NodeJoin left right) (Bgp ps) is = absurd is
  same-length (NodeJoin left right) (LeftJoin l r) is = absurd is
  same-length (NodeLeftJoin left right) (Bgp ps) is = absurd is
  same-length (NodeLeftJoin left right) (Join l r) is = absurd is

  -- the right side goes on with the numbers after the left
  right-numbered : (n : ℕ) (left : NodePattern) (l r : Algebra) → IsPatternOf (context_with tokens scope) left l → AreNumbered n (triple_patterns l ++ triple_patterns r) → AreNumbered (n + triples left) (triple_patterns r)
  right-numbered n left l r is numbers =
      subst (λ (m : ℕ). AreNumbered (n + m) (triple_patterns r)) (same-length left l is) (numbered-back n (triple_patterns l) (triple_patterns r) numbers)

  -- a pattern with the places of its nodes, numbered in a row, is what is placed
  is-placed : (n : ℕ) (pattern : NodePattern) (a : Algebra) → IsPatternOf (context_with tokens scope) pattern a → AreNumbered n (triple_patterns a) → a ≡ placed scope n pattern
  is-placed n (NodeBgp ts) (Bgp ps) each numbers = ap Bgp (triples-are n ts ps each numbers)
  is-placed n (NodeJoin left right) (Join l r) (first, second) numbers =
      ap (λ x. Join x r) (is-placed n left l first (numbered-front n (triple_patterns l) (triple_patterns r) numbers))
      ∙ ap (Join (placed scope n left)) (is-placed (n + triples left) right r second (right-numbered n left l r first numbers))
  is-placed n (NodeLeftJoin left right) (LeftJoin l r) (first, second) numbers =
      ap (λ x. LeftJoin x r) (is-placed n left l first (numbered-front n (triple_patterns l) (triple_patterns r) numbers))
      ∙ ap (LeftJoin (placed scope n left)) (is-placed (n + triples left) right r second (right-numbered n left l r first numbers))
  is-placed n (NodeBgp ts) (Join l r) is numbers = absurd is
  is-placed n (NodeBgp ts) (LeftJoin l r) is numbers = absurd is
  is-placed n (NodeJoin left right) (Bgp ps) is numbers = absurd is
  is-placed n (NodeJoin left right) (LeftJoin l r) is numbers = absurd is
  is-placed n (NodeLeftJoin left right) (Bgp ps) is numbers = absurd is
  is-placed n (NodeLeftJoin left right) (Join l r) is numbers = absurd is

  -- a numbered pattern with the places of a group is the one that is computed
  pub is-pattern_of : (group : Group) (a : Algebra) → IsPatternOf (context_with tokens scope) (translated group) a → IsNumbered a → a ≡ pattern_of scope group
  is-pattern_of group a is numbered = is-placed 1 (translated group) a is (range-numbered 1 (triple_patterns a) numbered) ∙ sym (group-placed scope group)
