use Rattle.std.proofs.Common.{◌+◌, ◌≤◌, ap, ◌∙◌, arith}
use Rattle.std.proofs.Math.Nat.{mul-le-mul_left}
use Rattle.index_file.specs.declared.counts.IndexCounts.{IndexCounts}
use Rattle.match_relations.specs.declared.numbered.Extent.{Extent}
use Rattle.match_relations.specs.steps.Numbers.{patterns_in}
use Rattle.match_relations.proofs.LimitLaws.{few_counts, few_patterns, few_vars}
use Rattle.match_relations.proofs.TreeLaws.{all_known}
use Rattle.match_relations.proofs.preparing.made.Goals as goal

pub borrow_all-requires-clause-low : goal.borrow_all-requires-clause-low
borrow_all-requires-clause-low c = let few = few_patterns c.args.tree.now c.nodes.ensures.pattern in let is = ap (λ (e : Extent). e.patterns) c.extent_of-extent.ensures in omega arith

pub widest-bits-requires : goal.widest-bits-requires
widest-bits-requires c = record { few = rw c.counts-counts.ensures.counts (few_counts c.args.index.now c.counts-counts.ensures.of_a_graph) }

pub overflow_mul-words : goal.overflow_mul-words
overflow_mul-words c =
    let few = few_vars c.args.tree.now c.nodes.ensures.pattern in
    let is = ap (λ (e : Extent). e.vars) c.extent_of-extent.ensures in
    let low : c.from-masks.result + 1 ≤ 65 = omega (arith, c.from-masks.ensures) in
    omega (arith, mul-le-mul_left c.words_for.result low, c.words_for.ensures, c.widest-bits.ensures.low)

pub words_in-requires-clause-short : goal.words_in-requires-clause-short
words_in-requires-clause-short c =
    let few = few_patterns c.args.tree.now c.nodes.ensures.pattern in
    let is = ap (λ (e : Extent). e.patterns) c.extent_of-extent.ensures in
    rw c.deref.ensures.value (omega (arith, c.in_ok-borrowed.ensures.count))

pub overflow_add-words : goal.overflow_add-words
overflow_add-words c =
    let few = few_vars c.args.tree.now c.nodes.ensures.pattern in
    let is = ap (λ (e : Extent). e.vars) c.extent_of-extent.ensures in
    let low : c.from-masks.result + 1 ≤ 65 = omega (arith, c.from-masks.ensures) in
    omega (arith, mul-le-mul_left c.words_for.result low, c.words_for.ensures, c.widest-bits.ensures.low, c.words_in.ensures.low)

pub all_with_masks-requires-clause-knows : goal.all_with_masks-requires-clause-knows
all_with_masks-requires-clause-knows c = all_known c.args.index.now.numbering (patterns_in c.args.tree.now) c.in_ok-borrowed.borrowed.items c.in_ok-borrowed.ensures.borrowed

pub returns-clause-made : goal.returns-clause-made
returns-clause-made c =
    let counts = c.counts-counts.ensures.counts in
    record {
      is_tree = c.nodes.ensures.pattern;
      some = c.counts-counts.ensures.of_a_graph;
      few = few_counts c.args.index.now c.counts-counts.ensures.of_a_graph;
      counts = record {
        shared = ap (λ (c : IndexCounts). c.shared) counts;
        subjects = ap (λ (c : IndexCounts). c.subjects) counts;
        objects = ap (λ (c : IndexCounts). c.objects) counts;
        predicates = ap (λ (c : IndexCounts). c.predicates) counts;
      };
      borrowed = c.in_ok-borrowed.borrowed.items;
      are = c.in_ok-borrowed.ensures.borrowed;
      many = c.in_ok-borrowed.ensures.count ∙ ap (λ (e : Extent). e.patterns) c.extent_of-extent.ensures;
      entries = rw counts at c.in_ok-entries.ensures.entries;
      work = let is = ap (λ (e : Extent). e.vars) c.extent_of-extent.ensures in omega (arith, c.in_ok-work.ensures.count, c.from-masks.ensures);
      bits = rw (c.widest-bits.ensures.bits, counts) at c.in_ok-work.ensures.bits;
      masks = c.in_ok-entries.ensures.masks c.in_ok-work.work c.in_ok-work.ensures.masks;
    }
