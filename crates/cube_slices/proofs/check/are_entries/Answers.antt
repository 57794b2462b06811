use Rattle.std.proofs.Common.{ℕ, length, List, subst, sym, rules, eqb-true, eq-eqb}
use Rattle.cube_slices.specs.Slices.{AreEntries}
use Rattle.cube_slices.proofs.EntryLaws.{AreEntries-first}
use Rattle.cube_slices.proofs.check.are_entries.Goals as goal

pub loop-entry-init : goal.loop-entry-init
loop-entry-init c = (λ are. are, λ are. are)

pub returns-then-not-is_entry : goal.returns-then-not-is_entry
returns-then-not-is_entry c =
    let first = AreEntries-first c.args.form c.args.rows c.args.columns c.loop-entry.low c.loop-entry.from c.in-Some.entry _ _ c.loop-entry.bytes.now c.in-Some.ensures.first in
    (λ never. absurd (search rules), λ are. let entry = c.is_entry.ensures.1 (first.0 (c.loop-entry.invariant.0 are)).0 in absurd (cc))

pub loop-entry-preserved : goal.loop-entry-preserved
loop-entry-preserved c =
    let first = AreEntries-first c.args.form c.args.rows c.args.columns c.loop-entry.low c.loop-entry.from c.in-Some.entry _ _ c.loop-entry.bytes.now c.in-Some.ensures.first in
    let entry = c.is_entry.ensures.0 (search rules) in
    rw c.split_at.ensures.back (λ are. (first.0 (c.loop-entry.invariant.0 are)).1, λ behind. c.loop-entry.invariant.1 (first.1 (entry, behind)))

pub returns : goal.returns
returns c =
    let none = c.in_default.ensures.none in
    let at_end = λ (es : List (ℕ × ℕ)). (AreEntries c.args.form c.args.rows c.args.columns c.loop-entry.low c.loop-entry.from es c.loop-entry.bytes.now) in
    rw c.is_empty.ensures (
      λ empty. c.loop-entry.invariant.1 (subst at_end (sym none) (eqb-true (length c.loop-entry.bytes.now) 0 empty)),
      λ are. eq-eqb (length c.loop-entry.bytes.now) 0 (subst at_end none (c.loop-entry.invariant.0 are)),
    )
