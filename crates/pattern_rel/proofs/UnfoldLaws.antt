-- Laws of unfolding: a mask that loses numbers drops the pairs that have them.
use Rattle.std.proofs.Common.{◌≡◌, ◌↔◌, ℕ, ◌&&◌, List, Option, Some, None, Bool, true, false, filter, refl, sym, ap, ◌∙◌, lt-ltb}
use Rattle.std.proofs.lemmas.Bool.{and_parts, and_from, ltb-true}
use Rattle.row_lanes.specs.Words.{Has}
use Rattle.cube_slices.specs.Lines.{Line, pairs_of}
use Rattle.pattern_rel.specs.declared.side.Side.TheVariants.{First, Second}
use Rattle.pattern_rel.specs.Left.{is_in, is_left, left_in}
use Rattle.pattern_rel.specs.Folds.{IsBelow, is_below, is_kept}
use Rattle.pattern_rel.proofs.PairLaws.{filter_both, is_in-has}

below-true : (cut : Option ℕ) (n : ℕ) → IsBelow cut n → is_below cut n ≡ true
below-true None n below = refl
below-true (Some cut) n below = lt-ltb n cut below

true-below : (cut : Option ℕ) (n : ℕ) → is_below cut n ≡ true → IsBelow cut n
true-below None n below = tt
true-below (Some cut) n below = ltb-true n cut below

-- two tests that pass alike are one
same_test : (a b : Bool) → (a ≡ true → b ≡ true) → (b ≡ true → a ≡ true) → a ≡ b
same_test true b there back = sym (there refl)
same_test false true there back = back refl
same_test false false there back = refl

first_apart : (a b d e : Bool) → ((a && (d && e)) && b) ≡ ((a && b) && (d && e))
first_apart true true d e = both_true d e
  where
    both_true : (d e : Bool) → ((true && (d && e)) && true) ≡ ((true && true) && (d && e))
    both_true true true = refl
    both_true true false = refl
    both_true false e = refl
first_apart true false true true = refl
first_apart true false true false = refl
first_apart true false false e = refl
first_apart false b d e = refl

second_apart : (a b d e : Bool) → (a && (b && (d && e))) ≡ ((a && b) && (d && e))
second_apart true true d e = refl
second_apart true false d e = refl
second_apart false b d e = refl

module _ (old new by : List ℕ) (cut : Option ℕ) where
  narrowed : ((n : ℕ) → Has new n ↔ (Has old n × Has by n × IsBelow cut n)) → (n : ℕ) → is_in new n ≡ (is_in old n && (is_in by n && is_below cut n))
  narrowed kept n = same_test (is_in new n) (is_in old n && (is_in by n && is_below cut n))
      (λ passes. (
      let k = (kept n).0 ((is_in-has new n).0 passes) in
      and_from (is_in old n) (is_in by n && is_below cut n) ((is_in-has old n).1 k.0) (and_from (is_in by n) (is_below cut n) ((is_in-has by n).1 k.1) (below-true cut n k.2))))
      (λ passes. (
      let first = and_parts (is_in old n) (is_in by n && is_below cut n) passes in
      let second = and_parts (is_in by n) (is_below cut n) first.1 in
      (is_in-has new n).1 ((kept n).1 ((is_in-has old n).0 first.0, (is_in-has by n).0 second.0, true-below cut n second.1))))

  pub unfolded_first : (seconds : List ℕ) (ls : List Line) → ((n : ℕ) → Has new n ↔ (Has old n × Has by n × IsBelow cut n)) → left_in new seconds ls ≡ filter (is_kept First by cut) (left_in old seconds ls)
  unfolded_first seconds ls kept =
      filter_both (is_kept First by cut) (is_left old seconds) (is_left new seconds)
      (λ p. ap (λ (b : Bool). b && is_in seconds p.1) (narrowed kept p.0) ∙ first_apart (is_in old p.0) (is_in seconds p.1) (is_in by p.0) (is_below cut p.0))
      (pairs_of ls)

  pub unfolded_second : (firsts : List ℕ) (ls : List Line) → ((n : ℕ) → Has new n ↔ (Has old n × Has by n × IsBelow cut n)) → left_in firsts new ls ≡ filter (is_kept Second by cut) (left_in firsts old ls)
  unfolded_second firsts ls kept =
      filter_both (is_kept Second by cut) (is_left firsts old) (is_left firsts new)
      (λ p. ap (λ (b : Bool). is_in firsts p.0 && b) (narrowed kept p.1) ∙ second_apart (is_in firsts p.0) (is_in old p.1) (is_in by p.1) (is_below cut p.1))
      (pairs_of ls)
