-- A text that is written by several calls, each of which takes some of what is left.
use Rattle.std.proofs.Common.{◌≡◌, ℕ, ◌+◌, ◌==◌, true, List, ◌++◌, length, take, drop, Option, sym, ◌∙◌, ap, append_assoc, take-append-drop}
use Rattle.std.proofs.lemmas.List.{append-nil, nil_from_length}
use Rattle.std.proofs.lemmas.Bool.{eqb-true}
use Rattle.std.proofs.Math.Seq.{take-append-add}
use Rattle.bm_world.specs.Meanings.{Meanings, with_printed, with_complained}
use Rattle.bm_world.specs.World.{Step, AppendsSome}
use Rattle.bm_world.proofs.Steps.{Step-then, Step-weaken}

-- two texts appended after one another are their one text appended
abbrev pub IsAppending : (Meanings → List ℕ → Meanings) → Type 0
IsAppending change = (m : Meanings) (a b : List ℕ) → change (change m a) b ≡ change m (a ++ b)

-- what is written to standard output is put after the rest
pub printed_appends : IsAppending with_printed
printed_appends m a b = ap (λ (text : List ℕ). record m { printed = text }) (append_assoc m.printed a b)

-- so is what is written to standard error
pub complained_appends : IsAppending with_complained
complained_appends m a b = ap (λ (text : List ℕ). record m { complained = text }) (append_assoc m.complained a b)

-- what comes before the rest is appended
pub record AppendsUpTo (change : Meanings → List ℕ → Meanings) (all rest : List ℕ) (m n : Meanings) : Type 0 where
  pub front : List ℕ
  pub whole : front ++ rest ≡ all
  pub moved : n ≡ change m front

module _ (change : Meanings → List ℕ → Meanings) (appends : IsAppending change) where
  -- one call more
  pub appends_more : {a b c : Option Meanings} {all rest after : List ℕ} (count : ℕ) → after ≡ drop count rest → Step a b (AppendsUpTo change all rest) → Step b c (λ m n. n ≡ change m (take count rest)) → Step a c (AppendsUpTo change all after)
  appends_more {all = all} {rest = rest} count is_after before call = Step-then before call (λ m k n so_far moved. record {
    front = so_far.front ++ take count rest;
    whole = append_assoc so_far.front _ _ ∙ ap (λ (text : List ℕ). so_far.front ++ (take count rest ++ text)) is_after ∙ ap (λ (text : List ℕ). so_far.front ++ text) (take-append-drop count rest) ∙ so_far.whole;
    moved = moved ∙ ap (λ k. change k (take count rest)) so_far.moved ∙ appends m so_far.front (take count rest);
  })

  -- a call that fails
  pub appends_some : {a b c : Option Meanings} {all rest : List ℕ} → Step a b (AppendsUpTo change all rest) → Step b c (AppendsSome change rest) → Step a c (AppendsSome change all)
  appends_some {rest = rest} before call = Step-then before call (λ m k n so_far moved. (
    length so_far.front + moved.0,
    moved.1 ∙ ap (λ k. change k (take moved.0 rest)) so_far.moved
        ∙ appends m so_far.front (take moved.0 rest)
        ∙ ap (λ text. change m text) (sym (take-append-add so_far.front rest moved.0))
        ∙ ap (λ text. change m (take (length so_far.front + moved.0) text)) so_far.whole,
  ))

-- after the last call
pub appends_all : {change : Meanings → List ℕ → Meanings} {a b : Option Meanings} {all rest : List ℕ} → (length rest == 0) ≡ true → Step a b (AppendsUpTo change all rest) → Step a b (λ m n. n ≡ change m all)
appends_all {change} {all = all} {rest = rest} is_empty before = Step-weaken before (λ m n so_far. so_far.moved
    ∙ ap (λ text. change m text) (sym (append-nil so_far.front) ∙ ap (λ text. so_far.front ++ text) (sym (nil_from_length rest (eqb-true (length rest) 0 is_empty))) ∙ so_far.whole))
