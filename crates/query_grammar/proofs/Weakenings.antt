-- Where one rule of the push parser takes what another leaves to it.
use Rattle.std.proofs.Common.{◌≡◌, ℕ, Some, Option}
use Rattle.query_grammar.specs.declared.terminal.Terminal.{Terminal}
use Rattle.query_grammar.specs.declared.terminal.Terminal.TheVariants as terminals
use Rattle.query_grammar.specs.declared.expect.Step.{Step}
use Rattle.query_grammar.specs.Expecting.{columns_step, projection_step, group_step, where_step, more_columns_step, element_step, block_step, after_element_step, verb_step, after_subject_string_step, after_objects_step, after_object_step, after_object_string_step, after_semicolon_step}

-- what one rule reads, the other reads as well, in the same role and to the same state
pub record Reads-as (first second : Terminal → Option Step) : Type 0 where
  pub same : (terminal : Terminal) (step : Step) → first terminal ≡ Some step → second terminal ≡ Some step

columns-projection-at : (n : ℕ) (terminal : Terminal) (step : Step) → columns_step n terminal ≡ Some step → projection_step n terminal ≡ Some step
columns-projection-at n terminals.DistinctWord step e = cc
columns-projection-at n _ step e = e

pub columns-projection : (n : ℕ) → Reads-as (columns_step n) (projection_step n)
columns-projection n = record { same = columns-projection-at n }

group-where-at : (n : ℕ) (terminal : Terminal) (step : Step) → group_step n terminal ≡ Some step → where_step n terminal ≡ Some step
group-where-at n terminals.WhereWord step e = cc
group-where-at n _ step e = e

pub group-where : (n : ℕ) → Reads-as (group_step n) (where_step n)
group-where n = record { same = group-where-at n }

where-more_columns-at : (n : ℕ) (terminal : Terminal) (step : Step) → where_step n terminal ≡ Some step → more_columns_step n terminal ≡ Some step
where-more_columns-at n terminals.Variable step e = cc
where-more_columns-at n _ step e = e

pub where-more_columns : (n : ℕ) → Reads-as (where_step n) (more_columns_step n)
where-more_columns n = record { same = where-more_columns-at n }

group-element-at : (n : ℕ) (terminal : Terminal) (step : Step) → group_step n terminal ≡ Some step → element_step n terminal ≡ Some step
group-element-at n terminals.OptionalWord step e = cc
group-element-at n terminals.Close step e = cc
group-element-at n _ step e = e

pub group-element : (n : ℕ) → Reads-as (group_step n) (element_step n)
group-element n = record { same = group-element-at n }

element-block-at : (n : ℕ) (terminal : Terminal) (step : Step) → element_step n terminal ≡ Some step → block_step n terminal ≡ Some step
element-block-at n terminals.Variable step e = cc
element-block-at n terminals.Iri step e = cc
element-block-at n terminals.Prefixed step e = cc
element-block-at n terminals.Prefix step e = cc
element-block-at n terminals.Quoted step e = cc
element-block-at n terminals.Number step e = cc
element-block-at n terminals.Boolean step e = cc
element-block-at n _ step e = e

pub element-block : (n : ℕ) → Reads-as (element_step n) (block_step n)
element-block n = record { same = element-block-at n }

block-after_element-at : (n : ℕ) (terminal : Terminal) (step : Step) → block_step n terminal ≡ Some step → after_element_step n terminal ≡ Some step
block-after_element-at n terminals.Stop step e = cc
block-after_element-at n _ step e = e

pub block-after_element : (n : ℕ) → Reads-as (block_step n) (after_element_step n)
block-after_element n = record { same = block-after_element-at n }

verb-after_string-at : (n : ℕ) (terminal : Terminal) (step : Step) → verb_step n terminal ≡ Some step → after_subject_string_step n terminal ≡ Some step
verb-after_string-at n terminals.Tag step e = cc
verb-after_string-at n terminals.Carets step e = cc
verb-after_string-at n _ step e = e

pub verb-after_string : (n : ℕ) → Reads-as (verb_step n) (after_subject_string_step n)
verb-after_string n = record { same = verb-after_string-at n }

element-after_objects-at : (n : ℕ) (terminal : Terminal) (step : Step) → element_step n terminal ≡ Some step → after_objects_step n terminal ≡ Some step
element-after_objects-at n terminals.Semicolon step e = cc
element-after_objects-at n terminals.Stop step e = cc
element-after_objects-at n _ step e = e

pub element-after_objects : (n : ℕ) → Reads-as (element_step n) (after_objects_step n)
element-after_objects n = record { same = element-after_objects-at n }

after_objects-after_object-at : (n : ℕ) (terminal : Terminal) (step : Step) → after_objects_step n terminal ≡ Some step → after_object_step n terminal ≡ Some step
after_objects-after_object-at n terminals.Comma step e = cc
after_objects-after_object-at n _ step e = e

pub after_objects-after_object : (n : ℕ) → Reads-as (after_objects_step n) (after_object_step n)
after_objects-after_object n = record { same = after_objects-after_object-at n }

after_object-after_string-at : (n : ℕ) (terminal : Terminal) (step : Step) → after_object_step n terminal ≡ Some step → after_object_string_step n terminal ≡ Some step
after_object-after_string-at n terminals.Tag step e = cc
after_object-after_string-at n terminals.Carets step e = cc
after_object-after_string-at n _ step e = e

pub after_object-after_string : (n : ℕ) → Reads-as (after_object_step n) (after_object_string_step n)
after_object-after_string n = record { same = after_object-after_string-at n }

after_objects-after_semicolon-at : (n : ℕ) (terminal : Terminal) (step : Step) → after_objects_step n terminal ≡ Some step → after_semicolon_step n terminal ≡ Some step
after_objects-after_semicolon-at n terminals.Variable step e = cc
after_objects-after_semicolon-at n terminals.Iri step e = cc
after_objects-after_semicolon-at n terminals.Prefixed step e = cc
after_objects-after_semicolon-at n terminals.Prefix step e = cc
after_objects-after_semicolon-at n terminals.A step e = cc
after_objects-after_semicolon-at n _ step e = e

pub after_objects-after_semicolon : (n : ℕ) → Reads-as (after_objects_step n) (after_semicolon_step n)
after_objects-after_semicolon n = record { same = after_objects-after_semicolon-at n }

verb-after_semicolon-at : (n : ℕ) (terminal : Terminal) (step : Step) → verb_step n terminal ≡ Some step → after_semicolon_step n terminal ≡ Some step
verb-after_semicolon-at n terminals.Variable step e = e
verb-after_semicolon-at n terminals.Iri step e = e
verb-after_semicolon-at n terminals.Prefixed step e = e
verb-after_semicolon-at n terminals.Prefix step e = e
verb-after_semicolon-at n terminals.A step e = e
verb-after_semicolon-at n _ step e = cc

pub verb-after_semicolon : (n : ℕ) → Reads-as (verb_step n) (after_semicolon_step n)
verb-after_semicolon n = record { same = verb-after_semicolon-at n }
