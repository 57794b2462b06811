-- Carries proofs only: why there is no answer, by what each part said.
use Rattle.bm_top.specs.declared.undecided.Undecided.{Undecided}
use Rattle.bm_top.specs.declared.undecided.Undecided.TheVariants as undecided
use Rattle.bm_top.specs.declared.refusal.QueryRefusal.TheVariants.{Fault}
use Rattle.term_numbers.specs.declared.fault.NumberFault.{NumberFault}
use Rattle.term_numbers.specs.declared.fault.NumberFault.TheVariants as number_faults
use Rattle.index_image.specs.declared.fault.ImageFault.{ImageFault}
use Rattle.index_image.specs.declared.fault.ImageFault.TheVariants as image_faults
use Rattle.sparql_parse.specs.declared.fault.QueryFault.{QueryFault}
use Rattle.sparql_parse.specs.declared.fault.QueryFault.TheVariants as query_faults

abbrev pub from_numbers : NumberFault → Undecided
from_numbers number_faults.TooManyTriples = undecided.TooManyTriples
from_numbers number_faults.Memory = undecided.Memory

abbrev pub from_image : ImageFault → Undecided
from_image image_faults.TooLong = undecided.ImageTooLong
from_image image_faults.Memory = undecided.Memory

abbrev pub from_query : QueryFault → Undecided
from_query query_faults.Memory = undecided.Memory
from_query fault = undecided.Query (Fault fault)
