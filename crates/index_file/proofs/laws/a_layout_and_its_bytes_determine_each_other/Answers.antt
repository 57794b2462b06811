use Rattle.index_file.proofs.LayoutLaws.{layout_in-layout_bytes, IsLaidOut-layout_bytes, IsReadWhole-laid_out, length-layout_bytes}
use Rattle.index_file.proofs.laws.a_layout_and_its_bytes_determine_each_other.Goals as goal

pub returns-clause-read : goal.returns-clause-read
returns-clause-read c = layout_in-layout_bytes

pub returns-clause-laid_out : goal.returns-clause-laid_out
returns-clause-laid_out c = IsLaidOut-layout_bytes

pub returns-clause-written : goal.returns-clause-written
returns-clause-written c = λ version bytes small fits laid. (IsReadWhole-laid_out version bytes small fits laid).again

pub returns-clause-can : goal.returns-clause-can
returns-clause-can c = λ version bytes small fits laid. (IsReadWhole-laid_out version bytes small fits laid).can

pub returns-clause-size : goal.returns-clause-size
returns-clause-size c = length-layout_bytes
