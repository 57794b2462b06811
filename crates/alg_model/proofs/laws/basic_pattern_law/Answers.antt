use Rattle.alg_model.proofs.BasicPatterns.{basic-exactly, basic-once, as_terms-values, as_terms-triples}
use Rattle.alg_model.proofs.laws.basic_pattern_law.Goals as goal

pub returns-clause-exactly : goal.returns-clause-exactly
returns-clause-exactly g c = λ interpretation n patterns triples tells below. basic-exactly interpretation tells n patterns triples below

pub returns-clause-once : goal.returns-clause-once
returns-clause-once g c = λ interpretation n patterns triples tells apart below distinct. basic-once interpretation tells n patterns triples apart below distinct

pub returns-clause-values_of_terms : goal.returns-clause-values_of_terms
returns-clause-values_of_terms g c = as_terms-values

pub returns-clause-triples_of_terms : goal.returns-clause-triples_of_terms
returns-clause-triples_of_terms g c = as_terms-triples
