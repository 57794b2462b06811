-- A query as data without boxes, which is what its text denotes. SPARQL 1.1 Query, section 18.2.
use Rattle.std.specs.Prelude.{ℕ, Bool, List}
use Rattle.alg_model.specs.declared.var.Var.{Var}
use Rattle.alg_model.specs.declared.query.Query.{Query}
use Rattle.alg_model.specs.Pattern.{Algebra, algebra_of}

pub record AbstractQuery : Type 0 where
  pub names : List (List ℕ)
  pub pattern : Algebra
  pub columns : List Var
  pub distinct : Bool

-- what a query of the code is
abbrev pub abstract_of : Query → AbstractQuery
abstract_of query = record { names = query.names; pattern = algebra_of query.pattern; columns = query.columns; distinct = query.distinct }
