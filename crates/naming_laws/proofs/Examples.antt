-- Worked examples, by computation: places in a table of texts, of which one text has two.
use Rattle.std.proofs.Common.{◌≡◌, ◌≢◌, ℕ, List, [], ◌∷◌, get_or, Some, None, codes, refl, arith}
use Rattle.alg_model.specs.declared.pattern.Place.TheVariants as places
use Rattle.alg_model.specs.declared.pattern.TriplePat.{TriplePat}
use Rattle.naming_laws.specs.Naming.{named_row, named_family}

-- the nodes <a> and <p>, and then the predicate <p>
abbrev table : List (List ℕ)
table = codes "<a>" ∷ codes "<p>" ∷ codes "<p>" ∷ []

abbrev text : ℕ → List ℕ
text place = get_or table place []

-- a named row binds what the row binds
row : named_row text (Some 0 ∷ None ∷ Some 2 ∷ []) ≡ Some (codes "<a>") ∷ None ∷ Some (codes "<p>") ∷ []
row = refl

-- rows of both names of <p> are one row once they are named: so the names of a variable have to be told apart
one_row : named_row text (Some 1 ∷ []) ≡ named_row text (Some 2 ∷ [])
one_row = refl

two_names : ◌≢◌ {A = ℕ} 1 2
two_names same = omega arith

-- ?x <p> ?y
abbrev pattern : TriplePat
pattern = record { subject = places.Var (record { 0 = 0 }); predicate = places.Term (codes "<p>"); object = places.Var (record { 0 = 1 }); number = 1 }

-- pairs of places, and the pairs of texts that they name
family : named_family {Y = ℕ × ℕ} {X = List ℕ × List ℕ} (λ pair. (text pair.0, text pair.1)) (λ pattern. (0, 1) ∷ (1, 0) ∷ []) pattern ≡ (codes "<a>", codes "<p>") ∷ (codes "<p>", codes "<a>") ∷ []
family = refl
