use Rattle.alg_model.specs.Pattern.{algebra_of}
use Rattle.well_designed.proofs.LeastNumbers.{three_places-none, three_places-least}
use Rattle.well_designed.proofs.places.three_places.Goals as goal

pub returns-clause-none : goal.returns-clause-none
returns-clause-none c = three_places-none (algebra_of c.args.pattern.now) c.least_number.result c.least_number.ensures

pub returns-clause-least : goal.returns-clause-least
returns-clause-least c = three_places-least (algebra_of c.args.pattern.now) c.least_number.result c.least_number.ensures
