use Rattle.pruning_laws.proofs.LeftItems.{left_items_are_one}
use Rattle.pruning_laws.proofs.laws.left_items_law.Goals as goal

pub returns : goal.returns
returns g c = λ interpretation tree triple whole left other apart is is' k pattern stands.
    left_items_are_one interpretation tree triple whole apart left other is is' k pattern stands
