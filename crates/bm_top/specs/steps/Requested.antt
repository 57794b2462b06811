-- Carries proofs only: the request that the code's command is.
use Rattle.bm_top.specs.declared.command.Command.{Command}
use Rattle.bm_top.specs.declared.command.Command.TheVariants as commands
use Rattle.bm_top.specs.Command.{Request, ask, load, query, check}

abbrev pub requested : Command → Request
requested (commands.Ask data_name query_name form) = ask data_name.now query_name.now form
requested (commands.Load data_name index_name) = load data_name.now index_name.now
requested (commands.Query index_name query_name form) = query index_name.now query_name.now form
requested (commands.Check index_name) = check index_name.now
