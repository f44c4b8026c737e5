use Rattle.system_parts.proofs.RowFetches.{Contains-fetched, fetched-falls, fetched-upto}
use Rattle.system_parts.proofs.rows.fetches_give_what_is_looked_up.Goals as goal

pub returns : goal.returns
returns c = record { cells = Contains-fetched; falling = fetched-falls; upto = fetched-upto }
