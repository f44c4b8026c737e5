use Rattle.split_parts.proofs.Names.{sym, ap, ◌∙◌, arith, Option, Client, step_asks, asks_at_client, seen}
use Rattle.split_parts.proofs.FoundParts.{client_there}
use Rattle.split_parts.proofs.lent.Lent.step_store.Goals as goal

pub returns : goal.returns
returns c = c.next_store.ensures ∙ sym (ap (λ (found : Option Client). asks_at_client found step_asks) (client_there (seen c.args.self.now) c.args.session c.in_ok-client.field-0.now (grind arith) (sym c.in_ok-client.ensures)))
