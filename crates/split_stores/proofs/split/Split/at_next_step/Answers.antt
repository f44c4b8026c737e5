use Rattle.std.proofs.Common.{rules, sym, ap, ◌∙◌, arith, slice_set}
use Rattle.std.specs.Prelude.{Some}
use Rattle.machine.specs.Events.Step.{step_asks}
use Rattle.split_parts.specs.Parts.{Parts, seen, session_of, sessions_seen}
use Rattle.split_stores.proofs.LockLemmas.{step_there}
use Rattle.split_stores.proofs.split.Split.at_next_step.Goals as goal

pub inside-requires-clause-parts : goal.inside-requires-clause-parts
inside-requires-clause-parts g c = λ lifetimes within at. step_there c.args.turn.now.event (seen c.with_session-lent.result) (seen c.none.result) _ c.args.session c.index-in-None.result (session_of c.deref.result.now) c.next_store.result c.requires.step (ap (λ (p : Parts). p.sessions) c.with_session-lent.ensures ∙ (λ k. slice_set (sessions_seen c.none.result) c.index-in-None.result (Some (session_of ((c.deref_mut.ensures.value ∙ sym c.deref.ensures) k))))) c.none.ensures c.index-in-None.ensures.value (grind arith) (c.next_store.ensures ∙ ap step_asks c.client.ensures) (rw c.in-None.is tt) at

pub inside-requires-in-Some-Cells-clause-parts : goal.inside-requires-in-Some-Cells-clause-parts
inside-requires-in-Some-Cells-clause-parts g c = λ lifetimes within at. step_there c.args.turn.now.event (seen c.with_cells-lent.result) (seen c.none-in-Some-Cells.result) _ c.args.session c.index-in-Some-Cells.result (session_of c.deref.result.now) c.next_store.result c.requires.step (ap (λ (p : Parts). p.sessions) c.with_cells-lent.ensures ∙ ap (λ (p : Parts). p.sessions) c.with_session.ensures ∙ (λ k. slice_set (sessions_seen c.none-in-Some-Cells.result) c.index-in-Some-Cells.result (Some (session_of ((c.deref_mut-in-Some-Cells.ensures.value ∙ sym c.deref.ensures) k))))) c.none-in-Some-Cells.ensures c.index-in-Some-Cells.ensures.value (grind arith) (c.next_store.ensures ∙ ap step_asks c.client.ensures) (rw (c.in-Some-Cells.is, c.in-Some-Cells.field-0-is) (search rules)) at

pub inside-requires-in-Some-Table-clause-parts : goal.inside-requires-in-Some-Table-clause-parts
inside-requires-in-Some-Table-clause-parts g c = λ lifetimes within at. step_there c.args.turn.now.event (seen c.with_table-lent.result) (seen c.none-in-Some-Table.result) _ c.args.session c.index-in-Some-Table.result (session_of c.deref.result.now) c.next_store.result c.requires.step (ap (λ (p : Parts). p.sessions) c.with_table-lent.ensures ∙ ap (λ (p : Parts). p.sessions) c.with_session-in-Some-Table.ensures ∙ (λ k. slice_set (sessions_seen c.none-in-Some-Table.result) c.index-in-Some-Table.result (Some (session_of ((c.deref_mut-in-Some-Table.ensures.value ∙ sym c.deref.ensures) k))))) c.none-in-Some-Table.ensures c.index-in-Some-Table.ensures.value (grind arith) (c.next_store.ensures ∙ ap step_asks c.client.ensures) (rw (c.in-Some-Table.is, c.in-Some-Table.field-0-is) (search rules)) at

pub inside-requires-in-Some-Master-clause-parts : goal.inside-requires-in-Some-Master-clause-parts
inside-requires-in-Some-Master-clause-parts g c = λ lifetimes within at. step_there c.args.turn.now.event (seen c.with_master-lent.result) (seen c.none-in-Some-Master.result) _ c.args.session c.index-in-Some-Master.result (session_of c.deref.result.now) c.next_store.result c.requires.step (ap (λ (p : Parts). p.sessions) c.with_master-lent.ensures ∙ ap (λ (p : Parts). p.sessions) c.with_session-in-Some-Master.ensures ∙ (λ k. slice_set (sessions_seen c.none-in-Some-Master.result) c.index-in-Some-Master.result (Some (session_of ((c.deref_mut-in-Some-Master.ensures.value ∙ sym c.deref.ensures) k))))) c.none-in-Some-Master.ensures c.index-in-Some-Master.ensures.value (grind arith) (c.next_store.ensures ∙ ap step_asks c.client.ensures) (rw (c.in-Some-Master.is, c.in-Some-Master.field-0-is) (search rules)) at
