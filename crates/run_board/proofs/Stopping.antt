-- For this crate's own proofs.
-- How a call answered, and what stands after it.
use Rattle.run_board.proofs.Names.{◌≡◌, Option, Some, None, Result, Ok, Err, sym, ◌∙◌, ap, same_Some, none-some, Event}
use Rattle.run_board.proofs.Names.{Stop, Stopped, Refused, StoreFault, NoMemory, Interruption, halt_of, refused_by}
use Rattle.run_board.proofs.Names.{Reaches, Turn, step_in, TurnsBy, Makes, halted, Ran}
use Rattle.command_semantics.specs.declared.point.Interruption.TheVariants as halt

-- the event was made
pub record Went (stop : Option Stop) (found : Option Interruption) (after : Type 0) : Type 0 where
  pub stopped : found ≡ halt_of stop
  pub stands : after

pub went : (stop : Option Stop) (answer : Result Unit Stopped) (found : Option Interruption) (before after : Type 0) → Reaches stop answer before after → halted answer ≡ Some found → Went stop found after
went stop (Ok done) found before after k is = record { stopped = sym (same_Some None found is) ∙ sym (ap halt_of k.0); stands = k.1 }
went stop (Err (Refused why)) found before after k is = record { stopped = sym (same_Some (Some (refused_by why)) found is) ∙ sym (ap halt_of k.0); stands = k.1 }
went stop (Err (StoreFault store)) found before after k is = record { stopped = sym (same_Some (Some halt.Faulted) found is) ∙ sym (ap halt_of k.0); stands = k.1 }
went stop (Err NoMemory) found before after k is = absurd (none-some found is)

-- memory was refused
pub stood : (stop : Option Stop) (answer : Result Unit Stopped) (before after : Type 0) → Reaches stop answer before after → halted answer ≡ None → before
stood stop (Ok done) before after k is = absurd (none-some None (sym is))
stood stop (Err (Refused why)) before after k is = absurd (none-some (Some (refused_by why)) (sym is))
stood stop (Err (StoreFault store)) before after k is = absurd (none-some (Some halt.Faulted) (sym is))
stood stop (Err NoMemory) before after k is = k

pub makes : (old : Ran) (t : Turn) (e : Event) (answer : Result Unit Stopped) (found : Option Interruption) (before after : Type 0) (new : Ran) → Reaches (step_in old e).stop answer before after → halted answer ≡ Some found → TurnsBy old t e new → Makes old t e answer new
makes old t e (Ok done) found before after new k is made = record { stopped = k.0; made = made }
makes old t e (Err (Refused why)) found before after new k is made = record { stopped = k.0; made = made }
makes old t e (Err (StoreFault store)) found before after new k is made = record { stopped = k.0; made = made }
makes old t e (Err NoMemory) found before after new k is made = absurd (none-some found is)

pub makes_none : (old : Ran) (t : Turn) (e : Event) (answer : Result Unit Stopped) (new : Ran) → halted answer ≡ None → new ≡ old → Makes old t e answer new
makes_none old t e (Ok done) new is same = absurd (none-some None (sym is))
makes_none old t e (Err (Refused why)) new is same = absurd (none-some (Some (refused_by why)) (sym is))
makes_none old t e (Err (StoreFault store)) new is same = absurd (none-some (Some halt.Faulted) (sym is))
makes_none old t e (Err NoMemory) new is same = same
