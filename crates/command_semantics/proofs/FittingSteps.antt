-- A session's own events keep that an open transaction has an epoch.
use Rattle.std.proofs.Common.{arith}
use Rattle.command_semantics.proofs.Names.{ℕ, List, Option, SetupNumbers, Mark, Fate}
use Rattle.command_semantics.proofs.Names.{Cause, Row, Pairs, Ask}
use Rattle.command_semantics.proofs.Names.{Settling, SettleTurn}
use Rattle.command_semantics.proofs.Names.{Remembering, UnderWay, Client}
use Rattle.command_semantics.proofs.Names.{write_open, client_recalled}
use Rattle.command_semantics.proofs.Names.{fetch_open, place_by}
use Rattle.command_semantics.proofs.Names.{client_settled, after_asks, step_at, step_due, heal_at, abort_by}
use Rattle.command_semantics.proofs.Names.{vanish_by}
use Rattle.machine.specs.Events.Step.{step_by}
use Rattle.command_semantics.proofs.Fitting.{ClientFits, aborted_fits}

pub write_fits : (s key : ℕ) (value : List ℕ) (fate : Fate) (c : Client) (rows : List Row) (why : Option Cause) (start : Option ℕ) → ClientFits c → ClientFits (write_open s key value fate c rows why start).parts.0
write_fits s key value fate c rows why start fit = grind (arith, aborted_fits)

recall_fits : (c : Client) (x : Remembering) → ClientFits c → ClientFits (client_recalled c x)
recall_fits c x fit = grind arith

pub fetch_fits : (setup : SetupNumbers) (s key : ℕ) (fate : Fate) (c : Client) (rows : List Row) (why : Option Cause) (start epoch : Option ℕ) → ClientFits c → ClientFits (fetch_open setup s key fate c rows why start epoch).parts
fetch_fits setup s key fate c rows why start epoch fit = grind arith

settle_fits : (c : Client) (x : Settling) (turn : SettleTurn) → ClientFits c → ClientFits (client_settled c x turn)
settle_fits c x turn fit = grind (arith, aborted_fits)

asks_fit : (c : Client) (asks : List Ask) → ClientFits c → ClientFits (after_asks c asks)
asks_fit c asks fit = grind arith

work_fits : (s : ℕ) (fate : Fate) (c : Client) (rows : List Row) (pairs : Pairs) (work : UnderWay) → ClientFits c → ClientFits (step_at s fate c rows pairs work).parts.0
work_fits s fate c rows pairs work fit = grind (arith, recall_fits, settle_fits, asks_fit)

place_fits : (s start commit : ℕ) (fate : Fate) (found : Option Mark) (c : Client) (pairs : Pairs) → ClientFits (place_by s start commit fate found c pairs).parts.0
place_fits s start commit fate found c pairs = grind (arith, aborted_fits)

due_fits : (s : ℕ) (fate : Fate) (c : Client) (rows : List Row) (pairs : Pairs) (due : Option (ℕ × ℕ)) → ClientFits c → ClientFits (step_due s fate c rows pairs due).parts.0
due_fits s fate c rows pairs due fit = grind (arith, work_fits, place_fits)

pub step_fits : (s : ℕ) (fate : Fate) (c : Client) (rows : List Row) (pairs : Pairs) (why : Option Cause) → ClientFits c → ClientFits (step_by s fate c rows pairs why).parts.0
step_fits s fate c rows pairs why fit = grind (arith, due_fits)

pub heal_fits : (s : ℕ) (fate : Fate) (c : Client) (rows : List Row) (pairs : Pairs) (offer : Option (ℕ × ℕ × ℕ)) → ClientFits c → ClientFits (heal_at s fate c rows pairs offer).parts.0
heal_fits s fate c rows pairs offer fit = grind arith

pub abort_fits : (s : ℕ) (c : Client) (why : Option Cause) (start : Option ℕ) → ClientFits c → ClientFits (abort_by s c why start).parts
abort_fits s c why start fit = grind (arith, aborted_fits)

pub vanish_fits : (s : ℕ) (c : Client) (why : Option Cause) → ClientFits c → ClientFits (vanish_by s c why).parts
vanish_fits s c why fit = grind arith
