-- The items of a crash, and of the events of sessions that make no step.
use Rattle.std.proofs.Common.{arith}
use Rattle.command_semantics.proofs.Names.{ℕ, Bool, if◌then◌else◌, List, [], ◌∷◌, Option}
use Rattle.command_semantics.proofs.Names.{Some, None, All, inl, option_or, All-cons, All-append, SetupNumbers}
use Rattle.command_semantics.proofs.Names.{Cells, Fate, Works, FailsUnchanged, FailsApplied, Cause, Node}
use Rattle.command_semantics.proofs.Names.{Session, Cell, Row, SessionState, ReadTurn}
use Rattle.command_semantics.proofs.Names.{work_refusal, key_refusal, Held}
use Rattle.command_semantics.proofs.Names.{InstanceEntry, Client}
use Rattle.command_semantics.proofs.Names.{crashed_items, all_crashed_items, crash_on}
use Rattle.command_semantics.proofs.Names.{ask_begin_on, ask_commit_on}
use Rattle.command_semantics.proofs.Names.{abort_on, vanish_on, write_by}
use Rattle.command_semantics.proofs.Names.{write_open, write_on, open_asks, write_asks}
use Rattle.command_semantics.proofs.Names.{read_items, fetch_by, fetch_open, fetch_on}
use Rattle.command_semantics.proofs.Names.{epoch_asks, fetch_asks, Clocks}
use Rattle.history_book.specs.declared.cause.Cause.TheVariants as cause
use Rattle.history_book.specs.declared.item.Ending.TheVariants.{Aborted}
use Rattle.history_book.specs.declared.item.Item.TheVariants as item
use Rattle.command_semantics.proofs.ReadItems.{IsRead, Made, none_read, one_read, made_none, made_one, made_failed, made_fault, unchanged_fails, applied_fails, IfUntimed, made_refused}

-- ---- a crash
lost_read : (clocks : Clocks) (node term : ℕ) (held : Option Held) (c : Client) → All (IsRead clocks) (crashed_items node term held c)
lost_read clocks node term held c = grind (arith, none_read, one_read)

all_lost_read : (clocks : Clocks) (node term : ℕ) (requests : List (Option Held)) (cs : List Client) → All (IsRead clocks) (all_crashed_items node term requests cs)
unfolding all_crashed_items
all_lost_read clocks node term [] cs = none_read clocks
all_lost_read clocks node term (held ∷ others) [] = none_read clocks
all_lost_read clocks node term (held ∷ others) (c ∷ cs) = All-append (IsRead clocks) (crashed_items node term held c) (all_crashed_items node term others cs) (lost_read clocks node term held c) (all_lost_read clocks node term others cs)

pub crash_on_made : (clocks : Clocks) (fate : Fate) (node : ℕ) (post : Option InstanceEntry) (cs : List Client) → Made clocks None fate (crash_on node post cs).items
crash_on_made clocks fate node None cs = made_refused clocks None fate (Node node) (cause.NoOracle node) tt
crash_on_made clocks fate node (Some i) cs = inl (All-cons (IsRead clocks) (item.Crash node i.term) _ tt (all_lost_read clocks node i.term i.requests cs))

-- ---- refusals by the session's own state
work_untimed : (state : SessionState) (reading : Bool) → IfUntimed (work_refusal state reading)
work_untimed state reading = grind arith

key_untimed : (room : Bool) → IfUntimed (if room then None else Some cause.TooManyKeys)
key_untimed room = grind arith

reads_untimed : (c : Client) (key : ℕ) (kept : Bool) → IfUntimed (if kept then key_refusal c.reads key else None)
reads_untimed c key kept = grind arith

either_untimed : (work key : Option Cause) → IfUntimed work → IfUntimed key → IfUntimed (option_or work key)
either_untimed work key first second = grind arith

-- ---- the asks
pub ask_begin_on_made : (clocks : Clocks) (fate : Fate) (session node : ℕ) (c : Client) (post : Option InstanceEntry) → Made clocks None fate (ask_begin_on session node c post).items
ask_begin_on_made clocks fate session node c post = grind (arith, made_refused, made_one)

pub ask_commit_on_made : (clocks : Clocks) (fate : Fate) (session node : ℕ) (c : Client) (post : Option InstanceEntry) → Made clocks None fate (ask_commit_on session node c post).items
ask_commit_on_made clocks fate session node c post = grind (arith, made_refused, made_none, made_one)

-- ---- abort and vanish
pub abort_on_made : (clocks : Clocks) (fate : Fate) (session : ℕ) (c : Client) → Made clocks None fate (abort_on session c).items
abort_on_made clocks fate session c = grind (arith, made_refused, made_none, made_one)

pub vanish_on_made : (clocks : Clocks) (fate : Fate) (session : ℕ) (c : Client) → Made clocks None fate (vanish_on session c).items
vanish_on_made clocks fate session c = grind (arith, made_refused, made_one)

-- ---- write
write_fated : (clocks : Clocks) (session start key : ℕ) (value : List ℕ) (fate : Fate) (c : Client) (rows : List Row) → Made clocks (Some Cells) fate (write_by session start key value fate c rows).items
write_fated clocks session start key value Works c rows = made_one clocks (Some Cells) Works (item.Write session start key value) tt
write_fated clocks session start key value FailsUnchanged c rows = made_failed clocks Cells FailsUnchanged [] (Session session) (item.End session start Aborted ∷ []) unchanged_fails (none_read clocks) (one_read clocks (item.End session start Aborted) tt)
write_fated clocks session start key value FailsApplied c rows = made_failed clocks Cells FailsApplied [] (Session session) (item.End session start Aborted ∷ []) applied_fails (none_read clocks) (one_read clocks (item.End session start Aborted) tt)

write_made : (clocks : Clocks) (session key : ℕ) (value : List ℕ) (fate : Fate) (c : Client) (rows : List Row) (why : Option Cause) (start : Option ℕ) → IfUntimed why → Made clocks (open_asks why start) fate (write_open session key value fate c rows why start).items
write_made clocks session key value fate c rows why start untimed = grind (arith, made_refused, made_none, write_fated)

pub write_on_made : (clocks : Clocks) (session key : ℕ) (value : List ℕ) (fate : Fate) (c : Client) (rows : List Row) → Made clocks (write_asks key c) fate (write_on session key value fate c rows).items
write_on_made clocks session key value fate c rows =
    grind (arith, either_untimed, work_untimed, key_untimed, write_made)

-- ---- fetch
pub read_turn_read : (clocks : Clocks) (session start key : ℕ) (turn : ReadTurn) → All (IsRead clocks) (read_items session start key turn)
read_turn_read clocks session start key turn = grind (arith, none_read, one_read)

fetch_fated : (clocks : Clocks) (setup : SetupNumbers) (session start epoch key : ℕ) (fate : Fate) (c : Client) (cells : List Cell) → Made clocks (Some Cells) fate (fetch_by setup session start epoch key fate c cells).items
fetch_fated clocks setup session start epoch key Works c cells = grind (arith, read_turn_read)
fetch_fated clocks setup session start epoch key FailsUnchanged c cells = made_fault clocks Cells FailsUnchanged [] (Session session) unchanged_fails (none_read clocks)
fetch_fated clocks setup session start epoch key FailsApplied c cells = made_fault clocks Cells FailsApplied [] (Session session) applied_fails (none_read clocks)

fetch_made : (clocks : Clocks) (setup : SetupNumbers) (session key : ℕ) (fate : Fate) (c : Client) (rows : List Row) (why : Option Cause) (start epoch : Option ℕ) → IfUntimed why → Made clocks (epoch_asks epoch (open_asks why start)) fate (fetch_open setup session key fate c rows why start epoch).items
fetch_made clocks setup session key fate c rows why start epoch untimed =
    grind (arith, made_refused, made_none, fetch_fated)

pub fetch_on_made : (clocks : Clocks) (setup : SetupNumbers) (session key : ℕ) (fate : Fate) (c : Client) (rows : List Row) → Made clocks (fetch_asks setup key c) fate (fetch_on setup session key fate c rows).items
fetch_on_made clocks setup session key fate c rows =
    grind (arith, either_untimed, work_untimed, reads_untimed, fetch_made)
