-- Where the items stand that show a refusal: one place for each thing that cause_rules asks for. None where it is not shown. What
-- the numbers of a setup decide is left out: FromSetup in Decided has it.
use Rattle.std.specs.Prelude.{ℕ, suc, ◌==◌, nat_lt, nat_le, Bool, true, false, ◌&&◌, if◌then◌else◌, List, Option, None, Some, is_none, is_some, slice_get}
use Rattle.std.specs.Option.{option_or}
use Rattle.history_book.specs.declared.cause.Cause.{Cause}
use Rattle.history_book.specs.declared.cause.Cause.TheVariants as cause
use Rattle.history_book.specs.declared.item.Actor.{Actor}
use Rattle.history_book.specs.declared.item.Actor.TheVariants.{Session, Node, Janitor, Clock}
use Rattle.history_book.specs.declared.item.Item.{Item}
use Rattle.history_book.specs.declared.item.Item.TheVariants.{Draw}
use Rattle.cause_rules.specs.Asks.{its_node, its_start, its_term, its_draw}
use Rattle.cause_rules.specs.OwnKeys.{last_begun}
use Rattle.refusal_reasons.specs.declared.shown.Places.{Places}
use Rattle.refusal_reasons.specs.declared.clue.Clue.TheVariants as clue
use Rattle.refusal_reasons.specs.Clues.{draws_commit, fits}
use Rattle.refusal_reasons.specs.Sought.{passes, last_place, seek, behind}

-- ---- all of some places, where each is there and the numbers agree
abbrev pub no_places : Bool → Option Places
no_places true = Some (record { first = None; second = None; third = None })
no_places false = None

abbrev pub one_place : Bool → Option ℕ → Option Places
one_place true (Some a) = Some (record { first = Some a; second = None; third = None })
one_place _ _ = None

abbrev pub two_places : Bool → Option ℕ → Option ℕ → Option Places
two_places true (Some a) (Some b) = Some (record { first = Some a; second = Some b; third = None })
two_places _ _ _ = None

abbrev pub three_places : Bool → Option ℕ → Option ℕ → Option ℕ → Option Places
three_places true (Some a) (Some b) (Some c) = Some (record { first = Some a; second = Some b; third = Some c })
three_places _ _ _ _ = None

-- ---- from where on
abbrev pub ask_from : List Item → ℕ → ℕ
ask_from h s = behind (seek h 0 (clue.Ask s))

abbrev pub take_place : List Item → ℕ → Option ℕ
take_place h n = seek h 0 (clue.Took n)

abbrev pub take_from : List Item → ℕ → ℕ
take_from h n = behind (take_place h n)

-- the place of the node's last take, where that is what the clue asks for
abbrev pub last_take_at : (Item → Bool) → List Item → Option ℕ → Option ℕ
last_take_at test h None = None
last_take_at test h (Some place) = if passes test (slice_get h place) then Some place else None

-- ---- whether a number is there, and this one
abbrev pub same : Option ℕ → ℕ → Bool
same None n = false
same (Some m) n = m == n

-- ---- the own side of a key: the write, and where there is none the last fetch of it since the begin that gave the start. Whether a
-- key counts that was only read, the setup says
abbrev pub begin_from : List Item → ℕ → ℕ
begin_from h s = behind (seek h 0 (clue.Begun s))

abbrev pub fetch_place : List Item → ℕ → ℕ → ℕ → Option ℕ → Option ℕ
fetch_place h s start key begun = if same begun start then seek h (begin_from h s) (clue.Fetched s key) else None

abbrev pub own_place : List Item → ℕ → ℕ → ℕ → Option ℕ
own_place h s start key = option_or (seek h 0 (clue.Wrote start key)) (fetch_place h s start key (last_begun h s))

-- ---- a conflict: the own side, the draw of a transaction that wrote the key, and that write
abbrev pub is_rival : List Item → ℕ → ℕ → ℕ → Item → Bool
is_rival h u key by (Draw session node term writer (Some commit)) = draws_commit u by (Draw session node term writer (Some commit)) && is_some (seek h 0 (clue.Wrote writer key))
is_rival h u key by _ = false

abbrev pub rival : List Item → ℕ → ℕ → ℕ → Option ℕ
rival h u key by = last_place (is_rival h u key by) h 0

abbrev pub conflict_with : List Item → Option ℕ → ℕ → ℕ → ℕ → ℕ → Option Item → Option Places
conflict_with h own start key by place (Some (Draw session node term writer commit)) = three_places (nat_lt start by) own (Some place) (seek h 0 (clue.Wrote writer key))
conflict_with h own start key by place _ = None

abbrev pub conflict_by : List Item → Option ℕ → ℕ → ℕ → ℕ → Option ℕ → Option Places
conflict_by h own start key by None = None
conflict_by h own start key by (Some place) = conflict_with h own start key by place (slice_get h place)

abbrev pub conflict : List Item → ℕ → ℕ → ℕ → Option ℕ → Option ℕ → Option ℕ → Option Places
conflict h s key by (Some node) (Some start) (Some term) = conflict_by h (own_place h s start key) start key by (rival h term key by)
conflict h s key by _ _ _ = None

-- ---- the others that a request is told
abbrev pub hidden : List Item → ℕ → ℕ → ℕ → Option ℕ → Option ℕ → Option ℕ → Option Places
hidden h s key water (Some node) (Some start) (Some term) = two_places (nat_lt start water) (own_place h s start key) (seek h 0 (clue.Commit term water))
hidden h s key water _ _ _ = None

abbrev pub old_epoch : List Item → ℕ → ℕ → Option ℕ → Option ℕ → Option Places
old_epoch h start epoch (Some node) its = one_place (same its start && nat_le start epoch) (last_take_at (fits (clue.Epoch node epoch)) h (take_place h node))
old_epoch h start epoch None its = None

-- by the node's last take, or by a renewal since
abbrev pub lease_from : List Item → ℕ → ℕ → Option ℕ → Option ℕ
lease_from h node until None = None
lease_from h node until (Some place) = option_or (last_take_at (fits (clue.LeaseTaken node until)) h (Some place)) (seek h (suc place) (clue.LeaseRenewed node until))

abbrev pub lease_of : List Item → ℕ → ℕ → Option ℕ
lease_of h node until = lease_from h node until (take_place h node)

abbrev pub expired : List Item → ℕ → ℕ → Option ℕ → Option Places
expired h reading until (Some node) = one_place (nat_le until reading) (lease_of h node until)
expired h reading until None = None

abbrev pub replaced : List Item → ℕ → Option ℕ → Option ℕ → Option Places
replaced h found (Some node) (Some term) = one_place (nat_lt term found) (seek h 0 (clue.TermTaken found))
replaced h found _ _ = None

abbrev pub no_stamp : List Item → ℕ → Option ℕ → Option ℕ → Option Places
no_stamp h last (Some node) (Some term) = two_places true (seek h 0 (clue.CeilingIn term last)) (seek h 0 (clue.StampIn term last))
no_stamp h last _ _ = None

abbrev pub invalid : List Item → ℕ → Option ℕ → Option ℕ → Option Places
invalid h start (Some node) its = one_place (same its start) (seek h 0 (clue.Marked start))
invalid h start None its = None

-- the draw is that of this transaction's commit
abbrev pub draws_its : Option (ℕ × Option ℕ) → ℕ → Bool
draws_its (Some (t, Some commit)) start = t == start
draws_its _ start = false

abbrev pub draw_from : List Item → ℕ → ℕ
draw_from h s = behind (seek h (ask_from h s) (clue.Drew s))

-- a call on the commit table failed after the draw, of the node or of the session: who places commits, the setup says
abbrev pub lost_by_fault : List Item → ℕ → ℕ → ℕ → Option ℕ
lost_by_fault h s start node = if draws_its (its_draw h s) start then seek h (draw_from h s) (clue.TableFault node s) else None

-- or it crashed after the ask
abbrev pub lost_by : List Item → ℕ → ℕ → ℕ → Option ℕ
lost_by h s start node = option_or (lost_by_fault h s start node) (seek h (ask_from h s) (clue.Crashed node))

abbrev pub lost : List Item → ℕ → ℕ → Option ℕ → Option ℕ → Option Places
lost h s start (Some node) its = one_place (same its start) (lost_by h s start node)
lost h s start None its = None

abbrev pub crashed : List Item → ℕ → ℕ → ℕ → Option ℕ → Option Places
crashed h s node term its = one_place (same its node) (seek h (ask_from h s) (clue.CrashedIn node term))

abbrev pub not_yet : List Item → ℕ → Option ℕ → Option ℕ → Option ℕ → Option Places
not_yet h commit (Some node) (Some start) (Some term) = one_place (nat_lt commit start && is_none (seek h 0 (clue.Placed commit))) (seek h 0 (clue.Commit term commit))
not_yet h commit _ _ _ = None

abbrev pub spent : List Item → ℕ → Option Places
spent h ceiling = one_place true (seek h 0 (clue.Ceiling ceiling))

abbrev pub asked_and_spent : List Item → ℕ → Option ℕ → Option Places
asked_and_spent h ceiling (Some node) = spent h ceiling
asked_and_spent h ceiling None = None

-- ---- a node without an instance: its last take failed at once, or it has taken no term since its last crash
abbrev pub failed_at_once : List Item → ℕ → Bool
failed_at_once h n = passes (fits (clue.NodeFault n)) (slice_get h (take_from h n))

-- the crash, where there was one
abbrev pub after_crash : List Item → ℕ → Option ℕ → Option Places
after_crash h n crash = if is_none (seek h (behind crash) (clue.Took n)) then Some (record { first = crash; second = None; third = None }) else None

abbrev pub no_oracle : List Item → ℕ → Option Places
no_oracle h n = if failed_at_once h n then Some (record { first = take_place h n; second = Some (take_from h n); third = None }) else after_crash h n (seek h 0 (clue.Crashed n))

-- ---- what a node is told, which is told of itself alone that there is no oracle
abbrev pub own_oracle : List Item → ℕ → ℕ → Option Places
own_oracle h n node = if node == n then no_oracle h node else None

abbrev pub overtaken : List Item → ℕ → ℕ → Option Places
overtaken h n found = two_places true (last_take_at (fits (clue.EarlierTerm n found)) h (take_place h n)) (seek h 0 (clue.TermTaken found))

abbrev pub holding : List Item → ℕ → ℕ → Option Places
holding h n term = one_place (is_none (seek h (take_from h n) (clue.Crashed n))) (last_take_at (fits (clue.OwnTerm n term)) h (take_place h n))

-- ---- by whom it is told
abbrev pub shown_to_session : List Item → ℕ → Cause → Option Places
shown_to_session h s (cause.Conflict key by) = conflict h s key by (its_node h s) (its_start h s) (its_term h s)
shown_to_session h s (cause.Hidden key water) = hidden h s key water (its_node h s) (its_start h s) (its_term h s)
shown_to_session h s (cause.OldEpoch start epoch) = old_epoch h start epoch (its_node h s) (its_start h s)
shown_to_session h s (cause.Expired reading until) = expired h reading until (its_node h s)
shown_to_session h s (cause.Replaced found) = replaced h found (its_node h s) (its_term h s)
shown_to_session h s (cause.Spent ceiling) = asked_and_spent h ceiling (its_node h s)
shown_to_session h s (cause.NoStamp last) = no_stamp h last (its_node h s) (its_term h s)
shown_to_session h s (cause.Invalid start) = invalid h start (its_node h s) (its_start h s)
shown_to_session h s (cause.Open start) = lost h s start (its_node h s) (its_start h s)
shown_to_session h s (cause.Crashed node term) = crashed h s node term (its_node h s)
shown_to_session h s (cause.NotYet commit) = not_yet h commit (its_node h s) (its_start h s) (its_term h s)
shown_to_session h s (cause.Full in_flight) = no_places true
shown_to_session h s (cause.NoOracle node) = no_oracle h node
shown_to_session h s cause.Gone = one_place true (seek h 0 (clue.Vanished s))
shown_to_session h s cause.Busy = no_places true
shown_to_session h s cause.Idle = no_places true
shown_to_session h s cause.NoTransaction = no_places true
shown_to_session h s cause.TooManyKeys = no_places true
shown_to_session h s _ = None

abbrev pub shown_to_node : List Item → ℕ → Cause → Option Places
shown_to_node h n (cause.Early reading until) = one_place true (seek h 0 (clue.Lease until))
shown_to_node h n (cause.Spent ceiling) = spent h ceiling
shown_to_node h n (cause.Replaced found) = overtaken h n found
shown_to_node h n (cause.Holding term) = holding h n term
shown_to_node h n (cause.NoOracle node) = own_oracle h n node
shown_to_node h n (cause.NoRequest session) = no_places true
shown_to_node h n _ = None

abbrev pub shown_to_janitor : List Item → Cause → Option Places
shown_to_janitor h (cause.NoOracle node) = no_oracle h node
shown_to_janitor h cause.Busy = no_places true
shown_to_janitor h cause.Idle = no_places true
shown_to_janitor h (cause.Undecided start epoch) = no_places true
shown_to_janitor h _ = None

-- where the items stand that show what the actor was refused, in the history before the refusal
abbrev pub shown_by : List Item → Actor → Cause → Option Places
shown_by h (Session s) why = shown_to_session h s why
shown_by h (Node n) why = shown_to_node h n why
shown_by h Janitor why = shown_to_janitor h why
shown_by h Clock why = None
