-- Every event that reads the clocks and does not tick appends items that are read, or tells a request that it has expired.
use Rattle.command_semantics.proofs.Names.{of_both, List, None, ◌⊎◌, inl, refl, slice_get, Fate, Item, Event, State}
use Rattle.command_semantics.proofs.Names.{with_reading, stepped, asks, take_asks, renew_asks, extend_asks, put_asks}
use Rattle.command_semantics.proofs.Names.{write_asks, fetch_asks, step_asks, heal_asks, ReachedInvariant}
use Rattle.command_semantics.proofs.Names.{ShownInvariant, Clocks, ReadsClocks}
use Rattle.history_book.specs.declared.item.Item.TheVariants as item
use Rattle.machine.specs.declared.event.Event.TheVariants as event
use Rattle.command_semantics.proofs.ReadItems.{Made, made_none, made_one, post_made, client_made, node_made, session_made, both_made}
use Rattle.command_semantics.proofs.MadeOfRecord.{take_on_made, renew_on_made, extend_on_made}
use Rattle.command_semantics.proofs.MadeOfRequests.{Expires, Accepts, accept_on_made, decide_on_made, put_on_made, answer_on_made}
use Rattle.command_semantics.proofs.MadeOfSessions.{crash_on_made, ask_begin_on_made, ask_commit_on_made, abort_on_made, vanish_on_made, write_on_made, fetch_on_made}
use Rattle.command_semantics.proofs.MadeOfSteps.{heal_on_made, step_on_made, sweep_open_on_made, sweep_step_on_made}

pub all_made : (clocks : Clocks) (w : State) (h : List Item) (e : Event) (fate : Fate) → ReachedInvariant w h → ShownInvariant w h → ReadsClocks clocks None e → Made clocks (asks w e) fate (stepped w e fate).items ⊎ Expires clocks h (stepped w e fate).items
all_made clocks w h (event.Tick to) fate stands shows reads = absurd reads
all_made clocks w h (event.Note actor note) fate stands shows reads = inl (made_one clocks None fate (item.Note actor note) tt)
all_made clocks w h (event.Take node reading) fate stands shows reads = inl (post_made clocks fate w (with_reading w reading) node _ take_asks (λ post at. take_on_made clocks w node reading fate post reads.1) (slice_get w.nodes node) refl)
all_made clocks w h (event.Renew node reading) fate stands shows reads = inl (post_made clocks fate w (with_reading w reading) node _ renew_asks (λ post at. renew_on_made clocks w node reading fate post reads.1) (slice_get w.nodes node) refl)
all_made clocks w h (event.Extend node) fate stands shows reads = inl (post_made clocks fate w w node _ extend_asks (λ post at. extend_on_made clocks w node fate post) (slice_get w.nodes node) refl)
all_made clocks w h (event.Crash node) fate stands shows reads = inl (node_made clocks fate w node _ (λ post at. crash_on_made clocks fate node post w.clients))
all_made clocks w h (event.AskBegin session node) fate stands shows reads = inl (both_made clocks fate w node session _ (λ post c at. ask_begin_on_made clocks fate session node c post))
all_made clocks w h (event.AskCommit session node) fate stands shows reads = inl (both_made clocks fate w node session _ (λ post c at. ask_commit_on_made clocks fate session node c post))
all_made clocks w h (event.Accept node session reading) fate stands shows reads = of_both (λ step. Accepts clocks fate h step.items) (with_reading w reading) _ (slice_get w.nodes node) (slice_get w.clients session) (inl (made_none clocks None fate)) (λ post c at there. accept_on_made clocks fate w h node session reading post c shows at reads.1)
all_made clocks w h (event.Decide node session) fate stands shows reads = inl (both_made clocks fate w node session _ (λ post c at. decide_on_made clocks fate w node session post c stands.sound.stops at))
all_made clocks w h (event.Put node session) fate stands shows reads = inl (post_made clocks fate w w node _ (put_asks session) (λ post at. put_on_made clocks node session fate post w.pairs) (slice_get w.nodes node) refl)
all_made clocks w h (event.Answer node session) fate stands shows reads = inl (both_made clocks fate w node session _ (λ post c at. answer_on_made clocks fate node session post c))
all_made clocks w h (event.Write session key value) fate stands shows reads = inl (client_made clocks fate w _ (write_asks key) (λ c. write_on_made clocks session key value fate c w.rows) (slice_get w.clients session))
all_made clocks w h (event.Fetch session key) fate stands shows reads = inl (client_made clocks fate w _ (fetch_asks w.setup key) (λ c. fetch_on_made clocks w.setup session key fate c w.rows) (slice_get w.clients session))
all_made clocks w h (event.Step session) fate stands shows reads = inl (client_made clocks fate w _ step_asks (λ c. step_on_made clocks session fate c w.rows w.pairs) (slice_get w.clients session))
all_made clocks w h (event.Heal session) fate stands shows reads = inl (client_made clocks fate w _ heal_asks (λ c. heal_on_made clocks session fate c w.rows w.pairs) (slice_get w.clients session))
all_made clocks w h (event.Abort session) fate stands shows reads = inl (session_made clocks fate w session _ (λ c. abort_on_made clocks fate session c))
all_made clocks w h (event.Vanish session) fate stands shows reads = inl (session_made clocks fate w session _ (λ c. vanish_on_made clocks fate session c))
all_made clocks w h (event.SweepOpen node txn) fate stands shows reads = inl (node_made clocks fate w node _ (λ post at. sweep_open_on_made clocks fate node txn post w.sweep))
all_made clocks w h event.SweepStep fate stands shows reads = inl (sweep_step_on_made clocks fate w.sweep w.rows w.pairs)
