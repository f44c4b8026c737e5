-- What an earlier item may have to be, so that it shows a refusal.
use Rattle.std.specs.Prelude.{ℕ, ◌==◌, Bool, false, ◌&&◌, ◌||◌, None, Some, nat_lt}
use Rattle.stamp_base.specs.declared.stores.Store.TheVariants.{Table}
use Rattle.history_book.specs.declared.item.Actor.TheVariants.{Node, Session}
use Rattle.history_book.specs.declared.item.Item.{Item}
use Rattle.history_book.specs.declared.item.StoreStep.TheVariants as step
use Rattle.history_book.specs.declared.item.Item.TheVariants as item
pub use Rattle.cause_rules.specs.Asks.{asks_for, draws_for}
pub use Rattle.cause_rules.specs.OwnKeys.{begins_for}
pub use Rattle.cause_rules.specs.Posts.{takes_for, crashes_for}
pub use Rattle.history_book.specs.Isolation.{asks}
use Rattle.refusal_reasons.specs.declared.clue.Clue.{Clue}
use Rattle.refusal_reasons.specs.declared.clue.Clue.TheVariants as clue

-- ---- what tells of a request and of a transaction
abbrev pub accepts_for : ℕ → Item → Bool
accepts_for s (item.Accept session node term reading) = session == s
accepts_for s _ = false

abbrev pub writes : ℕ → ℕ → Item → Bool
writes t k (item.Write session start key value) = (start == t) && (key == k)
writes t k _ = false

abbrev pub fetches : ℕ → ℕ → Item → Bool
fetches s k (item.Step (Session session) (step.Fetch key count)) = (session == s) && (key == k)
fetches s k _ = false

abbrev pub draws_commit : ℕ → ℕ → Item → Bool
draws_commit u c (item.Draw session node term start (Some commit)) = (term == u) && (commit == c)
draws_commit u c _ = false

abbrev pub draws_start : ℕ → ℕ → Item → Bool
draws_start u t (item.Draw session node term start None) = (term == u) && (start == t)
draws_start u t _ = false

abbrev pub draws_stamp : ℕ → ℕ → Item → Bool
draws_stamp u stamp x = draws_start u stamp x || draws_commit u stamp x

abbrev pub marks : ℕ → Item → Bool
marks t (item.Mark actor start) = start == t
marks t _ = false

abbrev pub vanishes : ℕ → Item → Bool
vanishes s (item.Vanish session) = session == s
vanishes s _ = false

abbrev pub places : ℕ → Item → Bool
places c (item.Placed start commit) = commit == c
places c _ = false

abbrev pub commits : ℕ → Item → Bool
commits t (item.Placed start commit) = start == t
commits t _ = false

-- ---- what tells of a node
abbrev pub crashes_in : ℕ → ℕ → Item → Bool
crashes_in n u (item.Crash node term) = (node == n) && (term == u)
crashes_in n u _ = false

abbrev pub takes_epoch : ℕ → ℕ → Item → Bool
takes_epoch n e (item.Take node reading term epoch until ceiling) = (node == n) && (epoch == e)
takes_epoch n e _ = false

abbrev pub takes_lease : ℕ → ℕ → Item → Bool
takes_lease n end (item.Take node reading term epoch until ceiling) = (node == n) && (until == end)
takes_lease n end _ = false

abbrev pub renews_lease : ℕ → ℕ → Item → Bool
renews_lease n end (item.Renew node reading term until) = (node == n) && (until == end)
renews_lease n end _ = false

abbrev pub gives_lease : ℕ → Item → Bool
gives_lease end (item.Take node reading term epoch until ceiling) = until == end
gives_lease end (item.Renew node reading term until) = until == end
gives_lease end _ = false

abbrev pub takes_term : ℕ → Item → Bool
takes_term u (item.Take node reading term epoch until ceiling) = term == u
takes_term u _ = false

abbrev pub takes_own_term : ℕ → ℕ → Item → Bool
takes_own_term n u (item.Take node reading term epoch until ceiling) = (node == n) && (term == u)
takes_own_term n u _ = false

abbrev pub takes_earlier : ℕ → ℕ → Item → Bool
takes_earlier n u (item.Take node reading term epoch until ceiling) = (node == n) && nat_lt term u
takes_earlier n u _ = false

abbrev pub gives_ceiling : ℕ → Item → Bool
gives_ceiling end (item.Take node reading term epoch until ceiling) = ceiling == end
gives_ceiling end (item.Extend node term ceiling) = ceiling == end
gives_ceiling end _ = false

abbrev pub gives_ceiling_in : ℕ → ℕ → Item → Bool
gives_ceiling_in u end (item.Take node reading term epoch until ceiling) = (term == u) && (ceiling == end)
gives_ceiling_in u end (item.Extend node term ceiling) = (term == u) && (ceiling == end)
gives_ceiling_in u end _ = false

-- a node places the commits of others, or a session its own
abbrev pub faults_on_table : ℕ → ℕ → Item → Bool
faults_on_table n s (item.Fault (Node node) Table) = node == n
faults_on_table n s (item.Fault (Session session) Table) = session == s
faults_on_table n s _ = false

abbrev pub faults : ℕ → Item → Bool
faults n (item.Fault (Node node) store) = node == n
faults n _ = false

-- ---- the item is what the clue asks for
abbrev pub fits_node : Clue → Item → Bool
fits_node (clue.Took node) x = takes_for node x
fits_node (clue.Crashed node) x = crashes_for node x
fits_node (clue.CrashedIn node term) x = crashes_in node term x
fits_node (clue.Epoch node epoch) x = takes_epoch node epoch x
fits_node (clue.LeaseTaken node until) x = takes_lease node until x
fits_node (clue.LeaseRenewed node until) x = renews_lease node until x
fits_node (clue.Lease until) x = gives_lease until x
fits_node (clue.TermTaken term) x = takes_term term x
fits_node (clue.OwnTerm node term) x = takes_own_term node term x
fits_node (clue.EarlierTerm node than) x = takes_earlier node than x
fits_node (clue.Ceiling ceiling) x = gives_ceiling ceiling x
fits_node (clue.CeilingIn term ceiling) x = gives_ceiling_in term ceiling x
fits_node (clue.TableFault node session) x = faults_on_table node session x
fits_node (clue.NodeFault node) x = faults node x
fits_node _ x = false

abbrev pub fits : Clue → Item → Bool
fits (clue.Ask session) x = asks_for session x
fits (clue.Accepted session) x = accepts_for session x
fits (clue.Drew session) x = draws_for session x
fits (clue.Wrote start key) x = writes start key x
fits (clue.Begun session) x = begins_for session x
fits (clue.Fetched session key) x = fetches session key x
fits (clue.Commit term commit) x = draws_commit term commit x
fits (clue.StampIn term stamp) x = draws_stamp term stamp x
fits (clue.Marked start) x = marks start x
fits (clue.Vanished session) x = vanishes session x
fits (clue.Placed commit) x = places commit x
fits (clue.CommitOf start) x = commits start x
fits (clue.AskedStart session) x = asks session x
fits other x = fits_node other x
