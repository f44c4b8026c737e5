-- The explanation of a refusal: its item, its cause in words, and the earlier items that show it.
use Rattle.std.specs.Prelude.{ℕ, ◌+◌, List, [], ◌∷◌, ◌++◌, Option, None, Some, length, take, slice_get, codes, decimal}
use Rattle.history_book.specs.declared.cause.Cause.{Cause}
use Rattle.history_book.specs.declared.cause.Cause.TheVariants as cause
use Rattle.history_book.specs.declared.item.Item.{Item}
use Rattle.history_book.specs.declared.item.Item.TheVariants.{Refused, Step, Write}
use Rattle.history_text.specs.Text.{body_of}
use Rattle.refusal_reasons.specs.declared.shown.Places.{Places}
use Rattle.refusal_reasons.specs.Showing.{shown_by}

unfoldable pub reason_text : Cause → List ℕ
reason_text (cause.Conflict key by) = codes "a transaction that ran at the same time wrote the key, and its commit was drawn first"
reason_text (cause.Hidden key water) = codes "the node has forgotten what was committed at the key, and a commit that it forgot is above the start; by the buckets of the setup, which no history tells"
reason_text (cause.OldEpoch start epoch) = codes "the transaction began in an earlier term, whose commits its node does not know"
reason_text (cause.Expired reading until) = codes "the lease of its node was over by that node's clock"
reason_text (cause.Replaced found) = codes "a later term holds the master record"
reason_text (cause.Spent ceiling) = codes "a further range of stamps would go past the last one; by the range of the setup, which no history tells"
reason_text (cause.NoStamp last) = codes "the stamps of the term are drawn up to the end of its range"
reason_text (cause.Invalid start) = codes "a reader or a sweep had marked the transaction before its commit was placed"
reason_text (cause.Open start) = codes "the session cannot know whether the commit was placed: the call that places it failed, or the node crashed"
reason_text (cause.Crashed node term) = codes "the node crashed before it gave a start"
reason_text (cause.NotYet commit) = codes "a commit below the start is drawn and not yet placed, and the transaction has to see it"
reason_text (cause.NoRequest session) = codes "the session has no such request there"
reason_text (cause.NoOracle node) = codes "the node has no instance: it has taken no term, or none since it crashed, or its last take failed"
reason_text (cause.Full in_flight) = codes "the node holds as many requests as it has slots; by the slots of the setup, which no history tells"
reason_text (cause.Early reading until) = codes "by a clock that is behind, the lease may still stand; by the skew of the setup, which no history tells"
reason_text (cause.Holding term) = codes "the node has an instance already"
reason_text cause.NoTransaction = codes "the session has no transaction open"
reason_text cause.Busy = codes "it has something else under way"
reason_text cause.TooManyKeys = codes "the write would have been to a 65th key, or with strict reads the read of one"
reason_text cause.Gone = codes "the session has vanished"
reason_text cause.Idle = codes "it has nothing of that kind under way"
reason_text (cause.Undecided start epoch) = codes "the transaction may still commit, so the sweep left it"

-- what the own side of a key did, by the item that was found for it: a write, or with strict reads a fetch
abbrev pub side_text : Option Item → List ℕ
side_text (Some (Write session start key value)) = codes "; this one wrote it"
side_text (Some (Step actor what)) = codes "; this one read it"
side_text _ = []

abbrev pub side_at : List Item → Option ℕ → List ℕ
side_at before None = []
side_at before (Some place) = side_text (slice_get before place)

abbrev pub own_text : List Item → Cause → Option Places → List ℕ
own_text before (cause.Conflict key by) (Some places) = side_at before places.first
own_text before (cause.Hidden key water) (Some places) = side_at before places.first
own_text before _ _ = []

-- an item by its number, counted from 1, and its words
unfoldable pub named_text : ℕ → Item → List ℕ
named_text number item = decimal number ++ codes ": " ++ body_of item ++ codes "\n"

abbrev pub witness_text : ℕ → Option Item → List ℕ
witness_text number None = []
witness_text number (Some item) = codes "    shown by " ++ named_text number item

-- the item at a place
abbrev pub place_text : List Item → Option ℕ → List ℕ
place_text before None = []
place_text before (Some place) = witness_text (place + 1) (slice_get before place)

-- the items that show the refusal, where it is shown
abbrev pub shown_text : List Item → Option Places → List ℕ
shown_text before None = codes "    nothing that stands before shows it\n"
shown_text before (Some places) = place_text before places.first ++ place_text before places.second ++ place_text before places.third

-- the lines on an item, behind those before it: none where it is no refusal
unfoldable pub explanation : List Item → Item → List ℕ
explanation before (Refused actor why) = named_text (length before + 1) (Refused actor why) ++ codes "    " ++ reason_text why ++ own_text before why (shown_by before actor why) ++ codes "\n" ++ shown_text before (shown_by before actor why)
explanation before _ = []

-- the explanations of all refusals from a place on, in order
unfoldable pub explanations : List Item → ℕ → List Item → List ℕ
explanations items place [] = []
explanations items place (item ∷ rest) = explanation (take place items) item ++ explanations items (place + 1) rest
