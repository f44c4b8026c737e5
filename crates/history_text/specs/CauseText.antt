-- The text of a cause.
use Rattle.std.specs.Prelude.{ℕ, List, ◌++◌, codes, decimal}
use Rattle.history_text.specs.Words.{node_text, session_text, key_text}
use Rattle.history_book.specs.declared.cause.Cause.{Cause}
use Rattle.history_book.specs.declared.cause.Cause.TheVariants.{Conflict, Hidden, OldEpoch, Expired, Replaced, Spent, NoStamp, Invalid, Open, Crashed, NotYet, NoRequest, NoOracle, Full, Early, Holding, NoTransaction, Busy, TooManyKeys, Gone, Idle, Undecided}

abbrev pub cause_text : Cause → List ℕ
cause_text (Conflict key by) = codes "conflict key=" ++ key_text key ++ codes " by=" ++ decimal by
cause_text (Hidden key water) = codes "hidden key=" ++ key_text key ++ codes " water=" ++ decimal water
cause_text (OldEpoch start epoch) = codes "old-epoch start=" ++ decimal start ++ codes " epoch=" ++ decimal epoch
cause_text (Expired reading until) = codes "expired reading=" ++ decimal reading ++ codes " until=" ++ decimal until
cause_text (Replaced found) = codes "replaced found=" ++ decimal found
cause_text (Spent ceiling) = codes "spent ceiling=" ++ decimal ceiling
cause_text (NoStamp last) = codes "no-stamp last=" ++ decimal last
cause_text (Invalid start) = codes "invalid start=" ++ decimal start
cause_text (Open start) = codes "open start=" ++ decimal start
cause_text (Crashed node term) = codes "crashed node=" ++ node_text node ++ codes " term=" ++ decimal term
cause_text (NotYet commit) = codes "not-yet commit=" ++ decimal commit
cause_text (NoRequest session) = codes "no-request session=" ++ session_text session
cause_text (NoOracle node) = codes "no-oracle node=" ++ node_text node
cause_text (Full in_flight) = codes "full in-flight=" ++ decimal in_flight
cause_text (Early reading until) = codes "early reading=" ++ decimal reading ++ codes " until=" ++ decimal until
cause_text (Holding term) = codes "holding term=" ++ decimal term
cause_text NoTransaction = codes "no-transaction"
cause_text Busy = codes "busy"
cause_text TooManyKeys = codes "too-many-keys"
cause_text Gone = codes "gone"
cause_text Idle = codes "idle"
cause_text (Undecided start epoch) = codes "undecided start=" ++ decimal start ++ codes " epoch=" ++ decimal epoch
