-- The text of a step on the stores.
use Rattle.std.specs.Prelude.{ℕ, List, ◌++◌, Option, None, Some, codes, decimal}
use Rattle.history_text.specs.Words.{key_text}
use Rattle.stamp_base.specs.declared.stores.Mark.{Mark}
use Rattle.stamp_base.specs.declared.stores.Mark.TheVariants.{Committed, Invalid}
use Rattle.history_book.specs.declared.item.Seen.{Seen}
use Rattle.history_book.specs.declared.item.Seen.TheVariants.{Bare, Gone, Commit}
use Rattle.history_book.specs.declared.item.StoreStep.{StoreStep}
use Rattle.history_book.specs.declared.item.StoreStep.TheVariants.{Fetch, Get, MarkFound, Look, Shadow, Remove, Erase, Keys, PutFound, Handed}

abbrev pub mark_text : Mark → List ℕ
mark_text (Committed commit) = codes "committed=" ++ decimal commit
mark_text Invalid = codes "invalid"

abbrev pub entry_text : Option Mark → List ℕ
entry_text None = codes "absent"
entry_text (Some mark) = mark_text mark

abbrev pub seen_text : Seen → List ℕ
seen_text Bare = codes "none"
seen_text Gone = codes "gone"
seen_text (Commit commit) = codes "commit=" ++ decimal commit

abbrev pub step_text : StoreStep → List ℕ
step_text (Fetch key cells) = codes "fetch " ++ key_text key ++ codes " cells=" ++ decimal cells
step_text (Get txn answer) = codes "get " ++ decimal txn ++ codes " " ++ entry_text answer
step_text (MarkFound txn mark) = codes "mark " ++ decimal txn ++ codes " " ++ mark_text mark
step_text (Look key txn answer) = codes "look " ++ key_text key ++ codes " " ++ decimal txn ++ codes " " ++ seen_text answer
step_text (Shadow key txn commit) = codes "shadow " ++ key_text key ++ codes " " ++ decimal txn ++ codes " " ++ decimal commit
step_text (Remove txn) = codes "remove " ++ decimal txn
step_text (Erase key txn) = codes "erase " ++ key_text key ++ codes " " ++ decimal txn
step_text (Keys txn count) = codes "keys " ++ decimal txn ++ codes " count=" ++ decimal count
step_text (PutFound txn) = codes "put " ++ decimal txn ++ codes " invalid"
step_text (Handed txn commit) = codes "handed " ++ decimal txn ++ codes " " ++ decimal commit
