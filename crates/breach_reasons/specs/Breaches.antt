-- What was found broken, in words: the rule and its two items, the items that show it, and what would have been right.
use Rattle.std.specs.Prelude.{ℕ, ◌+◌, ◌-◌, ◌==◌, Bool, true, false, ◌&&◌, if◌then◌else◌, List, [], ◌∷◌, ◌++◌, Option, None, Some, take, slice_get, is_some, codes, decimal}
use Rattle.history_book.specs.declared.item.Found.{Found}
use Rattle.history_book.specs.declared.item.Item.{Item}
use Rattle.history_book.specs.declared.item.Item.TheVariants.{Begin, Placed, Read, Write}
use Rattle.isolation_rules.specs.declared.verdict.Rule.{Rule}
use Rattle.isolation_rules.specs.declared.verdict.Rule.TheVariants as rule
use Rattle.refusal_reasons.specs.declared.clue.Clue.TheVariants as clue
use Rattle.refusal_reasons.specs.Sought.{last_place, seek}
use Rattle.refusal_reasons.specs.Words.{named_text}
use Rattle.breach_reasons.specs.declared.finding.Finding.{Finding}
use Rattle.breach_reasons.specs.declared.kind.ReadKind.{ReadKind}
use Rattle.breach_reasons.specs.declared.finding.Finding.TheVariants as finding
use Rattle.breach_reasons.specs.Findings.{finding_line}
use Rattle.breach_reasons.specs.Kinds.{commit_place, kind_text, read_kind, write_place}

-- ---- items, each with its number, counted from 1
abbrev pub there_text : List ℕ → ℕ → Option Item → List ℕ
there_text words number None = []
there_text words number (Some item) = words ++ named_text number item

abbrev pub item_text : List ℕ → List Item → Option ℕ → List ℕ
item_text words items None = []
item_text words items (Some place) = there_text words (place + 1) (slice_get items place)

abbrev pub indent : List ℕ
indent = codes "    "

-- ---- apart: the key that both wrote, and both writes
-- the last write of t at a key that u writes
abbrev pub is_shared : List Item → ℕ → ℕ → Item → Bool
is_shared h t u (Write session start key value) = (start == t) && is_some (write_place h u key)
is_shared h t u _ = false

abbrev pub shared_place : List Item → ℕ → ℕ → Option ℕ
shared_place h t u = last_place (is_shared h t u) h 0

abbrev pub writes_text : List Item → ℕ → ℕ → ℕ → List ℕ
writes_text h u place key =
    codes "    both wrote k" ++ decimal key ++ codes ", and neither committed before the other began\n"
    ++ item_text indent h (Some place) ++ item_text indent h (write_place h u key)

abbrev pub shared_text : List Item → ℕ → ℕ → Option Item → List ℕ
shared_text h u place (Some (Write session start key value)) = writes_text h u place key
shared_text h u place _ = []

abbrev pub both_text : List Item → ℕ → Option ℕ → List ℕ
both_text h u None = []
both_text h u (Some place) = shared_text h u place (slice_get h place)

abbrev pub apart_with : List Item → ℕ → Option Item → List ℕ
apart_with h t (Some (Placed u d)) = both_text h u (shared_place h t u)
apart_with h t _ = []

abbrev pub apart_text : List Item → Option Item → Option Item → List ℕ
apart_text h (Some (Placed t c)) other = apart_with h t other
apart_text h _ other = []

-- ---- read: how it is wrong, where its answer came from, and the right answer with the write that gives it
abbrev pub given_text : List Item → ℕ → Option Found → List ℕ
given_text h k None = []
given_text h k (Some found) = item_text (codes "    written by ") h (write_place h found.from k)

abbrev pub version_text : Option Item → List ℕ
version_text (Some (Write session start k value)) = codes " from=" ++ decimal start ++ codes " " ++ value ++ codes "\n"
version_text _ = codes " none\n"

abbrev pub right_read_text : ℕ → Option Item → List ℕ
right_read_text key item = codes "    right: k" ++ decimal key ++ version_text item

abbrev pub wrong_text : ReadKind → List ℕ
wrong_text kind = indent ++ kind_text kind ++ codes "\n"

abbrev pub writer_text : List Item → ℕ → ℕ → List ℕ
writer_text h i j = if i == j then [] else item_text (codes "    written by ") h (Some j)

abbrev pub right_text : List Item → ℕ → ℕ → ℕ → List ℕ
right_text h i j k = right_read_text k (slice_get h j) ++ writer_text h i j

abbrev pub answered_text : List Item → ℕ → ℕ → ℕ → ℕ → Option Found → List ℕ
answered_text h i j s k answer = wrong_text (read_kind h i s k answer) ++ item_text indent h (Some i) ++ given_text h k answer ++ right_text h i j k

abbrev pub read_text : List Item → ℕ → ℕ → Option Item → List ℕ
read_text h i j (Some (Read session s k answer)) = answered_text h i j s k answer
read_text h i j _ = []

-- ---- fresh: the commit, the ask behind it, and the begin
abbrev pub ask_text : List Item → ℕ → Option Item → List ℕ
ask_text h j (Some (Begin session start)) = item_text indent h (seek (take j h) 0 (clue.AskedStart session))
ask_text h j _ = []

abbrev pub commit_text : ℕ → List ℕ
commit_text c = codes "    right: a start above " ++ decimal c ++ codes "\n"

abbrev pub above_text : Option Item → List ℕ
above_text (Some (Placed t c)) = commit_text c
above_text _ = []

unfoldable pub fresh_words : List ℕ
fresh_words = codes "    the commit was placed before the begin was asked for, and the start is not above it\n"

abbrev pub fresh_text : List Item → ℕ → ℕ → List ℕ
fresh_text h i j = fresh_words ++ item_text indent h (Some i) ++ ask_text h j (slice_get h j) ++ item_text indent h (Some j) ++ above_text (slice_get h i)

-- ---- stamped: the two items, or the one
abbrev pub other_text : List Item → ℕ → ℕ → List ℕ
other_text h i j =
    if i == j then codes "    right: a commit above its start\n" else item_text indent h (Some j) ++ codes "    right: another stamp in one of the two\n"

unfoldable pub stamped_words : List ℕ
stamped_words = codes "    each start and each commit is a stamp of its own, and each commit is above its start\n"

abbrev pub stamped_text : List Item → ℕ → ℕ → List ℕ
stamped_text h i j = stamped_words ++ item_text indent h (Some i) ++ other_text h i j

-- ---- serial: the read, the other's write of the key and its commit, and the reader's own commit
abbrev pub crossed_by : List Item → ℕ → Option Item → List ℕ
crossed_by h k (Some (Placed t c)) = item_text indent h (write_place h t k)
crossed_by h k _ = []

abbrev pub stood_text : ℕ → List ℕ
stood_text k = codes "    what was read of k" ++ decimal k ++ codes " no longer stood when the reader committed\n"

abbrev pub crossing_text : List Item → ℕ → ℕ → ℕ → List ℕ
crossing_text h j s k =
    crossed_by h k (slice_get h j) ++ item_text indent h (Some j) ++ item_text indent h (commit_place h s) ++ codes "    right: the reader's commit refused\n"

abbrev pub not_stood_text : List Item → ℕ → ℕ → ℕ → ℕ → List ℕ
not_stood_text h i j s k = stood_text k ++ item_text indent h (Some i) ++ crossing_text h j s k

abbrev pub crossed_text : List Item → ℕ → ℕ → Option Item → List ℕ
crossed_text h i j (Some (Read session s k answer)) = not_stood_text h i j s k
crossed_text h i j _ = []

-- ---- the whole
abbrev pub rule_text : List Item → Rule → ℕ → ℕ → List ℕ
rule_text h rule.Stamped i j = stamped_text h i j
rule_text h rule.Apart i j =
    apart_text h (slice_get h i) (slice_get h j) ++ item_text indent h (Some i) ++ item_text indent h (Some j)
    ++ codes "    right: one of the two commits refused\n"
rule_text h rule.Read i j = read_text h i j (slice_get h i)
rule_text h rule.Fresh i j = fresh_text h i j

-- what is shown of it; a verdict counts items from 1
abbrev pub found_text : List Item → Finding → List ℕ
found_text h finding.Sound = []
found_text h (finding.Broken which first second) = rule_text h which (first - 1) (second - 1)
found_text h (finding.Crossed read placed) = crossed_text h (read - 1) (placed - 1) (slice_get h (read - 1))

abbrev pub breach_text : Bool → List Item → Finding → List ℕ
breach_text strict h found = finding_line strict h found ++ codes "\n" ++ found_text h found
