-- The summary of a history: how many transactions began and committed, how many requests were refused, and why.
use Rattle.std.specs.Prelude.{ℕ, ◌+◌, ◌≤◌, Bool, true, false, cond, List, [], ◌∷◌, ◌++◌, length, count_by, codes, decimal}
use Rattle.history_book.specs.declared.item.Item.{Item}
use Rattle.history_book.specs.declared.item.Item.TheVariants.{Begin, Committed, Refused}
use Rattle.history_book.specs.declared.cause.Cause.TheVariants.{Conflict, Hidden}
use Rattle.history_text.specs.declared.summary.Summary.{Summary}

unfoldable pub is_begin : Item → Bool
is_begin (Begin session start) = true
is_begin _ = false

unfoldable pub is_committed : Item → Bool
is_committed (Committed session start commit) = true
is_committed _ = false

unfoldable pub is_conflict : Item → Bool
is_conflict (Refused actor (Conflict key by)) = true
is_conflict _ = false

unfoldable pub is_hidden : Item → Bool
is_hidden (Refused actor (Hidden key water)) = true
is_hidden _ = false

-- refused, and with neither of these causes
unfoldable pub is_refused_else : Item → Bool
is_refused_else (Refused actor (Conflict key by)) = false
is_refused_else (Refused actor (Hidden key water)) = false
is_refused_else (Refused actor cause) = true
is_refused_else _ = false

abbrev pub summary_of : List Item → Summary
summary_of history = record {
  transactions = count_by is_begin history;
  committed = count_by is_committed history;
  conflict = count_by is_conflict history;
  hidden = count_by is_hidden history;
  other = count_by is_refused_else history;
  items = length history;
}

-- the summary with one more item behind
abbrev pub one_more : Summary → Item → Summary
one_more summary item = record {
  transactions = summary.transactions + cond (is_begin item) 1 0;
  committed = summary.committed + cond (is_committed item) 1 0;
  conflict = summary.conflict + cond (is_conflict item) 1 0;
  hidden = summary.hidden + cond (is_hidden item) 1 0;
  other = summary.other + cond (is_refused_else item) 1 0;
  items = summary.items + 1;
}

-- no count is above this number
pub record IsUpTo (most : ℕ) (summary : Summary) : Type 0 where
  pub transactions : summary.transactions ≤ most
  pub committed : summary.committed ≤ most
  pub conflict : summary.conflict ≤ most
  pub hidden : summary.hidden ≤ most
  pub other : summary.other ≤ most
  pub items : summary.items ≤ most

-- the summary's line
abbrev pub summary_text : Summary → List ℕ
summary_text summary =
    codes "transactions=" ++ decimal summary.transactions ++ codes " committed=" ++ decimal summary.committed
    ++ codes " conflict=" ++ decimal summary.conflict ++ codes " hidden=" ++ decimal summary.hidden
    ++ codes " other=" ++ decimal summary.other ++ codes " items=" ++ decimal summary.items ++ 10 ∷ []

-- what is printed of a history as its summary
abbrev pub summarized : List Item → List ℕ
summarized history = summary_text (summary_of history)
