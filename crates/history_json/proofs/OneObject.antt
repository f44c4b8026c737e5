-- Public laws, for the proofs of `history_json`: a text is that of one item at most, and so is an object.
use Rattle.std.proofs.Common.{◌≡◌, ◌∷◌, [], ◌++◌, sym, ap, ◌∙◌}
use Rattle.std.proofs.lemmas.Option.{same_Some}
use Rattle.history_book.specs.declared.item.Item.{Item}
use Rattle.history_text.specs.Fits.{FitsItem}
use Rattle.history_text.specs.Text.{body_of}
use Rattle.history_reading.proofs.RoundTrip.{one_text}
use Rattle.history_json.specs.Object.{data_of}
use Rattle.history_json.specs.Words.{words_of}
use Rattle.history_json.proofs.WordsLemmas.{words_again}

-- two items of one text are one item
pub same_words : (one other : Item) → FitsItem one → FitsItem other → body_of one ≡ body_of other → one ≡ other
same_words one other a b same = one_text one other a b (ap (λ text. text ++ 10 ∷ []) same)

-- two items of one object are one item
pub same_object : (one other : Item) → FitsItem one → FitsItem other → data_of one ≡ data_of other → one ≡ other
same_object one other a b same =
    same_words one other a b (same_Some _ _ (sym (words_again one) ∙ ap words_of same ∙ words_again other))
