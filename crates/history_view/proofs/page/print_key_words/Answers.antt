use Rattle.std.proofs.Common.{ℕ, ◌+◌, List, [], ◌++◌, append-nil, sym}
use Rattle.std.specs.Prelude.{codes, decimal}
use Rattle.history_view.specs.Page.{words_text}
use Rattle.history_view.proofs.TextLemmas.{then_between, then_two}
use Rattle.history_view.proofs.page.print_key_words.Goals as goal

pub returns : goal.returns
unfolding words_text
returns c =
    let some1 = then_two c.args.text.now c.args.text.now c.push_two.new.self [] (codes "<text class='lane n' x='") (decimal (c.args.x + 13)) (codes "' y='") (decimal (c.args.y + 4)) (sym (append-nil c.args.text.now)) c.in_ok-push_two.ensures in
    let words1 : List ℕ = ((((codes "<text class='lane n' x='") ++ (decimal (c.args.x + 13))) ++ (codes "' y='")) ++ (decimal (c.args.y + 4))) in
    then_between c.args.text.now c.push_two.new.self c.push_between.new.self words1 (codes "'>") c.args.words.now (codes "</text>\n") some1 c.in_ok-push_between.ensures
