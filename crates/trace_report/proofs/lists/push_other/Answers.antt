use Rattle.std.proofs.Common.{◌≡◌, ℕ, List, ◌++◌, append_assoc, codes, decimal}
use Rattle.std.proofs.lemmas.Result.{on_ok_weaker}
use Rattle.trace_report.specs.Lists.{done_text, other_text}
use Rattle.trace_report.specs.Parts.{line_at, name_at}
use Rattle.trace_report.proofs.lists.push_other.Goals as goal

joined : (old one two three a b d : List ℕ) → one ≡ old ++ a → two ≡ one ++ b → three ≡ two ++ d → three ≡ old ++ (a ++ b ++ d)
joined old one two three a b d p q r = rw r (rw q (rw p (simp append_assoc)))

pub returns : goal.returns
unfolding other_text
returns c =
    let name = name_at c.args.recording.now.names c.args.key in
    on_ok_weaker c.push_done.result
    (λ e. joined c.args.text.now.items c.push_words.new.text.items c.push_line.new.text.items c.push_done.new.text.items (codes " beside line ") (decimal (line_at c.args.attempts.now c.args.txn)) (done_text name c.args.flaw) c.in_ok-push_words.ensures c.in_ok-push_line.ensures e)
    c.push_done.ensures
