-- A text that makes no item of a line that is right in all else is no value.
use Rattle.std.proofs.Common.{◌≡◌, ℕ, List, [], ◌++◌, codes, decimal, append_assoc, append-nil, arith, refl, sym, ap, rules, ◌∙◌}
use Rattle.std.proofs.lemmas.Fmt.{decimal_digit}
use Rattle.stamp_base.specs.Words.{IsValue, IsName}
use Rattle.stamp_base.specs.declared.stage.Stage.TheVariants.{Request}
use Rattle.history_book.specs.declared.item.Actor.TheVariants.{Clock}
use Rattle.history_book.specs.declared.item.Note.TheVariants.{Post, Await, Hold, Free}
use Rattle.history_book.specs.declared.item.Ending.{Ending}
use Rattle.history_book.specs.declared.item.Item.{Item}
use Rattle.history_book.specs.declared.item.Item.TheVariants as item
use Rattle.history_text.specs.Fits.{FitsItem}
use Rattle.history_text.specs.CauseText.{cause_text}
use Rattle.history_text.specs.StepText.{step_text}
use Rattle.history_text.specs.Text.{body_of, ending_text}
use Rattle.history_text.specs.Words.{actor_text, key_text, node_text, session_text, stage_text, store_text}
use Rattle.line_reasons.specs.declared.wants.Wants.{Wants}
use Rattle.line_reasons.specs.declared.wants.Wants.TheVariants as wants
use Rattle.line_reasons.specs.Wants.{IsNoValue}
use Rattle.line_reasons.specs.Samples.{after_it, before_it}

-- the line is no item's
abbrev pub IsNone : List ℕ → Type 0
IsNone line = (x : Item) → FitsItem x → line ≡ body_of x → ⊥

at_end : (before said text : List ℕ) → said ≡ text → (before ++ said) ++ [] ≡ before ++ text
at_end before said text is = append-nil (before ++ said) ∙ ap (λ it. before ++ it) is

zero : decimal 0 ≡ codes "0"
zero = decimal_digit 0 (omega arith)

one : decimal 1 ≡ codes "1"
one = decimal_digit 1 (omega arith)

write_body : (k : ℕ) (value : List ℕ) → codes "write s0 start=1 " ++ key_text k ++ codes " " ++ value ≡ body_of (item.Write 0 1 k value)
write_body k value =
    ap (λ it. codes "write " ++ (codes "s" ++ it) ++ codes " start=" ++ codes "1" ++ codes " " ++ key_text k ++ codes " " ++ value) (sym zero)
    ∙ ap (λ it. codes "write " ++ (codes "s" ++ decimal 0) ++ codes " start=" ++ it ++ codes " " ++ key_text k ++ codes " " ++ value) (sym one)

end_body : (how : Ending) → codes "end s0 start=1 " ++ ending_text how ≡ body_of (item.End 0 1 how)
end_body how =
    ap (λ it. codes "end " ++ (codes "s" ++ it) ++ codes " start=" ++ codes "1" ++ codes " " ++ ending_text how) (sym zero)
    ∙ ap (λ it. codes "end " ++ (codes "s" ++ decimal 0) ++ codes " start=" ++ it ++ codes " " ++ ending_text how) (sym one)

a_value : IsValue (codes "v")
a_value = search rules

a_name : IsName (codes "request")
a_name = search rules

pub no_value : (kind : Wants) (said : List ℕ) → IsNone (before_it kind ++ said ++ after_it kind) → IsNoValue kind said
no_value wants.Number said none = λ n fits is. none (item.Tick n) fits (at_end (codes "tick ") said (decimal n) is)
no_value wants.Term said none = λ n fits is. none (item.Crash 0 n) (omega arith, fits) (at_end (codes "crash a term=") said (decimal n) is)
no_value wants.Stamp said none = λ n fits is. none (item.Mark Clock n) (tt, fits) (at_end (codes "mark clock start=") said (decimal n) is)
no_value wants.Node said none = λ n fits is. none (item.Crash n 1) (fits, (omega arith, omega arith))
    (ap (λ it. (codes "crash " ++ it) ++ codes " term=1") is ∙ ap (λ it. codes "crash " ++ node_text n ++ codes " term=" ++ it) (sym one))
no_value wants.Session said none = λ n fits is. none (item.Vanish n) fits (at_end (codes "vanish ") said (session_text n) is)
no_value wants.Key said none = λ n fits is. none (item.Write 0 1 n (codes "v")) (omega arith, (omega arith, omega arith), fits, a_value)
    (ap (λ it. (codes "write s0 start=1 " ++ it) ++ codes " v") is ∙ (sym (append_assoc (codes "write s0 start=1 " ++ key_text n) (codes " ") (codes "v")) ∙ write_body n (codes "v")))
no_value wants.Value said none = λ fits. none (item.Write 0 1 0 said) (omega arith, (omega arith, omega arith), omega arith, fits)
    (at_end (codes "write s0 start=1 k0 ") said said refl ∙ (ap (λ it. codes "write s0 start=1 " ++ (codes "k" ++ it) ++ codes " " ++ said) (sym zero) ∙ write_body 0 said))
no_value wants.Ending said none = λ how is. none (item.End 0 1 how) (omega arith, (omega arith, omega arith))
    (at_end (codes "end s0 start=1 ") said (ending_text how) is ∙ end_body how)
no_value wants.Actor said none = λ actor fits is. none (item.Mark actor 1) (fits, (omega arith, omega arith))
    (ap (λ it. (codes "mark " ++ it) ++ codes " start=1") is
    ∙ (sym (append_assoc (codes "mark " ++ actor_text actor) (codes " start=") (codes "1")) ∙ ap (λ it. codes "mark " ++ actor_text actor ++ codes " start=" ++ it) (sym one)))
no_value wants.Note said none = (
  λ is. none (item.Note Clock (Post (codes "request"))) (tt, a_name) (ap (λ it. (codes "note clock " ++ it) ++ codes " request") is),
  λ is. none (item.Note Clock (Await (codes "request"))) (tt, a_name) (ap (λ it. (codes "note clock " ++ it) ++ codes " request") is),
  λ is. none (item.Note Clock (Hold Request)) (tt, tt) (ap (λ it. (codes "note clock " ++ it) ++ codes " request") is),
  λ is. none (item.Note Clock (Free Request)) (tt, tt) (ap (λ it. (codes "note clock " ++ it) ++ codes " request") is),
)
no_value wants.Name said none = λ fits. none (item.Note Clock (Post said)) (tt, fits) (at_end (codes "note clock post ") said said refl)
no_value wants.Stage said none = λ stage is. none (item.Note Clock (Hold stage)) (tt, tt) (at_end (codes "note clock hold ") said (stage_text stage) is)
no_value wants.Step said none = λ what fits is. none (item.Step Clock what) (tt, fits) (at_end (codes "step clock ") said (step_text what) is)
no_value wants.Cause said none = λ why fits is. none (item.Refused Clock why) (tt, fits) (at_end (codes "refused clock ") said (cause_text why) is)
no_value wants.Store said none = λ store is. none (item.Fault Clock store) tt (at_end (codes "fault clock ") said (store_text store) is)
