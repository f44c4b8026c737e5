-- A session's ask, term, draw and begin, by the place of the item that told them.
use Rattle.std.proofs.Common.{◌≡◌, ℕ, ◌<◌, Bool, true, false, List, Option, Some, None, length, get_or, is_some, refl, subst}
use Rattle.std.specs.Prelude.{IfSome}
use Rattle.std.proofs.lemmas.Option.{slice_get_read}
use Rattle.history_book.specs.declared.item.Item.{Item}
use Rattle.history_book.specs.declared.item.Item.TheVariants as item
use Rattle.cause_rules.specs.Since.{last_told}
use Rattle.cause_rules.specs.Asks.{ask_by, asks_for, term_by, draw_by, draws_for, its_ask}
use Rattle.cause_rules.specs.OwnKeys.{begin_by, begins_for, last_begun}
use Rattle.refusal_reasons.specs.declared.clue.Clue.TheVariants as clue
use Rattle.refusal_reasons.specs.Clues.{accepts_for}
use Rattle.refusal_reasons.specs.Sought.{last_place, seek}
use Rattle.refusal_reasons.proofs.PartLemmas.{Tells, told_is, ToldAt}

-- ---- which items tell
ask_no : (s : ℕ) (x : Item) → asks_for s x ≡ false → ask_by s x ≡ None
ask_no s (item.AskBegin session node) e = rw e refl
ask_no s (item.AskCommit session node start) e = rw e refl
ask_no s _ e = refl

ask_one : (s : ℕ) (x : Item) → asks_for s x ≡ true → is_some (ask_by s x) ≡ true
ask_one s (item.AskBegin session node) e = rw e refl
ask_one s (item.AskCommit session node start) e = rw e refl
ask_one s _ e = absurd cc

term_no : (s : ℕ) (x : Item) → accepts_for s x ≡ false → term_by s x ≡ None
term_no s (item.Accept session node term reading) e = rw e refl
term_no s _ e = refl

term_one : (s : ℕ) (x : Item) → accepts_for s x ≡ true → is_some (term_by s x) ≡ true
term_one s (item.Accept session node term reading) e = rw e refl
term_one s _ e = absurd cc

draw_no : (s : ℕ) (x : Item) → draws_for s x ≡ false → draw_by s x ≡ None
draw_no s (item.Draw session node term start commit) e = rw e refl
draw_no s _ e = refl

draw_one : (s : ℕ) (x : Item) → draws_for s x ≡ true → is_some (draw_by s x) ≡ true
draw_one s (item.Draw session node term start commit) e = rw e refl
draw_one s _ e = absurd cc

begin_no : (s : ℕ) (x : Item) → begins_for s x ≡ false → begin_by s x ≡ None
begin_no s (item.Begin session start) e = rw e refl
begin_no s _ e = refl

begin_one : (s : ℕ) (x : Item) → begins_for s x ≡ true → is_some (begin_by s x) ≡ true
begin_one s (item.Begin session start) e = rw e refl
begin_one s _ e = absurd cc

-- ---- at a place that is known
told_none : {A : Type 0} (told : Item → Option A) (test : Item → Bool) (h : List Item) → Tells told test → last_place test h 0 ≡ None → last_told told h ≡ None
told_none told test h tells is = subst (λ (o : Option ℕ). ToldAt told h o) is (told_is told test h tells)

told_some : {A : Type 0} (told : Item → Option A) (test : Item → Bool) (h : List Item) (place : ℕ) (x : Item) → Tells told test → last_place test h 0 ≡ Some place → place < length h → x ≡ get_or h place x → last_told told h ≡ told x
told_some told test h place x tells is within stands =
    let at : ToldAt told h (Some place) = subst (λ (o : Option ℕ). ToldAt told h o) is (told_is told test h tells) in
    subst (λ (o : Option Item). IfSome o (λ y. last_told told h ≡ told y)) (slice_get_read h (length h) place x refl within stands) at

pub ask_none : (h : List Item) (s : ℕ) → seek h 0 (clue.Ask s) ≡ None → its_ask h s ≡ None
ask_none h s = told_none (ask_by s) (asks_for s) h (record { no = ask_no s; one = ask_one s })

pub ask_some : (h : List Item) (s place : ℕ) (x : Item) → seek h 0 (clue.Ask s) ≡ Some place → place < length h → x ≡ get_or h place x → its_ask h s ≡ ask_by s x
ask_some h s place x = told_some (ask_by s) (asks_for s) h place x (record { no = ask_no s; one = ask_one s })

pub term_none : (h : List Item) (s : ℕ) → seek h 0 (clue.Accepted s) ≡ None → last_told (term_by s) h ≡ None
term_none h s = told_none (term_by s) (accepts_for s) h (record { no = term_no s; one = term_one s })

pub term_some : (h : List Item) (s place : ℕ) (x : Item) → seek h 0 (clue.Accepted s) ≡ Some place → place < length h → x ≡ get_or h place x → last_told (term_by s) h ≡ term_by s x
term_some h s place x = told_some (term_by s) (accepts_for s) h place x (record { no = term_no s; one = term_one s })

pub draw_none : (h : List Item) (s : ℕ) → seek h 0 (clue.Drew s) ≡ None → last_told (draw_by s) h ≡ None
draw_none h s = told_none (draw_by s) (draws_for s) h (record { no = draw_no s; one = draw_one s })

pub draw_some : (h : List Item) (s place : ℕ) (x : Item) → seek h 0 (clue.Drew s) ≡ Some place → place < length h → x ≡ get_or h place x → last_told (draw_by s) h ≡ draw_by s x
draw_some h s place x = told_some (draw_by s) (draws_for s) h place x (record { no = draw_no s; one = draw_one s })

pub begin_none : (h : List Item) (s : ℕ) → seek h 0 (clue.Begun s) ≡ None → last_begun h s ≡ None
begin_none h s = told_none (begin_by s) (begins_for s) h (record { no = begin_no s; one = begin_one s })

pub begin_some : (h : List Item) (s place : ℕ) (x : Item) → seek h 0 (clue.Begun s) ≡ Some place → place < length h → x ≡ get_or h place x → last_begun h s ≡ begin_by s x
begin_some h s place x = told_some (begin_by s) (begins_for s) h place x (record { no = begin_no s; one = begin_one s })
