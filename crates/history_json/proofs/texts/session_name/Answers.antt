use Rattle.std.proofs.Common.{◌≡◌, ℕ, sym, ap, ◌∙◌, arith}
use Rattle.std.specs.Fmt.{digits}
use Rattle.history_text.specs.Words.{session_text}
use Rattle.history_json.proofs.texts.session_name.Goals as goal

named : (session found number : ℕ) → found ≡ session → found ≡ number → session_text number ≡ session_text session
named session found number value is = ap session_text (sym is ∙ value)

pub returns-in-0 : goal.returns-in-0
unfolding digits
returns-in-0 c = named c.args.session _ 0 c.value.ensures.value c.in-0.is

pub returns-in-1 : goal.returns-in-1
unfolding digits
returns-in-1 c = named c.args.session _ 1 c.value.ensures.value c.in-1.is

pub returns-in-2 : goal.returns-in-2
unfolding digits
returns-in-2 c = named c.args.session _ 2 c.value.ensures.value c.in-2.is

pub returns-in-3 : goal.returns-in-3
unfolding digits
returns-in-3 c = named c.args.session _ 3 c.value.ensures.value c.in-3.is

pub returns-in-4 : goal.returns-in-4
unfolding digits
returns-in-4 c = named c.args.session _ 4 c.value.ensures.value c.in-4.is

pub returns-in-5 : goal.returns-in-5
unfolding digits
returns-in-5 c = named c.args.session _ 5 c.value.ensures.value c.in-5.is

pub returns-in-6 : goal.returns-in-6
unfolding digits
returns-in-6 c = named c.args.session _ 6 c.value.ensures.value c.in-6.is

pub returns-in-7 : goal.returns-in-7
unfolding digits
returns-in-7 c = named c.args.session _ 7 c.value.ensures.value c.in-7.is

pub returns-in-8 : goal.returns-in-8
unfolding digits
returns-in-8 c = named c.args.session _ 8 c.value.ensures.value c.in-8.is

pub returns-in-9 : goal.returns-in-9
unfolding digits
returns-in-9 c = named c.args.session _ 9 c.value.ensures.value c.in-9.is

pub returns-in-10 : goal.returns-in-10
unfolding digits
returns-in-10 c = named c.args.session _ 10 c.value.ensures.value c.in-10.is

pub returns-in-11 : goal.returns-in-11
unfolding digits
returns-in-11 c = named c.args.session _ 11 c.value.ensures.value c.in-11.is

pub returns-in-12 : goal.returns-in-12
unfolding digits
returns-in-12 c = named c.args.session _ 12 c.value.ensures.value c.in-12.is

pub returns-in-13 : goal.returns-in-13
unfolding digits
returns-in-13 c = named c.args.session _ 13 c.value.ensures.value c.in-13.is

pub returns-in-14 : goal.returns-in-14
unfolding digits
returns-in-14 c = named c.args.session _ 14 c.value.ensures.value c.in-14.is

pub returns-in_default : goal.returns-in_default
unfolding digits
returns-in_default c = named c.args.session _ 15 c.value.ensures.value (omega arith)
