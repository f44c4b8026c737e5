-- For turn_rules and log_refinement too.
-- The first item of an event that opens a line answers the line, and no other item of it opens one.
use Rattle.std.proofs.Common.{arith}
use Rattle.command_semantics.proofs.Names.{◌≡◌, ℕ, Bool, cond, List, [], ◌∷◌, Option, Some, Ok, ◌⊎◌}
use Rattle.command_semantics.proofs.Names.{refl, Fate}
use Rattle.command_semantics.proofs.Names.{Node, Session, Item}
use Rattle.command_semantics.proofs.Names.{Held}
use Rattle.command_semantics.proofs.Names.{Request, InstanceEntry, in_flight, session_of, with_request}
use Rattle.command_semantics.proofs.Names.{InstanceStep, stays, just_asked, Client, State}
use Rattle.command_semantics.proofs.Names.{take_on, renew_on}
use Rattle.command_semantics.proofs.Names.{crashed_items, all_crashed_items, crash_on, asked_by}
use Rattle.command_semantics.proofs.Names.{ask_begin_on, vanish_on, IsRefusal, IsTake, IsRenew, IsCrash}
use Rattle.command_semantics.proofs.Names.{IsVanish, IsAskBegin}
use Rattle.history_book.specs.declared.cause.Cause.TheVariants as cause
use Rattle.history_book.specs.declared.item.Item.TheVariants as item
use Rattle.command_semantics.proofs.Plain.{AllPlain, plain_append, one_plain, no_plain}

-- the items begin with one of this kind, and none behind it opens a line
pub record Begins (A : Item → Type 0) (items : List Item) : Type 0 where
  pub first : Item
  pub rest : List Item
  pub is : items ≡ first ∷ rest
  pub answers : A first
  pub plain : AllPlain rest

pub alone : (A : Item → Type 0) (x : Item) → A x → Begins A (x ∷ [])
alone A x answers = record { first = x; rest = []; is = refl; answers = answers; plain = no_plain }

pub behind : (A : Item → Type 0) (x : Item) (xs : List Item) → A x → AllPlain xs → Begins A (x ∷ xs)
behind A x xs answers plain = record { first = x; rest = xs; is = refl; answers = answers; plain = plain }

-- ---- takes and renewals
abbrev pub TakeAnswer : ℕ → Item → Type 0
TakeAnswer node x = IsTake node x ⊎ IsRefusal (Node node) x

pub take_begins : (w : State) (node reading : ℕ) (fate : Fate) (post : Option InstanceEntry) → Begins (TakeAnswer node) (take_on w.setup node reading fate post w.master).items
take_begins w node reading fate post = grind (arith, alone, behind, one_plain)

abbrev pub RenewAnswer : ℕ → Item → Type 0
RenewAnswer node x = IsRenew node x ⊎ IsRefusal (Node node) x

pub renew_begins : (w : State) (node reading : ℕ) (fate : Fate) (post : Option InstanceEntry) → Begins (RenewAnswer node) (renew_on w.setup node reading fate post w.master).items
renew_begins w node reading fate post = grind (arith, alone, behind, one_plain)

-- ---- a crash
crashed_plain : (node term : ℕ) (held : Option Held) (c : Client) → AllPlain (crashed_items node term held c)
crashed_plain node term held c = grind (arith, no_plain, one_plain)

all_crashed_plain : (node term : ℕ) (requests : List (Option Held)) (cs : List Client) → AllPlain (all_crashed_items node term requests cs)
unfolding all_crashed_items
all_crashed_plain node term [] cs = no_plain
all_crashed_plain node term (held ∷ others) [] = no_plain
all_crashed_plain node term (held ∷ others) (c ∷ cs) = plain_append (crashed_items node term held c) (all_crashed_items node term others cs) (crashed_plain node term held c) (all_crashed_plain node term others cs)

pub crash_begins : (w : State) (node : ℕ) (post : Option InstanceEntry) → Begins (λ (x : Item). IsCrash node x ⊎ IsRefusal (Node node) x) (crash_on node post w.clients).items
crash_begins w node post = grind (arith, alone, behind, all_crashed_plain)

-- ---- asks
-- the instance takes the request, or is full
pub ask_begins_if : (s : ℕ) (c : Client) (ask : Item) (A : Item → Type 0) (i : InstanceEntry) (request : Request) (full : Bool) → A ask → ((n : ℕ) → A (item.Refused (Session s) (cause.Full n))) → let step : InstanceStep (Unit {0}) = cond full (stays i (cause.Full (in_flight i))) (record { left = with_request i (session_of request) (Some (just_asked request)); answer = Ok tt }) in Begins A (asked_by s c ask step step.answer).items
ask_begins_if s c ask A i request full asked refused = grind (arith, alone)

abbrev pub BeginAnswer : ℕ → ℕ → Item → Type 0
BeginAnswer s node x = IsAskBegin s (λ asked. asked ≡ node) x ⊎ IsRefusal (Session s) x

pub ask_begin_begins : (s node : ℕ) (c : Client) (post : Option InstanceEntry) → Begins (BeginAnswer s node) (ask_begin_on s node c post).items
ask_begin_begins s node c post = grind (arith, alone, ask_begins_if)

-- ---- a vanish
pub vanish_begins : (s : ℕ) (c : Client) → Begins (λ (x : Item). IsVanish s x ⊎ IsRefusal (Session s) x) (vanish_on s c).items
vanish_begins s c = grind (arith, alone)
