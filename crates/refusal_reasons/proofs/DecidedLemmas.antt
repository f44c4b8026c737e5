-- Each cause is decided, by whom it is told.
use Rattle.std.proofs.Common.{◌≡◌, ℕ, ◌==◌, Bool, true, false, if◌then◌else◌, List, Option, Some, None, is_some, take, refl}
use Rattle.std.proofs.lemmas.Bool.{eqb-true, eq-eqb}
use Rattle.stamp_base.specs.SetupNumbers.{SetupNumbers}
use Rattle.history_book.specs.declared.cause.Cause.{Cause}
use Rattle.history_book.specs.declared.cause.Cause.TheVariants as cause
use Rattle.history_book.specs.declared.item.Actor.TheVariants.{Session, Node, Janitor, Clock}
use Rattle.history_book.specs.declared.item.Item.{Item}
use Rattle.history_book.specs.declared.item.Item.TheVariants as item
use Rattle.cause_rules.specs.Asks.{its_node, its_start, its_term, HasAsked}
use Rattle.refusal_reasons.specs.declared.clue.Clue.TheVariants as clue
use Rattle.refusal_reasons.specs.Decided.{IsDecided, AllDecided, ExplainedAreFound, SoughtFit}
use Rattle.refusal_reasons.specs.Clues.{fits}
use Rattle.refusal_reasons.specs.Showing.{asked_and_spent, no_oracle, own_oracle}
use Rattle.refusal_reasons.specs.Sought.{seek}
use Rattle.refusal_reasons.proofs.SeekLemmas.{last_is}
use Rattle.refusal_reasons.proofs.PlaceLemmas.{IsPlace, one_found, one_parts, same, seek_all}
use Rattle.refusal_reasons.proofs.CommitLemmas.{conflict_whole, conflict_sound, hidden_whole, hidden_sound, not_yet_whole, not_yet_sound, replaced_whole, replaced_sound, no_stamp_whole, no_stamp_sound}
use Rattle.refusal_reasons.proofs.NodeLemmas.{old_epoch_whole, old_epoch_sound, expired_whole, expired_sound, lease_given, given_lease, ceiling_given, given_ceiling, holding_whole, holding_sound, overtaken_whole, overtaken_sound}
use Rattle.refusal_reasons.proofs.LossLemmas.{invalid_whole, invalid_sound, lost_whole, lost_sound, crashed_whole, crashed_sound, gone_form, none_whole, none_sound}

-- ---- a range that is spent
asked_spent : (h : List Item) (ceiling : ℕ) (asked : Option ℕ) (n : ℕ) → asked ≡ Some n → IsPlace (seek h 0 (clue.Ceiling ceiling)) → is_some (asked_and_spent h ceiling asked) ≡ true
asked_spent h ceiling asked n is at = rw is (one_found true (seek h 0 (clue.Ceiling ceiling)) refl at)

spent_asked : (h : List Item) (s ceiling : ℕ) (node : Option ℕ) → its_node h s ≡ node → is_some (asked_and_spent h ceiling node) ≡ true → HasAsked h s × IsPlace (seek h 0 (clue.Ceiling ceiling))
spent_asked h s ceiling None ns e = absurd cc
spent_asked h s ceiling (Some n) ns e = ((n, ns), (one_parts true (seek h 0 (clue.Ceiling ceiling)) e).1)

-- ---- what is told to a session
by_session : (setup : SetupNumbers) (h : List Item) (s : ℕ) (why : Cause) → IsDecided setup h (Session s) why
by_session setup h s (cause.Conflict key by) = record { whole = conflict_whole setup h s key by; sound = conflict_sound setup h s key by (its_node h s) (its_start h s) (its_term h s) refl refl refl }
by_session setup h s (cause.Hidden key water) = record { whole = hidden_whole setup h s key water; sound = hidden_sound setup h s key water (its_node h s) (its_start h s) (its_term h s) refl refl refl }
by_session setup h s (cause.OldEpoch start epoch) = record { whole = λ shown. (old_epoch_whole h s start epoch shown, tt); sound = λ e _. old_epoch_sound h s start epoch (its_node h s) refl e }
by_session setup h s (cause.Expired reading until) = record { whole = λ shown. (expired_whole h s reading until shown, tt); sound = λ e _. expired_sound h s reading until (its_node h s) refl e }
by_session setup h s (cause.Replaced found) = record { whole = λ shown. (replaced_whole h s found shown, tt); sound = λ e _. replaced_sound h s found (its_node h s) (its_term h s) refl refl e }
by_session setup h s (cause.Spent ceiling) = record {
  whole = λ shown. (asked_spent h ceiling (its_node h s) shown.0.0 shown.0.1 (ceiling_given h shown.1.term ceiling shown.1.given), shown.1.past);
  sound = λ e past. let parts = spent_asked h s ceiling (its_node h s) refl e in let given = given_ceiling h ceiling parts.1.0 parts.1.1 in (parts.0, record { term = given.0; given = given.1; past = past });
}
by_session setup h s (cause.NoStamp last) = record { whole = λ shown. (no_stamp_whole h s last shown, tt); sound = λ e _. no_stamp_sound h s last (its_node h s) (its_term h s) refl refl e }
by_session setup h s (cause.Invalid start) = record { whole = λ shown. (invalid_whole h s start shown, tt); sound = λ e _. invalid_sound h s start (its_node h s) refl e }
by_session setup h s (cause.Open start) = record { whole = lost_whole setup h s start; sound = lost_sound setup h s start (its_node h s) refl }
by_session setup h s (cause.Crashed node term) = record { whole = λ shown. (crashed_whole h s node term shown, tt); sound = λ e _. crashed_sound h s node term e }
by_session setup h s (cause.NotYet commit) = record { whole = λ shown. (not_yet_whole setup h s commit shown, shown.waits); sound = not_yet_sound setup h s commit (its_node h s) (its_start h s) (its_term h s) refl refl refl }
by_session setup h s (cause.Full in_flight) = record { whole = λ shown. (refl, shown); sound = λ _ shown. shown }
by_session setup h s (cause.NoOracle node) = record { whole = λ shown. (none_whole h node shown, tt); sound = λ e _. none_sound h node e }
by_session setup h s cause.Gone = record {
  whole = λ shown. (one_found true (seek h 0 (clue.Vanished s)) refl (seek_all h (clue.Vanished s) (item.Vanish s) shown (same s)), tt);
  sound = λ e _. let parts = one_parts true (seek h 0 (clue.Vanished s)) e in gone_form h s parts.1.0 parts.1.1;
}
by_session setup h s cause.Busy = record { whole = λ _. (refl, tt); sound = λ _ _. tt }
by_session setup h s cause.Idle = record { whole = λ _. (refl, tt); sound = λ _ _. tt }
by_session setup h s cause.NoTransaction = record { whole = λ _. (refl, tt); sound = λ _ _. tt }
by_session setup h s cause.TooManyKeys = record { whole = λ _. (refl, tt); sound = λ _ _. tt }
by_session setup h s (cause.NoRequest session) = record { whole = λ shown. absurd shown; sound = λ e _. absurd cc }
by_session setup h s (cause.Early reading until) = record { whole = λ shown. absurd shown; sound = λ e _. absurd cc }
by_session setup h s (cause.Holding term) = record { whole = λ shown. absurd shown; sound = λ e _. absurd cc }
by_session setup h s (cause.Undecided start epoch) = record { whole = λ shown. absurd shown; sound = λ e _. absurd cc }

-- ---- what is told to a node
oracle_found : (h : List Item) (n node : ℕ) → node ≡ n → is_some (no_oracle h node) ≡ true → is_some (own_oracle h n node) ≡ true
oracle_found h n node is e = let own : (node == n) ≡ true = eq-eqb node n is in rw own e

found_oracle : (h : List Item) (n node : ℕ) (b : Bool) → (node == n) ≡ b → is_some (if b then no_oracle h node else None) ≡ true → (node ≡ n) × (is_some (no_oracle h node) ≡ true)
found_oracle h n node true own e = (eqb-true node n own, e)
found_oracle h n node false own e = absurd cc

by_node : (setup : SetupNumbers) (h : List Item) (n : ℕ) (why : Cause) → IsDecided setup h (Node n) why
by_node setup h n (cause.Early reading until) = record {
  whole = λ shown. (one_found true (seek h 0 (clue.Lease until)) refl (lease_given h until shown.given), shown.before);
  sound = λ e before. let parts = one_parts true (seek h 0 (clue.Lease until)) e in record { given = given_lease h until parts.1.0 parts.1.1; before = before };
}
by_node setup h n (cause.Spent ceiling) = record {
  whole = λ shown. (one_found true (seek h 0 (clue.Ceiling ceiling)) refl (ceiling_given h shown.term ceiling shown.given), shown.past);
  sound = λ e past. let parts = one_parts true (seek h 0 (clue.Ceiling ceiling)) e in let given = given_ceiling h ceiling parts.1.0 parts.1.1 in record { term = given.0; given = given.1; past = past };
}
by_node setup h n (cause.Replaced found) = record { whole = λ shown. (overtaken_whole h n found shown, tt); sound = λ e _. overtaken_sound h n found e }
by_node setup h n (cause.Holding term) = record { whole = λ shown. (holding_whole h n term shown, tt); sound = λ e _. holding_sound h n term e }
by_node setup h n (cause.NoOracle node) = record {
  whole = λ shown. (oracle_found h n node shown.0 (none_whole h node shown.1), tt);
  sound = λ e _. let parts = found_oracle h n node (node == n) refl e in (parts.0, none_sound h node parts.1);
}
by_node setup h n (cause.NoRequest session) = record { whole = λ _. (refl, tt); sound = λ _ _. tt }
by_node setup h n (cause.Conflict key by) = record { whole = λ shown. absurd shown; sound = λ e _. absurd cc }
by_node setup h n (cause.Hidden key water) = record { whole = λ shown. absurd shown; sound = λ e _. absurd cc }
by_node setup h n (cause.OldEpoch start epoch) = record { whole = λ shown. absurd shown; sound = λ e _. absurd cc }
by_node setup h n (cause.Expired reading until) = record { whole = λ shown. absurd shown; sound = λ e _. absurd cc }
by_node setup h n (cause.NoStamp last) = record { whole = λ shown. absurd shown; sound = λ e _. absurd cc }
by_node setup h n (cause.Invalid start) = record { whole = λ shown. absurd shown; sound = λ e _. absurd cc }
by_node setup h n (cause.Open start) = record { whole = λ shown. absurd shown; sound = λ e _. absurd cc }
by_node setup h n (cause.Crashed node term) = record { whole = λ shown. absurd shown; sound = λ e _. absurd cc }
by_node setup h n (cause.NotYet commit) = record { whole = λ shown. absurd shown; sound = λ e _. absurd cc }
by_node setup h n (cause.Full in_flight) = record { whole = λ shown. absurd shown; sound = λ e _. absurd cc }
by_node setup h n cause.NoTransaction = record { whole = λ shown. absurd shown; sound = λ e _. absurd cc }
by_node setup h n cause.Busy = record { whole = λ shown. absurd shown; sound = λ e _. absurd cc }
by_node setup h n cause.TooManyKeys = record { whole = λ shown. absurd shown; sound = λ e _. absurd cc }
by_node setup h n cause.Gone = record { whole = λ shown. absurd shown; sound = λ e _. absurd cc }
by_node setup h n cause.Idle = record { whole = λ shown. absurd shown; sound = λ e _. absurd cc }
by_node setup h n (cause.Undecided start epoch) = record { whole = λ shown. absurd shown; sound = λ e _. absurd cc }

-- ---- what is told to the janitor
by_janitor : (setup : SetupNumbers) (h : List Item) (why : Cause) → IsDecided setup h Janitor why
by_janitor setup h (cause.NoOracle node) = record { whole = λ shown. (none_whole h node shown, tt); sound = λ e _. none_sound h node e }
by_janitor setup h cause.Busy = record { whole = λ _. (refl, tt); sound = λ _ _. tt }
by_janitor setup h cause.Idle = record { whole = λ _. (refl, tt); sound = λ _ _. tt }
by_janitor setup h (cause.Undecided start epoch) = record { whole = λ _. (refl, tt); sound = λ _ _. tt }
by_janitor setup h _ = record { whole = λ shown. absurd shown; sound = λ e _. absurd cc }

pub all_decided : AllDecided
all_decided setup h (Session s) why = by_session setup h s why
all_decided setup h (Node n) why = by_node setup h n why
all_decided setup h Janitor why = by_janitor setup h why
all_decided setup h Clock why = record { whole = λ shown. absurd shown; sound = λ e _. absurd cc }

-- ---- so the items of an explained history are found, and each is what its clue asks for
pub explained_found : ExplainedAreFound
explained_found = λ setup items place actor why explained stands. ((all_decided setup (take place items) actor why).whole (explained.at place (item.Refused actor why) stands)).0

pub sought_fit : SoughtFit
sought_fit = λ h from place sought is. let last = last_is (fits sought) h from place is in record { from_on = last.from_on; item = last.item; stands = last.stands; fits = last.fits }
