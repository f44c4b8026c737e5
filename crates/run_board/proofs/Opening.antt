-- What a script run keeps before its first turn.
use Rattle.run_board.proofs.Names.{◌≡◌, ℕ, ◌+◌, ◌≤◌, ◌^◌, Bool, false, List, [], All, length, get_or, refl, sym, ◌∙◌}
use Rattle.run_board.proofs.Names.{ap, subst, arith, map, replicate, slice_index_or, All-weaker, none-some, Line}
use Rattle.run_board.proofs.Names.{ScriptData, IsSound, HaveRoom, AreLinesOf, Clocks, opening_played, SessionIsThere}
use Rattle.run_board.proofs.Names.{StandsAt, clocks_at, clocks_there, lines_fit, Holds, Turn, at_first, carried}
use Rattle.run_board.proofs.Names.{none_held, AreForThreads, Seated, IsSeated, SitsAt, own_lines, after_passing}
use Rattle.run_board.proofs.Names.{CanPass, AreSeatedFirst}
use Rattle.run_board.proofs.Lacking.{none_at_first}
use Rattle.run_board.proofs.Steady.{clock_room, lines_have_room}
use Rattle.run_board.proofs.Kept.{Kept, IsMade}
use Rattle.run_board.proofs.Turned.{passed_all}

-- ---- lines can be passed
can_pass : (script : ScriptData) (clock : ℕ) (s : Seated) → IsSound script → length script.lines ≤ 131072 → clock + script.setup.skew ≤ 2 ^ 61 → IsSeated script s → CanPass clock script.leads s
can_pass script clock s sound few room k = record {
  room = subst (λ (lines : List Line). All (λ (line : Line). HaveRoom clock script.leads line.verb) lines) (sym k.lines) (lines_have_room script clock s.seat.actor sound few room);
  place = k.place;
}

each_can_pass : (script : ScriptData) (clock : ℕ) → IsSound script → length script.lines ≤ 131072 → clock + script.setup.skew ≤ 2 ^ 61 → (seated : List Seated) → All (IsSeated script) seated → All (CanPass clock script.leads) seated
each_can_pass script clock sound few room seated each = All-weaker (IsSeated script) (CanPass clock script.leads) (λ s k. can_pass script clock s sound few room k) seated each

pub all_can_pass : (script : ScriptData) (turns : List Turn) (clock : ℕ) (leads : List ℕ) (seated : List Seated) → IsSound script → length script.lines ≤ 131072 → clock ≡ (carried script turns).played.clock → leads ≡ script.leads → All (IsSeated script) seated → All (CanPass clock leads) seated
all_can_pass script turns clock leads seated sound few time same each =
    let room : clock + script.setup.skew ≤ 2 ^ 61 = omega (arith, clock_room script turns sound few, time) in
    subst (λ (ls : List ℕ). All (CanPass clock ls) seated) (sym same) (each_can_pass script clock sound few room seated each)

-- ---- before the first turn
seated_first : (script : ScriptData) (s : Seated) → s.lines.items ≡ own_lines s.seat.actor script.lines → s.seat.place ≡ 0 → IsSeated script s
seated_first script s own place = record { lines = own; place = omega (arith, place) }

all_seated : (script : ScriptData) (all : List Seated) → All (λ (s : Seated). s.lines.items ≡ own_lines s.seat.actor script.lines) all → All (λ (s : Seated). s.seat.place ≡ 0) all → All (IsSeated script) all
all_seated script all own first = λ k d within. seated_first script (get_or all k d) (own k d within) (first k d within)

pub sits_first : (script : ScriptData) (held : List Holds) (all : List Seated) → AreSeatedFirst script.setup.nodes script.lines all → held ≡ replicate script.setup.nodes none_held → SitsAt script (at_first script) [] held all
sits_first script held all k none = record {
  posted = refl;
  held_is = none;
  seats = k.seats;
  each = all_seated script all k.own k.place;
}

are_lines_of : (script : ScriptData) → IsSound script → All (λ (line : Line). SessionIsThere line.actor) script.lines → AreLinesOf script.setup script.lines
are_lines_of script sound there = lines_fit script.setup script.lines sound.lines (λ k d within here. there k d here)

-- each actor passes its first lines with nothing to do
pub opens : (script : ScriptData) (kept : Kept) (clock_times : Clocks) → IsSound script → length script.lines ≤ 131072 → AreForThreads script.lines → All (λ (line : Line). SessionIsThere line.actor) script.lines → StandsAt script (opening_played script) kept.whole kept.clock kept.ahead → SitsAt script (at_first script) kept.names kept.held kept.seated → kept.lacking ≡ replicate script.setup.nodes false → clock_times ≡ clocks_at kept.whole kept.clock script.leads →
    IsMade (record { script = script; turns = [] }) (record kept { seated = map (after_passing clock_times kept.whole.state) kept.seated })
opens script kept clock_times sound few threads there stands sits none times = record {
  stands = stands;
  sits = passed_all script (at_first script) clock_times kept.whole.state kept.names kept.held kept.seated sits (times ∙ clocks_there script (opening_played script) kept.whole kept.clock kept.ahead stands) stands.state;
  out = record {
    sound = sound;
    few = few;
    sessions = are_lines_of script sound there;
    for_threads = threads;
    lawful = record { at = λ place turn is. absurd (none-some turn is) };
    used_up = λ node is. absurd (none_at_first script.setup.nodes node (ap (λ (bs : List Bool). slice_index_or bs node false) (sym none) ∙ is));
  };
}
