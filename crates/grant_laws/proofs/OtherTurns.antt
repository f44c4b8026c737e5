-- A turn that is not a session's own leaves its client as it was, where its transaction is open, and its seat where it was.
use Rattle.std.proofs.Common.{arith}
use Rattle.grant_laws.proofs.Names.{◌≡◌, ℕ, false, Some, inl, ◌∙◌, Actor}
use Rattle.grant_laws.proofs.Names.{Session, Reading, Event, Step, ScriptData, same_actor, fate_of, played}
use Rattle.grant_laws.proofs.Names.{actor_same, same_itself, Seat, Turn, Carried, event_of}
use Rattle.grant_laws.proofs.Names.{OwnTurn, own_turn, stage_turn, other_stays, IsNotOf, client_stays}
use Rattle.grant_laws.proofs.Names.{ReadsKey, is_own, ReadsStay}
use Rattle.turn_rules.specs.declared.turn.Turn.TheVariants as turn
use Rattle.turn_rules.specs.Carried.{moved}
use Rattle.turn_rules.proofs.OwnSessions.{not_of}
use Rattle.grant_laws.proofs.KnownTurns.{KnownTurns, known_stands, known_carried}

-- ---- its event is of no session but its own
owned_not : (script : ScriptData) (c : Carried) (aim : ℕ) (who : Actor) (s : ℕ) (e : Event) → OwnTurn script c who aim e → same_actor who (Session s) ≡ false → IsNotOf s e
owned_not script c aim who s e own other = grind (arith, not_of, same_itself)

pub other_event : (script : ScriptData) (c : Carried) (t : Turn) (s : ℕ) (e : Event) → event_of script c t ≡ Some e → is_own s t ≡ false → IsNotOf s e
other_event script c (turn.Own who aim) s e is other = owned_not script c aim who s e (own_turn script c who aim e is) other
other_event script c (turn.Accept node session) s e is other = (stage_turn script c (turn.Accept node session) e (λ own. own) is).of_none s
other_event script c (turn.Decide node session) s e is other = (stage_turn script c (turn.Decide node session) e (λ own. own) is).of_none s
other_event script c (turn.Put node session) s e is other = (stage_turn script c (turn.Put node session) e (λ own. own) is).of_none s
other_event script c (turn.Answer node session) s e is other = (stage_turn script c (turn.Answer node session) e (λ own. own) is).of_none s
other_event script c (turn.Extend node) s e is other = (stage_turn script c (turn.Extend node) e (λ own. own) is).of_none s

-- ---- a read under way stays
pub read_left_by_event : (script : ScriptData) (c : Carried) (t : Turn) (s start key : ℕ) (r : Reading) (e : Event) → KnownTurns script c → event_of script c t ≡ Some e → is_own s t ≡ false → ReadsKey c.played s start key r → ReadsKey (played script c.played e) s start key r
read_left_by_event script c t s start key r e known is other k =
    record {
      client = k.client;
      session_is = client_stays c.played.state c.played.items s k.client (known_stands script c known) k.session_is (inl k.in_work) e (fate_of script c.played e) (other_event script c t s e is other) ∙ k.session_is;
      in_work = k.in_work;
      under_way = k.under_way;
      key_is = k.key_is;
      start_is = k.start_is;
    }

pub reads_stay : ReadsStay
reads_stay script turns t s start key r in_range playable other k = grind (arith, known_carried, read_left_by_event)

-- ---- the seat stays
pub seat_left : (script : ScriptData) (t : Turn) (step : Step) (s : ℕ) (seat : Seat) → seat.actor ≡ Session s → is_own s t ≡ false → moved script t step seat ≡ seat
seat_left script t step s seat mine other = grind (arith, other_stays, actor_same, same_itself)
