-- For split_driver.
-- A log that follows the lines of its actor has the first event of each of them, in their order.
use Rattle.log_refinement.proofs.Names.{◌≡◌, List, [], ◌∷◌, Option, Some, inl, inr, refl, sym, subst, filter, Actor}
use Rattle.log_refinement.proofs.Names.{Line, ScriptData, Event, Entry, Logged, first_event, plain_event, TellsNoFirst}
use Rattle.log_refinement.proofs.Names.{with_first, first_events, AreAmong, Follows, is_own, AllFollow, AllBegin}
use Rattle.log_refinement.proofs.Names.{Standing, first_standing, gone_on, opened}
use Rattle.log_refinement.proofs.OpeningLogs.{first_alone, plain_by}

-- one line more
silent : (actor : Actor) (line : Line) (lines : List Line) (P : List Event → Type 0) → TellsNoFirst actor line.verb → P (first_events actor lines) → P (first_events actor (line ∷ lines))
unfolding first_events
silent actor line lines P tells so =
    subst (λ (o : Option Event). P (with_first o (with_first (plain_event actor line.verb) (first_events actor lines)))) (sym tells.0)
    (subst (λ (o : Option Event). P (with_first o (first_events actor lines))) (sym tells.1) so)

begun : (actor : Actor) (line : Line) (lines : List Line) (e : Event) (P : List Event → Type 0) → first_event actor line.verb ≡ Some e → P (e ∷ first_events actor lines) → P (first_events actor (line ∷ lines))
unfolding first_events
begun actor line lines e P first so =
    subst (λ (o : Option Event). P (with_first o (with_first (plain_event actor line.verb) (first_events actor lines)))) (sym first)
    (subst (λ (o : Option Event). P (e ∷ with_first o (first_events actor lines))) (sym (first_alone actor line.verb e first)) so)

begun_plain : (actor : Actor) (line : Line) (lines : List Line) (e : Event) (P : List Event → Type 0) → plain_event actor line.verb ≡ Some e → P (e ∷ first_events actor lines) → P (first_events actor (line ∷ lines))
unfolding first_events
begun_plain actor line lines e P plain so =
    subst (λ (o : Option Event). P (with_first o (with_first (plain_event actor line.verb) (first_events actor lines)))) (sym (plain_by actor line.verb e plain).0)
    (subst (λ (o : Option Event). P (with_first o (first_events actor lines))) (sym plain) so)

-- one entry more
among_more : (es : List Event) (entry : Entry) (entries : List Entry) → AreAmong es entries → AreAmong es (entry ∷ entries)
unfolding AreAmong
among_more [] entry entries so = tt
among_more (e ∷ es) entry entries so = inr so

among_first : (entry : Entry) (es : List Event) (entries : List Entry) → AreAmong es entries → AreAmong (entry.event ∷ es) (entry ∷ entries)
unfolding AreAmong
among_first entry es entries so = inl (refl, so)

follows_begins : (actor : Actor) (st : Standing) (lines : List Line) (entries : List Entry) → Follows actor st lines entries → AreAmong (first_events actor lines) entries
unfolding Follows AreAmong first_events
follows_begins actor st [] [] follows = tt
follows_begins actor st (line ∷ lines) [] follows = silent actor line lines (λ (es : List Event). AreAmong es []) follows.0 (follows_begins actor st lines [] follows.1)
follows_begins actor st [] (e ∷ es) follows = tt
follows_begins actor st (line ∷ lines) (e ∷ es) (inl on) = among_more (first_events actor (line ∷ lines)) e es (follows_begins actor (gone_on actor st e) (line ∷ lines) es on.1)
follows_begins actor st (line ∷ lines) (e ∷ es) (inr (inl k)) =
    begun actor line lines e.event (λ (firsts : List Event). AreAmong firsts (e ∷ es)) k.1 (among_first e (first_events actor lines) es (follows_begins actor (opened actor line.verb st e.kept.items) lines es k.2))
follows_begins actor st (line ∷ lines) (e ∷ es) (inr (inr (inl k))) =
    begun_plain actor line lines e.event (λ (firsts : List Event). AreAmong firsts (e ∷ es)) k.1 (among_first e (first_events actor lines) es (follows_begins actor (gone_on actor st e) lines es k.2))
follows_begins actor st (line ∷ lines) (e ∷ es) (inr (inr (inr k))) =
    silent actor line lines (λ (firsts : List Event). AreAmong firsts (e ∷ es)) k.0 (follows_begins actor st lines (e ∷ es) k.1)

pub all_begin : (script : ScriptData) (actors : List Actor) (logs : List Logged) → AllFollow script actors logs → AllBegin script actors logs
all_begin script [] [] follow = tt
all_begin script [] (log ∷ logs) follow = absurd follow
all_begin script (actor ∷ actors) [] follow = absurd follow
all_begin script (actor ∷ actors) (log ∷ logs) follow = (follows_begins actor first_standing (filter (is_own actor) script.lines) log.entries follow.0, all_begin script actors logs follow.1)
