-- For this crate's own proofs.
-- How the log of an actor goes on along its lines.
use Rattle.std.proofs.Common.{◌≡◌, ℕ, ◌+◌, ◌-◌, ◌*◌, ◌≤◌, ◌<◌, ◌^◌, Bool, true, false, cond, ◌&&◌, List, [], ◌∷◌, ◌++◌, length, append_assoc, get_or, drop, ◌⊎◌, None, Some, inl, inr, refl, sym, subst, ap, ◌∙◌, arith}
use Rattle.std.specs.Prelude.{filter, Result, Ok, Err, OnErr}
use Rattle.std.proofs.lemmas.List.{append-nil, get_or_push, length_push}
use Rattle.std.proofs.Math.ListN.{drop_of_length-le}
use Rattle.std.proofs.lemmas.List.Sums.{sum_by_push}
use Rattle.history_book.specs.declared.item.Actor.{Actor}
use Rattle.history_book.specs.declared.item.Actor.TheVariants.{Clock, Node, Session, Janitor}
use Rattle.script_data.specs.declared.line.Line.{Line}
use Rattle.script_data.specs.declared.line.Verb.{Verb}
use Rattle.script_data.specs.declared.line.Verb.TheVariants as verb
use Rattle.script_data.specs.Ticks.{tick_of}
use Rattle.command_semantics.specs.Clocks.{TicksWithin}
use Rattle.split_parts.specs.declared.event.Event.{Event}
use Rattle.split_parts.specs.declared.event.Event.TheVariants as event
use Rattle.split_stores.specs.declared.seat.Entry.{Entry}
use Rattle.split_stores.specs.Makes.{AddsOne}
use Rattle.split_stores.specs.Logs.{Logged, SameLog, CanRise, risen_by, rise_of}
use Rattle.log_refinement.specs.Owed.{Standing, first_standing, gone_on, opened, is_paid}
use Rattle.log_refinement.specs.Follows.{first_event, plain_event, TellsNoFirst, IsLater, Follows, FollowsFront, FollowsLines, FollowsSome, is_own}
use Rattle.split_driver.specs.Runs.{RisesInBounds, Stand, stand, IsFollowedTo, IsNewest, GoesOn, OpensLine, PlaysLine, StopsIn, StopsOn, StopsOpening}

-- ---- one entry more
-- an entry that goes on with a line
follows_past : (actor : Actor) (st : Standing) (left : List Line) (e : Entry) (later : List Entry) → IsLater actor e.event → Follows actor (gone_on actor st e) left later → Follows actor st left (e ∷ later)
unfolding Follows
follows_past actor st [] e later goes walks = (goes, walks)
follows_past actor st (line ∷ left) e later goes walks = inl (goes, walks)

front_past : (actor : Actor) (st : Standing) (left : List Line) (e : Entry) (later : List Entry) → IsLater actor e.event → FollowsFront actor (gone_on actor st e) left later → FollowsFront actor st left (e ∷ later)
unfolding FollowsFront
front_past actor st [] e later goes walks = (goes, walks)
front_past actor st (line ∷ left) e later goes walks = inl (goes, walks)

-- an entry that opens the next line, by an item
follows_open : (actor : Actor) (st : Standing) (line : Line) (left : List Line) (e : Entry) (later : List Entry) → is_paid st ≡ true → first_event actor line.verb ≡ Some e.event → Follows actor (opened actor line.verb st e.kept.items) left later → Follows actor st (line ∷ left) (e ∷ later)
unfolding Follows
follows_open actor st line left e later paid first walks = inr (inl (paid, first, walks))

front_open : (actor : Actor) (st : Standing) (line : Line) (left : List Line) (e : Entry) (later : List Entry) → is_paid st ≡ true → first_event actor line.verb ≡ Some e.event → FollowsFront actor (opened actor line.verb st e.kept.items) left later → FollowsFront actor st (line ∷ left) (e ∷ later)
unfolding FollowsFront
front_open actor st line left e later paid first walks = inr (inl (paid, first, walks))

-- and by none
follows_plain : (actor : Actor) (st : Standing) (line : Line) (left : List Line) (e : Entry) (later : List Entry) → is_paid st ≡ true → plain_event actor line.verb ≡ Some e.event → Follows actor (gone_on actor st e) left later → Follows actor st (line ∷ left) (e ∷ later)
unfolding Follows
follows_plain actor st line left e later paid first walks = inr (inr (inl (paid, first, walks)))

front_plain : (actor : Actor) (st : Standing) (line : Line) (left : List Line) (e : Entry) (later : List Entry) → is_paid st ≡ true → plain_event actor line.verb ≡ Some e.event → FollowsFront actor (gone_on actor st e) left later → FollowsFront actor st (line ∷ left) (e ∷ later)
unfolding FollowsFront
front_plain actor st line left e later paid first walks = inr (inr (inl (paid, first, walks)))

-- a line whose form tells no first event
follows_over : (actor : Actor) (st : Standing) (line : Line) (left : List Line) (later : List Entry) → TellsNoFirst actor line.verb → Follows actor st left later → Follows actor st (line ∷ left) later
unfolding Follows
follows_over actor st line left [] tells walks = (tells, walks)
follows_over actor st line left (e ∷ later) tells walks = inr (inr (inr (tells, walks)))

front_over : (actor : Actor) (st : Standing) (line : Line) (left : List Line) (later : List Entry) → TellsNoFirst actor line.verb → FollowsFront actor st left later → FollowsFront actor st (line ∷ left) later
unfolding FollowsFront
front_over actor st line left [] tells walks = tt
front_over actor st line left (e ∷ later) tells walks = inr (inr (inr (tells, walks)))

-- no entries are of a front
front_none : (actor : Actor) (st : Standing) (left : List Line) → FollowsFront actor st left []
unfolding FollowsFront
front_none actor st [] = tt
front_none actor st (line ∷ left) = tt

-- what holds of entries behind one more, holds of them all
with_entry : (P : List Entry → Type 0) (entries : List Entry) (e : Entry) (later : List Entry) → P (entries ++ e ∷ later) → P ((entries ++ e ∷ []) ++ later)
with_entry P entries e later so = subst P (sym (append_assoc entries (e ∷ []) later)) so

abbrev stood : List Entry → Standing → Stand
stood entries st = record { entries = entries; standing = st }

past_more : (actor : Actor) (all left : List Line) (entries : List Entry) (st : Standing) (e : Entry) → IsLater actor e.event → IsFollowedTo actor all (stood entries st) left → IsFollowedTo actor all (stood (entries ++ e ∷ []) (gone_on actor st e)) left
past_more actor all left entries st e goes so = record {
  whole = (λ later walks. with_entry (Follows actor first_standing all) entries e later (so.whole (e ∷ later) (follows_past actor st left e later goes walks)));
  front = (λ later walks. with_entry (FollowsFront actor first_standing all) entries e later (so.front (e ∷ later) (front_past actor st left e later goes walks)));
}

open_more : (actor : Actor) (all left : List Line) (line : Line) (entries : List Entry) (st : Standing) (e : Entry) → is_paid st ≡ true → first_event actor line.verb ≡ Some e.event → IsFollowedTo actor all (stood entries st) (line ∷ left) → IsFollowedTo actor all (stood (entries ++ e ∷ []) (opened actor line.verb st e.kept.items)) left
open_more actor all left line entries st e paid first so = record {
  whole = (λ later walks. with_entry (Follows actor first_standing all) entries e later (so.whole (e ∷ later) (follows_open actor st line left e later paid first walks)));
  front = (λ later walks. with_entry (FollowsFront actor first_standing all) entries e later (so.front (e ∷ later) (front_open actor st line left e later paid first walks)));
}

plain_more : (actor : Actor) (all left : List Line) (line : Line) (entries : List Entry) (st : Standing) (e : Entry) → is_paid st ≡ true → plain_event actor line.verb ≡ Some e.event → IsFollowedTo actor all (stood entries st) (line ∷ left) → IsFollowedTo actor all (stood (entries ++ e ∷ []) (gone_on actor st e)) left
plain_more actor all left line entries st e paid first so = record {
  whole = (λ later walks. with_entry (Follows actor first_standing all) entries e later (so.whole (e ∷ later) (follows_plain actor st line left e later paid first walks)));
  front = (λ later walks. with_entry (FollowsFront actor first_standing all) entries e later (so.front (e ∷ later) (front_plain actor st line left e later paid first walks)));
}

over_more : (actor : Actor) (all left : List Line) (line : Line) (at : Stand) → TellsNoFirst actor line.verb → IsFollowedTo actor all at (line ∷ left) → IsFollowedTo actor all at left
over_more actor all left line at tells so = record {
  whole = (λ later walks. so.whole later (follows_over actor at.standing line left later tells walks));
  front = (λ later walks. so.front later (front_over actor at.standing line left later tells walks));
}

-- ---- what an entry does to the clock
rise_none : (actor : Actor) (e : Event) → IsLater actor e → rise_of e ≡ 0
rise_none Clock (event.Tick by) later = absurd later
rise_none (Node n) (event.Tick by) later = absurd later
rise_none (Session s) (event.Tick by) later = absurd later
rise_none Janitor (event.Tick by) later = absurd later
rise_none actor _ later = refl

pub later_rises : (actor : Actor) (e : Event) (entries : List Entry) → IsLater actor e → CanRise e entries
later_rises Clock (event.Tick by) entries later = absurd later
later_rises (Node n) (event.Tick by) entries later = absurd later
later_rises (Session s) (event.Tick by) entries later = absurd later
later_rises Janitor (event.Tick by) entries later = absurd later
later_rises actor _ entries later = tt

risen_more : (entries : List Entry) (e : Entry) → risen_by (entries ++ e ∷ []) ≡ risen_by entries + rise_of e.event
risen_more entries e = sum_by_push (λ (x : Entry). rise_of x.event) entries e

-- ---- the newest entry
pub some_entry : (e : Event) (old new : Logged) → AddsOne e old new → 0 < length new.entries
some_entry e old new adds = let more = length_push old.entries adds.added in omega (arith, ap length adds.entries, more)

pub newest_is : (e : Event) (old new : Logged) (entry : Entry) → AddsOne e old new → entry ≡ get_or new.entries (length new.entries - 1) entry → IsNewest e old new entry
newest_is e old new entry adds read =
    let more : length new.entries ≡ length old.entries + 1 = ap length adds.entries ∙ length_push old.entries adds.added in
    let last : get_or (old.entries ++ adds.added ∷ []) (length new.entries - 1) entry ≡ adds.added = get_or_push old.entries adds.added entry (length new.entries - 1) (omega arith) in
    let is : entry ≡ adds.added = read ∙ ap (λ (es : List Entry). get_or es (length new.entries - 1) entry) adds.entries ∙ last in
    record {
      of = ap (λ (x : Entry). x.event) is ∙ adds.of;
      entries = adds.entries ∙ ap (λ (x : Entry). old.entries ++ x ∷ []) (sym is);
    }

-- ---- steps
-- at first nothing is there, and all lines are left
pub followed_first : (actor : Actor) (all : List Line) (at : Stand) → at.entries ≡ [] → at.standing ≡ first_standing → IsFollowedTo actor all at all
followed_first actor all at none first = record {
  whole = (λ later walks. subst (λ (es : List Entry). Follows actor first_standing all (es ++ later)) (sym none) (subst (λ (st : Standing). Follows actor st all later) first walks));
  front = (λ later walks. subst (λ (es : List Entry). FollowsFront actor first_standing all (es ++ later)) (sym none) (subst (λ (st : Standing). FollowsFront actor st all later) first walks));
}

-- at the end no line is left, and nothing is owed
pub followed_all : (actor : Actor) (all : List Line) (at : Stand) → IsFollowedTo actor all at [] → is_paid at.standing ≡ true → Follows actor first_standing all at.entries
unfolding Follows
followed_all actor all at so paid = subst (λ (es : List Entry). Follows actor first_standing all es) (append-nil at.entries) (so.whole [] paid)

pub goes_on_none : (actor : Actor) (at : Stand) → GoesOn actor at at
goes_on_none actor at = record { followed = (λ all left so. so); risen = refl }

pub goes_on_more : (actor : Actor) (a b c : Stand) → GoesOn actor a b → GoesOn actor b c → GoesOn actor a c
goes_on_more actor a b c g h = record { followed = (λ all left so. h.followed all left (g.followed all left so)); risen = h.risen ∙ g.risen }

-- the log with its newest entry, and how it stands then
stands_newest : (actor : Actor) (all left : List Line) (old new : Logged) (e : Event) (entry : Entry) (after st : Standing) → IsNewest e old new entry → after ≡ st → IsFollowedTo actor all (stood (old.entries ++ entry ∷ []) st) left → IsFollowedTo actor all (stand new after) left
stands_newest actor all left old new e entry after st newest is so =
    subst (λ (es : List Entry). IsFollowedTo actor all (stood es after) left) (sym newest.entries)
    (subst (λ (s : Standing). IsFollowedTo actor all (stood (old.entries ++ entry ∷ []) s) left) (sym is) so)

-- an entry that opens no line was made, and its items are added up
pub goes_on_entry : (actor : Actor) (old new : Logged) (st after : Standing) (e : Event) (entry : Entry) → IsNewest e old new entry → IsLater actor e → after ≡ gone_on actor st entry → GoesOn actor (stand old st) (stand new after)
goes_on_entry actor old new st after e entry newest goes is =
    let later : IsLater actor entry.event = subst (IsLater actor) (sym newest.of) goes in
    record {
      followed = (λ all left so. stands_newest actor all left old new e entry after (gone_on actor st entry) newest is (past_more actor all left old.entries st entry later so));
      risen = (let none_risen = rise_none actor entry.event later in let more = risen_more old.entries entry in omega (arith, ap risen_by newest.entries, more, none_risen));
    }

pub opens_entry : (actor : Actor) (verb : Verb) (old new : Logged) (st after : Standing) (e : Event) (entry : Entry) → IsNewest e old new entry → is_paid st ≡ true → first_event actor verb ≡ Some e → after ≡ opened actor verb st entry.kept.items → rise_of e ≤ tick_of verb → OpensLine actor verb (stand old st) (stand new after)
opens_entry actor verb old new st after e entry newest paid first is rise =
    record {
      followed = (λ all left line verb_is so.
          let begins : first_event actor line.verb ≡ Some entry.event = ap (first_event actor) verb_is ∙ first ∙ ap Some (sym newest.of) in
          let so_far : after ≡ opened actor line.verb st entry.kept.items = is ∙ ap (λ (v : Verb). opened actor v st entry.kept.items) (sym verb_is) in
          stands_newest actor all left old new e entry after (opened actor line.verb st entry.kept.items) newest so_far (open_more actor all left line old.entries st entry paid begins so));
      risen = (let more = risen_more old.entries entry in omega (arith, ap risen_by newest.entries, more, ap rise_of newest.of, rise));
    }

pub plain_entry : (actor : Actor) (verb : Verb) (old new : Logged) (st after : Standing) (e : Event) (entry : Entry) → IsNewest e old new entry → is_paid st ≡ true → plain_event actor verb ≡ Some e → after ≡ gone_on actor st entry → rise_of e ≡ 0 → OpensLine actor verb (stand old st) (stand new after)
plain_entry actor verb old new st after e entry newest paid first is rise =
    record {
      followed = (λ all left line verb_is so.
          let begins : plain_event actor line.verb ≡ Some entry.event = ap (plain_event actor) verb_is ∙ first ∙ ap Some (sym newest.of) in
          stands_newest actor all left old new e entry after (gone_on actor st entry) newest is (plain_more actor all left line old.entries st entry paid begins so));
      risen = (let more = risen_more old.entries entry in omega (arith, ap risen_by newest.entries, more, ap rise_of newest.of, rise));
    }

-- ---- stops
-- what holds in any case holds where it stops
pub on_stop : {A E : Type 0} (r : Result A E) (P : Type 0) → P → OnErr r P
on_stop (Ok done) P so = tt
on_stop (Err why) P so = so

-- where the actor stops here, its log is of a front of the lines
pub stops_here : (actor : Actor) (at : Stand) → StopsOn actor at at.entries
stops_here actor at all left so = subst (λ (es : List Entry). FollowsFront actor first_standing all es) (append-nil at.entries) (so.front [] (front_none actor at.standing left))

pub stops_later : (actor : Actor) (a b : Stand) (entries : List Entry) → GoesOn actor a b → StopsOn actor b entries → StopsOn actor a entries
stops_later actor a b entries on stops all left so = stops all left (on.followed all left so)

-- where it stops in an event that goes on
pub stops_on : (actor : Actor) (old new : Logged) (st : Standing) (e : Event) → IsLater actor e → AddsOne e old new ⊎ SameLog old new → StopsOn actor (stand old st) new.entries
stops_on actor old new st e goes (inl adds) all left so =
    let later : IsLater actor adds.added.event = subst (IsLater actor) (sym adds.of) goes in
    subst (λ (es : List Entry). FollowsFront actor first_standing all es) (sym adds.entries)
    (stops_here actor (stood (old.entries ++ adds.added ∷ []) (gone_on actor st adds.added)) all left (past_more actor all left old.entries st adds.added later so))
stops_on actor old new st e goes (inr same) all left so = subst (λ (es : List Entry). FollowsFront actor first_standing all es) (sym same.entries) (stops_here actor (stand old st) all left so)

-- where it stops before the event that opens a line, in it, and behind it
pub stops_before : (actor : Actor) (verb : Verb) (at : Stand) → StopsOpening actor verb at at.entries
stops_before actor verb at all left line is so = stops_here actor at all (line ∷ left) so

pub stops_opening : (actor : Actor) (verb : Verb) (old new : Logged) (st : Standing) (e : Event) → is_paid st ≡ true → first_event actor verb ≡ Some e → AddsOne e old new ⊎ SameLog old new → StopsOpening actor verb (stand old st) new.entries
stops_opening actor verb old new st e paid first (inl adds) all left line is so =
    let begins : first_event actor line.verb ≡ Some adds.added.event = ap (first_event actor) is ∙ first ∙ ap Some (sym adds.of) in
    subst (λ (es : List Entry). FollowsFront actor first_standing all es) (sym adds.entries)
    (stops_here actor (stood (old.entries ++ adds.added ∷ []) (opened actor line.verb st adds.added.kept.items)) all left (open_more actor all left line old.entries st adds.added paid begins so))
stops_opening actor verb old new st e paid first (inr same) all left line is so = subst (λ (es : List Entry). FollowsFront actor first_standing all es) (sym same.entries) (stops_here actor (stand old st) all (line ∷ left) so)

pub stops_plain : (actor : Actor) (verb : Verb) (old new : Logged) (st : Standing) (e : Event) → is_paid st ≡ true → plain_event actor verb ≡ Some e → AddsOne e old new ⊎ SameLog old new → StopsOpening actor verb (stand old st) new.entries
stops_plain actor verb old new st e paid first (inl adds) all left line is so =
    let begins : plain_event actor line.verb ≡ Some adds.added.event = ap (plain_event actor) is ∙ first ∙ ap Some (sym adds.of) in
    subst (λ (es : List Entry). FollowsFront actor first_standing all es) (sym adds.entries)
    (stops_here actor (stood (old.entries ++ adds.added ∷ []) (gone_on actor st adds.added)) all left (plain_more actor all left line old.entries st adds.added paid begins so))
stops_plain actor verb old new st e paid first (inr same) all left line is so = subst (λ (es : List Entry). FollowsFront actor first_standing all es) (sym same.entries) (stops_here actor (stand old st) all (line ∷ left) so)

pub stops_opened : (actor : Actor) (verb : Verb) (a b : Stand) (entries : List Entry) → OpensLine actor verb a b → StopsOn actor b entries → StopsOpening actor verb a entries
stops_opened actor verb a b entries opens stops all left line is so = stops all left (opens.followed all left line is so)

-- ---- lines
pub ticks_within : (v : Verb) → RisesInBounds v → TicksWithin (2 ^ 62) v
ticks_within (verb.Tick by) h = (let low : by ≤ 4611686018427387904 = omega (arith, h.1) in low)
ticks_within _ h = tt

own_left : (actor : Actor) (all left : List Line) (line : Line) (at : Stand) → is_own actor line ≡ true → IsFollowedTo actor all at (filter (is_own actor) (line ∷ left)) → IsFollowedTo actor all at (line ∷ filter (is_own actor) left)
own_left actor all left line at own so = subst (λ (mine : Bool). IsFollowedTo actor all at (cond mine (line ∷ filter (is_own actor) left) (filter (is_own actor) left))) own so

pub plays_opening : (actor : Actor) (line : Line) (old mid new : Stand) → is_own actor line ≡ true → OpensLine actor line.verb old mid → GoesOn actor mid new → is_paid new.standing ≡ true → PlaysLine actor line old new
plays_opening actor line old mid new own opens on paid = record {
  followed = (λ all left so. on.followed all (filter (is_own actor) left) (opens.followed all (filter (is_own actor) left) line refl (own_left actor all left line old own so)));
  paid = paid;
  risen = omega (arith, on.risen, opens.risen);
}

pub stops_in_opening : (actor : Actor) (line : Line) (old : Stand) (entries : List Entry) → is_own actor line ≡ true → StopsOpening actor line.verb old entries → StopsIn actor line old entries
stops_in_opening actor line old entries own stops all left so =
    stops all (filter (is_own actor) left) line refl (own_left actor all left line old own so)

pub stops_in : (actor : Actor) (line : Line) (old : Stand) (entries : List Entry) → StopsOn actor old entries → StopsIn actor line old entries
stops_in actor line old entries stops all left so = stops all (filter (is_own actor) (line ∷ left)) so

-- a line whose form tells no first event, in which the actor goes on
pub plays_over : (actor : Actor) (line : Line) (old new : Stand) → is_own actor line ≡ true → TellsNoFirst actor line.verb → GoesOn actor old new → is_paid new.standing ≡ true → PlaysLine actor line old new
plays_over actor line old new own tells on paid = record {
  followed = (λ all left so. on.followed all (filter (is_own actor) left) (over_more actor all (filter (is_own actor) left) line old tells (own_left actor all left line old own so)));
  paid = paid;
  risen = omega (arith, on.risen);
}

pub stops_over : (actor : Actor) (line : Line) (old : Stand) (entries : List Entry) → is_own actor line ≡ true → TellsNoFirst actor line.verb → StopsOn actor old entries → StopsIn actor line old entries
stops_over actor line old entries own tells stops all left so = stops all (filter (is_own actor) left) (over_more actor all (filter (is_own actor) left) line old tells (own_left actor all left line old own so))

-- another actor's line is passed over
pub plays_other : (actor : Actor) (line : Line) (at : Stand) → is_own actor line ≡ false → is_paid at.standing ≡ true → PlaysLine actor line at at
plays_other actor line at other paid = record {
  followed = (λ all left so. subst (λ (mine : Bool). IsFollowedTo actor all at (cond mine (line ∷ filter (is_own actor) left) (filter (is_own actor) left))) other so);
  paid = paid;
  risen = omega arith;
}

-- ---- all lines
-- the lines before this place are carried out
pub record StandsAt (actor : Actor) (lines : List Line) (i : ℕ) (at : Stand) : Type 0 where
  pub followed : IsFollowedTo actor (filter (is_own actor) lines) at (filter (is_own actor) (drop i lines))
  pub paid : is_paid at.standing ≡ true
  pub risen : risen_by at.entries ≤ 1000000 * i

pub stands_first : (actor : Actor) (lines : List Line) (at : Stand) → at.entries ≡ [] → at.standing ≡ first_standing → StandsAt actor lines 0 at
stands_first actor lines at none first = record {
  followed = followed_first actor (filter (is_own actor) lines) at none first;
  paid = ap is_paid first;
  risen = (let nothing : risen_by at.entries ≡ 0 = ap risen_by none in omega (arith, nothing));
}

pub stands_more : (actor : Actor) (lines : List Line) (i : ℕ) (line : Line) (old new : Stand) → drop i lines ≡ line ∷ drop (i + 1) lines → tick_of line.verb ≤ 1000000 → StandsAt actor lines i old → PlaysLine actor line old new → StandsAt actor lines (i + 1) new
stands_more actor lines i line old new here tick at plays = record {
  followed = plays.followed (filter (is_own actor) lines) (drop (i + 1) lines) (subst (λ (left : List Line). IsFollowedTo actor (filter (is_own actor) lines) old (filter (is_own actor) left)) here at.followed);
  paid = plays.paid;
  risen = omega (arith, at.risen, plays.risen, tick);
}

pub stands_all : (actor : Actor) (lines : List Line) (i : ℕ) (at : Stand) → drop i lines ≡ [] → StandsAt actor lines i at → FollowsLines lines actor at.entries
stands_all actor lines i at none stands = followed_all actor (filter (is_own actor) lines) at (subst (λ (left : List Line). IsFollowedTo actor (filter (is_own actor) lines) at (filter (is_own actor) left)) none stands.followed) stands.paid

-- where the actor stops in a line, and at the end, the log is of a front of the lines
pub front_stopped : (actor : Actor) (lines : List Line) (i : ℕ) (line : Line) (old : Stand) (entries : List Entry) → drop i lines ≡ line ∷ drop (i + 1) lines → StandsAt actor lines i old → StopsIn actor line old entries → FollowsSome lines actor entries
front_stopped actor lines i line old entries here at stops =
    stops (filter (is_own actor) lines) (drop (i + 1) lines) (subst (λ (left : List Line). IsFollowedTo actor (filter (is_own actor) lines) old (filter (is_own actor) left)) here at.followed)

pub front_at : (actor : Actor) (lines : List Line) (i : ℕ) (at : Stand) → StandsAt actor lines i at → FollowsSome lines actor at.entries
front_at actor lines i at stands = stops_here actor at (filter (is_own actor) lines) (filter (is_own actor) (drop i lines)) stands.followed

pub nothing_left : (lines : List Line) (i : ℕ) → length lines ≤ i → drop i lines ≡ []
nothing_left lines i past = drop_of_length-le lines past
