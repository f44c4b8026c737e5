-- The log of an actor, which follows all lines of the actor, follows those that have an opening item.
use Rattle.log_refinement.proofs.Names.{◌≡◌, ◌⊎◌, Bool, true, false, cond, ◌&&◌, List, [], ◌∷◌, Option, Some, None, inl}
use Rattle.log_refinement.proofs.Names.{inr, refl, sym, ◌∙◌, ap, subst, filter, is_some, AllZip, none-some, Actor}
use Rattle.log_refinement.proofs.Names.{Clock, Node, Session, Janitor, Line, Verb, ScriptData, has_opening, is_of}
use Rattle.log_refinement.proofs.Names.{actor_same, Event, Entry, Logged, FollowsLines, opener, first_event}
use Rattle.log_refinement.proofs.Names.{plain_event, IsLater, Follows, is_own, AllFollow, Standing, first_standing}
use Rattle.log_refinement.proofs.Names.{gone_on, opened, is_paid}
use Rattle.script_data.specs.declared.line.Verb.TheVariants as verb
use Rattle.split_parts.specs.declared.event.Event.TheVariants as event

-- ---- the walk over lines that have an opening item
-- the entries open these lines one after the other, and those between append no item that opens one
unfoldable pub FollowsOpened : Actor → Standing → List Line → List Entry → Type 0
FollowsOpened actor st lines [] = (lines ≡ []) × (is_paid st ≡ true)
FollowsOpened actor st [] (e ∷ es) = (opener e.event ≡ None) × FollowsOpened actor (gone_on actor st e) [] es
FollowsOpened actor st (line ∷ lines) (e ∷ es) =
    ((opener e.event ≡ None) × FollowsOpened actor (gone_on actor st e) (line ∷ lines) es)
    ⊎ ((is_paid st ≡ true) × (first_event actor line.verb ≡ Some e.event) × FollowsOpened actor (opened actor line.verb st e.kept.items) lines es)

abbrev pub OpenedLines : List Line → Actor → List Entry → Type 0
OpenedLines lines actor entries = FollowsOpened actor first_standing (filter (is_of actor) lines) entries

-- the log follows them, and all lines of the actor
pub record LogOf (lines : List Line) (actor : Actor) (es : List Entry) : Type 0 where
  pub opened : OpenedLines lines actor es
  pub whole : FollowsLines lines actor es

abbrev pub AllOpened : ScriptData → List Actor → List Logged → Type 0
AllOpened script actors logs = AllZip (λ actor log. LogOf script.lines actor log.entries) actors logs

-- ---- forms
later_none : (actor : Actor) (e : Event) → IsLater actor e → opener e ≡ None
later_none (Session s) (event.Extend node) later = refl
later_none (Session s) (event.Accept node session) later = refl
later_none (Session s) (event.Decide node session) later = refl
later_none (Session s) (event.Put node session) later = refl
later_none (Session s) (event.Answer node session) later = refl
later_none (Session s) (event.Step session) later = refl
later_none Janitor event.SweepStep later = refl
later_none actor e later = absurd later

-- a form has an opening item where its first event is known by it
opens_first : (actor : Actor) (v : Verb) → has_opening actor v ≡ is_some (first_event actor v)
opens_first (Session s) (verb.Begin to) = refl
opens_first (Session s) (verb.Commit to) = refl
opens_first (Session s) (verb.Submit to) = refl
opens_first Clock (verb.Tick by) = refl
opens_first (Node n) verb.Take = refl
opens_first Janitor (verb.Post name) = refl
opens_first actor v = refl

-- the first event of any other form opens no line by an item
abbrev IsPlain : Actor → Verb → Option Event → Type 0
IsPlain actor v None = Unit {0}
IsPlain actor v (Some e) = (first_event actor v ≡ None) × (opener e ≡ None)

plain_is : (actor : Actor) (v : Verb) → IsPlain actor v (plain_event actor v)
plain_is (Session s) verb.Abort = (refl, refl)
plain_is (Session s) verb.Heal = (refl, refl)
plain_is (Session s) verb.Step = (refl, refl)
plain_is (Session s) verb.Finish = (refl, refl)
plain_is (Node n) verb.Extend = (refl, refl)
plain_is (Node n) (verb.Accept session) = (refl, refl)
plain_is (Node n) (verb.Decide session) = (refl, refl)
plain_is (Node n) (verb.Put session) = (refl, refl)
plain_is (Node n) (verb.Answer session) = (refl, refl)
plain_is Janitor (verb.Sweep node txn) = (refl, refl)
plain_is Janitor (verb.OpenSweep node txn) = (refl, refl)
plain_is Janitor verb.Step = (refl, refl)
plain_is Janitor verb.Finish = (refl, refl)
plain_is actor v = tt

pub plain_by : (actor : Actor) (v : Verb) (e : Event) → plain_event actor v ≡ Some e → (first_event actor v ≡ None) × (opener e ≡ None)
plain_by actor v e is = subst (IsPlain actor v) is (plain_is actor v)

-- a form has one first event
one_of : (actor : Actor) (v : Verb) (e : Event) (plain : Option Event) → IsPlain actor v plain → first_event actor v ≡ Some e → plain ≡ None
one_of actor v e None is first = refl
one_of actor v e (Some other) is first = absurd (none-some e (sym is.0 ∙ first))

pub first_alone : (actor : Actor) (v : Verb) (e : Event) → first_event actor v ≡ Some e → plain_event actor v ≡ None
first_alone actor v e first = one_of actor v e (plain_event actor v) (plain_is actor v) first

-- ---- one line more
with_item : (actor : Actor) (P : List Line → Type 0) (line : Line) (lines : List Line) → (e : Event) → first_event actor line.verb ≡ Some e → P (line ∷ filter (λ l. has_opening actor l.verb) lines) → P (filter (λ l. has_opening actor l.verb) (line ∷ lines))
with_item actor P line lines e first so =
    let rest : List Line = filter (λ l. has_opening actor l.verb) lines in
    let has : has_opening actor line.verb ≡ true = opens_first actor line.verb ∙ ap is_some first in
    subst (λ (b : Bool). P (cond b (line ∷ rest) rest)) (sym has) so

without_item : (actor : Actor) (P : List Line → Type 0) (line : Line) (lines : List Line) → first_event actor line.verb ≡ None → P (filter (λ l. has_opening actor l.verb) lines) → P (filter (λ l. has_opening actor l.verb) (line ∷ lines))
without_item actor P line lines none so =
    let rest : List Line = filter (λ l. has_opening actor l.verb) lines in
    let lacks : has_opening actor line.verb ≡ false = opens_first actor line.verb ∙ ap is_some none in
    subst (λ (b : Bool). P (cond b (line ∷ rest) rest)) (sym lacks) so

-- ---- the walk
opened_past : (actor : Actor) (st : Standing) (lines : List Line) (e : Entry) (es : List Entry) → opener e.event ≡ None → FollowsOpened actor (gone_on actor st e) lines es → FollowsOpened actor st lines (e ∷ es)
unfolding FollowsOpened
opened_past actor st [] e es none walks = (none, walks)
opened_past actor st (line ∷ lines) e es none walks = inl (none, walks)

follows_opened : (actor : Actor) (st : Standing) (lines : List Line) (es : List Entry) → Follows actor st lines es → FollowsOpened actor st (filter (λ l. has_opening actor l.verb) lines) es
unfolding Follows FollowsOpened
follows_opened actor st [] [] follows = (refl, follows)
follows_opened actor st (line ∷ lines) [] follows = without_item actor (λ (ls : List Line). FollowsOpened actor st ls []) line lines follows.0.0 (follows_opened actor st lines [] follows.1)
follows_opened actor st [] (e ∷ es) follows = (later_none actor e.event follows.0, follows_opened actor (gone_on actor st e) [] es follows.1)
follows_opened actor st (line ∷ lines) (e ∷ es) (inl on) =
    opened_past actor st (filter (λ l. has_opening actor l.verb) (line ∷ lines)) e es (later_none actor e.event on.0) (follows_opened actor (gone_on actor st e) (line ∷ lines) es on.1)
follows_opened actor st (line ∷ lines) (e ∷ es) (inr (inl k)) =
    with_item actor (λ (ls : List Line). FollowsOpened actor st ls (e ∷ es)) line lines e.event k.1 (inr (k.0, k.1, follows_opened actor (opened actor line.verb st e.kept.items) lines es k.2))
follows_opened actor st (line ∷ lines) (e ∷ es) (inr (inr (inl k))) =
    let plain = plain_by actor line.verb e.event k.1 in
    let rest : List Line = filter (λ l. has_opening actor l.verb) lines in
    without_item actor (λ (ls : List Line). FollowsOpened actor st ls (e ∷ es)) line lines plain.0 (opened_past actor st rest e es plain.1 (follows_opened actor (gone_on actor st e) lines es k.2))
follows_opened actor st (line ∷ lines) (e ∷ es) (inr (inr (inr k))) =
    without_item actor (λ (ls : List Line). FollowsOpened actor st ls (e ∷ es)) line lines k.0.0 (follows_opened actor st lines (e ∷ es) k.1)

-- ---- the lines of an actor
-- those of them that have an opening item
own_by : (actor : Actor) (line : Line) (lines : List Line) (own : Bool) → is_own actor line ≡ own → filter (is_of actor) lines ≡ filter (λ l. has_opening actor l.verb) (filter (is_own actor) lines) → filter (is_of actor) (line ∷ lines) ≡ filter (λ l. has_opening actor l.verb) (cond own (line ∷ filter (is_own actor) lines) (filter (is_own actor) lines))
own_by actor line lines false is rest = ap (λ (b : Bool). cond (b && has_opening line.actor line.verb) (line ∷ filter (is_of actor) lines) (filter (is_of actor) lines)) is ∙ rest
own_by actor line lines true is rest =
    let item : is_of actor line ≡ has_opening actor line.verb = ap (λ (b : Bool). b && has_opening line.actor line.verb) is ∙ ap (λ (a : Actor). has_opening a line.verb) (actor_same line.actor actor is) in
    ap (λ (b : Bool). cond b (line ∷ filter (is_of actor) lines) (filter (is_of actor) lines)) item
    ∙ ap (λ (ls : List Line). cond (has_opening actor line.verb) (line ∷ ls) ls) rest

own_opened : (actor : Actor) (lines : List Line) → filter (is_of actor) lines ≡ filter (λ l. has_opening actor l.verb) (filter (is_own actor) lines)
own_opened actor [] = refl
own_opened actor (line ∷ lines) = own_by actor line lines (is_own actor line) refl (own_opened actor lines)

opened_lines : (lines : List Line) (actor : Actor) (es : List Entry) → Follows actor first_standing (filter (is_own actor) lines) es → OpenedLines lines actor es
opened_lines lines actor es follows =
    subst (λ (ls : List Line). FollowsOpened actor first_standing ls es) (sym (own_opened actor lines)) (follows_opened actor first_standing (filter (is_own actor) lines) es follows)

-- ---- the logs of all
pub all_opened : (script : ScriptData) (actors : List Actor) (logs : List Logged) → AllFollow script actors logs → AllOpened script actors logs
all_opened script [] [] follow = tt
all_opened script [] (log ∷ logs) follow = absurd follow
all_opened script (actor ∷ actors) [] follow = absurd follow
all_opened script (actor ∷ actors) (log ∷ logs) follow = (record { opened = opened_lines script.lines actor log.entries follow.0; whole = follow.0 }, all_opened script actors logs follow.1)
