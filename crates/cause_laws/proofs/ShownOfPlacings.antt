-- What a session is told of the placing of its own commit is shown.
use Rattle.cause_laws.proofs.Names.{◌≡◌, ℕ, Bool, true, false, List, [], ◌∷◌, ◌++◌, Option, Some, ◌⊎◌, inl, inr, refl}
use Rattle.cause_laws.proofs.Names.{sym, ◌∙◌, ap, subst, option_or, All-cons, Table, ◌∈◌, Cause, Actor, Session}
use Rattle.cause_laws.proofs.Names.{PutFound, Item, in_front, in_back, in_last, State, Ask, its_node, its_start}
use Rattle.cause_laws.proofs.Names.{its_draw, since_draw, node_asked, start_asked, start_drawn, placer, ShownInvalid}
use Rattle.cause_laws.proofs.Names.{ShownOpen, ShownToSession, ShownCause, is_placing, ReachedInvariant, AskedToPlace}
use Rattle.cause_laws.proofs.Names.{ShownInvariant, Places, MetMark, FailedToPlace, HowPlaced, DuePlacing}
use Rattle.history_book.specs.declared.cause.Cause.TheVariants as cause
use Rattle.history_book.specs.declared.item.Item.TheVariants as item
use Rattle.cause_laws.proofs.AskWords.{AllMute, Mute, mute_always, its_node-mute, its_start-mute, its_draw-mute, since_draw-mute}
use Rattle.cause_laws.proofs.NodeTransitionsMute.{always_mute}

-- ---- what was told before it says nothing of requests
met_mute : (w : State) (s start : ℕ) (told : List Item) → MetMark w s start told → AllMute s told
met_mute w s start told met = subst (AllMute s) (sym met.told_is) (always_mute s (item.Step (Session s) (PutFound start)) refl)

kept_mute : (s start commit : ℕ) (kept : List Item) → (kept ≡ []) ⊎ (kept ≡ item.Placed start commit ∷ []) → AllMute s (kept ++ item.Fault (Session s) Table ∷ [])
kept_mute s start commit kept is =
    let fault : AllMute s (item.Fault (Session s) Table ∷ []) = always_mute s (item.Fault (Session s) Table) refl in
    elim is [
      | inl none ↦ subst (λ (items : List Item). AllMute s (items ++ item.Fault (Session s) Table ∷ [])) (sym none) fault
      | inr placed ↦ subst (λ (items : List Item). AllMute s (items ++ item.Fault (Session s) Table ∷ [])) (sym placed)
          (All-cons (Mute s) (item.Placed start commit) (item.Fault (Session s) Table ∷ []) (mute_always s (item.Placed start commit) refl) fault)
    ]

failed_mute : (s start commit : ℕ) (told : List Item) → FailedToPlace s start commit told → AllMute s told
failed_mute s start commit told failed = subst (AllMute s) (sym failed.told_is) (kept_mute s start commit failed.kept failed.kept_is)

-- ---- its ask
node_asked_of : (h told : List Item) (s start commit : ℕ) → AllMute s told → (asked : AskedToPlace h s start commit) → its_node (h ++ told) s ≡ Some asked.node
node_asked_of h told s start commit mute asked = its_node-mute h told s mute ∙ ap node_asked asked.asked

start_asked_of : (h told : List Item) (s start commit : ℕ) → AllMute s told → AskedToPlace h s start commit → its_start (h ++ told) s ≡ Some start
start_asked_of h told s start commit mute asked = its_start-mute h told s mute ∙ ap (λ (ask : Option Ask). option_or (start_asked ask) (start_drawn (its_draw h s))) asked.asked

-- ---- a mark that was met
mark_shown : (w : State) (h told : List Item) (s start commit : ℕ) → ShownInvariant w h → AskedToPlace h s start commit → MetMark w s start told → ShownInvalid (h ++ told) s start
mark_shown w h told s start commit shows asked met =
    let mute : AllMute s told = met_mute w s start told met in
    let mark = shows.marked.marked start met.marked in
    record {
      node = asked.node;
      node_is = node_asked_of h told s start commit mute asked;
      start_is = start_asked_of h told s start commit mute asked;
      actor = mark.0;
      marked = in_front (item.Mark mark.0 start) h told mark.1;
    }

-- ---- a call that failed, which is one of the session: commits are direct, since it places its own
form_is : (w : State) (h : List Item) (s start commit : ℕ) → ReachedInvariant w h → Places w s start commit → (direct : Bool) → w.setup.direct ≡ direct → direct ≡ true
form_is w h s start commit stands places true is = refl
form_is w h s start commit stands places false is = absurd (stands.holds.requests.form.plain is s places.client places.at (ap is_placing places.placing))

fault_since : (h told : List Item) (s start commit : ℕ) → AllMute s told → FailedToPlace s start commit told → item.Fault (Session s) Table ∈ since_draw (h ++ told) s
fault_since h told s start commit mute failed =
    let fault : Item = item.Fault (Session s) Table in
    subst (λ (part : List Item). fault ∈ part) (sym (since_draw-mute h told s mute))
    (in_back fault (since_draw h s) told (subst (λ (items : List Item). fault ∈ items) (sym failed.told_is) (in_last fault failed.kept)))

fault_shown : (w : State) (h told : List Item) (s start commit : ℕ) → w.setup.direct ≡ true → AskedToPlace h s start commit → FailedToPlace s start commit told → ShownOpen w.setup (h ++ told) s start
fault_shown w h told s start commit direct asked failed =
    let mute : AllMute s told = failed_mute s start commit told failed in
    let fault = subst (λ (form : Bool). item.Fault (placer form asked.node s) Table ∈ since_draw (h ++ told) s) (sym direct) (fault_since h told s start commit mute failed) in
    record {
      start_is = start_asked_of h told s start commit mute asked;
      node = asked.node;
      node_is = node_asked_of h told s start commit mute asked;
      lost = inl (commit, its_draw-mute h told s mute ∙ asked.drawn, fault);
    }

-- ---- either way
told_shown : (w : State) (h told : List Item) (s start commit : ℕ) (why : Cause) → ReachedInvariant w h → ShownInvariant w h → Places w s start commit → AskedToPlace h s start commit → HowPlaced w s start commit told why → ShownToSession w.setup (h ++ told) s why
told_shown w h told s start commit (cause.Invalid t) stands shows places asked how = subst (λ (u : ℕ). ShownInvalid (h ++ told) s u) (sym how.0) (mark_shown w h told s start commit shows asked how.1)
told_shown w h told s start commit (cause.Open t) stands shows places asked how =
    subst (λ (u : ℕ). ShownOpen w.setup (h ++ told) s u) (sym how.0) (fault_shown w h told s start commit (form_is w h s start commit stands places w.setup.direct refl) asked how.1)
told_shown w h told s start commit _ stands shows places asked how = absurd how

pub placing_shown : (w : State) (h told : List Item) (actor : Actor) (why : Cause) → ReachedInvariant w h → ShownInvariant w h → DuePlacing w told actor why → ShownCause w.setup (h ++ told) actor why
placing_shown w h told actor why stands shows due =
    let it : Places w due.session due.start due.commit = due.places in
    let asked = shows.placing.each due.session due.start due.commit it.client it.at it.placing it.start_is it.commit_is in
    subst (λ (who : Actor). ShownCause w.setup (h ++ told) who why) (sym due.actor_is) (told_shown w h told due.session due.start due.commit why stands shows it asked due.how)
