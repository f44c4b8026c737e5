-- What a session is told behind the crash of its node is shown by the crash.
use Rattle.cause_laws.proofs.Names.{ℕ, List, ◌∷◌, ◌++◌, inl, inr, refl, sym, ◌∙◌, subst, ◌∈◌, Cause, Actor, Session}
use Rattle.cause_laws.proofs.Names.{Item, Crash, in_back, Progress, Request, Begin, Commit, InstanceEntry, State}
use Rattle.cause_laws.proofs.Names.{since_ask, ShownCause, ShownInvariant, Serves, DueLoss, cause_of_loss}
use Rattle.cause_laws.proofs.AskWords.{AllMute, its_node-mute, its_start-mute, since_ask-mute, crash_mute}
use Rattle.cause_laws.proofs.ShownOfRequests.{node_of, start_of}

-- the crash stands since the ask
crash_since : (h earlier : List Item) (s node term : ℕ) → AllMute s (Crash node term ∷ earlier) → Crash node term ∈ since_ask (h ++ Crash node term ∷ earlier) s
unfolding ◌∈◌
crash_since h earlier s node term mute =
    subst (λ part. Crash node term ∈ part) (sym (since_ask-mute h (Crash node term ∷ earlier) s mute)) (in_back (Crash node term) (since_ask h s) (Crash node term ∷ earlier) (inl refl))

by_request : (w : State) (h earlier : List Item) (s : ℕ) (i : InstanceEntry) (request : Request) (p : Progress) → ShownInvariant w h → (serves : Serves w s i request p) → AllMute s (Crash serves.node i.term ∷ earlier) → ShownCause w.setup (h ++ Crash serves.node i.term ∷ earlier) (Session s) (cause_of_loss serves.node i.term request)
by_request w h earlier s i (Begin asker) p shows serves mute =
    let told : List Item = Crash serves.node i.term ∷ earlier in
    record { node_is = its_node-mute h told s mute ∙ node_of w h s i (Begin asker) p shows serves; crashed = crash_since h earlier s serves.node i.term mute }
by_request w h earlier s i (Commit asker start keys) p shows serves mute =
    let told : List Item = Crash serves.node i.term ∷ earlier in
    record {
      start_is = its_start-mute h told s mute ∙ start_of w h s asker start keys i p shows serves;
      node = serves.node;
      node_is = its_node-mute h told s mute ∙ node_of w h s i (Commit asker start keys) p shows serves;
      lost = inr (i.term, crash_since h earlier s serves.node i.term mute);
    }

pub loss_shown : (w : State) (h told : List Item) (actor : Actor) (why : Cause) → ShownInvariant w h → DueLoss w told actor why → ShownCause w.setup (h ++ told) actor why
loss_shown w h told actor why shows due =
    let node : ℕ = due.serves.node in
    let mute : AllMute due.session (Crash node due.i.term ∷ due.earlier) = crash_mute due.session node due.i.term due.earlier due.refusals in
    let shown : ShownCause w.setup (h ++ Crash node due.i.term ∷ due.earlier) (Session due.session) (cause_of_loss node due.i.term due.request) = by_request w h due.earlier due.session due.i due.request due.p shows due.serves mute in
    subst (λ items. ShownCause w.setup (h ++ items) actor why) (sym due.told_is)
    (subst (λ who. ShownCause w.setup (h ++ Crash node due.i.term ∷ due.earlier) who why) (sym due.actor_is)
    (subst (λ c. ShownCause w.setup (h ++ Crash node due.i.term ∷ due.earlier) (Session due.session) c) (sym due.why_is) shown))
