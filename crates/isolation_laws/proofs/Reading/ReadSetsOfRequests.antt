-- Read sets where a session asks for a start or a commit, and where a begin is answered.
use Rattle.isolation_laws.proofs.Requests.ClientMoves.{at_work_after, reading_after}
use Rattle.isolation_laws.proofs.Names.{OfAskedBegin, OfAskedCommit, ◌≡◌, ℕ, false, List, [], ◌∷◌, ◌++◌, inl, inr, refl}
use Rattle.isolation_laws.proofs.Names.{sym, ◌∙◌, ap, subst, Item, AskBegin, Begin, Progress, BeginRequest, Commit}
use Rattle.isolation_laws.proofs.Names.{InstanceEntry, held_of, without_request, just_asked, Client, State}
use Rattle.isolation_laws.proofs.Names.{client_begun, unless_gone, InstanceAt, HeldBy, ClientAt, OpenAt, epoch_or_none}
use Rattle.isolation_laws.proofs.Names.{ReadFirst, KeepsReads, AreReadSets, IsolationInvariant, client_set, held_by}
use Rattle.isolation_laws.proofs.Names.{one_client, one_instance, one_held, AskedBegin, asked_begin_state, AskedCommit}
use Rattle.isolation_laws.proofs.Names.{asked_commit_state, AnsweredBegin, answered_begin_state, answered_begin_items}
use Rattle.system_parts.specs.declared.session.State.TheVariants as phase
use Rattle.isolation_laws.proofs.Requests.ClientsOpen.{gone_cases}
use Rattle.isolation_laws.proofs.Requests.OpenAfter.{open_answered_begin}
use Rattle.isolation_laws.proofs.Requests.RequestsAfter.{held_changed, held_over, new_held, none_held, open_waits}
use Rattle.isolation_laws.proofs.Requests.RequestsOfBegins.{start_unbegun}
use Rattle.isolation_laws.proofs.Reading.ClientsReading.{reading_answered_begin}
use Rattle.isolation_laws.proofs.Reading.ReadsStay.{NoReads, quiet_no_reads, one_no_reads}
use Rattle.isolation_laws.proofs.Reading.FirstReads.{first_no_reads, read_of}
use Rattle.isolation_laws.proofs.Reading.KeptReads.{SameReads, reads_keep}
use Rattle.isolation_laws.proofs.Reading.ReadSetsStay.{ReadsNoMore, keeps_as, FewerCommits, plain_stays, opened_stays, asked_stays, under_way_stays, read_sets_stay}

pub none_more : (h items : List Item) → NoReads items → ReadsNoMore h (h ++ items)
none_more h items none t k read = first_no_reads h items t k none read

-- ---- asks
begin_no_commit : (s r t : ℕ) (keys : List ℕ) → Commit r t keys ≡ BeginRequest s → ⊥
begin_no_commit s r t keys same = cc

commits_asked_begin : (w : State) (k : AskedBegin w) → FewerCommits w.nodes (asked_begin_state w k).nodes
commits_asked_begin w k n s t keys p j at held = elim ((new_held w.nodes k.session k.node k.i (just_asked (BeginRequest k.session)) k.at).each n s j (Commit s t keys) p at held) [
  | inl now ↦ absurd (begin_no_commit k.session s t keys now.2)
  | inr was ↦ (was.0, p, was.1, was.2)
]

pub sets_asked_begin : (w : State) (h : List Item) (k : AskedBegin w) → IsolationInvariant w h → AreReadSets w.setup (asked_begin_state w k).clients (asked_begin_state w k).nodes (h ++ AskBegin k.session k.node ∷ [])
sets_asked_begin w h k holds = read_sets_stay w h (AskBegin k.session k.node ∷ []) _ _ (reads_keep w (OfAskedBegin k) refl) (at_work_after w (OfAskedBegin k) refl).opened (reading_after w (OfAskedBegin k) refl) (commits_asked_begin w k)
    (none_more h _ (one_no_reads (AskBegin k.session k.node) (λ s b key answer is. cc))) holds

commit_parts : (s t r u : ℕ) (keys others : List ℕ) → Commit s t keys ≡ Commit r u others → t ≡ u
commit_parts s t r u keys others same = cc

asker_is : (w : State) (k : AskedCommit w) (s : ℕ) (d : Client) → s ≡ k.session → ClientAt w.clients s d → d ≡ k.c
asker_is w k s d mine at = one_client w.clients k.session d k.c (subst (λ q. ClientAt w.clients q d) mine at) k.client_at

-- the client of a commit that is asked for keeps what its open transaction read
pub sets_asked_commit : (w : State) (h : List Item) (k : AskedCommit w) → IsolationInvariant w h → AreReadSets w.setup (asked_commit_state w k).clients (asked_commit_state w k).nodes (h ++ k.items)
sets_asked_commit w h k holds =
    let same : SameReads w.clients (asked_commit_state w k).clients = reads_keep w (OfAskedCommit k) refl in
    let none : ReadsNoMore h (h ++ k.items) = none_more h k.items (quiet_no_reads k.items k.quiet) in
    let o : OpenAt w.clients k.session k.start (epoch_or_none k.c.entry.epoch) = record { client = k.c; at = k.client_at; state_is = k.is_open; start_is = k.start_is; epoch_is = refl } in
    record {
      plain = plain_stays w h _ same holds;
      opened = opened_stays w h (h ++ k.items) _ same (at_work_after w (OfAskedCommit k) refl).opened none holds;
      asked = λ strict n s t keys p i c at held client. elim ((new_held w.nodes k.session k.node k.i (just_asked (Commit k.session k.start k.c.entry.keys)) k.at).each n s i (Commit s t keys) p at held) [
        | inl now ↦
            let start : t ≡ k.start = commit_parts s t k.session k.start keys k.c.entry.keys now.2 in
            let was = same s c client in
            let is : was.0 ≡ k.c = asker_is w k s was.0 now.0 was.1 in
            subst (λ u. KeepsReads (h ++ k.items) u c) (sym start) (keeps_as h (h ++ k.items) k.start c k.c none (was.2 ∙ ap (λ (x : Client). x.reads) is) (holds.reads.read_sets.opened strict k.session k.start (epoch_or_none k.c.entry.epoch) o))
        | inr was ↦ asked_stays w h (h ++ k.items) _ n s t keys p was.0 c same none holds strict was.1 was.2 client
      ];
      under_way = under_way_stays w h k.items _ (reading_after w (OfAskedCommit k) refl) holds;
    }

-- ---- a begin that is answered: the new transaction has read nothing, and its client keeps nothing
begun_read_none : (w : State) (h : List Item) (k : AnsweredBegin w) (key : ℕ) → IsolationInvariant w h → ReadFirst h k.start key → ⊥
begun_read_none w h k key holds read =
    let was = read_of h k.start key read in
    let begun = holds.numbers.begun.reads was.0 k.start key was.1 was.2 in
    start_unbegun w h k begun.0 holds begun.1

begun_plain : (w : State) (h : List Item) (k : AnsweredBegin w) → IsolationInvariant w h → w.setup.strict ≡ false → (unless_gone k.c (client_begun k.c k.start k.i.epoch)).reads ≡ []
begun_plain w h k holds flag = elim (gone_cases k.c (client_begun k.c k.start k.i.epoch)) [
  | inl stays ↦ ap (λ (x : Client). x.reads) stays.0 ∙ holds.reads.read_sets.plain flag k.session k.c k.client_at
  | inr moves ↦ ap (λ (x : Client). x.reads) moves
]

-- no commit of its session is held
not_commit : (w : State) (h : List Item) (k : AnsweredBegin w) (n s t : ℕ) (keys : List ℕ) (q : Progress) (i : InstanceEntry) → IsolationInvariant w h → s ≡ k.session → InstanceAt w.nodes n i → HeldBy i s (Commit s t keys) q → ⊥
not_commit w h k n s t keys q i holds mine at held =
    let here : HeldBy i k.session (Commit s t keys) q = subst (λ r. HeldBy i r (Commit s t keys) q) mine held in
    let node : n ≡ k.node = holds.requests.requests.one n k.node k.session i k.i (Commit s t keys) k.held.request q k.held.progress at k.at here (held_by k.i k.session k.held k.has) in
    let same : i ≡ k.i = one_instance w.nodes k.node i k.i (subst (λ m. InstanceAt w.nodes m i) node at) k.at in
    let is : here.held ≡ k.held = one_held k.i k.session here.held k.held (ap (λ (x : InstanceEntry). held_of x k.session) (sym same) ∙ here.has) k.has in
    begin_no_commit k.asker s t keys (sym here.asks ∙ (ap (λ x. x.request) is ∙ k.request_is))

-- a session whose begin is answered has no transaction open
begun_open : (w : State) (h : List Item) (k : AnsweredBegin w) (s t e : ℕ) → IsolationInvariant w h → s ≡ k.session → OpenAt w.clients s t e → ⊥
begun_open w h k s t e holds mine o =
    none_held w.nodes w.clients s o.client phase.Open holds.requests.requests o.at o.state_is open_waits k.node k.i k.held.request k.held.progress k.at
    (subst (λ r. HeldBy k.i r k.held.request k.held.progress) (sym mine) (held_by k.i k.session k.held k.has))

pub sets_answered_begin : (w : State) (h : List Item) (k : AnsweredBegin w) → IsolationInvariant w h → AreReadSets w.setup (answered_begin_state w k).clients (answered_begin_state w k).nodes (h ++ answered_begin_items w k)
sets_answered_begin w h k holds =
    let none : ReadsNoMore h (h ++ answered_begin_items w k) = none_more h (answered_begin_items w k) (one_no_reads (Begin k.session k.start) (λ s b key answer is. cc)) in
    let sets = holds.reads.read_sets in
    let new : Client = unless_gone k.c (client_begun k.c k.start k.i.epoch) in
    record {
      plain = λ flag s c at. elim (client_set w.clients k.session s new c at) [
        | inl here ↦ ap (λ (x : Client). x.reads) here.1 ∙ begun_plain w h k holds flag
        | inr other ↦ sets.plain flag s c other.1
      ];
      opened = λ strict s t e o key read. elim (client_set w.clients k.session s new o.client o.at) [
        | inl here ↦ elim (open_answered_begin w k s t e o) [
          | inl was ↦ absurd (begun_open w h k s t e holds here.0 was)
          | inr now ↦ absurd (begun_read_none w h k key holds (subst (λ u. ReadFirst h u key) now.1 (none t key read)))
        ]
        | inr other ↦ sets.opened strict s t e (record { client = o.client; at = other.1; state_is = o.state_is; start_is = o.start_is; epoch_is = o.epoch_is }) key (none t key read)
      ];
      asked = λ strict n s t keys p i c at held client key read.
          let was = (held_changed w.nodes k.node k.i (without_request k.i k.session) k.at (held_over k.i k.session)).each n s i (Commit s t keys) p at held in
          elim (client_set w.clients k.session s new c client) [
            | inl here ↦ absurd (not_commit w h k n s t keys was.1 was.0 holds here.0 was.2 was.3)
            | inr other ↦ sets.asked strict n s t keys was.1 was.0 c was.2 was.3 other.1 key (none t key read)
          ];
      under_way = under_way_stays w h (answered_begin_items w k) _ (reading_answered_begin w k) holds;
    }
