-- Read sets stay where clients keep what they kept, no transaction is opened, no read goes on, no commit is asked for and no read
-- is answered; each of the four facts by what it reads.
use Rattle.isolation_laws.proofs.Names.{◌≡◌, ℕ, true, false, List, [], ◌++◌, Option, inl, inr, sym, ◌∙◌, ap, subst}
use Rattle.isolation_laws.proofs.Names.{Contains, Item, Reading, Progress, Commit, InstanceEntry, Reads, Client, State}
use Rattle.isolation_laws.proofs.Names.{InstanceAt, HeldBy, ClientAt, OpenAt, ReadFirst, KeepsReads, KeepsKey}
use Rattle.isolation_laws.proofs.Names.{AreReadSets, IsolationInvariant, one_client}
use Rattle.isolation_laws.proofs.Requests.ClientsOpen.{FewerOpen}
use Rattle.isolation_laws.proofs.Requests.RequestsAfter.{FewerHeld}
use Rattle.isolation_laws.proofs.Reading.ClientsReading.{FewerReading}
use Rattle.isolation_laws.proofs.Reading.FirstReads.{wrote_on}
use Rattle.isolation_laws.proofs.Reading.KeptReads.{SameReads}

-- ---- a longer history brings no read of a key that was not written
abbrev pub ReadsNoMore : List Item → List Item → Type 0
ReadsNoMore h g = (t k : ℕ) → ReadFirst g t k → ReadFirst h t k

pub keeps_as : (h g : List Item) (t : ℕ) (c d : Client) → ReadsNoMore h g → c.reads ≡ d.reads → KeepsReads h t d → KeepsReads g t c
keeps_as h g t c d none same keeps k read = subst (λ ks. Contains ks k) (sym same) (keeps k (none t k read))

pub key_kept : (h items : List Item) (c : Client) (r : Reading) → KeepsKey h c r → KeepsKey (h ++ items) c r
key_kept h items c r (inl there) = inl there
key_kept h items c r (inr (value, wrote)) = inr (wrote_on h items r.start r.key value wrote)

-- ---- each commit request that is held was held
abbrev pub FewerCommits : List (Option InstanceEntry) → List (Option InstanceEntry) → Type 0
FewerCommits old new = (n s t : ℕ) (keys : List ℕ) (p : Progress) (j : InstanceEntry) → InstanceAt new n j → HeldBy j s (Commit s t keys) p → (i : InstanceEntry) × (q : Progress) × InstanceAt old n i × HeldBy i s (Commit s t keys) q

pub fewer_commits : (old new : List (Option InstanceEntry)) → FewerHeld old new → FewerCommits old new
fewer_commits old new fewer n s t keys p j at held = fewer.each n s j (Commit s t keys) p at held

-- ---- each of the facts
pub plain_stays : (w : State) (h : List Item) (clients : List Client) → SameReads w.clients clients → IsolationInvariant w h → w.setup.strict ≡ false → (s : ℕ) (c : Client) → ClientAt clients s c → c.reads ≡ []
plain_stays w h clients same holds flag s c at =
    let was = same s c at in
    was.2 ∙ holds.reads.read_sets.plain flag s was.0 was.1

pub opened_stays : (w : State) (h g : List Item) (clients : List Client) → SameReads w.clients clients → FewerOpen w.clients clients → ReadsNoMore h g → IsolationInvariant w h → w.setup.strict ≡ true → (s t e : ℕ) (o : OpenAt clients s t e) → KeepsReads g t o.client
opened_stays w h g clients same fewer none holds strict s t e o =
    let was : OpenAt w.clients s t e = fewer s t e o in
    let old = same s o.client o.at in
    keeps_as h g t o.client was.client none (old.2 ∙ ap (λ (x : Client). x.reads) (one_client w.clients s old.0 was.client old.1 was.at)) (holds.reads.read_sets.opened strict s t e was)

-- a commit request that was held
pub asked_stays : (w : State) (h g : List Item) (clients : List Client) (n s t : ℕ) (keys : List ℕ) (p : Progress) (i : InstanceEntry) (c : Client) → SameReads w.clients clients → ReadsNoMore h g → IsolationInvariant w h → w.setup.strict ≡ true → InstanceAt w.nodes n i → HeldBy i s (Commit s t keys) p → ClientAt clients s c → KeepsReads g t c
asked_stays w h g clients n s t keys p i c same none holds strict at held client =
    let old = same s c client in
    keeps_as h g t c old.0 none old.2 (holds.reads.read_sets.asked strict n s t keys p i old.0 at held old.1)

pub under_way_stays : (w : State) (h items : List Item) (clients : List Client) → FewerReading w.clients clients → IsolationInvariant w h → w.setup.strict ≡ true → (s : ℕ) (c : Client) (r : Reading) → ClientAt clients s c → c.under_way ≡ Reads r → KeepsKey (h ++ items) c r
under_way_stays w h items clients fewer holds strict s c r at reads = key_kept h items c r (holds.reads.read_sets.under_way strict s c r (fewer s c r at reads) reads)

-- ---- all of them
pub read_sets_stay : (w : State) (h items : List Item) (clients : List Client) (nodes : List (Option InstanceEntry)) → SameReads w.clients clients → FewerOpen w.clients clients → FewerReading w.clients clients → FewerCommits w.nodes nodes → ReadsNoMore h (h ++ items) → IsolationInvariant w h → AreReadSets w.setup clients nodes (h ++ items)
read_sets_stay w h items clients nodes same opened reading held none holds = record {
  plain = plain_stays w h clients same holds;
  opened = opened_stays w h (h ++ items) clients same opened none holds;
  asked = λ strict n s t keys p i c at has client.
      let was = held n s t keys p i at has in
      asked_stays w h (h ++ items) clients n s t keys was.1 was.0 c same none holds strict was.2 was.3 client;
  under_way = under_way_stays w h items clients reading holds;
}
