-- Who keeps what was read and what is remembered: each client after each outcome that does not change it.
use Rattle.isolation_laws.proofs.Requests.ClientMoves.{clients_move}
use Rattle.isolation_laws.proofs.Names.{◌≡◌, ℕ, Bool, true, false, List, inl, inr, refl, sym, ◌∙◌, ap, subst, slice_set}
use Rattle.isolation_laws.proofs.Names.{ReadTurn, Asks, Answers, Cache, Client, State, client_begun, client_handed}
use Rattle.isolation_laws.proofs.Names.{unless_gone, client_read, ClientAt, client_set, read_turn, read_client, Outcome}
use Rattle.isolation_laws.proofs.Names.{OfAnsweredBegin, OfHanded, OfWrote, OfVanished, OfFetched, OfReadDropped}
use Rattle.isolation_laws.proofs.Names.{OfReadStepped, left_by}
use Rattle.isolation_laws.proofs.Requests.ClientsOpen.{gone_cases}

-- begins, reads and vanishes change some of what a client keeps
abbrev touches_parts : {w : State} → Outcome w → Bool
touches_parts (OfAnsweredBegin k) = true
touches_parts (OfVanished k) = true
touches_parts (OfFetched k) = true
touches_parts (OfReadDropped k) = true
touches_parts (OfReadStepped k) = true
touches_parts _ = false

-- ---- a part of what a client keeps whatever its session does: what its transaction read, or what it remembers
module _ {X : Type 0} (part : List ℕ → Cache → X) where
  -- it is the same of both
  abbrev SamePart : Client → Client → Type 0
  SamePart new old = part new.reads new.cache ≡ part old.reads old.cache

  -- each client was there, and it is the same
  abbrev pub SameParts : List Client → List Client → Type 0
  SameParts old new = (s : ℕ) (c : Client) → ClientAt new s c → (d : Client) × ClientAt old s d × SamePart c d

  same_set : (clients : List Client) (s : ℕ) (old new : Client) → ClientAt clients s old → SamePart new old → SameParts clients (slice_set clients s new)
  same_set clients s old new at same r c there = elim (client_set clients s r new c there) [
    | inl here ↦ (old, subst (λ q. ClientAt clients q old) (sym here.0) at, ap (λ (x : Client). part x.reads x.cache) here.1 ∙ same)
    | inr other ↦ (c, other.1, refl)
  ]

  -- ---- what a client becomes
  gone_keeps : (old new : Client) → SamePart new old → SamePart (unless_gone old new) old
  gone_keeps old new same = elim (gone_cases old new) [
    | inl stays ↦ ap (λ (x : Client). part x.reads x.cache) stays.0
    | inr moves ↦ ap (λ (x : Client). part x.reads x.cache) moves ∙ same
  ]

  turn_keeps : (c : Client) (turn : ReadTurn) → SamePart (client_read c turn) c
  turn_keeps c (Asks r) = refl
  turn_keeps c (Answers a) = refl

  -- ---- every outcome but the begins, the reads and a vanish
  parts_keep : (w : State) (o : Outcome w) → touches_parts o ≡ false → SameParts w.clients (left_by w o).clients
  parts_keep w (OfAnsweredBegin k) is = absurd (cc)
  parts_keep w (OfHanded k) is = same_set w.clients k.session k.c _ k.client_at (gone_keeps k.c (client_handed k.c k.commit) refl)
  parts_keep w (OfWrote k) is = same_set w.clients k.it.session k.it.c _ k.it.client_at refl
  parts_keep w (OfVanished k) is = absurd (cc)
  parts_keep w (OfFetched k) is = absurd (cc)
  parts_keep w (OfReadDropped k) is = absurd (cc)
  parts_keep w (OfReadStepped k) is = absurd (cc)
  parts_keep w o is = λ s c at.
      let was = clients_move w o refl s c at in
      (was.0, was.1, ap (λ (reads : List ℕ). part reads c.cache) was.2.read ∙ ap (λ (cache : Cache). part was.0.reads cache) was.2.cache)

-- ---- what was read: every outcome but two keeps it
abbrev the_reads : List ℕ → Cache → List ℕ
the_reads reads cache = reads

abbrev pub SameReads : List Client → List Client → Type 0
SameReads old new = SameParts the_reads old new

pub read_keeps : (c : Client) (turn : ReadTurn) → (client_read c turn).reads ≡ c.reads
read_keeps c turn = turn_keeps the_reads c turn

abbrev pub reads_change : {w : State} → Outcome w → Bool
reads_change (OfAnsweredBegin k) = true
reads_change (OfFetched k) = true
reads_change _ = false

pub reads_keep : (w : State) (o : Outcome w) → reads_change o ≡ false → SameReads w.clients (left_by w o).clients
reads_keep w (OfAnsweredBegin k) is = absurd (cc)
reads_keep w (OfFetched k) is = absurd (cc)
reads_keep w (OfVanished k) is = same_set the_reads w.clients k.session k.c _ k.client_at refl
reads_keep w (OfReadDropped k) is = same_set the_reads w.clients k.session k.c _ k.client_at refl
reads_keep w (OfReadStepped k) is = same_set the_reads w.clients k.session k.c _ k.client_at (read_keeps (read_client w k) (read_turn w k))
reads_keep w o is = parts_keep the_reads w o is

-- ---- what is remembered: every outcome but the reads and a vanish keeps it
abbrev the_cache : List ℕ → Cache → Cache
the_cache reads cache = cache

abbrev pub SameCaches : List Client → List Client → Type 0
SameCaches old new = SameParts the_cache old new

pub read_remembers : (c : Client) (turn : ReadTurn) → (client_read c turn).cache ≡ c.cache
read_remembers c turn = turn_keeps the_cache c turn

abbrev pub caches_change : {w : State} → Outcome w → Bool
caches_change (OfVanished k) = true
caches_change (OfFetched k) = true
caches_change (OfReadDropped k) = true
caches_change (OfReadStepped k) = true
caches_change _ = false

pub caches_keep : (w : State) (o : Outcome w) → caches_change o ≡ false → SameCaches w.clients (left_by w o).clients
caches_keep w (OfVanished k) is = absurd (cc)
caches_keep w (OfFetched k) is = absurd (cc)
caches_keep w (OfReadDropped k) is = absurd (cc)
caches_keep w (OfReadStepped k) is = absurd (cc)
caches_keep w (OfAnsweredBegin k) is = same_set the_cache w.clients k.session k.c _ k.client_at (gone_keeps the_cache k.c (client_begun k.c k.start k.i.epoch) refl)
caches_keep w o is = parts_keep the_cache w o is
