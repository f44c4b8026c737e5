-- Reads and answers over a longer history without writes and placed commits, and a client that reads.
use Rattle.isolation_laws.proofs.Names.{◌≡◌, ◌≢◌, ℕ, Bool, List, ◌∷◌, Option, Some, None, inl, inr, sym, ◌∙◌, ap, subst}
use Rattle.isolation_laws.proofs.Names.{slice_set, SetupNumbers, Candidate, Visible, RightAnswer, Found, Item, Placed}
use Rattle.isolation_laws.proofs.Names.{Cell, Row, Pairs, SettlePoint, FirstLook, Table, LastLook, Reading}
use Rattle.isolation_laws.proofs.Names.{InstanceEntry, Reads, Client, State, ClientAt, epoch_or_none, OpenAt, Begun}
use Rattle.isolation_laws.proofs.Names.{SeesAll, IsResolvedTo, IsReading, AreReading, set_found, set_other, client_set}
use Rattle.isolation_laws.proofs.Names.{one_client, ComesBelow}
use Rattle.system_parts.specs.declared.resolve.SettlePoint.TheVariants.{Marking}
use Rattle.isolation_laws.proofs.Requests.CommitsInFlight.{GoesOn}
use Rattle.isolation_laws.proofs.Reading.ReadersRely.{RelyOn, ReadingBy}
use Rattle.isolation_laws.proofs.Stores.Calm.{Calm, listed_goes_on}
use Rattle.isolation_laws.proofs.Stores.StoresStay.{MarksStay, ShadowsStay}

candidate_old : (h g : List Item) (b k t c : ℕ) → Calm h g → Candidate g b k t c → Candidate h b k t c
candidate_old h g b k t c un is = record { committed = un.placed t c is.committed; below = is.below; wrote = (is.wrote.0, sym (un.writes t k) ∙ is.wrote.1) }

candidate_new : (h g : List Item) (b k t c : ℕ) → Calm h g → Candidate h b k t c → Candidate g b k t c
candidate_new h g b k t c un is = record { committed = un.on (Placed t c) is.committed; below = is.below; wrote = (is.wrote.0, un.writes t k ∙ is.wrote.1) }

pub visible_longer : (h g : List Item) (b k : ℕ) (answer : Option Found) → Calm h g → Visible h b k answer → Visible g b k answer
visible_longer h g b k None un is = λ t c candidate. is t c (candidate_old h g b k t c un candidate)
visible_longer h g b k (Some found) un is = record {
  commit = is.commit;
  candidate = candidate_new h g b k found.from is.commit un is.candidate;
  value = un.writes found.from k ∙ is.value;
  greatest = λ t c candidate. is.greatest t c (candidate_old h g b k t c un candidate);
}

pub right_longer : (h g before : List Item) (b k : ℕ) (answer : Option Found) (own : Option (List ℕ)) → Calm h g → GoesOn h before → RightAnswer h h b k answer own → RightAnswer g before b k answer own
right_longer h g before b k answer None un on is = visible_longer h g b k answer un is
right_longer h g before b k answer (Some own) un on (inl mine) = inl mine
right_longer h g before b k answer (Some own) un on (inr (listed, visible)) = inr (listed_goes_on h before b on listed, visible_longer h g b k answer un visible)

sees_longer : (clients new : List Client) (nodes : List (Option InstanceEntry)) (pairs : Pairs) (h g : List Item) (b k : ℕ) (cells : List Cell) → ((u : ℕ) → ComesBelow new nodes b u → ComesBelow clients nodes b u) → Calm h g → SeesAll clients nodes pairs h b k cells → SeesAll new nodes pairs g b k cells
sees_longer clients new nodes pairs h g b k cells comes un sees = record {
  falling = sees.falling;
  below = sees.below;
  shadows = λ i x lt commit is. un.on (Placed _ commit) (sees.shadows i x lt commit is);
  found = λ u d value placed less wrote. sees.found u d value (un.placed u d placed) less (sym (un.writes u k) ∙ wrote);
  values = λ i x lt d placed less. un.writes _ k ∙ sees.values i x lt d (un.placed _ d placed) less;
  coming = λ u value now unmarked wrote. sees.coming u value (comes u now) unmarked (sym (un.writes u k) ∙ wrote);
  coming_values = λ i x lt now unmarked. un.writes _ k ∙ sees.coming_values i x lt (comes _ now) unmarked;
}

resolved_longer : (pairs : Pairs) (rows : List Row) (h g : List Item) (k b : ℕ) (every : Bool) (e t : ℕ) (point : SettlePoint) → Calm h g → IsResolvedTo pairs rows h k b every e t point → IsResolvedTo pairs rows g k b every e t point
resolved_longer pairs rows h g k b every e t FirstLook un is = is
resolved_longer pairs rows h g k b every e t Table un is = tt
resolved_longer pairs rows h g k b every e t Marking un is = is
resolved_longer pairs rows h g k b every e t (LastLook met) un is = (is.0, is.1, λ c placed less. is.2 c (un.placed t c placed) less)

pub reading_longer : (setup : SetupNumbers) (clients new : List Client) (nodes : List (Option InstanceEntry)) (rows : List Row) (pairs : Pairs) (h g : List Item) (b e : ℕ) (r : Reading) → ((u : ℕ) → ComesBelow new nodes b u → ComesBelow clients nodes b u) → Calm h g → IsReading setup clients nodes rows pairs h b e r → IsReading setup new nodes rows pairs g b e r
reading_longer setup clients new nodes rows pairs h g b e r comes un is = record {
  start_is = is.start_is;
  epoch_is = is.epoch_is;
  every_is = is.every_is;
  own = λ value wrote. listed_goes_on h g b un.on (is.own value (sym (un.writes b r.key) ∙ wrote));
  sees = sees_longer clients new nodes pairs h g b r.key (r.cell ∷ r.older) comes un is.sees;
  resolved = resolved_longer pairs rows h g r.key b r.every e r.cell.version r.point un is.resolved;
}

-- ---- what readers rely on
pub rely_calm : (w : State) (h g : List Item) (clients : List Client) (nodes : List (Option InstanceEntry)) (rows : List Row) (pairs : Pairs) → Calm h g → ((r b u : ℕ) → Begun h r b → ComesBelow clients nodes b u → ComesBelow w.clients w.nodes b u) → ShadowsStay h w.rows rows → MarksStay w.pairs pairs → RelyOn w h clients nodes rows pairs g
rely_calm w h g clients nodes rows pairs un comes shadows marks = record {
  on = un.on;
  placed = λ b u d placed less. inl (un.placed u d placed);
  comes = comes;
  marks = marks;
  writes = λ u k written. un.writes u k;
  shadows = shadows;
}

-- ---- one client reads
same_open : (clients : List Client) (s b e : ℕ) (old c : Client) → ClientAt clients s old → c.entry ≡ old.entry → OpenAt clients s b e → OpenAt (slice_set clients s c) s b e
same_open clients s b e old c at same o =
    let is : o.client ≡ old = one_client clients s o.client old o.at at in
    record {
      client = c;
      at = set_found clients s c old at;
      state_is = ap (λ x. x.state) same ∙ (ap (λ (x : Client). x.entry.state) (sym is) ∙ o.state_is);
      start_is = ap (λ x. x.start) same ∙ (ap (λ (x : Client). x.entry.start) (sym is) ∙ o.start_is);
      epoch_is = ap (λ x. epoch_or_none x.epoch) same ∙ (ap (λ (x : Client). epoch_or_none x.entry.epoch) (sym is) ∙ o.epoch_is);
    }

other_open : (clients : List Client) (s r b e : ℕ) (c : Client) → r ≢ s → OpenAt clients r b e → OpenAt (slice_set clients s c) r b e
other_open clients s r b e c other o = record { client = o.client; at = set_other clients s r c other ∙ o.at; state_is = o.state_is; start_is = o.start_is; epoch_is = o.epoch_is }

-- what the client reads now
abbrev pub ReadsNow : SetupNumbers → List Client → List (Option InstanceEntry) → List Row → Pairs → List Item → ℕ → ℕ → Client → Type 0
ReadsNow setup clients nodes rows pairs g b e c = (r : Reading) → c.under_way ≡ Reads r → IsReading setup clients nodes rows pairs g b e r

pub reading_set : (setup : SetupNumbers) (clients : List Client) (nodes : List (Option InstanceEntry)) (rows : List Row) (pairs : Pairs) (g : List Item) (s b e : ℕ) (old c : Client) → ClientAt clients s old → c.entry ≡ old.entry → OpenAt clients s b e → ReadsNow setup (slice_set clients s c) nodes rows pairs g b e c → ReadingBy setup clients (slice_set clients s c) nodes rows pairs g → AreReading setup (slice_set clients s c) nodes rows pairs g
reading_set setup clients nodes rows pairs g s b e old c at same o now reading = record {
  reads = λ q d r there reads. elim (client_set clients s q c d there) [
    | inl here ↦ (b, e, subst (λ p. OpenAt (slice_set clients s c) p b e) (sym here.0) (same_open clients s b e old c at same o), now r (sym (ap (λ (x : Client). x.under_way) here.1) ∙ reads))
    | inr other ↦
        let was = reading q d r other.1 reads in
        (was.0, was.1, other_open clients s q was.0 was.1 c other.0 was.2, was.3)
  ];
}

pub reads_same : (r x : Reading) → Reads r ≡ Reads x → r ≡ x
reads_same r x same = cc
