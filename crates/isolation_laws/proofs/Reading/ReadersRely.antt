-- What readers rely on: commits and values stay, marks and shadows stay, and nothing more comes below a begun start but what
-- came before. Then reads under way see all that they saw, and past reads stay right.
use Rattle.isolation_laws.proofs.Names.{◌≡◌, ℕ, ◌<◌, ◌≤◌, Bool, true, false, List, ◌∷◌, Option, Some, None, ◌⊎◌, inl}
use Rattle.isolation_laws.proofs.Names.{inr, refl, sym, ◌∙◌, arith, SetupNumbers, ◌∈◌, AtEach, Committed, Wrote}
use Rattle.isolation_laws.proofs.Names.{last_write, Candidate, Newest, Visible, RightAnswer, RightRead, Found, Item}
use Rattle.isolation_laws.proofs.Names.{Read, Placed, AtEach-weaker, Cell, Row, Pairs, SettlePoint, FirstLook, Table}
use Rattle.isolation_laws.proofs.Names.{LastLook, Reading, may_mark, InstanceEntry, Reads, Client, State, marks_every}
use Rattle.isolation_laws.proofs.Names.{ClientAt, OpenAt, Begun, DrewCommit, Marked, ComesBelow, IsPending, HasShadow}
use Rattle.isolation_laws.proofs.Names.{IsCovered, SeesAll, IsResolvedTo, IsReading, Outlasts, IsolationInvariant}
use Rattle.std.specs.Bool.{IsTrue}
use Rattle.system_parts.specs.declared.resolve.SettlePoint.TheVariants.{Marking}
use Rattle.isolation_laws.proofs.ComingBelow.{coming_is_markable}
use Rattle.isolation_laws.proofs.Requests.CommitsInFlight.{GoesOn}
use Rattle.isolation_laws.proofs.Numbers.NumbersKept.{open_begun}
use Rattle.isolation_laws.proofs.Stores.Calm.{listed_goes_on}

-- a commit that is placed now came below the start, and no mark stood against it
pub record WasComing (w : State) (h : List Item) (b u d : ℕ) : Type 0 where
  pub comes : ComesBelow w.clients w.nodes b u
  pub unmarked : Marked w.pairs u → ⊥
  pub drew : (s : ℕ) × (n : ℕ) × (term : ℕ) × DrewCommit h s n term u d

-- a session reads with the start
pub record IsReader (clients : List Client) (b : ℕ) : Type 0 where
  pub session : ℕ
  pub epoch : ℕ
  pub client : Client
  pub reading : Reading
  pub at : ClientAt clients session client
  pub reads : client.under_way ≡ Reads reading
  pub is_open : OpenAt clients session b epoch

-- the transaction has nothing more to write
abbrev pub IsWritten : State → List Item → ℕ → Type 0
IsWritten w h u = ((c : ℕ) × Committed h u c) ⊎ (IsPending w.clients w.nodes u ⊎ IsReader w.clients u)

pub record RelyOn (w : State) (h : List Item) (clients : List Client) (nodes : List (Option InstanceEntry)) (rows : List Row) (pairs : Pairs) (g : List Item) : Type 0 where
  pub on : GoesOn h g
  pub placed : (b u d : ℕ) → Committed g u d → d < b → Committed h u d ⊎ WasComing w h b u d
  pub comes : (r b u : ℕ) → Begun h r b → ComesBelow clients nodes b u → ComesBelow w.clients w.nodes b u
  pub marks : (u : ℕ) → Marked w.pairs u → Marked pairs u
  pub writes : (u k : ℕ) → IsWritten w h u → last_write g u k ≡ last_write h u k
  pub shadows : (k t c : ℕ) → Committed h t c → HasShadow w.rows k t c → HasShadow rows k t c

-- ---- what comes is written
pub written_coming : (w : State) (h : List Item) (b u : ℕ) → ComesBelow w.clients w.nodes b u → IsWritten w h u
written_coming w h b u c = inr (inl (record { coming = c.coming; pending = c.pending; start_is = c.start_is }))

written_placed : (w : State) (h : List Item) (u c : ℕ) → Committed h u c → IsWritten w h u
written_placed w h u c placed = inl (c, placed)

was_written : (w : State) (h : List Item) (b u d : ℕ) → Committed h u d ⊎ WasComing w h b u d → IsWritten w h u
was_written w h b u d (inl old) = written_placed w h u d old
was_written w h b u d (inr new) = written_coming w h b u new.comes

-- ---- what a read sees
covered_by : (w : State) (h : List Item) (b k u d : ℕ) (value : List ℕ) (cells : List Cell) → SeesAll w.clients w.nodes w.pairs h b k cells → d < b → Wrote h u k value → Committed h u d ⊎ WasComing w h b u d → IsCovered b u cells
covered_by w h b k u d value cells sees less wrote (inl old) = sees.found u d value old less wrote
covered_by w h b k u d value cells sees less wrote (inr new) = sees.coming u value new.comes new.unmarked wrote

pub sees_on : (w : State) (h : List Item) (clients : List Client) (nodes : List (Option InstanceEntry)) (rows : List Row) (pairs : Pairs) (g : List Item) (r b k : ℕ) (cells : List Cell) → RelyOn w h clients nodes rows pairs g → Begun h r b → SeesAll w.clients w.nodes w.pairs h b k cells → SeesAll clients nodes pairs g b k cells
sees_on w h clients nodes rows pairs g r b k cells rely begun sees = record {
  falling = sees.falling;
  below = sees.below;
  shadows = λ i x lt commit is. rely.on (Placed _ commit) (sees.shadows i x lt commit is);
  found = λ u d value placed less wrote.
      let was : Committed h u d ⊎ WasComing w h b u d = rely.placed b u d placed less in
      covered_by w h b k u d value cells sees less (sym (rely.writes u k (was_written w h b u d was)) ∙ wrote) was;
  values = λ i x lt d placed less. elim (rely.placed b _ d placed less) [
    | inl old ↦ rely.writes _ k (written_placed w h _ d old) ∙ sees.values i x lt d old less
    | inr new ↦ rely.writes _ k (written_coming w h b _ new.comes) ∙ sees.coming_values i x lt new.comes new.unmarked
  ];
  coming = λ u value comes unmarked wrote.
      let was : ComesBelow w.clients w.nodes b u = rely.comes r b u begun comes in
      sees.coming u value was (λ m. unmarked (rely.marks u m)) (sym (rely.writes u k (written_coming w h b u was)) ∙ wrote);
  coming_values = λ i x lt comes unmarked.
      let was = rely.comes r b _ begun comes in
      rely.writes _ k (written_coming w h b _ was) ∙ sees.coming_values i x lt was (λ m. unmarked (rely.marks _ m));
}

-- so at a last look, what still comes was marked
pub marked_before : (w : State) (h : List Item) (every : Bool) (s b e t : ℕ) (met : Bool) → every ≡ marks_every w.setup → IsolationInvariant w h → OpenAt w.clients s b e → (met ≡ true → Marked w.pairs t) → (met ≡ false → IsTrue (may_mark every t e) → ⊥) → ComesBelow w.clients w.nodes b t → Marked w.pairs t
marked_before w h every s b e t true every_is holds o marked none comes = marked refl
marked_before w h every s b e t false every_is holds o marked none comes = absurd (none refl (coming_is_markable w h every s b e t every_is holds o comes))

resolved_on : (w : State) (h : List Item) (clients : List Client) (nodes : List (Option InstanceEntry)) (rows : List Row) (pairs : Pairs) (g : List Item) (s k b : ℕ) (every : Bool) (e t : ℕ) (point : SettlePoint) → every ≡ marks_every w.setup → RelyOn w h clients nodes rows pairs g → IsolationInvariant w h → OpenAt w.clients s b e → IsResolvedTo w.pairs w.rows h k b every e t point → IsResolvedTo pairs rows g k b every e t point
resolved_on w h clients nodes rows pairs g s k b every e t FirstLook every_is rely holds o is = is
resolved_on w h clients nodes rows pairs g s k b every e t Table every_is rely holds o is = tt
resolved_on w h clients nodes rows pairs g s k b every e t Marking every_is rely holds o is = is
resolved_on w h clients nodes rows pairs g s k b every e t (LastLook met) every_is rely holds o is = (
  (λ was. rely.marks t (is.0 was)),
  is.1,
  (λ c placed less. elim (rely.placed b t c placed less) [
    | inl old ↦ rely.shadows k t c old (is.2 c old less)
    | inr new ↦ absurd (new.unmarked (marked_before w h every s b e t met every_is holds o is.0 is.1 new.comes))
  ]),
)

pub open_now_begun : (w : State) (h : List Item) (s b e : ℕ) → IsolationInvariant w h → OpenAt w.clients s b e → Begun h s b
open_now_begun w h s b e holds o = open_begun w.clients h s b o.client holds.requests.have_begun o.at o.state_is o.start_is

pub reading_on : (w : State) (h : List Item) (clients : List Client) (nodes : List (Option InstanceEntry)) (rows : List Row) (pairs : Pairs) (g : List Item) (s b e : ℕ) (r : Reading) → RelyOn w h clients nodes rows pairs g → ((k : ℕ) → last_write g b k ≡ last_write h b k) → IsolationInvariant w h → OpenAt w.clients s b e → IsReading w.setup w.clients w.nodes w.rows w.pairs h b e r → IsReading w.setup clients nodes rows pairs g b e r
reading_on w h clients nodes rows pairs g s b e r rely own holds o is = record {
  start_is = is.start_is;
  epoch_is = is.epoch_is;
  every_is = is.every_is;
  own = λ value wrote. listed_goes_on h g b rely.on (is.own value (sym (own r.key) ∙ wrote));
  sees = sees_on w h clients nodes rows pairs g s b r.key (r.cell ∷ r.older) rely (open_now_begun w h s b e holds o) is.sees;
  resolved = resolved_on w h clients nodes rows pairs g s r.key b r.every e r.cell.version r.point is.every_is rely holds o is.resolved;
}

-- what each of these readers has under way, against what can still arrive with those clients
abbrev pub ReadingBy : SetupNumbers → List Client → List Client → List (Option InstanceEntry) → List Row → Pairs → List Item → Type 0
ReadingBy setup readers clients nodes rows pairs h = (s : ℕ) (c : Client) (r : Reading) → ClientAt readers s c → c.under_way ≡ Reads r → (b : ℕ) × (e : ℕ) × OpenAt readers s b e × IsReading setup clients nodes rows pairs h b e r

pub reading_kept : (w : State) (h : List Item) (clients : List Client) (nodes : List (Option InstanceEntry)) (rows : List Row) (pairs : Pairs) (g : List Item) → RelyOn w h clients nodes rows pairs g → IsolationInvariant w h → ReadingBy w.setup w.clients clients nodes rows pairs g
reading_kept w h clients nodes rows pairs g rely holds s c r at reads =
    let is = holds.reads.reading.reads s c r at reads in
    let reader : IsReader w.clients is.0 = record { session = s; epoch = is.1; client = c; reading = r; at = at; reads = reads; is_open = is.2 } in
    (is.0, is.1, is.2, reading_on w h clients nodes rows pairs g s is.0 is.1 r rely (λ k. rely.writes is.0 k (inr (inr reader))) holds is.2 is.3)

-- ---- past reads
outlasts_on : (before after : Pairs) (b u : ℕ) (answer : Option Found) → (Marked before u → Marked after u) → Outlasts before b u answer → Outlasts after b u answer
outlasts_on before after b u None marks is = marks is
outlasts_on before after b u (Some found) marks (inl own) = inl own
outlasts_on before after b u (Some found) marks (inr (inl marked)) = inr (inl (marks marked))
outlasts_on before after b u (Some found) marks (inr (inr above)) = inr (inr above)

pub lasts_on : (w : State) (h : List Item) (clients : List Client) (nodes : List (Option InstanceEntry)) (rows : List Row) (pairs : Pairs) (g : List Item) (s b k u : ℕ) (answer : Option Found) (value : List ℕ) → RelyOn w h clients nodes rows pairs g → IsolationInvariant w h → Read s b k answer ∈ h → ComesBelow clients nodes b u → Wrote g u k value → Outlasts pairs b u answer
lasts_on w h clients nodes rows pairs g s b k u answer value rely holds read comes wrote =
    let begun = holds.numbers.begun.reads s b k answer read in
    let was : ComesBelow w.clients w.nodes b u = rely.comes begun.0 b u begun.1 comes in
    outlasts_on w.pairs pairs b u answer (rely.marks u) (holds.reads.lasting.lasts s b k u answer value read was (sym (rely.writes u k (written_coming w h b u was)) ∙ wrote))

-- a candidate was one, or is placed now
candidate_was : (w : State) (h : List Item) (clients : List Client) (nodes : List (Option InstanceEntry)) (rows : List Row) (pairs : Pairs) (g : List Item) (b k t c : ℕ) → RelyOn w h clients nodes rows pairs g → Candidate g b k t c → Candidate h b k t c ⊎ (WasComing w h b t c × ((value : List ℕ) × Wrote h t k value))
candidate_was w h clients nodes rows pairs g b k t c rely is = elim (rely.placed b t c is.committed is.below) [
  | inl old ↦ inl (record { committed = old; below = is.below; wrote = (is.wrote.0, sym (rely.writes t k (written_placed w h t c old)) ∙ is.wrote.1) })
  | inr new ↦ inr (new, (is.wrote.0, sym (rely.writes t k (written_coming w h b t new.comes)) ∙ is.wrote.1))
]

-- what is placed now is below the commit of a later version
placed_lower : (w : State) (h : List Item) (b k v c u d : ℕ) (x y : List ℕ) → IsolationInvariant w h → Committed h v c → WasComing w h b u d → Wrote h v k x → Wrote h u k y → u < v → d ≤ c
placed_lower w h b k v c u d x y holds placed new wrote also less =
    let drew = holds.numbers.placed.drawn v c placed in
    let above : v < c = holds.isolated.stamped.start_below_commit v c placed in
    elim (holds.memory.apart.apart drew.0 new.drew.0 drew.1 new.drew.1 drew.2 new.drew.2 v c u d k x y drew.3 new.drew.3 (λ same. omega (arith, same, less)) wrote also) [
      | inl one ↦ absurd (omega (arith, one, above, less))
      | inr two ↦ omega (arith, two, above)
    ]

greatest_on : (w : State) (h : List Item) (b k t c : ℕ) (found : Found) → IsolationInvariant w h → Newest h b k found → Outlasts w.pairs b t (Some found) → WasComing w h b t c → (value : List ℕ) × Wrote h t k value → (n : Newest h b k found) → c ≤ n.commit
greatest_on w h b k t c found holds was (inl own) new wrote n = absurd (omega (arith, own, holds.isolated.stamped.start_below_commit found.from n.commit n.candidate.committed, n.candidate.below))
greatest_on w h b k t c found holds was (inr (inl marked)) new wrote n = absurd (new.unmarked marked)
greatest_on w h b k t c found holds was (inr (inr above)) new wrote n = placed_lower w h b k found.from n.commit t c found.value wrote.0 holds n.candidate.committed new n.value wrote.1 above

pub visible_on : (w : State) (h : List Item) (clients : List Client) (nodes : List (Option InstanceEntry)) (rows : List Row) (pairs : Pairs) (g : List Item) (s b k : ℕ) (answer : Option Found) → RelyOn w h clients nodes rows pairs g → IsolationInvariant w h → Read s b k answer ∈ h → Visible h b k answer → Visible g b k answer
visible_on w h clients nodes rows pairs g s b k None rely holds read is = λ t c candidate. elim (candidate_was w h clients nodes rows pairs g b k t c rely candidate) [
  | inl old ↦ is t c old
  | inr (new, (value, wrote)) ↦ new.unmarked (holds.reads.lasting.lasts s b k t None value read new.comes wrote)
]
visible_on w h clients nodes rows pairs g s b k (Some found) rely holds read is =
    let same : last_write g found.from k ≡ last_write h found.from k = rely.writes found.from k (written_placed w h found.from is.commit is.candidate.committed) in
    record {
      commit = is.commit;
      candidate = record { committed = rely.on (Placed found.from is.commit) is.candidate.committed; below = is.candidate.below; wrote = (is.candidate.wrote.0, same ∙ is.candidate.wrote.1) };
      value = same ∙ is.value;
      greatest = λ t c candidate. elim (candidate_was w h clients nodes rows pairs g b k t c rely candidate) [
        | inl old ↦ is.greatest t c old
        | inr (new, (value, wrote)) ↦ greatest_on w h b k t c found holds is (holds.reads.lasting.lasts s b k t (Some found) value read new.comes wrote) new (value, wrote) is
      ];
    }

right_answer_on : (w : State) (h : List Item) (clients : List Client) (nodes : List (Option InstanceEntry)) (rows : List Row) (pairs : Pairs) (g before : List Item) (s b k : ℕ) (answer : Option Found) (own : Option (List ℕ)) → RelyOn w h clients nodes rows pairs g → IsolationInvariant w h → Read s b k answer ∈ h → RightAnswer h before b k answer own → RightAnswer g before b k answer own
right_answer_on w h clients nodes rows pairs g before s b k answer None rely holds read is = visible_on w h clients nodes rows pairs g s b k answer rely holds read is
right_answer_on w h clients nodes rows pairs g before s b k answer (Some own) rely holds read (inl mine) = inl mine
right_answer_on w h clients nodes rows pairs g before s b k answer (Some own) rely holds read (inr (listed, seen)) = inr (listed, visible_on w h clients nodes rows pairs g s b k answer rely holds read seen)

right_on : (w : State) (h : List Item) (clients : List Client) (nodes : List (Option InstanceEntry)) (rows : List Row) (pairs : Pairs) (g before : List Item) (x : Item) → RelyOn w h clients nodes rows pairs g → IsolationInvariant w h → x ∈ h → RightRead h before x → RightRead g before x
right_on w h clients nodes rows pairs g before (Read s b k answer) rely holds read is = right_answer_on w h clients nodes rows pairs g before s b k answer (last_write before b k) rely holds read is
right_on w h clients nodes rows pairs g before _ rely holds read is = is

pub right_kept : (w : State) (h : List Item) (clients : List Client) (nodes : List (Option InstanceEntry)) (rows : List Row) (pairs : Pairs) (g : List Item) → RelyOn w h clients nodes rows pairs g → IsolationInvariant w h → AtEach (RightRead g) h
right_kept w h clients nodes rows pairs g rely holds = AtEach-weaker (RightRead h) (RightRead g) h holds.isolated.reads (λ before x m is. right_on w h clients nodes rows pairs g before x rely holds m is)
