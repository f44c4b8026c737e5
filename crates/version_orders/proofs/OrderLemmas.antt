-- Why orders that follow hold in all stamps.
use Rattle.std.proofs.Common.{◌≡◌, ◌≢◌, ℕ, ◌+◌, ◌<◌, ◌≤◌, ◌⊎◌, ◌&&◌, ◌||◌, Bool, true, false, List, [], ◌∷◌, ◌++◌, Option, Some, None, length, slice_get, inl, inr, refl, sym, subst, ap, ◌∙◌, arith}
use Rattle.trace_rules.specs.declared.trace.Operation.{Operation}
use Rattle.trace_rules.specs.declared.trace.Transaction.{Transaction}
use Rattle.trace_rules.specs.declared.trace.Version.{Version}
use Rattle.trace_rules.specs.declared.wanted.Level.{Level}
use Rattle.trace_rules.specs.declared.wanted.Level.TheVariants.{Snapshot, Serializable}
use Rattle.trace_rules.specs.declared.wanted.Times.{Times}
use Rattle.trace_rules.specs.declared.wanted.Wanted.{Wanted}
use Rattle.trace_rules.specs.declared.wanted.Wanted.TheVariants.{Nothing, Sessions, RealTime}
use Rattle.trace_rules.specs.Trace.{Trace, Done, Writer, OuterRead}
use Rattle.trace_rules.specs.Stamping.{Asked, Stamping, Stampable, Conflict, Newest, IsolatedBy, Point, stamp_of}
use Rattle.trace_rules.specs.Wants.{Moments, asked_of, either, in_time, moments_of, of_done}
use Rattle.rising_numbers.specs.declared.Edge.{Edge}
use Rattle.rising_numbers.specs.Rises.{AreWithin, IsCycle, Leads}
use Rattle.outer_reads.specs.declared.writings.Writing.{Writing}
use Rattle.outer_reads.specs.declared.readings.Reading.{Reading}
use Rattle.outer_reads.specs.Sources.{AreKnown, trace_of}
use Rattle.outer_reads.proofs.ListLemmas.{get_push_cases}
use Rattle.trace_edges.specs.Edges.{AreLaid, point_of, starts_of, MayLay, LeftOut, LaidOn}
use Rattle.trace_edges.proofs.EdgeLemmas.{done_within, commit_point, start_point, sole_point}
use Rattle.asked_orders.specs.declared.edges.Nodes.{Nodes}
use Rattle.asked_orders.specs.Joins.{Always, AreJoined, AtPoint, AtMoment, ToMoment, FromMoment, Across, Later, Through, Joins, Place, UpTo, Here, Under, moments_for, no_moments, place_of}
use Rattle.asked_orders.proofs.JoinLemmas.{forced_join, join_laid, joins_round, joins_then, point_place, points_join}
use Rattle.version_orders.specs.declared.candidates.Ends.{Ends}
use Rattle.version_ranks.specs.declared.rank.Rank.{Rank}
use Rattle.version_ranks.specs.Ranks.{asked_with, by_rank}
use Rattle.version_orders.specs.Orders.{JoinsAll, Task, asked_by, Lead, AreSure, AreEnds, AreWriters, IsOther, IsUnread, Follows, OfPath, OfMissed, OfSeen, OfNone}

-- the stamp of the point that the node stands for
abbrev stamp_at : Stamping → ℕ → ℕ → ℕ
stamp_at st starts x = stamp_of st (point_of starts x)

compare : (a b : ℕ) → (a < b) ⊎ ((a ≡ b) ⊎ (b < a))
compare a b = grind arith

-- ---- of transactions
module _ (level : Level) (trace : Trace) (st : Stamping) (is : IsolatedBy level st trace) where
  -- of two that may not overlap, the one that starts below the other's commit is committed below its start
  pub parts : (t u : ℕ) → t ≢ u → Conflict level trace t u → st.start t < st.commit u → st.commit t < st.start u
  parts t u other conflict low = elim (is.apart t u other conflict) [
    | inl first ↦ first
    | inr second ↦ absurd (omega (arith, second, low))
  ]

  conflict_of : (l : Level) (t u k v w : ℕ) → Writer trace t k v → Writer trace u k w → Conflict l trace t u
  conflict_of Snapshot t u k v w one two = record { key = k; value = v; other = w; first = one; second = two }
  conflict_of Serializable t u k v w one two = record { first = one.done; second = two.done }

  pub writers_part : (t u k v w : ℕ) → t ≢ u → Writer trace t k v → Writer trace u k w → st.start t < st.commit u → st.commit t < st.start u
  writers_part t u k v w other one two low = parts t u other (conflict_of level t u k v w one two) low

  newest : (r k : ℕ) (found : Version) → OuterRead trace r k (Some found) → Newest st trace (st.start r) k found
  newest r k found outer = is.reads outer.place r k (Some found) None outer.read

  above : (r u : ℕ) → Done trace r → Done trace u → (st.commit u < st.start r → ⊥) → st.start r < st.commit u
  above r u dr du none = elim (compare (st.start r) (st.commit u)) [
    | inl less ↦ less
    | inr more ↦ elim more [ inl same ↦ absurd (is.numbered.no_start_commits r u dr du same) | inr over ↦ absurd (none over) ]
  ]

  -- a reader starts below the commit of a version after the one that it read
  pub reader_misses : (r u k value : ℕ) (found : Version) → OuterRead trace r k (Some found) → Writer trace u k value → st.commit found.from < st.start u → st.start r < st.commit u
  reader_misses r u k value found outer w after =
      let own : st.start u < st.commit u = is.numbered.ordered u w.done in
      above r u outer.read.done w.done (λ low. let most : st.commit u ≤ st.commit found.from = (newest r k found outer).greatest u value w low in absurd (omega (arith, after, own, most)))

  -- a version that is committed below a reader's start comes before the one that it read
  pub seen_first : (r u k value : ℕ) (found : Version) → u ≢ found.from → OuterRead trace r k (Some found) → Writer trace u k value → st.commit u < st.start r → st.commit u < st.start found.from
  seen_first r u k value found other outer w low =
      let sees = newest r k found outer in
      let most : st.commit u ≤ st.commit found.from = sees.greatest u value w low in
      let own : st.start u < st.commit u = is.numbered.ordered u w.done in
      writers_part u found.from k value found.value other w sees.writer (omega (arith, most, own))

  -- a reader that found nothing starts below the commit of each version
  pub reader_of_none_misses : (r u k value : ℕ) → OuterRead trace r k None → Writer trace u k value → st.start r < st.commit u
  reader_of_none_misses r u k value outer w = above r u outer.read.done w.done (λ low. is.reads outer.place r k None None outer.read u value w low)

-- ---- of nodes
module _ (level : Level) (trace : Trace) (st : Stamping) (is : IsolatedBy level st trace) (starts : ℕ) (count : starts ≡ starts_of level (length trace.transactions)) where
  at_commit : (t : ℕ) → stamp_at st starts (starts + t) ≡ st.commit t
  at_commit t = ap (λ (x : Point). stamp_of st x) (commit_point starts t)

  -- the stamp of a transaction's first node is its start, or, where it is one node, its commit
  at_first : (t : ℕ) → Done trace t → (stamp_at st starts t ≡ st.start t) ⊎ ((stamp_at st starts t ≡ st.commit t) × (level ≡ Serializable))
  at_first t done = by level refl
    where
      by : (l : Level) → level ≡ l → (stamp_at st starts t ≡ st.start t) ⊎ ((stamp_at st starts t ≡ st.commit t) × (level ≡ Serializable))
      by Snapshot same =
          let all : starts ≡ length trace.transactions = count ∙ ap (λ (x : Level). starts_of x (length trace.transactions)) same in
          inl (ap (λ (x : Point). stamp_of st x) (start_point starts t (let low = done_within trace t done in omega (arith, low, all))))
      by Serializable same =
          let none : starts ≡ 0 = count ∙ ap (λ (x : Level). starts_of x (length trace.transactions)) same in
          inr (ap (λ (n : ℕ). stamp_of st (point_of n t)) none ∙ ap (λ (x : Point). stamp_of st x) (sole_point t), same)

  in_series : (t u : ℕ) → t ≢ u → Done trace t → Done trace u → level ≡ Serializable → st.start t < st.commit u → st.commit t < st.start u
  in_series t u other dt du same low = parts level trace st is t u other (subst (λ (l : Level). Conflict l trace t u) (sym same) (record { first = dt; second = du })) low

  -- what is committed below a transaction's first node is committed below its start
  down_to_start : (z t : ℕ) → z ≢ t → Done trace z → Done trace t → st.commit z < stamp_at st starts t → st.commit z < st.start t
  down_to_start z t other dz dt low = elim (at_first t dt) [
    | inl same ↦ omega (arith, low, same)
    | inr sole ↦ let at = sole.0 in let own : st.start z < st.commit z = is.numbered.ordered z dz in
        in_series z t other dz dt sole.1 (omega (arith, low, at, own))
  ]

  up_to_first : (z t : ℕ) → Done trace t → st.commit z < st.start t → st.commit z < stamp_at st starts t
  up_to_first z t dt low = elim (at_first t dt) [
    | inl same ↦ omega (arith, low, same)
    | inr sole ↦ let at = sole.0 in let own : st.start t < st.commit t = is.numbered.ordered t dt in omega (arith, low, at, own)
  ]

  from_first : (t u : ℕ) → Done trace t → stamp_at st starts t < st.commit u → st.start t < st.commit u
  from_first t u dt low = elim (at_first t dt) [
    | inl same ↦ omega (arith, low, same)
    | inr sole ↦ let at = sole.0 in let own : st.start t < st.commit t = is.numbered.ordered t dt in omega (arith, low, at, own)
  ]

  first_below : (t u : ℕ) → t ≢ u → Done trace t → Done trace u → st.start t < st.commit u → stamp_at st starts t < st.commit u
  first_below t u other dt du low = elim (at_first t dt) [
    | inl same ↦ omega (arith, low, same)
    | inr sole ↦ let at = sole.0 in
        let before : st.commit t < st.start u = in_series t u other dt du sole.1 low in
        let own : st.start u < st.commit u = is.numbered.ordered u du in
        omega (arith, at, before, own)
  ]

  -- ---- what follows
  pub path_rises : (t u k v w : ℕ) → t ≢ u → Writer trace t k v → Writer trace u k w → stamp_at st starts t < stamp_at st starts (starts + u) → stamp_at st starts (starts + t) < stamp_at st starts u
  path_rises t u k v w other one two low =
      let to = at_commit u in
      let from = at_commit t in
      let start : st.start t < st.commit u = from_first t u one.done (omega (arith, low, to)) in
      let rise : st.commit t < stamp_at st starts u = up_to_first t u two.done (writers_part level trace st is t u k v w other one two start) in
      omega (arith, rise, from)

  pub missed_rises : (r u k value : ℕ) (found : Version) → u ≢ r → u ≢ found.from → OuterRead trace r k (Some found) → Writer trace u k value → stamp_at st starts (starts + found.from) < stamp_at st starts u → stamp_at st starts r < stamp_at st starts (starts + u)
  missed_rises r u k value found other apart outer w low =
      let from = at_commit found.from in
      let to = at_commit u in
      let source = (newest level trace st is r k found outer).writer in
      let start : st.commit found.from < st.start u = down_to_start found.from u (λ same. apart (sym same)) source.done w.done (omega (arith, low, from)) in
      let rise : stamp_at st starts r < st.commit u = first_below r u (λ same. other (sym same)) outer.read.done w.done (reader_misses level trace st is r u k value found outer w start) in
      omega (arith, rise, to)

  pub seen_rises : (r u k value : ℕ) (found : Version) → u ≢ r → u ≢ found.from → OuterRead trace r k (Some found) → Writer trace u k value → stamp_at st starts (starts + u) < stamp_at st starts r → stamp_at st starts (starts + u) < stamp_at st starts found.from
  seen_rises r u k value found other apart outer w low =
      let from = at_commit u in
      let source = (newest level trace st is r k found outer).writer in
      let start : st.commit u < st.start r = down_to_start u r other w.done outer.read.done (omega (arith, low, from)) in
      let rise : st.commit u < stamp_at st starts found.from = up_to_first u found.from source.done (seen_first level trace st is r u k value found apart outer w start) in
      omega (arith, rise, from)

  pub none_rises : (r u k value : ℕ) → u ≢ r → OuterRead trace r k None → Writer trace u k value → stamp_at st starts r < stamp_at st starts (starts + u)
  none_rises r u k value other outer w =
      let to = at_commit u in
      let rise : stamp_at st starts r < st.commit u = first_below r u (λ same. other (sym same)) outer.read.done w.done (reader_of_none_misses level trace st is r u k value outer w) in
      omega (arith, rise, to)

-- ---- of edges one after another
pub leads_none : (edges : List Edge) (x y : ℕ) → x ≡ y → Leads edges x [] y
unfolding Leads
leads_none edges x y same = same

pub leads_push : (edges : List Edge) (x : ℕ) (ps : List ℕ) (y p : ℕ) (e : Edge) → Leads edges x ps y → slice_get edges p ≡ Some e → e.from ≡ y → Leads edges x (ps ++ p ∷ []) e.to
unfolding Leads
leads_push edges x [] y p e l at from = (e, at, from ∙ sym l, refl)
leads_push edges x (q ∷ ps) y p e l at from = (l.0, l.1, l.2, leads_push edges l.0.to ps y p e l.3 at from)

-- what is surely so by the moments that count is asked for
no_time : (x y : Point) → in_time no_moments x y ≡ true → ⊥
no_time x y e = absurd (cc)

asked_in_time : (wanted : Wanted) (level : Level) (times : List Times) (trace : Trace) (x y : Point) → of_done trace x ≡ true → of_done trace y ≡ true → in_time (moments_for wanted level times) x y ≡ true → asked_of wanted level times trace x y ≡ true
asked_in_time Nothing level times trace x y dx dy e = absurd (no_time x y e)
asked_in_time Sessions level times trace x y dx dy e = absurd (no_time x y e)
asked_in_time RealTime level times trace x y dx dy e = all_three (of_done trace x) (of_done trace y) (in_time (moments_of level times) x y) dx dy e
  where
    all_three : (a b c : Bool) → a ≡ true → b ≡ true → c ≡ true → a && b && c ≡ true
    all_three a b c p q r = cc

-- ---- where more is asked for, no less is joined
module _ (level : Level) (less more : Asked) (moments : Moments) (trace : Trace) (covers : (x y : Point) → less x y ≡ true → more x y ≡ true) where
  always_still : (x y : Point) → Always level less trace x y → Always level more trace x y
  always_still x y p = λ st is keeps. p st is (λ a b e. keeps a b (covers a b e))

  up_still : (x y : Point) → UpTo level less trace x y → UpTo level more trace x y
  up_still x y Here = Here
  up_still x y (Under p) = Under (always_still x y p)

  joins_still : (a b : Place) → Joins level less moments trace a b → Joins level more moments trace a b
  joins_still (AtPoint x) (AtPoint y) p = always_still x y p
  joins_still (AtPoint x) (AtMoment b) p = record { point = p.point; up = up_still x p.point p.up; comes = p.comes }
  joins_still (AtMoment a) (AtPoint y) p = record { point = p.point; comes = p.comes; up = up_still p.point y p.up }
  joins_still (AtMoment a) (AtMoment b) (Later low) = Later low
  joins_still (AtMoment a) (AtMoment b) (Through x y behind up by) = Through x y behind (up_still x y up) by

  pub joined_still : (starts points : ℕ) (chain : List ℕ) (edges : List Edge) → AreJoined level less moments trace starts points chain edges → AreJoined level more moments trace starts points chain edges
  joined_still starts points chain edges joined place edge at = joins_still (place_of starts points chain edge.from) (place_of starts points chain edge.to) (joined place edge at)

or_right : (a b : Bool) → b ≡ true → a || b ≡ true
or_right true b e = refl
or_right false b e = e

-- what is asked for is asked for with an order of versions too
pub covers_with : (wanted : Wanted) (level : Level) (times : List Times) (ranks : List Rank) (trace : Trace) (x y : Point) → asked_of wanted level times trace x y ≡ true → asked_with wanted level times ranks trace x y ≡ true
covers_with wanted level times ranks trace x y e = or_right (by_rank ranks x y) (asked_of wanted level times trace x y) e

-- ---- edges that join places, one after another
module _ (level : Level) (wanted : Wanted) (times : List Times) (ranks : List Rank) (trace : Trace) (starts points : ℕ) (chain : List ℕ) (edges : List Edge)
    (joined : AreJoined level (asked_with wanted level times ranks trace) (moments_for wanted level times) trace starts points chain edges) where
  timed : (x y : Point) → of_done trace x ≡ true → of_done trace y ≡ true → in_time (moments_for wanted level times) x y ≡ true → asked_with wanted level times ranks trace x y ≡ true
  timed x y dx dy e = covers_with wanted level times ranks trace x y (asked_in_time wanted level times trace x y dx dy e)

  abbrev Between : ℕ → ℕ → Type 0
  Between x y = Joins level (asked_with wanted level times ranks trace) (moments_for wanted level times) trace (place_of starts points chain x) (place_of starts points chain y)

  leads_join : (x : ℕ) (places : List ℕ) (y : ℕ) → places ≢ [] → Leads edges x places y → Between x y
  unfolding Leads
  leads_join x [] y some leads = absurd (some refl)
  leads_join x (p ∷ []) y some leads = subst (λ (a : ℕ). Between a y) leads.2 (subst (λ (b : ℕ). Between leads.0.from b) leads.3 (joined p leads.0 leads.1))
  leads_join x (p ∷ q ∷ ps) y some leads =
      joins_then level (asked_with wanted level times ranks trace) (moments_for wanted level times) trace timed
      (place_of starts points chain x) (place_of starts points chain leads.0.to) (place_of starts points chain y)
      (subst (λ (a : ℕ). Between a leads.0.to) leads.2 (joined p leads.0 leads.1))
      (leads_join leads.0.to (q ∷ ps) y (λ none. absurd (cc)) leads.3)

  -- edges that lead back to their own node refuse the trace
  pub round_refuses : (places : List ℕ) → IsCycle edges places → Stampable level (asked_with wanted level times ranks trace) trace → ⊥
  round_refuses places cycle stampable =
      let around = joins_round level (asked_with wanted level times ranks trace) (moments_for wanted level times) trace timed (place_of starts points chain cycle.node) (leads_join cycle.node places cycle.node cycle.some cycle.leads) in
      let less = around.1 stampable.stamps stampable.isolated stampable.keeps in
      absurd (omega (arith, less))

  -- a path of edges between nodes of points holds in all stamps
  lead_always : (x y : ℕ) → x < points → y < points → Lead edges x y → Always level (asked_with wanted level times ranks trace) trace (point_of starts x) (point_of starts y)
  lead_always x y low high lead =
      subst (λ (p : Place). Joins level (asked_with wanted level times ranks trace) (moments_for wanted level times) trace p (AtPoint (point_of starts y))) (point_place starts points chain x low)
      (subst (λ (q : Place). Joins level (asked_with wanted level times ranks trace) (moments_for wanted level times) trace (place_of starts points chain x) q) (point_place starts points chain y high)
      (leads_join x lead.places y lead.some lead.leads))

-- ---- of edges that are sure
module _ (task : Task) (readings : List Reading) (order : List Writing) (nodes : Nodes) where
  abbrev whole : List Operation → Trace
  whole operations = trace_of task.transactions operations

  abbrev at_node : Stamping → ℕ → ℕ
  at_node st x = stamp_at st nodes.starts x

  -- edges that hold in all stamps are sure
  pub laid_sure : (edges : List Edge) → nodes.points ≤ nodes.all → AreLaid task.transactions readings order nodes.starts nodes.points edges → AreSure task readings order nodes edges
  laid_sure es room laid = record {
    room = room;
    within = record {
      from = λ place edge at. let low = laid.within.from place edge at in omega (arith, low, room);
      to = λ place edge at. let low = laid.within.to place edge at in omega (arith, low, room);
    };
    joined = λ operations count known. forced_join task.level (asked_by task operations) (moments_for task.wanted task.level task.times) (whole operations) nodes.starts nodes.points task.chain es laid.within
        (laid.forced task.level (asked_by task operations) operations count known);
  }

  outer_of : (operations : List Operation) (i : ℕ) (r : Reading) (answer : Option Version) → AreKnown (whole operations) readings order → slice_get readings i ≡ Some r → r.answer ≡ answer → OuterRead (whole operations) r.txn r.key answer
  outer_of operations i r answer known at same = subst (λ (a : Option Version). OuterRead (whole operations) r.txn r.key a) same (record { place = r.place; read = known.read.read i r at })

  writer_of : (operations : List Operation) (j : ℕ) (b : Writing) (k : ℕ) → AreKnown (whole operations) readings order → slice_get order j ≡ Some b → b.key ≡ k → Writer (whole operations) b.txn k b.value
  writer_of operations j b k known at key = subst (λ (n : ℕ). Writer (whole operations) b.txn n b.value) key (known.wrote.wrote j b at)

  -- ---- the edges that follow
  module _ (operations : List Operation) (count : nodes.starts ≡ starts_of task.level (length task.transactions)) (known : AreKnown (whole operations) readings order) (st : Stamping) (is : IsolatedBy task.level st (whole operations)) where
    path_follows : (t u : Ends) → AreWriters order nodes t u → at_node st t.start < at_node st u.commit → at_node st t.commit < at_node st u.start
    path_follows t u w low =
        let path : at_node st w.a.txn < at_node st (nodes.starts + w.b.txn) = subst (λ (x : ℕ). at_node st x < at_node st (nodes.starts + w.b.txn)) w.first.start (subst (λ (y : ℕ). at_node st t.start < at_node st y) w.second.commit low) in
        subst (λ (x : ℕ). at_node st x < at_node st u.start) (sym w.first.commit) (subst (λ (y : ℕ). at_node st (nodes.starts + w.a.txn) < at_node st y) (sym w.second.start)
        (path_rises task.level (whole operations) st is nodes.starts count w.a.txn w.b.txn w.b.key w.a.value w.b.value w.apart (writer_of operations w.i w.a w.b.key known w.at_a w.key) (writer_of operations w.j w.b w.b.key known w.at_b refl) path))

    missed_follows : (reader : ℕ) (f u : Ends) → IsOther readings order nodes reader f u → at_node st f.commit < at_node st u.start → at_node st reader < at_node st u.commit
    missed_follows reader f u o low =
        let path : at_node st (nodes.starts + o.found.from) < at_node st o.b.txn = subst (λ (x : ℕ). at_node st x < at_node st o.b.txn) o.source.commit (subst (λ (y : ℕ). at_node st f.commit < at_node st y) o.writer.start low) in
        subst (λ (x : ℕ). at_node st x < at_node st u.commit) (sym o.reading) (subst (λ (y : ℕ). at_node st o.r.txn < at_node st y) (sym o.writer.commit)
        (missed_rises task.level (whole operations) st is nodes.starts count o.r.txn o.b.txn o.r.key o.b.value o.found o.apart o.other (outer_of operations o.i o.r (Some o.found) known o.at_r o.answer) (writer_of operations o.j o.b o.r.key known o.at_b o.key) path))

    seen_follows : (reader : ℕ) (f u : Ends) → IsOther readings order nodes reader f u → at_node st u.commit < at_node st reader → at_node st u.commit < at_node st f.start
    seen_follows reader f u o low =
        let path : at_node st (nodes.starts + o.b.txn) < at_node st o.r.txn = subst (λ (x : ℕ). at_node st x < at_node st o.r.txn) o.writer.commit (subst (λ (y : ℕ). at_node st u.commit < at_node st y) o.reading low) in
        subst (λ (x : ℕ). at_node st x < at_node st f.start) (sym o.writer.commit) (subst (λ (y : ℕ). at_node st (nodes.starts + o.b.txn) < at_node st y) (sym o.source.start)
        (seen_rises task.level (whole operations) st is nodes.starts count o.r.txn o.b.txn o.r.key o.b.value o.found o.apart o.other (outer_of operations o.i o.r (Some o.found) known o.at_r o.answer) (writer_of operations o.j o.b o.r.key known o.at_b o.key) path))

    none_follows : (reader : ℕ) (u : Ends) → IsUnread readings order nodes reader u → at_node st reader < at_node st u.commit
    none_follows reader u o =
        subst (λ (x : ℕ). at_node st x < at_node st u.commit) (sym o.reading) (subst (λ (y : ℕ). at_node st o.r.txn < at_node st y) (sym o.writer.commit)
        (none_rises task.level (whole operations) st is nodes.starts count o.r.txn o.b.txn o.r.key o.b.value o.apart (outer_of operations o.i o.r None known o.at_r o.answer) (writer_of operations o.j o.b o.r.key known o.at_b o.key)))

  path_always : (operations : List Operation) (es : List Edge) (x y : ℕ) → x < nodes.points → y < nodes.points → Lead es x y → JoinsAll task nodes operations es → Always task.level (asked_by task operations) (whole operations) (point_of nodes.starts x) (point_of nodes.starts y)
  path_always operations es x y low high lead joined = lead_always task.level task.wanted task.times task.ranks (whole operations) nodes.starts nodes.points task.chain es joined x y low high lead

  -- the first node of a transaction stands before its second
  first_within : (t : ℕ) (e : Ends) → AreEnds nodes t e → e.start < nodes.points
  first_within t e are = let within = are.within in let start = are.start in omega (arith, within, start)

  last_within : (t : ℕ) (e : Ends) → AreEnds nodes t e → e.commit < nodes.points
  last_within t e are = let within = are.within in let commit = are.commit in omega (arith, within, commit)

  follows_always : (es : List Edge) (edge : Edge) (operations : List Operation) → nodes.starts ≡ starts_of task.level (length task.transactions) → AreKnown (whole operations) readings order → JoinsAll task nodes operations es →
      Follows readings order nodes es edge → Always task.level (asked_by task operations) (whole operations) (point_of nodes.starts edge.from) (point_of nodes.starts edge.to)
  follows_always es _ operations count known joined (OfPath t u are lead) = λ st is keeps. path_follows operations count known st is t u are (path_always operations es t.start u.commit (first_within are.a.txn t are.first) (last_within are.b.txn u are.second) lead joined st is keeps)
  follows_always es _ operations count known joined (OfMissed reader f u are lead) = λ st is keeps. missed_follows operations count known st is reader f u are (path_always operations es f.commit u.start (last_within are.found.from f are.source) (first_within are.b.txn u are.writer) lead joined st is keeps)
  follows_always es _ operations count known joined (OfSeen reader f u are lead) = λ st is keeps. seen_follows operations count known st is reader f u are (path_always operations es u.commit reader (last_within are.b.txn u are.writer) are.within lead joined st is keeps)
  follows_always es _ operations count known joined (OfNone reader u are) = λ st is keeps. none_follows operations count known st is reader u are

  -- an edge that follows may be laid
  pub may_follow : (old new : List Edge) (edge : Edge) → MayLay nodes.points edge old new → Follows readings order nodes old edge → AreSure task readings order nodes old → AreSure task readings order nodes new
  may_follow old new edge may follows sure = record {
    room = sure.room;
    within = within_laid may;
    joined = λ operations count known. join_laid task.level (asked_by task operations) (moments_for task.wanted task.level task.times) (whole operations) nodes.starts nodes.points nodes.points task.chain old new edge may
        (λ from to. points_join task.level (asked_by task operations) (moments_for task.wanted task.level task.times) (whole operations) nodes.starts nodes.points task.chain edge.from edge.to from to
        (follows_always old edge operations count known (sure.joined operations count known) follows))
        (sure.joined operations count known);
  }
    where
      within_laid : MayLay nodes.points edge old new → AreWithin nodes.all new
      within_laid (LeftOut same) = subst (λ (es : List Edge). AreWithin nodes.all es) (sym same) sure.within
      within_laid (LaidOn same low high) = subst (λ (es : List Edge). AreWithin nodes.all es) (sym same) (record {
        from = λ place e at. elim (get_push_cases old edge place e at) [ inl before ↦ sure.within.from place e before | inr last ↦ subst (λ (x : Edge). x.from < nodes.all) last (let room = sure.room in omega (arith, low, room)) ];
        to = λ place e at. elim (get_push_cases old edge place e at) [ inl before ↦ sure.within.to place e before | inr last ↦ subst (λ (x : Edge). x.to < nodes.all) last (let room = sure.room in omega (arith, high, room)) ];
      })
