-- Why the edges hold in all stamps.
use Rattle.std.proofs.Common.{◌≡◌, ◌≢◌, ℕ, ◌+◌, ◌-◌, ◌<◌, ◌≤◌, nat_lt, Bool, true, false, List, [], ◌∷◌, ◌++◌, Option, Some, None, length, slice_get, inl, inr, refl, sym, subst, ap, ◌∙◌, arith}
use Rattle.std.proofs.lemmas.Option.{slice_get_within}
use Rattle.trace_rules.specs.declared.trace.Operation.{Operation}
use Rattle.trace_rules.specs.declared.trace.Transaction.{Transaction}
use Rattle.trace_rules.specs.declared.trace.Version.{Version}
use Rattle.trace_rules.specs.declared.wanted.Level.{Level}
use Rattle.trace_rules.specs.declared.wanted.Level.TheVariants.{Snapshot, Serializable}
use Rattle.trace_rules.specs.Trace.{Trace, Done, Writer, OuterRead, committed_in}
use Rattle.trace_rules.specs.Stamping.{Asked, Conflict, Point, Start, Commit}
use Rattle.trace_rules.specs.Below.{Below, Own, ReadsFrom, Misses, MissesAll, Parts, Then}
use Rattle.rising_numbers.specs.declared.Edge.{Edge}
use Rattle.rising_numbers.specs.Rises.{AreWithin}
use Rattle.outer_reads.specs.declared.writings.Writing.{Writing}
use Rattle.outer_reads.specs.declared.readings.Reading.{Reading}
use Rattle.outer_reads.specs.Sources.{AreKnown, trace_of}
use Rattle.outer_reads.proofs.ListLemmas.{get_push_cases}
use Rattle.trace_edges.specs.Edges.{starts_of, pick, point_of, AreLaid, IsSure, OfRead, OfMissed, OfApart, IsWitnessed, MayLay, LeftOut, LaidOn}

pub done_within : (trace : Trace) (t : ℕ) → Done trace t → t < length trace.transactions
done_within trace t done = by (slice_get trace.transactions t) refl
  where
    by : (o : Option Transaction) → slice_get trace.transactions t ≡ o → t < length trace.transactions
    by None is = absurd (let none : committed_in None ≡ true = ap (λ (x : Option Transaction). committed_in x) (sym is) ∙ done in cc)
    by (Some x) is = slice_get_within trace.transactions t x is

-- ---- which point a node is
pub lower : (a b : ℕ) → a < b → nat_lt a b ≡ true
lower a b less = by (nat_lt a b) refl
  where
    by : (c : Bool) → nat_lt a b ≡ c → nat_lt a b ≡ true
    by true is = is
    by false is = grind (arith, is, less)

pub not_lower : (a b : ℕ) → b ≤ a → nat_lt a b ≡ false
not_lower a b most = by (nat_lt a b) refl
  where
    by : (c : Bool) → nat_lt a b ≡ c → nat_lt a b ≡ false
    by false is = is
    by true is = grind (arith, is, most)

pub commit_point : (starts t : ℕ) → point_of starts (starts + t) ≡ Commit t
commit_point starts t = ap (λ (b : Bool). pick b starts (starts + t)) (not_lower (starts + t) starts (omega arith)) ∙ ap Commit (back starts t)
  where
    back : (s t : ℕ) → s + t - s ≡ t
    back s t = omega arith

pub start_point : (starts t : ℕ) → t < starts → point_of starts t ≡ Start t
start_point starts t low = ap (λ (b : Bool). pick b starts t) (lower t starts low)

pub sole_point : (t : ℕ) → point_of 0 t ≡ Commit t
sole_point t = ap (λ (b : Bool). pick b 0 t) (not_lower t 0 (omega arith)) ∙ ap Commit (whole t)
  where
    whole : (t : ℕ) → t - 0 ≡ t
    whole t = omega arith

-- what is below a start is below the node that stands for it, and what is above a start is above that
module _ (asked : Asked) (trace : Trace) (t : ℕ) (done : Done trace t) where
  to_start : (level : Level) (x : Point) → Below level asked trace x (Start t) → Below level asked trace x (point_of (starts_of level (length trace.transactions)) t)
  to_start Snapshot x below = subst (λ (y : Point). Below Snapshot asked trace x y) (sym (start_point (length trace.transactions) t (done_within trace t done))) below
  to_start Serializable x below = subst (λ (y : Point). Below Serializable asked trace x y) (sym (sole_point t)) (Then below (Own done))

module _ (level : Level) (asked : Asked) (trace : Trace) (starts : ℕ) (is : starts ≡ starts_of level (length trace.transactions)) where
  pub at_start : (t : ℕ) (x : Point) → Done trace t → Below level asked trace x (Start t) → Below level asked trace x (point_of starts t)
  at_start t x done below = subst (λ (s : ℕ). Below level asked trace x (point_of s t)) (sym is) (to_start asked trace t done level x below)

  pub from_commit : (t y : ℕ) → Below level asked trace (Commit t) (point_of starts y) → Below level asked trace (point_of starts (starts + t)) (point_of starts y)
  from_commit t y below = subst (λ (x : Point). Below level asked trace x (point_of starts y)) (sym (commit_point starts t)) below

  pub read_forced : (t k : ℕ) (found : Version) → OuterRead trace t k (Some found) → Below level asked trace (point_of starts (starts + found.from)) (point_of starts t)
  read_forced t k found outer = from_commit found.from t (at_start t (Commit found.from) outer.read.done (ReadsFrom k found outer))

-- a reader comes before what it did not see
reader_first : (level : Level) (asked : Asked) (trace : Trace) (t u : ℕ) → t ≢ u → Done trace t → Done trace u → Below level asked trace (Start t) (Commit u) → Below level asked trace (point_of (starts_of level (length trace.transactions)) t) (Commit u)
reader_first Snapshot asked trace t u other dt du below = subst (λ (x : Point). Below Snapshot asked trace x (Commit u)) (sym (start_point (length trace.transactions) t (done_within trace t dt))) below
reader_first Serializable asked trace t u other dt du below = subst (λ (x : Point). Below Serializable asked trace x (Commit u)) (sym (sole_point t)) (Then (Parts other (record { first = dt; second = du }) below) (Own du))

module _ (level : Level) (asked : Asked) (trace : Trace) (starts : ℕ) (is : starts ≡ starts_of level (length trace.transactions)) where
  misses_forced : (t u : ℕ) → t ≢ u → Done trace t → Done trace u → Below level asked trace (Start t) (Commit u) → Below level asked trace (point_of starts t) (point_of starts (starts + u))
  misses_forced t u other dt du below = subst (λ (y : Point). Below level asked trace (point_of starts t) y) (sym (commit_point starts u))
      (subst (λ (s : ℕ). Below level asked trace (point_of s t) (Commit u)) (sym is) (reader_first level asked trace t u other dt du below))

  pub missed_forced : (t u k value : ℕ) (found same : Version) → t ≢ u → OuterRead trace t k (Some found) → OuterRead trace u k (Some same) → same.from ≡ found.from → Writer trace u k value → Below level asked trace (point_of starts t) (point_of starts (starts + u))
  missed_forced t u k value found same other outer witness from w =
      misses_forced t u other outer.read.done w.done (Misses k value found outer w (subst (λ (f : ℕ). Below level asked trace (Commit f) (Start u)) from (ReadsFrom k same witness)))

  pub missed_none_forced : (t u k value : ℕ) → t ≢ u → OuterRead trace t k None → Writer trace u k value → Below level asked trace (point_of starts t) (point_of starts (starts + u))
  missed_none_forced t u k value other outer w = misses_forced t u other outer.read.done w.done (MissesAll k value outer w)

  pub own_forced : (t : ℕ) → 0 < starts → Done trace t → Below level asked trace (point_of starts t) (point_of starts (starts + t))
  own_forced t some done = subst (λ (y : Point). Below level asked trace (point_of starts t) y) (sym (commit_point starts t))
      (subst (λ (s : ℕ). Below level asked trace (point_of s t) (Commit t)) (sym is) (by level (subst (λ (s : ℕ). 0 < s) is some)))
    where
      by : (l : Level) → 0 < starts_of l (length trace.transactions) → Below l asked trace (point_of (starts_of l (length trace.transactions)) t) (Commit t)
      by Snapshot some = subst (λ (x : Point). Below Snapshot asked trace x (Commit t)) (sym (start_point (length trace.transactions) t (done_within trace t done))) (Own done)
      by Serializable some = absurd (omega (arith, some))

-- two that wrote one key
both_wrote : (level : Level) (trace : Trace) (t u k v w : ℕ) → Writer trace t k v → Writer trace u k w → Conflict level trace t u
both_wrote Snapshot trace t u k v w one two = record { key = k; value = v; other = w; first = one; second = two }
both_wrote Serializable trace t u k v w one two = record { first = one.done; second = two.done }

module _ (level : Level) (asked : Asked) (trace : Trace) (starts : ℕ) (is : starts ≡ starts_of level (length trace.transactions)) where
  pub apart_forced : (t u k v w : ℕ) → t ≢ u → Writer trace t k v → Writer trace u k w → Below level asked trace (Start t) (Commit u) → Below level asked trace (point_of starts (starts + t)) (point_of starts u)
  apart_forced t u k v w other one two below = from_commit level asked trace starts is t u (at_start level asked trace starts is u (Commit t) two.done (Parts other (both_wrote level trace t u k v w one two) below))

-- ---- edges laid
pub none_laid : (transactions : List Transaction) (readings : List Reading) (order : List Writing) (starts nodes : ℕ) → AreLaid transactions readings order starts nodes []
none_laid transactions readings order starts nodes = record {
  within = record { from = λ place edge at. absurd (none place edge at); to = λ place edge at. absurd (none place edge at) };
  forced = λ level asked operations is known place edge at. absurd (none place edge at);
}
  where
    none : (place : ℕ) (edge : Edge) → slice_get {X = Edge} [] place ≡ Some edge → ⊥
    none place edge at = cc

pub one_laid : (transactions : List Transaction) (readings : List Reading) (order : List Writing) (starts nodes : ℕ) (edges new : List Edge) (edge : Edge) →
    new ≡ edges ++ edge ∷ [] → edge.from < nodes → edge.to < nodes →
    ((level : Level) (asked : Asked) (operations : List Operation) → starts ≡ starts_of level (length transactions) → AreKnown (trace_of transactions operations) readings order → Below level asked (trace_of transactions operations) (point_of starts edge.from) (point_of starts edge.to)) →
    AreLaid transactions readings order starts nodes edges → AreLaid transactions readings order starts nodes new
one_laid transactions readings order starts nodes edges new edge is from to below laid = subst (λ (xs : List Edge). AreLaid transactions readings order starts nodes xs) (sym is) (record {
  within = record {
    from = λ place e at. elim (get_push_cases edges edge place e at) [ inl old ↦ laid.within.from place e old | inr new ↦ subst (λ (x : Edge). x.from < nodes) new from ];
    to = λ place e at. elim (get_push_cases edges edge place e at) [ inl old ↦ laid.within.to place e old | inr new ↦ subst (λ (x : Edge). x.to < nodes) new to ];
  };
  forced = λ level asked operations s known place e at. elim (get_push_cases edges edge place e at) [
    | inl old ↦ laid.forced level asked operations s known place e old
    | inr new ↦ subst (λ (x : Edge). Below level asked (trace_of transactions operations) (point_of starts x.from) (point_of starts x.to)) new (below level asked operations s known)
  ];
})

-- ---- each edge that may be laid keeps what is laid
module _ (transactions : List Transaction) (readings : List Reading) (order : List Writing) (starts nodes : ℕ) (old new : List Edge) (edge : Edge)
    (may : MayLay nodes edge old new) (laid : AreLaid transactions readings order starts nodes old) where
  pub may_laid : ((level : Level) (asked : Asked) (operations : List Operation) → starts ≡ starts_of level (length transactions) → AreKnown (trace_of transactions operations) readings order → Below level asked (trace_of transactions operations) (point_of starts edge.from) (point_of starts edge.to)) →
      AreLaid transactions readings order starts nodes new
  may_laid below = by may
    where
      by : MayLay nodes edge old new → AreLaid transactions readings order starts nodes new
      by (LeftOut same) = subst (λ (xs : List Edge). AreLaid transactions readings order starts nodes xs) (sym same) laid
      by (LaidOn is from to) = one_laid transactions readings order starts nodes old new edge is from to below laid

  pub own_laid : (t : ℕ) → edge.from ≡ t → edge.to ≡ starts + t → 0 < starts → committed_in (slice_get transactions t) ≡ true → AreLaid transactions readings order starts nodes new
  own_laid t from to some done = may_laid (λ level asked operations is known.
      subst (λ (x : ℕ). Below level asked (trace_of transactions operations) (point_of starts x) (point_of starts edge.to)) (sym from)
      (subst (λ (y : ℕ). Below level asked (trace_of transactions operations) (point_of starts t) (point_of starts y)) (sym to)
      (own_forced level asked (trace_of transactions operations) starts is t some done)))

  outer_read : (operations : List Operation) (i : ℕ) (r : Reading) (answer : Option Version) → AreKnown (trace_of transactions operations) readings order → slice_get readings i ≡ Some r → r.answer ≡ answer → OuterRead (trace_of transactions operations) r.txn r.key answer
  outer_read operations i r answer known at is = subst (λ (a : Option Version). OuterRead (trace_of transactions operations) r.txn r.key a) is (record { place = r.place; read = known.read.read i r at })

  missed_below : (level : Level) (asked : Asked) (operations : List Operation) (i next : ℕ) (r : Reading) (b : Writing) (answer : Option Version) → starts ≡ starts_of level (length transactions) → AreKnown (trace_of transactions operations) readings order →
      slice_get readings i ≡ Some r → slice_get order next ≡ Some b → b.key ≡ r.key → b.txn ≢ r.txn → r.answer ≡ answer → IsWitnessed readings answer b →
      Below level asked (trace_of transactions operations) (point_of starts r.txn) (point_of starts (starts + b.txn))
  missed_below level asked operations i next r b None is known at_r at_b key other answer witnessed =
      missed_none_forced level asked (trace_of transactions operations) starts is r.txn b.txn r.key b.value (λ same. other (sym same)) (outer_read operations i r None known at_r answer)
      (subst (λ (k : ℕ). Writer (trace_of transactions operations) b.txn k b.value) key (known.wrote.wrote next b at_b))
  missed_below level asked operations i next r b (Some found) is known at_r at_b key other answer w =
      missed_forced level asked (trace_of transactions operations) starts is r.txn b.txn r.key b.value found w.same (λ same. other (sym same)) (outer_read operations i r (Some found) known at_r answer)
      (subst (λ (t : ℕ). OuterRead (trace_of transactions operations) t r.key (Some w.same)) w.txn
      (subst (λ (k : ℕ). OuterRead (trace_of transactions operations) w.reading.txn k (Some w.same)) (w.key ∙ key) (outer_read operations w.place w.reading (Some w.same) known w.stands w.answer)))
      w.from
      (subst (λ (k : ℕ). Writer (trace_of transactions operations) b.txn k b.value) key (known.wrote.wrote next b at_b))

  start_below : (level : Level) (asked : Asked) (operations : List Operation) (i next : ℕ) (r : Reading) (b : Writing) (answer : Option Version) → AreKnown (trace_of transactions operations) readings order →
      slice_get readings i ≡ Some r → slice_get order next ≡ Some b → b.key ≡ r.key → r.answer ≡ answer → IsWitnessed readings answer b → Below level asked (trace_of transactions operations) (Start r.txn) (Commit b.txn)
  start_below level asked operations i next r b None known at_r at_b key answer witnessed =
      MissesAll r.key b.value (outer_read operations i r None known at_r answer) (subst (λ (k : ℕ). Writer (trace_of transactions operations) b.txn k b.value) key (known.wrote.wrote next b at_b))
  start_below level asked operations i next r b (Some found) known at_r at_b key answer w =
      Misses r.key b.value found (outer_read operations i r (Some found) known at_r answer)
      (subst (λ (k : ℕ). Writer (trace_of transactions operations) b.txn k b.value) key (known.wrote.wrote next b at_b))
      (subst (λ (f : ℕ). Below level asked (trace_of transactions operations) (Commit f) (Start b.txn)) w.from
      (ReadsFrom r.key w.same (subst (λ (t : ℕ). OuterRead (trace_of transactions operations) t r.key (Some w.same)) w.txn
      (subst (λ (k : ℕ). OuterRead (trace_of transactions operations) w.reading.txn k (Some w.same)) (w.key ∙ key) (outer_read operations w.place w.reading (Some w.same) known w.stands w.answer)))))

  own_writer : (operations : List Operation) (mine : ℕ) (r : Reading) (own : Writing) → AreKnown (trace_of transactions operations) readings order → slice_get order mine ≡ Some own → own.key ≡ r.key → own.txn ≡ r.txn → Writer (trace_of transactions operations) r.txn r.key own.value
  own_writer operations mine r own known at key txn =
      subst (λ (t : ℕ). Writer (trace_of transactions operations) t r.key own.value) txn (subst (λ (k : ℕ). Writer (trace_of transactions operations) own.txn k own.value) key (known.wrote.wrote mine own at))

  sure_below : (level : Level) (asked : Asked) (operations : List Operation) → starts ≡ starts_of level (length transactions) → AreKnown (trace_of transactions operations) readings order → IsSure readings order starts edge →
      Below level asked (trace_of transactions operations) (point_of starts edge.from) (point_of starts edge.to)
  sure_below level asked operations is known (OfRead i r found at answer from to) =
      subst (λ (x : ℕ). Below level asked (trace_of transactions operations) (point_of starts x) (point_of starts edge.to)) (sym from)
      (subst (λ (y : ℕ). Below level asked (trace_of transactions operations) (point_of starts (starts + found.from)) (point_of starts y)) (sym to)
      (read_forced level asked (trace_of transactions operations) starts is r.txn r.key found (outer_read operations i r (Some found) known at answer)))
  sure_below level asked operations is known (OfMissed i next r b at_r at_b key other witnessed from to) =
      subst (λ (x : ℕ). Below level asked (trace_of transactions operations) (point_of starts x) (point_of starts edge.to)) (sym from)
      (subst (λ (y : ℕ). Below level asked (trace_of transactions operations) (point_of starts r.txn) (point_of starts y)) (sym to)
      (missed_below level asked operations i next r b r.answer is known at_r at_b key other refl witnessed))
  sure_below level asked operations is known (OfApart i next mine r b own at_r at_b at_own key other own_key own_txn witnessed from to) =
      subst (λ (x : ℕ). Below level asked (trace_of transactions operations) (point_of starts x) (point_of starts edge.to)) (sym from)
      (subst (λ (y : ℕ). Below level asked (trace_of transactions operations) (point_of starts (starts + r.txn)) (point_of starts y)) (sym to)
      (apart_forced level asked (trace_of transactions operations) starts is r.txn b.txn r.key own.value b.value (λ same. other (sym same)) (own_writer operations mine r own known at_own own_key own_txn)
      (subst (λ (k : ℕ). Writer (trace_of transactions operations) b.txn k b.value) key (known.wrote.wrote next b at_b))
      (start_below level asked operations i next r b r.answer known at_r at_b key refl witnessed)))

  pub sure_laid : IsSure readings order starts edge → AreLaid transactions readings order starts nodes new
  sure_laid sure = may_laid (λ level asked operations is known. sure_below level asked operations is known sure)

pub within_laid : (nodes : ℕ) (edge : Edge) (old new : List Edge) → MayLay nodes edge old new → AreWithin nodes old → AreWithin nodes new
within_laid nodes edge old new (LeftOut same) within = subst (λ (xs : List Edge). AreWithin nodes xs) (sym same) within
within_laid nodes edge old new (LaidOn is from to) within = subst (λ (xs : List Edge). AreWithin nodes xs) (sym is) (record {
  from = λ place e at. elim (get_push_cases old edge place e at) [ inl before ↦ within.from place e before | inr last ↦ subst (λ (x : Edge). x.from < nodes) last from ];
  to = λ place e at. elim (get_push_cases old edge place e at) [ inl before ↦ within.to place e before | inr last ↦ subst (λ (x : Edge). x.to < nodes) last to ];
})
