-- Why certified ranks tell what lists do.
use Rattle.std.proofs.Common.{◌≡◌, ℕ, zero, suc, ◌+◌, ◌<◌, ◌≤◌, ◌⊎◌, List, ◌++◌, Option, Some, None, length, get_or, slice_get, take, inl, inr, refl, sym, subst, ap, ◌∙◌, arith}
use Rattle.std.proofs.lemmas.Option.{same_Some, slice_get_within, slice_get-get_or}
use Rattle.std.specs.Map.{lookup}
use Rattle.trace_rules.specs.declared.trace.Operation.TheVariants.{Read}
use Rattle.trace_rules.specs.declared.trace.Version.{Version}
use Rattle.trace_rules.specs.declared.wanted.Level.{Level}
use Rattle.trace_rules.specs.Trace.{Trace, Done, last_of}
use Rattle.trace_rules.specs.Stamping.{IsolatedBy, Keeps, Newest, RightAnswer, Stamping, Start, Commit}
use Rattle.version_ranks.specs.declared.rank.Rank.{Rank}
use Rattle.version_ranks.specs.Ranks.{by_rank}
use Rattle.list_orders.specs.declared.listing.Listing.{Listing}
use Rattle.list_orders.specs.Lists.{SeesValues, WriteAt}
use Rattle.list_orders.specs.Listings.{SeesAll, values_of}
use Rattle.list_orders.specs.Told.{IsBegun, IsCutOff, IsRanked, TellsKey}
use Rattle.list_orders.proofs.ListLemmas.{told_first}
use Rattle.list_orders.proofs.SeesLemmas.{sees_nothing, sees_others, sees_own}
use Rattle.list_ranks.specs.declared.homes.Append.{Append}
use Rattle.list_ranks.specs.Hints.{Hints, IsHome, longest_of, pair_eq, place_at, rank_among, rank_of, version_in, version_of, writer_at}
use Rattle.list_ranks.specs.Certified.{AreCertified, AreMembers, AreSteps, IsChosen, IsFine, IsLast, IsLastOf, IsLeft, IsPlaced, IsRest}
use Rattle.list_ranks.specs.Told.{AllDone, AreTold}
use Rattle.list_ranks.proofs.HintLemmas.{once_home, place_is, writer_is}
use Rattle.list_ranks.proofs.RankLemmas.{ArePair, behind, kept_in_front, pair_by, pair_comes, parted, rank_is}

-- a rank that is found stands somewhere
rank_place : (ranks : List Rank) (o : Option ℕ) (r : Rank) → rank_among ranks o ≡ Some r → (p : ℕ) × (slice_get ranks p ≡ Some r)
rank_place ranks None r e = absurd (cc)
rank_place ranks (Some p) r e = (p, e)

module _ (trace : Trace) (listed : List ℕ) (lists : List Listing) (versions : List Rank) (hints : Hints) (c : AreCertified trace listed lists versions hints) where
  abbrev All : List Rank
  All = versions ++ hints.ranks

  -- ---- the longest list of a key
  module _ (k : ℕ) (big : Listing) (chosen : IsChosen trace lists hints k big) where
    abbrev Values : List ℕ
    Values = values_of listed big

    fine : IsFine trace listed lists hints chosen.place big
    fine = c.fine chosen.place (slice_get_within lists chosen.place big chosen.stands) big chosen.stands chosen.done

    members : AreMembers trace hints k Values
    members = subst (λ (n : ℕ). AreMembers trace hints n Values) chosen.same fine.members

    steps : AreSteps trace hints k Values
    steps = subst (λ (n : ℕ). AreSteps trace hints n Values) chosen.same (fine.steps (ap (λ (n : ℕ). longest_of hints n) chosen.same ∙ chosen.found))

    abbrev Place : ℕ → ℕ
    Place i = place_at hints k Values i

    abbrev Wrote : ℕ → ℕ
    Wrote i = writer_at trace hints k Values i

    pub in_place : (i v : ℕ) (a : Append) → slice_get Values i ≡ Some v → IsHome trace hints k v a → Place i ≡ a.place
    in_place i v a at home = place_is trace hints k Values i v a at home

    pub by_writer : (i v : ℕ) (a : Append) → slice_get Values i ≡ Some v → IsHome trace hints k v a → Wrote i ≡ a.txn
    by_writer i v a at home = writer_is trace hints k Values i v a at home

    wrote : (i v : ℕ) → slice_get Values i ≡ Some v → WriteAt trace (Place i) (Wrote i) k v
    wrote i v at =
        let m = members i v at in
        subst (λ (q : ℕ). WriteAt trace q (Wrote i) k v) (sym (in_place i v m.append at m.home))
        (subst (λ (w : ℕ). WriteAt trace m.append.place w k v) (sym (by_writer i v m.append at m.home)) m.home.wrote)

    done : (i v : ℕ) → slice_get Values i ≡ Some v → Done trace (Wrote i)
    done i v at = let m = members i v at in subst (λ (w : ℕ). Done trace w) (sym (by_writer i v m.append at m.home)) m.done

    once : (i v q w : ℕ) → slice_get Values i ≡ Some v → WriteAt trace q w k v → q ≡ Place i
    once i v q w at one = let m = members i v at in once_home trace hints k c.homes v m.append m.home q w one ∙ sym (in_place i v m.append at m.home)

    rises : (i : ℕ) → suc i < length Values → ((Wrote i ≡ Wrote (suc i)) × (Place i < Place (suc i))) ⊎ (version_of hints k (Wrote i) < version_of hints k (Wrote (suc i)))
    rises i within =
        let s = steps i (omega (arith, within)) in
        let x = get_or Values (suc i) 0 in
        let at_x : slice_get Values (suc i) ≡ Some x = slice_get-get_or Values (suc i) 0 within in
        let n = s.next x at_x in
        let w = by_writer i s.value s.append s.at s.home in
        let u = by_writer (suc i) x n.append at_x n.home in
        let q = in_place i s.value s.append s.at s.home in
        let r = in_place (suc i) x n.append at_x n.home in
        elim n.way [
          | inl same ↦ let less = same.1 in inl (w ∙ same.0 ∙ sym u, omega (arith, less, q, r))
          | inr more ↦ inr (subst (λ (m : ℕ). version_of hints k m < version_of hints k (Wrote (suc i))) (sym w) (subst (λ (m : ℕ). version_of hints k s.append.txn < version_of hints k m) (sym u) more))
        ]

    low : (i : ℕ) → i < length Values → version_of hints k (Wrote i) < length Values
    low i within = let s = steps i within in subst (λ (m : ℕ). version_of hints k m < length Values) (sym (by_writer i s.value s.append s.at s.home)) s.low

    placed : (q w v : ℕ) → WriteAt trace q w k v → Done trace w → IsPlaced trace listed lists hints q w k v chosen.place
    placed q w v at is = c.placed q (slice_get_within trace.operations q _ at) w k v chosen.place at is chosen.found

    cut : (q w : ℕ) → IsLeft trace hints k Values q w → IsCutOff Values Place Wrote q w
    cut q w left =
        let b = left.behind in
        let p = in_place left.last left.value left.append left.at left.home in
        record {
          last = left.last;
          value = left.value;
          end = left.end;
          at = left.at;
          same = left.same ∙ sym (by_writer left.last left.value left.append left.at left.home);
          behind = omega (arith, b, p);
        }

    rest : (q w v : ℕ) → WriteAt trace q w k v → Done trace w → ((i : ℕ) × (slice_get Values i ≡ Some v)) ⊎ (version_of hints k w ≡ length Values) ⊎ IsCutOff Values Place Wrote q w
    rest q w v at is =
        let p = placed q w v at is in
        let same : p.big ≡ big = same_Some p.big big (sym p.stands ∙ chosen.stands) in
        of_rest (subst (λ (l : Listing). IsRest trace hints (values_of listed l) q w k v) same p.rest)
      where
        of_rest : IsRest trace hints Values q w k v → ((i : ℕ) × (slice_get Values i ≡ Some v)) ⊎ (version_of hints k w ≡ length Values) ⊎ IsCutOff Values Place Wrote q w
        of_rest (inl there) = inl there
        of_rest (inr (inl last)) = inr (inl last)
        of_rest (inr (inr left)) = inr (inr (cut q w left))

    ranked : (q w v : ℕ) → WriteAt trace q w k v → Done trace w → IsRanked All (hints.above + k) (version_of hints k w) w
    ranked q w v at is =
        let r = (placed q w v at is).rank in
        let there = rank_place hints.ranks (lookup (pair_eq (k, w)) hints.places) r.rank r.found in
        let p = behind versions hints.ranks there.0 r.rank there.1 in
        record { place = p.0; stands = p.1 ∙ ap Some (rank_is r.rank (hints.above + k) (version_of hints k w) w r.name (sym (ap version_in r.found)) r.writer) }

    only : (n w : ℕ) → IsRanked All (hints.above + k) n w → (n ≡ version_of hints k w) × (q : ℕ) × (v : ℕ) × WriteAt trace q w k v × Done trace w
    only n w r = elim (parted versions hints.ranks r.place (record { key = hints.above + k; version = n; txn = w }) r.stands) [
      | inl front ↦ let less = c.lower r.place (slice_get_within versions r.place _ front) (record { key = hints.above + k; version = n; txn = w }) front in absurd (omega (arith, less))
      | inr there ↦
          let t = c.true_ranks there.0 (slice_get_within hints.ranks there.0 _ there.1) (record { key = hints.above + k; version = n; txn = w }) there.1 in
          let name = t.name in
          let same : t.key ≡ k = omega (arith, name) in (
            sym (subst (λ (m : ℕ). version_of hints m w ≡ n) same t.version),
            t.place,
            t.value,
            subst (λ (m : ℕ). WriteAt trace t.place w m t.value) same t.wrote,
            t.done,
          )
    ]

    pub tells : TellsKey trace All (hints.above + k) k Values
    tells = record {
      place = λ i. Place i;
      writer = λ i. Wrote i;
      version = λ w. version_of hints k w;
      wrote = wrote;
      done = done;
      once = once;
      rises = rises;
      low = low;
      rest = rest;
      ranked = ranked;
      only = only;
    }

  -- ---- under stamps that isolate the trace
  module _ (level : Level) (st : Stamping) (is : IsolatedBy level st trace) where
    -- where lists are read right, the order that they tell is kept
    pair_kept : SeesAll st trace listed lists → Keeps (by_rank versions) st → (t u : ℕ) → ArePair All t u → st.commit t < st.start u
    pair_kept sees kept t u r = elim (parted versions hints.ranks r.i r.a r.at_a) [
      | inl front ↦ elim (parted versions hints.ranks r.j r.b r.at_b) [
        | inl also ↦ kept (Commit t) (Start u) (pair_comes versions t u (record { i = r.i; j = r.j; a = r.a; b = r.b; at_a = front; at_b = also; first = r.first; second = r.second; key = r.key; less = r.less }))
        | inr there ↦
            let b_true = c.true_ranks there.0 (slice_get_within hints.ranks there.0 r.b there.1) r.b there.1 in
            let name = b_true.name in
            let key = r.key in
            let low = c.lower r.i (slice_get_within versions r.i r.a front) r.a front in
            absurd (omega (arith, name, key, low))
      ]
      | inr here ↦
          let a_true = c.true_ranks here.0 (slice_get_within hints.ranks here.0 r.a here.1) r.a here.1 in
          of_key a_true.key a_true.big a_true.chosen a_true.name
    ]
      where
        of_key : (k : ℕ) (big : Listing) (chosen : IsChosen trace lists hints k big) → r.a.key ≡ hints.above + k → st.commit t < st.start u
        of_key k big chosen name =
            let seen : SeesValues st trace big.place big.txn k (values_of listed big) =
            subst (λ (n : ℕ). SeesValues st trace big.place big.txn n (values_of listed big)) chosen.same (sees.each chosen.place big chosen.stands chosen.done) in
            let one : IsRanked All (hints.above + k) r.a.version t = record { place = r.i; stands = r.at_a ∙ ap Some (rank_is r.a (hints.above + k) r.a.version t name refl r.first) } in
            let two : IsRanked All (hints.above + k) r.b.version u = record { place = r.j; stands = r.at_b ∙ ap Some (rank_is r.b (hints.above + k) r.b.version u (sym r.key ∙ name) refl r.second) } in
            told_first level trace st is All (hints.above + k) k (values_of listed big) (tells k big chosen) big.place big.txn chosen.done seen r.a.version r.b.version t u one two r.less

    all_kept : SeesAll st trace listed lists → Keeps (by_rank versions) st → Keeps (by_rank All) st
    all_kept sees kept (Commit t) (Start u) e = pair_kept sees kept t u (pair_by All t u e)
    all_kept sees kept (Commit t) (Commit u) e = absurd (cc)
    all_kept sees kept (Start t) y e = absurd (cc)

    -- and where it is kept, lists are read right
    module _ (kept : Keeps (by_rank All) st) (place : ℕ) (l : Listing) (within : place < length lists) (stands : slice_get lists place ≡ Some l) (reader : Done trace l.txn) where
      abbrev Mine : List ℕ
      Mine = values_of listed l

      this : IsFine trace listed lists hints place l
      this = c.fine place within l stands reader

      abbrev Own : Option ℕ
      Own = last_of (take l.place trace.operations) l.txn l.key

      none_seen : (own : Option ℕ) → Own ≡ own → length Mine ≡ 0 → RightAnswer st trace l.txn l.key None own → SeesValues st trace l.place l.txn l.key Mine
      none_seen None none empty right = sees_nothing level trace st is l.key Mine l.place l.txn empty right none
      none_seen (Some o) some empty right = absurd (cc)

      some_seen : (found : Version) (last : IsLast trace hints l.key Mine found) (own : Option ℕ) → Own ≡ own → RightAnswer st trace l.txn l.key (Some found) own → SeesValues st trace l.place l.txn l.key Mine
      unfolding tells
      some_seen found last own is_own right =
          let end = last.end in
          let b = this.begun (omega (arith, end)) in
          of_big b.big b.chosen b.begun own is_own right
        where
          of_big : (big : Listing) (chosen : IsChosen trace lists hints l.key big) → IsBegun (values_of listed big) Mine → (own : Option ℕ) → Own ≡ own → RightAnswer st trace l.txn l.key (Some found) own → SeesValues st trace l.place l.txn l.key Mine
          of_big big chosen begun own is_own right = by own is_own right
            where
              in_big : slice_get (values_of listed big) last.last ≡ Some found.value
              in_big = let end = last.end in sym (begun.same last.last (omega (arith, end))) ∙ last.at

              from : writer_at trace hints l.key (values_of listed big) last.last ≡ found.from
              from = by_writer l.key big chosen last.last found.value last.append in_big last.home ∙ sym last.from

              by : (own : Option ℕ) → Own ≡ own → RightAnswer st trace l.txn l.key (Some found) own → SeesValues st trace l.place l.txn l.key Mine
              by None none newest =
                  sees_others level trace st is All (hints.above + l.key) l.key (values_of listed big) (tells l.key big chosen) kept Mine begun l.place l.txn reader last.last found.value last.end last.at
                  (subst (λ (w : ℕ). Newest st trace (st.start l.txn) l.key (record { from = w; value = found.value })) (sym from) newest) none
              by (Some o) some answer =
                  let same : found ≡ record { from = l.txn; value = o } = same_Some found (record { from = l.txn; value = o }) answer in
                  sees_own level trace st is All (hints.above + l.key) l.key (values_of listed big) (tells l.key big chosen) kept Mine begun l.place l.txn reader last.last found.value last.end last.at
                  (from ∙ ap (λ (x : Version). x.from) same) (some ∙ ap Some (sym (ap (λ (x : Version). x.value) same)))

      list_seen : SeesValues st trace l.place l.txn l.key Mine
      list_seen = by this.read.answer this.read.stands this.read.found
        where
          by : (answer : Option Version) → slice_get trace.operations l.place ≡ Some (Read l.txn l.key answer) → IsLastOf trace hints l.key Mine answer → SeesValues st trace l.place l.txn l.key Mine
          by None at empty = none_seen Own refl empty (is.reads l.place l.txn l.key None Own (record { done = reader; stands = at; before = refl }))
          by (Some found) at last = some_seen found last Own refl (is.reads l.place l.txn l.key (Some found) Own (record { done = reader; stands = at; before = refl }))

  pub certified_tell : AreTold trace listed lists versions All
  certified_tell = record {
    keeps = λ level st is kept sees. all_kept level st is sees kept;
    sees = λ level st is kept. record { each = λ i l at done. list_seen level st is kept i l (slice_get_within lists i l at) at done };
    fewer = λ st kept. kept_in_front versions hints.ranks st kept;
    done = all_done;
  }
    where
      all_done : ((p : ℕ) (r : Rank) → slice_get versions p ≡ Some r → Done trace r.txn) → (p : ℕ) (r : Rank) → slice_get All p ≡ Some r → Done trace r.txn
      all_done given p r at = elim (parted versions hints.ranks p r at) [
        | inl front ↦ given p r front
        | inr there ↦ (c.true_ranks there.0 (slice_get_within hints.ranks there.0 r there.1) r there.1).done
      ]

-- ---- where there is no list
nobody : (lists : List Listing) (i : ℕ) (l : Listing) → length lists ≡ 0 → slice_get lists i ≡ Some l → ⊥
nobody lists i l none at = let within = slice_get_within lists i l at in absurd (omega (arith, within, none))

-- the versions tell all
pub none_tell : (trace : Trace) (listed : List ℕ) (lists : List Listing) (versions ranks : List Rank) → length lists ≡ 0 → ranks ≡ versions → AreTold trace listed lists versions ranks
none_tell trace listed lists versions ranks none same = subst (λ (rs : List Rank). AreTold trace listed lists versions rs) (sym same) (record {
  keeps = λ level st is kept sees. kept;
  sees = λ level st is kept. record { each = λ i l at done. absurd (nobody lists i l none at) };
  fewer = λ st kept. kept;
  done = λ given. given;
})

-- and no member is of an uncommitted transaction
pub none_dirty : (trace : Trace) (listed : List ℕ) (lists : List Listing) → length lists ≡ 0 → AllDone trace listed lists
none_dirty trace listed lists none = record { each = λ i l at done. absurd (nobody lists i l none at) }

pub told_ranks : (trace : Trace) (listed : List ℕ) (lists : List Listing) (versions : List Rank) (hints : Hints) (ranks : List Rank) → AreCertified trace listed lists versions hints → ranks ≡ versions ++ hints.ranks → AreTold trace listed lists versions ranks
told_ranks trace listed lists versions hints ranks c same = subst (λ (rs : List Rank). AreTold trace listed lists versions rs) (sym same) (certified_tell trace listed lists versions hints c)
