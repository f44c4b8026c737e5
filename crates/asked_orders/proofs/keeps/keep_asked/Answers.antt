use Rattle.std.proofs.Common.{◌≡◌, ℕ, List, length, sym, subst}
use Rattle.trace_rules.specs.declared.wanted.Wanted.{Wanted}
use Rattle.trace_rules.specs.Stamping.{Keeps}
use Rattle.trace_rules.specs.Wants.{asked_of}
use Rattle.outer_reads.specs.Sources.{trace_of}
use Rattle.asked_orders.specs.declared.plan.Turn.{Turn}
use Rattle.asked_orders.specs.Keeps.{AreTimed, HaveTurns, MomentsRise, TurnsRise, stamping_of}
use Rattle.asked_orders.proofs.KeepLemmas.{sessions_kept, times_kept}
use Rattle.asked_orders.proofs.keeps.keep_asked.Goals as goal

pub returns-then-have_turns : goal.returns-then-have_turns
returns-then-have_turns c = λ go operations.
    let first = c.deref.ensures.value in
    let turns : c.deref.result.now ≡ c.args.plan.now.turns.items = cc in
    let second = c.deref-then-have_turns.ensures.value in
    let again : c.deref-then-have_turns.result.now ≡ c.args.plan.now.turns.items = cc in
    let have = subst (λ (ts : List Turn). HaveTurns (length c.args.transactions.now) c.args.transactions.now ts) turns (c.have_turns.ensures c.if-have_turns.true) in
    let rises = subst (λ (ts : List Turn). TurnsRise c.args.nodes.starts c.args.numbers.now (length ts) ts) again (c.turns_rise.ensures go) in
    subst (λ (wanted : Wanted). Keeps (asked_of wanted c.args.level c.args.times.now (trace_of c.args.transactions.now operations)) (stamping_of c.args.level (length c.args.transactions.now) c.args.numbers.now)) (sym c.in-Sessions.is)
    (sessions_kept c.args.level c.args.transactions.now operations c.args.nodes.starts c.args.numbers.now c.args.plan.now.turns.items c.requires have rises)

pub returns-then-moments_rise : goal.returns-then-moments_rise
returns-then-moments_rise c = λ go operations.
    let first = c.deref-in-RealTime.ensures.value in
    let moments : c.deref-in-RealTime.result.now ≡ c.args.plan.now.moments.items = cc in
    let second = c.deref-then-moments_rise.ensures.value in
    let again : c.deref-then-moments_rise.result.now ≡ c.args.plan.now.moments.items = cc in
    let rises = subst (λ (ms : List ℕ). MomentsRise c.args.nodes.points c.args.numbers.now (length ms) ms) moments (c.moments_rise.ensures c.if-moments_rise.true) in
    let timed = subst (λ (ms : List ℕ). AreTimed c.args.level c.args.times.now (length c.args.transactions.now) c.args.transactions.now c.args.nodes.starts c.args.nodes.points ms c.args.numbers.now) again (c.are_timed.ensures go) in
    subst (λ (wanted : Wanted). Keeps (asked_of wanted c.args.level c.args.times.now (trace_of c.args.transactions.now operations)) (stamping_of c.args.level (length c.args.transactions.now) c.args.numbers.now)) (sym c.in-RealTime.is)
    (times_kept c.args.level c.args.times.now c.args.transactions.now operations c.args.nodes.starts c.args.nodes.points c.args.plan.now.moments.items c.args.numbers.now c.requires rises timed)
