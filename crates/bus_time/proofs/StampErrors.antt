-- A stamp errs by what the length of its schedule leaves open, by the host's own start, and by the drift of two clocks.
use Rattle.std.proofs.Common.{◌≡◌, ℕ, ◌+◌, ◌-◌, ◌*◌, ◌/◌, ◌^◌, ◌<◌, ◌≤◌, inl, inr, List, Contains, Bool}
use Rattle.std.proofs.Common.{true, false, ◌==◌, if◌then◌else◌, Some, length, refl, sym, ◌∙◌, ap, subst, arith, eqb-true}
use Rattle.std.proofs.Math.Nat.{add-mul}
use Rattle.lwb_base.specs.Profile.{Numbers, airtime, step}
use Rattle.lwb_base.specs.Messages.{Ask, Schedule}
use Rattle.tick_clock.specs.Clocks.{Near, IsClock}
use Rattle.tick_clock.proofs.Readings.{rounding}
use Rattle.time_reference.specs.Budgets.{budget_of, span}
use Rattle.time_reference.specs.Drift.{drift}
use Rattle.time_reference.specs.Zeros.{start_tick, starting_offset, tick_at_offset, nominal}
use Rattle.time_reference.proofs.Points.{no_clamp}
use Rattle.time_reference.proofs.Rounds.{start}
use Rattle.time_reference.proofs.Steps.{reference_error}
use Rattle.bus_rules.specs.Slots.{ScheduleOf, RequestOf}
use Rattle.lwb_member.specs.Said.{message_of}
use Rattle.node_core.specs.Nodes.{zero_from}
use Rattle.radio_model.specs.declared.sending.Sending.{Sending}
use Rattle.radio_model.specs.Hearing.{frame_of_sending, slot_of_sending, counter_of_sending}
use Rattle.scenario_text.specs.ScenarioParts.{ScenarioParts}
use Rattle.air_log.specs.declared.entry.Entry.{Entry}
use Rattle.air_log.specs.Entries.{sendings_of, HasHeardEntry}
use Rattle.air_log.specs.Safe.{sender_hosts}
use Rattle.air_log.specs.Trails.{run_end}
use Rattle.air_log.proofs.AlarmLoop.{early_in_run}
use Rattle.law_trails.proofs.HeardReferences.{host_starts}
use Rattle.law_trails.proofs.ProfilePackets.{errs_55, errs_48}
use Rattle.law_trails.proofs.SentInTrails.{sent_known, sent_lasts}
use Rattle.law_safety.specs.Beginnings.{MaySay, SaysSchedule}
use Rattle.law_safety.specs.Endings.{EndsInOrder}
use Rattle.law_safety.specs.FloodSendings.{IsOfFlood}
use Rattle.law_safety.specs.SentPlans.{IsHostOf}
use Rattle.law_safety.proofs.FloodPackets.{says_as_origin}
use Rattle.law_safety.proofs.FloodTimes.{frame_of_run, slot_in_round, zero_good}
use Rattle.law_safety.proofs.RunFacts.{host_is, host_known, run_fits}
use Rattle.law_safety.proofs.RunSendings.{of_flood}
use Rattle.law_safety.proofs.SlotFloods.{one_flood}
use Rattle.law_safety.proofs.InvariantHolds.{whole_run}
use Rattle.bus_time.specs.Stamps.{IsReference, tick_by}
use Rattle.bus_time.specs.StampErrors.{BeganFlood, StampsErrLittle, drifted, slack}
use Rattle.bus_time.specs.StampLaws.{BeginsData}
use Rattle.bus_time.proofs.HeardWords.{origin_before, over_before}
use Rattle.bus_time.proofs.StampTimes.{reference_heard}

-- what is left open, next to one tick of the host's start and one of each clock's readings
abbrev open_by : Schedule → ℕ
open_by y = if y.plan.contend == 0 then 48 else 55

open_is : (b : Bool) → ◌≡◌ {A = ℕ} (if b then 51 else 58) ((if b then 48 else 55) + 3)
open_is true = refl
open_is false = refl

-- the sums: N the nominal time of the schedule's start, A its airtime, K its steps, J its slot's offset
sums : (frames ahead lead listen J A K B D N Ht0 Ht Lt0 Lt Le z : ℕ) → N ≡ frames + lead + J + listen → N ≤ Ht0 → Ht0 ≤ N + 1
    → Near Lt (Lt0 + D) (D / 50000 + 1) → Near Ht (Ht0 + D) (D / 50000 + 1) → Near Le (Lt0 + K + A) B → B ≤ 55 → listen + J + 55 ≤ Lt0
    → z ≡ (Le - A) - (K + listen + J) → Near (frames + ahead + lead + Lt - (z + ahead)) Ht (B + 3 + 40 * D / 1000000)
sums frames ahead lead listen J A K B D N Ht0 Ht Lt0 Lt Le z is_N low high own other heard small room is_z = record {
  below = omega (arith, is_N, low, high, own.below, own.above, other.below, other.above, heard.below, heard.above, small, room, is_z);
  above = omega (arith, is_N, low, high, own.below, own.above, other.below, other.above, heard.below, heard.above, small, room, is_z);
}

module _ (s : ScenarioParts) (clocks : ℕ → ℕ → ℕ) (air : List Entry) (whole : EndsInOrder s clocks air) (x : Sending) (begun : BeginsData air x)
    (d : ℕ) (h : Sending) (reference : IsReference s air x d h) (y : Schedule) (says : message_of h.packet ≡ Some (ScheduleOf y)) where
  pub heard : HasHeardEntry air x.node h
  heard = reference_heard s air x d h reference

  pub sent : Contains (sendings_of air) h
  sent = (whole.run.heedful.heard x.node h heard).sent

  pub flood : IsOfFlood s clocks air h
  flood = of_flood s clocks air whole h sent

  -- h is of the channel of x, d frames before it, and over before it starts
  pub record IsBefore : Type 0 where
    pub channel : h.rank ≡ x.rank
    pub frames : frame_of_sending s.profile h + d ≡ frame_of_sending s.profile x
    pub over : h.end < x.start

  pub before : IsBefore
  before = elim reference.by [
    | inl now ↦ (
        let is = now.1.is in
        let none = now.0 in
        let frame = is.frame in
        record { channel = is.heard.channel; frames = omega (arith, none, frame); over = is.over }
        )
    | inr ahead ↦ (
        let is = ahead.1.is in
        let z = is.heard.schedule in
        let gap = is.heard.gap_is in
        let frame = is.frame in
        record {
          channel = is.heard.channel;
          frames = is.frame;
          over = over_before s clocks air whole x.node h x z begun.data_ is.heard.there begun.there is.heard.channel is.heard.says begun.says
              (omega (arith, gap, frame));
        }
        )
  ]

  module _ (o : Sending) (began : BeganFlood s air h o) (host : ℕ) (named : IsHostOf s x.rank host) where
    pub o_flood : IsOfFlood s clocks air o
    o_flood = of_flood s clocks air whole o began.there

    -- o is what the flood of h began with
    same : flood.origin ≡ o
    same = elim (one_flood s clocks air whole h o flood o_flood began.same) [
      | inl one ↦ one ∙ o_flood.itself began.first
      | inr both ↦ absurd (asks (sym (says_as_origin s clocks air h flood) ∙ says) both.0)
    ]
      where
        asks : message_of flood.origin.packet ≡ Some (ScheduleOf y) → ((a : Ask) × (message_of flood.origin.packet ≡ Some (RequestOf a))) → ⊥
        asks is also = let other = also.1 in cc

    speech : SaysSchedule s clocks air flood.origin.node flood.origin.rank (frame_of_sending s.profile flood.origin) flood.zero (slot_of_sending flood.origin) y
    speech =
        subst (MaySay s clocks air flood.origin.node flood.origin.rank (frame_of_sending s.profile flood.origin) flood.zero (slot_of_sending flood.origin)
        (sender_hosts s clocks air flood.origin)) (sym (says_as_origin s clocks air h flood) ∙ says) flood.begins.start.says

    host_node : flood.origin.node ≡ host
    host_node =
        let channel = before.channel in
        let rank : flood.origin.rank ≡ x.rank = sym flood.slot.channel ∙ channel in
        sym (host_is s x.rank flood.origin.node (subst (λ (r : ℕ). IsHostOf s r flood.origin.node) rank speech.host)) ∙ host_is s x.rank host named

    abbrev p : Numbers
    p = s.profile

    -- the host starts its flood at the nominal time
    pub starts : o.start ≡ start_tick s.profile (clocks host) (frame_of_sending s.profile h) (slot_of_sending h)
    starts =
        sym (ap (λ (z : Sending). z.start) same) ∙ flood.begins.at
        ∙ ap (λ (u : ℕ). tick_at_offset (clocks u) flood.zero (starting_offset p (slot_of_sending flood.origin))) host_node
        ∙ ap (λ (z : ℕ). tick_at_offset (clocks host) z (starting_offset p (slot_of_sending flood.origin))) speech.zero
        ∙ host_starts p (clocks host) (frame_of_sending p flood.origin) (slot_of_sending flood.origin)
        ∙ ap (λ (f : ℕ). start_tick p (clocks host) f (slot_of_sending flood.origin)) (sym flood.slot.frame)
        ∙ ap (λ (j : ℕ). start_tick p (clocks host) (frame_of_sending p h) j) (sym flood.slot.slot)

    pub clock : IsClock (clocks x.node)
    clock = whole.run.driven.drift x.node (sent_known s clocks air whole.run.heedful.trails x begun.there)

    pub host_clock : IsClock (clocks host)
    host_clock = whole.run.driven.drift host (host_known s whole.run.driven.sound x.rank host named)

    -- frames of hosted rounds are counted from 1
    pub later_frame : 1 ≤ frame_of_sending s.profile h
    later_frame =
        let good = zero_good s clocks air whole.run h flood in
        let begun_in = good.ref.begun in
        let past = good.ref.past in
        omega (arith, begun_in, past)

    pub slot_short : slot_of_sending h ≤ (budget_of s.profile).last
    slot_short = slot_in_round s clocks air whole.run h flood

    pub in_run : x.start < run_end s
    in_run = (sent_lasts s clocks air whole.run.heedful.trails x begun.there).0

    early : x.start ≤ 2 ^ 45
    early = let within = in_run in early_in_run s x.start whole.run.driven.sound (omega (arith, within))

    open_small : drift (span s.profile (length h.packet) + 11) + 12 ≤ open_by y
    open_small = by_version (y.plan.contend == 0) refl
      where
        by_version : (b : Bool) → (y.plan.contend == 0) ≡ b → drift (span s.profile (length h.packet) + 11) + 12 ≤ (if b then 48 else 55)
        by_version true one = errs_48 s.profile whole.run.driven.sound.profile h.packet y says (eqb-true y.plan.contend 0 one)
        by_version false two = errs_55 s.profile whole.run.driven.sound.profile h.packet y says

    open_most : open_by y ≤ 55
    open_most = by_version (y.plan.contend == 0)
      where
        by_version : (b : Bool) → (if b then 48 else 55) ≤ 55
        by_version true = omega arith
        by_version false = omega arith

    pub errs : Near (tick_by s air x clocks d h) (clocks host x.start) (slack y + drifted (x.start - o.start))
    errs =
        let L = clocks x.node in
        let H = clocks host in
        let n = length h.packet in
        let k = counter_of_sending h in
        let g = frame_of_sending p h in
        let j = slot_of_sending h in
        let fits = run_fits s whole.run.driven.sound in
        let few = frame_of_run s clocks air whole.run h flood sent in
        let A = airtime p n in
        let is_before = before in
        let over = is_before.over in
        let frames = is_before.frames in
        let lasts = flood.lasts in
        let origin = origin_before s clocks air whole h flood in
        let same_start : flood.origin.start ≡ o.start = ap (λ (z : Sending). z.start) same in
        let limit = early in
        let order : o.start ≤ x.start = omega (arith, over, lasts, origin, same_start) in
        let D : ℕ = x.start - o.start in
        let sum : o.start + D ≡ x.start = omega (arith, order) in
        let own : Near (L x.start) (L o.start + D) (D / 50000 + 1) =
        subst (λ (t : ℕ). Near (L t) (L o.start + D) (D / 50000 + 1)) sum (rounding L o.start D clock (omega (arith, sum, limit))) in
        let other : Near (H x.start) (H o.start + D) (D / 50000 + 1) =
        subst (λ (t : ℕ). Near (H t) (H o.start + D) (D / 50000 + 1)) sum (rounding H o.start D host_clock (omega (arith, sum, limit))) in
        let at = start p (budget_of p) fits H g j host_clock later_frame few slot_short in
        let low : nominal p g j ≤ H o.start = subst (λ (t : ℕ). nominal p g j ≤ H t) (sym starts) at.at_least in
        let high : H o.start ≤ nominal p g j + 1 = subst (λ (t : ℕ). H t ≤ nominal p g j + 1) (sym starts) at.reads.below in
        let room : p.listen + j * p.slot + 55 ≤ L o.start =
        subst (λ (t : ℕ). p.listen + j * p.slot + 55 ≤ L t) (sym starts) (no_clamp p (budget_of p) fits H L g j host_clock clock later_frame few slot_short) in
        let one : 1 ≤ step p n = (let apart = fits.turn_apart in omega (arith, apart)) in
        let near : Near h.start (o.start + k * step p n) k = subst (λ (t : ℕ). Near h.start (t + k * step p n) k) same_start flood.near in
        let small = open_small in
        let most = open_most in
        let exact = reference_error p L n k h.start o.start clock one flood.few near (omega (arith, over, lasts, limit)) in
        let heard_end : Near (L h.end) (L o.start + k * step p n + A) (open_by y) =
        subst (λ (t : ℕ). Near (L t) (L o.start + k * step p n + A) (open_by y)) (sym lasts) (record {
          below = (let under = exact.below in omega (arith, under, small));
          above = (let above = exact.above in omega (arith, above, small));
        }) in
        let ahead : (g + d) * p.frame ≡ g * p.frame + d * p.frame = add-mul g d p.frame in
        let nominal_frame : frame_of_sending p x * p.frame ≡ g * p.frame + d * p.frame = ap (λ (f : ℕ). f * p.frame) (sym frames) ∙ ahead in
        let near_host = sums (g * p.frame) (d * p.frame) p.lead p.listen (j * p.slot) A (k * step p n) (open_by y) D (nominal p g j) (H o.start) (H x.start)
        (L o.start) (L x.start) (L h.end) (zero_from p (L h.end) h.packet) refl low high own other heard_end most room refl in
        let total = open_is (y.plan.contend == 0) in
        subst (λ (m : ℕ). Near (m + p.lead + L x.start - (zero_from p (L h.end) h.packet + d * p.frame)) (H x.start) (slack y + drifted D)) (sym nominal_frame)
        (subst (λ (e : ℕ). Near (g * p.frame + d * p.frame + p.lead + L x.start - (zero_from p (L h.end) h.packet + d * p.frame)) (H x.start) (e + drifted D))
        (sym total) near_host)

pub stamps_err_little : StampsErrLittle
stamps_err_little s clocks air driven lawful x begun d h reference y says o began host named =
    errs s clocks air (whole_run s clocks air driven lawful) x begun d h reference y says o began host named
