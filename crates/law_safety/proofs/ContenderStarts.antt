-- Requests of one slot begin near each other: their nodes received the opening of this very round.
use Rattle.std.proofs.Common.{◌≡◌, ℕ, zero, suc, ◌<◌, ◌≤◌, List, length, ◌==◌, nat_lt, if◌then◌else◌, refl, sym, ◌∙◌, ap, subst, arith}
use Rattle.std.specs.Prelude.{nat_le, slice_index, ◌-◌}
use Rattle.std.proofs.lemmas.Bool.{cond_both, eqb-false, ltb-true}
use Rattle.lwb_base.specs.Messages.{Plan}
use Rattle.tick_clock.specs.Clocks.{Near}
use Rattle.time_reference.specs.Budgets.{budget_of}
use Rattle.time_reference.specs.Zeros.{tick_at_offset, starting_offset}
use Rattle.time_reference.proofs.Steps.{contenders}
use Rattle.bus_rules.specs.declared.part.Part.{Part}
use Rattle.bus_rules.specs.declared.part.Part.TheVariants.{Opening, Data as DataSlot, Contention, Closing}
use Rattle.bus_rules.specs.Plans.{last_slot}
use Rattle.bus_rules.specs.Slots.{part_of}
use Rattle.lwb_member.specs.Said.{message_of}
use Rattle.scenario_text.specs.ScenarioParts.{ScenarioParts}
use Rattle.radio_model.specs.declared.sending.Sending.{Sending}
use Rattle.radio_model.specs.Hearing.{frame_of_sending, slot_of_sending}
use Rattle.air_log.specs.declared.entry.Entry.{Entry}
use Rattle.air_log.specs.Safe.{SameSlot, sender_hosts}
use Rattle.law_trails.proofs.SentInTrails.{sent_known}
use Rattle.law_safety.specs.Beginnings.{MaySay, SaysRequest}
use Rattle.law_safety.specs.FloodSendings.{BeginsFlood, IsOfFlood}
use Rattle.law_safety.specs.RoundZeros.{RefFor}
use Rattle.law_safety.proofs.RunFacts.{host_clock, run_fits}
use Rattle.law_safety.specs.Endings.{EndsInOrder}
use Rattle.law_safety.specs.SlotLaws.{AsksForStream}
use Rattle.law_safety.proofs.SentPlans.{planned_short}
use Rattle.law_safety.proofs.SlotFloods.{origins_same}

-- a contention slot comes after slot 0 and before the closing
in_between : (p : Plan) (j place : ℕ) → part_of p j ≡ Contention place → (1 ≤ j) × (j < last_slot p)
in_between p j place =
    let Lies : Part → Type 0 = λ q. q ≡ Contention place → (1 ≤ j) × (j < last_slot p) in
    let next : Part = if nat_lt j (last_slot p) then Contention (j - length p.owners) else Closing in
    let more : Part = if nat_le j (length p.owners) then DataSlot (slice_index p.owners (j - 1)) else next in
    cond_both (j == 0) Opening more Lies
    (λ first is. absurd cc)
    (λ some. cond_both (nat_le j (length p.owners)) (DataSlot (slice_index p.owners (j - 1))) next Lies
    (λ owned is. absurd cc)
    (λ past. cond_both (nat_lt j (last_slot p)) (Contention (j - length p.owners)) Closing Lies
    (λ less is. (behind j (eqb-false j 0 some), ltb-true j (last_slot p) less))
    (λ last is. absurd cc)))
  where
    behind : (k : ℕ) → (k ≡ 0 → ⊥) → 1 ≤ k
    behind zero some = absurd (some refl)
    behind (suc k) some = omega arith

module _ (s : ScenarioParts) (clocks : ℕ → ℕ → ℕ) (air : List Entry) (whole : EndsInOrder s clocks air) where
  asked : (z : ℕ) (x : Sending) → BeginsFlood s clocks air z x → AsksForStream (message_of x.packet)
      → SaysRequest s clocks air x.node x.rank (frame_of_sending s.profile x) z (slot_of_sending x)
  asked z x begins asks =
      subst (MaySay s clocks air x.node x.rank (frame_of_sending s.profile x) z (slot_of_sending x) (sender_hosts s clocks air x)) asks.1 begins.start.says

  near_by : (z u : ℕ) (x y : Sending) → x.rank < length s.hosts → BeginsFlood s clocks air z x → BeginsFlood s clocks air u y
      → SameSlot s.profile x y → AsksForStream (message_of x.packet) → AsksForStream (message_of y.packet)
      → Near x.start y.start (budget_of s.profile).contenders
  near_by z u x y hosted first second same asks also_asks =
      let p = s.profile in
      let b = budget_of p in
      let f = frame_of_sending p x in
      let j = slot_of_sending x in
      let says = asked z x first asks in
      let also_says = asked u y second also_asks in
      let drifts = whole.run.driven.drift in
      let follows = whole.run.heedful.trails in
      let clock = drifts x.node (sent_known s clocks air follows x first.sent) in
      let also_clock = drifts y.node (sent_known s clocks air follows y second.sent) in
      let between = in_between says.plan j says.place says.part in
      let short = planned_short s clocks air whole x.rank f says.plan says.planned in
      let ref : RefFor s clocks x.rank y.node u f f 0 =
      subst (λ (r : ℕ). RefFor s clocks r y.node u f f 0) (sym same.channel)
      (subst (λ (g : ℕ). RefFor s clocks y.rank y.node u g g 0) (sym same.frame) also_says.ref) in
      let start : y.start ≡ tick_at_offset (clocks y.node) u (starting_offset p j) =
      second.at ∙ ap (λ (i : ℕ). tick_at_offset (clocks y.node) u (starting_offset p i)) (sym same.slot) in
      let close = contenders p b (run_fits s whole.run.driven.sound) (clocks (slice_index s.hosts x.rank)) (clocks x.node) (clocks y.node) z u f j
      (host_clock s clocks whole.run.driven x.rank hosted) clock also_clock says.ref ref between.0 (omega (arith, between.1, short)) in
      let here = first.at in
      omega (arith, close, start, here)

  -- of what they say, in what their floods say
  pub contenders_near : (x y : Sending) (is : IsOfFlood s clocks air x) (also : IsOfFlood s clocks air y) → SameSlot s.profile x y
      → AsksForStream (message_of is.origin.packet) → AsksForStream (message_of also.origin.packet)
      → Near is.origin.start also.origin.start (budget_of s.profile).contenders
  contenders_near x y is also same asks also_asks =
      near_by is.zero also.zero is.origin also.origin (subst (λ (r : ℕ). r < length s.hosts) is.slot.channel is.hosted) is.begins also.begins
      (origins_same s clocks air whole x y is also same) asks also_asks
