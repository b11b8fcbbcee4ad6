-- Windows of one slot are for one part.
use Rattle.std.proofs.Common.{◌≡◌, ℕ, zero, suc, ◌≤◌, inl, inr, List, Bool, Some, Option, if◌then◌else◌, refl, sym, ◌∙◌, ap, subst, arith, eq-eqb, ne_eqb}
use Rattle.std.specs.Prelude.{slice_index}
use Rattle.lwb_base.specs.Messages.{Plan, Schedule}
use Rattle.bus_rules.specs.declared.part.Part.{Part}
use Rattle.bus_rules.specs.declared.part.Part.TheVariants.{Opening, Closing}
use Rattle.bus_rules.specs.Slots.{Message, ScheduleOf, part_of}
use Rattle.lwb_member.specs.Said.{message_of}
use Rattle.node_core.specs.Windows.{Window}
use Rattle.node_core.specs.Nodes.{Node}
use Rattle.node_core.specs.Rows.{part_by}
use Rattle.scenario_text.specs.ScenarioParts.{ScenarioParts}
use Rattle.radio_model.specs.Hearing.{frame_of_sending, slot_of_sending}
use Rattle.air_log.specs.declared.entry.Entry.{Entry}
use Rattle.air_log.specs.Devices.{Device}
use Rattle.air_log.specs.Safe.{sender_hosts}
use Rattle.air_log.specs.Trails.{run_end}
use Rattle.air_log.specs.WindowLogs.{WindowLog}
use Rattle.law_trails.specs.Phases.{Alarms}
use Rattle.law_safety.specs.Beginnings.{MaySay, SaysSchedule}
use Rattle.law_safety.specs.Rows.{AtTick}
use Rattle.law_safety.specs.SetAlarms.{rank_at}
use Rattle.law_safety.proofs.AwaitedSlots.{Awaits, awaits}
use Rattle.law_safety.proofs.InvariantHolds.{all_rows, ends_in_order}
use Rattle.law_safety.specs.Endings.{EndsInOrder}
use Rattle.law_safety.proofs.FloodPackets.{says_as_origin}
use Rattle.law_safety.proofs.SentPlans.{one_planned}
use Rattle.law_windows.specs.SlotParts.{IsPartOf, IsForPart}
use Rattle.law_windows.specs.WindowLaws.{WindowsAreForTheirPart, OnePartASlot}
use Rattle.law_windows.specs.WindowSteps.{KeepsWindows}
use Rattle.law_windows.proofs.TimedWindows.{frame}
use Rattle.law_windows.proofs.WindowWalk.{on_in, windows_before}

gap_part : (y : Schedule) → y.gap ≡ 0 → part_by y ≡ Opening
gap_part y none = ap (λ (b : Bool). if b then Opening else Closing) (eq-eqb y.gap 0 none)

later_part : (y : Schedule) → 1 ≤ y.gap → part_by y ≡ Closing
later_part y some = ap (λ (b : Bool). if b then Opening else Closing) (ne_eqb y.gap 0 (λ none. omega (arith, none, some)))

module _ (s : ScenarioParts) (clocks : ℕ → ℕ → ℕ) (air : List Entry) (v : ℕ) where
  -- by the alarm of a later slot: the plan of the node was sent
  opens_for : (t : ℕ) (d : Device) (n : Node) (j : ℕ) → Awaits s clocks air v t d n j → IsPartOf s air (rank_at n) n.frame j (part_of n.core.plan j)
  opens_for t d n zero is = inl (refl, refl)
  opens_for t d n (suc j) is =
      inr (record { plan = n.core.plan; planned = (is.plan.known (inr (omega arith))).planned; part_is = refl })

  -- by a schedule: its flood began as it may
  joins_for : (u r f z j : ℕ) (hosting : Bool) (m : Option Message) (y : Schedule) → MaySay s clocks air u r f z j hosting m → m ≡ Some (ScheduleOf y)
      → (y.plan.rank ≡ r) × IsPartOf s air r f j (part_by y)
  joins_for u r f z j hosting m y says is =
      let said : SaysSchedule s clocks air u r f z j y = subst (MaySay s clocks air u r f z j hosting) is says in (
        said.fits.of_rank,
        elim said.part [
          | inl opens ↦ inl (opens.1, gap_part y opens.0)
          | inr closes ↦ inr (record { plan = closes.plan; planned = closes.planned; part_is = closes.part ∙ sym (later_part y closes.some) })
        ],
      )

  part_steps : (t : ℕ) → AtTick s clocks air v t → KeepsWindows s clocks air v (λ now taken w. IsForPart s air w) t
  part_steps t at = record {
    begun = λ d n j fine due on stage. opens_for t d n j (awaits s clocks air v t d n j (on_in s clocks air v t Alarms d n fine on) stage due.due);
    joined = λ d h n y fine next now on stage says of_rank.
        (let x = now.sending in
        let flood = now.of_flood in
        let o = flood.origin in
        let same : message_of o.packet ≡ Some (ScheduleOf y) = sym (says_as_origin s clocks air x flood)
        ∙ sym (ap (λ (p : List ℕ). message_of p) now.packet) ∙ says in
        let is = joins_for o.node o.rank (frame_of_sending s.profile o) flood.zero (slot_of_sending o) (sender_hosts s clocks air o)
        (message_of o.packet) y flood.begins.start.says same in
        let of_frame : frame_of_sending s.profile o ≡ n.frame = sym flood.slot.frame ∙ now.frame
        ∙ sym (frame s clocks air v t at d h n y fine next now on stage says) in
        let of_slot : slot_of_sending o ≡ slice_index h.packet 1 = sym flood.slot.slot ∙ sym (ap (λ (p : List ℕ). slice_index p 1) now.packet) in
        subst (λ (r : ℕ). IsPartOf s air r n.frame (slice_index h.packet 1) (part_by y)) (sym is.0 ∙ of_rank)
        (subst (λ (f : ℕ). IsPartOf s air o.rank f (slice_index h.packet 1) (part_by y)) of_frame
        (subst (λ (j : ℕ). IsPartOf s air o.rank (frame_of_sending s.profile o) j (part_by y)) of_slot is.1)));
    heard = λ d h n j w x fine next now on stage is in_it known. goes_on x w is.last known;
    taken = λ d fine is before now x there. now.each x there;
    passed = λ x known. known;
    sent = λ d y n j w x fine enters own ends on stage waiting is in_it known. goes_on x w is.last known;
    closed = λ d n j w x fine due on stage is known. known;
  }
    where
      goes_on : (x : WindowLog) (w : Window) → x.last ≡ w → IsForPart s air x → IsPartOf s air x.rank x.frame x.slot w.part
      goes_on x w is known = subst (λ (u : Window). IsPartOf s air x.rank x.frame x.slot u.part) is known

pub for_their_part : WindowsAreForTheirPart
for_their_part s clocks air run v known t within w there =
    (windows_before s clocks air v (λ now taken w. IsForPart s air w) all_rows run known (λ u at. part_steps s clocks air v u at) t within).each w there

-- and a slot is for one
module _ (s : ScenarioParts) (clocks : ℕ → ℕ → ℕ) (air : List Entry) (whole : EndsInOrder s clocks air) where
  one_part : (r f j : ℕ) (P Q : Part) → IsPartOf s air r f j P → IsPartOf s air r f j Q → P ≡ Q
  one_part r f j P Q (inl a) (inl b) = a.1 ∙ sym b.1
  one_part r f j P Q (inl a) (inr b) = a.1 ∙ sym (ap (part_of b.plan) a.0) ∙ b.part_is
  one_part r f j P Q (inr a) (inl b) = sym a.part_is ∙ ap (part_of a.plan) b.0 ∙ sym b.1
  one_part r f j P Q (inr a) (inr b) =
      sym a.part_is ∙ ap (λ (p : Plan). part_of p j) (one_planned s clocks air whole r f a.plan b.plan a.planned b.planned) ∙ b.part_is

pub one_part_a_slot : OnePartASlot
one_part_a_slot s clocks air run v u known also w x there other same =
    let end : run_end s ≤ run_end s = omega arith in
    let whole : EndsInOrder s clocks air = ends_in_order s clocks air run in
    let first = for_their_part s clocks air run v known (run_end s) end w there in
    let second : IsPartOf s air w.rank w.frame w.slot x.last.part =
    subst (λ (r : ℕ). IsPartOf s air r w.frame w.slot x.last.part) (sym same.rank)
    (subst (λ (f : ℕ). IsPartOf s air x.rank f w.slot x.last.part) (sym same.frame)
    (subst (λ (j : ℕ). IsPartOf s air x.rank x.frame j x.last.part) (sym same.slot)
    (for_their_part s clocks air run u also (run_end s) end x other))) in
    one_part s clocks air whole w.rank w.frame w.slot w.last.part x.last.part first second
