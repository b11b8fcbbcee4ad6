-- No overlap: of two transmissions of one channel that are of other frames, slots or steps, one ends before the other starts.
use Rattle.std.proofs.Common.{◌≡◌, ℕ, ◌+◌, ◌*◌, ◌<◌, inl, inr, List, length, Contains, sym, ◌∙◌, ap, subst, arith}
use Rattle.std.specs.Prelude.{slice_index}
use Rattle.std.proofs.Math.Nat.{mul-le-mul_right}
use Rattle.std.proofs.lemmas.Bool.{cases_order}
use Rattle.lwb_base.specs.Profile.{step}
use Rattle.lwb_packets.specs.Body.{body}
use Rattle.tick_clock.specs.Clocks.{Near}
use Rattle.time_reference.specs.Budgets.{budget_of}
use Rattle.time_reference.specs.Zeros.{starting_offset, Good}
use Rattle.time_reference.proofs.Steps.{steps_in_order}
use Rattle.scenario_text.specs.ScenarioParts.{ScenarioParts}
use Rattle.radio_model.specs.declared.sending.Sending.{Sending}
use Rattle.radio_model.specs.Hearing.{Meets, frame_of_sending, slot_of_sending, counter_of_sending}
use Rattle.air_log.specs.declared.entry.Entry.{Entry}
use Rattle.air_log.specs.Entries.{sendings_of}
use Rattle.air_log.specs.Safe.{SameSlot, NoOverlap}
use Rattle.law_trails.proofs.SlotBounds.{slots_apart}
use Rattle.law_safety.specs.FloodSendings.{IsOfFlood}
use Rattle.law_safety.proofs.FloodTimes.{after_frame_start, before_frame_end, host_drifts, in_flood, origin_drifts, packet_short, slot_in_round, zero_good}
use Rattle.law_safety.proofs.RunFacts.{run_fits}
use Rattle.law_safety.specs.Endings.{EndsInOrder}
use Rattle.law_safety.proofs.RunSendings.{of_flood}
use Rattle.law_safety.proofs.SlotFloods.{one_flood}
use Rattle.law_safety.proofs.ContenderStarts.{contenders_near}
use Rattle.law_safety.proofs.FloodPackets.{same_length, asks_in_7}

module _ (s : ScenarioParts) (clocks : ℕ → ℕ → ℕ) (air : List Entry) (whole : EndsInOrder s clocks air) where
  -- transmissions of frames one after another
  frames_apart : (x y : Sending) → IsOfFlood s clocks air x → IsOfFlood s clocks air y → Contains (sendings_of air) x → Contains (sendings_of air) y
      → frame_of_sending s.profile x < frame_of_sending s.profile y → x.end < y.start
  frames_apart x y is also there also_there less =
      let over = before_frame_end s clocks air whole.run x is there in
      let starts = after_frame_start s clocks air whole.run y also also_there in
      let frames = mul-le-mul_right s.profile.frame less in
      omega (arith, over, starts, frames)

  -- of slots of one round
  pub slots_of_round : (x y : Sending) (is : IsOfFlood s clocks air x) (also : IsOfFlood s clocks air y) → x.rank ≡ y.rank
      → frame_of_sending s.profile x ≡ frame_of_sending s.profile y → slot_of_sending x < slot_of_sending y → x.end < y.start
  slots_of_round x y is also channel frame less =
      let p = s.profile in
      let b = budget_of p in
      let host = clocks (slice_index s.hosts x.rank) in
      let first = clocks is.origin.node in
      let other = clocks also.origin.node in
      let f = frame_of_sending p x in
      let drifts = host_drifts s clocks air whole.run x is in
      let first_drifts = origin_drifts s clocks air whole.run x is in
      let other_drifts = origin_drifts s clocks air whole.run y also in
      let good : Good p b host other also.zero f (starting_offset p (slot_of_sending y)) =
      subst (λ (r : ℕ). Good p b (clocks (slice_index s.hosts r)) other also.zero f (starting_offset p (slot_of_sending y))) (sym channel)
      (subst (λ (g : ℕ). Good p b (clocks (slice_index s.hosts y.rank)) other also.zero g (starting_offset p (slot_of_sending y))) (sym frame)
      (zero_good s clocks air whole.run y also)) in
      subst (λ (e : ℕ). e < y.start) (sym is.lasts)
      (slots_apart p b (run_fits s whole.run.driven.sound) host first other is.zero also.zero f (slot_of_sending x) (slot_of_sending y) (length x.packet)
      (length y.packet)
      (counter_of_sending x) (counter_of_sending y) x.start y.start drifts first_drifts other_drifts
      less (slot_in_round s clocks air whole.run y also) (packet_short s clocks air whole.run x is) (zero_good s clocks air whole.run x is) good
      (in_flood s clocks air whole.run x is) (in_flood s clocks air whole.run y also))

  -- of steps of one slot, where the floods begin near each other and the packets are of one length
  steps_of_slot : (q : ℕ) (x y : Sending) (is : IsOfFlood s clocks air x) (also : IsOfFlood s clocks air y) → q + 23 < s.profile.turn
      → Near is.origin.start also.origin.start q → length y.packet ≡ length x.packet → counter_of_sending x < counter_of_sending y → x.end < y.start
  steps_of_slot q x y is also room near long less =
      let p = s.profile in
      subst (λ (e : ℕ). e < y.start) (sym is.lasts)
      (steps_in_order p (length x.packet) (counter_of_sending x) (counter_of_sending y) q x.start y.start is.origin.start also.origin.start room less
      also.few near is.near
      (subst (λ (n : ℕ). Near y.start (also.origin.start + counter_of_sending y * step p n) (counter_of_sending y)) long also.near))

  -- of steps of one slot
  pub steps_apart : (x y : Sending) (is : IsOfFlood s clocks air x) (also : IsOfFlood s clocks air y) → SameSlot s.profile x y
      → counter_of_sending x < counter_of_sending y → x.end < y.start
  steps_apart x y is also same less =
      let room = (run_fits s whole.run.driven.sound).turn_apart in
      elim (one_flood s clocks air whole x y is also same) [
        | inl one ↦ steps_of_slot 0 x y is also (omega (arith, room)) (at_once (ap (λ (o : Sending). o.start) one))
            (same_length y.packet x.packet (also.same ∙ ap (λ (o : Sending). body o.packet) (sym one) ∙ sym is.same)) less
        | inr both ↦ steps_of_slot (budget_of s.profile).contenders x y is also room
            (contenders_near s clocks air whole x y is also same both.0 both.1)
            (asks_in_7 s clocks air y also both.1 ∙ sym (asks_in_7 s clocks air x is both.0)) less
      ]
    where
      at_once : {a b : ℕ} → a ≡ b → Near a b 0
      at_once is = omega (arith, is)

  never : (x y : Sending) → Meets x y → x.end < y.start → ⊥
  never x y meets before = let after = meets.after in omega (arith, before, after)

  turned : (x y : Sending) → Meets x y → Meets y x
  turned x y meets = record { before = meets.after; after = meets.before }

  pub no_overlap : NoOverlap s air
  no_overlap x y there also_there channel meets =
      let is = of_flood s clocks air whole x there in
      let also = of_flood s clocks air whole y also_there in
      let frame : frame_of_sending s.profile x ≡ frame_of_sending s.profile y =
      elim (cases_order (frame_of_sending s.profile x) (frame_of_sending s.profile y)) [
        | inl one ↦ one
        | inr (inl less) ↦ absurd (never x y meets (frames_apart x y is also there also_there less))
        | inr (inr more) ↦ absurd (never y x (turned x y meets) (frames_apart y x also is also_there there more))
      ] in
      let slot : slot_of_sending x ≡ slot_of_sending y = elim (cases_order (slot_of_sending x) (slot_of_sending y)) [
        | inl one ↦ one
        | inr (inl less) ↦ absurd (never x y meets (slots_of_round x y is also channel frame less))
        | inr (inr more) ↦ absurd (never y x (turned x y meets) (slots_of_round y x also is (sym channel) (sym frame) more))
      ] in
      let same : SameSlot s.profile x y = record { channel = channel; frame = frame; slot = slot } in
      let back : SameSlot s.profile y x = record { channel = sym channel; frame = sym frame; slot = sym slot } in
      record {
        slot = same;
        counter = elim (cases_order (counter_of_sending x) (counter_of_sending y)) [
          | inl one ↦ one
          | inr (inl less) ↦ absurd (never x y meets (steps_apart x y is also same less))
          | inr (inr more) ↦ absurd (never y x (turned x y meets) (steps_apart y x also is back more))
        ];
      }
