-- A flood of a slot is a run.
use Rattle.std.proofs.Common.{ℕ, ◌+◌, ◌<◌, sym, subst, arith}
use Rattle.std.proofs.Math.Nat.{mul-le-mul_right}
use Rattle.lwb_base.specs.Profile.{Numbers}
use Rattle.time_reference.specs.Budgets.{Budget, Fits}
use Rattle.tick_clock.specs.Clocks.{Near, due}
use Rattle.tick_clock.proofs.DueTicks.{turn}
use Rattle.radio_model.specs.declared.sending.Sending.{Sending}
use Rattle.lwb_flood.specs.FloodRun.{Run, FloodRun, TurnsAround}
use Rattle.lwb_flood.specs.Windows.{IsSlotFlood}
use Rattle.lwb_flood.proofs.TunedWindows.{tuned_in_window}

module _ (p : Numbers) (b : Budget) (fits : Fits p b) (n : ℕ) (clocks : ℕ → ℕ → ℕ) (r : Run) (Tuned : ℕ → Sending → Type 0)
    (slot : IsSlotFlood p b n clocks r Tuned) where
  turns : TurnsAround r
  turns v x here there time =
      let air = slot.air in
      let same = slot.turn in
      let range = slot.in_range time.origin time.initiator in
      let until = time.until in
      let apart = fits.turn_apart in
      let short = fits.turn_short in
      let near : Near (due (clocks v) (clocks v x.end + p.turn)) (x.end + p.turn) 1 =
      turn (clocks v) p.turn x.end (slot.clocks_drift v here) (omega arith) (omega arith) (omega arith) in
      subst (λ (t : ℕ). Near t (x.end + r.turn) 1) (sym (slot.relay_start v x.end here))
      (subst (λ (t : ℕ). Near (due (clocks v) (clocks v x.end + p.turn)) (x.end + t) 1) (sym same) near)

  pub slot_run : FloodRun r Tuned
  slot_run =
      let air = slot.air in
      let same = slot.turn in
      let delta = slot.delta in
      let spread = slot.spread in
      let size = slot.size in
      let apart = fits.turn_apart in
      let overlap = fits.overlap in
      let displacement = fits.displacement in
      let long = mul-le-mul_right p.byte size in
      let some : 0 < r.air = omega arith in
      record {
        times = record {
          room = record { room_to_turn = omega arith; room_to_overlap = omega arith; displacement = omega arith };
          initiators = slot.initiators;
          sent = slot.sent;
          happened = slot.happened;
          heard_sent = λ v x here there. ((slot.hears v x here).0 there).sent;
          turned = turns;
        };
        hears = slot.hears;
        tuned = λ v here. (let w = slot.windows v here in
            tuned_in_window r Tuned v w.opening w.closing (λ x sent. (let last = slot.sent.lasts x sent in omega (arith, some, last.1))) w.window
            (λ z. (slot.happened.ended_events v z here).0));
      }
