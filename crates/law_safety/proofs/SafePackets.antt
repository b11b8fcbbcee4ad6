-- Same but for the counter: transmissions of one slot that do not both ask are of one flood, so they differ in the counter alone,
-- and those of one counter start together.
use Rattle.std.proofs.Common.{◌≡◌, ℕ, ◌+◌, ◌*◌, inl, inr, List, length, Bool, true, false, ◌&&◌, sym, ◌∙◌, ap, subst, arith, true≢false}
use Rattle.lwb_base.specs.Profile.{step}
use Rattle.lwb_packets.specs.Body.{body}
use Rattle.lwb_packets.specs.Requests.{is_request}
use Rattle.tick_clock.specs.Clocks.{Near}
use Rattle.time_reference.specs.Budgets.{budget_of}
use Rattle.time_reference.proofs.Steps.{together}
use Rattle.scenario_text.specs.ScenarioParts.{ScenarioParts}
use Rattle.radio_model.specs.declared.sending.Sending.{Sending}
use Rattle.radio_model.specs.Hearing.{counter_of_sending}
use Rattle.air_log.specs.declared.entry.Entry.{Entry}
use Rattle.air_log.specs.Safe.{Alike, SameButForCounter}
use Rattle.law_safety.specs.FloodSendings.{IsOfFlood}
use Rattle.law_safety.proofs.RunFacts.{run_fits}
use Rattle.law_safety.specs.Endings.{EndsInOrder}
use Rattle.law_safety.proofs.RunSendings.{of_flood}
use Rattle.law_safety.proofs.SlotFloods.{one_flood}
use Rattle.law_safety.proofs.FloodPackets.{same_length, is_asking}

module _ (s : ScenarioParts) (clocks : ℕ → ℕ → ℕ) (air : List Entry) (whole : EndsInOrder s clocks air) where
  alike : (x y : Sending) (is : IsOfFlood s clocks air x) (also : IsOfFlood s clocks air y) → is.origin ≡ also.origin → Alike s.profile x y
  alike x y is also one =
      let p = s.profile in
      let bytes : body x.packet ≡ body y.packet = is.same ∙ ap (λ (o : Sending). body o.packet) one ∙ sym also.same in
      let long : length y.packet ≡ length x.packet = sym (same_length x.packet y.packet bytes) in
      record {
        bytes = bytes;
        together = λ counter.
            let near : Near y.start (is.origin.start + counter_of_sending x * step p (length x.packet)) (counter_of_sending x) =
            subst (λ (o : Sending). Near y.start (o.start + counter_of_sending x * step p (length x.packet)) (counter_of_sending x)) (sym one)
            (subst (λ (n : ℕ). Near y.start (also.origin.start + counter_of_sending x * step p n) (counter_of_sending x)) long
            (subst (λ (k : ℕ). Near y.start (also.origin.start + k * step p (length y.packet)) k) (sym counter) also.near)) in
            let fits = run_fits s whole.run.driven.sound in
            let close = together p (budget_of p) fits (length x.packet) (counter_of_sending x) x.start y.start is.origin.start is.few is.near near in
            omega (arith, close);
      }

  pub same_but_for_counter : SameButForCounter s air
  same_but_for_counter x y there also_there same not_both =
      let is = of_flood s clocks air whole x there in
      let also = of_flood s clocks air whole y also_there in
      elim (one_flood s clocks air whole x y is also same) [
        | inl one ↦ alike x y is also one
        | inr both ↦ absurd (asking (is_request x.packet) (is_request y.packet)
            (is_asking s clocks air x is both.0) (is_asking s clocks air y also both.1) not_both)
      ]
    where
      asking : (a b : Bool) → a ≡ true → b ≡ true → (a && b) ≡ false → ⊥
      asking a b first second neither = true≢false (sym (ap (λ (c : Bool). c && b) first ∙ second) ∙ neither)
