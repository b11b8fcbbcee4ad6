-- Of two transmissions of one slot that have other counters, the one with the lower counter ends first.
use Rattle.std.proofs.Common.{◌≡◌, ℕ, ◌<◌, ◌≤◌, inl, inr, List, Contains, sym, arith}
use Rattle.std.proofs.lemmas.Bool.{cases_order}
use Rattle.scenario_text.specs.ScenarioParts.{ScenarioParts}
use Rattle.radio_model.specs.declared.sending.Sending.{Sending}
use Rattle.radio_model.specs.Hearing.{counter_of_sending}
use Rattle.air_log.specs.declared.entry.Entry.{Entry}
use Rattle.air_log.specs.Entries.{sendings_of}
use Rattle.air_log.specs.Safe.{SameSlot}
use Rattle.law_safety.specs.Endings.{EndsInOrder}
use Rattle.law_safety.proofs.RunSendings.{of_flood}
use Rattle.law_safety.proofs.SafeSteps.{steps_apart}

module _ (s : ScenarioParts) (clocks : ℕ → ℕ → ℕ) (air : List Entry) (whole : EndsInOrder s clocks air) where
  pub lower_first : (x y : Sending) → Contains (sendings_of air) x → Contains (sendings_of air) y → SameSlot s.profile x y
      → (counter_of_sending x ≡ counter_of_sending y → ⊥) → x.end ≤ y.end → counter_of_sending x < counter_of_sending y
  lower_first x y there also_there same other before =
      elim (cases_order (counter_of_sending x) (counter_of_sending y)) [
        | inl one ↦ absurd (other one)
        | inr (inl less) ↦ less
        | inr (inr more) ↦
            (let is = of_flood s clocks air whole x there in
            let also = of_flood s clocks air whole y also_there in
            let after = steps_apart s clocks air whole y x also is (record { channel = sym same.channel; frame = sym same.frame; slot = sym same.slot }) more in
            let lasts = is.lasts in
            absurd (omega (arith, after, before, lasts)))
      ]
