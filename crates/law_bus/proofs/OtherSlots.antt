-- The windows of other slots of the frame, at a node that takes part in a slot without a window by an alarm: none is of an
-- earlier slot, and what is of a later one opens after all that is sent in this.
use Rattle.std.proofs.Common.{◌≡◌, ℕ, zero, suc, ◌+◌, ◌-◌, ◌<◌, ◌≤◌, List, Bool, true, false, inl, inr, Contains, refl, sym, ◌∙◌, subst, arith}
use Rattle.std.specs.Prelude.{◌⊎◌}
use Rattle.std.proofs.lemmas.Bool.{cases_order}
use Rattle.lwb_base.specs.Messages.{Plan}
use Rattle.bus_rules.specs.Plans.{last_slot}
use Rattle.scenario_text.specs.ScenarioParts.{ScenarioParts}
use Rattle.radio_model.specs.declared.sending.Sending.{Sending}
use Rattle.air_log.specs.declared.entry.Entry.{Entry}
use Rattle.air_log.specs.Entries.{sendings_of}
use Rattle.air_log.specs.Trails.{run_end}
use Rattle.air_log.specs.WindowLogs.{WindowLog}
use Rattle.law_safety.specs.SentPlans.{IsPlanned}
use Rattle.law_windows.proofs.WindowFacts.{ends_before_opening}
use Rattle.bus_terms.specs.Flooding.{has}
use Rattle.law_terms.specs.FrameCourses.{IsWindowIn}
use Rattle.law_terms.specs.LawfulRuns.{IsLawfulRun}
use Rattle.bus_terms.specs.HostedRounds.{slot_in}
use Rattle.law_terms.specs.SlotLaws.{IsRound, IsWindowOf, HasWindow}
use Rattle.law_terms.specs.SlotSteps.{IsSlotStart}
use Rattle.law_bus.proofs.PlannedRounds.{placed}
use Rattle.law_bus.proofs.RoundsInTurn.{round_planned}
use Rattle.law_bus.proofs.RunsOfLogs.{run, known_by}
use Rattle.law_bus.proofs.WindowsInTurn.{HasNext, next_of}
use Rattle.law_bus.proofs.SlotParties.{party_rank}
use Rattle.law_bus.proofs.SlotSendings.{IsOf}

module _ (s : ScenarioParts) (clocks : ℕ → ℕ → ℕ) (air : List Entry) (lawful : IsLawfulRun s clocks air)
    (rank f j : ℕ) (p : Plan) (round : IsRound s rank f p) (within : j ≤ last_slot p) (start : IsSlotStart s clocks air rank f p j) where
  abbrev Of : ℕ → ℕ → WindowLog → Type 0
  Of i v w = IsWindowOf s clocks air rank f i v w

  planned : IsPlanned s air rank f p
  planned = round_planned s clocks air lawful rank f round.in_run start.found p round

  next : (v i : ℕ) (w : WindowLog) → Of i v w → i < last_slot p → HasNext s clocks air lawful rank f round.in_run i v w
  next v i w here less = next_of s clocks air lawful rank f round.in_run i v w here
      ((placed s clocks air lawful rank f round.in_run p planned i v w here).more less)

  -- a window of an earlier slot leads to one by an alarm in this
  leads_on : (v d i : ℕ) (w : WindowLog) → Of i v w → i + suc d ≡ j → HasWindow s clocks air rank f j v
  leads_on v zero i w here is =
      let more = next v i w here (omega (arith, is, within)) in
      subst (λ (k : ℕ). HasWindow s clocks air rank f k v) (omega (arith, is))
      (record { window = more.window; here = more.here; by_alarm = more.by_alarm })
  leads_on v (suc d) i w here is =
      let more = next v i w here (omega (arith, is, within)) in
      leads_on v d (suc i) more.window more.here (omega (arith, is))

  module _ (v : ℕ) (here : has (slot_in s rank f p j).flood.everyone v ≡ true) (no_alarm : HasWindow s clocks air rank f j v → ⊥) where
    abbrev In : WindowLog → Type 0
    In w = IsWindowIn s clocks air v f w

    of_rank : (w : WindowLog) → In w → w.rank ≡ rank
    of_rank w is = party_rank s clocks air lawful rank f j p round.in_run start v w.rank w.slot w here
        (record { there = is.there; frame = is.frame; channel = refl; slot = refl })

    -- so it has no window of an earlier slot
    pub none_earlier : (w : WindowLog) → In w → w.slot < j → ⊥
    none_earlier w is less =
        let d : ℕ = j - suc w.slot in
        let sum : w.slot + suc d ≡ j = omega (arith, less) in
        no_alarm (leads_on v d w.slot w (record { there = is.there; frame = is.frame; channel = of_rank w is; slot = refl }) sum)

    -- and one of a later slot opens when all that is sent in this has ended
    pub opens_behind : (w : WindowLog) → In w → j < w.slot → (x : Sending) → Contains (sendings_of air) x → IsOf s.profile rank f j x
        → x.end < w.opened
    opens_behind w is more x sent of =
        let slot = of.2 in
        ends_before_opening s clocks air (run s clocks air lawful) v (known_by s clocks air lawful v w is.there) (run_end s) (omega arith) w is.there
        x sent (of.0 ∙ sym (of_rank w is)) (of.1 ∙ sym is.frame) (omega (arith, slot, more))

    -- in this slot it has joined by what it received
    joined : (w : WindowLog) → Of j v w → (b : Bool) → w.by_alarm ≡ b → w.by_alarm ≡ false
    joined w at true is = absurd (no_alarm (record { window = w; here = at; by_alarm = is }))
    joined w at false is = is

    -- which of these a window of the frame is
    pub which_window : (w : WindowLog) → In w → (Of j v w × (w.by_alarm ≡ false)) ⊎ (j < w.slot)
    which_window w is = elim (cases_order w.slot j) [
      | inl same ↦ (
          let at : Of j v w = record { there = is.there; frame = is.frame; channel = of_rank w is; slot = same } in
          inl (at, joined w at w.by_alarm refl)
          )
      | inr (inl less) ↦ absurd (none_earlier w is less)
      | inr (inr more) ↦ inr more
    ]
