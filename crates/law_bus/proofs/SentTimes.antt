-- How long a node sends is how long it does on the bus.
use Rattle.std.proofs.Common.{◌≡◌, ℕ, ◌-◌, ◌<◌, ◌≤◌, List, true, Some, None, Option, Contains, inl, inr, length, sum_by, refl, sym, ◌∙◌, ap, arith}
use Rattle.std.specs.Prelude.{◌⊎◌}
use Rattle.std.specs.List.{range_with_len}
use Rattle.std.specs.Option.{option_map_or}
use Rattle.std.proofs.lemmas.Bool.{cases_eq}
use Rattle.std.proofs.lemmas.List.Elements.{All-contains}
use Rattle.lwb_base.specs.Messages.{Plan}
use Rattle.lwb_base.specs.Profile.{airtime}
use Rattle.glossy_relay.specs.Relaying.{counter_of}
use Rattle.bus_rules.specs.Plans.{last_slot}
use Rattle.scenario_text.specs.ScenarioParts.{ScenarioParts}
use Rattle.scenario_text.specs.FloodParts.{knows}
use Rattle.radio_model.specs.declared.sending.Sending.{Sending}
use Rattle.radio_model.specs.Hearing.{frame_of_sending, slot_of_sending}
use Rattle.air_log.specs.declared.entry.Entry.{Entry}
use Rattle.air_log.specs.Lawful.{heard_by, trail_in}
use Rattle.air_log.specs.TrailEntries.{IsSentBefore}
use Rattle.air_log.specs.Trails.{run_end}
use Rattle.lwb_base.proofs.Elements.{Distinct, distinct_from_pairs}
use Rattle.air_log.proofs.TrailSendings.{each_sent, in_order}
use Rattle.law_trails.proofs.SentInTrails.{sent_below, sent_lasts}
use Rattle.bus_terms.specs.Bus.{bus_cost}
use Rattle.bus_terms.specs.Costs.{slot_sent}
use Rattle.bus_terms.specs.Flooding.{steps}
use Rattle.lwb_flood.specs.FloodRun.{Run}
use Rattle.lwb_flood.specs.FloodBySteps.{IsFloodBySteps}
use Rattle.law_terms.specs.LawfulRuns.{IsLawfulRun}
use Rattle.law_terms.specs.SlotLaws.{IsRound}
use Rattle.law_terms.specs.SlotRuns.{IsRunOf, RunsLaw}
use Rattle.law_terms.specs.SlotSteps.{SlotHeardLaw}
use Rattle.law_bus.proofs.CoresOfWindows.{all_slots}
use Rattle.law_bus.proofs.RunsOfLogs.{run}
use Rattle.law_bus.proofs.HeardSlots.{slots_heard}
use Rattle.law_bus.proofs.KeyedSums.{by_key, no_sum, one_counts, same_sums, sum_given, under, under_its, under_none}
use Rattle.law_bus.proofs.PlacedWindows.{round_here, sending_placed, sending_rank, sent_of}
use Rattle.law_bus.proofs.SentBySteps.{IsSent, IsSentHere, on_bus, sent_as, sent_once, step_of, all_steps, not_given}
use Rattle.law_bus.proofs.SumsOverRounds.{over_rounds, plan_at, rank_at, slot_of_own_rank}
use Rattle.lwb_base.proofs.NumbersOfRanges.{from_range}

abbrev lasts : Sending → ℕ
lasts y = y.end - y.start

abbrev steps_sent : Sending → ℕ
steps_sent y = counter_of y.packet

module _ (runs : RunsLaw) (s : ScenarioParts) (clocks : ℕ → ℕ → ℕ) (air : List Entry) (lawful : IsLawfulRun s clocks air)
    (v : ℕ) (known : knows s.nodes v ≡ true) where
  abbrev heards : SlotHeardLaw
  heards = slots_heard runs

  abbrev sent : List Sending
  sent = sent_of s clocks air v

  -- none is there twice, and each lasts as long as its packet takes
  sent_distinct : Distinct sent
  sent_distinct =
      let before = in_order s v (clocks v) (heard_by air v) in
      distinct_from_pairs sent (λ i k d less within same.
      let first = before i k d less within in
      let at = ap (λ (y : Sending). y.start) same in
      omega (arith, first, at))

  each_lasts : (y : Sending) → Contains sent y → lasts y ≡ airtime s.profile (length y.packet)
  each_lasts y there =
      let own = All-contains (IsSentBefore s v (run_end s)) sent y (each_sent s v (clocks v) (heard_by air v)) there in
      let end = own.lasts in
      omega (arith, end)

  module _ (f j : ℕ) (p : Plan) (in_run : f < s.frames) (plan : plan_at s v f ≡ Some p) (within : j ≤ last_slot p) where
    abbrev rank : ℕ
    rank = rank_at s v f

    round : IsRound s rank f p
    round = round_here heards s clocks air lawful v known f p in_run plan

    found : (r : Run) × IsRunOf s clocks air rank f p j r × IsFloodBySteps r
    found = runs s clocks air lawful rank f j p round within (all_slots heards s clocks air lawful rank f j p round within).0

    abbrev SentHere : Sending → Type 0
    SentHere y = IsSentHere s clocks air lawful rank f p j v y

    sent_here : (y : Sending) → Contains sent y → frame_of_sending s.profile y ≡ f → slot_of_sending y ≡ j → SentHere y
    sent_here y there frame slot =
        let own = (sent_below s clocks air (run s clocks air lawful).heedful.trails v known (run_end s) (omega arith) y).1 there in
        record {
          there = own.there;
          node = own.node;
          channel = sending_rank heards s clocks air lawful v known y there ∙ ap (rank_at s v) frame;
          frame = frame;
          slot = slot;
        }

    in_trail : (y : Sending) → SentHere y → Contains sent y
    in_trail y here =
        (sent_below s clocks air (run s clocks air lawful).heedful.trails v known (run_end s) (omega arith) y).0 (record {
          there = here.there;
          node = here.node;
          below = (sent_lasts s clocks air (run s clocks air lawful).heedful.trails y here.there).0;
        })

    -- what counts of this slot
    abbrev of_frame : Sending → ℕ
    of_frame = under (frame_of_sending s.profile) lasts f

    abbrev here_counts : Sending → ℕ
    here_counts = under slot_of_sending of_frame j

    counts_none : (y : Sending) → (frame_of_sending s.profile y ≡ f → slot_of_sending y ≡ j → ⊥) → here_counts y ≡ 0
    counts_none y other =
        under_none slot_of_sending of_frame j y (λ slot. under_none (frame_of_sending s.profile) lasts f y (λ frame. absurd (other frame slot)))

    few : (y : Sending) → Contains sent y → (steps_sent y < 12) ⊎ (here_counts y ≡ 0)
    few y there =
        elim (cases_eq (frame_of_sending s.profile y) f) [
          | inr other ↦ inr (counts_none y (λ frame slot. other frame))
          | inl frame ↦ elim (cases_eq (slot_of_sending y) j) [
            | inr other ↦ inr (counts_none y (λ same slot. other slot))
            | inl slot ↦
                (let step = step_of s clocks air lawful rank f p j found.0 found.1 found.2 v y (sent_here y there frame slot) in
                let low = step.few in
                inl (omega (arith, low)))
          ]
        ]

    abbrev given : ℕ → Option (ℕ × ℕ)
    given = on_bus s clocks air lawful rank f p j v

    abbrev takes : ℕ × ℕ → ℕ
    takes a = airtime s.profile a.1

    -- with one counter
    with_step : (k : ℕ) (a : ℕ × ℕ) → given k ≡ Some a → IsSent s clocks air lawful rank f p j found.0 found.1 found.2 v k a
        → sum_by (under steps_sent here_counts k) sent ≡ takes a
    with_step k a is one =
        let y = one.sending in
        let there = in_trail y one.here in
        one_counts (under steps_sent here_counts k) y sent sent_distinct there
        (λ z also other. under_none steps_sent here_counts k z (λ step. counts_none z (λ frame slot.
        other (sent_once s clocks air lawful rank f p j found.0 found.1 found.2 v z y (sent_here z also frame slot) one.here (step ∙ sym one.counter)))))
        ∙ under_its steps_sent here_counts k y one.counter
        ∙ under_its slot_of_sending of_frame j y one.here.slot
        ∙ under_its (frame_of_sending s.profile) lasts f y one.here.frame
        ∙ each_lasts y there
        ∙ ap takes one.same

    by_step : (k : ℕ) → k < 12 → (o : Option (ℕ × ℕ)) → given k ≡ o → sum_by (under steps_sent here_counts k) sent ≡ option_map_or takes o 0
    by_step k below None is =
        no_sum (under steps_sent here_counts k) sent (λ y there. under_none steps_sent here_counts k y (λ at. counts_none y (λ frame slot.
        let step = step_of s clocks air lawful rank f p j found.0 found.1 found.2 v y (sent_here y there frame slot) in
        not_given (counter_of y.packet, length y.packet) (sym is ∙ ap given (sym at) ∙ step.on_the_bus))))
    by_step k below (Some a) is =
        with_step k a is (sent_as s clocks air lawful rank f p j found.0 found.1 found.2 v k a (omega (arith, below)) is)

    of_slot : sum_by here_counts sent ≡ slot_sent s.profile (slot_of_own_rank s v f p j) v
    of_slot =
        by_key steps_sent here_counts 12 sent few
        ∙ same_sums (λ (k : ℕ). sum_by (under steps_sent here_counts k) sent) (λ (k : ℕ). option_map_or takes (given k) 0) (range_with_len 0 12)
        (λ k there. let range = from_range 0 12 k there in by_step k (omega (arith, range)) (given k) refl)
        ∙ ap (λ (l : List ℕ). sum_by (λ (k : ℕ). option_map_or takes (given k) 0) l) (sym all_steps)
        ∙ sym (sum_given takes given steps)

  pub sent_same : (bus_cost s v).sent ≡ sum_by (λ x. x.end - x.start) (trail_in s clocks air v).made.sent
  sent_same =
      sym (over_rounds s v (frame_of_sending s.profile) slot_of_sending lasts sent (λ x. slot_sent s.profile x v)
      (sending_placed heards s clocks air lawful v known) of_slot)
