-- What the trails tell of the entries of a log: transmissions and tunings of one node start apart, and its transmissions do
-- not meet.
use Rattle.std.proofs.Common.{◌≡◌, ℕ, ◌<◌, ◌≤◌, ◌⊎◌, inl, inr, List, [], Bool, true, false, ◌==◌, if◌then◌else◌, Contains, AllPairs}
use Rattle.std.proofs.Common.{refl, sym, ◌∙◌, ap, arith}
use Rattle.std.proofs.lemmas.Bool.{eqb-true}
use Rattle.std.proofs.lemmas.List.Kept.{AllPairs-filter}
use Rattle.radio_model.specs.declared.sending.Sending.{Sending}
use Rattle.radio_model.specs.OnAir.{Hearing, Tuning}
use Rattle.radio_model.proofs.OverlapWindows.{start_of}
use Rattle.scenario_text.specs.ScenarioParts.{ScenarioParts}
use Rattle.scenario_text.specs.ScenarioFacts.{IsSoundScenario}
use Rattle.scenario_text.specs.FloodParts.{knows}
use Rattle.air_log.specs.declared.entry.Entry.{Entry}
use Rattle.air_log.specs.Entries.{sendings_of, hearings_of, tunings_of}
use Rattle.air_log.specs.Lawful.{Lawful, heard_by, hearings_by, sent_by, tuned_by}
use Rattle.air_log.specs.Trails.{run_end, trail}
use Rattle.lwb_base.proofs.Elements.{filtered, weaker_pairs}
use Rattle.air_log.proofs.StrictOrders.{Apart, in_other_order}
use Rattle.air_log.proofs.TrailSendings.{in_order}
use Rattle.air_log.proofs.TrailTunings.{each_tuned, tuned_in_turn}
use Rattle.law_trails.proofs.SentInTrails.{sent_known, sent_lasts, sent_below, takes_time}
use Rattle.air_log.proofs.SendingsApart.{sendings_apart}
use Rattle.law_one_log.proofs.SameElements.{which_first}
use Rattle.law_one_log.proofs.KeptApart.{of_all_nodes}
use Rattle.law_one_log.proofs.EntriesApart.{SendingsApart, TuningsApart, Other}
use Rattle.law_one_log.proofs.InTurn.{EndApart}

abbrev tuned_start : Tuning → ℕ
tuned_start e = e.start

abbrev hearing : ℕ → Sending → Hearing
hearing n x = record { node = n; sending = x }

none_apart : {X : Type 0} (R : X → X → Type 0) → AllPairs R []
none_apart R = λ i j d less within. absurd (omega (arith, within))

module _ (s : ScenarioParts) (clocks : ℕ → ℕ → ℕ) (air : List Entry) (sound : IsSoundScenario s) (lawful : Lawful s clocks air) where
  pub sent_differ : AllPairs SendingsApart (sendings_of air)
  sent_differ =
      of_all_nodes (λ (x : Sending). x.node) (Apart start_of) (sendings_of air)
      (λ v. in_other_order start_of _ (sent_by air v) (lawful.trails.sent v) (by_known v (knows s.nodes v)))
    where
      by_known : (v : ℕ) (b : Bool) → AllPairs (Apart start_of) (if b then (trail s v (clocks v) (heard_by air v)).made.sent else [])
      by_known v true = λ i j d less within same. (let before = in_order s v (clocks v) (heard_by air v) i j d less within in omega (arith, before, same))
      by_known v false = none_apart (Apart start_of)

  pub tuned_differ : AllPairs TuningsApart (tunings_of air)
  tuned_differ =
      of_all_nodes (λ (e : Tuning). e.node) (Apart tuned_start) (tunings_of air)
      (λ v. in_other_order tuned_start _ (tuned_by air v) (lawful.trails.tuned v) (by_known v (knows s.nodes v)))
    where
      by_known : (v : ℕ) (b : Bool) → AllPairs (Apart tuned_start) (if b then (trail s v (clocks v) (heard_by air v)).made.tuned else [])
      by_known v true = λ i j d less within same. (
          let after = (tuned_in_turn s v (clocks v) (heard_by air v) i j d less within).after in
          let some = (each_tuned s v (clocks v) (heard_by air v) j d within).some in
          omega (arith, after, some, same)
          )
      by_known v false = none_apart (Apart tuned_start)

  -- two transmissions of a node
  pub not_together : (x y : Sending) → Contains (sendings_of air) x → Contains (sendings_of air) y → x.node ≡ y.node
      → (x ≡ y) ⊎ ((x.end ≤ y.start) ⊎ (y.end ≤ x.start))
  not_together x y there also node =
      let v = x.node in
      let known = sent_known s clocks air lawful.trails x there in
      let in_trail : (z : Sending) → Contains (sendings_of air) z → z.node ≡ v → Contains (trail s v (clocks v) (heard_by air v)).made.sent z =
      λ z at of.
      (sent_below s clocks air lawful.trails v known (run_end s) (omega arith) z).0
      (record { there = at; node = of; below = (sent_lasts s clocks air lawful.trails z at).0 }) in
      which_first (λ (a b : Sending). a.end ≤ b.start) (trail s v (clocks v) (heard_by air v)).made.sent (sendings_apart s v (clocks v) (heard_by air v)) x y
      (in_trail x there refl) (in_trail y also (sym node))

  pub one_of_node : (x y : Sending) → Contains (sendings_of air) x → Contains (sendings_of air) y → x.node ≡ y.node → x.start < y.end → y.start < x.end → x ≡ y
  one_of_node x y there also node before after =
      elim (not_together x y there also node) [
        | inl same ↦ same
        | inr (inl over) ↦ absurd (omega (arith, over, after))
        | inr (inr over) ↦ absurd (omega (arith, over, before))
      ]

  pub heard_sent : (h : Hearing) → Contains (hearings_of air) h → Contains (sendings_of air) h.sending
  heard_sent h there = ((lawful.hearing.heard h.node h.sending).0 there).1.sent

  -- what a node received has ends apart
  pub heard_apart : (v : ℕ) → AllPairs EndApart (hearings_by air v)
  heard_apart v =
      weaker_pairs Other EndApart (hearings_by air v) (AllPairs-filter Other mine (hearings_of air) lawful.hearing.once)
      (λ g h there also differ end node.
      let first = filtered mine (hearings_of air) g there in
      let second = filtered mine (hearings_of air) h also in
      let sent = heard_sent g first.0 in
      let sent_too = heard_sent h second.0 in
      let long = takes_time s clocks air lawful.trails sound g.sending sent in
      let long_too = takes_time s clocks air lawful.trails sound h.sending sent_too in
      let same : g.sending ≡ h.sending = one_of_node g.sending h.sending sent sent_too node (omega (arith, end, long)) (omega (arith, end, long_too)) in
      let hearer : g.node ≡ h.node = eqb-true g.node v first.1 ∙ sym (eqb-true h.node v second.1) in
      differ (ap (λ (n : ℕ). hearing n g.sending) hearer ∙ ap (hearing h.node) same))
    where
      mine : Hearing → Bool
      mine h = h.node == v
