-- A node receives at most one of the transmissions that start together.
use Rattle.std.proofs.Common.{◌≡◌, ℕ, ◌<◌, inl, inr, List, Some, AllPairs, length, sym, ◌∙◌, ap, subst, arith}
use Rattle.lwb_base.specs.Profile.{Numbers, IsProfile, airtime}
use Rattle.lwb_base.proofs.Elements.{weaker_pairs}
use Rattle.link_trace.specs.Passes.{captured}
use Rattle.radio_model.specs.declared.sending.Sending.{Sending}
use Rattle.radio_model.specs.Hearing.{Scene, Meets, Rival, Captured, frame_of_sending, slot_of_sending, counter_of_sending}
use Rattle.scenario_text.specs.ScenarioParts.{ScenarioParts}
use Rattle.air_log.specs.declared.entry.Entry.{Entry}
use Rattle.air_log.specs.Devices.{Listening}
use Rattle.air_log.specs.Entries.{hearings_of}
use Rattle.air_log.specs.HearsAir.{scene_of, HearsAir}
use Rattle.air_log.specs.Safe.{Safe, SameStep}
use Rattle.law_trails.proofs.SentInTrails.{sent_lasts, takes_time}
use Rattle.law_trails.proofs.TunedInTrails.{tuned_listens}
use Rattle.law_trails.specs.OnePacket.{reception_at as hearing}
use Rattle.law_safety.proofs.SafeRuns.{lawful_logs_are_safe}
use Rattle.law_terms.specs.LawfulRuns.{IsLawfulRun}
use Rattle.law_one_log.proofs.EntriesApart.{HearingsApart, Other}
use Rattle.law_one_log.proofs.OfTrails.{one_of_node}

-- a packet is on the air longer than the steps of those that reach a node at once may lie apart
outlasts : (p : Numbers) → IsProfile p → (n : ℕ) → p.delta < airtime p n
outlasts p (inl is) n =
    let long = ap (λ (q : Numbers). airtime q n) is in
    let near = ap (λ (q : Numbers). q.delta) is in
    omega (arith, long, near)
outlasts p (inr is) n =
    let long = ap (λ (q : Numbers). airtime q n) is.0 in
    let near = ap (λ (q : Numbers). q.delta) is.0 in
    omega (arith, long, near)

module _ (s : ScenarioParts) (clocks : ℕ → ℕ → ℕ) (air : List Entry) (run : IsLawfulRun s clocks air) where
  abbrev scene : Scene
  scene = scene_of s.profile s.trace air

  safe : Safe s clocks air
  safe = lawful_logs_are_safe s clocks air (record { sound = run.sound; drift = run.drift }) run.lawful

  -- two that a node receives and that start together
  module _ (v : ℕ) (x y : Sending) (hears : HearsAir s.profile s.trace air v x) (also : HearsAir s.profile s.trace air v y) (start : x.start ≡ y.start) where
    x_lasts : x.start < x.end
    x_lasts = takes_time s clocks air run.lawful.trails run.sound x hears.sent

    y_lasts : y.start < y.end
    y_lasts = takes_time s clocks air run.lawful.trails run.sound y also.sent

    -- it was tuned to one channel as they started
    channel : x.rank ≡ y.rank
    channel =
        let k = x.start in
        let one = tuned_listens s clocks air run.lawful.trails v x.rank k (hears.tuned k (omega arith) x_lasts) in
        let two = tuned_listens s clocks air run.lawful.trails v y.rank k (also.tuned k (omega (arith, start)) (omega (arith, start, y_lasts))) in
        let both : Some one.listening ≡ Some two.listening = sym one.is ∙ two.is in
        let same : one.listening ≡ two.listening = cc in
        sym one.channel ∙ ap (λ (l : Listening). l.rank) same ∙ two.channel

    meets : Meets x y
    meets = record { before = omega (arith, start, y_lasts); after = omega (arith, start, x_lasts) }

    meets_back : Meets y x
    meets_back = record { before = omega (arith, start, x_lasts); after = omega (arith, start, y_lasts) }

    rival : Rival scene v x y
    rival = record { sent = also.sent; channel = sym channel; meets = meets; arrives = also.arrives }

    rival_back : Rival scene v y x
    rival_back = record { sent = hears.sent; channel = channel; meets = meets_back; arrives = hears.arrives }

    step : SameStep s.profile x y
    step = safe.no_overlap x y hears.sent also.sent channel meets

    -- a rival with the same packet begins within delta of it, so two of one node are one
    one_winner : (c : Captured scene v x) (d : Captured scene v y) → c.winner.node ≡ d.winner.node → c.winner ≡ d.winner
    one_winner c d node =
        let w = c.winner in
        let z = d.winner in
        let w_first = (hears.first w c.rival c.same).start in
        let w_close = hears.close w c.rival c.same in
        let z_first = (also.first z d.rival d.same).start in
        let z_close = also.close z d.rival d.same in
        let w_long = (sent_lasts s clocks air run.lawful.trails w c.rival.sent).1 in
        let z_long = (sent_lasts s clocks air run.lawful.trails z d.rival.sent).1 in
        let w_outlasts = outlasts s.profile run.sound.profile (length w.packet) in
        let z_outlasts = outlasts s.profile run.sound.profile (length z.packet) in
        one_of_node s clocks air run.sound run.lawful w z c.rival.sent d.rival.sent node
        (omega (arith, start, w_close, z_first, z_long, z_outlasts))
        (omega (arith, start, z_close, w_first, w_long, w_outlasts))

    -- a capture line names one node
    one_named : (c : Captured scene v x) (d : Captured scene v y) → c.winner.node ≡ d.winner.node
    one_named c d =
        let line = captured s.trace in
        let frame : frame_of_sending s.profile x ≡ frame_of_sending s.profile y = step.slot.frame in
        let moved =
        ap (λ (f : ℕ). line f (slot_of_sending x) (counter_of_sending x) v) frame
        ∙ ap (λ (j : ℕ). line (frame_of_sending s.profile y) j (counter_of_sending x) v) step.slot.slot
        ∙ ap (λ (k : ℕ). line (frame_of_sending s.profile y) (slot_of_sending y) k v) step.counter in
        let both : Some c.winner.node ≡ Some d.winner.node = sym c.named ∙ moved ∙ d.named in
        cc

    packet : y.packet ≡ x.packet
    packet =
        elim hears.chosen [
          | inl alone ↦ alone y rival
          | inr c ↦ elim also.chosen [
            | inl alone ↦ sym (alone x rival_back)
            | inr d ↦ sym d.same ∙ ap (λ (z : Sending). z.packet) (sym (one_winner c d (one_named c d))) ∙ c.same
          ]
        ]

    pub one_heard : x ≡ y
    one_heard =
        let up = (hears.first y rival packet).node start in
        let down = (also.first x rival_back (sym packet)).node (sym start) in
        one_of_node s clocks air run.sound run.lawful x y hears.sent also.sent (omega (arith, up, down)) meets.before meets.after

  pub hearings_apart : AllPairs HearingsApart (hearings_of air)
  hearings_apart =
      weaker_pairs Other HearingsApart (hearings_of air) run.lawful.hearing.once
      (λ g h there also differ node start.
      let hears = ((run.lawful.hearing.heard g.node g.sending).0 there).1 in
      let hears_too = ((run.lawful.hearing.heard h.node h.sending).0 also).1 in
      let same = one_heard g.node g.sending h.sending hears
      (subst (λ (v : ℕ). HearsAir s.profile s.trace air v h.sending) (sym node) hears_too) start in
      differ (ap (λ (v : ℕ). hearing v g.sending) node ∙ ap (hearing h.node) same))
