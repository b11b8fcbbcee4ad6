-- What is read off the log of one flood is the outcome of the flood by steps.
use Rattle.std.proofs.Common.{◌≡◌, ℕ, zero, suc, ◌+◌, ◌<◌, ◌≤◌, ◌↔◌, List, Bool, true, false, ◌&&◌, inl, inr, Option, Some, None, option_map, filter_map}
use Rattle.std.proofs.Common.{is_some, refl, sym, ◌∙◌, ap, subst, arith, length, ◌==◌, nat_lt}
use Rattle.std.specs.Prelude.{Contains, ◌⊎◌, ◌≢◌}
use Rattle.std.proofs.lemmas.Bool.{cases_order, or_from, ne_eqb, and_from, lt-ltb, ltb-true}
use Rattle.scenario_text.specs.FloodParts.{FloodParts, knows}
use Rattle.bus_terms.specs.Flooding.{Setting, moment, has, may_hear, hears, Sends, Hears, Accepts, accepted, sendings, STEPS}
use Rattle.bus_terms.specs.FloodOfText.{setting, ids, acceptance}
use Rattle.bus_terms.specs.RelayPaths.{IsLeast}
use Rattle.bus_terms.proofs.Options.{inspect, sends_parts}
use Rattle.bus_terms.proofs.OneInitiator.{reaches, some_of, hears-one, has_one, any_of}
use Rattle.bus_terms.proofs.FirstHearings.{heard_in_time, accepted_first}
use Rattle.bus_terms.proofs.LeastPaths.{accepts_least}
use Rattle.bus_terms.proofs.SendingCounts.{all_sendings}
use Rattle.air_log.specs.declared.entry.Entry.{Entry}
use Rattle.radio_model.specs.declared.sending.Sending.{Sending}
use Rattle.air_log.specs.Entries.{sendings_of, hearings_of}
use Rattle.air_log.specs.NodeEvents.{Heard}
use Rattle.air_log.specs.FloodLaw.{FloodLaw}
use Rattle.lwb_flood.specs.FloodRun.{Run, HearsIn, IsParticipant, counter, flood_at_beginning, packet}
use Rattle.lwb_flood.specs.FloodBySteps.{IsFloodBySteps}
use Rattle.lwb_flood.specs.FloodLog.{HasClocks, run_of, HasSentEntry, HasHeard, HeardFirst, IsAcceptanceStep, accepting}
use Rattle.lwb_base.proofs.Elements.{filter_same}
use Rattle.lwb_flood.proofs.FloodLogRun.{Tuned, here_of, start_begins, log_times, log_run}
use Rattle.lwb_flood.proofs.LogEntries.{known_of, ids_distinct, sendings_distinct, heard_was_sent, lasting}
use Rattle.lwb_flood.proofs.SendingCounts.{count}
use Rattle.lwb_flood.proofs.SendingTimes.{timed, over, occasion_event, counter_is}
use Rattle.lwb_flood.proofs.StepHearings.{silent_in, few_sent}
use Rattle.lwb_flood.proofs.StepsOnAir.{IsAt}
use Rattle.lwb_flood.proofs.WholeFlood.{at_step, flood_by_steps}

of_some : (start o : ℕ) (b : Bool) → some_of start b ≡ Some o → start ≡ o
of_some start o true is = cc
of_some start o false is = absurd (cc)

-- nothing is sent after step 11
sent_early : (s : Setting) (k v o : ℕ) → Sends s v k o → k ≤ 11
unfolding moment
sent_early s zero v o is = omega arith
sent_early s (suc k) v o is =
    let early = sends_parts (nat_lt (k + 1) STEPS) (hears s (moment s k) k v) o is in
    let less : k + 1 < 12 = ltb-true (k + 1) 12 early.0 in
    omega arith

module _ (f : FloodParts) (clocks : ℕ → ℕ → ℕ) (air : List Entry) (is : HasClocks f clocks) (law : FloodLaw f clocks air) where
  abbrev s : Setting
  s = setting f

  abbrev r : Run
  r = run_of f clocks air law

  pub by_steps : IsFloodBySteps r
  by_steps = flood_by_steps r (Tuned f clocks air is law) (log_run f clocks air is law)

  -- each packet is that of the starting node
  pub packet_is : (x : Sending) → Contains (sendings_of air) x → (counter x ≤ 11) × (x.packet ≡ packet r f.start (counter x))
  packet_is x sent = let t = timed r (log_times f clocks air is law) x sent in (t.few, t.packet)

  -- transmissions
  pub sent_by_steps : (v k : ℕ) → HasSentEntry air v k ↔ Sends s v k f.start
  sent_by_steps v k = (to, from)
    where
      to : HasSentEntry air v k → Sends s v k f.start
      to h =
          let p = packet_is h.sending h.there in
          let at = h.counter in
          (by_steps.sends v k f.start (start_begins f clocks air is law) (omega (arith, p.0, at))).0
          (record { sending = h.sending; sent = h.there; node = h.node; packet = p.1 ∙ ap (λ (i : ℕ). packet r f.start i) h.counter })

      from : Sends s v k f.start → HasSentEntry air v k
      from sends =
          let z = (by_steps.sends v k f.start (start_begins f clocks air is law) (sent_early s k v f.start sends)).1 sends in
          record {
            sending = z.sending;
            there = z.sent;
            node = z.node;
            counter = counter_is r (log_times f clocks air is law) f.start k z.sending (start_begins f clocks air is law) z.packet;
          }

  -- receptions: with one initiator all of them fit
  heard_in : (v : ℕ) (x : Sending) (k : ℕ) → IsParticipant r v → Contains (hearings_of air) (record { node = v; sending = x }) → counter x ≡ k
      → Hears s v k f.start
  heard_in v x k here there step =
      let p = packet_is x (heard_was_sent f clocks air law v x there) in
      let few : k ≤ 11 = omega (arith, p.0, step) in
      let m = moment s k in
      let at : IsAt r k m = at_step r (Tuned f clocks air is law) (log_run f clocks air is law) k (omega arith) in
      let h : HearsIn r (Tuned f clocks air is law) v x = ((log_run f clocks air is law).hears v x here).0 there in
      let quiet = silent_in (log_run f clocks air is law) few at v x h step in
      let less = few_sent (log_run f clocks air is law) few at v x here h step in
      let sends : m.sends x.node ≡ Some f.start = at.sends x f.start h.sent (start_begins f clocks air is law)
      (p.1 ∙ ap (λ (i : ℕ). packet r f.start i) step) in
      let passes : s.passes k x.node v ≡ true = subst (λ (i : ℕ). s.passes i x.node v ≡ true) step h.arrives in
      let may : may_hear s m v ≡ true = and_from _ _ (and_from _ _ here (rw quiet refl)) (lt-ltb (m.times v) s.limit less) in
      let some : is_some (m.sends x.node) ≡ true = rw sends refl in
      let reached : reaches s m k v ≡ true = any_of (λ u. s.passes k u v && is_some (m.sends u)) s.everyone x.node
      (timed r (log_times f clocks air is law) x h.sent).here (and_from _ _ passes some) in
      hears-one s f.start m k v refl (has_one s f.start k refl) ∙ rw (may, reached) refl

  pub heard_by_steps : (v k : ℕ) → knows f.nodes v ≡ true → HasHeard air v k ↔ Hears s v k f.start
  heard_by_steps v k known = (λ h. heard_in v h.sending k here h.there h.counter, from)
    where
      here : IsParticipant r v
      here = here_of f clocks air is law v known

      from : Hears s v k f.start → HasHeard air v k
      from hears =
          let less = heard_in_time s k v f.start hears in
          let h = (by_steps.hears v k f.start here (start_begins f clocks air is law) (omega arith)).1 hears in
          let event : Contains (law.events v) (Heard h.sending) = occasion_event (flood_at_beginning r v) (law.events v) (record {
            before = h.flood;
            event = Heard h.sending;
          }) h.occasion in
          record {
            sending = h.sending;
            there = ((law.happened v known).hearings h.sending).0 event;
            counter = counter_is r (log_times f clocks air is law) f.start k h.sending (start_begins f clocks air is law) h.packet;
          }

  listens : (v : ℕ) → v ≢ f.start → has s.initiators v ≡ false
  listens v other = or_from (f.start == v) false (ne_eqb f.start v (λ same. other (sym same))) refl

  -- the first reception is that of the least counter
  pub first_accepts : (v k : ℕ) → knows f.nodes v ≡ true → v ≢ f.start → HeardFirst air v k ↔ Accepts s v f.start k
  first_accepts v k known other = (to, from)
    where
      earlier : (x y : Sending) → Contains (sendings_of air) x → Contains (sendings_of air) y → counter x < counter y → x.end < y.end
      earlier x y sent_x sent_y less =
          let last = lasting f clocks air law y sent_y in omega (arith, over r (log_times f clocks air is law) x y sent_x sent_y less, last.1)

      to : HeardFirst air v k → Accepts s v f.start k
      to h = record {
        here = here_of f clocks air is law v known;
        listens = listens v other;
        hears = heard_in v h.sending k (here_of f clocks air is law v known) h.there h.counter;
        first = λ i less heard. (let y = (heard_by_steps v i known).1 heard in
            let step = y.counter in
            let mine = h.counter in
            let before = earlier y.sending h.sending (heard_was_sent f clocks air law v y.sending y.there)
            (heard_was_sent f clocks air law v h.sending h.there) (omega (arith, less, step, mine)) in
            let first = h.first y.sending y.there in
            omega (arith, before, first));
      }

      from : Accepts s v f.start k → HeardFirst air v k
      from a =
          let x = (heard_by_steps v k known).1 a.hears in
          record { sending = x.sending; there = x.there; counter = x.counter; first = λ y there. not_before x y there }
        where
          not_before : (x : HasHeard air v k) (y : Sending) → Contains (hearings_of air) (record { node = v; sending = y }) → x.sending.end ≤ y.end
          not_before x y there =
              let mine = x.counter in
              elim (cases_order (counter x.sending) (counter y)) [
                | inl same ↦
                    (let event : (z : Sending) → Contains (hearings_of air) (record { node = v; sending = z })
                    → Contains (law.events v) (Heard z) = λ z at. ((law.happened v known).hearings z).1 at in
                    let equal : x.sending ≡ y = by_steps.hears_once v x.sending y (here_of f clocks air is law v known) (event x.sending x.there)
                    (event y there) same in
                    let ends : x.sending.end ≡ y.end = ap (λ (z : Sending). z.end) equal in
                    omega (arith, ends))
                | inr differ ↦ elim differ [
                  | inl less ↦ (let before = earlier x.sending y (heard_was_sent f clocks air law v x.sending x.there)
                      (heard_was_sent f clocks air law v y there) less in omega (arith, before))
                  | inr more ↦ absurd (a.first (counter y) (omega (arith, more, mine))
                      (heard_in v y (counter y) (here_of f clocks air is law v known) there refl))
                ]
              ]

  pub accepted_as : (v k : ℕ) → knows f.nodes v ≡ true → v ≢ f.start → HeardFirst air v k ↔ (◌≡◌ {A = Option (ℕ × ℕ)} (accepted s v) (Some (f.start, k)))
  accepted_as v k known other =
      let first = first_accepts v k known other in
      let same = accepted_first s v f.start k in
      (λ h. same.1 (first.0 h), λ a. first.1 (same.0 a))

  pub by_least_path : (v k : ℕ) → knows f.nodes v ≡ true → v ≢ f.start → HeardFirst air v k ↔ IsLeast s f.start (suc k) v
  by_least_path v k known other =
      let first = first_accepts v k known other in
      let path = accepts_least s f.start refl (here_of f clocks air is law f.start is.sound.start_known) k v (here_of f clocks air is law v known) other in
      (λ h. path.0 (first.0 h), λ a. first.1 (path.1 a))

  -- what is accepted is of the starting node
  accepted_origin : (v o k : ℕ) → ◌≡◌ {A = Option (ℕ × ℕ)} (accepted s v) (Some (o, k)) → (f.start ≡ o) × Accepts s v o k
  accepted_origin v o k at =
      let a = (accepted_first s v o k).0 at in
      (of_some f.start o _ (sym (hears-one s f.start (moment s k) k v refl (has_one s f.start k refl)) ∙ a.hears), a)

  none_accepted : (v : ℕ) → knows f.nodes v ≡ true → IsAcceptanceStep f air v None → accepted s v ≡ None
  none_accepted v known none =
      elim (inspect (accepted s v)) [
        | inl nothing ↦ nothing
        | inr some ↦ absurd (by_cases some.0 some.1 none)
      ]
    where
      by_cases : (h : ℕ × ℕ) → ◌≡◌ {A = Option (ℕ × ℕ)} (accepted s v) (Some h)
          → (v ≡ f.start) ⊎ ((x : Sending) → Contains (hearings_of air) (record { node = v; sending = x }) → ⊥) → ⊥
      by_cases h at why =
          let a = accepted_origin v h.0 h.1 at in
          elim why [
            | inl same ↦ (let begun : has s.initiators v ≡ true = subst (λ (w : ℕ). has s.initiators w ≡ true) (sym same) (start_begins f clocks air is law) in
                let not = a.1.listens in no_both (has s.initiators v) begun not)
            | inr nothing ↦ (let x = (heard_by_steps v h.1 known).1 (a.1.hears ∙ ap (λ (o : ℕ). Some o) (sym a.0)) in nothing x.sending x.there)
          ]
        where
          no_both : (b : Bool) → b ≡ true → b ≡ false → ⊥
          no_both b is_true is_false = cc

  -- what is read off is what was accepted
  pub acceptance_is : (v : ℕ) (step : Option ℕ) → knows f.nodes v ≡ true → IsAcceptanceStep f air v step
      → ◌≡◌ {A = Option (ℕ × ℕ)} (option_map {U = ℕ × ℕ} (λ k. (v, k)) step) (acceptance s v)
  acceptance_is v None known none = ap (λ (o : Option (ℕ × ℕ)). option_map {U = ℕ × ℕ} (λ a. (v, a.1)) o) (sym (none_accepted v known none))
  acceptance_is v (Some k) known (other, first) = ap (λ (o : Option (ℕ × ℕ)). option_map {U = ℕ × ℕ} (λ a. (v, a.1)) o)
      (sym ((accepted_as v k known other).0 first))

  pub accepts_read_off : (step : ℕ → Option ℕ) → ((v : ℕ) → knows f.nodes v ≡ true → IsAcceptanceStep f air v (step v))
      → accepting step (ids f.nodes) ≡ filter_map (acceptance s) s.everyone
  accepts_read_off step read = filter_same (λ v. option_map {U = ℕ × ℕ} (λ k. (v, k)) (step v)) (acceptance s) (ids f.nodes)
      (λ v there. let known = known_of f.nodes v there in acceptance_is v (step v) known (read v known))

  pub count_read_off : length (sendings_of air) ≡ sendings s
  count_read_off =
      count r (Tuned f clocks air is law) (log_run f clocks air is law) (sendings_distinct air law.once) (ids_distinct f.nodes is.sound.ascending)
      ∙ all_sendings s s.everyone
