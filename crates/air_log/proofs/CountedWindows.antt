-- What windows count so far, event by event.
use Rattle.std.proofs.Common.{◌≡◌, ℕ, ◌+◌, ◌%◌, ◌^◌, ◌≤◌, min, List, [], ◌∷◌, ◌++◌, Bool, true, false, ◌==◌, if◌then◌else◌, Option, Some}
use Rattle.std.proofs.Common.{None, is_some, option_to_list, filter_map, length, sum_by, refl, sym, ◌∙◌, ap, arith, eqb-true, eq-eqb}
use Rattle.std.specs.List.{last_or}
use Rattle.std.proofs.lemmas.Bool.{cond_both, ne_eqb}
use Rattle.std.proofs.lemmas.List.{length-append}
use Rattle.std.proofs.lemmas.List.Elements.{filter_map-append}
use Rattle.std.proofs.lemmas.List.Sums.{sum_by-cons}
use Rattle.lwb_base.specs.Profile.{Numbers}
use Rattle.lwb_base.specs.declared.event.Event.{Event}
use Rattle.lwb_base.specs.declared.event.Event.TheVariants.{Boot, Alarm, Heard, Sent}
use Rattle.radio_model.specs.declared.sending.Sending.{Sending}
use Rattle.bus_rules.specs.Charges.{last_if_all_sent}
use Rattle.node_core.specs.Nodes.{Node}
use Rattle.node_core.specs.Windows.{Window}
use Rattle.node_core.specs.declared.stage.Stage.{Stage}
use Rattle.air_log.specs.Charges.{sent_in, sent_packets, charge_by_last}
use Rattle.air_log.specs.WindowLogs.{WindowLog, is_alarm, happening, opened_log, gone_on, logs_after_closing, window_of_stage, windows_after, windows_by}
use Rattle.air_log.specs.WindowSums.{WindowSum, charge_by, IsCountedTo, IsCounted, stage_has_window, sent_with, opened_sum, only_if, sent_sum, with_packet}
use Rattle.air_log.specs.WindowSums.{noted}

-- the packets that an event adds
sent_by_event : (t : ℕ) (e : Event) (ended : Option Sending) → filter_map sent_in (happening t e ended) ≡ option_to_list (sent_with e ended)
sent_by_event t Boot ended = refl
sent_by_event t Alarm ended = refl
sent_by_event t (Heard p) ended = refl
sent_by_event t Sent None = refl
sent_by_event t Sent (Some x) = refl

last_pushed : (o : Option (List ℕ)) (ps : List (List ℕ)) (p : List ℕ) → last_or o (ps ++ p ∷ []) ≡ Some p
last_pushed o [] p = refl
last_pushed o (q ∷ ps) p = last_pushed (Some q) ps p

same_test : (l n : ℕ) → n ≤ 4 → (min (min l 5 + 1) 5 == n) ≡ (l + 1 == n)
same_test l n few = by (l + 1 == n) refl
  where
    by : (b : Bool) → (l + 1 == n) ≡ b → (min (min l 5 + 1) 5 == n) ≡ b
    by true is = eq-eqb _ _ (omega (arith, few, eqb-true (l + 1) n is))
    by false is = ne_eqb _ _ (λ same. absurd (other (omega (arith, few, same))))
      where
        other : l + 1 ≡ n → ⊥
        other same = Rattle.std.proofs.lemmas.Bool.true≢false (sym (eq-eqb (l + 1) n same) ∙ is)

last_by : (n : ℕ) (ps : List (List ℕ)) (p : List ℕ) → last_if_all_sent n (ps ++ p ∷ []) ≡ only_if (length ps + 1 == n) p
last_by n ps p =
    ap (λ (l : ℕ). if l == n then last_or None (ps ++ p ∷ []) else None) (length-append ps (p ∷ []))
    ∙ ap (λ (o : Option (List ℕ)). if length ps + 1 == n then o else None) (last_pushed None ps p)

module _ (p : Numbers) (n : ℕ) (few : n ≤ 4) where
  -- a packet more in the last window
  pub sends_more : (w m : WindowLog) (ws : List WindowLog) (x : WindowSum) (packet : List ℕ) → x.profile ≡ p → x.sends ≡ n → m.by_alarm ≡ w.by_alarm
      → sent_packets m ≡ sent_packets w ++ packet ∷ []
      → IsCountedTo p n w ws x → IsCountedTo p n m ws (sent_sum packet x)
  sends_more w m ws x packet profile sends same more is = record {
    earlier = is.earlier;
    last =
        ap (λ (b : Bool). if b then charge_by_last x.profile (only_if (min (x.sent + 1) 5 == x.sends) packet) else 0) (is.by_alarm ∙ sym same)
        ∙ ap (λ (o : Option (List ℕ)). if m.by_alarm then charge_by_last x.profile o else 0) last
        ∙ ap (λ (q : Numbers). if m.by_alarm then charge_by_last q (last_if_all_sent n (sent_packets m)) else 0) profile;
    by_alarm = is.by_alarm ∙ sym same;
    sent = omega (arith, is.sent, ap length more, length-append (sent_packets w) (packet ∷ []));
  }
    where
      last : only_if (min (x.sent + 1) 5 == x.sends) packet ≡ last_if_all_sent n (sent_packets m)
      last =
          ap (λ (k : ℕ). only_if (min (k + 1) 5 == x.sends) packet) is.sent
          ∙ ap (λ (k : ℕ). only_if (min (min (length (sent_packets w)) 5 + 1) 5 == k) packet) sends
          ∙ ap (λ (b : Bool). only_if b packet) (same_test (length (sent_packets w)) n few)
          ∙ sym (ap (last_if_all_sent n) more ∙ last_by n (sent_packets w) packet)

  -- an event that leaves the last window open
  goes_on_by : (o : Option (List ℕ)) (w m : WindowLog) (ws : List WindowLog) (x : WindowSum) → x.profile ≡ p → x.sends ≡ n → m.by_alarm ≡ w.by_alarm
      → sent_packets m ≡ sent_packets w ++ option_to_list o
      → IsCountedTo p n w ws x → IsCountedTo p n m ws (with_packet o x)
  goes_on_by None w m ws x profile sends same more is =
      let packets : sent_packets m ≡ sent_packets w = more ∙ Rattle.std.proofs.lemmas.List.append-nil (sent_packets w) in
      record {
        earlier = is.earlier;
        last =
            is.last ∙ ap (λ (b : Bool). if b then charge_by_last p (last_if_all_sent n (sent_packets w)) else 0) (sym same)
            ∙ ap (λ (ps : List (List ℕ)). if m.by_alarm then charge_by_last p (last_if_all_sent n ps) else 0) (sym packets);
        by_alarm = is.by_alarm ∙ sym same;
        sent = is.sent ∙ ap (λ (ps : List (List ℕ)). min (length ps) 5) (sym packets);
      }
  goes_on_by (Some packet) w m ws x profile sends same more is = sends_more w m ws x packet profile sends same more is

  packets_more : (w : WindowLog) (t : ℕ) (e : Event) (ended : Option Sending) (u : Window)
      → filter_map sent_in (w.happenings ++ happening t e ended) ≡ sent_packets w ++ option_to_list (sent_with e ended)
  packets_more w t e ended u =
      filter_map-append sent_in w.happenings (happening t e ended) ∙ ap (λ (ps : List (List ℕ)). sent_packets w ++ ps) (sent_by_event t e ended)

  gone_on_counted : (t : ℕ) (e : Event) (ended : Option Sending) (u : Window) (logs : List WindowLog) (x : WindowSum) → IsCounted p n logs x
      → (with_packet (sent_with e ended) x).last ≤ 2 ^ 28 → IsCounted p n (gone_on t e ended u logs) (with_packet (sent_with e ended) x)
  gone_on_counted t e ended u [] x is less = by (sent_with e ended)
    where
      by : (o : Option (List ℕ)) → IsCounted p n [] (with_packet o x)
      by None = is
      by (Some packet) = record {
        profile = is.profile;
        sends = is.sends;
        counts = record {
          earlier = is.counts.earlier;
          last = ap (λ (b : Bool). if b then charge_by_last x.profile (only_if (min (x.sent + 1) 5 == x.sends) packet) else 0) is.counts.by_alarm;
          by_alarm = is.counts.by_alarm;
        };
        small = tt;
      }
  gone_on_counted t e ended u (w ∷ ws) x is less =
      let m : WindowLog = record w { happenings = w.happenings ++ happening t e ended; last = u } in
      let counts = goes_on_by (sent_with e ended) w m ws x is.profile is.sends refl (packets_more w t e ended u) is.counts in
      kept (sent_with e ended) counts less
    where
      kept : (o : Option (List ℕ)) → IsCountedTo p n (record w { happenings = w.happenings ++ happening t e ended; last = u }) ws (with_packet o x)
          → (with_packet o x).last ≤ 2 ^ 28 → IsCounted p n (record w { happenings = w.happenings ++ happening t e ended; last = u } ∷ ws) (with_packet o x)
      kept None counts less = record { profile = is.profile; sends = is.sends; counts = counts; small = (omega (arith, less, counts.last), is.small.1) }
      kept (Some packet) counts less = record {
        profile = is.profile;
        sends = is.sends;
        counts = counts;
        small = (omega (arith, less, counts.last), is.small.1);
      }

  -- the sum of all
  pub total : (logs : List WindowLog) (x : WindowSum) → IsCounted p n logs x → (x.earlier + x.last) % 2 ^ 64 ≡ sum_by (charge_by p n) logs % 2 ^ 64
  total [] x is = rw (is.counts.earlier, is.counts.last) refl
  total (w ∷ ws) x is =
      let c = is.counts in
      let all = sum_by-cons (charge_by p n) w ws in
      omega (arith, c.earlier, c.last, all)

  -- a window opens with nothing sent in it
  opened_counted : (b : Bool) (m : WindowLog) (logs : List WindowLog) (x : WindowSum) → m.by_alarm ≡ b → sent_packets m ≡ [] → IsCounted p n logs x
      → IsCountedTo p n m logs (opened_sum b x)
  opened_counted b m logs x same none is = record {
    earlier = total logs x is;
    last =
        ap (λ (q : Numbers). if b then charge_by_last q None else 0) is.profile
        ∙ ap (λ (o : Option (List ℕ)). if b then charge_by_last p o else 0) (sym (ap (last_if_all_sent n) none ∙ nothing_last))
        ∙ ap (λ (c : Bool). if c then charge_by_last p (last_if_all_sent n (sent_packets m)) else 0) (sym same);
    by_alarm = sym same;
    sent = ap (λ (ps : List (List ℕ)). min (length ps) 5) (sym none);
  }
    where
      nothing_last : (let none : List (List ℕ) = [] in last_if_all_sent n none ≡ None)
      nothing_last = cond_both (0 == n) None None (λ (o : Option (List ℕ)). o ≡ None) (λ is. refl) (λ is. refl)

  opens_counted : (t : ℕ) (e : Event) (ended : Option Sending) (nd md : Node) (i : ℕ) (u : Window) (logs : List WindowLog) (x : WindowSum)
      → IsCounted p n logs x → (with_packet (sent_with e ended) (opened_sum (is_alarm e) x)).last ≤ 2 ^ 28
      → IsCounted p n (opened_log t e ended nd md i u ∷ logs) (with_packet (sent_with e ended) (opened_sum (is_alarm e) x))
  opens_counted t e ended nd md i u logs x is less =
      let bare : WindowLog = record (opened_log t e ended nd md i u) { happenings = [] } in
      let opened = opened_counted (is_alarm e) bare logs x refl refl is in
      let counts = goes_on_by (sent_with e ended) bare (opened_log t e ended nd md i u) logs (opened_sum (is_alarm e) x) is.profile is.sends refl
      (sent_by_event t e ended) opened in
      kept (sent_with e ended) counts less
    where
      kept : (o : Option (List ℕ)) → IsCountedTo p n (opened_log t e ended nd md i u) logs (with_packet o (opened_sum (is_alarm e) x))
          → (with_packet o (opened_sum (is_alarm e) x)).last ≤ 2 ^ 28
          → IsCounted p n (opened_log t e ended nd md i u ∷ logs) (with_packet o (opened_sum (is_alarm e) x))
      kept None counts less = record { profile = is.profile; sends = is.sends; counts = counts; small = (omega (arith, less, counts.last), is.small) }
      kept (Some packet) counts less = record { profile = is.profile; sends = is.sends; counts = counts; small = (omega (arith, less, counts.last), is.small) }

  closed_counted : (t : ℕ) (md : Node) (logs : List WindowLog) (x : WindowSum) → IsCounted p n logs x → IsCounted p n (logs_after_closing t md logs) x
  closed_counted t md [] x is = is
  closed_counted t md (w ∷ ws) x is =
      let c = is.counts in
      record {
        profile = is.profile;
        sends = is.sends;
        counts = record { earlier = c.earlier; last = c.last; by_alarm = c.by_alarm; sent = c.sent };
        small = is.small;
      }

  pub after_event : (t : ℕ) (e : Event) (ended : Option Sending) (nd md : Node) (from to : Stage) (logs : List WindowLog) (x : WindowSum) → IsCounted p n logs x
      → (noted (stage_has_window from) (stage_has_window to) (is_alarm e) (sent_with e ended) x).last ≤ 2 ^ 28
      → IsCounted p n (windows_after t e ended nd md from to logs) (noted (stage_has_window from) (stage_has_window to) (is_alarm e) (sent_with e ended) x)
  after_event t e ended nd md from to logs x is less = by_windows (window_of_stage from) (window_of_stage to) less
    where
      by_windows : (old new : Option (ℕ × Window)) → (noted (is_some old) (is_some new) (is_alarm e) (sent_with e ended) x).last ≤ 2 ^ 28
          → IsCounted p n (windows_by t e ended nd md old new logs) (noted (is_some old) (is_some new) (is_alarm e) (sent_with e ended) x)
      by_windows (Some old) (Some new) less = gone_on_counted t e ended new.1 logs x is less
      by_windows (Some old) None less = closed_counted t md logs x is
      by_windows None (Some new) less = opens_counted t e ended nd md new.0 new.1 logs x is less
      by_windows None None less = is
