-- Whatever its node receives while a window is open happened in it.
use Rattle.std.specs.Bool.{⊤}
use Rattle.std.proofs.Common.{◌≡◌, ℕ, suc, ◌*◌, ◌/◌, ◌<◌, ◌≤◌, inl, inr, List, [], ◌∷◌, ◌++◌, true, ◌==◌, Some, None, Option, is_some, Contains, fold, map}
use Rattle.std.proofs.Common.{refl, sym, ◌∙◌, ap, subst, arith, length, true≢false, eq-eqb}
use Rattle.std.specs.Option.{IfSome}
use Rattle.std.proofs.lemmas.Bool.{cases_lt}
use Rattle.std.proofs.lemmas.List.Elements.{Contains-append_left, Contains-append_right}
use Rattle.scenario_text.specs.ScenarioParts.{ScenarioParts}
use Rattle.scenario_text.specs.declared.script.ScriptLine.{ScriptLine}
use Rattle.radio_model.specs.declared.sending.Sending.{Sending}
use Rattle.radio_model.specs.Hearing.{frame_of_sending}
use Rattle.air_log.specs.declared.entry.Entry.{Entry}
use Rattle.air_log.specs.Entries.{HasHeardEntry}
use Rattle.air_log.specs.Devices.{Device}
use Rattle.air_log.specs.ScriptedDevices.{device_after_line}
use Rattle.air_log.specs.Lawful.{heard_by}
use Rattle.scenario_text.specs.Setups.{setup_of}
use Rattle.air_log.specs.Trails.{Reception, frame_start, ending_at, device_after_reception, device_after_receptions, device_after_script}
use Rattle.air_log.specs.WindowLogs.{WindowLog, Happening, HeardAt, SentAt, Closing}
use Rattle.lwb_base.proofs.Elements.{in_filtered, map_contains}
use Rattle.law_trails.specs.Phases.{End, device_at}
use Rattle.law_trails.specs.TrailLinks.{device_in}
use Rattle.law_trails.proofs.HeardInTrails.{reception_is}
use Rattle.law_trails.proofs.SentInTrails.{sent_lasts}
use Rattle.air_log.proofs.SendingsKept.{profile_lasts}
use Rattle.law_safety.specs.Rows.{AtTick}
use Rattle.law_safety.proofs.RunFacts.{frame_is}
use Rattle.law_safety.proofs.FloodTimes.{after_frame_start, before_frame_end}
use Rattle.law_safety.proofs.HeardNow.{none_in_frame}
use Rattle.law_windows.specs.WindowSteps.{HasWindows, KeepsWindows}
use Rattle.law_windows.specs.WindowHistory.{HearsAll}
use Rattle.law_windows.proofs.GrownWindows.{HasComeOf, heard_at, grown}

module _ (s : ScenarioParts) (clocks : ℕ → ℕ → ℕ) (air : List Entry) (v : ℕ) where
  -- in a window that is the same but for what follows
  more : (taken : ℕ) (w : WindowLog) (e : Happening) → HearsAll air v taken w
      → (x : Sending) → HasHeardEntry air v x → w.opened < x.end → x.end < taken → IfSome w.closed (λ c. x.end < c.tick)
      → Contains (w.happenings ++ e ∷ []) (HeardAt x.end x.packet)
  more taken w e all x there since until before = Contains-append_left w.happenings (e ∷ []) (HeardAt x.end x.packet) (all x there since until before)

  module _ (t : ℕ) (at : AtTick s clocks air v t) where
    -- at a tick at which something is received no line is given
    pub nothing_told : (x : Sending) → HasHeardEntry air v x → x.end ≡ t
        → device_after_script s v (clocks v) t (device_in s clocks air v t) ≡ device_in s clocks air v t
    nothing_told x there ends =
        let reach = at.run.heedful.heard v x there in
        let lasts = sent_lasts s clocks air at.run.heedful.trails x reach.sent in
        let before : x.start < t = (let some = profile_lasts s.profile at.run.driven.sound.profile (length x.packet) in omega (arith, lasts.1, ends, some)) in
        let flood = at.before.sendings x reach.sent before in
        let from = after_frame_start s clocks air at.run x flood reach.sent in
        let until = before_frame_end s clocks air at.run x flood reach.sent in
        let frame : t / s.profile.frame ≡ frame_of_sending s.profile x =
        frame_is s (frame_of_sending s.profile x) t (omega (arith, from, before)) (omega (arith, until, ends)) in
        let began : frame_start s (t / s.profile.frame) < t = omega (arith, from, before, ap (λ (f : ℕ). f * s.profile.frame) frame) in
        ap (λ (ls : List ScriptLine). fold (device_after_line (clocks v) (setup_of s v) t) (device_in s clocks air v t) ls)
        (none_in_frame s clocks air v t at began)

    -- it is among the receptions of the tick
    among : (x : Sending) → HasHeardEntry air v x → x.end ≡ t → Contains (map (heard_at t) (ending_at t (heard_by air v))) (HeardAt x.end x.packet)
    among x there ends =
        let h : Reception = record { packet = x.packet; end = x.end } in
        let known : Contains (heard_by air v) h = (reception_is air v h).1 (record { sending = x; there = there; packet = refl; end = refl }) in
        subst (λ (k : ℕ). Contains (map (heard_at t) (ending_at t (heard_by air v))) (HeardAt k x.packet)) (sym ends)
        (map_contains (heard_at t) (ending_at t (heard_by air v)) h
        (in_filtered (λ (r : Reception). r.end == t) (heard_by air v) h known (eq-eqb x.end t ends)))

    closed_later : (c : Option Closing) (end : ℕ) → end ≡ t → IfSome c (λ c. end < c.tick) → IfSome c (λ c. c.tick ≤ t) → is_some c ≡ true → ⊥
    closed_later None end ends before by some = true≢false (sym some)
    closed_later (Some c) end ends before by some = omega (arith, ends, before, by)

    happened : (w : WindowLog) → HasComeOf t (device_in s clocks air v t).made.windows (ending_at t (heard_by air v)) w → IfSome w.closed (λ c. c.tick ≤ t)
        → (x : Sending) → HasHeardEntry air v x → w.opened < x.end → IfSome w.closed (λ c. x.end < c.tick) → x.end ≡ t
        → Contains w.happenings (HeardAt x.end x.packet)
    happened w (inl old) past x heard since before ends = absurd (closed_later w.closed x.end ends before past old.1)
    happened w (inr (inl grown)) past x heard since before ends =
        subst (λ (es : List Happening). Contains es (HeardAt x.end x.packet)) (sym grown.happenings)
        (Contains-append_right grown.old.happenings (map (heard_at t) (ending_at t (heard_by air v))) (HeardAt x.end x.packet) (among x heard ends))
    happened w (inr (inr joined)) past x heard since before ends = absurd (let opened = joined.opened in omega (arith, opened, since, ends))

    all_taken : (d : Device) → d ≡ device_at s v (clocks v) (heard_by air v) t End → HasWindows s v (HearsAll air v t) t (device_in s clocks air v t)
        → HasWindows s v (HearsAll air v t) t d
        → (w : WindowLog) → Contains d.made.windows w → HearsAll air v (suc t) w
    all_taken d enters before now w there x heard since until not_closed = elim (cases_lt x.end t) [
      | inl earlier ↦ now.each w there x heard since earlier not_closed
      | inr late ↦ (
          let ends : x.end ≡ t = omega (arith, late, until) in
          let d0 = device_in s clocks air v t in
          let hs = ending_at t (heard_by air v) in
          let all : d ≡ fold (device_after_reception (clocks v) (setup_of s v) t) d0 hs =
          enters ∙ ap (λ (e : Device). fold (device_after_reception (clocks v) (setup_of s v) t) e hs) (nothing_told x heard ends) in
          let has : HasWindows s v (λ w. ⊤) t d0 = record {
            each = λ y in_it. tt;
            past = before.past;
            apart = before.apart;
            stand = before.stand;
            delivered = before.delivered;
          } in
          let come : HasComeOf t d0.made.windows hs w = (grown s clocks v t hs d0 has).1 w (subst (λ (e : Device). Contains e.made.windows w) all there) in
          happened w come (now.past w there) x heard since not_closed ends
          )
    ]

    pub heard_steps : KeepsWindows s clocks air v (λ now taken w. HearsAll air v taken w) t
    heard_steps = record {
      begun = λ d n j fine due on stage x heard since until before. absurd (omega (arith, since, until));
      joined = λ d h n y fine next now on stage says rank x heard since until before. absurd (omega (arith, since, until));
      heard = λ d h n j w x here next now on stage is in_it known. more t x (HeardAt t h.packet) known;
      taken = λ d fine is before now x there. all_taken d is before now x there;
      sent = λ d y n j w x fine enters own ends on stage waiting is in_it known. more (suc t) x (SentAt t y.packet) known;
      closed = λ d n j w x fine due on stage is known y heard since until before. known y heard since until
          (subst (λ (c : Option Closing). IfSome c (λ c. y.end < c.tick)) (sym is.open_) tt);
      passed = λ x known. known;
    }
