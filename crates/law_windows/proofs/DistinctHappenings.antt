-- Nothing happens twice in a window.
use Rattle.std.specs.Bool.{⊤}
use Rattle.std.proofs.Common.{◌≡◌, ℕ, zero, suc, ◌*◌, ◌/◌, ◌<◌, ◌≤◌, inl, inr, List, [], ◌∷◌, ◌++◌, true, ◌==◌, None, Contains, fold, map, refl, sym, ◌∙◌, ap}
use Rattle.std.proofs.Common.{subst, arith, eqb-true}
use Rattle.std.proofs.lemmas.List.Elements.{Contains-append_cases, Contains-append_left, Contains-append_right}
use Rattle.scenario_text.specs.ScenarioParts.{ScenarioParts}
use Rattle.scenario_text.specs.FloodParts.{knows}
use Rattle.scenario_text.specs.declared.script.ScriptLine.{ScriptLine}
use Rattle.radio_model.specs.declared.sending.Sending.{Sending}
use Rattle.radio_model.specs.Hearing.{frame_of_sending}
use Rattle.air_log.specs.declared.entry.Entry.{Entry}
use Rattle.air_log.specs.Entries.{sendings_of}
use Rattle.air_log.specs.Devices.{Device}
use Rattle.air_log.specs.ScriptedDevices.{device_after_line}
use Rattle.air_log.specs.Lawful.{Lawful, heard_by}
use Rattle.scenario_text.specs.Setups.{setup_of}
use Rattle.air_log.specs.Trails.{Reception, run_end, before_tick, frame_start, ending_at, device_after_reception, device_after_script}
use Rattle.air_log.specs.WindowLogs.{WindowLog, Happening, HeardAt, SentAt}
use Rattle.lwb_base.proofs.Elements.{Distinct, not_in_none, contains_head, contains_cases, map_from, filtered}
use Rattle.lwb_base.proofs.Options.{none_not_some}
use Rattle.law_trails.specs.Phases.{End, IsNextHearing, device_at}
use Rattle.law_trails.specs.TrailLinks.{device_in}
use Rattle.law_safety.specs.Invariant.{IsObedientRun}
use Rattle.law_safety.specs.FloodSendings.{IsOfFlood}
use Rattle.law_safety.specs.KnownInRows.{IsHeardNow}
use Rattle.law_safety.specs.Rows.{AtTick, AllRows, IsFine}
use Rattle.law_safety.proofs.RunFacts.{frame_is}
use Rattle.law_safety.proofs.FloodTimes.{after_frame_start, before_frame_end}
use Rattle.law_safety.proofs.HeardNow.{none_in_frame}
use Rattle.law_windows.specs.WindowHistory.{tick_of_happening}
use Rattle.law_windows.specs.WindowSteps.{HasWindows, KeepsWindows}
use Rattle.law_windows.proofs.DistinctHearings.{split_distinct, distinct_receptions}
use Rattle.law_windows.proofs.GrownWindows.{HasComeOf, heard_at, grown}
use Rattle.law_windows.proofs.HeardThroughout.{nothing_told}
use Rattle.law_windows.proofs.WindowHistory.{IsHistory, history_steps, made, in_air}
use Rattle.law_windows.proofs.WindowWalk.{windows_before, windows_behind}

pushed_distinct : {X : Type 0} (xs : List X) (x : X) → Distinct xs → (Contains xs x → ⊥) → Distinct (xs ++ x ∷ [])
pushed_distinct [] x all none = (λ there. not_in_none x there, tt)
pushed_distinct {X = X} (y ∷ xs) x all none = (
  λ there. elim (Contains-append_cases xs (x ∷ []) y there) [
    | inl old ↦ all.0 old
    | inr new ↦ elim (contains_cases x [] y new) [
      | inl same ↦ none (subst (Contains (y ∷ xs)) (sym same) (contains_head y xs))
      | inr nothing ↦ not_in_none y nothing
    ]
  ],
  pushed_distinct xs x all.1 (λ there. none (contains_later y xs x there)),
)
  where
    contains_later : (y : X) (xs : List X) (x : X) → Contains xs x → Contains (y ∷ xs) x
    contains_later y xs x there = Contains-append_right (y ∷ []) xs x there

-- what was received now was one of these
heard_one : (t : ℕ) (taken : List Reception) (e : Happening) → Contains (map (heard_at t) taken) e → (h : Reception) × Contains taken h × (heard_at t h ≡ e)
heard_one t taken e there = map_from (heard_at t) taken e there

packet_of : (t u : ℕ) (p q : List ℕ) → HeardAt t p ≡ HeardAt u q → p ≡ q
packet_of t u p q is = cc

not_sent : (t u : ℕ) (p q : List ℕ) → HeardAt t p ≡ SentAt u q → ⊥
not_sent t u p q is = cc

module _ (rows : AllRows) (s : ScenarioParts) (clocks : ℕ → ℕ → ℕ) (air : List Entry) (run : IsObedientRun s clocks air) (lawful : Lawful s clocks air) (v : ℕ)
    (known : knows s.nodes v ≡ true) where
  abbrev Histories : ℕ → ℕ → WindowLog → Type 0
  Histories now taken w = IsHistory s clocks air v now w

  -- before a tick all that happened is past
  past : (t : ℕ) → t ≤ run_end s → (w : WindowLog) → Contains (device_in s clocks air v t).made.windows w → (e : Happening) → Contains w.happenings e
      → tick_of_happening e < t
  unfolding before_tick
  past zero within w there e in_it = absurd (not_in_none w there)
  past (suc t) within w there e in_it =
      let behind = windows_behind s clocks air v Histories rows run known (λ u at. history_steps s clocks air v u at) t (omega (arith, within)) in
      let by = (behind.1.each w there).past e in_it in
      omega (arith, by)

  module _ (t : ℕ) (at : AtTick s clocks air v t) where
    abbrev d0 : Device
    d0 = device_in s clocks air v t

    within : t ≤ run_end s
    within = let in_run = at.in_run in omega (arith, in_run)

    has : HasWindows s v (λ w. ⊤) t d0
    has =
        let have = windows_before s clocks air v Histories rows run known (λ u at. history_steps s clocks air v u at) t within in
        record { each = λ w there. tt; past = have.past; apart = have.apart; stand = have.stand; delivered = have.delivered }

    -- an open window, after some of the receptions of the tick: what happened in it now are some of these
    module _ (taken : List Reception) (d : Device) (is : d ≡ fold (device_after_reception (clocks v) (setup_of s v) t) d0 taken) (w : WindowLog)
        (there : Contains d.made.windows w) (open_ : w.closed ≡ None) where
      come : HasComeOf t d0.made.windows taken w
      come = (grown s clocks v t taken d0 has).1 w (subst (λ (e : Device). Contains e.made.windows w) is there)

      pub heard_now : (e : Happening) → Contains w.happenings e → tick_of_happening e ≡ t → (h : Reception) × Contains taken h × (heard_at t h ≡ e)
      heard_now e in_it now = elim come [
        | inl old ↦ absurd (none_not_some w.closed open_ old.1)
        | inr (inl grew) ↦ elim
            (Contains-append_cases grew.old.happenings (map (heard_at t) taken) e (subst (λ (es : List Happening). Contains es e) grew.happenings in_it)) [
              | inl before ↦ absurd (let early = past t within grew.old grew.there e before in omega (arith, early, now))
              | inr new ↦ heard_one t taken e new
            ]
        | inr (inr joined) ↦ (
            let one = heard_one t (joined.first ∷ joined.later) e (subst (λ (es : List Happening). Contains es e) joined.happenings in_it) in (
              one.0,
              subst (λ (l : List Reception). Contains l one.0) (sym joined.is)
                  (Contains-append_right joined.earlier (joined.first ∷ joined.later) one.0 one.1),
              one.2,
            )
            )
      ]

    -- what is received next was not received before
    hears_new : (d : Device) (h : Reception) (w : WindowLog) → IsNextHearing s v (clocks v) (heard_by air v) t h d → IsHeardNow s clocks air v t h d
        → Contains d.made.windows w → w.closed ≡ None → Contains w.happenings (HeardAt t h.packet) → ⊥
    hears_new d h w next now there open_ in_it =
        let is : d ≡ fold (device_after_reception (clocks v) (setup_of s v) t) d0 next.taken =
        next.is ∙ ap (λ (e : Device). fold (device_after_reception (clocks v) (setup_of s v) t) e next.taken)
        (nothing_told s clocks air v t at now.sending now.there now.end) in
        let one = heard_now next.taken d is w there open_ (HeardAt t h.packet) in_it refl in
        let ends : Contains (ending_at t (heard_by air v)) one.0 =
        subst (λ (l : List Reception). Contains l one.0) (sym next.hearings) (Contains-append_left next.taken (h ∷ next.rest) one.0 one.1) in
        let end : one.0.end ≡ t = eqb-true one.0.end t (filtered (λ (r : Reception). r.end == t) (heard_by air v) one.0 ends).1 in
        let packet : one.0.packet ≡ h.packet = packet_of t t one.0.packet h.packet one.2 in
        let same : one.0 ≡ h = same_reception one.0 h packet (end ∙ sym next.now) in
        split_distinct next.taken next.rest h
        (subst (λ (l : List Reception). Distinct l) next.hearings (distinct_receptions s clocks air run lawful v t)) (subst (Contains next.taken) same one.1)
      where
        of_parts : List ℕ → ℕ → Reception
        of_parts packet end = record { packet = packet; end = end }

        same_reception : (a b : Reception) → a.packet ≡ b.packet → a.end ≡ b.end → a ≡ b
        same_reception a b packet end = ap (λ (p : List ℕ). of_parts p a.end) packet ∙ ap (λ (k : ℕ). of_parts b.packet k) end

    -- and no own transmission has ended at this tick yet
    ends_new : (d : Device) (y : Sending) (w : WindowLog) → IsFine s clocks air v t End d → d ≡ device_at s v (clocks v) (heard_by air v) t End
        → Contains (sendings_of air) y → y.start < t → y.end ≡ t
        → IsOfFlood s clocks air y → Contains d.made.windows w → w.closed ≡ None → Contains w.happenings (SentAt t y.packet) → ⊥
    ends_new d y w fine enters sent early ends flood there open_ in_it =
        let from = after_frame_start s clocks air at.run y flood sent in
        let until = before_frame_end s clocks air at.run y flood sent in
        let frame : t / s.profile.frame ≡ frame_of_sending s.profile y =
        frame_is s (frame_of_sending s.profile y) t (omega (arith, from, early)) (omega (arith, until, ends)) in
        let began : frame_start s (t / s.profile.frame) < t = omega (arith, from, early, ap (λ (f : ℕ). f * s.profile.frame) frame) in
        let untold : device_after_script s v (clocks v) t d0 ≡ d0 =
        ap (λ (ls : List ScriptLine). fold (device_after_line (clocks v) (setup_of s v) t) d0 ls) (none_in_frame s clocks air v t at began) in
        let hs = ending_at t (heard_by air v) in
        let is : d ≡ fold (device_after_reception (clocks v) (setup_of s v) t) d0 hs =
        enters ∙ ap (λ (e : Device). fold (device_after_reception (clocks v) (setup_of s v) t) e hs) untold in
        let one = heard_now hs d is w there open_ (SentAt t y.packet) in_it refl in
        not_sent t t one.0.packet y.packet one.2

    pub distinct_steps : KeepsWindows s clocks air v (λ now taken w. Distinct w.happenings) t
    distinct_steps = record {
      begun = λ d n j fine due on stage. tt;
      joined = λ d h n y fine next now on stage says rank. (λ there. not_in_none (HeardAt t h.packet) there, tt);
      heard = λ d h n j w x here next now on stage is in_it known. pushed_distinct x.happenings (HeardAt t h.packet) known
          (hears_new d h x next now in_it is.open_);
      taken = λ d fine is before now x there. now.each x there;
      sent = λ d y n j w x fine enters own ends on stage waiting is in_it known. pushed_distinct x.happenings (SentAt t y.packet) known
          (ends_new d y x fine enters (in_air s clocks air v t at d y n j w x fine enters own ends on stage is).0
          (fine.before y (made s clocks air v t at d y n j w x fine enters own ends on stage is)) ends
          (fine.sent y (made s clocks air v t at d y n j w x fine enters own ends on stage is)) in_it is.open_);
      closed = λ d n j w x fine due on stage is known. known;
      passed = λ x known. known;
    }
