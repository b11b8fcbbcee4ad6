-- Tick by tick: two valid logs over the same clocks have the same receptions, as long as their scenarios, which differ in
-- nothing but the script, have the same script lines.
use Rattle.std.proofs.Common.{◌≡◌, ℕ, zero, suc, ◌<◌, ◌≤◌, inl, inr, List, Bool, true, ◌==◌, nat_lt, if◌then◌else◌}
use Rattle.std.proofs.Common.{None, map, filter, fold, Contains, AllPairs, refl, sym, ◌∙◌, ap, subst, arith, ltb-true}
use Rattle.std.proofs.lemmas.Bool.{cases_lt}
use Rattle.std.proofs.lemmas.List.Kept.{AllPairs-filter}
use Rattle.std.proofs.lemmas.List.Sorted.{Contains-permutation, IsPermutation-sym}
use Rattle.radio_model.specs.declared.sending.Sending.{Sending}
use Rattle.radio_model.specs.OnAir.{Hearing, Tuning}
use Rattle.radio_model.specs.Hearing.{IsTuned}
use Rattle.radio_model.specs.Holding.{Agree}
use Rattle.radio_model.proofs.Settled.{settled}
use Rattle.scenario_text.specs.ScenarioParts.{ScenarioParts}
use Rattle.scenario_text.specs.ScenarioFacts.{IsSoundScenario}
use Rattle.scenario_text.specs.declared.script.ScriptLine.{ScriptLine}
use Rattle.air_log.specs.declared.entry.Entry.{Entry}
use Rattle.air_log.specs.Devices.{Device}
use Rattle.air_log.specs.Entries.{sendings_of, hearings_of, tunings_of, HasHeardEntry}
use Rattle.air_log.specs.HearsAir.{scene_of}
use Rattle.air_log.specs.Lawful.{Lawful, by_end, reception_of, hearings_by, heard_by}
use Rattle.air_log.specs.QuietTicks.{ends_before}
use Rattle.scenario_text.specs.Setups.{setup_of}
use Rattle.air_log.specs.Trails.{Reception, lines_at, frame_start, run_end, trail, tick, device_after_receptions, device_after_end, alarmed}
use Rattle.air_log.specs.Trails.{device_after_start, before_tick, tune_of, tune_at}
use Rattle.air_log.specs.ScriptedDevices.{device_after_line}
use Rattle.lwb_base.proofs.Elements.{in_filtered, filtered}
use Rattle.lwb_base.proofs.Lists.{filter_map_of}
use Rattle.air_log.proofs.QuietTicks.{prefix, prefix_run}
use Rattle.air_log.proofs.TunedBefore.{TunedAt}
use Rattle.law_trails.specs.TrailLinks.{device_in}
use Rattle.law_trails.proofs.TunedInTrails.{tuned_there}
use Rattle.law_trails.proofs.SentInTrails.{sent_known, sent_lasts, sent_below, takes_time}
use Rattle.law_one_log.proofs.InTurn.{InTurn, by_end_moves, by_end_in_turn, same_in_turn}
use Rattle.law_one_log.proofs.OfTrails.{heard_apart}
use Rattle.law_one_log.proofs.TunedBack.{tuned_here, by_device, by_log}

-- what a has received before tick t, b has
abbrev pub HeardToo : List Entry → List Entry → ℕ → Type 0
HeardToo a b t = (v : ℕ) (x : Sending) → x.end < t → HasHeardEntry a v x → HasHeardEntry b v x

-- and conversely
abbrev pub HeardAlike : List Entry → List Entry → ℕ → Type 0
HeardAlike a b t = HeardToo a b t × HeardToo b a t

other_way : (a b : List Entry) (t : ℕ) → HeardAlike a b t → HeardAlike b a t
other_way a b t alike = (alike.1, alike.0)

alike_earlier : (a b : List Entry) (t u : ℕ) → t ≤ u → HeardAlike a b u → HeardAlike a b t
alike_earlier a b t u order alike = (
  λ v x before is. alike.0 v x (omega (arith, order, before)) is,
  λ v x before is. alike.1 v x (omega (arith, order, before)) is,
)

abbrev over_before : ℕ → Hearing → Bool
over_before t h = nat_lt h.sending.end t

abbrev taken : List Entry → ℕ → ℕ → List Hearing
taken air v t = filter (over_before t) (by_end (hearings_by air v))

-- what a node receives, as its trail takes it
taken_too : (a b : List Entry) (t v : ℕ) → HeardToo a b t → (h : Hearing) → Contains (taken a v t) h → Contains (taken b v t) h
taken_too a b t v too h there =
    let early = filtered (over_before t) (by_end (hearings_by a v)) h there in
    let own = filtered mine (hearings_of a) h
    (Contains-permutation _ _ h (IsPermutation-sym _ _ (by_end_moves (hearings_by a v))) early.0) in
    let also : Contains (hearings_of b) h = too h.node h.sending (ltb-true h.sending.end t early.1) own.0 in
    in_filtered (over_before t) (by_end (hearings_by b v)) h
    (Contains-permutation _ _ h (by_end_moves (hearings_by b v)) (in_filtered mine (hearings_of b) h also own.1)) early.1
  where
    mine : Hearing → Bool
    mine h = h.node == v

in_turn : (s : ScenarioParts) (clocks : ℕ → ℕ → ℕ) → IsSoundScenario s → (air : List Entry) → Lawful s clocks air → (t v : ℕ) → AllPairs InTurn (taken air v t)
in_turn s clocks sound air lawful t v =
    AllPairs-filter InTurn (over_before t) (by_end (hearings_by air v)) (by_end_in_turn (hearings_by air v) (heard_apart s clocks air sound lawful v))

abbrev pub with_lines : ScenarioParts → List ScriptLine → ScenarioParts
with_lines p xs = record p { script = xs }

-- two logs, each valid for the scenario with its script; before a tick each node has the same lines in both
pub record Twins (p : ScenarioParts) (clocks : ℕ → ℕ → ℕ) (until : ℕ) (xs ys : List ScriptLine) (a b : List Entry) : Type 0 where
  pub first : IsSoundScenario (with_lines p xs)
  pub second : IsSoundScenario (with_lines p ys)
  pub of_a : Lawful (with_lines p xs) clocks a
  pub of_b : Lawful (with_lines p ys) clocks b
  pub lines : (v k : ℕ) → k < until → lines_at (with_lines p xs) v k ≡ lines_at (with_lines p ys) v k

module _ (p : ScenarioParts) (clocks : ℕ → ℕ → ℕ) (until : ℕ) where
  pub turned : (xs ys : List ScriptLine) (a b : List Entry) → Twins p clocks until xs ys a b → Twins p clocks until ys xs b a
  turned xs ys a b twins = record {
    first = twins.second;
    second = twins.first;
    of_a = twins.of_b;
    of_b = twins.of_a;
    lines = λ v k less. sym (twins.lines v k less);
  }

  module _ (xs ys : List ScriptLine) (a b : List Entry) (twins : Twins p clocks until xs ys a b) where
    abbrev s : ScenarioParts
    s = with_lines p xs

    abbrev u : ScenarioParts
    u = with_lines p ys

    same_heard : (t v : ℕ) → HeardAlike a b t → filter (ends_before t) (heard_by a v) ≡ filter (ends_before t) (heard_by b v)
    same_heard t v alike =
        let same : taken a v t ≡ taken b v t = same_in_turn (taken a v t) (taken b v t) (in_turn s clocks twins.first a twins.of_a t v)
        (in_turn u clocks twins.second b twins.of_b t v) (taken_too a b t v alike.0) (taken_too b a t v alike.1) in
        filter_map_of reception_of (ends_before t) (by_end (hearings_by a v))
        ∙ ap (map reception_of) same
        ∙ sym (filter_map_of reception_of (ends_before t) (by_end (hearings_by b v)))

    -- the same lines leave the same
    same_tick : (v t : ℕ) (hs : List Reception) → t < until → (d : Device) → tick s v (clocks v) hs t d ≡ tick u v (clocks v) hs t d
    same_tick v t hs less d =
        let x = setup_of p v in
        ap (λ (ls : List ScriptLine). device_after_start x t
        (alarmed (clocks v) x t
        (device_after_end (clocks v) x t (device_after_receptions (clocks v) x t hs (fold (device_after_line (clocks v) x t) d ls)))))
        (twins.lines v t less)

    same_script : (v : ℕ) (hs : List Reception) (t : ℕ) → t ≤ until → before_tick s v (clocks v) hs t ≡ before_tick u v (clocks v) hs t
    unfolding before_tick
    same_script v hs zero soon = refl
    same_script v hs (suc t) soon =
        ap (tick s v (clocks v) hs t) (same_script v hs t (omega (arith, soon))) ∙ same_tick v t hs soon (before_tick u v (clocks v) hs t)

    pub same_device : (t v : ℕ) → t ≤ until → HeardAlike a b t → device_in s clocks a v t ≡ device_in u clocks b v t
    same_device t v soon alike = prefix s v (clocks v) (heard_by a v) (heard_by b v) t (same_heard t v alike) ∙ same_script v (heard_by b v) t soon

    -- so before the tick the same nodes begin to send the same, and are tuned alike
    pub sent_too : (t : ℕ) → t ≤ run_end p → t ≤ until → HeardAlike a b t → (x : Sending) → x.start < t → Contains (sendings_of a) x
        → Contains (sendings_of b) x
    sent_too t within soon alike x before there =
        let v = x.node in
        let known = sent_known s clocks a twins.of_a.trails x there in
        let made = (sent_below s clocks a twins.of_a.trails v known t within x).0 (record { there = there; node = refl; below = before }) in
        ((sent_below u clocks b twins.of_b.trails v known t within x).1
        (subst (λ (d : Device). Contains d.made.sent x) (same_device t v soon alike) made)).there

    pub tuned_too : (t : ℕ) → t ≤ run_end p → t ≤ until → HeardAlike a b t → (v r k : ℕ) → k < t → IsTuned (scene_of p.profile p.trace a) v r k
        → IsTuned (scene_of p.profile p.trace b) v r k
    tuned_too t within soon alike v r k before is =
        let was = by_device s clocks a twins.of_a.trails v r k t before within is in
        by_log u clocks b twins.of_b.trails v r k t before within was.0
        (subst (λ (d : Device). TunedAt d.made.tuned d.listening r k) (same_device t v soon alike) was.1)

    -- and after the script lines of a frame they have the same tune
    pub same_tune : (f v : ℕ) → frame_start p f < until → HeardAlike a b (frame_start p f)
        → tune_at s v (clocks v) (heard_by a v) f ≡ tune_at u v (clocks v) (heard_by b v) f
    same_tune f v soon alike =
        let t : ℕ = frame_start p f in
        let x = setup_of p v in
        ap (λ (d : Device). if nat_lt f p.frames then tune_of (fold (device_after_line (clocks v) x t) d (lines_at s v t)).power else None)
        (same_device t v (omega (arith, soon)) alike)
        ∙ ap (λ (ls : List ScriptLine). if nat_lt f p.frames then tune_of (fold (device_after_line (clocks v) x t) (device_in u clocks b v t) ls).power
        else None)
        (twins.lines v t soon)

  module _ (xs ys : List ScriptLine) (a b : List Entry) (twins : Twins p clocks until xs ys a b) where
    pub agree : (t : ℕ) → t ≤ run_end p → t ≤ until → HeardAlike a b t → Agree t (scene_of p.profile p.trace a) (scene_of p.profile p.trace b)
    agree t within soon alike =
        let back = turned xs ys a b twins in
        record {
          numbers = refl;
          lines = refl;
          sendings =
              λ y early. (
                λ there. sent_too xs ys a b twins t within soon alike y early there,
                λ there. sent_too ys xs b a back t within soon (other_way a b t alike) y early there,
              );
          tuned =
              λ v channel k early. (
                λ is. tuned_too xs ys a b twins t within soon alike v channel k early is,
                λ is. tuned_too ys xs b a back t within soon (other_way a b t alike) v channel k early is,
              );
        }

    -- what ends at the tick began before it, so who receives it is settled
    ends_now : (t : ℕ) → t ≤ run_end p → t ≤ until → HeardAlike a b t → (v : ℕ) (x : Sending) → x.end ≡ t → HasHeardEntry a v x → HasHeardEntry b v x
    ends_now t within soon alike v x now there =
        let hears = (twins.of_a.hearing.heard v x).0 there in
        let long = takes_time (with_lines p xs) clocks a twins.of_a.trails twins.first x hears.1.sent in
        let same = agree x.end (omega (arith, within, now)) (omega (arith, soon, now)) (alike_earlier a b x.end t (omega (arith, now)) alike) in
        (twins.of_b.hearing.heard v x).1 (hears.0, (settled (scene_of p.profile p.trace a) (scene_of p.profile p.trace b) v x long same).0 hears.1)

    heard_next : (t : ℕ) → t ≤ run_end p → t ≤ until → HeardAlike a b t → HeardToo a b (suc t)
    heard_next t within soon alike v x before there =
        elim (cases_lt x.end t) [
          | inl early ↦ alike.0 v x early there
          | inr now ↦ ends_now t within soon alike v x (omega (arith, now, before)) there
        ]

  module _ (xs ys : List ScriptLine) (a b : List Entry) (twins : Twins p clocks until xs ys a b) where
    pub alike_before : (t : ℕ) → t ≤ run_end p → t ≤ until → HeardAlike a b t
    alike_before zero within soon = (λ v x before is. absurd (omega (arith, before)), λ v x before is. absurd (omega (arith, before)))
    alike_before (suc t) within soon =
        let earlier : t ≤ run_end p = omega (arith, within) in
        let sooner : t ≤ until = omega (arith, soon) in
        let alike = alike_before t earlier sooner in (
          heard_next xs ys a b twins t earlier sooner alike,
          heard_next ys xs b a (turned xs ys a b twins) t earlier sooner (other_way a b t alike),
        )

-- of one scenario, over the whole run
module _ (s : ScenarioParts) (clocks : ℕ → ℕ → ℕ) (sound : IsSoundScenario s) (a b : List Entry) (of_a : Lawful s clocks a) (of_b : Lawful s clocks b) where
  pub one_scenario : Twins s clocks (run_end s) s.script s.script a b
  one_scenario = record { first = sound; second = sound; of_a = of_a; of_b = of_b; lines = λ v k less. refl }

  pub alike : HeardAlike a b (run_end s)
  alike = alike_before s clocks (run_end s) s.script s.script a b one_scenario (run_end s) (omega arith) (omega arith)

  pub same_trail : (v : ℕ) → trail s v (clocks v) (heard_by a v) ≡ trail s v (clocks v) (heard_by b v)
  same_trail v =
      prefix_run s v (clocks v) (heard_by a v) (heard_by b v)
      (same_heard s clocks (run_end s) s.script s.script a b one_scenario (run_end s) v alike)

  pub same_sendings : (x : Sending) → Contains (sendings_of a) x → Contains (sendings_of b) x
  same_sendings x there =
      sent_too s clocks (run_end s) s.script s.script a b one_scenario (run_end s) (omega arith) (omega arith) alike x
      (sent_lasts s clocks a of_a.trails x there).0 there

  pub same_hearings : (h : Hearing) → Contains (hearings_of a) h → Contains (hearings_of b) h
  same_hearings h there = alike.0 h.node h.sending ((of_a.hearing.heard h.node h.sending).0 there).0 there

  pub same_tunings : (e : Tuning) → Contains (tunings_of a) e → Contains (tunings_of b) e
  same_tunings e there =
      let was = tuned_there s clocks a of_a.trails e.node e there refl in
      (tuned_here s clocks b of_b.trails e.node was.0 e (subst (λ (d : Device). Contains d.made.tuned e) (same_trail e.node) was.1)).0
