-- From tick to tick a device stays in its ranges.
use Rattle.std.proofs.Common.{◌≡◌, ℕ, zero, suc, ◌<◌, ◌≤◌, List, length, false, ◌&&◌, ◌==◌, nat_lt, Some, None, Option, IfSome, sym, ap, arith}
use Rattle.std.specs.List.{AllByRecursion, position_or_len}
use Rattle.std.proofs.lemmas.Bool.{cond_both, and_parts, ltb-true}
use Rattle.std.proofs.lemmas.List.Elements.{All-nil, All-weaker, recursion_from_All}
use Rattle.scenario_text.specs.ScenarioParts.{ScenarioParts}
use Rattle.scenario_text.specs.ScenarioFacts.{IsSoundScenario, IsScriptLine, turned}
use Rattle.scenario_text.specs.declared.script.ScriptLine.{ScriptLine}
use Rattle.bus_rules.specs.Cores.{own_rank}
use Rattle.air_log.specs.Devices.{Device, at_rest}
use Rattle.scenario_text.specs.Setups.{setup_of}
use Rattle.air_log.specs.Trails.{Reception, lines_at, device_after_script, device_after_receptions, before_alarms, before_start, before_tick}
use Rattle.law_trails.specs.CoreRanges.{IsSetup}
use Rattle.law_trails.specs.DeviceRanges.{IsRanged, HeardBefore, HoldsThrough}
use Rattle.law_trails.proofs.RowsInRange.{AreRules}
use Rattle.law_trails.proofs.DevicesInRange.{kept_all, IsLine, lines_are, heard_is, ended_is, alarmed_is, begun_is}
use Rattle.law_trails.proofs.BootsSoFar.{starts_at, rises, none_earlier, IsTurned, few_turned, tick_turned}

-- the rank of a host is one of them
own_is : (v : ℕ) (hosts : List ℕ) → IfSome (own_rank v hosts) (λ r. r < length hosts)
own_is v hosts =
    let k = position_or_len (λ h. h == v) hosts in
    cond_both (nat_lt k (length hosts)) (Some k) None (λ (o : Option ℕ). IfSome o (λ r. r < length hosts)) (λ is. ltb-true k (length hosts) is) (λ none. tt)

module _ (s : ScenarioParts) (sound : IsSoundScenario s) (v : ℕ) (low : 1 ≤ v) (high : v ≤ 200) where
  pub set : IsSetup (setup_of s v)
  set = record {
    profile = sound.profile;
    id = (low, high);
    own = own_is v s.hosts;
    ranks = (sound.some_hosts, sound.few_hosts);
    sends = (sound.some_sends, sound.few_sends);
  }

  module _ (Q H : List ℕ → Type 0) (rules : AreRules (setup_of s v) Q H) (clock : ℕ → ℕ) (hs : List Reception) where
    lines : (t : ℕ) → AllByRecursion (IsLine (setup_of s v) set Q H rules clock t) (lines_at s v t)
    lines t =
        kept_all (IsScriptLine s) (IsLine (setup_of s v) set Q H rules clock t) (λ (l : ScriptLine). (l.node == v) && (starts_at s l == t)) s.script
        (λ l is both. ((and_parts (l.node == v) (starts_at s l == t) both).0, is.act)) (recursion_from_All (IsScriptLine s) s.script sound.script)

    shorter : (t : ℕ) → HeardBefore H hs (suc t) → HeardBefore H hs t
    shorter t short = All-weaker (λ (h : Reception). h.end < suc t → H h.packet) (λ (h : Reception). h.end < t → H h.packet)
        (λ h few before. few (omega (arith, before))) hs short

    now_short : (t : ℕ) → HeardBefore H hs (suc t) → AllByRecursion (λ (h : Reception). h.end ≡ t → H h.packet) hs
    now_short t short =
        recursion_from_All (λ (h : Reception). h.end ≡ t → H h.packet) hs
        (All-weaker (λ (h : Reception). h.end < suc t → H h.packet) (λ (h : Reception). h.end ≡ t → H h.packet) (λ h few at. few (omega (arith, at))) hs short)

    -- before a tick, with the power that the script says
    record IsSoFar (t : ℕ) (d : Device) : Type 0 where
      well : IsRanged Q (setup_of s v) d
      turned : IsTurned s sound v t d

    at_first : IsSoFar 0 at_rest
    at_first = record {
      well = record { power = omega arith; ordered = tt; sending = tt; sent = All-nil (λ x. Q x.packet) };
      turned = sym (ap (turned v (false, 0)) (none_earlier s 0 0 s.script (omega arith) (rises s s.script sound.script_ascends)));
    }

    scripted_well : (t : ℕ) (d : Device) → IsSoFar t d → IsRanged Q (setup_of s v) (device_after_script s v clock t d)
    scripted_well t d is = lines_are (setup_of s v) set Q H rules clock t (lines_at s v t) d (lines t) (few_turned s sound v t d is.turned) is.well

    heard_well : (t : ℕ) (d : Device) → HeardBefore H hs (suc t) → IsSoFar t d
        → IsRanged Q (setup_of s v) (device_after_receptions clock (setup_of s v) t hs (device_after_script s v clock t d))
    heard_well t d short is = heard_is (setup_of s v) set Q H rules clock t hs (device_after_script s v clock t d) (now_short t short) (scripted_well t d is)

    ended_well : (t : ℕ) (d : Device) → HeardBefore H hs (suc t) → IsSoFar t d → IsRanged Q (setup_of s v) (before_alarms s v clock hs t d)
    ended_well t d short is = ended_is (setup_of s v) set Q H rules clock t
        (device_after_receptions clock (setup_of s v) t hs (device_after_script s v clock t d)) (heard_well t d short is)

    alarmed_well : (t : ℕ) (d : Device) → HeardBefore H hs (suc t) → IsSoFar t d → IsRanged Q (setup_of s v) (before_start s v clock hs t d)
    alarmed_well t d short is = alarmed_is (setup_of s v) set Q H rules clock t (before_alarms s v clock hs t d) (ended_well t d short is)

    so_far : (t : ℕ) → HeardBefore H hs t → IsSoFar t (before_tick s v clock hs t)
    unfolding before_tick
    so_far zero short = at_first
    so_far (suc t) short =
        let d = before_tick s v clock hs t in
        let is = so_far t (shorter t short) in
        record {
          well = begun_is (setup_of s v) set Q H rules clock t (before_start s v clock hs t d) (alarmed_well t d short is);
          turned = tick_turned s sound v clock hs t d is.turned;
        }

    pub trail_is : (t : ℕ) → HeardBefore H hs t → IsRanged Q (setup_of s v) (before_tick s v clock hs t)
    trail_is t short = (so_far t short).well

    pub through : (t : ℕ) → HeardBefore H hs (suc t) → HoldsThrough (IsRanged Q (setup_of s v)) s v clock hs t
    through t short =
        let d = before_tick s v clock hs t in
        let is = so_far t (shorter t short) in
        record {
          before = is.well;
          told = scripted_well t d is;
          hearing = heard_well t d short is;
          end = ended_well t d short is;
          alarms = alarmed_well t d short is;
        }
