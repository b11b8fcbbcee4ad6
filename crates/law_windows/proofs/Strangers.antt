-- An id of no node is given nothing, so it stays off, does nothing, and has no windows.
use Rattle.std.proofs.Common.{◌≡◌, ℕ, zero, suc, List, [], ◌∷◌, Bool, true, false, ◌==◌, ◌&&◌, if◌then◌else◌, filter, fold, Contains, refl, sym, ◌∙◌, ap}
use Rattle.std.proofs.Common.{subst, eqb-true, true≢false}
use Rattle.std.proofs.lemmas.List.Elements.{All-contains}
use Rattle.scenario_text.specs.ScenarioParts.{ScenarioParts}
use Rattle.scenario_text.specs.ScenarioFacts.{IsScriptLine}
use Rattle.scenario_text.specs.FloodParts.{knows}
use Rattle.scenario_text.specs.declared.script.ScriptLine.{ScriptLine}
use Rattle.bus_rules.specs.Cores.{Setup}
use Rattle.air_log.specs.declared.entry.Entry.{Entry}
use Rattle.air_log.specs.Devices.{Device, at_rest}
use Rattle.air_log.specs.Lawful.{heard_by}
use Rattle.air_log.specs.ScriptedDevices.{device_after_line}
use Rattle.air_log.specs.Trails.{Reception, alarm_limit, alarmed, alarms, before_tick, device_after_start, device_after_end, ending_at, frame_start}
use Rattle.scenario_text.specs.Setups.{setup_of}
use Rattle.air_log.specs.Trails.{device_after_reception, lines_at, run_end, tick}
use Rattle.lwb_base.proofs.Elements.{not_in_none, contains_head, contains_tail}
use Rattle.law_terms.specs.LawfulRuns.{IsLawfulRun}
use Rattle.law_windows.specs.FramePlaces.{StrangersLaw}

-- no line is of it
none_of : (s : ScenarioParts) (v t : ℕ) (ls : List ScriptLine) → ((l : ScriptLine) → Contains ls l → l.node ≡ v → ⊥)
    → filter (λ (l : ScriptLine). (l.node == v) && (frame_start s l.frame == t)) ls ≡ []
none_of s v t [] none = refl
none_of s v t (l ∷ ls) none = by_node (l.node == v) refl (none_of s v t ls (λ m there. none m (contains_tail l ls m there)))
  where
    by_node : (b : Bool) → (l.node == v) ≡ b → {rest : List ScriptLine} → rest ≡ [] → (if b && (frame_start s l.frame == t) then l ∷ rest else rest) ≡ []
    by_node false is empty = empty
    by_node true is empty = absurd (none l (contains_head l ls) (eqb-true l.node v is))

-- off, it receives nothing
hears_nothing : (clock : ℕ → ℕ) (s : Setup) (t : ℕ) (hs : List Reception) → fold (device_after_reception clock s t) at_rest hs ≡ at_rest
hears_nothing clock s t [] = refl
hears_nothing clock s t (h ∷ hs) = hears_nothing clock s t hs

no_alarm : (clock : ℕ → ℕ) (s : Setup) (t more : ℕ) → alarms clock s t false more at_rest ≡ at_rest
unfolding alarms
no_alarm clock s t more = refl

module _ (s : ScenarioParts) (v : ℕ) (clock : ℕ → ℕ) (hs : List Reception) (none : (t : ℕ) → lines_at s v t ≡ []) where
  abbrev S : Setup
  S = setup_of s v

  abbrev told : ℕ → List ScriptLine → Device
  told t ls = fold (device_after_reception clock S t) (fold (device_after_line clock S t) at_rest ls) (ending_at t hs)

  abbrev behind : ℕ → Device → Device
  behind t d = device_after_start S t (alarmed clock S t (device_after_end clock S t d))

  rests : (t : ℕ) → tick s v clock hs t at_rest ≡ at_rest
  rests t =
      ap (λ (ls : List ScriptLine). behind t (told t ls)) (none t)
      ∙ ap (behind t) (hears_nothing clock S t (ending_at t hs))
      ∙ ap (device_after_start S t) (no_alarm clock S t (alarm_limit clock t))

  stays : (t : ℕ) → before_tick s v clock hs t ≡ at_rest
  unfolding before_tick
  stays zero = refl
  stays (suc t) = ap (tick s v clock hs t) (stays t) ∙ rests t

pub at_rest_always : (s : ScenarioParts) (clocks : ℕ → ℕ → ℕ) (air : List Entry) → IsLawfulRun s clocks air → (v : ℕ) → knows s.nodes v ≡ false → (t : ℕ)
    → before_tick s v (clocks v) (heard_by air v) t ≡ at_rest
at_rest_always s clocks air lawful v unknown t =
    let none : (u : ℕ) → lines_at s v u ≡ [] = λ u. none_of s v u s.script (λ l told is. (
    let line : IsScriptLine s l = All-contains (IsScriptLine s) s.script l lawful.sound.script told in
    true≢false (sym line.known ∙ ap (knows s.nodes) is ∙ unknown)
    )) in
    stays s v (clocks v) (heard_by air v) none t

pub strangers : StrangersLaw
strangers s clocks air lawful v unknown w there =
    not_in_none w (subst (λ (d : Device). Contains d.made.windows w) (at_rest_always s clocks air lawful v unknown (run_end s)) there)
