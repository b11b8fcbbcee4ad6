-- One return after another.
use Rattle.std.proofs.Common.{◌≡◌, ◌<◌, inl, inr, List, [], ◌∷◌, length, reverse, Result, Ok, Err, IfOk, refl, sym, ◌∙◌, ap, subst, arith}
use Rattle.std.proofs.lemmas.Bool.{cases_lt}
use Rattle.std.proofs.lemmas.List.{length_push, reverse-append, reverse-reverse}
use Rattle.lwb_base.specs.declared.outside.Memory.{Memory}
use Rattle.scenario_text.specs.ScenarioGrammar.{IsScenario}
use Rattle.scenario_text.specs.ScenarioParts.{ScenarioParts}
use Rattle.scenario_text.proofs.SoundScenarios.{sound}
use Rattle.scenario_clocks.proofs.StatedDrift.{scenario_clocks_drift}
use Rattle.scenario_clocks.specs.StatedClocks.{scenario_clock}
use Rattle.air_log.specs.Lawful.{Lawful}
use Rattle.air_log.specs.Safe.{Safe}
use Rattle.law_safety.proofs.SafeRuns.{lawful_logs_are_safe}
use Rattle.host_return.specs.Candidates.{IsNextReturn}
use Rattle.host_return.specs.Courses.{IsFollowed, IsOneMore}
use Rattle.host_return.specs.Probes.{idle_of}
use Rattle.host_return.specs.Returned.{Becomes, GoesBack, ReturnsEnd, Sixteen, ReturnedParts, counts_in, IsReturned}
use Rattle.host_return.specs.declared.follow.Course.{Course}
use Rattle.host_return.specs.declared.returned.Return.{Return}

-- at first there is no return
pub nothing_yet : (read : ScenarioParts) (c : Course) → c.scenario ≡ read → c.returns.items ≡ [] → Lawful read (scenario_clock read) c.air
    → IsScenario read → c.idle.items ≡ idle_of read c.air → IsFollowed read c
nothing_yet read c same none lawful said idle = record {
  becomes = subst (λ (rs : List Return). Becomes read (reverse rs) c.scenario) (sym none) same;
  few = omega (arith, ap length none);
  lawful = subst (λ (s : ScenarioParts). Lawful s (scenario_clock s) c.air) (sym same) lawful;
  frames = sym (ap (λ (s : ScenarioParts). s.frames) same);
  said = subst IsScenario (sym same) said;
  idle = subst (λ (s : ScenarioParts). c.idle.items ≡ idle_of s c.air) (sym same) idle;
}

pub one_more : (read : ScenarioParts) (old new : Course) → length old.returns.items < 16 → IsFollowed read old → IsOneMore read old new → IsFollowed read new
one_more read old new less was more =
    let back : GoesBack read old.scenario (reverse old.returns.items) more.last new.scenario = record {
      air = old.air;
      lawful = was.lawful;
      next = subst (λ (rs : List Return). IsNextReturn read old.scenario old.air rs more.last) (sym (reverse-reverse old.returns.items)) more.next;
      added = more.added;
      room = more.room;
      said = more.said;
    } in
    let all : Becomes read (more.last ∷ reverse old.returns.items) new.scenario = (old.scenario, was.becomes, back) in
    record {
      becomes = subst (λ (rs : List Return). Becomes read rs new.scenario)
          (sym (ap reverse more.returns ∙ reverse-append old.returns.items (more.last ∷ []))) all;
      few = omega (arith, less, ap length more.returns, length_push old.returns.items more.last);
      lawful = more.lawful;
      frames = was.frames ∙ sym (ap (λ (s : ScenarioParts). s.frames) more.added.parts);
      said = more.said;
      idle = more.idle;
    }

-- what is handed on at the end
abbrev pub parts_of : Course → ReturnedParts
parts_of c = record { scenario = c.scenario; returns = c.returns.items; air = c.air; counts = counts_in c.scenario c.air }

pub ended : (read : ScenarioParts) (c : Course) → IsFollowed read c → ReturnsEnd read c.scenario c.air c.returns.items → IsReturned read (parts_of c)
ended read c followed ends = record { becomes = followed.becomes; few = followed.few; lawful = followed.lawful; ends = ends; counts = refl }

pub ended_early : (read : ScenarioParts) (old new : Course) → IsFollowed read old → new ≡ old → ReturnsEnd read old.scenario old.air old.returns.items
    → IsReturned read (parts_of new)
ended_early read old new followed same ends = subst (λ (c : Course). IsReturned read (parts_of c)) (sym same) (ended read old followed ends)

pub handed : (P : ReturnedParts → Type 0) (c : Course) (o : Result ReturnedParts Memory) → IfOk o (λ x. x ≡ parts_of c) → P (parts_of c) → IfOk o P
handed P c (Ok x) is holds = subst P (sym is) holds
handed P c (Err e) is holds = tt

pub sixteen : (read : ScenarioParts) (c : Course) → IsFollowed read c → (length c.returns.items < 16 → ⊥) → IsReturned read (parts_of c)
sixteen read c followed not =
    let few = followed.few in
    ended read c followed (Sixteen (elim (cases_lt (length c.returns.items) 16) [ inl less ↦ absurd (not less) | inr past ↦ omega (arith, few, past) ]))

-- the log of the last run is safe
pub run_is_safe : (read : ScenarioParts) (c : Course) → IsFollowed read c → Safe c.scenario (scenario_clock c.scenario) c.air
run_is_safe read c followed =
    let s = c.scenario in
    lawful_logs_are_safe s (scenario_clock s) c.air (record { sound = sound s followed.said; drift = scenario_clocks_drift s followed.said }) followed.lawful
