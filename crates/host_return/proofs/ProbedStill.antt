-- What was probed as a return was taken is probed in each later run, since the returns are taken by ascending frames.
use Rattle.std.proofs.Common.{◌≡◌, ℕ, ◌+◌, ◌<◌, ◌≤◌, inl, inr, List, [], ◌∷◌, ◌++◌, Bool, true, false, ◌||◌, ◌&&◌, ◌==◌, nat_lt, Contains}
use Rattle.std.proofs.Common.{refl, sym, ◌∙◌, ap, subst, arith}
use Rattle.std.proofs.lemmas.Bool.{cases_lt, lt-ltb, true≢false}
use Rattle.std.proofs.lemmas.List.Elements.{Contains-push_cases}
use Rattle.std.specs.List.{list_any}
use Rattle.scenario_text.specs.FloodParts.{knows}
use Rattle.scenario_text.specs.ScenarioFacts.{IsSoundScenario}
use Rattle.scenario_text.specs.ScenarioParts.{ScenarioParts}
use Rattle.scenario_clocks.specs.StatedClocks.{scenario_clock}
use Rattle.radio_model.proofs.Members.{not_in_none}
use Rattle.air_log.specs.declared.entry.Entry.{Entry}
use Rattle.air_log.specs.Lawful.{Lawful}
use Rattle.air_log.specs.Trails.{frame_start}
use Rattle.law_one_log.proofs.SameBefore.{Twins, turned}
use Rattle.host_return.specs.Candidates.{IsCandidate, return_comes_before, is_listed}
use Rattle.host_return.specs.Courses.{IsOneMore}
use Rattle.host_return.specs.Probes.{Probed}
use Rattle.host_return.specs.declared.follow.Course.{Course}
use Rattle.host_return.specs.declared.returned.Return.{Return}
use Rattle.host_return.proofs.Restarting.{restart_of_frame}
use Rattle.host_return.proofs.SettledProbes.{lines_before, still_probed}

-- all returns are probed in this run, and no other candidate comes in a frame before one of them
pub record AreProbed (read s : ScenarioParts) (air : List Entry) (rs : List Return) : Type 0 where
  pub probed : (r : Return) → Contains rs r → Probed s air r.frame r.node r.rank
  pub known : (r : Return) → Contains rs r → knows s.nodes r.node ≡ true
  pub later : (q : Return) → IsCandidate read s air q → is_listed rs q ≡ false → (r : Return) → Contains rs r → r.frame ≤ q.frame

pub none_probed : (read s : ScenarioParts) (air : List Entry) (rs : List Return) → rs ≡ [] → AreProbed read s air rs
none_probed read s air rs none = record {
  probed = λ r there. absurd (not_in_none r (subst (λ (l : List Return). Contains l r) none there));
  known = λ r there. absurd (not_in_none r (subst (λ (l : List Return). Contains l r) none there));
  later = λ q candidate fresh r there. absurd (not_in_none r (subst (λ (l : List Return). Contains l r) none there));
}

list_any_push : (test : Return → Bool) (rs : List Return) (r : Return) → list_any test (rs ++ r ∷ []) ≡ false → list_any test rs ≡ false
list_any_push test [] r is = refl
list_any_push test (q ∷ rs) r is = by_test (test q) is (list_any_push test rs r)
  where
    by_test : (b : Bool) → (b || list_any test (rs ++ r ∷ [])) ≡ false → (list_any test (rs ++ r ∷ []) ≡ false → list_any test rs ≡ false)
        → (b || list_any test rs) ≡ false
    by_test true is rest = is
    by_test false is rest = rest is

pub not_before : (q r : Return) → return_comes_before q r ≡ false → r.frame ≤ q.frame
not_before q r is = elim (cases_lt q.frame r.frame) [
  | inl less ↦ absurd (true≢false (sym (ap (λ (b : Bool). b || ((q.frame == r.frame) && nat_lt q.node r.node)) (lt-ltb q.frame r.frame less)) ∙ is))
  | inr at ↦ at
]

module _ (read : ScenarioParts) (old new : Course) (sound : IsSoundScenario old.scenario) (good : IsSoundScenario new.scenario)
    (lawful : Lawful old.scenario (scenario_clock old.scenario) old.air) (more : IsOneMore read old new) where
  abbrev s : ScenarioParts
  s = old.scenario

  abbrev g : ℕ
  g = more.last.frame + 1

  twins : Twins s (scenario_clock s) (frame_start s g) s.script new.scenario.script old.air new.air
  twins = record {
    first = sound;
    second = subst IsSoundScenario more.added.parts good;
    of_a = lawful;
    of_b = subst (λ (u : ScenarioParts). Lawful u (scenario_clock u) new.air) more.added.parts more.lawful;
    lines = λ v k less. lines_before s sound g _ (λ l there. restart_of_frame s old.air more.last l there) new.scenario more.added v k less;
  }

  on : (f v rank : ℕ) → f < g → f < s.frames → Probed s old.air f v rank → Probed new.scenario new.air f v rank
  on f v rank soon within is =
      subst (λ (u : ScenarioParts). Probed u new.air f v rank) (sym more.added.parts)
      (still_probed s g s.script new.scenario.script old.air new.air twins f v rank soon within is)

  back : (f v rank : ℕ) → f < g → f < s.frames → Probed new.scenario new.air f v rank → Probed s old.air f v rank
  back f v rank soon within is =
      still_probed s g new.scenario.script s.script new.air old.air
      (turned s (scenario_clock s) (frame_start s g) s.script new.scenario.script old.air new.air twins)
      f v rank soon within (subst (λ (u : ScenarioParts). Probed u new.air f v rank) more.added.parts is)

  was_candidate : (q : Return) → read.frames ≡ s.frames → q.frame < g → IsCandidate read new.scenario new.air q → IsCandidate read s old.air q
  was_candidate q frames soon is =
      let in_run = is.in_run in
      record {
        known = subst (λ (u : ScenarioParts). knows u.nodes q.node ≡ true) more.added.parts is.known;
        probed = back q.frame q.node q.rank soon (omega (arith, in_run, frames)) is.probed;
        in_run = is.in_run;
        stays_on = is.stays_on;
      }

  pub still_are : read.frames ≡ s.frames → AreProbed read s old.air old.returns.items → AreProbed read new.scenario new.air new.returns.items
  still_are frames are =
      let last = more.last in
      let first = more.next.candidate in
      let up : (r : Return) → Contains new.returns.items r → r.frame ≤ last.frame =
      λ r there. elim (Contains-push_cases old.returns.items last r (subst (λ (l : List Return). Contains l r) more.returns there)) [
        | inl before ↦ are.later last first more.next.fresh r before
        | inr is ↦ omega (arith, ap (λ (q : Return). q.frame) is)
      ] in
      record {
        probed = λ r there. elim (Contains-push_cases old.returns.items last r (subst (λ (l : List Return). Contains l r) more.returns there)) [
          | inl before ↦
              let in_run = first.in_run in
              let below = are.later last first more.next.fresh r before in
              on r.frame r.node r.rank (omega (arith, below)) (omega (arith, below, in_run, frames)) (are.probed r before)
          | inr is ↦
              let in_run = first.in_run in
              subst (λ (q : Return). Probed new.scenario new.air q.frame q.node q.rank) is
              (on last.frame last.node last.rank (omega arith) (omega (arith, in_run, frames)) first.probed)
        ];
        known = λ r there. subst (λ (u : ScenarioParts). knows u.nodes r.node ≡ true) (sym more.added.parts)
            (elim (Contains-push_cases old.returns.items last r (subst (λ (l : List Return). Contains l r) more.returns there)) [
              | inl before ↦ are.known r before
              | inr is ↦ subst (λ (q : Return). knows s.nodes q.node ≡ true) is first.known
            ]);
        later = λ q candidate fresh r there. elim (cases_lt q.frame g) [
          | inl soon ↦
              let free = list_any_push _ old.returns.items last (subst (λ (l : List Return). is_listed l q ≡ false) more.returns fresh) in
              let from = not_before q last (more.next.least q (was_candidate q frames soon candidate) free) in
              omega (arith, from, up r there)
          | inr past ↦ omega (arith, past, up r there)
        ];
      }
