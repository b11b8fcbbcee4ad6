-- What comes of the returns of a scenario does not depend on which of its runs are taken.
use Rattle.std.proofs.Common.{◌≡◌, ℕ, ◌<◌, ◌≤◌, inl, inr, List, [], ◌∷◌, Bool, true, false, ◌||◌, ◌&&◌, ◌==◌, nat_lt, map, length, reverse}
use Rattle.std.proofs.Common.{is_some, Some, refl, sym, ◌∙◌, ap, subst, arith}
use Rattle.std.proofs.lemmas.Bool.{cases_lt, cases_order, lt-ltb, eq-eqb, true≢false}
use Rattle.std.proofs.lemmas.List.{length-reverse, reverse-reverse}
use Rattle.scenario_text.specs.AddedLines.{IsWithScript, HasRoom}
use Rattle.scenario_text.specs.ScenarioGrammar.{IsScenario}
use Rattle.scenario_text.specs.ScenarioParts.{ScenarioParts}
use Rattle.scenario_text.specs.declared.lines.NodeLine.{NodeLine}
use Rattle.scenario_text.specs.declared.script.ScriptLine.{ScriptLine}
use Rattle.scenario_text.proofs.LinesAdded.{one_merged}
use Rattle.scenario_text.proofs.SoundScenarios.{sound}
use Rattle.scenario_clocks.specs.StatedClocks.{scenario_clock}
use Rattle.scenario_clocks.proofs.StatedDrift.{scenario_clocks_drift}
use Rattle.air_log.specs.declared.entry.Entry.{Entry}
use Rattle.air_log.specs.Lawful.{Lawful}
use Rattle.air_log.specs.Trails.{frame_start}
use Rattle.law_one_log.specs.OneLog.{OneLogLaw}
use Rattle.law_one_log.proofs.SameBefore.{Twins}
use Rattle.host_return.specs.Candidates.{IsCandidate, IsNextReturn, return_comes_before}
use Rattle.host_return.specs.OneReturned.{OneReturnedLaw}
use Rattle.host_return.specs.Probes.{probed_rank, probes}
use Rattle.host_return.specs.Restarts.{lines_of_going_back}
use Rattle.host_return.specs.Returned.{Becomes, GoesBack, ReturnsEnd, Sixteen, NoneLeft, Full, ReturnedParts, counts_in, IsReturned}
use Rattle.host_return.specs.declared.returned.Return.{Return}
use Rattle.host_return.proofs.NodesProbing.{moved_probe}
use Rattle.host_return.proofs.ProbedStill.{not_before}
use Rattle.host_return.proofs.Restarting.{restart_told}
use Rattle.host_return.proofs.SettledProbes.{same_probe, still_probed}
use Rattle.lwb_base.proofs.Lists.{counted_alike}
use Rattle.lwb_base.proofs.Options.{one_value}

return_is : (q r : Return) → q.frame ≡ r.frame → q.node ≡ r.node → q.rank ≡ r.rank → q ≡ r
return_is q r frame node rank =
    ap (λ (n : ℕ). record { frame = n; node = q.node; rank = q.rank }) frame
    ∙ ap (λ (n : ℕ). record { frame = r.frame; node = n; rank = q.rank }) node
    ∙ ap (λ (n : ℕ). record { frame = r.frame; node = r.node; rank = n }) rank

not_lower : (q r : Return) → return_comes_before q r ≡ false → q.frame ≡ r.frame → r.node ≤ q.node
not_lower q r is same = elim (cases_lt q.node r.node) [
  | inl less ↦ absurd (true≢false (sym (both (lt-ltb q.node r.node less) (eq-eqb q.frame r.frame same)) ∙ is))
  | inr at ↦ at
]
  where
    by_tests : (a e n : Bool) → n ≡ true → e ≡ true → (a || (e && n)) ≡ true
    by_tests true e n less frame = refl
    by_tests false true n less frame = less
    by_tests false false n less frame = frame

    both : nat_lt q.node r.node ≡ true → (q.frame == r.frame) ≡ true → return_comes_before q r ≡ true
    both less frame = by_tests (nat_lt q.frame r.frame) (q.frame == r.frame) (nat_lt q.node r.node) less frame

-- two runs of one scenario
module _ (s : ScenarioParts) (said : IsScenario s) (a b : List Entry) (of_a : Lawful s (scenario_clock s) a) (of_b : Lawful s (scenario_clock s) b) where
  twins : Twins s (scenario_clock s) (frame_start s s.frames) s.script s.script a b
  twins = record { first = sound s said; second = sound s said; of_a = of_a; of_b = of_b; lines = λ v k less. refl }

  probes_alike : (v : ℕ) → probes s a v ≡ probes s b v
  probes_alike v =
      counted_alike (λ f. is_some (probed_rank s a f v)) (λ f. is_some (probed_rank s b f v)) s.frames
      (λ f less. ap is_some (same_probe s s.frames s.script s.script a b twins f v less less))

  abbrev count_for : List Entry → NodeLine → ℕ × ℕ
  count_for air n = (n.node, probes s air n.node)

  counts_by : (ns : List NodeLine) → map (count_for a) ns ≡ map (count_for b) ns
  counts_by [] = refl
  counts_by (n ∷ ns) =
      ap (λ (k : ℕ). (n.node, k) ∷ map (count_for a) ns) (probes_alike n.node)
      ∙ ap (λ (cs : List (ℕ × ℕ)). (n.node, probes s b n.node) ∷ cs) (counts_by ns)

  counts_alike : counts_in s a ≡ counts_in s b
  counts_alike = counts_by s.nodes

  lines_alike : (q r : Return) → q ≡ r → lines_of_going_back s a q ≡ lines_of_going_back s b r
  lines_alike q r same = ap (lines_of_going_back s a) same ∙ sym (restart_told s a r (sound s said)) ∙ restart_told s b r (sound s said)

  candidate_also : (read : ScenarioParts) → read.frames ≡ s.frames → (q : Return) → IsCandidate read s a q → IsCandidate read s b q
  candidate_also read frames q is =
      let in_run = is.in_run in
      let less : q.frame < s.frames = omega (arith, in_run, frames) in
      record {
        known = is.known;
        probed = still_probed s s.frames s.script s.script a b twins q.frame q.node q.rank less less is.probed;
        in_run = is.in_run;
        stays_on = is.stays_on;
      }

-- have the same next return
next_same : (read s : ScenarioParts) → IsScenario s → read.frames ≡ s.frames → (a b : List Entry) → Lawful s (scenario_clock s) a
    → Lawful s (scenario_clock s) b → (listed : List Return) (q r : Return) → IsNextReturn read s a listed q → IsNextReturn read s b listed r → q ≡ r
next_same read s said frames a b of_a of_b listed q r first second =
    let q_too = candidate_also s said a b of_a of_b read frames q first.candidate in
    let r_too = candidate_also s said b a of_b of_a read frames r second.candidate in
    let up = second.least q q_too first.fresh in
    let down = first.least r r_too second.fresh in
    let frame : q.frame ≡ r.frame = omega (arith, not_before q r up, not_before r q down) in
    let node : q.node ≡ r.node = omega (arith, not_lower q r up frame, not_lower r q down (sym frame)) in
    return_is q r frame node
    (one_value (probed_rank s b r.frame r.node) q.rank r.rank
    (moved_probe s b q.frame q.node r.frame r.node (Some q.rank) frame node q_too.probed.probes) second.candidate.probed.probes)

module _ (read : ScenarioParts) (read_said : IsScenario read) where
  said_after : (rs : List Return) (t : ScenarioParts) → Becomes read rs t → IsScenario t
  said_after [] t is = subst IsScenario (sym is) read_said
  said_after (r ∷ e) t w = w.2.said

  frames_after : (rs : List Return) (t : ScenarioParts) → Becomes read rs t → read.frames ≡ t.frames
  frames_after [] t is = sym (ap (λ (s : ScenarioParts). s.frames) is)
  frames_after (r ∷ e) t w = frames_after e w.0 w.1 ∙ sym (ap (λ (s : ScenarioParts). s.frames) w.2.added.parts)

  -- the same return, and the same scenario after it
  step_same : (s : ScenarioParts) (e : List Return) (q r : Return) (t u : ScenarioParts) → Becomes read e s → GoesBack read s e q t → GoesBack read s e r u
      → (q ≡ r) × (t ≡ u)
  step_same s e q r t u before first second =
      let said = said_after e s before in
      let same = next_same read s said (frames_after e s before) first.air second.air first.lawful second.lawful (reverse e) q r first.next second.next in
      let lines = lines_alike s said first.air second.air first.lawful second.lawful q r same in
      let added : IsWithScript s (lines_of_going_back s second.air r) t = subst (λ (ls : List ScriptLine). IsWithScript s ls t) lines first.added in
      let scripts : t.script ≡ u.script = one_merged s.script (lines_of_going_back s second.air r) t.script u.script added.script second.added.script in
      (same, added.parts ∙ ap (λ (ls : List ScriptLine). record s { script = ls }) scripts ∙ sym second.added.parts)

  chains : (rs qs : List Return) (t u : ScenarioParts) → length rs ≡ length qs → Becomes read rs t → Becomes read qs u → (rs ≡ qs) × (t ≡ u)
  chains [] [] t u long w z = (refl, w ∙ sym z)
  chains [] (q ∷ qs) t u long w z = absurd (omega (arith, long))
  chains (r ∷ rs) [] t u long w z = absurd (omega (arith, long))
  chains (r ∷ rs) (q ∷ qs) t u long w z =
      let earlier = chains rs qs w.0 z.0 (omega (arith, long)) w.1 z.1 in
      let goes : GoesBack read w.0 rs q u =
      subst (λ (e : List Return). GoesBack read w.0 e q u) (sym earlier.0)
      (subst (λ (s : ScenarioParts). GoesBack read s qs q u) (sym earlier.1) z.2) in
      let step = step_same w.0 rs r q t u w.1 w.2 goes in
      (ap (λ (x : Return). x ∷ rs) step.0 ∙ ap (λ (e : List Return). q ∷ e) earlier.0, step.1)

  -- a return that is taken after n others
  pub record TakesOne (n : ℕ) : Type 0 where
    pub earlier : List Return
    pub scenario : ScenarioParts
    pub return : Return
    pub after : ScenarioParts
    pub count : length earlier ≡ n
    pub before : Becomes read earlier scenario
    pub goes : GoesBack read scenario earlier return after

  longer : (n : ℕ) (rs : List Return) (t : ScenarioParts) → n < length rs → Becomes read rs t → TakesOne n
  longer n [] t less w = absurd (omega (arith, less))
  longer n (r ∷ e) t less w = elim (cases_lt n (length e)) [
    | inl fewer ↦ longer n e w.0 fewer w.1
    | inr at ↦ record {
      earlier = e;
      scenario = w.0;
      return = r;
      after = t;
      count = omega (arith, less, at);
      before = w.1;
      goes = w.2;
    }
  ]

  -- none is taken where the returns have ended
  has_ended : (s : ScenarioParts) (air : List Entry) (listed : List Return) → IsScenario s → read.frames ≡ s.frames → Lawful s (scenario_clock s) air
      → length listed < 16 → ReturnsEnd read s air listed → (other : List Entry) → Lawful s (scenario_clock s) other → (r : Return) (t : ScenarioParts)
      → IsNextReturn read s other listed r → IsWithScript s (lines_of_going_back s other r) t → HasRoom t → ⊥
  has_ended s air listed said frames lawful few (Sixteen many) other law r t next added room = omega (arith, many, few)
  has_ended s air listed said frames lawful few (NoneLeft all) other law r t next added room =
      true≢false (sym (all r (candidate_also s said other air law lawful read frames r next.candidate)) ∙ next.fresh)
  has_ended s air listed said frames lawful few (Full q last none) other law r t next added room =
      let same = next_same read s said frames other air law lawful listed r q next last in
      none t (subst (λ (ls : List ScriptLine). IsWithScript s ls t) (lines_alike s said other air law lawful r q same) added) room

  no_longer : (x y : ReturnedParts) → IsReturned read x → IsReturned read y → length x.returns < length y.returns → ⊥
  no_longer x y of_x of_y less =
      let one = longer (length x.returns) (reverse y.returns) y.scenario (omega (arith, less, length-reverse y.returns)) of_y.becomes in
      let long : length (reverse x.returns) ≡ length one.earlier = length-reverse x.returns ∙ sym one.count in
      let same = chains (reverse x.returns) one.earlier x.scenario one.scenario long of_x.becomes one.before in
      let goes : GoesBack read x.scenario (reverse x.returns) one.return one.after =
      subst (λ (e : List Return). GoesBack read x.scenario e one.return one.after) (sym same.0)
      (subst (λ (s : ScenarioParts). GoesBack read s one.earlier one.return one.after) (sym same.1) one.goes) in
      let few = of_y.few in
      has_ended x.scenario x.air x.returns (said_after (reverse x.returns) x.scenario of_x.becomes)
      (frames_after (reverse x.returns) x.scenario of_x.becomes) of_x.lawful (omega (arith, less, few)) of_x.ends goes.air goes.lawful one.return one.after
      (subst (λ (l : List Return). IsNextReturn read x.scenario goes.air l one.return) (reverse-reverse x.returns) goes.next) goes.added goes.room

pub one_returned : OneLogLaw → OneReturnedLaw
one_returned one_log read x y said of_x of_y =
    let long : length x.returns ≡ length y.returns = elim (cases_order (length x.returns) (length y.returns)) [
      | inl same ↦ same
      | inr (inl less) ↦ absurd (no_longer read said x y of_x of_y less)
      | inr (inr more) ↦ absurd (no_longer read said y x of_y of_x more)
    ] in
    let turned : length (reverse x.returns) ≡ length (reverse y.returns) = omega (arith, long, length-reverse x.returns, length-reverse y.returns) in
    let same = chains read said (reverse x.returns) (reverse y.returns) x.scenario y.scenario turned of_x.becomes of_y.becomes in
    let s = x.scenario in
    let said_s = said_after read said (reverse x.returns) s of_x.becomes in
    let lawful : Lawful s (scenario_clock s) y.air = subst (λ (u : ScenarioParts). Lawful u (scenario_clock u) y.air) (sym same.1) of_y.lawful in
    record {
      scenario = same.1;
      returns = sym (reverse-reverse x.returns) ∙ ap (λ (l : List Return). reverse l) same.0 ∙ reverse-reverse y.returns;
      air = one_log s (scenario_clock s) x.air y.air
          (record { sound = sound s said_s; drift = scenario_clocks_drift s said_s; lawful = of_x.lawful })
          (record { sound = sound s said_s; drift = scenario_clocks_drift s said_s; lawful = lawful });
      counts = of_x.counts ∙ counts_alike s said_s x.air y.air of_x.lawful lawful ∙ ap (λ (u : ScenarioParts). counts_in u y.air) same.1 ∙ sym of_y.counts;
    }
