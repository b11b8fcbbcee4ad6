-- What a node probes in a frame, and what that brings, is settled by the script lines up to that frame.
use Rattle.std.proofs.Common.{◌≡◌, ℕ, suc, ◌+◌, ◌*◌, ◌/◌, ◌<◌, ◌≤◌, List, [], ◌∷◌, ◌++◌, Bool, true, false, ◌&&◌, ◌==◌, filter, length, Contains}
use Rattle.std.proofs.Common.{inl, inr, refl, sym, ◌∙◌, ap, subst, arith}
use Rattle.std.proofs.lemmas.Bool.{and_parts, eqb-true, eq-eqb, ne_eqb}
use Rattle.std.proofs.lemmas.List.{append-nil}
use Rattle.std.proofs.Math.Nat.{mul-le-mul_right}
use Rattle.radio_model.specs.declared.sending.Sending.{Sending}
use Rattle.radio_model.specs.OnAir.{Tuning}
use Rattle.radio_model.specs.Hearing.{IsTuned}
use Rattle.radio_model.specs.Holding.{Agree}
use Rattle.radio_model.proofs.Members.{in_head, in_tail, in_either}
use Rattle.radio_model.proofs.Settled.{settled}
use Rattle.scenario_text.specs.AddedLines.{IsWithScript, in_frame}
use Rattle.scenario_text.specs.ScenarioFacts.{IsSoundScenario}
use Rattle.scenario_text.specs.ScenarioParts.{ScenarioParts}
use Rattle.scenario_text.specs.declared.script.ScriptLine.{ScriptLine}
use Rattle.scenario_clocks.specs.StatedClocks.{scenario_clock}
use Rattle.air_log.specs.declared.entry.Entry.{Entry}
use Rattle.air_log.specs.Entries.{tunings_of}
use Rattle.air_log.specs.HearsAir.{scene_of}
use Rattle.air_log.specs.Trails.{frame_start, run_end, lines_at}
use Rattle.air_log.proofs.QuietTicks.{refined}
use Rattle.air_log.proofs.SendingsKept.{profile_lasts}
use Rattle.law_trails.proofs.SentInTrails.{sent_lasts}
use Rattle.law_safety.proofs.RunFacts.{frame_lasts, frame_is, frame_below}
use Rattle.law_one_log.proofs.SameBefore.{HeardAlike, Twins, with_lines, alike_before, agree, sent_too, same_tune}
use Rattle.host_return.specs.Probes.{Brings, Probed, probed_rank, probed_with, with_probe}

-- a node that counts as tuned for a frame counts so in both logs
module _ (p : ScenarioParts) (xs ys : List ScriptLine) (a b : List Entry) (f v rank t : ℕ)
    (same : Agree t (scene_of p.profile p.trace a) (scene_of p.profile p.trace b)) where
  abbrev own : Tuning
  own = record { rank = rank; node = v; start = frame_start p f; end = frame_start p (f + 1) }

  abbrev Tuned : ScenarioParts → List Entry → ℕ → ℕ → ℕ → Type 0
  Tuned s air w channel k = IsTuned (scene_of p.profile p.trace (with_probe s air f v rank)) w channel k

  tuned_on : (w channel k : ℕ) → k < t → Tuned (with_lines p xs) a w channel k → Tuned (with_lines p ys) b w channel k
  tuned_on w channel k early is =
      elim (in_either (tunings_of a) own is.tuning is.there) [
        | inl probe ↦ record {
          tuning = is.tuning;
          there = subst (Contains (own ∷ tunings_of b)) probe (in_head (tunings_of b) own);
          node = is.node;
          rank = is.rank;
          since = is.since;
          until = is.until;
        }
        | inr other ↦
            let was = (same.tuned w channel k early).0
            (record { tuning = is.tuning; there = other; node = is.node; rank = is.rank; since = is.since; until = is.until }) in
            record {
              tuning = was.tuning;
              there = in_tail (tunings_of b) own was.tuning was.there;
              node = was.node;
              rank = was.rank;
              since = was.since;
              until = was.until;
            }
      ]

agree_back : (p : ScenarioParts) (a b : List Entry) (t : ℕ) → Agree t (scene_of p.profile p.trace a) (scene_of p.profile p.trace b)
    → Agree t (scene_of p.profile p.trace b) (scene_of p.profile p.trace a)
agree_back p a b t same = record {
  numbers = refl;
  lines = refl;
  sendings = λ y early. ((same.sendings y early).1, (same.sendings y early).0);
  tuned = λ w channel k early. ((same.tuned w channel k early).1, (same.tuned w channel k early).0);
}

agree_probing : (p : ScenarioParts) (xs ys : List ScriptLine) (a b : List Entry) (f v rank t : ℕ)
    → Agree t (scene_of p.profile p.trace a) (scene_of p.profile p.trace b)
    → Agree t (scene_of p.profile p.trace (with_probe (with_lines p xs) a f v rank)) (scene_of p.profile p.trace (with_probe (with_lines p ys) b f v rank))
agree_probing p xs ys a b f v rank t same = record {
  numbers = refl;
  lines = refl;
  sendings = same.sendings;
  tuned = λ w channel k early. (
    tuned_on p xs ys a b f v rank t same w channel k early,
    tuned_on p ys xs b a f v rank t (agree_back p a b t same) w channel k early,
  );
}

-- two runs with the same script lines before frame g
module _ (p : ScenarioParts) (g : ℕ) (xs ys : List ScriptLine) (a b : List Entry) (twins : Twins p (scenario_clock p) (frame_start p g) xs ys a b) where
  alike_at : (f : ℕ) → f ≤ g → f ≤ p.frames → HeardAlike a b (frame_start p f)
  alike_at f soon within =
      alike_before p (scenario_clock p) (frame_start p g) xs ys a b twins (frame_start p f)
      (mul-le-mul_right p.profile.frame within) (mul-le-mul_right p.profile.frame soon)

  pub same_probe : (f v : ℕ) → f < g → f < p.frames → probed_rank (with_lines p xs) a f v ≡ probed_rank (with_lines p ys) b f v
  same_probe f v soon within =
      let some = frame_lasts (with_lines p xs) twins.first in
      let step : suc f * p.profile.frame ≤ g * p.profile.frame = mul-le-mul_right p.profile.frame soon in
      ap (probed_with f)
      (same_tune p (scenario_clock p) (frame_start p g) xs ys a b twins f v (omega (arith, some, step))
      (alike_at f (omega (arith, soon)) (omega (arith, within))))

  pub still_brings : (f v rank : ℕ) (x : Sending) → f < g → f < p.frames → Brings (with_lines p xs) a f v rank x → Brings (with_lines p ys) b f v rank x
  still_brings f v rank x soon within brings =
      let s = with_lines p xs in
      let last = sent_lasts s (scenario_clock p) a twins.of_a.trails x brings.sent in
      let some = profile_lasts p.profile twins.first.profile (length x.packet) in
      let long : x.start < x.end = omega (arith, last.1, some) in
      let until = brings.ends.until in
      let step : (f + 1) * p.profile.frame ≤ g * p.profile.frame = mul-le-mul_right p.profile.frame (omega (arith, soon)) in
      let most : (f + 1) * p.profile.frame ≤ p.frames * p.profile.frame = mul-le-mul_right p.profile.frame (omega (arith, within)) in
      let in_run : x.end ≤ run_end p = omega (arith, until, most) in
      let in_time : x.end ≤ frame_start p g = omega (arith, until, step) in
      let alike = alike_before p (scenario_clock p) (frame_start p g) xs ys a b twins x.end in_run in_time in
      let same = agree p (scenario_clock p) (frame_start p g) xs ys a b twins x.end in_run in_time alike in
      record {
        sent = sent_too p (scenario_clock p) (frame_start p g) xs ys a b twins x.end in_run in_time alike x long brings.sent;
        channel = brings.channel;
        says = brings.says;
        starts = record { since = brings.starts.since; until = brings.starts.until };
        ends = record { since = brings.ends.since; until = brings.ends.until };
        hears = (settled (scene_of p.profile p.trace (with_probe s a f v rank)) (scene_of p.profile p.trace (with_probe (with_lines p ys) b f v rank)) v x long
            (agree_probing p xs ys a b f v rank x.end same)).0 brings.hears;
      }

  pub still_probed : (f v rank : ℕ) → f < g → f < p.frames → Probed (with_lines p xs) a f v rank → Probed (with_lines p ys) b f v rank
  still_probed f v rank soon within is = record {
    probes = sym (same_probe f v soon within) ∙ is.probes;
    schedule = is.schedule;
    brings = still_brings f v rank is.schedule soon within is.brings;
  }

-- lines that are added in a frame change nothing at the ticks before it
module _ (s : ScenarioParts) (sound : IsSoundScenario s) (g : ℕ) (added : List ScriptLine) (late : (l : ScriptLine) → Contains added l → l.frame ≡ g) where
  none_in : (f : ℕ) (ls : List ScriptLine) → f < g → ((l : ScriptLine) → Contains ls l → l.frame ≡ g) → in_frame f ls ≡ []
  none_in f [] less all = refl
  none_in f (l ∷ ls) less all =
      let other : (l.frame == f) ≡ false = ne_eqb l.frame f (λ same. omega (arith, all l (in_head ls l), same, less)) in
      rw other (none_in f ls less (λ m there. all m (in_tail ls l m there)))

  own_in : (v k : ℕ) (l : ScriptLine) → ((l.node == v) && (frame_start s l.frame == k)) ≡ true → (l.frame == (k / s.profile.frame)) ≡ true
  own_in v k l is =
      let at = eqb-true (frame_start s l.frame) k (and_parts (l.node == v) (frame_start s l.frame == k) is).1 in
      let some = frame_lasts s sound in
      eq-eqb l.frame (k / s.profile.frame) (sym (frame_is s l.frame k (omega (arith, at)) (omega (arith, at, some))))

  pub lines_before : (t : ScenarioParts) → IsWithScript s added t → (v k : ℕ) → k < frame_start s g → lines_at s v k ≡ lines_at (with_lines s t.script) v k
  lines_before t is v k before =
      let f = k / s.profile.frame in
      let less : f < g = frame_below s sound g k before in
      let own : ScriptLine → Bool = λ l. (l.node == v) && (frame_start s l.frame == k) in
      let here : ScriptLine → Bool = λ l. l.frame == f in
      let same : in_frame f t.script ≡ in_frame f s.script =
      is.script.of_frame f ∙ ap (λ (ls : List ScriptLine). in_frame f s.script ++ ls) (none_in f added less late) ∙ append-nil (in_frame f s.script) in
      sym (refined own here (own_in v k) s.script)
      ∙ ap (filter own) (sym same)
      ∙ refined own here (own_in v k) t.script
