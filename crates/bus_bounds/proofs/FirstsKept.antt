-- What is found of the first rounds is so.
use Rattle.std.proofs.Common.{◌≡◌, ℕ, ◌+◌, ◌<◌, ◌≤◌, List, [], ◌∷◌, filter, fold, Bool, true, false, not, ◌&&◌, ◌==◌, nat_lt}
use Rattle.std.proofs.Common.{Some, None, Option, inl, inr, map, refl, sym, ◌∙◌, ap, arith}
use Rattle.std.specs.Prelude.{All}
use Rattle.std.specs.List.{AllByRecursion, range_with_len}
use Rattle.std.proofs.lemmas.Bool.{cases_lt, cond_both, false≢true, ltb-false, ltb-true, ne_eqb, and_right}
use Rattle.std.proofs.lemmas.List.Elements.{recursion_from_All}
use Rattle.lwb_base.specs.declared.limits.TheConstants.{QUIET_FRAMES}
use Rattle.scenario_text.specs.OverLines.{IsOverScenario}
use Rattle.scenario_text.specs.ScenarioFacts.{IsScriptLine}
use Rattle.scenario_text.specs.ScenarioParts.{ScenarioParts}
use Rattle.scenario_text.specs.declared.script.ScriptLine.{ScriptLine}
use Rattle.scenario_text.proofs.SoundOver.{over_sound}
use Rattle.bus_rules.specs.Cores.{own_rank}
use Rattle.drawn_links.specs.declared.ratio_line.RatioLine.{RatioLine}
use Rattle.law_times.specs.FirstRounds.{FirstRoundsCome}
use Rattle.law_times.specs.ScriptedPower.{BootsIn, power_after_line, power_before, power_in}
use Rattle.bus_bounds.specs.BoundFindings.{first_finding, first_findings, first_off, never_boots, verdict_of}
use Rattle.bus_bounds.specs.KeptBounds.{IsKept, IsKeptBy, IsOpen, IsOpenBy}
use Rattle.bus_bounds.specs.PowerLines.{boots_in, is_within, power_lines}
use Rattle.bus_bounds.specs.declared.breaking_line.BreakingLine.TheVariants.{Switch}
use Rattle.bus_bounds.specs.declared.finding.Finding.{Finding}
use Rattle.bus_bounds.specs.declared.finding.Reason.TheVariants.{Power, Rounds}
use Rattle.bus_bounds.specs.declared.finding.Verdict.{Verdict}
use Rattle.bus_bounds.specs.declared.finding.Verdict.TheVariants.{Broken, Holds, Open}
use Rattle.bus_bounds.specs.declared.power_line.PowerLine.{PowerLine}
use Rattle.bus_bounds.proofs.PowerSaid.{boots_back, boots_is, has_off}
use Rattle.bus_bounds.proofs.Searches.{each_kept, each_or_one, none_found, none_in_range, none_mapped, found_passes, passes_somewhere}

-- a bound is broken by a line, holds, or ends after the run
pub by_verdict : (P : Verdict → Type 0) (run : ℕ) (o : Option PowerLine) (b n : ℕ) → ((l : PowerLine) → o ≡ Some l → P (Broken Power (Switch l)))
    → (o ≡ None → b + n < run → P (Holds (b + n) n)) → (o ≡ None → run ≤ b + n → P (Open Rounds)) → P (verdict_of run o b n)
by_verdict P run (Some l) b n broken holds ends = broken l refl
by_verdict P run None b n broken holds ends =
    cond_both (nat_lt (b + n) run) (Holds (b + n) n) (Open Rounds) P (λ yes. holds refl (ltb-true (b + n) run yes))
    (λ no. ends refl (ltb-false (b + n) run no))

module _ (d : ScenarioParts) (is : IsOverScenario d) (host : ℕ) where
  abbrev ls : List PowerLine
  ls = power_lines d.script

  abbrev found : ℕ → Finding
  found b = first_finding ls d.frames host b

  abbrev goes_off : ℕ → PowerLine → Bool
  goes_off b l = (l.node == host) && not l.on && is_within b (b + QUIET_FRAMES) l

  one_kept : FirstRoundsCome QUIET_FRAMES → own_rank host d.hosts ≡ Some 0 → (b : ℕ) → boots_in ls host b ≡ true → IsKept d (found b)
  one_kept come own b boots =
      by_verdict (IsKeptBy d (found b)) d.frames (first_off ls host b (b + QUIET_FRAMES)) b QUIET_FRAMES (λ l broken. tt)
      (λ none before. come d is host b (record {
        first = own;
        boots = boots_is d (over_sound d is).script_ascends b host boots;
        stays = has_off d b (b + QUIET_FRAMES) host ∙ none_found (goes_off b) ls none;
      }))
      (λ none after. tt)

  one_open : (ratios : List RatioLine) (b : ℕ) → boots_in ls host b ≡ true → IsOpen d ratios (found b)
  one_open ratios b boots =
      by_verdict (IsOpenBy d ratios (found b)) d.frames (first_off ls host b (b + QUIET_FRAMES)) b QUIET_FRAMES
      (λ l broken begins. false≢true (sym begins.stays ∙ has_off d b (b + QUIET_FRAMES) host
      ∙ passes_somewhere (goes_off b) (goes_off b) ls l broken (found_passes (goes_off b) ls l broken)))
      (λ none before. tt)
      (λ none after. after)

  -- past the run nobody boots
  no_lines : (b : ℕ) (xs : List ScriptLine) → AllByRecursion (IsScriptLine d) xs → d.frames ≤ b
      → filter (λ (l : ScriptLine). (l.node == host) && (l.frame == b)) xs ≡ []
  no_lines b [] all past = refl
  no_lines b (x ∷ xs) all past =
      let early = all.0.in_run in
      let other : ((x.node == host) && (x.frame == b)) ≡ false = and_right (x.node == host) (x.frame == b)
      (ne_eqb x.frame b (λ same. omega (arith, early, past, same))) in
      rw other (no_lines b xs all.1 past)

  pub none_past : (b : ℕ) → d.frames ≤ b → BootsIn d b host → ⊥
  unfolding power_before
  none_past b past boots =
      let none = no_lines b d.script (recursion_from_All (IsScriptLine d) d.script (over_sound d is).script) past in
      let same : (power_in d b host).1 ≡ (power_before d b host).1 =
      ap (λ (xs : List ScriptLine). (fold power_after_line (power_before d b host) xs).1) none in
      let more = boots.boots in
      omega (arith, same, more)

  never : map found (filter (boots_in ls host) (range_with_len 0 d.frames)) ≡ [] → (ratios : List RatioLine) → IsOpen d ratios (never_boots host)
  never none ratios b boots =
      let nobody = none_mapped found (filter (boots_in ls host) (range_with_len 0 d.frames)) none in
      elim (cases_lt b d.frames) [
        | inl within ↦ boots_back d (over_sound d is).script_ascends b host
            (none_in_range (boots_in ls host) 0 d.frames nobody b (omega arith) (omega (arith, within))) boots
        | inr past ↦ none_past b past boots
      ]

  pub firsts_kept : FirstRoundsCome QUIET_FRAMES → own_rank host d.hosts ≡ Some 0 → All (IsKept d) (first_findings ls d.frames host)
  firsts_kept come own =
      each_or_one (IsKept d) (never_boots host) (map found (filter (boots_in ls host) (range_with_len 0 d.frames))) (λ none. tt)
      (each_kept (IsKept d) (boots_in ls host) found (range_with_len 0 d.frames) (one_kept come own))

  pub firsts_open : (ratios : List RatioLine) → All (IsOpen d ratios) (first_findings ls d.frames host)
  firsts_open ratios =
      each_or_one (IsOpen d ratios) (never_boots host) (map found (filter (boots_in ls host) (range_with_len 0 d.frames))) (λ none. never none ratios)
      (each_kept (IsOpen d ratios) (boots_in ls host) found (range_with_len 0 d.frames) (one_open ratios))
