-- A verdict on a node that joins, by what it was made of.
use Rattle.std.proofs.Common.{◌≡◌, ℕ, ◌+◌, ◌≤◌, List, Bool, true, false, nat_lt, if◌then◌else◌, is_none}
use Rattle.std.proofs.Common.{Option, Some, None, option_map, refl, ap}
use Rattle.std.proofs.lemmas.Bool.{and_from, ltb-false}
use Rattle.lwb_base.specs.declared.limits.TheConstants.{QUIET_FRAMES}
use Rattle.scenario_text.specs.ScenarioParts.{ScenarioParts}
use Rattle.bus_terms.specs.FloodOfText.{ids}
use Rattle.drawn_links.specs.declared.ratio_line.RatioLine.{RatioLine}
use Rattle.bus_bounds.specs.BoundFindings.{against_verdict, first_off}
use Rattle.bus_bounds.specs.JoinFindings.{JOIN_FRAMES, boots_by, is_reached, is_up, loss_in, nodes_up, power_verdict, ratio_line, round_verdict, unless_broken}
use Rattle.bus_bounds.specs.PowerLines.{last_line, power_lines}
use Rattle.bus_bounds.specs.declared.breaking_line.BreakingLine.{BreakingLine}
use Rattle.bus_bounds.specs.declared.breaking_line.BreakingLine.TheVariants.{Rated, Switch}
use Rattle.bus_bounds.specs.declared.finding.Reason.TheVariants.{Loss, Power, Ratio, Reach, Rounds}
use Rattle.bus_bounds.specs.declared.finding.Verdict.{Verdict}
use Rattle.bus_bounds.specs.declared.finding.Verdict.TheVariants.{Broken, Holds, Open}
use Rattle.bus_bounds.specs.declared.power_line.PowerLine.{PowerLine}

module _ (ls : List PowerLine) (run host b v : ℕ) where
  abbrev goes : ℕ → Option PowerLine
  goes w = first_off ls w b (b + JOIN_FRAMES)

  up : goes v ≡ None → boots_by ls b v ≡ true → is_up ls b v ≡ true
  up none boots = and_from (is_none (goes v)) (boots_by ls b v) (ap is_none none) boots

  -- of a node that is not up, what is said of the round does not matter
  pub power_same : (x y : Verdict) → (is_up ls b v ≡ true → x ≡ y) → power_verdict ls run host b v x ≡ power_verdict ls run host b v y
  power_same x y same = by (goes host) (goes v) refl (boots_by ls b v) refl (nat_lt (b + JOIN_FRAMES) run)
    where
      by : (h o : Option PowerLine) → goes v ≡ o → (t : Bool) → boots_by ls b v ≡ t → (r : Bool)
          → unless_broken Power (option_map Switch h) (unless_broken Power (option_map Switch o)
          (if t then (if r then x else Open Rounds) else against_verdict (last_line ls v (b + JOIN_FRAMES))))
          ≡ unless_broken Power (option_map Switch h) (unless_broken Power (option_map Switch o)
          (if t then (if r then y else Open Rounds) else against_verdict (last_line ls v (b + JOIN_FRAMES))))
      by (Some l) o off t boots r = refl
      by None (Some l) off t boots r = refl
      by None None off false boots r = refl
      by None None off true boots false = refl
      by None None off true boots true = same (up off boots)

  pub by_power : (P : Verdict → Type 0) (x : Verdict) → ((l : PowerLine) → goes host ≡ Some l → P (Broken Power (Switch l)))
      → ((l : PowerLine) → goes v ≡ Some l → P (Broken Power (Switch l))) → (boots_by ls b v ≡ false → (o : Option PowerLine) → P (against_verdict o))
      → (run ≤ b + JOIN_FRAMES → P (Open Rounds)) → (goes host ≡ None → is_up ls b v ≡ true → P x) → P (power_verdict ls run host b v x)
  by_power P x host_off own_off never ends on =
      by (goes host) refl (goes v) refl (boots_by ls b v) refl (nat_lt (b + JOIN_FRAMES) run) refl
    where
      by : (h : Option PowerLine) → goes host ≡ h → (o : Option PowerLine) → goes v ≡ o → (t : Bool) → boots_by ls b v ≡ t → (r : Bool)
          → nat_lt (b + JOIN_FRAMES) run ≡ r
          → P (unless_broken Power (option_map Switch h) (unless_broken Power (option_map Switch o)
          (if t then (if r then x else Open Rounds) else against_verdict (last_line ls v (b + JOIN_FRAMES)))))
      by (Some l) led o off t boots r early = host_off l led
      by None led (Some l) off t boots r early = own_off l off
      by None led None off false boots r early = never boots (last_line ls v (b + JOIN_FRAMES))
      by None led None off true boots false early = ends (ltb-false (b + JOIN_FRAMES) run early)
      by None led None off true boots true early = on led (up off boots)

module _ (s : ScenarioParts) (ratios : List RatioLine) (host b : ℕ) where
  abbrev first : ℕ
  first = b + QUIET_FRAMES

  abbrev reaches : ℕ → Bool
  reaches v = is_reached s (nodes_up (power_lines s.script) (ids s.nodes) host b) host v

  pub by_round : (P : Verdict → Type 0) (frames v : ℕ) → ((l : BreakingLine) → loss_in s first ≡ Some l → P (Broken Loss l))
      → ((l : RatioLine) → ratio_line s ratios first ≡ Some l → P (Broken Ratio (Rated l)))
      → (loss_in s first ≡ None → ratio_line s ratios first ≡ None → reaches v ≡ true → P (Holds (b + JOIN_FRAMES) frames))
      → (reaches v ≡ false → P (Open Reach)) → P (round_verdict s ratios host b frames v)
  by_round P frames v lost below holds far = by (loss_in s first) refl (ratio_line s ratios first) refl (reaches v) refl
    where
      by : (l : Option BreakingLine) → loss_in s first ≡ l → (r : Option RatioLine) → ratio_line s ratios first ≡ r → (t : Bool) → reaches v ≡ t
          → P (unless_broken Loss l (unless_broken Ratio (option_map Rated r) (if t then Holds (b + JOIN_FRAMES) frames else Open Reach)))
      by (Some l) loses r rated t there = lost l loses
      by None loses (Some r) rated t there = below r rated
      by None loses None rated true there = holds loses rated there
      by None loses None rated false there = far there
