-- What is found of each bound that holds whatever is lost, by the power lines of a script.
use Rattle.std.specs.Prelude.{ℕ, ◌+◌, List, [], ◌∷◌, ◌++◌, Bool, not, ◌&&◌, ◌==◌, nat_lt, if◌then◌else◌, Option, Some, None, find, filter, length, map}
use Rattle.std.specs.Prelude.{flat_map, reverse, take}
use Rattle.std.specs.List.{range_with_len}
use Rattle.lwb_base.specs.declared.limits.TheConstants.{QUIET_FRAMES}
use Rattle.scenario_text.specs.ScenarioParts.{ScenarioParts}
use Rattle.bus_terms.specs.Flooding.{has}
use Rattle.law_times.specs.Failovers.{failover_bound}
use Rattle.bus_bounds.specs.PowerLines.{boots_in, is_on_before, is_within, last_line, power_lines}
use Rattle.bus_bounds.specs.declared.breaking_line.BreakingLine.TheVariants.{Switch}
use Rattle.bus_bounds.specs.declared.finding.Bound.TheVariants.{First, Failover}
use Rattle.bus_bounds.specs.declared.finding.Finding.{Finding}
use Rattle.bus_bounds.specs.declared.finding.Reason.TheVariants.{Boots, Power, Rounds}
use Rattle.bus_bounds.specs.declared.finding.Verdict.{Verdict}
use Rattle.bus_bounds.specs.declared.finding.Verdict.TheVariants.{Broken, Holds, Open}
use Rattle.bus_bounds.specs.declared.power_line.PowerLine.{PowerLine}

-- a bound of this number of frames, counted from this frame: open by a line that breaks it, or where the run ends by then
abbrev pub verdict_of : ℕ → Option PowerLine → ℕ → ℕ → Verdict
verdict_of run (Some l) frame frames = Broken Power (Switch l)
verdict_of run None frame frames = if nat_lt (frame + frames) run then Holds (frame + frames) frames else Open Rounds

-- the first line by which v goes off in a frame after b, up to frame e
abbrev pub first_off : List PowerLine → ℕ → ℕ → ℕ → Option PowerLine
first_off ls v b e = find (λ l. (l.node == v) && not l.on && is_within b e l) ls

-- a boot of the host of rank 0
abbrev pub first_finding : List PowerLine → ℕ → ℕ → ℕ → Finding
first_finding ls run host b = record {
  bound = First;
  node = host;
  frame = Some b;
  verdict = verdict_of run (first_off ls host b (b + QUIET_FRAMES)) b QUIET_FRAMES;
}

abbrev pub never_boots : ℕ → Finding
never_boots host = record { bound = First; node = host; frame = None; verdict = Open Boots }

-- these, or that there are none
abbrev pub or_one : {A : Type 0} → A → List A → List A
or_one a [] = a ∷ []
or_one a (x ∷ xs) = x ∷ xs

-- each frame of a run in which that host boots and stays on
abbrev pub first_findings : List PowerLine → ℕ → ℕ → List Finding
first_findings ls run host = or_one (never_boots host) (map (first_finding ls run host) (filter (boots_in ls host) (range_with_len 0 run)))

-- another host than this one
abbrev pub is_other : List ℕ → ℕ → ℕ → Bool
is_other hosts host v = has hosts v && not (v == host)

-- the last line by which another host goes off
abbrev pub last_off : List PowerLine → List ℕ → ℕ → Option PowerLine
last_off ls hosts host = find (λ l. is_other hosts host l.node && not l.on) (reverse ls)

-- after the lines of frame b it is not as it is where this host alone is on
abbrev pub stands_against : List PowerLine → ℕ → ℕ → ℕ → Bool
stands_against ls host b v = if v == host then not (is_on_before ls v (b + 1)) else is_on_before ls v (b + 1)

-- this host goes off by the line, or another comes on
abbrev pub turns_against : List ℕ → ℕ → PowerLine → Bool
turns_against hosts host l = if l.node == host then not l.on else has hosts l.node && l.on

-- of a host that stands against it, by its last line, if it has one
abbrev pub against_verdict : Option PowerLine → Verdict
against_verdict None = Open Power
against_verdict (Some l) = Broken Power (Switch l)

-- whether a host alone is on from frame b to frame e: the line by which a host stands against it in b, or else the first that turns it
abbrev pub alone_verdict : List PowerLine → List ℕ → ℕ → ℕ → ℕ → ℕ → Option ℕ → Verdict
alone_verdict ls hosts run host b frames (Some v) = against_verdict (last_line ls v (b + 1))
alone_verdict ls hosts run host b frames None = verdict_of run (find (λ l. turns_against hosts host l && is_within b (b + frames) l) ls) b frames

-- counted from the last frame in which another host goes off
abbrev pub failover_verdict : List PowerLine → List ℕ → ℕ → ℕ → Option PowerLine → Verdict
failover_verdict ls hosts run host None = Open Power
failover_verdict ls hosts run host (Some l) =
    alone_verdict ls hosts run host l.frame (failover_bound (length hosts)) (find (stands_against ls host l.frame) hosts)

abbrev pub frame_of : Option PowerLine → Option ℕ
frame_of None = None
frame_of (Some l) = Some l.frame

abbrev pub failover_finding : List PowerLine → List ℕ → ℕ → ℕ → Finding
failover_finding ls hosts run host = record {
  bound = Failover;
  node = host;
  frame = frame_of (last_off ls hosts host);
  verdict = failover_verdict ls hosts run host (last_off ls hosts host);
}

-- the boots of the host of rank 0, and each host by rank
abbrev pub findings_of : ScenarioParts → List Finding
findings_of s =
    let ls = power_lines s.script in
    flat_map (first_findings ls s.frames) (take 1 s.hosts) ++ map (failover_finding ls s.hosts s.frames) s.hosts
