-- Along a run, who has begun a schedule's flood hosts as long as it does not go off.
use Rattle.std.proofs.Common.{◌≡◌, ℕ, zero, suc, ◌<◌, ◌≤◌, List, true, arith}
use Rattle.radio_model.specs.declared.sending.Sending.{Sending}
use Rattle.scenario_text.specs.ScenarioParts.{ScenarioParts}
use Rattle.scenario_text.specs.FloodParts.{knows}
use Rattle.air_log.specs.declared.entry.Entry.{Entry}
use Rattle.air_log.specs.Lawful.{heard_by}
use Rattle.air_log.specs.Trails.{run_end, before_tick}
use Rattle.lwb_base.proofs.Elements.{not_in_none}
use Rattle.law_trails.specs.Phases.{Lines, Start, device_at}
use Rattle.law_trails.specs.TrailLinks.{device_in}
use Rattle.law_trails.proofs.WalkOfRun.{holds_in_tick}
use Rattle.law_trails.proofs.SentInTrails.{sent_below}
use Rattle.law_safety.specs.Invariant.{Invariant, IsObedientRun}
use Rattle.law_safety.specs.Rows.{AtTick, IsFine}
use Rattle.law_safety.proofs.InvariantHolds.{all_rows, holds_throughout}
use Rattle.bus_time.proofs.HostingWalk.{All, IsHosting, keeps_all}

module _ (s : ScenarioParts) (clocks : ℕ → ℕ → ℕ) (air : List Entry) (v : ℕ) (run : IsObedientRun s clocks air) (known : knows s.nodes v ≡ true) where
  at_tick : (t : ℕ) → t < run_end s → AtTick s clocks air v t
  at_tick t in_run = record { run = run; known = known; in_run = in_run; before = holds_throughout s clocks air run t (omega (arith, in_run)) }

  fine_before : (t : ℕ) → t ≤ run_end s → IsFine s clocks air v t Lines (device_in s clocks air v t)
  fine_before t within =
      let inv : Invariant s clocks air t = holds_throughout s clocks air run t within in
      let sent = λ (x : Sending). sent_below s clocks air run.heedful.trails v known t within x in
      record {
        node = inv.nodes v known;
        host = λ rank is. inv.hosts rank v is;
        sent = λ x in_made. (let b = (sent x).1 in_made in inv.sendings x b.there b.below);
        before = λ x in_made. ((sent x).1 in_made).below;
      }

  pub hosting_before : (t : ℕ) → t ≤ run_end s → IsHosting s clocks air v t (device_in s clocks air v t)
  unfolding before_tick
  hosting_before zero within = record {
    grows = λ x there. there;
    on = λ x there begins stays. absurd (not_in_none x there);
    own = λ x there host. absurd (not_in_none x there);
  }
  hosting_before (suc t) within =
      let in_run : t < run_end s = omega (arith, within) in
      (holds_in_tick (All s clocks air v) s v (clocks v) (heard_by air v) t run.driven.sound (run.driven.drift v known) in_run
      (keeps_all s clocks air v t (at_tick t in_run) all_rows)
      (fine_before t (omega (arith, in_run)), hosting_before t (omega (arith, in_run)))).1.1

  -- where what is ordered starts
  pub hosting_then : (t : ℕ) → t < run_end s → IsHosting s clocks air v t (device_at s v (clocks v) (heard_by air v) t Start)
  hosting_then t in_run =
      ((holds_in_tick (All s clocks air v) s v (clocks v) (heard_by air v) t run.driven.sound (run.driven.drift v known) in_run
      (keeps_all s clocks air v t (at_tick t in_run) all_rows)
      (fine_before t (omega (arith, in_run)), hosting_before t (omega (arith, in_run)))).0 Start).1
