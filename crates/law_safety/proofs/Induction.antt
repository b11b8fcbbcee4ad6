-- The rows suffice: what each step keeps holds before each tick of a run.
use Rattle.std.proofs.Common.{ℕ, ◌≤◌, List, refl, arith}
use Rattle.scenario_text.specs.ScenarioParts.{ScenarioParts}
use Rattle.air_log.specs.declared.entry.Entry.{Entry}
use Rattle.air_log.specs.Devices.{at_rest}
use Rattle.air_log.specs.Lawful.{heard_by}
use Rattle.air_log.specs.Trails.{run_end}
use Rattle.lwb_base.proofs.Elements.{not_in_none}
use Rattle.law_trails.specs.Lives.{newborn}
use Rattle.law_trails.specs.Phases.{Lines}
use Rattle.law_trails.specs.Walks.{Keeps, HoldAll}
use Rattle.law_trails.proofs.LifeSteps.{born_quiet}
use Rattle.law_trails.proofs.SentInTrails.{sent_below, sent_known}
use Rattle.law_trails.proofs.WalkOfRun.{holds_in_run}
use Rattle.law_safety.specs.Invariant.{Invariant, IsObedientRun}
use Rattle.law_safety.proofs.RunFacts.{host_known}
use Rattle.law_safety.specs.Rows.{IsFine, AtTick, AllRows, RowsSuffice}

-- before the first tick
fine_at_rest : (s : ScenarioParts) (clocks : ℕ → ℕ → ℕ) (air : List Entry) (v : ℕ) → IsFine s clocks air v 0 Lines at_rest
fine_at_rest s clocks air v = record {
  node = record {
    by_power = (
      record { alarm = refl; radio = refl; still = record { ordered = refl; sending = refl } },
      λ f x y begun other same. absurd (not_in_none x begun.sent),
    );
  };
  host = λ rank is. record {
    life = newborn;
    quiet = born_quiet rank;
    lives = (refl, omega arith);
    opened = λ o there. absurd (not_in_none o there);
    closed = λ c there. absurd (not_in_none c there);
    sent = λ x y there first says. absurd (not_in_none x there);
    ordered = tt;
  };
  sent = λ x there. absurd (not_in_none x there);
  before = λ x there. absurd (not_in_none x there);
}

module _ (s : ScenarioParts) (clocks : ℕ → ℕ → ℕ) (air : List Entry) (run : IsObedientRun s clocks air) where
  -- what holds of all devices is the invariant
  of_all : (t : ℕ) → t ≤ run_end s → HoldAll (IsFine s clocks air) s clocks (heard_by air) t → Invariant s clocks air t
  of_all t within all =
      let follows = run.heedful.trails in
      record {
        nodes = λ v known. (all v known).node;
        hosts = λ rank v is. (all v (host_known s run.driven.sound rank v is)).host rank is;
        sendings = λ x there before.
            let known = sent_known s clocks air follows x there in
            (all x.node known).sent x ((sent_below s clocks air follows x.node known t within x).0 (record { there = there; node = refl; below = before }));
      }

  -- with the rows every step keeps it
  keeps : AllRows → (v t : ℕ) → AtTick s clocks air v t → Keeps (IsFine s clocks air v) s v (clocks v) (heard_by air v) t
  keeps rows v t at = record {
    boot = rows.boot s clocks air v t at;
    off = rows.off s clocks air v t at;
    streaming = rows.streaming s clocks air v t at;
    joining = rows.joining s clocks air v t at;
    hearing = rows.hearing s clocks air v t at;
    sent = rows.sent s clocks air v t at;
    late_sent = rows.late_sent s clocks air v t at;
    sent_elsewhere = rows.sent_elsewhere s clocks air v t at;
    frame_alarm = rows.frame_alarm s clocks air v t at;
    opening = rows.opening s clocks air v t at;
    closing = rows.closing s clocks air v t at;
    alarm_elsewhere = rows.alarm_elsewhere s clocks air v t at;
    beginning = rows.beginning s clocks air v t at;
    missed_start = rows.missed_start s clocks air v t at;
    onwards = rows.onwards s clocks air v t at;
    passing = rows.passing s clocks air v t at;
  }

  holds : AllRows → (t : ℕ) → t ≤ run_end s → Invariant s clocks air t
  holds rows t within =
      of_all t within
      (holds_in_run (IsFine s clocks air) s clocks (heard_by air) run.driven.sound run.driven.drift
      (λ v known. fine_at_rest s clocks air v)
      (λ u in_run all v known. keeps rows v u (record { run = run; known = known; in_run = in_run; before = of_all u (omega (arith, in_run)) all }))
      t within)

pub rows_suffice : RowsSuffice
rows_suffice rows s clocks air run t within = holds s clocks air run rows t within
