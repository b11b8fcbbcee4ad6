-- A call of `top`.
use Rattle.std.specs.Prelude.{◌≡◌, ◌≢◌, ◌≤◌, ℕ, List, [], String}
use Rattle.std.specs.declared.alloc.Global.{Global}
use Rattle.lwb_base.specs.Causes.{Rose}
use Rattle.air_log.specs.declared.entry.Entry.{Entry}
use Rattle.run_commands.specs.Commands.{Asks, IsCommand, IsReading, reads}
use Rattle.command_line.specs.ProcessRuns.{ProcessStreams}
use Rattle.command_line.specs.Streams.{IsInput, PartRead, Written, PartWritten}
use Rattle.run_commands.specs.CommandLine.{ReportDue, FaultDue, UsageDue, SomeDue, IsComplete}
use Rattle.run_commands.specs.declared.command.Command.{Command}

-- a call of `top`: each clause of its contract, by the same name
pub record IsTopCall {S K : Type 0} (e : ProcessStreams S K) (words : List (String Global)) (source source_after : S) (sink sink_after : K)
    (status : ℕ) (air : List Entry) : Type 0 where
  pub known : status ≤ 5
  pub report : status ≡ 0 → Written (e.held sink) (e.held sink_after) (ReportDue words (e.left source) (e.left source_after) air)
  pub fault : status ≡ 1 → Written (e.held sink) (e.held sink_after) (FaultDue words (e.left source) (e.left source_after))
  pub usage : status ≡ 2 → Written (e.held sink) (e.held sink_after) (UsageDue words)
  pub read_fault : status ≡ 3 → IsReading words × Rose (e.read_faults source) (e.read_faults source_after)
      × PartRead (e.left source) (e.left source_after) × (sink_after ≡ sink)
  pub write_fault : status ≡ 4 → Rose (e.write_faults sink) (e.write_faults sink_after)
      × PartWritten (e.held sink) (e.held sink_after) (SomeDue words (e.left source) (e.left source_after) air)
  pub memory : status ≡ 5 → IsCommand words × PartRead (e.left source) (e.left source_after) × (sink_after ≡ sink)
  pub no_log : status ≢ 0 → status ≢ 4 → air ≡ []
  pub source_later : e.read_faults source ≤ e.read_faults source_after
  pub sink_later : e.write_faults sink ≤ e.write_faults sink_after
  pub complete : (c : Command) → Asks words c → (Rose (e.read_faults source) (e.read_faults source_after) → ⊥)
      → (Rose (e.write_faults sink) (e.write_faults sink_after) → ⊥)
      → (b : List ℕ) → IsInput (reads c) (e.left source) b → IsComplete c b status
  pub complete_usage : (IsCommand words → ⊥) → (Rose (e.write_faults sink) (e.write_faults sink_after) → ⊥) → status ≡ 2
  pub untouched : (IsReading words → ⊥) → source_after ≡ source

-- a call of `top` with some log
abbrev pub CallsTop : {S K : Type 0} (e : ProcessStreams S K) → S → S → K → K → List (String Global) → ℕ → Type 0
CallsTop e source source_after sink sink_after words status = (air : List Entry) × IsTopCall e words source source_after sink sink_after status air
