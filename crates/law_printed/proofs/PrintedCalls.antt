-- From the clauses of `top` to what is printed of the canonical text of a scenario.
use Rattle.std.proofs.Common.{◌≡◌, ℕ, ◌≤◌, ◌⊎◌, inl, inr, List, [], ◌∷◌, ◌++◌, true, false, Option, Some, None, Result, Ok, Err, length, map, get_or, codes}
use Rattle.std.proofs.Common.{decimal, String, string_bytes, refl, sym, ◌∙◌, ap, subst, arith}
use Rattle.std.proofs.lemmas.List.{append-nil}
use Rattle.std.specs.Result.{result_err}
use Rattle.std.specs.List.{slice_index}
use Rattle.std.specs.declared.alloc.Global.{Global}
use Rattle.lwb_base.specs.declared.read.TheConstants.{INPUT_LIMIT}
use Rattle.command_line.specs.Streams.{IsInput, IsRead, Written}
use Rattle.scenario_text.specs.Canonical.{canonical}
use Rattle.scenario_text.specs.ScenarioGrammar.{scenario_of}
use Rattle.scenario_text.specs.ScenarioParts.{ScenarioParts}
use Rattle.scenario_text.proofs.Horizons.{said_to_run}
use Rattle.scenario_text.proofs.OrderedParts.{said_in_order}
use Rattle.scenario_clocks.specs.StatedClocks.{scenario_clock}
use Rattle.bus_terms.specs.Bus.{bus_deliveries, bus_drops}
use Rattle.air_log.specs.declared.entry.Entry.{Entry}
use Rattle.run_commands.specs.CommandLine.{ReportDue, IsComplete}
use Rattle.run_commands.specs.Commands.{Asks, Spell, fault_of, reads}
use Rattle.run_commands.specs.Reports.{IsReport, OfScenario}
use Rattle.run_report.specs.RunsTold.{IsOfRun, Telling}
use Rattle.run_report.specs.RunReport.{log_report, run_report}
use Rattle.run_commands.specs.declared.command.Command.{Command}
use Rattle.run_commands.specs.declared.command.Command.TheVariants.{Flood, Run, Log, Bus, Demo, Check, Deadlines, Times, Return}
use Rattle.law_printed.specs.Printed.{CanBeRun, PrintsDeliveries, PrintsSafeLog, lines_with}
use Rattle.law_printed.proofs.PrintedReports.{log_sends, run_delivers}

-- what was read is what the source had
all_read : (old new : Option (List ℕ)) (b bytes : List ℕ) → old ≡ Some bytes → IsRead true old new b → b ≡ bytes
all_read None new b bytes had read = absurd (none_some had)
  where
    none_some : ◌≡◌ {A = Option (List ℕ)} None (Some bytes) → ⊥
    none_some same = cc
all_read (Some xs) None b bytes had read = absurd read.0
all_read (Some xs) (Some ys) b bytes had read = sym (read.0 ∙ ap (λ (l : List ℕ). b ++ l) read.1 ∙ append-nil b) ∙ one_value had
  where
    one_value : ◌≡◌ {A = Option (List ℕ)} (Some xs) (Some bytes) → xs ≡ bytes
    one_value same = cc

-- one word is no other, by a letter of it
same_letter : (i : ℕ) (words : List (List ℕ)) (a b : List ℕ) → words ≡ a ∷ [] → words ≡ b ∷ [] → slice_index a i ≡ slice_index b i
same_letter i words a b is also = ap (λ (ws : List (List ℕ)). slice_index (get_or ws 0 []) i) (sym is ∙ also)

-- what a text says, it says alone
one_said : {X E : Type 0} (r : Result X E) (x y : X) → r ≡ Ok x → r ≡ Ok y → x ≡ y
one_said r x y is also = cc

pub said : (s : ScenarioParts) → CanBeRun s → scenario_of (canonical s) ≡ Ok s
said s can = (said_to_run (canonical s) s).1 (said_in_order s can.in_order, can.few, can.few_lines)

module _ (s : ScenarioParts) (can : CanBeRun s) (words : List (String Global)) (old new : Option (List ℕ)) (had : old ≡ Some (canonical s))
    (air : List Entry) (text : List ℕ) where
  of_scenario : (told : Telling) (b : List ℕ) → IsRead true old new b → OfScenario b (λ x. IsOfRun told x air text) → IsOfRun told s air text
  of_scenario told b read report =
      let here : scenario_of b ≡ Ok s = ap scenario_of (all_read old new b (canonical s) had read) ∙ said s can in
      subst (λ (x : ScenarioParts). IsOfRun told x air text) (one_said (scenario_of b) report.0 s report.1 here) report.2

  abbrev Due : Telling → Command → Type 0
  Due told c = (b : List ℕ) → Asks words c → IsRead (reads c) old new b → IsReport c b air text → IsOfRun told s air text

  run_due : map string_bytes words ≡ codes "run" ∷ [] → (c : Command) → Due run_report c
  run_due is Run b asks read report = of_scenario run_report b read report
  run_due is Flood b asks read report = absurd (omega (arith, same_letter 0 (map string_bytes words) (codes "run") (codes "flood") is asks))
  run_due is Log b asks read report = absurd (omega (arith, same_letter 0 (map string_bytes words) (codes "run") (codes "log") is asks))
  run_due is Bus b asks read report = absurd (omega (arith, same_letter 0 (map string_bytes words) (codes "run") (codes "bus") is asks))
  run_due is (Demo seed nodes frames) b asks read report = absurd (omega (arith, ap length (sym is ∙ asks.0)))
  run_due is Check b asks read report = absurd (omega (arith, same_letter 0 (map string_bytes words) (codes "run") (codes "check") is asks))
  run_due is Deadlines b asks read report = absurd (omega (arith, same_letter 0 (map string_bytes words) (codes "run") (codes "deadlines") is asks))
  run_due is Times b asks read report = absurd (omega (arith, same_letter 0 (map string_bytes words) (codes "run") (codes "times") is asks))
  run_due is Return b asks read report = absurd (omega (arith, same_letter 1 (map string_bytes words) (codes "run") (codes "return") is asks))

  log_due : map string_bytes words ≡ codes "log" ∷ [] → (c : Command) → Due log_report c
  log_due is Log b asks read report = of_scenario log_report b read report
  log_due is Flood b asks read report = absurd (omega (arith, same_letter 0 (map string_bytes words) (codes "log") (codes "flood") is asks))
  log_due is Run b asks read report = absurd (omega (arith, same_letter 0 (map string_bytes words) (codes "log") (codes "run") is asks))
  log_due is Bus b asks read report = absurd (omega (arith, same_letter 0 (map string_bytes words) (codes "log") (codes "bus") is asks))
  log_due is (Demo seed nodes frames) b asks read report = absurd (omega (arith, ap length (sym is ∙ asks.0)))
  log_due is Check b asks read report = absurd (omega (arith, same_letter 0 (map string_bytes words) (codes "log") (codes "check") is asks))
  log_due is Deadlines b asks read report = absurd (omega (arith, same_letter 0 (map string_bytes words) (codes "log") (codes "deadlines") is asks))
  log_due is Times b asks read report = absurd (omega (arith, same_letter 0 (map string_bytes words) (codes "log") (codes "times") is asks))
  log_due is Return b asks read report = absurd (omega (arith, same_letter 0 (map string_bytes words) (codes "log") (codes "return") is asks))

  prints_deliveries : map string_bytes words ≡ codes "run" ∷ [] → ReportDue words old new air text → PrintsDeliveries s text
  prints_deliveries is due =
      let of = run_due is due.0 due.1 due.2 due.3 due.4 in
      ap (lines_with (codes "deliver")) of.is ∙ run_delivers (bus_deliveries s) (bus_drops s) s (scenario_clock s) air

  prints_safe_log : map string_bytes words ≡ codes "log" ∷ [] → ReportDue words old new air text → PrintsSafeLog s text
  prints_safe_log is due =
      let of = log_due is due.0 due.1 due.2 due.3 due.4 in
      let safe = of.bus.safe in
      record {
        log = air;
        is = ap (lines_with (codes "sent")) of.is ∙ log_sends (bus_deliveries s) (bus_drops s) s (scenario_clock s) air;
        within_one_frame = safe.within_one_frame;
        no_overlap = safe.no_overlap;
        same_but_for_counter = safe.same_but_for_counter;
        one_initiator = safe.one_initiator;
      }

module _ (s : ScenarioParts) (can : CanBeRun s) (words : List (String Global)) (old new : Option (List ℕ)) (had : old ≡ Some (canonical s))
    (air : List Entry) (held after : Option (List ℕ)) (whole : Written held after (ReportDue words old new air)) where
  pub run_prints : map string_bytes words ≡ codes "run" ∷ [] → Written held after (PrintsDeliveries s)
  run_prints is = (whole.0, prints_deliveries s can words old new had air whole.0 is whole.1, whole.2)

  pub log_prints : map string_bytes words ≡ codes "log" ∷ [] → Written held after (PrintsSafeLog s)
  log_prints is = (whole.0, prints_safe_log s can words old new had air whole.0 is whole.1, whole.2)

-- no other status than 0 and 5 is left
pub run_ends : (s : ScenarioParts) → CanBeRun s → length (canonical s) ≤ INPUT_LIMIT → (status : ℕ) → IsComplete Run (canonical s) status
    → (status ≡ 0) ⊎ (status ≡ 5)
run_ends s can short status due = due.accepted (ap result_err (said s can)) short

pub log_ends : (s : ScenarioParts) → CanBeRun s → length (canonical s) ≤ INPUT_LIMIT → (status : ℕ) → IsComplete Log (canonical s) status
    → (status ≡ 0) ⊎ (status ≡ 5)
log_ends s can short status due = due.accepted (ap result_err (said s can)) short
